-- A trimmed proof that is trimmed again stays as it is.
use Rattle.std.proofs.Common.{◌≡◌, ℕ, zero, suc, ◌+◌, ◌<◌, ◌≤◌, Bool, true, false, cond, List, [], ◌∷◌, ◌++◌, length, map, take, Option, Some, None, refl, sym, ap, ◌∙◌, subst, inl, inr, arith, length-append, append_assoc}
use Rattle.std.specs.Prelude.{ℤ, pos, filter, slice_get, count_by, replicate}
use Rattle.std.specs.List.{enumerate_from, Contains}
use Rattle.std.specs.Option.{option_map, unwrap_or}
use Rattle.std.proofs.lemmas.Bool.Decides.{eqb_tells}
use Rattle.std.proofs.lemmas.List.{length-map, length-replicate, get_or-replicate}
use Rattle.std.proofs.lemmas.List.Sums.{sum_by-cons}
use Rattle.std.proofs.lemmas.Option.{same_Some, slice_get_within}
use Rattle.lls_lit.specs.Formula.{Clause, Cnf}
use Rattle.lls_prooflog.specs.declared.step.Step.{Step}
use Rattle.lls_prooflog.specs.declared.step.Step.TheVariants.{Add}
use Rattle.lls_lrat.specs.Looked.{looked_at}
use Rattle.lls_trim.specs.declared.source.Source.{Source}
use Rattle.lls_trim.specs.declared.source.Source.TheVariants.{Given, Added}
use Rattle.lls_trim.specs.Placed.{steps_of_log}
use Rattle.lls_trim.specs.Inferences.{Inference, Before, at_start, with_name, behind, sources_of, inference_at, put_step, inferences_from, inferences_of}
use Rattle.lls_trim.specs.Needed.{sources_in, sources_at, ComesFrom, IsNeeded, last, source}
use Rattle.lls_trim.specs.Trimmed.{is_marked, new_id, new_hint, new_step, renumbered, AreMarked}
use Rattle.lls_trim.specs.Marking.{AreOrdered}
use Rattle.lls_trim.proofs.Walks.{found_looked}
use Rattle.lls_trim.proofs.Founded.{AreClauses, RestsOn, FoundedBy, AreFounded, EndsAt, LastIsEmpty, slice_get-last}
use Rattle.lls_trim.proofs.Renumbered.{written_at, new_id-marked, new_id-passed}
use Rattle.lls_trim.proofs.Marks.{below_one, marked_within}
use Rattle.lls_trim.proofs.Used.{count_from, new_id-count, length-written, contains_map, written-from}
use Rattle.lls_trim.proofs.Laws.{AllMarked, IsClosed, HoldsKept, kept-start, kept-marked, kept-passed, last_or, inference_of, new_hints_find, given_within}

-- how many marks stand before a place
abbrev pub rank : List Bool → ℕ → ℕ
rank marks k = count_by (λ (m : Bool). m) (take k marks)

-- what a source is among the marked additions
abbrev pub renamed : List Bool → Source → Source
renamed marks (Given id) = Given id
renamed marks (Added j) = Added (rank marks j)

-- a marked addition in the new proof
abbrev pub again_at : List Bool → ℕ → Inference → Inference
again_at marks line i = record { line = line; clause = i.clause; by = option_map (map (renamed marks)) i.by }

abbrev pub again_from : List Bool → ℕ → List (ℕ × Inference) → List Inference
again_from marks line [] = []
again_from marks line (pair ∷ pairs) = again_at marks line pair.1 ∷ again_from marks (line + 1) pairs

abbrev pub marked_in : List Bool → List (ℕ × Inference) → List (ℕ × Inference)
marked_in marks pairs = filter (λ pair. is_marked marks pair.0) pairs

rank-marked : (marks : List Bool) (k : ℕ) → k < length marks → is_marked marks k ≡ true → rank marks (k + 1) ≡ rank marks k + 1
rank-marked marks k lt e = omega (arith, new_id-marked 0 marks k lt e)

rank-passed : (marks : List Bool) (k : ℕ) → k < length marks → is_marked marks k ≡ false → rank marks (k + 1) ≡ rank marks k
rank-passed marks k lt e = omega (arith, new_id-passed 0 marks k lt e)

-- what stands before a step of the new proof, behind the marked ones of these additions
pub record HoldsAgain (clauses : List Clause) (marks : List Bool) (done : List Inference) (before : Before) : Type 0 where
  pub kept : HoldsKept clauses marks done before.live
  pub given : (id : ℕ) → id ≤ length clauses → before.names id ≡ Given id
  pub added : (j : ℕ) (i : Inference) → slice_get done j ≡ Some i → is_marked marks j ≡ true → before.names (new_id (length clauses) marks j) ≡ Added (rank marks j)
  pub older : (j : ℕ) (i : Inference) → slice_get done j ≡ Some i → is_marked marks j ≡ true → rank marks j < rank marks (length done)
  pub count : before.count ≡ rank marks (length done)

again-start : (formula : Cnf) (marks : List Bool) → HoldsAgain formula.clauses marks [] (at_start formula)
again-start formula marks = record {
  kept = kept-start formula.clauses marks;
  given = λ id le. refl;
  added = λ j i e m. absurd cc;
  older = λ j i e m. absurd cc;
  count = refl;
}

module _ (clauses : List Clause) (marks : List Bool) (done : List Inference) (before : Before) (h : HoldsAgain clauses marks done before) (i : Inference) (lt : length done < length marks) where
  longer : length (done ++ i ∷ []) ≡ length done + 1
  longer = omega (arith, length-append done (i ∷ []))

  renamed_other : (id q : ℕ) → (id ≡ q → ⊥) → with_name before.names id before.count q ≡ before.names q
  renamed_other id q apart = elim (eqb_tells id q) [
    | inl t ↦ absurd (apart t.1)
    | inr t ↦ ap (λ b. cond b (Added before.count) (before.names q)) t.0
  ]

  renamed_itself : (id q : ℕ) → id ≡ q → with_name before.names id before.count q ≡ Added before.count
  renamed_itself id q same = elim (eqb_tells id q) [
    | inl t ↦ ap (λ b. cond b (Added before.count) (before.names q)) t.0
    | inr t ↦ absurd (t.1 same)
  ]

  again-marked : (hints : List ℤ) → is_marked marks (length done) ≡ true → HoldsAgain clauses marks (done ++ i ∷ []) (behind before (Add (new_id (length clauses) marks (length done)) i.clause hints))
  again-marked hints e =
      let rises : rank marks (length done + 1) ≡ rank marks (length done) + 1 = rank-marked marks (length done) lt e in
      let ends : rank marks (length (done ++ i ∷ [])) ≡ rank marks (length done) + 1 = ap (rank marks) longer ∙ rises in
      record {
        kept = kept-marked clauses marks done before.live h.kept i lt e;
        given = λ id le. renamed_other (new_id (length clauses) marks (length done)) id (λ same. absurd (omega (arith, same, le))) ∙ h.given id le;
        added = λ j x f m. elim (last_or done i x j f) [
          | inl t ↦ renamed_other (new_id (length clauses) marks (length done)) (new_id (length clauses) marks j) (λ same. absurd (omega (arith, same, h.older j x t m))) ∙ h.added j x t m
          | inr t ↦ renamed_itself (new_id (length clauses) marks (length done)) (new_id (length clauses) marks j) (ap (new_id (length clauses) marks) (sym t.0)) ∙ ap Added (h.count ∙ ap (rank marks) (sym t.0))
        ];
        older = λ j x f m. elim (last_or done i x j f) [
          | inl t ↦ omega (arith, ends, h.older j x t m)
          | inr t ↦ omega (arith, ends, ap (rank marks) t.0)
        ];
        count = omega (arith, h.count, ends);
      }

  again-passed : is_marked marks (length done) ≡ false → HoldsAgain clauses marks (done ++ i ∷ []) before
  again-passed e =
      let ends : rank marks (length (done ++ i ∷ [])) ≡ rank marks (length done) = ap (rank marks) longer ∙ rank-passed marks (length done) lt e in
      record {
        kept = kept-passed clauses marks done before.live h.kept i lt e;
        given = h.given;
        added = λ j x f m. elim (last_or done i x j f) [
          | inl t ↦ h.added j x t m
          | inr t ↦ let clash : true ≡ false = sym m ∙ ap (is_marked marks) t.0 ∙ e in absurd cc
        ];
        older = λ j x f m. elim (last_or done i x j f) [
          | inl t ↦ omega (arith, ends, h.older j x t m)
          | inr t ↦ let clash : true ≡ false = sym m ∙ ap (is_marked marks) t.0 ∙ e in absurd cc
        ];
        count = h.count ∙ sym ends;
      }

-- the new hints name the sources that these are now
sources_renamed : (clauses : List Clause) (marks : List Bool) (done : List Inference) (before : Before) → HoldsAgain clauses marks done before → (ss : List Source) (cs : List Clause) → AreClauses clauses done ss cs → AllMarked marks ss
    → sources_of before.names (map (new_hint (length clauses) marks) ss) ≡ map (renamed marks) ss
sources_renamed clauses marks done before h [] cs are m = refl
sources_renamed clauses marks done before h (s ∷ ss) [] are m = absurd are
sources_renamed clauses marks done before h (Given id ∷ ss) (c ∷ cs) are m = rw (h.given id (given_within clauses id c are.0).1, sources_renamed clauses marks done before h ss cs are.1 m) refl
sources_renamed clauses marks done before h (Added j ∷ ss) (c ∷ cs) are m =
    let i = inference_of done j c are.0 in
    rw (h.added j i.0 i.1.0 m.0, sources_renamed clauses marks done before h ss cs are.1 m.1) refl

-- a marked addition comes to what it is in the new proof
inference_again : (clauses : List Clause) (marks : List Bool) (done : List Inference) (before : Before) → HoldsAgain clauses marks done before → (i : Inference) → FoundedBy clauses done i.clause i.by → IsClosed marks i → (line : ℕ)
    → inference_at before line i.clause (map (new_hint (length clauses) marks) (unwrap_or i.by [])) ≡ again_at marks line i
inference_again clauses marks done before h i founded closed line =
    let rests : RestsOn clauses done i.clause closed.sources = subst (FoundedBy clauses done i.clause) closed.by founded in
    let hints = map (new_hint (length clauses) marks) closed.sources in
    let found = new_hints_find clauses marks done before.live h.kept closed.sources rests.named rests.are closed.marked in
    let looked : looked_at before.live i.clause hints ≡ Some hints = found_looked before.live i.clause hints rests.named found rests.closes in
    let by_is : option_map (sources_of before.names) (looked_at before.live i.clause hints) ≡ Some (map (renamed marks) closed.sources) =
    ap (option_map (sources_of before.names)) looked ∙ ap (λ (ss : List Source). Some ss) (sources_renamed clauses marks done before h closed.sources rests.named rests.are closed.marked)
    in
    subst (λ o. record { line = line; clause = i.clause; by = option_map (sources_of before.names) (looked_at before.live i.clause (map (new_hint (length clauses) marks) (unwrap_or o []))) } ≡ again_of line o) (sym closed.by)
    (ap (λ (o : Option (List Source)). record { line = line; clause = i.clause; by = o }) by_is)
  where
    again_of : ℕ → Option (List Source) → Inference
    again_of n o = record { line = n; clause = i.clause; by = option_map (map (renamed marks)) o }

module _ (clauses : List Clause) (marks : List Bool) (inferences : List Inference) (as_many : length marks ≡ length inferences) (closed : (k : ℕ) (i : Inference) → slice_get inferences k ≡ Some i → is_marked marks k ≡ true → IsClosed marks i) (ended : (k : ℕ) → k + 1 ≡ length inferences → is_marked marks k ≡ true) where
  -- what the new steps come to from a line on is what the marked additions come to
  abbrev ComesAgain : List Inference → Before → ℕ → List Inference → Type 0
  ComesAgain done before line rest = inferences_from before (enumerate_from line (written_at (length clauses) marks (enumerate_from (length done) rest))) ≡ again_from marks line (marked_in marks (enumerate_from (length done) rest))

  -- as a number that is the length
  comes_again-at : (done rest : List Inference) (i : Inference) (before : Before) (line : ℕ) → ComesAgain (done ++ i ∷ []) before line rest
      → inferences_from before (enumerate_from line (written_at (length clauses) marks (enumerate_from (length done + 1) rest))) ≡ again_from marks line (marked_in marks (enumerate_from (length done + 1) rest))
  comes_again-at done rest i before line h =
      let longer : length (done ++ i ∷ []) ≡ length done + 1 = omega (arith, length-append done (i ∷ [])) in
      subst (λ (n : ℕ). inferences_from before (enumerate_from line (written_at (length clauses) marks (enumerate_from n rest))) ≡ again_from marks line (marked_in marks (enumerate_from n rest))) longer h

  -- the addition is passed over
  again_passed : (done rest : List Inference) (i : Inference) (before : Before) (line : ℕ) → is_marked marks (length done) ≡ false → ComesAgain (done ++ i ∷ []) before line rest → ComesAgain done before line (i ∷ rest)
  again_passed done rest i before line e more =
      let kept = marked_in marks (enumerate_from (length done + 1) rest) in
      subst (λ (b : Bool). inferences_from before (enumerate_from line (map (new_step (length clauses) marks) (cond b ((length done, i) ∷ kept) kept))) ≡ again_from marks line (cond b ((length done, i) ∷ kept) kept)) (sym e) (comes_again-at done rest i before line more)

  -- or it is put before the others
  put_again : (before : Before) (line id : ℕ) (clause : Clause) (hints : List ℤ) (more rest : List Inference) (i : Inference) → inference_at before line clause hints ≡ i → EndsAt clause (rest ≡ []) (more ≡ rest) → put_step before line (Add id clause hints) more ≡ i ∷ rest
  put_again before line id [] hints more rest i is ends = ap (λ (x : Inference). x ∷ []) is ∙ ap (λ (xs : List Inference). i ∷ xs) (sym ends)
  put_again before line id (l ∷ ls) hints more rest i is ends = ap (λ (x : Inference). x ∷ more) is ∙ ap (λ (xs : List Inference). i ∷ xs) ends

  again_marked : (done rest : List Inference) (i : Inference) (before : Before) (line : ℕ) → is_marked marks (length done) ≡ true → inference_at before line i.clause (map (new_hint (length clauses) marks) (unwrap_or i.by [])) ≡ again_at marks line i
      → EndsAt i.clause (again_from marks (line + 1) (marked_in marks (enumerate_from (length done + 1) rest)) ≡ [])
      (inferences_from (behind before (Add (new_id (length clauses) marks (length done)) i.clause (map (new_hint (length clauses) marks) (unwrap_or i.by [])))) (enumerate_from (line + 1) (written_at (length clauses) marks (enumerate_from (length done + 1) rest))) ≡ again_from marks (line + 1) (marked_in marks (enumerate_from (length done + 1) rest)))
      → ComesAgain done before line (i ∷ rest)
  again_marked done rest i before line e is ends =
      let kept = marked_in marks (enumerate_from (length done + 1) rest) in
      let id = new_id (length clauses) marks (length done) in
      let hints = map (new_hint (length clauses) marks) (unwrap_or i.by []) in
      let more = inferences_from (behind before (Add id i.clause hints)) (enumerate_from (line + 1) (map (new_step (length clauses) marks) kept)) in
      subst (λ (b : Bool). inferences_from before (enumerate_from line (map (new_step (length clauses) marks) (cond b ((length done, i) ∷ kept) kept))) ≡ again_from marks line (cond b ((length done, i) ∷ kept) kept)) (sym e)
      (put_again before line id i.clause hints more (again_from marks (line + 1) kept) (again_at marks line i) is ends)

  again_one : (done rest : List Inference) (i : Inference) (before : Before) (line : ℕ) → done ++ i ∷ rest ≡ inferences → HoldsAgain clauses marks done before → FoundedBy clauses done i.clause i.by
      → (clause : Clause) → i.clause ≡ clause → EndsAt clause (rest ≡ []) (LastIsEmpty rest)
      → (LastIsEmpty rest → (before2 : Before) (line2 : ℕ) → HoldsAgain clauses marks (done ++ i ∷ []) before2 → ComesAgain (done ++ i ∷ []) before2 line2 rest) → ComesAgain done before line (i ∷ rest)
  again_one done rest i before line all h founded [] is ends next =
      let lens : length done + 1 ≡ length inferences = omega (arith, ap length all, length-append done (i ∷ rest), ap length ends) in
      let there : slice_get inferences (length done) ≡ Some i = ap (λ (is : List Inference). slice_get is (length done)) (sym all) ∙ slice_get-last done rest i in
      let e = ended (length done) lens in
      let none : again_from marks (line + 1) (marked_in marks (enumerate_from (length done + 1) rest)) ≡ [] = ap (λ (xs : List Inference). again_from marks (line + 1) (marked_in marks (enumerate_from (length done + 1) xs))) ends in
      again_marked done rest i before line e (inference_again clauses marks done before h i founded (closed (length done) i there e) line)
      (subst (λ (c : Clause). EndsAt c (again_from marks (line + 1) (marked_in marks (enumerate_from (length done + 1) rest)) ≡ [])
      (inferences_from (behind before (Add (new_id (length clauses) marks (length done)) i.clause (map (new_hint (length clauses) marks) (unwrap_or i.by [])))) (enumerate_from (line + 1) (written_at (length clauses) marks (enumerate_from (length done + 1) rest))) ≡ again_from marks (line + 1) (marked_in marks (enumerate_from (length done + 1) rest)))) (sym is) none)
  again_one done rest i before line all h founded (l ∷ ls) is ends next =
      let lt : length done < length marks = omega (arith, ap length all, length-append done (i ∷ rest), as_many) in
      let there : slice_get inferences (length done) ≡ Some i = ap (λ (is : List Inference). slice_get is (length done)) (sym all) ∙ slice_get-last done rest i in
      let hints = map (new_hint (length clauses) marks) (unwrap_or i.by []) in
      elim (is_marked marks (length done)) as (λ b. is_marked marks (length done) ≡ b → ComesAgain done before line (i ∷ rest)) [
        | true ↦ λ e.
            let before2 = behind before (Add (new_id (length clauses) marks (length done)) i.clause hints) in
            let more = comes_again-at done rest i before2 (line + 1) (next ends before2 (line + 1) (again-marked clauses marks done before h i lt hints e)) in
            again_marked done rest i before line e (inference_again clauses marks done before h i founded (closed (length done) i there e) line)
            (subst (λ (c : Clause). EndsAt c (again_from marks (line + 1) (marked_in marks (enumerate_from (length done + 1) rest)) ≡ [])
            (inferences_from before2 (enumerate_from (line + 1) (written_at (length clauses) marks (enumerate_from (length done + 1) rest))) ≡ again_from marks (line + 1) (marked_in marks (enumerate_from (length done + 1) rest)))) (sym is) more)
        | false ↦ λ e. again_passed done rest i before line e (next ends before line (again-passed clauses marks done before h i lt e))
      ] refl

  pub comes_again : (rest done : List Inference) (before : Before) (line : ℕ) → done ++ rest ≡ inferences → HoldsAgain clauses marks done before → AreFounded clauses done rest → LastIsEmpty rest → ComesAgain done before line rest
  comes_again [] done before line all h founded ends = absurd ends
  comes_again (i ∷ rest) done before line all h founded ends =
      again_one done rest i before line all h founded.0 i.clause refl ends (λ ends2 before2 line2 h2. comes_again rest (done ++ i ∷ []) before2 line2 (append_assoc done (i ∷ []) rest ∙ all) h2 founded.1 ends2)

-- so the new steps are these additions
pub inferences_again : (formula : Cnf) (marks : List Bool) (inferences : List Inference) → length marks ≡ length inferences → ((k : ℕ) (i : Inference) → slice_get inferences k ≡ Some i → is_marked marks k ≡ true → IsClosed marks i) → ((k : ℕ) → k + 1 ≡ length inferences → is_marked marks k ≡ true)
    → AreFounded formula.clauses [] inferences → LastIsEmpty inferences
    → inferences_of formula (steps_of_log (renumbered (length formula.clauses) marks inferences)) ≡ again_from marks 1 (marked_in marks (enumerate_from 0 inferences))
inferences_again formula marks inferences as_many closed ended founded ends =
    comes_again formula.clauses marks inferences as_many closed ended inferences [] (at_start formula) 1 refl (again-start formula marks) founded ends

-- no more marks stand before a place than there are
rank-le : (marks : List Bool) (j : ℕ) → rank marks j ≤ rank marks (length marks)
rank-le [] zero = omega arith
rank-le [] (suc j) = omega arith
rank-le (m ∷ ms) zero = omega arith
rank-le (m ∷ ms) (suc j) = omega (arith, sum_by-cons (λ (b : Bool). cond b 1 0) m (take j ms), sum_by-cons (λ (b : Bool). cond b 1 0) m (take (length ms) ms), rank-le ms j)

sources_there : (inferences : List Inference) (k : ℕ) (s : Source) → Contains (sources_at inferences k) s → (x : Inference) × (slice_get inferences k ≡ Some x)
sources_there inferences k s c = by_found (slice_get inferences k) refl where
  by_found : (o : Option Inference) → slice_get inferences k ≡ o → (x : Inference) × (slice_get inferences k ≡ Some x)
  by_found None is = absurd (omega (arith, c.1, ap (λ o. length (sources_in o)) is))
  by_found (Some x) is = (x, is)

-- all marks set
abbrev pub all_set : ℕ → List Bool
all_set n = replicate n true

rank-all : (n r : ℕ) → r ≤ n → rank (all_set n) r ≡ r
rank-all n zero le = refl
rank-all zero (suc r) le = absurd (omega arith)
rank-all (suc n) (suc r) le = omega (arith, sum_by-cons (λ (m : Bool). cond m 1 0) true (take r (all_set n)), rank-all n r (omega arith))

length-again : (marks : List Bool) (pairs : List (ℕ × Inference)) (line : ℕ) → length (again_from marks line pairs) ≡ length pairs
length-again marks [] line = refl
length-again marks (pair ∷ pairs) line = ap suc (length-again marks pairs (line + 1))

length-written_at : (given : ℕ) (marks : List Bool) (pairs : List (ℕ × Inference)) → length (written_at given marks pairs) ≡ length (marked_in marks pairs)
length-written_at given marks pairs = length-map (marked_in marks pairs) (new_step given marks)

hints_same : (given : ℕ) (marks : List Bool) (n : ℕ) → ((j : ℕ) → rank marks j ≤ n) → (ss : List Source) → map (new_hint given (all_set n)) (map (renamed marks) ss) ≡ map (new_hint given marks) ss
hints_same given marks n few [] = refl
hints_same given marks n few (Given id ∷ ss) = ap (λ (hs : List ℤ). pos id ∷ hs) (hints_same given marks n few ss)
hints_same given marks n few (Added j ∷ ss) = rw (rank-all n (rank marks j) (few j), hints_same given marks n few ss) refl

by_same : (given : ℕ) (marks : List Bool) (n : ℕ) → ((j : ℕ) → rank marks j ≤ n) → (o : Option (List Source)) → map (new_hint given (all_set n)) (unwrap_or (option_map (map (renamed marks)) o) []) ≡ map (new_hint given marks) (unwrap_or o [])
by_same given marks n few None = refl
by_same given marks n few (Some ss) = hints_same given marks n few ss

step_same : (given : ℕ) (marks : List Bool) (n k line : ℕ) (i : Inference) → ((j : ℕ) → rank marks j ≤ n) → new_step given (all_set n) (rank marks k, again_at marks line i) ≡ new_step given marks (k, i)
step_same given marks n k line i few = rw (rank-all n (rank marks k) (few k), by_same given marks n few i.by) refl

-- numbered anew once more, the new additions have the same steps
steps_same : (given : ℕ) (marks : List Bool) (n : ℕ) → ((j : ℕ) → rank marks j ≤ n) → (rest : List Inference) (k line : ℕ) → k + length rest ≤ length marks → rank marks k + length (marked_in marks (enumerate_from k rest)) ≤ n
    → written_at given (all_set n) (enumerate_from (rank marks k) (again_from marks line (marked_in marks (enumerate_from k rest)))) ≡ written_at given marks (enumerate_from k rest)
steps_same given marks n few [] k line le within = refl
steps_same given marks n few (i ∷ rest) k line le within =
    let kept = marked_in marks (enumerate_from (k + 1) rest) in
    elim (is_marked marks k) as (λ b. is_marked marks k ≡ b → rank marks k + length (cond b ((k, i) ∷ kept) kept) ≤ n
    → written_at given (all_set n) (enumerate_from (rank marks k) (again_from marks line (cond b ((k, i) ∷ kept) kept))) ≡ map (new_step given marks) (cond b ((k, i) ∷ kept) kept)) [
      | true ↦ λ e w.
          let next : rank marks (k + 1) ≡ rank marks k + 1 = rank-marked marks k (omega (arith, le)) e in
          let more = steps_same given marks n few rest (k + 1) (line + 1) (omega (arith, le)) (omega (arith, w, next)) in
          let set : is_marked (all_set n) (rank marks k) ≡ true = get_or-replicate n (rank marks k) true false (omega (arith, w)) in
          let behind_it = again_from marks (line + 1) kept in
          ap (λ b. map (new_step given (all_set n)) (cond b ((rank marks k, again_at marks line i) ∷ marked_in (all_set n) (enumerate_from (rank marks k + 1) behind_it)) (marked_in (all_set n) (enumerate_from (rank marks k + 1) behind_it)))) set
          ∙ ap (λ (s : Step). s ∷ written_at given (all_set n) (enumerate_from (rank marks k + 1) behind_it)) (step_same given marks n k line i few)
          ∙ ap (λ (m : ℕ). new_step given marks (k, i) ∷ written_at given (all_set n) (enumerate_from m behind_it)) (sym next)
          ∙ ap (λ (ss : List Step). new_step given marks (k, i) ∷ ss) more
      | false ↦ λ e w.
          let next : rank marks (k + 1) ≡ rank marks k = rank-passed marks k (omega (arith, le)) e in
          let more = steps_same given marks n few rest (k + 1) line (omega (arith, le)) (omega (arith, w, next)) in
          ap (λ (m : ℕ). written_at given (all_set n) (enumerate_from m (again_from marks line kept))) (sym next) ∙ more
    ] refl within

-- where a marked addition stands in the new proof
again-get : (marks : List Bool) (rest : List Inference) (n j : ℕ) (x : Inference) (line : ℕ) → slice_get rest j ≡ Some x → is_marked marks (n + j) ≡ true → (l : ℕ) × (slice_get (again_from marks line (marked_in marks (enumerate_from n rest))) (count_from marks n j) ≡ Some (again_at marks l x))
again-get marks [] n j x line there e = absurd cc
again-get marks (i ∷ rest) n zero x line there e =
    let same : n + 0 ≡ n = omega arith in
    let marked : is_marked marks n ≡ true = sym (ap (is_marked marks) same) ∙ e in
    let kept = marked_in marks (enumerate_from (n + 1) rest) in
    (line, ap (λ b. slice_get (again_from marks line (cond b ((n, i) ∷ kept) kept)) 0) marked ∙ ap (λ (y : Inference). Some (again_at marks line y)) (same_Some i x there))
again-get marks (i ∷ rest) n (suc j) x line there e =
    let same : n + suc j ≡ n + 1 + j = omega arith in
    let kept = marked_in marks (enumerate_from (n + 1) rest) in
    let marked = sym (ap (is_marked marks) same) ∙ e in
    elim (is_marked marks n) as (λ b. is_marked marks n ≡ b → (l : ℕ) × (slice_get (again_from marks line (cond b ((n, i) ∷ kept) kept)) (cond b 1 0 + count_from marks (n + 1) j) ≡ Some (again_at marks l x))) [
      | true ↦ λ m.
          let more = again-get marks rest (n + 1) j x (line + 1) there marked in
          let at : 1 + count_from marks (n + 1) j ≡ suc (count_from marks (n + 1) j) = omega arith in
          (more.0, ap (slice_get (again_from marks line ((n, i) ∷ kept))) at ∙ more.1)
      | false ↦ λ m.
          let more = again-get marks rest (n + 1) j x line there marked in
          let at : 0 + count_from marks (n + 1) j ≡ count_from marks (n + 1) j = omega arith in
          (more.0, ap (slice_get (again_from marks line kept)) at ∙ more.1)
    ] refl

module _ (given : ℕ) (marks : List Bool) (inferences : List Inference) (m : AreMarked inferences marks) (ordered : AreOrdered inferences) (closed : (k : ℕ) (i : Inference) → slice_get inferences k ≡ Some i → is_marked marks k ≡ true → IsClosed marks i) where
  abbrev new_ones : List Inference
  new_ones = again_from marks 1 (marked_in marks (enumerate_from 0 inferences))

  rank-count : (j : ℕ) → j ≤ length inferences → rank marks j ≡ count_from marks 0 j
  rank-count j le = let same : 0 + j ≡ j = omega arith in omega (arith, ap (new_id 0 marks) same, new_id-count 0 marks 0 j (omega (arith, le, m.as_many)))

  many : length new_ones ≡ rank marks (length inferences)
  many = omega (arith, length-again marks (marked_in marks (enumerate_from 0 inferences)) 1, length-written_at given marks (enumerate_from 0 inferences), length-written given marks inferences 0, rank-count (length inferences) (omega arith))

  few : (j : ℕ) → rank marks j ≤ length new_ones
  few j = omega (arith, many, rank-le marks j, ap (rank marks) m.as_many)

  -- the sources of a new addition
  new_sources : (k j : ℕ) → is_marked marks k ≡ true → ComesFrom inferences k j → ComesFrom new_ones (rank marks k) (rank marks j)
  new_sources k j marked c =
      let x = sources_there inferences k (Added j) c in
      let within = slice_get_within inferences k x.0 x.1 in
      let zero_plus : 0 + k ≡ k = omega arith in
      let got = again-get marks inferences 0 k x.0 1 x.1 (ap (is_marked marks) zero_plus ∙ marked) in
      let found : slice_get new_ones (rank marks k) ≡ Some (again_at marks got.0 x.0) = ap (slice_get new_ones) (rank-count k (omega (arith, within))) ∙ got.1 in
      let old : sources_at inferences k ≡ unwrap_or x.0.by [] = ap sources_in x.1 in
      let new : sources_at new_ones (rank marks k) ≡ map (renamed marks) (unwrap_or x.0.by []) = ap sources_in found ∙ unwrap_map x.0.by in
      subst (λ (ss : List Source). Contains ss (Added (rank marks j))) (sym new) (contains_map (renamed marks) (unwrap_or x.0.by []) (Added j) (subst (λ (ss : List Source). Contains ss (Added j)) old c))
    where
      unwrap_map : (o : Option (List Source)) → unwrap_or (option_map (map (renamed marks)) o) [] ≡ map (renamed marks) (unwrap_or o [])
      unwrap_map None = refl
      unwrap_map (Some ss) = refl

  needed_last : (j : ℕ) → j + 1 ≡ length inferences → IsNeeded new_ones (rank marks j)
  needed_last j e =
      let marked = (m.needed j).1 (last j e) in
      last (rank marks j) (omega (arith, many, ap (rank marks) e, rank-marked marks j (omega (arith, e, m.as_many)) marked))

  needed_again : (j : ℕ) → IsNeeded inferences j → IsNeeded new_ones (rank marks j)
  needed_again at (last j e) = needed_last j e
  needed_again at (source k j n c) = source (rank marks k) (rank marks j) (needed_again k n) (new_sources k j ((m.needed k).1 n) c)

  needed_all : (r : ℕ) → r < length new_ones → IsNeeded new_ones r
  needed_all r lt =
      let f = written-from given marks inferences 0 r (omega (arith, lt, length-again marks (marked_in marks (enumerate_from 0 inferences)) 1, length-written_at given marks (enumerate_from 0 inferences))) in
      let same : 0 + f.j ≡ f.j = omega arith in
      let marked : is_marked marks f.j ≡ true = sym (ap (is_marked marks) same) ∙ f.marked in
      let within = slice_get_within inferences f.j f.inference f.there in
      subst (IsNeeded new_ones) (rank-count f.j (omega (arith, within)) ∙ sym f.is_place) (needed_again f.j ((m.needed f.j).0 marked))

  needed_within : AreOrdered new_ones → (r : ℕ) → IsNeeded new_ones r → r < length new_ones
  needed_within order at (last j e) = omega (arith, e)
  needed_within order at (source k j n c) = omega (arith, needed_within order k n, below_one k j (sources_at new_ones k) (order k) c)

  pub all_marked_again : AreOrdered new_ones → AreMarked new_ones (all_set (length new_ones))
  all_marked_again order = record {
    as_many = length-replicate (length new_ones) true;
    needed = λ r. (
      λ e. needed_all r (omega (arith, marked_within (all_set (length new_ones)) r e, length-replicate {A = Bool} (length new_ones) true)),
      λ n. get_or-replicate (length new_ones) r true false (needed_within order r n),
    );
  }

  pub steps_again : renumbered given marks inferences ≡ renumbered given (all_set (length new_ones)) new_ones
  steps_again = sym (steps_same given marks (length new_ones) few inferences 0 1 (omega (arith, m.as_many)) (omega (arith, length-again marks (marked_in marks (enumerate_from 0 inferences)) 1)))
