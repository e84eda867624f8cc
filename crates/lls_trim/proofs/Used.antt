-- Each needed addition but the last is named by a later one, wherever they stand once they are numbered anew.
use Rattle.std.proofs.Common.{◌≡◌, ℕ, zero, suc, ◌+◌, ◌-◌, ◌<◌, ◌≤◌, Bool, true, false, cond, List, [], ◌∷◌, length, map, get_or, Option, Some, None, refl, sym, ap, ◌∙◌, subst, arith}
use Rattle.std.specs.Prelude.{ℤ, pos, filter, slice_get}
use Rattle.std.specs.List.{enumerate_from, Contains}
use Rattle.std.proofs.lemmas.Option.{same_Some, slice_get_within}
use Rattle.lls_prooflog.specs.declared.step.Step.{Step}
use Rattle.lls_trim.specs.declared.source.Source.{Source}
use Rattle.lls_trim.specs.declared.source.Source.TheVariants.{Added}
use Rattle.lls_trim.specs.Inferences.{Inference}
use Rattle.lls_trim.specs.Needed.{sources_in, sources_at, ComesFrom, IsNeeded, last, source}
use Rattle.lls_trim.specs.Trimmed.{is_marked, new_id, new_hint, new_step, renumbered, AreMarked}
use Rattle.lls_trim.specs.Marking.{AreOrdered}
use Rattle.lls_trim.specs.Kept.{id_in, hints_in, IsUsed, AreUsed}
use Rattle.lls_trim.proofs.Marks.{below_one}
use Rattle.lls_trim.proofs.Renumbered.{written_at, new_id-marked, new_id-passed}

-- how many of so many marks from a place on are set
abbrev pub count_from : List Bool → ℕ → ℕ → ℕ
count_from marks n zero = 0
count_from marks n (suc j) = cond (is_marked marks n) 1 0 + count_from marks (n + 1) j

new_id-next : (given : ℕ) (marks : List Bool) (n : ℕ) → n < length marks → new_id given marks (n + 1) ≡ new_id given marks n + cond (is_marked marks n) 1 0
new_id-next given marks n lt = elim (is_marked marks n) as (λ b. is_marked marks n ≡ b → new_id given marks (n + 1) ≡ new_id given marks n + cond b 1 0) [
  | true ↦ λ e. new_id-marked given marks n lt e
  | false ↦ λ e. omega (arith, new_id-passed given marks n lt e)
] refl

pub new_id-count : (given : ℕ) (marks : List Bool) (n j : ℕ) → n + j ≤ length marks → new_id given marks (n + j) ≡ new_id given marks n + count_from marks n j
new_id-count given marks n zero le = let same : n + 0 ≡ n = omega arith in omega (arith, ap (new_id given marks) same)
new_id-count given marks n (suc j) le =
    let same : n + suc j ≡ n + 1 + j = omega arith in
    omega (arith, ap (new_id given marks) same, new_id-count given marks (n + 1) j (omega (arith, le)), new_id-next given marks n (omega (arith, le)))

module _ (given : ℕ) (marks : List Bool) where
  abbrev pub written : ℕ → List Inference → List Step
  written n rest = written_at given marks (enumerate_from n rest)

  pub one : (n : ℕ) (i : Inference) (rest : List Inference) → is_marked marks n ≡ true → written n (i ∷ rest) ≡ new_step given marks (n, i) ∷ written (n + 1) rest
  one n i rest e = ap (λ b. map (new_step given marks) (cond b ((n, i) ∷ filter (λ pair. is_marked marks pair.0) (enumerate_from (n + 1) rest)) (filter (λ pair. is_marked marks pair.0) (enumerate_from (n + 1) rest)))) e

  pub none : (n : ℕ) (i : Inference) (rest : List Inference) → is_marked marks n ≡ false → written n (i ∷ rest) ≡ written (n + 1) rest
  none n i rest e = ap (λ b. map (new_step given marks) (cond b ((n, i) ∷ filter (λ pair. is_marked marks pair.0) (enumerate_from (n + 1) rest)) (filter (λ pair. is_marked marks pair.0) (enumerate_from (n + 1) rest)))) e

  pub count-suc : (n j : ℕ) (b : Bool) → is_marked marks n ≡ b → count_from marks n (suc j) ≡ cond b 1 0 + count_from marks (n + 1) j
  count-suc n j b e = ap (λ c. cond c 1 0 + count_from marks (n + 1) j) e

  -- how many are written down
  pub length-written : (rest : List Inference) (n : ℕ) → length (written n rest) ≡ count_from marks n (length rest)
  length-written [] n = refl
  length-written (i ∷ rest) n = elim (is_marked marks n) as (λ b. is_marked marks n ≡ b → length (written n (i ∷ rest)) ≡ count_from marks n (suc (length rest))) [
    | true ↦ λ e. omega (arith, ap length (one n i rest e), length-written rest (n + 1), count-suc n (length rest) true e)
    | false ↦ λ e. omega (arith, ap length (none n i rest e), length-written rest (n + 1), count-suc n (length rest) false e)
  ] refl

  -- where a marked addition stands
  written-get : (rest : List Inference) (n j : ℕ) (x : Inference) → slice_get rest j ≡ Some x → is_marked marks (n + j) ≡ true → slice_get (written n rest) (count_from marks n j) ≡ Some (new_step given marks (n + j, x))
  written-get [] n j x there e = absurd cc
  written-get (i ∷ rest) n zero x there e =
      let same : n + 0 ≡ n = omega arith in
      let marked : is_marked marks n ≡ true = sym (ap (is_marked marks) same) ∙ e in
      ap (λ (ss : List Step). slice_get ss 0) (one n i rest marked) ∙ ap (λ (y : Inference). Some (new_step given marks (n, y))) (same_Some i x there) ∙ ap (λ (m : ℕ). Some (new_step given marks (m, x))) (sym same)
  written-get (i ∷ rest) n (suc j) x there e =
      let same : n + suc j ≡ n + 1 + j = omega arith in
      let more = written-get rest (n + 1) j x there (sym (ap (is_marked marks) same) ∙ e) in
      let here = more ∙ ap (λ (m : ℕ). Some (new_step given marks (m, x))) (sym same) in
      elim (is_marked marks n) as (λ b. is_marked marks n ≡ b → slice_get (written n (i ∷ rest)) (count_from marks n (suc j)) ≡ Some (new_step given marks (n + suc j, x))) [
        | true ↦ λ m.
            let at : count_from marks n (suc j) ≡ suc (count_from marks (n + 1) j) = omega (arith, count-suc n j true m) in
            ap (slice_get (written n (i ∷ rest))) at ∙ ap (λ (ss : List Step). slice_get ss (suc (count_from marks (n + 1) j))) (one n i rest m) ∙ here
        | false ↦ λ m.
            let at : count_from marks n (suc j) ≡ count_from marks (n + 1) j = omega (arith, count-suc n j false m) in
            ap (slice_get (written n (i ∷ rest))) at ∙ ap (λ (ss : List Step). slice_get ss (count_from marks (n + 1) j)) (none n i rest m) ∙ here
      ] refl

  -- which addition stands at a place
  pub record IsFrom (rest : List Inference) (n place : ℕ) : Type 0 where
    pub j : ℕ
    pub inference : Inference
    pub there : slice_get rest j ≡ Some inference
    pub marked : is_marked marks (n + j) ≡ true
    pub is_place : place ≡ count_from marks n j

  from_next : (i : Inference) (rest : List Inference) (n place : ℕ) (b : Bool) → is_marked marks n ≡ b → IsFrom rest (n + 1) place → IsFrom (i ∷ rest) n (cond b 1 0 + place)
  from_next i rest n place b e f =
      let same : n + suc f.j ≡ n + 1 + f.j = omega arith in
      record { j = suc f.j; inference = f.inference; there = f.there; marked = ap (is_marked marks) same ∙ f.marked; is_place = omega (arith, f.is_place, count-suc n f.j b e) }

  pub written-from : (rest : List Inference) (n place : ℕ) → place < length (written n rest) → IsFrom rest n place
  written-from [] n place lt = absurd (omega (arith, lt))
  written-from (i ∷ rest) n place lt = by_mark place lt (λ p h. written-from rest (n + 1) p h) where
    at_one : (place : ℕ) → is_marked marks n ≡ true → place < length (written n (i ∷ rest)) → ((p : ℕ) → p < length (written (n + 1) rest) → IsFrom rest (n + 1) p) → IsFrom (i ∷ rest) n place
    at_one zero e lt next = let same : n + 0 ≡ n = omega arith in record { j = 0; inference = i; there = refl; marked = ap (is_marked marks) same ∙ e; is_place = refl }
    at_one (suc p) e lt next = let same : 1 + p ≡ suc p = omega arith in subst (IsFrom (i ∷ rest) n) same (from_next i rest n p true e (next p (omega (arith, lt, ap length (one n i rest e)))))

    by_mark : (place : ℕ) → place < length (written n (i ∷ rest)) → ((p : ℕ) → p < length (written (n + 1) rest) → IsFrom rest (n + 1) p) → IsFrom (i ∷ rest) n place
    by_mark place lt next = elim (is_marked marks n) as (λ b. is_marked marks n ≡ b → IsFrom (i ∷ rest) n place) [
      | true ↦ λ e. at_one place e lt next
      | false ↦ λ e. let same : 0 + place ≡ place = omega arith in subst (IsFrom (i ∷ rest) n) same (from_next i rest n place false e (next place (omega (arith, lt, ap length (none n i rest e)))))
    ] refl

pub contains_map : {X Y : Type 0} (f : X → Y) (xs : List X) (x : X) → Contains xs x → Contains (map f xs) (f x)
contains_map {X = X} f xs x c = by_place xs c.0 c.1 c.2 where
  by_place : (ys : List X) (k : ℕ) → k < length ys → get_or ys k x ≡ x → Contains (map f ys) (f x)
  by_place [] k lt e = absurd (omega arith)
  by_place (y ∷ ys) zero lt e = (0, omega arith, ap f e)
  by_place (y ∷ ys) (suc k) lt e = let more = by_place ys k (omega arith) e in (suc more.0, omega (arith, more.1), more.2)

module _ (given : ℕ) (marks : List Bool) (inferences : List Inference) (m : AreMarked inferences marks) (ordered : AreOrdered inferences) where
  abbrev steps : List Step
  steps = renumbered given marks inferences

  -- the place of an addition, by its new id
  place_of : (j : ℕ) → j ≤ length inferences → new_id given marks j ≡ given + 1 + count_from marks 0 j
  place_of j le = let same : 0 + j ≡ j = omega arith in omega (arith, ap (new_id given marks) same, new_id-count given marks 0 j (omega (arith, le, m.as_many)))

  marked-get : (j : ℕ) (x : Inference) → slice_get inferences j ≡ Some x → is_marked marks j ≡ true → slice_get steps (count_from marks 0 j) ≡ Some (new_step given marks (j, x))
  marked-get j x there e =
      let same : 0 + j ≡ j = omega arith in
      written-get given marks inferences 0 j x there (ap (is_marked marks) same ∙ e) ∙ ap (λ (n : ℕ). Some (new_step given marks (n, x))) same

  sources_there : (k : ℕ) (s : Source) → Contains (sources_at inferences k) s → (x : Inference) × (slice_get inferences k ≡ Some x)
  sources_there k s c = by_found (slice_get inferences k) refl where
    by_found : (o : Option Inference) → slice_get inferences k ≡ o → (x : Inference) × (slice_get inferences k ≡ Some x)
    by_found None is = absurd (omega (arith, c.1, ap (λ o. length (sources_in o)) is))
    by_found (Some x) is = (x, is)

  module _ (place j : ℕ) (x : Inference) (there : slice_get inferences j ≡ Some x) (marked : is_marked marks j ≡ true) (is_place : place ≡ count_from marks 0 j) (lt : place + 1 < length steps) where
    within : j < length inferences
    within = slice_get_within inferences j x there

    next_id : new_id given marks (j + 1) ≡ new_id given marks j + 1
    next_id = new_id-marked given marks j (omega (arith, within, m.as_many)) marked

    -- one addition comes from it
    by_source : (k : ℕ) → IsNeeded inferences k → ComesFrom inferences k j → IsUsed steps place
    by_source k n c =
        let user = sources_there k (Added j) c in
        let before : j < k = below_one k j (sources_at inferences k) (ordered k) c in
        let user_marked : is_marked marks k ≡ true = (m.needed k).1 n in
        let d : (e : ℕ) × (k ≡ j + 1 + e) = (k - (j + 1), omega (arith, before)) in
        let k_within = slice_get_within inferences k user.0 user.1 in
        let rises : new_id given marks (j + 1 + d.0) ≡ new_id given marks (j + 1) + count_from marks (j + 1) d.0 = new_id-count given marks (j + 1) d.0 (omega (arith, d.1, k_within, m.as_many)) in
        let at_k = place_of k (omega (arith, k_within)) in
        let at_j = place_of j (omega (arith, within)) in
        let hints_are : hints_in (slice_get steps (count_from marks 0 k)) ≡ map (new_hint given marks) (sources_at inferences k) =
        ap hints_in (marked-get k user.0 user.1 user_marked) ∙ sym (ap (λ o. map (new_hint given marks) (sources_in o)) user.1)
        in
        let id_is : id_in (slice_get steps place) ≡ new_id given marks j = ap (λ (p : ℕ). id_in (slice_get steps p)) is_place ∙ ap id_in (marked-get j x there marked) in
        let named : Contains (map (new_hint given marks) (sources_at inferences k)) (pos (new_id given marks j)) = contains_map (new_hint given marks) (sources_at inferences k) (Added j) c in
        record {
          user = count_from marks 0 k;
          later = omega (arith, is_place, at_k, at_j, rises, next_id, ap (new_id given marks) d.1);
          named = subst (λ (hints : List ℤ). Contains hints (pos (id_in (slice_get steps place)))) (sym hints_are) (subst (λ (id : ℕ). Contains (map (new_hint given marks) (sources_at inferences k)) (pos id)) (sym id_is) named);
        }

    -- it isn't the last
    not_last : j + 1 ≡ length inferences → ⊥
    not_last e =
        let all = place_of (length inferences) (omega arith) in
        let at_j = place_of j (omega (arith, within)) in
        omega (arith, lt, length-written given marks inferences 0, all, at_j, is_place, next_id, ap (new_id given marks) e)

  used_by : (place j : ℕ) (x : Inference) → slice_get inferences j ≡ Some x → is_marked marks j ≡ true → place ≡ count_from marks 0 j → place + 1 < length steps → IsNeeded inferences j → IsUsed steps place
  used_by place at x there marked is_place lt (last j e) = absurd (not_last place j x there marked is_place lt e)
  used_by place at x there marked is_place lt (source k j n c) = by_source place j x there marked is_place lt k n c

  pub are_used : AreUsed steps
  are_used place lt =
      let f = written-from given marks inferences 0 place (omega (arith, lt)) in
      let same : 0 + f.j ≡ f.j = omega arith in
      let marked : is_marked marks f.j ≡ true = sym (ap (is_marked marks) same) ∙ f.marked in
      used_by place f.j f.inference f.there marked f.is_place lt ((m.needed f.j).0 marked)
