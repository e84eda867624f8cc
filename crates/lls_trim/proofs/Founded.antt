-- An accepted proof's additions rest on clauses of the formula and on additions before them.
use Rattle.std.proofs.Common.{◌≡◌, ℕ, zero, suc, Bool, true, false, not, ◌||◌, cond, List, [], ◌∷◌, ◌++◌, length, Option, Some, None, refl, sym, ap, ◌∙◌, inl, inr, arith, eqb, length-append}
use Rattle.std.specs.Prelude.{ℤ, pos, negsuc, filter, slice_get, is_none}
use Rattle.std.specs.List.{list_any}
use Rattle.std.specs.Option.{option_map, option_or}
use Rattle.std.proofs.lemmas.Bool.Decides.{eqb_tells}
use Rattle.lls_lit.specs.Formula.{Clause, Cnf}
use Rattle.lls_prooflog.specs.declared.step.Step.{Step}
use Rattle.lls_prooflog.specs.declared.step.Step.TheVariants.{Add, Del}
use Rattle.lls_prooflog.specs.Steps.{Live, numbered, find_clause, fault_of, after, is_empty_addition, are_accepted}
use Rattle.lls_prooflog.proofs.Soundness.{adds_well}
use Rattle.lls_lrat.specs.Looked.{looked_at}
use Rattle.lls_trim.specs.declared.source.Source.{Source}
use Rattle.lls_trim.specs.declared.source.Source.TheVariants.{Given, Added}
use Rattle.lls_trim.specs.Placed.{Placed, steps_in}
use Rattle.lls_trim.specs.Inferences.{Inference, Before, at_start, with_name, behind, sources_of, inference_at, inferences_from, inferences_of}
use Rattle.lls_trim.proofs.Walks.{ClosesAtEnd, Finds, looked_finds}

-- the clause that a source is, among the formula's clauses and these additions
abbrev pub source_clause : List Clause → List Inference → Source → Option Clause
source_clause clauses done (Given id) = find_clause (numbered clauses) id
source_clause clauses done (Added k) = option_map (λ (i : Inference). i.clause) (slice_get done k)

-- the sources are these clauses
abbrev pub AreClauses : List Clause → List Inference → List Source → List Clause → Type 0
AreClauses clauses done [] [] = Unit {0}
AreClauses clauses done [] (c ∷ cs) = ⊥
AreClauses clauses done (s ∷ ss) [] = ⊥
AreClauses clauses done (s ∷ ss) (c ∷ cs) = (source_clause clauses done s ≡ Some c) × AreClauses clauses done ss cs

-- unit propagation along the sources' clauses gives the clause
pub record RestsOn (clauses : List Clause) (done : List Inference) (clause : Clause) (sources : List Source) : Type 0 where
  pub named : List Clause
  pub are : AreClauses clauses done sources named
  pub closes : ClosesAtEnd clause named

abbrev pub FoundedBy : List Clause → List Inference → Clause → Option (List Source) → Type 0
FoundedBy clauses done clause None = Unit {0}
FoundedBy clauses done clause (Some sources) = RestsOn clauses done clause sources

-- each of these additions rests on what stands before it
abbrev pub AreFounded : List Clause → List Inference → List Inference → Type 0
AreFounded clauses done [] = Unit {0}
AreFounded clauses done (i ∷ is) = FoundedBy clauses done i.clause i.by × AreFounded clauses (done ++ i ∷ []) is

abbrev pub EndsAt : Clause → Type 0 → Type 0 → Type 0
EndsAt [] Last More = Last
EndsAt (l ∷ ls) Last More = More

-- the last of these additions is the empty clause, and no other is
abbrev pub LastIsEmpty : List Inference → Type 0
LastIsEmpty [] = ⊥
LastIsEmpty (i ∷ is) = EndsAt i.clause (is ≡ []) (LastIsEmpty is)

-- what ids name before a step, with the additions that came before
pub record Holds (clauses : List Clause) (done : List Inference) (before : Before) : Type 0 where
  pub count : before.count ≡ length done
  pub named : (q : ℕ) (clause : Clause) → find_clause before.live q ≡ Some clause → source_clause clauses done (before.names q) ≡ Some clause

pub Holds-start : (formula : Cnf) → Holds formula.clauses [] (at_start formula)
Holds-start formula = record { count = refl; named = λ q clause e. e }

pub slice_get-more : {X : Type 0} (xs ys : List X) (k : ℕ) (x : X) → slice_get xs k ≡ Some x → slice_get (xs ++ ys) k ≡ Some x
slice_get-more [] ys k x e = absurd cc
slice_get-more (y ∷ xs) ys zero x e = e
slice_get-more (y ∷ xs) ys (suc k) x e = slice_get-more xs ys k x e

pub slice_get-last : {X : Type 0} (xs ys : List X) (x : X) → slice_get (xs ++ x ∷ ys) (length xs) ≡ Some x
slice_get-last [] ys x = refl
slice_get-last (y ∷ xs) ys x = slice_get-last xs ys x

map_more : (done : List Inference) (i : Inference) (k : ℕ) (clause : Clause) (o : Option Inference) → slice_get done k ≡ o → option_map (λ (j : Inference). j.clause) o ≡ Some clause → option_map (λ (j : Inference). j.clause) (slice_get (done ++ i ∷ []) k) ≡ Some clause
map_more done i k clause None is e = absurd cc
map_more done i k clause (Some j) is e = ap (option_map (λ (j : Inference). j.clause)) (slice_get-more done (i ∷ []) k j is) ∙ e

pub source_clause-more : (clauses : List Clause) (done : List Inference) (i : Inference) (s : Source) (clause : Clause) → source_clause clauses done s ≡ Some clause → source_clause clauses (done ++ i ∷ []) s ≡ Some clause
source_clause-more clauses done i (Given id) clause e = e
source_clause-more clauses done i (Added k) clause e = map_more done i k clause (slice_get done k) refl e

pub find_clause-append : (live more : Live) (q : ℕ) → find_clause (live ++ more) q ≡ option_or (find_clause live q) (find_clause more q)
find_clause-append [] more q = refl
find_clause-append (pair ∷ rest) more q =
    elim (eqb pair.0 q) as (λ b. cond b (Some pair.1) (find_clause (rest ++ more) q) ≡ option_or (cond b (Some pair.1) (find_clause rest q)) (find_clause more q)) [
      | true ↦ refl
      | false ↦ find_clause-append rest more q
    ]

-- a clause that was found stays the one that is found behind an addition under another id
Holds-add : (clauses : List Clause) (done : List Inference) (before : Before) (i : Inference) (id : ℕ) (lits : Clause) (hints : List ℤ) → i.clause ≡ lits → Holds clauses done before → find_clause before.live id ≡ None → Holds clauses (done ++ i ∷ []) (behind before (Add id lits hints))
Holds-add clauses done before i id lits hints same h new = record {
  count = omega (arith, h.count, length-append done (i ∷ []));
  named = λ q clause e. by_found q clause (find_clause before.live q) refl (sym (find_clause-append before.live ((id, lits) ∷ []) q) ∙ e);
}
  where
    other : (q : ℕ) (clause : Clause) → find_clause before.live q ≡ Some clause → source_clause clauses (done ++ i ∷ []) (with_name before.names id before.count q) ≡ Some clause
    other q clause e = elim (eqb_tells id q) [
      | inl t ↦ let clash : None ≡ Some clause = sym new ∙ ap (find_clause before.live) t.1 ∙ e in absurd cc
      | inr t ↦ ap (λ b. source_clause clauses (done ++ i ∷ []) (cond b (Added before.count) (before.names q))) t.0 ∙ source_clause-more clauses done i (before.names q) clause (h.named q clause e)
    ]

    itself : (q : ℕ) (clause : Clause) → find_clause ((id, lits) ∷ []) q ≡ Some clause → source_clause clauses (done ++ i ∷ []) (with_name before.names id before.count q) ≡ Some clause
    itself q clause e = elim (eqb id q) as (λ b. cond b (Some lits) None ≡ Some clause → source_clause clauses (done ++ i ∷ []) (cond b (Added before.count) (before.names q)) ≡ Some clause) [
      | true ↦ λ e2. ap (λ k. option_map (λ (j : Inference). j.clause) (slice_get (done ++ i ∷ []) k)) h.count ∙ ap (option_map (λ (j : Inference). j.clause)) (slice_get-last done [] i) ∙ ap (λ (c : Clause). Some c) same ∙ e2
      | false ↦ λ e2. absurd cc
    ] e

    by_found : (q : ℕ) (clause : Clause) (o : Option Clause) → find_clause before.live q ≡ o → option_or (find_clause before.live q) (find_clause ((id, lits) ∷ []) q) ≡ Some clause → source_clause clauses (done ++ i ∷ []) (with_name before.names id before.count q) ≡ Some clause
    by_found q clause None is e = itself q clause (sym (ap (λ o. option_or o (find_clause ((id, lits) ∷ []) q)) is) ∙ e)
    by_found q clause (Some other_clause) is e = other q clause (is ∙ sym (ap (λ o. option_or o (find_clause ((id, lits) ∷ []) q)) is) ∙ e)

-- where clauses are kept by their ids
find_clause-dropped : (keep : ℕ → Bool) (live : Live) (q : ℕ) → keep q ≡ false → find_clause (filter (λ pair. keep pair.0) live) q ≡ None
find_clause-dropped keep [] q e = refl
find_clause-dropped keep (pair ∷ rest) q e = elim (eqb_tells pair.0 q) [
  | inl t ↦ ap (λ k. find_clause (cond k (pair ∷ filter (λ p. keep p.0) rest) (filter (λ p. keep p.0) rest)) q) (ap keep t.1 ∙ e) ∙ find_clause-dropped keep rest q e
  | inr t ↦ elim (keep pair.0) as (λ k. find_clause (cond k (pair ∷ filter (λ p. keep p.0) rest) (filter (λ p. keep p.0) rest)) q ≡ None) [
    | true ↦ ap (λ b. cond b (Some pair.1) (find_clause (filter (λ p. keep p.0) rest) q)) t.0 ∙ find_clause-dropped keep rest q e
    | false ↦ find_clause-dropped keep rest q e
  ]
]

pub find_clause-kept : (keep : ℕ → Bool) (live : Live) (q : ℕ) (clause : Clause) → find_clause (filter (λ pair. keep pair.0) live) q ≡ Some clause → find_clause live q ≡ Some clause
find_clause-kept keep [] q clause e = e
find_clause-kept keep (pair ∷ rest) q clause e =
    elim (keep pair.0) as (λ k. keep pair.0 ≡ k → find_clause (cond k (pair ∷ filter (λ p. keep p.0) rest) (filter (λ p. keep p.0) rest)) q ≡ Some clause → find_clause (pair ∷ rest) q ≡ Some clause) [
      | true ↦ λ _ h. elim (eqb pair.0 q) as (λ b. cond b (Some pair.1) (find_clause (filter (λ p. keep p.0) rest) q) ≡ Some clause → cond b (Some pair.1) (find_clause rest q) ≡ Some clause) [
        | true ↦ λ g. g
        | false ↦ λ g. find_clause-kept keep rest q clause g
      ] h
      | false ↦ λ out h. elim (eqb_tells pair.0 q) [
        | inl t ↦ let clash : None ≡ Some clause = sym (find_clause-dropped keep rest q (sym (ap keep t.1) ∙ out)) ∙ h in absurd cc
        | inr t ↦ ap (λ b. cond b (Some pair.1) (find_clause rest q)) t.0 ∙ find_clause-kept keep rest q clause h
      ]
    ] refl e

Holds-del : (clauses : List Clause) (done : List Inference) (before : Before) (ids : List ℕ) → Holds clauses done before → Holds clauses done (behind before (Del ids))
Holds-del clauses done before ids h = record {
  count = h.count;
  named = λ q clause e. h.named q clause (find_clause-kept (λ p. not (list_any (λ id. eqb id p) ids)) before.live q clause e);
}

-- hints that find clauses name sources that are these clauses
named_clauses : (clauses : List Clause) (done : List Inference) (before : Before) → Holds clauses done before → (front : List ℤ) (cs : List Clause) → Finds before.live front cs → AreClauses clauses done (sources_of before.names front) cs
named_clauses clauses done before h [] [] found = tt
named_clauses clauses done before h [] (c ∷ cs) found = absurd found
named_clauses clauses done before h (pos id ∷ front) [] found = absurd found
named_clauses clauses done before h (pos id ∷ front) (c ∷ cs) found = (h.named id c found.0, named_clauses clauses done before h front cs found.1)
named_clauses clauses done before h (negsuc n ∷ front) cs found = absurd found

founded_at : (clauses : List Clause) (done : List Inference) (before : Before) (line : ℕ) (lits : Clause) (hints : List ℤ) → Holds clauses done before → FoundedBy clauses done lits (option_map (sources_of before.names) (looked_at before.live lits hints))
founded_at clauses done before line lits hints h = by_looked (looked_at before.live lits hints) refl where
  by_looked : (o : Option (List ℤ)) → looked_at before.live lits hints ≡ o → FoundedBy clauses done lits (option_map (sources_of before.names) o)
  by_looked None is = tt
  by_looked (Some front) is =
      let f = looked_finds before.live lits hints front is in
      record { named = f.clauses; are = named_clauses clauses done before h front f.clauses f.found; closes = f.closes }

-- an accepted proof's next step is good, and the empty clause or accepted behind it
pub record Accepts (live : Live) (step : Step) (steps : List Step) : Type 0 where
  pub good : fault_of live step ≡ None
  pub rest : (is_empty_addition step || are_accepted (after live step) steps) ≡ true

pub accepts : (live : Live) (step : Step) (steps : List Step) → are_accepted live (step ∷ steps) ≡ true → Accepts live step steps
accepts live step steps e =
    elim (fault_of live step) as (λ o. fault_of live step ≡ o → cond (is_none o) (is_empty_addition step || are_accepted (after live step) steps) false ≡ true → Accepts live step steps) [
      | None ↦ λ good h. record { good = good; rest = h }
      | Some fault ↦ λ _ h. absurd cc
    ] refl e

-- what is founded, and ends with the empty clause
pub record IsProof (clauses : List Clause) (done inferences : List Inference) : Type 0 where
  pub founded : AreFounded clauses done inferences
  pub ends : LastIsEmpty inferences

pub is_proof_from : (clauses : List Clause) (placed : Placed) (before : Before) (done : List Inference) → Holds clauses done before → are_accepted before.live (steps_in placed) ≡ true → IsProof clauses done (inferences_from before placed)
is_proof_from clauses [] before done h e = absurd cc
is_proof_from clauses ((line, Add id [] hints) ∷ rest) before done h e = record { founded = (founded_at clauses done before line [] hints h, tt); ends = refl }
is_proof_from clauses ((line, Add id (l ∷ ls) hints) ∷ rest) before done h e =
    let a = accepts before.live (Add id (l ∷ ls) hints) (steps_in rest) e in
    let i = inference_at before line (l ∷ ls) hints in
    let new = (adds_well before.live id (l ∷ ls) hints a.good).new in
    let more = is_proof_from clauses rest (behind before (Add id (l ∷ ls) hints)) (done ++ i ∷ []) (Holds-add clauses done before i id (l ∷ ls) hints refl h new) a.rest in
    record { founded = (founded_at clauses done before line (l ∷ ls) hints h, more.founded); ends = more.ends }
is_proof_from clauses ((line, Del ids) ∷ rest) before done h e =
    is_proof_from clauses rest (behind before (Del ids)) done (Holds-del clauses done before ids h) (accepts before.live (Del ids) (steps_in rest) e).rest

pub is_proof : (formula : Cnf) (placed : Placed) → are_accepted (numbered formula.clauses) (steps_in placed) ≡ true → IsProof formula.clauses [] (inferences_of formula placed)
is_proof formula placed e = is_proof_from formula.clauses placed (at_start formula) [] (Holds-start formula) e
