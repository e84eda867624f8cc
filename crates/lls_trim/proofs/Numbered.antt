-- What the ids of live clauses name has a number, and so has what hints name that are looked at.
use Rattle.std.proofs.Common.{◌≡◌, ℕ, zero, suc, ◌<◌, ◌≤◌, true, false, not, cond, List, [], ◌∷◌, All, length, take, Option, Some, None, sym, ap, ◌∙◌, subst, arith, eqb}
use Rattle.std.specs.Prelude.{ℤ, pos, negsuc, Ok, slice_get}
use Rattle.std.specs.List.{list_any}
use Rattle.std.specs.Option.{option_map, option_or, ForSome}
use Rattle.std.proofs.lemmas.List.Elements.{All-nil, All-cons, All-head, All-tail}
use Rattle.std.proofs.lemmas.Option.{same_Some}
use Rattle.lls_cnf.specs.declared.formula.TheConstants.Formula.{MOST_CLAUSES}
use Rattle.lls_lit.specs.Formula.{Clause, Cnf}
use Rattle.lls_lit.specs.Literal.{variable_of}
use Rattle.lls_prooflog.specs.declared.step.Step.{Step}
use Rattle.lls_prooflog.specs.declared.step.Step.TheVariants.{Add, Del}
use Rattle.lls_prooflog.specs.declared.step_fault.StepFault.{StepFault}
use Rattle.lls_prooflog.specs.Steps.{Live, numbered, find_clause, fault_of, after}
use Rattle.lls_lrat.specs.Checking.{Checking, after_fault, stepped}
use Rattle.lls_lrat.specs.Looked.{looked_at}
use Rattle.lls_trim.specs.declared.inferences.TheConstants.Inferences.{MOST}
use Rattle.lls_trim.specs.declared.source.Source.{Source}
use Rattle.lls_trim.specs.declared.source.Source.TheVariants.{Given, Added}
use Rattle.lls_trim.specs.Inferences.{with_name, sources_of}
use Rattle.lls_trim.specs.Numbers.{IsNumbered}
use Rattle.lls_trim.specs.Recording.{AreNumbered}
use Rattle.lls_trim.proofs.Walks.{Finds, looked_finds}
use Rattle.lls_trim.proofs.Founded.{find_clause-append, find_clause-kept}
use Rattle.lls_trim.proofs.Laws.{given_within}

-- at the start each live clause is one of the formula's
pub numbered-start : (formula : Cnf) (live : Live) (names : ℕ → Source) → length formula.clauses ≤ MOST_CLAUSES → live ≡ numbered formula.clauses → names ≡ Given → AreNumbered live names
numbered-start formula live names few live_is names_is = rw (live_is, names_is) (λ q clause e. omega (arith, few, (given_within formula.clauses q clause e).1))

-- the live clauses behind a step
pub live-stepped : (before behind : Checking) (step : Step) → before.done ≡ false → stepped before step ≡ Ok behind → behind.live ≡ after before.live step
live-stepped before behind step going e = by_fault (fault_of before.live step) (sym (ap (λ b. cond b (Ok before) (after_fault before step (fault_of before.live step))) going) ∙ e) where
  by_fault : (o : Option StepFault) → after_fault before step o ≡ Ok behind → behind.live ≡ after before.live step
  by_fault None h = cc
  by_fault (Some fault) h = absurd cc

module _ (live : Live) (names : ℕ → Source) (are : AreNumbered live names) where
  -- behind an addition
  pub numbered-add : (live2 : Live) (names2 : ℕ → Source) (id count : ℕ) (lits : Clause) (hints : List ℤ) → count ≤ MOST → live2 ≡ after live (Add id lits hints) → names2 ≡ with_name names id count → AreNumbered live2 names2
  numbered-add live2 names2 id count lits hints few live_is names_is = rw (live_is, names_is) (λ q clause e. at q clause (sym (find_clause-append live ((id, lits) ∷ []) q) ∙ e)) where
    left : (o : Option Clause) (clause : Clause) → option_or o None ≡ Some clause → o ≡ Some clause
    left None clause h = h
    left (Some c) clause h = h

    at : (q : ℕ) (clause : Clause) → option_or (find_clause live q) (find_clause ((id, lits) ∷ []) q) ≡ Some clause → IsNumbered (with_name names id count q)
    at q clause = elim (eqb id q) as (λ b. option_or (find_clause live q) (cond b (Some lits) None) ≡ Some clause → IsNumbered (cond b (Added count) (names q))) [
      | true ↦ λ _. few
      | false ↦ λ h. are q clause (left (find_clause live q) clause h)
    ]

  -- and behind a deletion
  pub numbered-del : (live2 : Live) (ids : List ℕ) → live2 ≡ after live (Del ids) → AreNumbered live2 names
  numbered-del live2 ids is = rw is (λ q clause e. are q clause (find_clause-kept (λ p. not (list_any (λ id. eqb id p) ids)) live q clause e))

  -- hints that find live clauses
  numbered_finds : (front : List ℤ) (cs : List Clause) → Finds live front cs → All IsNumbered (sources_of names front)
  numbered_finds [] cs found = All-nil IsNumbered
  numbered_finds (pos id ∷ front) [] found = absurd found
  numbered_finds (pos id ∷ front) (c ∷ cs) found =
      All-cons IsNumbered (names id) (sources_of names front) (are id c found.0) (numbered_finds front cs found.1)
  numbered_finds (negsuc n ∷ front) cs found = absurd found

  -- as those do that are looked at
  pub numbered_looked : (lits : Clause) (hints : List ℤ) (looked : Option ℕ) → option_map (λ n. take n hints) looked ≡ looked_at live lits hints → ForSome looked (λ n. All IsNumbered (sources_of names (take n hints)))
  numbered_looked lits hints looked is n e =
      let f = looked_finds live lits hints (take n hints) (sym is ∙ ap (option_map (λ m. take m hints)) e) in
      numbered_finds (take n hints) f.clauses f.found

-- one of so many hints
pub numbered_at : (names : ℕ → Source) (hints : List ℤ) (count k : ℕ) (hint : ℤ) → All IsNumbered (sources_of names (take count hints)) → k < count → slice_get hints k ≡ Some hint → IsNumbered (names (variable_of hint))
numbered_at names [] count k hint all lt e = absurd cc
numbered_at names (h ∷ hints) zero k hint all lt e = absurd (omega arith)
numbered_at names (h ∷ hints) (suc count) zero hint all lt e =
    subst (λ (g : ℤ). IsNumbered (names (variable_of g))) (same_Some h hint e) (All-head IsNumbered (names (variable_of h)) (sources_of names (take count hints)) all)
numbered_at names (h ∷ hints) (suc count) (suc k) hint all lt e =
    numbered_at names hints count k hint (All-tail IsNumbered (names (variable_of h)) (sources_of names (take count hints)) all) (omega arith) e
