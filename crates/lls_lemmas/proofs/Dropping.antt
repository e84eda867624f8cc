-- Clauses that hold for any values, as they are taken out.
use Rattle.std.proofs.Common.{◌≡◌, ◌≢◌, ℕ, Bool, true, false, not, ◌||◌, cond, List, [], ◌∷◌, Some, refl, sym, ap, subst, ◌∙◌, inl, inr}
use Rattle.std.specs.Prelude.{ℤ, ◌==◌, Contains}
use Rattle.std.proofs.lemmas.Bool.Decides.{Decides-eqb}
use Rattle.std.proofs.lemmas.Option.{same_Some}
use Rattle.lls_lit.specs.Formula.{Clause, Cnf}
use Rattle.lls_prooflog.specs.UnitWalk.{Live, find_clause}
use Rattle.lls_prooflog.specs.Steps.{after}
use Rattle.lls_prooflog.specs.Spent.{IsGood, LogState, live_after}
use Rattle.lls_prooflog.specs.declared.step.Step.{Step}
use Rattle.lls_prooflog.specs.declared.step.Step.TheVariants.{Add, Del}
use Rattle.lls_store.specs.Clauses.{LiveClause}
use Rattle.lls_store.specs.Removal.{all_but}
use Rattle.lls_analyse.proofs.Gathering.{first_or_later, nothing_there}
use Rattle.lls_lemmas.specs.declared.index.Index.{Index}
use Rattle.lls_lemmas.specs.Indexed.{IsFound, IsIndexed, IsLinked}
use Rattle.lls_lemmas.specs.Lemmas.{is_tautology, DeletesOne, DropsTautology, GoesOnBy, HasNoFault, KeepsPlain}
use Rattle.lls_lemmas.proofs.Logs.{live_after-push, well-one}
use Rattle.lls_lemmas.proofs.Tautologies.{same_tautology}
use Rattle.lls_lemmas.proofs.Without.{of_all_but}

-- nothing is wrong with such a step
pub drops_well : (state : LogState) (step : Step) → DropsTautology state step → HasNoFault state step
drops_well state (Add id lits hints) drops = absurd drops
drops_well state (Del ids) drops = refl

pub drops_good : (state : LogState) (step : Step) → DropsTautology state step → IsGood state step
drops_good state (Add id lits hints) drops = absurd drops
drops_good state (Del ids) drops = tt

-- no clause of the number that is left out is left
pub not_left : (live : List LiveClause) (number : ℕ) (c : LiveClause) → Contains (all_but live number) c → c.number ≢ number
not_left [] number c inside same = absurd (nothing_there c inside)
not_left (x ∷ xs) number c inside same = by_test (x.number == number) refl inside (λ there. not_left xs number c there same) where
  by_test : (b : Bool) → (x.number == number) ≡ b → Contains (cond (not b) (x ∷ all_but xs number) (all_but xs number)) c → (Contains (all_but xs number) c → ⊥) → ⊥
  by_test true is there rest = rest there
  by_test false is there rest = elim (first_or_later x (all_but xs number) c there) [
    | inl equal ↦ (let clash : false ≡ true = sym is ∙ (Decides-eqb x.number number).1 (ap (λ (y : LiveClause). y.number) equal ∙ same) in absurd cc)
    | inr on ↦ rest on
  ]

-- a clause of another id is found as before
find_other : (live : Live) (id q : ℕ) (clause : Clause) → id ≢ q → find_clause live q ≡ Some clause → find_clause (after live (Del (id ∷ []))) q ≡ Some clause
find_other [] id q clause other found = absurd cc
find_other (p ∷ ps) id q clause other found = by (id == p.0) refl (p.0 == q) refl found (λ there. find_other ps id q clause other there) where
  by : (a : Bool) → (id == p.0) ≡ a → (b : Bool) → (p.0 == q) ≡ b → cond b (Some p.1) (find_clause ps q) ≡ Some clause → (find_clause ps q ≡ Some clause → find_clause (after ps (Del (id ∷ []))) q ≡ Some clause)
      → find_clause (cond (not (a || false)) (p ∷ after ps (Del (id ∷ []))) (after ps (Del (id ∷ [])))) q ≡ Some clause
  by true is true is' there rest = absurd (other ((Decides-eqb id p.0).0 is ∙ (Decides-eqb p.0 q).0 is'))
  by true is false is' there rest = rest there
  by false is true is' there rest = ap (λ b. cond b (Some p.1) (find_clause (after ps (Del (id ∷ []))) q)) is' ∙ there
  by false is false is' there rest = ap (λ b. cond b (Some p.1) (find_clause (after ps (Del (id ∷ []))) q)) is' ∙ rest there

module _ (formula : Cnf) (old new : List Step) (lits : List ℤ) (d : DeletesOne formula old new lits) (both : is_tautology lits ≡ true) where
  gone_tautology : is_tautology d.was_live.clause ≡ true
  gone_tautology = same_tautology lits d.was_live.clause (sym d.was_live.same_literals) both

  -- the deletion of a clause that holds for any values
  pub drops_one : GoesOnBy DropsTautology formula old new
  drops_one = subst (GoesOnBy DropsTautology formula old) (sym d.deleted) (well-one DropsTautology formula old (Del (d.was_live.id ∷ [])) (d.was_live.clause, d.was_live.found, gone_tautology))

  -- takes no other out
  pub keeps_others : KeepsPlain formula old new
  keeps_others q clause found plain =
      let P : List Step → Type 0 = λ steps. find_clause (live_after formula steps) q ≡ Some clause in
      subst P (sym d.deleted) (ap (λ (live : Live). find_clause live q) (live_after-push formula old (Del (d.was_live.id ∷ []))) ∙ find_other (live_after formula old) d.was_live.id q clause other found)
    where
      other : d.was_live.id ≢ q
      other same =
          let equal = same_Some d.was_live.clause clause (sym d.was_live.found ∙ ap (find_clause (live_after formula old)) same ∙ found) in
          let clash : false ≡ true = sym plain ∙ ap is_tautology (sym equal) ∙ gone_tautology in
          absurd cc

-- an index that has all clauses but one
pub found_without : (vars : ℕ) (old new : Index) (live : List LiveClause) (number : ℕ) → IsFound vars old live → IsLinked new → ((clause : LiveClause) → clause.number ≢ number → IsIndexed vars old clause → IsIndexed vars new clause) → IsFound vars new (all_but live number)
found_without vars old new live number f linked keeps = record {
  indexes = record { linked = linked; each = λ clause inside. keeps clause (not_left live number clause inside) (f.indexes.each clause (of_all_but live number clause inside)) };
  plain = λ clause inside. f.plain clause (of_all_but live number clause inside);
}
