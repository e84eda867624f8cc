-- What a learnt clause is for the search.
use Rattle.std.proofs.Common.{◌≡◌, ◌<◌, ◌≤◌, ℕ, true, List, Some, length, sym, ap, ◌∙◌, subst, arith}
use Rattle.std.specs.Prelude.{ℤ, IfSome}
use Rattle.std.specs.FinSet as set
use Rattle.lls_lit.specs.Formula.{is_within}
use Rattle.lls_prooflog.specs.UnitWalk.{Live}
use Rattle.lls_prooflog.specs.Spent.{AddsFresh, SomeCanBeLearnt}
use Rattle.lls_prooflog.specs.declared.step.Step.{Step}
use Rattle.lls_prooflog.proofs.Soundness.{walk_is_good}
use Rattle.lls_store.specs.Clauses.{LiveClause, Literals, clause_numbered}
use Rattle.lls_store.specs.Store.{StoreState, AreLive}
use Rattle.lls_store.specs.Trail.{TrailState}
use Rattle.lls_store.specs.Uip.{HasOneCurrent}
use Rattle.lls_store.proofs.Sets.{Contains-from_IsIn, IsIn-from_Contains}
use Rattle.lls_analyse.specs.Learnt.{IsBack, alone, highest, Learns}
use Rattle.lls_analyse.specs.Spelled.{Spells}
use Rattle.lls_solver.specs.Course.{AreClosedBelow}
use Rattle.lls_analyse.specs.Valued.{HaveValues}
use Rattle.lls_analyse.proofs.Valued.{all_have_values}
use Rattle.lls_solver.proofs.Below.{closed_at_current}
use Rattle.lls_solver.proofs.Clauses.{sealed_clause}

pub back_most : (t : TrailState) (lits : List ℤ) (back : ℕ) → IsBack t lits back → back ≤ t.current
back_most t lits _ (alone one) = omega arith
back_most t lits _ (highest l back contains of_level below bound) = omega (arith, below)

pub some_literal : (t : TrailState) (lits : List ℤ) → HasOneCurrent t (set.from_list lits) → 0 < length lits
some_literal t lits one = let at = Contains-from_IsIn lits one.one one.is_current.is_in in omega (arith, at.1)

-- it is fresh over the clauses of a proof that spell the store's
pub adds_learnt : (vars : ℕ) (pairs : Live) (old new : StoreState) (t : TrailState) (conflict id back : ℕ) (before after : List Step) → (learns : Learns old new t conflict id back before after) → Spells old.live pairs → t.vars ≡ vars → 0 < t.current → AreClosedBelow old.live t → AddsFresh vars pairs learns.lits
adds_learnt vars pairs old new t conflict id back before after learns spelled same above closed = record {
  fresh = learns.fresh (closed_at_current old.live t above closed) pairs spelled;
  some = some_literal t learns.lits learns.clause.one_current;
  once = learns.clause.once;
  within = subst (λ n. is_within n learns.lits ≡ true) same learns.clause.within;
}

-- and its hints lead to it
pub further_learnt : (vars : ℕ) (pairs : Live) (old new : StoreState) (t : TrailState) (conflict id back : ℕ) (before after : List Step) → (learns : Learns old new t conflict id back before after) → Spells old.live pairs → AddsFresh vars pairs learns.lits → SomeCanBeLearnt vars pairs
further_learnt vars pairs old new t conflict id back before after learns spelled adds = (
  learns.lits,
  (
    learns.hints,
    record {
      fresh = adds.fresh;
      once = adds.once;
      within = adds.within;
      positive = learns.step.positive;
      closes = walk_is_good pairs id learns.lits learns.hints (learns.step.good pairs spelled);
    },
  ),
)

-- its literals have values, as the store tells them
pub learnt_values : (old new : StoreState) (t : TrailState) (conflict id back number : ℕ) (before after : List Step) (lits : List ℤ) → Learns old new t conflict id back before after → AreLive new → number ≡ old.count
    → IfSome (clause_numbered new.live number) (λ clause. set.from_list lits ≡ clause.lits) → HaveValues t.entries lits
learnt_values old new t conflict id back number before after lits learns live last read =
    let stored = sealed_clause old id learns.lits (subst AreLive learns.store live) in
    let found : clause_numbered new.live number ≡ Some (record { number = old.count; id = id; lits = set.from_list learns.lits }) = ap (clause_numbered new.live) last ∙ ap (λ (s : StoreState). clause_numbered s.live old.count) learns.store ∙ stored in
    let same : set.from_list lits ≡ set.from_list learns.lits = subst (λ o. IfSome o (λ (clause : LiveClause). set.from_list lits ≡ clause.lits)) found read in
    all_have_values t.entries lits (λ l inside. learns.clause.all_false l (Contains-from_IsIn learns.lits l (ap (λ (ls : Literals). set.contains ls l) (sym same) ∙ IsIn-from_Contains lits l inside)))
