-- Which literals are of variables that have values: those of false literals, and of clauses that are false or forced a literal.
use Rattle.std.proofs.Common.{◌≡◌, ◌≤◌, ◌-◌, ℕ, true, false, List, Option, Some, None, is_none, get_or, refl, sym, ap, subst, ◌∙◌, inl, inr, arith}
use Rattle.std.specs.Prelude.{ℤ, Contains, IsSome, IfSome}
use Rattle.std.specs.FinSet as set
use Rattle.std.proofs.lemmas.List.Elements.{All-contains_itself}
use Rattle.std.proofs.lemmas.Bool.Decides.{eqb_tells}
use Rattle.lls_lit.specs.Literal.{variable_of, negation}
use Rattle.lls_store.specs.Trail.{Entry, TrailState, HasNegated, entry_of, reason_of}
use Rattle.lls_store.specs.Clauses.{LiveClause, Literals, clause_numbered}
use Rattle.lls_store.specs.Store.{IsConflict}
use Rattle.lls_store.specs.Sound.{IsSound}
use Rattle.lls_store.proofs.ReasonFound.{reason_found}
use Rattle.lls_store.proofs.Sets.{IsIn-from_Contains}
use Rattle.lls_store.proofs.Values.{variable_of-negation}
use Rattle.lls_analyse.specs.Valued.{HasValue, HaveValues, AllHaveValues}
use Rattle.lls_analyse.specs.Visited.{VisitedState, AreVisited, is_seen, status_of}
use Rattle.lls_analyse.specs.Marked.{AreMarked}
use Rattle.lls_analyse.proofs.LiveClauses.{forced_known, IsSome-from}
use Rattle.lls_analyse.proofs.Trails.{has_some}
use Rattle.lls_analyse.proofs.Forcing.{others_false}

pub false_has_value : (es : List Entry) (l : ℤ) → HasNegated es l → HasValue es l
false_has_value es l false_ = some (entry_of es (variable_of l)) (ap (λ v. is_none (entry_of es v)) (sym (variable_of-negation l)) ∙ has_some es (negation l) false_) where
  some : (o : Option Entry) → is_none o ≡ false → IsSome o
  some None is = absurd cc
  some (Some e) is = refl

pub all_have_values : (es : List Entry) (lits : List ℤ) → ((l : ℤ) → Contains lits l → HasNegated es l) → HaveValues es lits
all_have_values es lits all = λ k d lt. (let l = get_or lits k d in false_has_value es l (all l (All-contains_itself lits k d lt)))

-- the variable of which something is known
pub seen_has_value : (trail : TrailState) (s : VisitedState) (v : ℕ) → AreVisited s → AreMarked trail s → 1 ≤ v → is_seen (status_of s.seen v) ≡ true → IsSome (entry_of trail.entries v)
seen_has_value trail s v h marked low seen =
    let at = h.listed (v - 1) seen in
    subst (λ u. IsSome (entry_of trail.entries u)) (omega (arith, low, at.of_variable)) (false_has_value trail.entries at.lit (marked.all_false at.lit at.stands))

-- the literals of a clause
pub clause_has_values : (es : List Entry) (live : List LiveClause) (number : ℕ) (clause : LiveClause) (lits : List ℤ) → IfSome (clause_numbered live number) (AllHaveValues es) → clause_numbered live number ≡ Some clause → set.from_list lits ≡ clause.lits → HaveValues es lits
clause_has_values es live number clause lits known is_live spelled =
    let values : AllHaveValues es clause = subst (λ o. IfSome o (AllHaveValues es)) is_live known in
    λ k d lt. (let l = get_or lits k d in values l (ap (λ (ls : Literals). set.contains ls l) (sym spelled) ∙ IsIn-from_Contains lits l (All-contains_itself lits k d lt)))

pub conflict_has_values : (live : List LiveClause) (trail : TrailState) (number : ℕ) → IsConflict live trail number → IfSome (clause_numbered live number) (AllHaveValues trail.entries)
conflict_has_values live trail number conflict =
    subst (λ o. IfSome o (AllHaveValues trail.entries)) (sym conflict.is_live) (λ l inside. false_has_value trail.entries l (conflict.all_false l inside))

pub reason_has_values : (live : List LiveClause) (trail : TrailState) (v reason : ℕ) → IsSound live trail → reason_of trail.entries v ≡ Some reason → IfSome (clause_numbered live reason) (AllHaveValues trail.entries)
reason_has_values live trail v reason sound is =
    let f = (reason_found live trail v reason sound is).forced in
    let values : AllHaveValues trail.entries f.clause = λ l inside. elim (eqb_tells (variable_of l) v) [
      | inl t ↦ subst (λ u. IsSome (entry_of trail.entries u)) (sym t.1) (forced_known (entry_of trail.entries v) (IsSome-from (reason_of trail.entries v) reason is))
      | inr t ↦ false_has_value trail.entries l (others_false live trail v reason f.clause l sound is f.is_live inside t.1)
    ] in
    subst (λ o. IfSome o (AllHaveValues trail.entries)) (sym f.is_live) values
