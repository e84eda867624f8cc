-- A clause forces one literal at most, whose others are false, and none while all of its literals are false.
use Rattle.std.proofs.Common.{◌≡◌, ◌≢◌, ℕ, Bool, true, false, ◌||◌, List, ◌∷◌, ◌++◌, Some, refl, sym, ap, ◌∙◌}
use Rattle.std.specs.Prelude.{ℤ}
use Rattle.std.specs.Ordering.{int_eq}
use Rattle.std.specs.FinSet as set
use Rattle.std.proofs.lemmas.List.Folds.{list_any-append}
use Rattle.std.proofs.lemmas.Bool.Decides.{Decides-int_eq}
use Rattle.lls_lit.specs.Literal.{variable_of, negation}
use Rattle.lls_store.specs.Trail.{Entry, TrailState, has, HasNegated, IsTrail, reason_of}
use Rattle.lls_store.specs.Clauses.{LiveClause, IsIn, clause_numbered}
use Rattle.lls_store.specs.Sound.{IsSound}
use Rattle.lls_store.specs.Store.{IsConflict}
use Rattle.lls_store.proofs.ReasonFound.{IsReason, reason_found}
use Rattle.lls_analyse.proofs.Trails.{consistent_trail}
use Rattle.lls_analyse.proofs.Resolving.{same_found}

has-left : (es before after : List Entry) (l : ℤ) → es ≡ before ++ after → has before l ≡ true → has es l ≡ true
has-left es before after l splits is = ap (λ xs. has xs l) splits ∙ list_any-append (λ (x : Entry). int_eq x.lit l) before after ∙ ap (λ b. b || has after l) is

has-middle : (es before after : List Entry) (e : Entry) → es ≡ before ++ e ∷ after → has es e.lit ≡ true
has-middle es before after e splits =
    ap (λ xs. has xs e.lit) splits ∙ list_any-append (λ (x : Entry). int_eq x.lit e.lit) before (e ∷ after) ∙ ap (λ b. has before e.lit || (b || has after e.lit)) ((Decides-int_eq e.lit e.lit).1 refl) ∙ or_true (has before e.lit) where
      or_true : (b : Bool) → (b || (true || has after e.lit)) ≡ true
      or_true true = refl
      or_true false = refl

-- the other literals of the clause that forced a variable's literal are false
pub others_false : (live : List LiveClause) (trail : TrailState) (v reason : ℕ) (clause : LiveClause) (m : ℤ) → IsSound live trail → reason_of trail.entries v ≡ Some reason → clause_numbered live reason ≡ Some clause → IsIn clause.lits m → variable_of m ≢ v → HasNegated trail.entries m
others_false live trail v reason clause m sound is found inside other =
    let r = reason_found live trail v reason sound is in
    let same : r.forced.clause ≡ clause = same_found r.forced.clause clause r.forced.is_live found in
    let early = r.forced.others_false m (ap (λ (c : LiveClause). set.contains c.lits m) same ∙ inside) (λ at. other (ap variable_of at ∙ r.stands.of_variable)) in
    has-left trail.entries r.stands.before (r.entry ∷ r.stands.after) (negation m) r.stands.splits early

pub forces_one : (live : List LiveClause) (trail : TrailState) (u v reason : ℕ) → IsTrail trail → IsSound live trail → reason_of trail.entries u ≡ Some reason → reason_of trail.entries v ≡ Some reason → u ≡ v
forces_one live trail u v reason kept sound of_u of_v = by_test (int_eq b.entry.lit a.entry.lit) refl where
  a : IsReason live trail.entries u reason
  a = reason_found live trail u reason sound of_u

  b : IsReason live trail.entries v reason
  b = reason_found live trail v reason sound of_v

  same_clause : b.forced.clause ≡ a.forced.clause
  same_clause = same_found b.forced.clause a.forced.clause b.forced.is_live a.forced.is_live

  b_in : IsIn a.forced.clause.lits b.entry.lit
  b_in = ap (λ (c : LiveClause). set.contains c.lits b.entry.lit) (sym same_clause) ∙ b.forced.stands

  by_test : (t : Bool) → int_eq b.entry.lit a.entry.lit ≡ t → u ≡ v
  by_test true is = sym a.stands.of_variable ∙ ap variable_of (sym ((Decides-int_eq b.entry.lit a.entry.lit).0 is)) ∙ b.stands.of_variable
  by_test false is =
      let false_ = a.forced.others_false b.entry.lit b_in (λ same. clash ((Decides-int_eq b.entry.lit a.entry.lit).1 same) is) in
      absurd (consistent_trail trail kept b.entry.lit (has-middle trail.entries b.stands.before b.stands.after b.entry b.stands.splits) (has-left trail.entries a.stands.before (a.entry ∷ a.stands.after) (negation b.entry.lit) a.stands.splits false_)) where
        clash : {x : Bool} → x ≡ true → x ≡ false → ⊥
        clash p q = cc

pub conflict_forces_none : (live : List LiveClause) (trail : TrailState) (v number : ℕ) → IsTrail trail → IsSound live trail → IsConflict live trail number → reason_of trail.entries v ≡ Some number → ⊥
conflict_forces_none live trail v number kept sound conflict of_v =
    let a = reason_found live trail v number sound of_v in
    let same : a.forced.clause ≡ conflict.clause = same_found a.forced.clause conflict.clause a.forced.is_live conflict.is_live in
    consistent_trail trail kept a.entry.lit (has-middle trail.entries a.stands.before a.stands.after a.entry a.stands.splits) (conflict.all_false a.entry.lit (ap (λ (c : LiveClause). set.contains c.lits a.entry.lit) (sym same) ∙ a.forced.stands))
