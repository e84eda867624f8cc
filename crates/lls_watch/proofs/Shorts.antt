-- What a clause of one literal comes to.
use Rattle.std.proofs.Common.{◌≡◌, ◌≤◌, ◌+◌, ℕ, ℤ, Bool, true, false, List, [], ◌∷◌, ◌++◌, Some, None, refl, sym, ap, ◌∙◌, subst, arith, map, zero-add}
use Rattle.std.specs.Prelude.{◌||◌, nat_lt, slice_get}
use Rattle.std.specs.Ordering.{int_eq}
use Rattle.std.specs.FinSet as set
use Rattle.std.proofs.lemmas.List.Folds.{list_any-append}
use Rattle.std.proofs.lemmas.Bool.Decides.{nat_tests}
use Rattle.lls_lit.specs.Literal.{variable_of}
use Rattle.lls_store.specs.Trail.{Entry, TrailState, Has, HasNegated, has}
use Rattle.lls_store.specs.Clauses.{LiveClause, IsIn, clause_numbered}
use Rattle.lls_store.specs.Sound.{IsForced}
use Rattle.lls_store.specs.Store.{GoesOn, IsConflict}
use Rattle.lls_store.proofs.Sets.{Contains-from_IsIn, IsIn-from_Contains}
use Rattle.lls_store.proofs.Tabled.{variable_bounds}
use Rattle.lls_arena.specs.Arena.{HeadState}
use Rattle.lls_watch.specs.Passed.{live_from}
use Rattle.lls_watch.specs.Short.{AreSatisfied, IsSatisfied, IsShort}
use Rattle.lls_watch.proofs.Changed.{some_same}
use Rattle.lls_watch.proofs.Changes.{mapped_some}
use Rattle.lls_watch.proofs.Visited.{head_numbered, live_numbered}

pub live_as_read : (heads : List HeadState) (c : ℕ) (head : HeadState) (b : Bool) → slice_get heads c ≡ Some head → slice_get (map (λ (h : HeadState). h.live) heads) c ≡ Some b → head.live ≡ b
live_as_read heads c head b found read =
    let got = mapped_some (λ (h : HeadState). h.live) heads c b read in
    ap (λ (h : HeadState). h.live) (some_same head got.0 (sym found ∙ got.1.0)) ∙ got.1.1

-- a live clause, as the store has it
pub record IsOfStore (heads : List HeadState) (c : ℕ) (ls : List ℤ) : Type 0 where
  pub clause : LiveClause
  pub is_live : clause_numbered (live_from 0 heads) c ≡ Some clause
  pub lits_are : clause.lits ≡ set.from_list ls

pub of_store : (heads : List HeadState) (c : ℕ) (ls : List ℤ) → slice_get (map (λ (h : HeadState). h.lits) heads) c ≡ Some ls → slice_get (map (λ (h : HeadState). h.live) heads) c ≡ Some true → IsOfStore heads c ls
of_store heads c ls read live =
    let got = mapped_some (λ (h : HeadState). h.lits) heads c ls read in
    record {
      clause = record { number = c; id = got.0.id; lits = set.from_list got.0.lits };
      is_live =
          subst (λ k. clause_numbered (live_from 0 heads) k ≡ Some (record { number = k; id = got.0.id; lits = set.from_list got.0.lits })) (zero-add c)
          (head_numbered 0 heads c got.0 got.1.0 (live_as_read heads c got.0 true got.1.0 live));
      lits_are = ap (λ xs. set.from_list xs) got.1.1;
    }

-- the one literal of a clause
pub record HasOne (heads : List HeadState) (vars c : ℕ) (l : ℤ) : Type 0 where
  pub clause : LiveClause
  pub is_live : clause_numbered (live_from 0 heads) c ≡ Some clause
  pub among : IsIn clause.lits l
  pub within : variable_of l ≤ vars
  pub alone : (m : ℤ) → IsIn clause.lits m → m ≡ l

pub has_one : (heads : List HeadState) (vars c : ℕ) (ls : List ℤ) (l : ℤ) → IsShort (live_from 0 heads) vars c → slice_get (map (λ (h : HeadState). h.lits) heads) c ≡ Some ls
    → slice_get (map (λ (h : HeadState). h.live) heads) c ≡ Some true → slice_get ls 0 ≡ Some l → HasOne heads vars c l
has_one heads vars c ls l short read live first =
    let it = of_store heads c ls read live in
    let one = short it.clause it.is_live in
    let among : IsIn it.clause.lits l = subst (λ xs. IsIn xs l) (sym it.lits_are) (first_in ls first) in
    record {
      clause = it.clause;
      is_live = it.is_live;
      among = among;
      within = (variable_bounds vars (variable_of l) (one.within l among)).1;
      alone = λ m there. one.alone m l there among;
    }
  where
    first_in : (xs : List ℤ) → slice_get xs 0 ≡ Some l → IsIn (set.from_list xs) l
    first_in [] none = absurd cc
    first_in (x ∷ xs) is = IsIn-from_Contains (x ∷ xs) l (0, omega arith, cc)

-- a clause without a literal is false
pub empty_conflict : (heads : List HeadState) (c : ℕ) (trail : TrailState) (ls : List ℤ) → slice_get (map (λ (h : HeadState). h.live) heads) c ≡ Some true
    → slice_get (map (λ (h : HeadState). h.lits) heads) c ≡ Some ls → slice_get ls 0 ≡ None → IsConflict (live_from 0 heads) trail c
empty_conflict heads c trail ls live read none =
    let it = of_store heads c ls read live in
    record { clause = it.clause; is_live = it.is_live; all_false = λ m among. absurd (nothing_in ls none m (subst (λ xs. IsIn xs m) it.lits_are among)) }
  where
    nothing_in : (xs : List ℤ) → slice_get xs 0 ≡ None → (m : ℤ) → IsIn (set.from_list xs) m → ⊥
    nothing_in [] none m among =
        let at = Contains-from_IsIn [] m among in
        absurd (omega (arith, at.1))
    nothing_in (x ∷ xs) some m among = absurd cc

-- so is one whose literal is false
pub one_conflict : (heads : List HeadState) (vars c : ℕ) (l : ℤ) (trail : TrailState) → HasOne heads vars c l → HasNegated trail.entries l → IsConflict (live_from 0 heads) trail c
one_conflict heads vars c l trail it is_false =
    record { clause = it.clause; is_live = it.is_live; all_false = λ m among. subst (HasNegated trail.entries) (sym (it.alone m among)) is_false }

-- one without a value is forced
pub one_forced : (heads : List HeadState) (vars c : ℕ) (l : ℤ) (es : List Entry) → HasOne heads vars c l → IsForced (live_from 0 heads) es l c
one_forced heads vars c l es it =
    record { clause = it.clause; is_live = it.is_live; stands = it.among; others_false = λ m among differs. absurd (differs (it.alone m among)) }

pub one_satisfied : (heads : List HeadState) (vars c : ℕ) (l : ℤ) (es : List Entry) → HasOne heads vars c l → Has es l → IsSatisfied (live_from 0 heads) es c
one_satisfied heads vars c l es it is_true clause live = (l, (subst (λ (x : LiveClause). IsIn x.lits l) (same it.clause clause (sym it.is_live ∙ live)) it.among, is_true))
  where
    same : (a b : LiveClause) → Some a ≡ Some b → a ≡ b
    same a b e = cc

-- a dead clause needs nothing
pub dead_satisfied : (heads : List HeadState) (c : ℕ) (es : List Entry) → slice_get (map (λ (h : HeadState). h.live) heads) c ≡ Some false → IsSatisfied (live_from 0 heads) es c
dead_satisfied heads c es dead clause live =
    let at = live_numbered 0 heads c clause (subst (λ k. clause_numbered (live_from 0 heads) k ≡ Some clause) (sym (zero-add c)) live) in
    let both : true ≡ false = sym at.1.1 ∙ live_as_read heads c at.0 false at.1.0 dead in
    absurd cc

-- what is satisfied stays so where the trail grows
pub satisfied_grown : (live : List LiveClause) (old new : TrailState) (cs : List ℕ) (n : ℕ) → GoesOn old new → AreSatisfied live old.entries cs n → AreSatisfied live new.entries cs n
satisfied_grown live old new cs n grown satisfied k c before found clause is =
    let it = satisfied k c before found clause is in
    (it.0, (it.1.0, ap (λ (t : TrailState). has t.entries it.0) grown.grown ∙ in_front old.entries it.0 it.1.1))
  where
    first_one : (a b : Bool) → a ≡ true → (a || b) ≡ true
    first_one true b is = refl
    first_one false b is = absurd cc

    in_front : (es : List Entry) (l : ℤ) → has es l ≡ true → has (es ++ grown.added) l ≡ true
    in_front es l there = list_any-append (λ (e : Entry). int_eq e.lit l) es grown.added ∙ first_one (has es l) (has grown.added l) there

-- and one clause more
pub satisfied_one : (live : List LiveClause) (es : List Entry) (cs : List ℕ) (n c : ℕ) → slice_get cs n ≡ Some c → IsSatisfied live es c → AreSatisfied live es cs n → AreSatisfied live es cs (n + 1)
satisfied_one live es cs n c here one satisfied k d before found = by_test (nat_lt k n) refl
  where
    same_number : (a b : ℕ) → Some a ≡ Some b → a ≡ b
    same_number a b e = cc

    by_test : (b : Bool) → nat_lt k n ≡ b → IsSatisfied live es d
    by_test true lower = satisfied k d (grind (arith, nat_tests, lower)) found
    by_test false upper =
        let last : k ≡ n = grind (arith, nat_tests, upper, before) in
        subst (IsSatisfied live es) (same_number c d (sym here ∙ sym (ap (slice_get cs) last) ∙ found)) one
