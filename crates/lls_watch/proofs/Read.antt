-- What is read of a clause under a number is that of the live clause of that number.
use Rattle.std.proofs.Common.{◌≡◌, ◌+◌, ℕ, ℤ, Bool, true, false, List, Option, Some, None, refl, sym, ap, ◌∙◌, subst, map, zero-add}
use Rattle.std.specs.Prelude.{IfSome, is_some, slice_get}
use Rattle.std.specs.FinSet as set
use Rattle.lls_store.specs.Clauses.{LiveClause, clause_numbered}
use Rattle.lls_arena.specs.Arena.{ArenaState, HeadState}
use Rattle.lls_watch.specs.Passed.{live_from}
use Rattle.lls_watch.proofs.Changed.{some_same}
use Rattle.lls_watch.proofs.Changes.{mapped_some}
use Rattle.lls_watch.proofs.Visited.{head_numbered, live_numbered}

-- the clause that is found is that one
record IsSeen (heads : List HeadState) (c : ℕ) (clause : LiveClause) : Type 0 where
  head : HeadState
  found : slice_get heads c ≡ Some head
  live : head.live ≡ true
  same_id : clause.id ≡ head.id
  same_lits : clause.lits ≡ set.from_list head.lits

seen : (heads : List HeadState) (c : ℕ) (clause : LiveClause) → clause_numbered (live_from 0 heads) c ≡ Some clause → IsSeen heads c clause
seen heads c clause is =
    let at = live_numbered 0 heads c clause (ap (clause_numbered (live_from 0 heads)) (zero-add c) ∙ is) in
    let whole = same_clause clause (record { number = 0 + c; id = at.0.id; lits = set.from_list at.0.lits })
    (sym is ∙ ap (clause_numbered (live_from 0 heads)) (sym (zero-add c)) ∙ head_numbered 0 heads c at.0 at.1.0 at.1.1) in
    record { head = at.0; found = at.1.0; live = at.1.1; same_id = ap (λ (x : LiveClause). x.id) whole; same_lits = ap (λ (x : LiveClause). x.lits) whole }
  where
    same_clause : (a b : LiveClause) → Some a ≡ Some b → a ≡ b
    same_clause a b e = cc

if_found : (P : LiveClause → Type 0) (o : Option LiveClause) → ((clause : LiveClause) → o ≡ Some clause → P clause) → IfSome o P
if_found P (Some clause) each = each clause refl
if_found P None each = _

pub read_live : (heads : List HeadState) (c : ℕ) (b : Bool) → slice_get (map (λ (head : HeadState). head.live) heads) c ≡ Some b → b ≡ is_some (clause_numbered (live_from 0 heads) c)
read_live heads c b read =
    let at = mapped_some (λ (head : HeadState). head.live) heads c b read in
    by_value b at.0 at.1.0 at.1.1 (clause_numbered (live_from 0 heads) c) refl
  where
    by_value : (b : Bool) (head : HeadState) → slice_get heads c ≡ Some head → head.live ≡ b → (o : Option LiveClause) → clause_numbered (live_from 0 heads) c ≡ o → b ≡ is_some o
    by_value true head found is o same = ap is_some (sym (ap (clause_numbered (live_from 0 heads)) (sym (zero-add c)) ∙ head_numbered 0 heads c head found is)) ∙ ap is_some same
    by_value false head found is None same = refl
    by_value false head found is (Some clause) same =
        let it = seen heads c clause same in
        let both : true ≡ false = sym it.live ∙ ap (λ (h : HeadState). h.live) (some_same it.head head (sym it.found ∙ found)) ∙ is in
        absurd cc

pub read_id : (heads : List HeadState) (c id : ℕ) → slice_get (map (λ (head : HeadState). head.id) heads) c ≡ Some id → IfSome (clause_numbered (live_from 0 heads) c) (λ clause. id ≡ clause.id)
read_id heads c id read =
    let at = mapped_some (λ (head : HeadState). head.id) heads c id read in
    if_found (λ clause. id ≡ clause.id) (clause_numbered (live_from 0 heads) c)
    (λ clause is.
    let it = seen heads c clause is in
    sym at.1.1 ∙ ap (λ (h : HeadState). h.id) (some_same at.0 it.head (sym at.1.0 ∙ it.found)) ∙ sym it.same_id)

pub read_lits : (heads : List HeadState) (c : ℕ) (lits : List ℤ) → slice_get (map (λ (head : HeadState). head.lits) heads) c ≡ Some lits
    → IfSome (clause_numbered (live_from 0 heads) c) (λ clause. set.from_list lits ≡ clause.lits)
read_lits heads c lits read =
    let at = mapped_some (λ (head : HeadState). head.lits) heads c lits read in
    if_found (λ clause. set.from_list lits ≡ clause.lits) (clause_numbered (live_from 0 heads) c)
    (λ clause is.
    let it = seen heads c clause is in
    ap set.from_list (sym at.1.1 ∙ ap (λ (h : HeadState). h.lits) (some_same at.0 it.head (sym at.1.0 ∙ it.found))) ∙ sym it.same_lits)

-- behind an arena that is the store's
pub behind_arena : {X : Type 0} → (f : HeadState → X) (a b : ArenaState) (c : ℕ) (x : X) → a ≡ b → slice_get (map f a.heads) c ≡ Some x → slice_get (map f b.heads) c ≡ Some x
behind_arena f a b c x same read = subst (λ (s : ArenaState). slice_get (map f s.heads) c ≡ Some x) same read
