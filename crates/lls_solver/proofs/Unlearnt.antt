-- A clause that was learnt last is taken out again.
use Rattle.std.proofs.Common.{◌≡◌, ℕ, suc, ◌<◌, List, [], ◌∷◌, ◌++◌, length, length-append, get_or, take, drop, ap, ◌∙◌, arith}
use Rattle.std.specs.Prelude.{ℤ, All}
use Rattle.std.specs.FinSet as set
use Rattle.std.proofs.Math.Seq.{get_or-append_seam, split_at, take-append_seam}
use Rattle.std.proofs.lemmas.List.{append-nil, drop_all, get_or_append_left}
use Rattle.std.proofs.lemmas.List.Elements.{All-contains}
use Rattle.lls_store.specs.Trail.{TrailState}
use Rattle.lls_store.specs.Clauses.{LiveClause}
use Rattle.lls_store.specs.Removal.{IsNoReason, all_but}
use Rattle.lls_store.specs.Sound.{IsSound}
use Rattle.lls_store.specs.Store.{StoreState, AreLive, sealed}
use Rattle.lls_store.proofs.Live.{found}
use Rattle.lls_store.proofs.Removing.{all_but-at}

-- the clause at the tail as it becomes live
abbrev learnt_clause : StoreState → ℕ → List ℤ → LiveClause
learnt_clause store id lits = record { number = store.count; id = id; lits = set.from_list lits }

-- the others have lesser numbers
before_learnt : (store : StoreState) (id : ℕ) (lits : List ℤ) → AreLive (sealed (record store { tail = lits }) id) → All (λ (c : LiveClause). c.number < store.count) store.live
before_learnt store id lits live k d lt =
    let x = learnt_clause store id lits in
    let all = store.live ++ x ∷ [] in
    let less : (get_or all k d).number < (get_or all (length store.live) d).number = live.numbers k (length store.live) d lt (omega (arith, length-append store.live (x ∷ []))) in
    let here : (get_or all k d).number ≡ (get_or store.live k d).number = ap (λ (c : LiveClause). c.number) (get_or_append_left store.live (x ∷ []) d k lt) in
    let last : (get_or all (length store.live) d).number ≡ store.count = ap (λ (c : LiveClause). c.number) (get_or-append_seam store.live x [] d) in
    omega (arith, less, here, last)

-- so without it they are as they were
pub all_but-learnt : (store : StoreState) (id : ℕ) (lits : List ℤ) → AreLive (sealed (record store { tail = lits }) id) → all_but (sealed (record store { tail = lits }) id).live store.count ≡ store.live
all_but-learnt store id lits live =
    let x = learnt_clause store id lits in
    let n = length store.live in
    all_but-at (store.live ++ x ∷ []) n store.count live.numbers (omega (arith, length-append store.live (x ∷ []))) (λ d. ap (λ (c : LiveClause). c.number) (get_or-append_seam store.live x [] d))
    ∙ ap (λ (cs : List LiveClause). cs ++ drop (suc n) (store.live ++ x ∷ [])) (take-append_seam store.live (x ∷ []))
    ∙ ap (λ (cs : List LiveClause). store.live ++ cs) (drop_all (suc n) (store.live ++ x ∷ []) (omega (arith, length-append store.live (x ∷ []))))
    ∙ append-nil store.live

-- and no literal was forced by it
pub no_reason_learnt : (store : StoreState) (id : ℕ) (lits : List ℤ) (t : TrailState) → AreLive (sealed (record store { tail = lits }) id) → IsSound store.live t → IsNoReason t.entries store.count
no_reason_learnt store id lits t live sound k d lt is =
    let forced = sound (take k t.entries) (drop (suc k) t.entries) (get_or t.entries k d) store.count (split_at t.entries k d lt) is in
    let at = found store.live store.count forced.clause forced.is_live in
    let less : forced.clause.number < store.count = All-contains (λ (c : LiveClause). c.number < store.count) store.live forced.clause (before_learnt store id lits live) at.contained in
    omega (arith, less, at.numbered)
