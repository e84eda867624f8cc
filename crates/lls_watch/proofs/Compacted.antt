-- An arena's live clauses, numbered anew.
use Rattle.std.proofs.Common.{◌≡◌, ◌≤◌, ◌<◌, ◌+◌, zero, suc, ℕ, Bool, true, false, cond, List, [], ◌∷◌, Some, get_or, refl, sym, ap, ◌∙◌, arith, length, map, take, zero-add}
use Rattle.std.specs.Prelude.{filter, nat_lt, slice_get}
use Rattle.std.specs.FinSet as set
use Rattle.std.proofs.lemmas.Bool.Decides.{nat_tests}
use Rattle.std.proofs.lemmas.List.{get_or-map, length-map, same_lists}
use Rattle.std.proofs.lemmas.List.Sums.{sum_by-cons}
use Rattle.lls_store.specs.Clauses.{LiveClause}
use Rattle.lls_store.specs.Removal.{new_number, renumbered}
use Rattle.lls_store.specs.Scan.{AreRising}
use Rattle.lls_store.proofs.Compacting.{new_number-at}
use Rattle.lls_arena.specs.Arena.{HeadState, live_before, unlinked}
use Rattle.lls_watch.specs.Passed.{live_from}
use Rattle.lls_watch.proofs.Changed.{some_same}

abbrev is_live_head : HeadState → Bool
is_live_head head = head.live

-- a live clause goes to the place that so many live ones before it leave
pub kept_place : (heads : List HeadState) (c : ℕ) (h : HeadState) → slice_get heads c ≡ Some h → h.live ≡ true → slice_get (filter (λ (x : HeadState). x.live) heads) (live_before heads c) ≡ Some h
kept_place [] c h found live = absurd cc
kept_place (x ∷ xs) zero h found live =
    let same : x ≡ h = some_same x h found in
    ap (λ b. slice_get (cond b (x ∷ filter is_live_head xs) (filter is_live_head xs)) zero) (ap (λ (g : HeadState). g.live) same ∙ live) ∙ ap Some same
kept_place (x ∷ xs) (suc c) h found live =
    ap (slice_get (filter is_live_head (x ∷ xs))) (sum_by-cons (λ (g : HeadState). cond g.live 1 0) x (take c xs)) ∙ by_live x.live (kept_place xs c h found live)
  where
    by_live : (b : Bool) → slice_get (filter is_live_head xs) (live_before xs c) ≡ Some h → slice_get (cond b (x ∷ filter is_live_head xs) (filter is_live_head xs)) (cond b 1 0 + live_before xs c) ≡ Some h
    by_live true later = ap (slice_get (x ∷ filter is_live_head xs)) (one_more (live_before xs c)) ∙ later
      where
        one_more : (n : ℕ) → 1 + n ≡ suc n
        one_more n = omega arith
    by_live false later = ap (slice_get (filter is_live_head xs)) (zero-add (live_before xs c)) ∙ later

-- and what stands at a place was a live clause
pub record WasKept (heads : List HeadState) (k : ℕ) (h : HeadState) : Type 0 where
  pub c : ℕ
  pub found : slice_get heads c ≡ Some h
  pub live : h.live ≡ true
  pub place : live_before heads c ≡ k

pub was_kept : (heads : List HeadState) (k : ℕ) (h : HeadState) → slice_get (filter (λ (x : HeadState). x.live) heads) k ≡ Some h → WasKept heads k h
was_kept [] k h found = absurd cc
was_kept (x ∷ xs) k h found = by_live x.live refl k found (was_kept xs)
  where
    none_yet : live_before (x ∷ xs) zero ≡ 0
    none_yet = refl

    before : (c : ℕ) → live_before (x ∷ xs) (suc c) ≡ cond x.live 1 0 + live_before xs c
    before c = sum_by-cons (λ (g : HeadState). cond g.live 1 0) x (take c xs)

    by_live : (b : Bool) → x.live ≡ b → (k : ℕ) → slice_get (cond b (x ∷ filter is_live_head xs) (filter is_live_head xs)) k ≡ Some h
        → ((k : ℕ) (h : HeadState) → slice_get (filter is_live_head xs) k ≡ Some h → WasKept xs k h) → WasKept (x ∷ xs) k h
    by_live true is zero there later =
        let same : x ≡ h = some_same x h there in
        record { c = 0; found = there; live = ap (λ (g : HeadState). g.live) (sym same) ∙ is; place = none_yet }
    by_live true is (suc k) there later =
        let it = later k h there in
        record { c = suc it.c; found = it.found; live = it.live; place = before it.c ∙ ap (λ b. cond b 1 0 + live_before xs it.c) is ∙ omega (arith, it.place) }
    by_live false is k there later =
        let it = later k h there in
        record { c = suc it.c; found = it.found; live = it.live; place = before it.c ∙ ap (λ b. cond b 1 0 + live_before xs it.c) is ∙ zero-add (live_before xs it.c) ∙ it.place }

-- the clauses are numbered from n on
abbrev pub numbered_from : ℕ → List LiveClause → List LiveClause
numbered_from n [] = []
numbered_from n (x ∷ xs) = record x { number = n } ∷ numbered_from (suc n) xs

pub live_compacted : (n m : ℕ) (heads : List HeadState) → live_from n (map unlinked (filter (λ (x : HeadState). x.live) heads)) ≡ numbered_from n (live_from m heads)
live_compacted n m [] = refl
live_compacted n m (h ∷ hs) = by_live h.live refl (live_compacted (suc n) (suc m) hs) (live_compacted n (suc m) hs)
  where
    by_live : (b : Bool) → h.live ≡ b → live_from (suc n) (map unlinked (filter is_live_head hs)) ≡ numbered_from (suc n) (live_from (suc m) hs)
        → live_from n (map unlinked (filter is_live_head hs)) ≡ numbered_from n (live_from (suc m) hs)
        → live_from n (map unlinked (cond b (h ∷ filter is_live_head hs) (filter is_live_head hs))) ≡ numbered_from n (cond b (record { number = m; id = h.id; lits = set.from_list h.lits } ∷ live_from (suc m) hs) (live_from (suc m) hs))
    by_live false is more same = same
    by_live true is more same =
        let rest = live_from (suc n) (map unlinked (filter is_live_head hs)) in
        ap (λ b. cond b (record { number = n; id = h.id; lits = set.from_list h.lits } ∷ rest) rest) is
        ∙ ap (λ ls. record { number = n; id = h.id; lits = set.from_list h.lits } ∷ ls) more

-- which is what the store says of it
numbered_get : (n : ℕ) (live : List LiveClause) (k : ℕ) (d : LiveClause) → k < length live → get_or (numbered_from n live) k d ≡ record (get_or live k d) { number = n + k }
numbered_get n [] k d within = absurd (omega (arith, within))
numbered_get n (x ∷ xs) zero d within = ap (λ (j : ℕ). record x { number = j }) (omega arith)
numbered_get n (x ∷ xs) (suc k) d within = numbered_get (suc n) xs k d (omega (arith, within)) ∙ ap (λ (j : ℕ). record (get_or xs k d) { number = j }) (omega arith)

length-numbered : (n : ℕ) (live : List LiveClause) → length (numbered_from n live) ≡ length live
length-numbered n [] = refl
length-numbered n (x ∷ xs) = ap suc (length-numbered (suc n) xs)

pub numbered_anew : (live : List LiveClause) → AreRising live → numbered_from 0 live ≡ map (renumbered live) live
numbered_anew live rising =
    same_lists (numbered_from 0 live) (map (renumbered live) live) (length-numbered 0 live ∙ sym (length-map live (renumbered live)))
    (λ k d within.
    let inside : k < length live = omega (arith, within, length-numbered 0 live) in
    numbered_get 0 live k d inside ∙ ap (λ (n : ℕ). record (get_or live k d) { number = n }) (zero-add k ∙ sym (new_number-at live k d rising inside))
    ∙ sym (get_or-map (renumbered live) live k d d inside))

-- a live clause's new number is the place that it goes to
none_less : (n k : ℕ) (heads : List HeadState) → k ≤ n → new_number (live_from n heads) k ≡ 0
none_less n k [] low = refl
none_less n k (h ∷ hs) low = by_live h.live (none_less (suc n) k hs (omega (arith, low)))
  where
    no : nat_lt n k ≡ false
    no = grind (arith, nat_tests, low)

    by_live : (b : Bool) → new_number (live_from (suc n) hs) k ≡ 0 → new_number (cond b (record { number = n; id = h.id; lits = set.from_list h.lits } ∷ live_from (suc n) hs) (live_from (suc n) hs)) k ≡ 0
    by_live false later = later
    by_live true later =
        sum_by-cons (λ (c : LiveClause). cond (nat_lt c.number k) 1 0) (record { number = n; id = h.id; lits = set.from_list h.lits }) (live_from (suc n) hs)
        ∙ ap (λ b. cond b 1 0 + new_number (live_from (suc n) hs) k) no ∙ omega (arith, later)

pub new_number-heads : (n : ℕ) (heads : List HeadState) (c : ℕ) → c ≤ length heads → new_number (live_from n heads) (n + c) ≡ live_before heads c
new_number-heads n heads zero low = none_less n (n + zero) heads (omega arith)
new_number-heads n [] (suc c) low = absurd (omega (arith, low))
new_number-heads n (h ∷ hs) (suc c) low = by_live h.live (new_number-heads (suc n) hs c (omega (arith, low))) ∙ sym (sum_by-cons (λ (g : HeadState). cond g.live 1 0) h (take c hs))
  where
    more : suc n + c ≡ n + suc c
    more = omega arith

    yes : nat_lt n (n + suc c) ≡ true
    yes = grind (arith, nat_tests)

    by_live : (b : Bool) → new_number (live_from (suc n) hs) (suc n + c) ≡ live_before hs c
        → new_number (cond b (record { number = n; id = h.id; lits = set.from_list h.lits } ∷ live_from (suc n) hs) (live_from (suc n) hs)) (n + suc c) ≡ cond b 1 0 + live_before hs c
    by_live false later = ap (new_number (live_from (suc n) hs)) (sym more) ∙ later ∙ sym (zero-add (live_before hs c))
    by_live true later =
        sum_by-cons (λ (x : LiveClause). cond (nat_lt x.number (n + suc c)) 1 0) (record { number = n; id = h.id; lits = set.from_list h.lits }) (live_from (suc n) hs)
        ∙ ap (λ b. cond b 1 0 + new_number (live_from (suc n) hs) (n + suc c)) yes
        ∙ ap (λ k. 1 + new_number (live_from (suc n) hs) k) (sym more) ∙ ap (λ k. 1 + k) later
