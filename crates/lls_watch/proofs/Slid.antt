-- What is said of clauses doesn't depend on their links.
use Rattle.std.proofs.Common.{◌≡◌, ◌+◌, zero, suc, ℕ, Bool, true, false, cond, List, [], ◌∷◌, refl, sym, ap, ◌∙◌, length, map, take}
use Rattle.std.specs.Prelude.{filter, slice_index_or}
use Rattle.std.specs.FinSet as set
use Rattle.std.proofs.lemmas.List.Sums.{sum_by-cons}
use Rattle.lls_store.specs.Clauses.{LiveClause}
use Rattle.lls_arena.specs.Arena.{HeadState, live_before, lives_of, unlinked}
use Rattle.lls_watch.specs.Passed.{live_from}
use Rattle.lls_watch.specs.Renumbered.{live_among, moved_among}

abbrev is_live_head : HeadState → Bool
is_live_head head = head.live

pub live_unlinked : (n : ℕ) (heads : List HeadState) → live_from n heads ≡ live_from n (map unlinked heads)
live_unlinked n [] = refl
live_unlinked n (h ∷ hs) =
    ap (λ (ls : List LiveClause). cond h.live (record { number = n; id = h.id; lits = set.from_list h.lits } ∷ ls) ls) (live_unlinked (suc n) hs)

-- which clauses are live, and under which numbers
pub live_same : (old new : List HeadState) → map unlinked new ≡ map unlinked old → live_from 0 new ≡ live_from 0 old
live_same old new same = live_unlinked 0 new ∙ ap (live_from 0) same ∙ sym (live_unlinked 0 old)

lives_unlinked : (heads : List HeadState) → lives_of heads ≡ lives_of (map unlinked heads)
lives_unlinked [] = refl
lives_unlinked (h ∷ hs) = ap (λ bs. h.live ∷ bs) (lives_unlinked hs)

pub lives_same : (old new : List HeadState) → map unlinked new ≡ map unlinked old → lives_of new ≡ lives_of old
lives_same old new same = lives_unlinked new ∙ ap lives_of same ∙ sym (lives_unlinked old)

before_unlinked : (heads : List HeadState) (c : ℕ) → live_before heads c ≡ live_before (map unlinked heads) c
before_unlinked heads zero = refl
before_unlinked [] (suc c) = refl
before_unlinked (h ∷ hs) (suc c) =
    sum_by-cons (λ (g : HeadState). cond g.live 1 0) h (take c hs) ∙ ap (λ n. cond h.live 1 0 + n) (before_unlinked hs c) ∙ sym (sum_by-cons (λ (g : HeadState). cond g.live 1 0) (unlinked h) (take c (map unlinked hs)))

pub before_same : (old new : List HeadState) (c : ℕ) → map unlinked new ≡ map unlinked old → live_before new c ≡ live_before old c
before_same old new c same = before_unlinked new c ∙ ap (λ hs. live_before hs c) same ∙ sym (before_unlinked old c)

-- the live ones among numbers, and where they go to
pub among_same : (old new : List HeadState) (cs : List ℕ) → map unlinked new ≡ map unlinked old → live_among new cs ≡ live_among old cs
among_same old new cs same = ap (λ (bs : List Bool). filter (λ c. slice_index_or bs c false) cs) (lives_same old new same)

pub moved_same : (old new : List HeadState) (cs : List ℕ) → map unlinked new ≡ map unlinked old → moved_among new cs ≡ moved_among old cs
moved_same old new cs same = each (live_among new cs) ∙ ap (map (live_before old)) (among_same old new cs same)
  where
    each : (ks : List ℕ) → map (live_before new) ks ≡ map (live_before old) ks
    each [] = refl
    each (k ∷ ks) = ap (λ j. j ∷ map (live_before new) ks) (before_same old new k same) ∙ ap (λ js. live_before old k ∷ js) (each ks)

-- the live ones of clauses
filter_unlinked : (heads : List HeadState) → map unlinked (filter (λ (h : HeadState). h.live) heads) ≡ filter (λ (h : HeadState). h.live) (map unlinked heads)
filter_unlinked [] = refl
filter_unlinked (h ∷ hs) = by_live h.live (filter_unlinked hs)
  where
    by_live : (b : Bool) → map unlinked (filter is_live_head hs) ≡ filter is_live_head (map unlinked hs)
        → map unlinked (cond b (h ∷ filter is_live_head hs) (filter is_live_head hs)) ≡ cond b (unlinked h ∷ filter is_live_head (map unlinked hs)) (filter is_live_head (map unlinked hs))
    by_live true later = ap (λ gs. unlinked h ∷ gs) later
    by_live false later = later

unlinked_twice : (heads : List HeadState) → map unlinked (map unlinked heads) ≡ map unlinked heads
unlinked_twice [] = refl
unlinked_twice (h ∷ hs) = ap (λ gs. unlinked h ∷ gs) (unlinked_twice hs)

pub kept_same : (old new last : List HeadState) → map unlinked new ≡ map unlinked old → map unlinked last ≡ map unlinked (map unlinked (filter (λ (h : HeadState). h.live) new)) → map unlinked last ≡ map unlinked (filter (λ (h : HeadState). h.live) old)
kept_same old new last same is = is ∙ unlinked_twice (filter is_live_head new) ∙ filter_unlinked new ∙ ap (filter is_live_head) same ∙ sym (filter_unlinked old)

pub length_live : (n : ℕ) (heads : List HeadState) → length (filter (λ (h : HeadState). h.live) heads) ≡ length (live_from n heads)
length_live n [] = refl
length_live n (h ∷ hs) = by_live h.live (length_live (suc n) hs)
  where
    by_live : (b : Bool) → length (filter is_live_head hs) ≡ length (live_from (suc n) hs)
        → length (cond b (h ∷ filter is_live_head hs) (filter is_live_head hs)) ≡ length (cond b (record { number = n; id = h.id; lits = set.from_list h.lits } ∷ live_from (suc n) hs) (live_from (suc n) hs))
    by_live true later = ap suc later
    by_live false later = later
