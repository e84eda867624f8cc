-- Where the lists begin, kept as links.
use Rattle.std.proofs.Common.{◌≡◌, ◌<◌, ℕ, zero, suc, Bool, false, List, [], ◌∷◌, Option, Some, None, refl, sym, ap, ◌∙◌, subst, arith, length, map, get_or, replicate}
use Rattle.std.specs.Prelude.{slice_index_or, slice_set}
use Rattle.std.proofs.lemmas.List.{map-set}
use Rattle.lls_arena.specs.Arena.{ArenaState, changed_at, with_link}
use Rattle.lls_arena.specs.Links.{link_in}
use Rattle.lls_arena.specs.declared.edges.Link.{Link}
use Rattle.lls_watch.specs.Watches.{WatchState, IsThreaded, attached, list_of, with_first, with_link_at}

abbrev watches_in : ArenaState → List (Option ℕ) → WatchState
watches_in arena first = record { arena = arena; first = first }

pub same_watches : (a b : ArenaState) (f g : List (Option ℕ)) → a ≡ b → f ≡ g → watches_in a f ≡ watches_in b g
same_watches a b f g arena first = rw (arena, first) refl

-- the link that is read there
pub start_read : (items : List Link) (i : ℕ) (was : Link) → i < length items → was ≡ get_or items i was → slice_index_or (map link_in items) i None ≡ link_in was
start_read [] i was lt is = absurd (omega (arith, lt))
start_read (x ∷ xs) zero was lt is = ap link_in (sym is)
start_read (x ∷ xs) (suc i) was lt is = start_read xs i was (omega (arith, lt)) is

-- one list begins elsewhere
pub start_set : (arena : ArenaState) (items : List Link) (i k : ℕ) (start : Link) → i ≡ k → record { arena = arena; first = map link_in (slice_set items i start) } ≡ with_first k (link_in start) (record { arena = arena; first = map link_in items })
start_set arena items i k start is = same_watches arena arena _ _ refl (map-set link_in items i start ∙ ap (λ n. slice_set (map link_in items) n (link_in start)) is)

-- one list begins with a clause that leads on to where it began
pub start_attached : (arena new : ArenaState) (items : List Link) (c i : ℕ) (w : Bool) (was start : Link) → list_of (record { arena = arena; first = map link_in items }) c w ≡ i → i < length items → was ≡ get_or items i was
    → new ≡ record arena { heads = changed_at (with_link w (link_in was)) c arena.heads; planned = false } → link_in start ≡ Some c
    → record { arena = new; first = map link_in (slice_set items i start) } ≡ attached c w (record { arena = arena; first = map link_in items })
start_attached arena new items c i w was start list lt is made begins =
    let old : WatchState = record { arena = arena; first = map link_in items } in
    subst (λ k. record { arena = new; first = map link_in (slice_set items i start) } ≡ with_first k (Some c) (with_link_at c w (slice_index_or old.first k None) old)) (sym list)
    (same_watches new (with_link_at c w (slice_index_or old.first i None) old).arena _ _
    (made ∙ ap (λ (next : Option ℕ). record arena { heads = changed_at (with_link w next) c arena.heads; planned = false }) (sym (start_read items i was lt is)))
    (map-set link_in items i start ∙ ap (slice_set (map link_in items) i) begins))

-- none begins with a clause
pub none_begin : (link : Link) (items : List Link) → link_in link ≡ None → map link_in (map (λ (_ : Link). link) items) ≡ map (λ (_ : Option ℕ). None) (map link_in items)
none_begin link [] none = refl
none_begin link (x ∷ xs) none = rw (none, none_begin link xs none) refl

pub starts_replicated : (link : Link) (n : ℕ) → link_in link ≡ None → map link_in (replicate n link) ≡ replicate n None
starts_replicated link zero none = refl
starts_replicated link (suc n) none = rw (none, starts_replicated link n none) refl

no_start : (n i : ℕ) → slice_index_or {A = Option ℕ} (replicate n None) i None ≡ None
no_start zero i = refl
no_start (suc n) zero = refl
no_start (suc n) (suc i) = no_start n i

pub none_begins : (arena : ArenaState) (n : ℕ) → IsThreaded (record { arena = arena; first = replicate n None }) (λ _. [])
none_begins arena n = record { chained = λ i _. no_start n i; once = λ _ _. _ }
