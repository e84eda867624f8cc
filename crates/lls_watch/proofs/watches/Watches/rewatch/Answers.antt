use Rattle.std.proofs.Common.{◌≡◌, ℕ, Some, map, ap, sym, subst, ◌∙◌, arith}
use Rattle.std.specs.Prelude.{◌<◌, ◌≢◌, Bool, true, false, length, not, pos, slice_get, slice_index_or, IfSome}
use Rattle.std.specs.Option.{option_map_or}
use Rattle.lls_lit.specs.Indices.{literal_at-index_of}
use Rattle.lls_arena.specs.Arena.{ArenaState, HeadState, changed_at, place_of, swapped}
use Rattle.lls_arena.specs.Links.{link_in, side_in}
use Rattle.lls_watch.specs.Watches.{WatchState, AttachedAt, WatchesAt, IsNotIn, IsThreaded, literal_of, swapped_at, watched, with_attached}
use Rattle.lls_watch.proofs.Changes.{read_some, rewatched, slice_get-changed_same}
use Rattle.lls_watch.proofs.Lists.{rewatched_kept, watches_again, not_in_yet}
use Rattle.lls_watch.proofs.watches.Watches.rewatch.Goals as goal

same_number : (a b : ℕ) → Some a ≡ Some b → a ≡ b
same_number a b e = cc

same_head : (a b : HeadState) → Some a ≡ Some b → a ≡ b
same_head a b e = cc

place_below : (b : Bool) → place_of b < 2
place_below true = omega arith
place_below false = omega arith

pub swap-lit-requires-clause-first : goal.swap-lit-requires-clause-first
swap-lit-requires-clause-first c = λ h found.
    let can = c.requires.clause in
    let same : can.head ≡ h = same_head can.head h (sym can.is_head ∙ sym (ap (λ (s : WatchState). slice_get s.arena.heads c.args.c) c.self.view_is) ∙ found) in
    omega (arith, can.watching.long, ap (λ (x : HeadState). length x.lits) same, place_below c.is_second.result)

pub swap-lit-requires-clause-second : goal.swap-lit-requires-clause-second
swap-lit-requires-clause-second c = λ h found.
    let can = c.requires.clause in
    let same : can.head ≡ h = same_head can.head h (sym can.is_head ∙ sym (ap (λ (s : WatchState). slice_get s.arena.heads c.args.c) c.self.view_is) ∙ found) in
    omega (arith, can.inside, ap (λ (x : HeadState). length x.lits) same)

pub swap-lit-requires-clause-beside : goal.swap-lit-requires-clause-beside
swap-lit-requires-clause-beside c = apart c.is_second.result c.requires.clause.behind
  where
    apart : (b : Bool) → 1 < c.args.n → c.args.n ≢ place_of (not b)
    apart true behind same = omega (arith, behind, same)
    apart false behind same = omega (arith, behind, same)

pub put_first-requires-clause-clause : goal.put_first-requires-clause-clause
put_first-requires-clause-clause c = λ k is.
    let m = c.self.inside in
    let w = side_in c.args.edge in
    let same : c.args.c ≡ k = same_number c.args.c k (sym c.requires.names ∙ is) in
    let mid : record { arena = c.swap-lit.new.self; first = map link_in m.first.items } ≡ swapped_at c.args.self.now c.args.c w c.args.n =
    ap (λ (a : ArenaState). record { arena = a; first = map link_in m.first.items }) c.swap-lit.ensures.state
    ∙ ap (λ v. record { arena = record m.arena { heads = changed_at (swapped (place_of v) c.args.n) c.args.c m.arena.heads }; first = map link_in m.first.items }) c.is_second.ensures
    ∙ ap (λ (s : WatchState). swapped_at s c.args.c w c.args.n) c.self.view_is in
    subst (λ n. WatchesAt (record { arena = c.swap-lit.new.self; first = map link_in m.first.items }) n w) same
    (subst (λ (s : WatchState). WatchesAt s c.args.c w) (sym mid) (watches_again c.args.self.now c.args.c w c.args.n c.requires.clause))

pub put_first-requires-clause-lit : goal.put_first-requires-clause-lit
put_first-requires-clause-lit c = λ k is.
    let m = c.self.inside in
    let w = side_in c.args.edge in
    let can = c.requires.clause in
    let same : c.args.c ≡ k = same_number c.args.c k (sym c.requires.names ∙ is) in
    let mid : record { arena = c.swap-lit.new.self; first = map link_in m.first.items } ≡ swapped_at c.args.self.now c.args.c w c.args.n =
    ap (λ (a : ArenaState). record { arena = a; first = map link_in m.first.items }) c.swap-lit.ensures.state
    ∙ ap (λ v. record { arena = record m.arena { heads = changed_at (swapped (place_of v) c.args.n) c.args.c m.arena.heads }; first = map link_in m.first.items }) c.is_second.ensures
    ∙ ap (λ (s : WatchState). swapped_at s c.args.c w c.args.n) c.self.view_is in
    let here : slice_get m.arena.heads c.args.c ≡ Some can.head = ap (λ (s : WatchState). slice_get s.arena.heads c.args.c) c.self.view_is ∙ can.is_head in
    let came : slice_index_or can.head.lits c.args.n (pos 0) ≡ c.swap-lit.result =
    read_some can.head.lits c.args.n c.swap-lit.result (subst (λ o. IfSome o (λ (head : HeadState). slice_get head.lits c.args.n ≡ Some c.swap-lit.result)) here c.swap-lit.ensures.came) in
    let taken = (rewatched w c.args.n can.head can.watching can.behind can.inside can.differ).taken in
    let read : literal_of (swapped_at c.args.self.now c.args.c w c.args.n) c.args.c w ≡ c.swap-lit.result =
    ap (λ o. option_map_or (watched w) o (pos 0)) (slice_get-changed_same (swapped (place_of w) c.args.n) c.args.c c.args.self.now.arena.heads can.head can.is_head) ∙ taken ∙ came in
    subst (λ n. literal_of (record { arena = c.swap-lit.new.self; first = map link_in m.first.items }) n w ≡ c.swap-lit.result) same
    (subst (λ (s : WatchState). literal_of s c.args.c w ≡ c.swap-lit.result) (sym mid) read)

pub returns-clause-state : goal.returns-clause-state
returns-clause-state c =
    let m = c.self.inside in
    let w = side_in c.args.edge in
    let mid : record { arena = c.swap-lit.new.self; first = map link_in m.first.items } ≡ swapped_at c.args.self.now c.args.c w c.args.n =
    ap (λ (a : ArenaState). record { arena = a; first = map link_in m.first.items }) c.swap-lit.ensures.state
    ∙ ap (λ v. record { arena = record m.arena { heads = changed_at (swapped (place_of v) c.args.n) c.args.c m.arena.heads }; first = map link_in m.first.items }) c.is_second.ensures
    ∙ ap (λ (s : WatchState). swapped_at s c.args.c w c.args.n) c.self.view_is in
    subst (λ (s : WatchState). AttachedAt c.args.c w s c.put_first.new.self) mid (c.put_first.ensures.state c.args.c c.requires.names)

pub returns-clause-threaded : goal.returns-clause-threaded
returns-clause-threaded c = λ lists threaded absent.
    let m = c.self.inside in
    let w = side_in c.args.edge in
    let can = c.requires.clause in
    let mid : record { arena = c.swap-lit.new.self; first = map link_in m.first.items } ≡ swapped_at c.args.self.now c.args.c w c.args.n =
    ap (λ (a : ArenaState). record { arena = a; first = map link_in m.first.items }) c.swap-lit.ensures.state
    ∙ ap (λ v. record { arena = record m.arena { heads = changed_at (swapped (place_of v) c.args.n) c.args.c m.arena.heads }; first = map link_in m.first.items }) c.is_second.ensures
    ∙ ap (λ (s : WatchState). swapped_at s c.args.c w c.args.n) c.self.view_is in
    let was = literal_at-index_of (watched w can.head) can.was_literal in
    let is = literal_at-index_of (slice_index_or can.head.lits c.args.n (pos 0)) can.is_literal in
    let kept = rewatched_kept c.args.self.now lists c.args.c w c.args.n can was absent threaded in
    let out = not_in_yet c.args.self.now lists c.args.c w c.args.n can is absent threaded in
    subst (λ (s : WatchState). IsThreaded c.put_first.new.self (with_attached lists s c.args.c w)) mid
    (c.put_first.ensures.threaded c.args.c c.requires.names lists (subst (λ (s : WatchState). IsThreaded s lists) (sym mid) kept) (subst (λ (s : WatchState). IsNotIn lists s c.args.c w) (sym mid) out))
