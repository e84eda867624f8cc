use Rattle.std.proofs.Common.{◌≡◌, map, true, false, ap, sym, subst, ◌∙◌, arith}
use Rattle.lls_arena.specs.Arena.{ArenaState}
use Rattle.lls_arena.specs.Links.{link_in}
use Rattle.lls_watch.specs.Watches.{WatchState, IsThreaded, WatchesAt, attached, swapped_at, with_begun}
use Rattle.lls_watch.proofs.Begun.{begun_first, begun_second, begun_threaded}
use Rattle.lls_watch.proofs.watches.Watches.begin.Goals as goal

pub swap-requires-clause-beside : goal.swap-requires-clause-beside
swap-requires-clause-beside c = λ same. omega (arith, c.requires.clause.behind, same)

pub attach-requires : goal.attach-requires
attach-requires c =
    let m = c.self.inside in
    let mid : record { arena = c.swap.new.self; first = map link_in m.first.items } ≡ swapped_at c.args.self.now c.args.c true c.args.n =
    ap (λ (a : ArenaState). record { arena = a; first = map link_in m.first.items }) c.swap.ensures.state ∙ ap (λ (s : WatchState). swapped_at s c.args.c true c.args.n) c.self.view_is in
    record { clause = subst (λ (s : WatchState). WatchesAt s c.args.c false) (sym mid) (begun_first c.args.self.now c.args.c c.args.n c.requires.clause) }

pub attach-requires-2 : goal.attach-requires-2
attach-requires-2 c =
    let m = c.self.inside in
    let mid : record { arena = c.swap.new.self; first = map link_in m.first.items } ≡ swapped_at c.args.self.now c.args.c true c.args.n =
    ap (λ (a : ArenaState). record { arena = a; first = map link_in m.first.items }) c.swap.ensures.state ∙ ap (λ (s : WatchState). swapped_at s c.args.c true c.args.n) c.self.view_is in
    record {
      clause =
          subst (λ (s : WatchState). WatchesAt s c.args.c true) (sym (c.attach.ensures.state ∙ ap (attached c.args.c false) mid)) (begun_second c.args.self.now c.args.c c.args.n c.requires.clause);
    }

pub returns-clause-threaded : goal.returns-clause-threaded
returns-clause-threaded c = λ lists threaded none.
    let m = c.self.inside in
    let mid : record { arena = c.swap.new.self; first = map link_in m.first.items } ≡ swapped_at c.args.self.now c.args.c true c.args.n =
    ap (λ (a : ArenaState). record { arena = a; first = map link_in m.first.items }) c.swap.ensures.state ∙ ap (λ (s : WatchState). swapped_at s c.args.c true c.args.n) c.self.view_is in
    subst (λ (s : WatchState). IsThreaded s (with_begun lists c.args.self.now c.args.c c.args.n)) (sym (c.attach-2.ensures.state ∙ ap (attached c.args.c true) (c.attach.ensures.state ∙ ap (attached c.args.c false) mid)))
    (begun_threaded c.args.self.now lists c.args.c c.args.n c.requires.clause threaded none)
