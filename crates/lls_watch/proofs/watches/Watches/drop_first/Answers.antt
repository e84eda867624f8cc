use Rattle.std.proofs.Common.{◌≡◌, map, subst}
use Rattle.std.specs.Prelude.{slice_set}
use Rattle.lls_lit.specs.Literal.{index_of}
use Rattle.lls_arena.specs.Links.{link_in}
use Rattle.lls_watch.specs.Watches.{WatchState, with_first}
use Rattle.lls_watch.proofs.Starts.{start_set}
use Rattle.lls_watch.proofs.Lists.{first_dropped_at}
use Rattle.lls_watch.proofs.watches.Watches.drop_first.Goals as goal

pub returns-clause-state : goal.returns-clause-state
returns-clause-state c =
    let m = c.self.inside in
    subst (λ (s : WatchState). record { arena = m.arena; first = map link_in (slice_set m.first.items c.index.result c.args.next) } ≡ with_first (index_of c.args.lit) (link_in c.args.next) s) c.self.view_is
    (start_set m.arena m.first.items c.index.result (index_of c.args.lit) c.args.next c.index.ensures.place)

pub returns-clause-threaded : goal.returns-clause-threaded
returns-clause-threaded c = λ lists first cs threaded begins.
    rw (returns-clause-state c) (first_dropped_at c.args.self.now lists c.args.lit first (link_in c.args.next) cs c.index.ensures.literal c.requires begins threaded)
