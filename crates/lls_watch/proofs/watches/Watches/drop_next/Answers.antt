use Rattle.std.proofs.Common.{◌<◌, ap, sym, subst, ◌∙◌, length, map}
use Rattle.std.proofs.lemmas.Option.{slice_get_within}
use Rattle.lls_arena.specs.Arena.{ArenaState}
use Rattle.lls_arena.specs.Links.{link_in, side_in}
use Rattle.lls_watch.specs.Watches.{WatchState, with_link_at}
use Rattle.lls_watch.proofs.Lists.{next_dropped_at}
use Rattle.lls_watch.proofs.watches.Watches.drop_next.Goals as goal

pub set_next-requires-clause-within : goal.set_next-requires-clause-within
set_next-requires-clause-within c = λ k is.
    let known = c.requires.clause k is in
    subst (λ (s : WatchState). k < length s.arena.heads) (sym c.self.view_is) (slice_get_within c.args.self.now.arena.heads k known.head known.is_head)

pub returns-clause-state : goal.returns-clause-state
returns-clause-state c = λ k is.
    ap (λ (a : ArenaState). record { arena = a; first = map link_in c.self.inside.first.items }) (c.set_next.ensures k is) ∙ ap (with_link_at k (side_in c.args.edge) (link_in c.args.next)) c.self.view_is

pub returns-clause-threaded : goal.returns-clause-threaded
returns-clause-threaded c = λ k is lists lit behind before cs threaded has_lit after.
    rw (returns-clause-state c k is) (next_dropped_at c.args.self.now lists lit k behind (side_in c.args.edge) (link_in c.args.next) before cs (c.requires.clause k is) has_lit after threaded)
