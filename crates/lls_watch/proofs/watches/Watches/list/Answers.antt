use Rattle.std.proofs.Common.{true, false, ◌∙◌, ap, sym, subst, map}
use Rattle.std.specs.Prelude.{slice_get}
use Rattle.lls_arena.specs.Arena.{HeadState}
use Rattle.lls_watch.specs.Watches.{WatchState, WatchesAt, attached}
use Rattle.lls_watch.specs.Anew.{AreLonger, IsRelinked}
use Rattle.lls_watch.proofs.Threading.{apart_head, attached_watches, listable, listable_at, none_longer, not_apart, twice_longer, twice_relinked}
use Rattle.lls_watch.proofs.watches.Watches.list.Goals as goal

pub attach-requires : goal.attach-requires
attach-requires c =
    let read = ap (λ (w : WatchState). slice_get (map (λ (h : HeadState). h.lits) w.arena.heads) c.args.c) (sym c.self.view_is) ∙ c.lits.ensures in
    let at = apart_head c.args.self.now.arena.heads c.args.c c.lits.result.now read (c.begin_apart.ensures.yes c.if-begin_apart.true) in
    record { clause = listable_at c.args.self.now c.args.c at.0 false (listable c.args.self.now c.args.c at.0 c.requires.listable at.1.0 at.1.1) }

pub attach-requires-then-begin_apart : goal.attach-requires-then-begin_apart
attach-requires-then-begin_apart c =
    let read = ap (λ (w : WatchState). slice_get (map (λ (h : HeadState). h.lits) w.arena.heads) c.args.c) (sym c.self.view_is) ∙ c.lits.ensures in
    let at = apart_head c.args.self.now.arena.heads c.args.c c.lits.result.now read (c.begin_apart.ensures.yes c.if-begin_apart.true) in
    let it = listable c.args.self.now c.args.c at.0 c.requires.listable at.1.0 at.1.1 in
    record { clause = subst (λ s. WatchesAt s c.args.c true) (sym c.attach.ensures.state) (attached_watches c.args.self.now c.args.c false true (listable_at c.args.self.now c.args.c at.0 true it)) }

pub returns-then-begin_apart-clause-relinked : goal.returns-then-begin_apart-clause-relinked
returns-then-begin_apart-clause-relinked c =
    subst (IsRelinked c.args.self.now) (sym (c.attach-then-begin_apart.ensures.state ∙ ap (attached c.args.c true) c.attach.ensures.state)) (twice_relinked c.args.self.now c.args.c)

pub returns-then-begin_apart-clause-longer : goal.returns-then-begin_apart-clause-longer
returns-then-begin_apart-clause-longer c = λ lists threaded none.
    let read = ap (λ (w : WatchState). slice_get (map (λ (h : HeadState). h.lits) w.arena.heads) c.args.c) (sym c.self.view_is) ∙ c.lits.ensures in
    let at = apart_head c.args.self.now.arena.heads c.args.c c.lits.result.now read (c.begin_apart.ensures.yes c.if-begin_apart.true) in
    let it = listable c.args.self.now c.args.c at.0 c.requires.listable at.1.0 at.1.1 in
    subst (λ s. AreLonger s lists c.args.c) (sym (c.attach-then-begin_apart.ensures.state ∙ ap (attached c.args.c true) c.attach.ensures.state)) (twice_longer c.args.self.now lists c.args.c at.0 it threaded none)

pub returns-else-begin_apart-clause-longer : goal.returns-else-begin_apart-clause-longer
returns-else-begin_apart-clause-longer c = λ lists threaded none.
    let read = ap (λ (w : WatchState). slice_get (map (λ (h : HeadState). h.lits) w.arena.heads) c.args.c) (sym c.self.view_is) ∙ c.lits.ensures in
    none_longer c.args.self.now lists c.args.c (not_apart c.args.self.now.arena.heads c.args.c c.lits.result.now read (c.begin_apart.ensures.no c.if-begin_apart.false)) threaded
