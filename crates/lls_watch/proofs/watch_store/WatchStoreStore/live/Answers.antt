use Rattle.std.proofs.Common.{ap, ◌∙◌}
use Rattle.lls_arena.specs.Arena.{HeadState}
use Rattle.lls_watch.specs.WatchStore.{WatchStoreState}
use Rattle.lls_watch.proofs.Read.{behind_arena, read_live}
use Rattle.lls_watch.proofs.watch_store.WatchStoreStore.live.Goals as goal

pub returns : goal.returns
returns c =
    read_live c.args.self.now.watches.arena.heads c.args.c c.live.result
    (behind_arena (λ (head : HeadState). head.live) c.arena.result.now c.args.self.now.watches.arena c.args.c c.live.result (c.arena.ensures ∙ ap (λ (s : WatchStoreState). s.watches.arena) c.self.view_is) c.live.ensures)
