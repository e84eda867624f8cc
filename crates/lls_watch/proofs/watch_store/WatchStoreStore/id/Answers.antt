use Rattle.std.proofs.Common.{ap, ◌∙◌}
use Rattle.lls_arena.specs.Arena.{HeadState}
use Rattle.lls_watch.specs.WatchStore.{WatchStoreState}
use Rattle.lls_watch.proofs.Read.{behind_arena, read_id}
use Rattle.lls_watch.proofs.watch_store.WatchStoreStore.id.Goals as goal

pub returns : goal.returns
returns c =
    read_id c.args.self.now.watches.arena.heads c.args.c c.id.result
    (behind_arena (λ (head : HeadState). head.id) c.arena.result.now c.args.self.now.watches.arena c.args.c c.id.result (c.arena.ensures ∙ ap (λ (s : WatchStoreState). s.watches.arena) c.self.view_is) c.id.ensures)
