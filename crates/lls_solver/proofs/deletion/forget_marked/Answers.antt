use Rattle.std.proofs.Common.{◌≡◌, sym, ap, ◌∙◌}
use Rattle.lls_store.specs.Store.{StoreState}
use Rattle.lls_store.specs.Removal.{compacted, renamed}
use Rattle.lls_solver.specs.Deletion.{without_marked}
use Rattle.lls_solver.proofs.Kept.{sound_moved}
use Rattle.lls_solver.proofs.Forgotten.{count_forgotten}
use Rattle.lls_solver.proofs.deletion.forget_marked.Goals as goal

pub remove_marked-requires-clause-sound : goal.remove_marked-requires-clause-sound
remove_marked-requires-clause-sound g c = sound_moved (g.S.Store.state c.args.store.now) c.args.course.now c.course.inside.trail (sym c.course.view_is) c.requires.sound

pub compact-requires-clause-sound : goal.compact-requires-clause-sound
compact-requires-clause-sound g c = sound_moved (g.S.Store.state c.remove_marked.new.store) c.course.inside.trail c.args.course.now c.course.view_is c.remove_marked.ensures.sound

pub returns-clause-state : goal.returns-clause-state
returns-clause-state g c = c.compact.ensures.state ∙ ap compacted c.remove_marked.ensures.state

pub returns-clause-renamed : goal.returns-clause-renamed
returns-clause-renamed g c = c.compact.ensures.renamed ∙ ap (λ (s : StoreState). renamed s.live c.args.course.now) c.remove_marked.ensures.state

pub returns-clause-count : goal.returns-clause-count
returns-clause-count g c =
    let old = g.S.Store.state c.args.store.now in
    let state : g.S.Store.state c.compact.new.store ≡ compacted (without_marked old c.args.marks.now) = c.compact.ensures.state ∙ ap compacted c.remove_marked.ensures.state in
    rw state (count_forgotten old c.args.marks.now c.requires.all_live)
