use Rattle.lls_store.specs.Scan.{live_in}
use Rattle.lls_store.proofs.SoundChanges.{IsSound-cut_to}
use Rattle.lls_store.proofs.scan_store.ScanStoreStore.back_to.Goals as goal

pub returns-clause-sound : goal.returns-clause-sound
returns-clause-sound c = rw c.cut.ensures (IsSound-cut_to (live_in c.args.self.now.flat.clauses) c.args.trail.now c.args.level c.requires.sound)
