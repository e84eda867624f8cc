use Rattle.lls_base.specs.Shelf.{known_files, known_rest}
use Rattle.lls_hinting.specs.Judging.{IsJudged, JudgeSays, progress}
use Rattle.lls_hinting.specs.Place.{place_at}
use Rattle.lls_hinting.specs.Steps.{IsOpened}
use Rattle.lls_hinting.proofs.Judged.{file_judged}
use Rattle.lls_hinting.proofs.Stopping.{reads_then}
use Rattle.lls_hinting.proofs.judging.judge_file.Goals as goal

pub returns-clause-read : goal.returns-clause-read
returns-clause-read g c =
    let files = known_files (g.S.Shelf.told c.args.shelf.now) in
    let name = c.args.name.now in
    let formula = c.args.lemmas.now.formula in
    let old = progress c.args.lemmas.now.steps c.args.tally.now in
    let new = progress c.judge_left.new.lemmas.steps c.judge_left.new.tally in
    let a = place_at c.new-proof.result (known_rest (g.S.Shelf.told c.open.new.shelf)) in
    let d = place_at c.judge_left.new.proof (known_rest (g.S.Shelf.told c.judge_left.new.shelf)) in
    reads_then (IsOpened files name a.rest) (JudgeSays formula c.args.vars old new a d) (IsJudged formula c.args.vars files name c.args.form old new) tt c.judge_left.result _ _ _
    c.in_ok-open.ensures.read
    (λ opened says. file_judged formula c.args.vars files name c.args.form old new a d c.judge_left.result opened c.new-proof.ensures.reader c.new-proof.ensures.taken says)
    c.judge_left.ensures.read
