use Rattle.std.proofs.Common.{sym, ◌∙◌}
use Rattle.std.proofs.lemmas.List.{take_rest}
use Rattle.lls_text.proofs.FirstEnds.{none_behind_searched, first_behind_searched}
use Rattle.lls_text.proofs.waiting_bytes.first_end.Goals as goal

pub returns-in_err-behind-clause-none : goal.returns-in_err-behind-clause-none
returns-in_err-behind-clause-none c =
    let found = rw (take_rest c.args.bytes.now c.args.searched) at c.place_of.ensures in
    λ _. none_behind_searched c.args.end c.args.bytes.now c.args.searched c.requires.searched (sym c.in_err-behind.was ∙ found)

pub returns-clause-found : goal.returns-clause-found
returns-clause-found c =
    let found = rw (take_rest c.args.bytes.now c.args.searched) at c.place_of.ensures in
    first_behind_searched c.args.end c.args.bytes.now c.args.searched c.in_ok-behind.behind c.requires.within c.requires.searched (sym c.in_ok-behind.was ∙ found)
