use Rattle.std.proofs.Common.{sym, ◌∙◌}
use Rattle.lls_lrat.proofs.Found.{find-append_some, find-append_none}
use Rattle.lls_lrat.proofs.stored.Stored.find.Goals as goal

pub returns-in-Some : goal.returns-in-Some
returns-in-Some c =
    let l = c.self.inside in
    rw (← c.self.view_is) (sym (find-append_some l.given l.added c.args.id c.in-Some.clause.now (sym c.in-Some.ensures)))

pub returns-in-None : goal.returns-in-None
returns-in-None c =
    let l = c.self.inside in
    rw (← c.self.view_is) (c.find-in-None.ensures ∙ sym (find-append_none l.given l.added c.args.id (sym c.in-None.ensures)))
