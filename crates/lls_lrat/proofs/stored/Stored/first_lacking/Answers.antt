use Rattle.std.proofs.Common.{ℕ, sym, ap, ◌∙◌}
use Rattle.std.specs.Prelude.{find}
use Rattle.std.specs.Option.{option_map}
use Rattle.lls_lit.specs.Formula.{Clause}
use Rattle.lls_lrat.specs.Hinted.{LiveParts}
use Rattle.lls_lrat.specs.Grouped.{is_lacking}
use Rattle.lls_lrat.proofs.Lacking.{first-append_some, first-append_none}
use Rattle.lls_lrat.proofs.stored.Stored.first_lacking.Goals as goal

pub returns-in-Some : goal.returns-in-Some
returns-in-Some c =
    let l = c.self.inside in
    let test = is_lacking c.args.lit c.args.ids.now in
    sym (ap (λ (p : LiveParts). option_map (λ (q : ℕ × Clause). q.0) (find test p.all)) (sym c.self.view_is) ∙ first-append_some test l.given l.added c.in-Some.id (sym c.in-Some.ensures))

pub returns-in-None : goal.returns-in-None
returns-in-None c =
    let l = c.self.inside in
    let test = is_lacking c.args.lit c.args.ids.now in
    c.first_lacking-in-None.ensures ∙ sym (ap (λ (p : LiveParts). option_map (λ (q : ℕ × Clause). q.0) (find test p.all)) (sym c.self.view_is) ∙ first-append_none test l.given l.added (sym c.in-None.ensures))
