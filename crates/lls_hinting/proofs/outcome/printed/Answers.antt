use Rattle.std.proofs.Common.{◌≡◌, ℕ, subst}
use Rattle.lls_hinting.specs.Hinted.{hints_text}
use Rattle.lls_hinting.proofs.outcome.printed.Goals as goal

pub returns-clause-said : goal.returns-clause-said
returns-clause-said c =
    let t = c.args.tally in
    subst (λ (kept : ℕ). c.in_ok-text.text.items ≡ hints_text kept c.args.given t.reasons t.unknown) c.additions-kept.ensures c.in_ok-text.ensures
