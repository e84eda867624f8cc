use Rattle.std.proofs.Common.{◌∙◌, sym, ap, Ok}
use Rattle.lls_rule.specs.Rule.{table_of}
use Rattle.lls_hensel.specs.Entries.{next_of}
use Rattle.lls_hensel.specs.Reading.{entries_of}
use Rattle.lls_base.specs.Results.{and_then}
use Rattle.lls_hensel.proofs.Isotropy.{uneven-IsIsotropic}
use Rattle.lls_hensel.proofs.RoundTrip.{entries_of-rule_text}
use Rattle.lls_hensel.proofs.print.print_rule.Goals as goal

pub returns-clause-reads_back : goal.returns-clause-reads_back
returns-clause-reads_back c =
    ap (λ bytes. and_then (entries_of bytes) (λ entries. Ok (table_of (next_of entries)))) c.in_ok-text_of.ensures ∙ entries_of-rule_text c.args.rule.now c.in_default.ensures.whole (sym c.in_default.ensures.least)

pub returns-in-Some-clause-isotropic : goal.returns-in-Some-clause-isotropic
returns-in-Some-clause-isotropic c = uneven-IsIsotropic c.args.rule.now

pub returns-in_err-text_of-clause-isotropic : goal.returns-in_err-text_of-clause-isotropic
returns-in_err-text_of-clause-isotropic c = uneven-IsIsotropic c.args.rule.now

pub returns-clause-isotropic : goal.returns-clause-isotropic
returns-clause-isotropic c = uneven-IsIsotropic c.args.rule.now
