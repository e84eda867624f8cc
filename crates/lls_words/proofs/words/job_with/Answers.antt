use Rattle.std.proofs.Common.{◌≢◌, ◌∙◌, Err, length, map, ap, ap₂, sym, arith}
use Rattle.lls_words.specs.declared.error.WordsError.TheVariants.{Operands}
use Rattle.lls_words.specs.Command.{operand_count}
use Rattle.lls_words.specs.Seen.{seen_given, seen_operand}
use Rattle.lls_words.proofs.Refusals.{refused}
use Rattle.lls_words.proofs.words.job_with.Goals as goal

pub returns-in_default-clause-job : goal.returns-in_default-clause-job
returns-in_default-clause-job c no_memory =
    let operands = c.args.scan.now.operands.items in
    let other : length operands ≢ operand_count c.args.command = grind arith in
    refused c.args.command seen_operand operands (map seen_given c.args.scan.now.givens.items) other
    ∙ ap₂ (λ expected found. Err (Operands expected found)) (sym c.operand_count.ensures) (ap length (sym c.as_slice.ensures.value))
