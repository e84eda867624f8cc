use Rattle.lls_cli.proofs.Deliveries.{gave_whole, gave_part, failed_file}
use Rattle.lls_cli.proofs.deliver.deliver.Goals as goal

pub returns-in-Err-clause-end : goal.returns-in-Err-clause-end
returns-in-Err-clause-end g c =
    failed_file c.args.answer.now c.in-Err.fault _ _ _ _ _ _ c.in-Err.ensures.unwritten c.say.ensures.status c.say.ensures.line

pub returns-in-Ok-clause-end : goal.returns-in-Ok-clause-end
returns-in-Ok-clause-end g c = gave_whole c.args.answer.now _ _ _ _ _ c.print.result c.in_default.ensures.written c.print.ensures c.in-Ok.is

pub returns-in-Err-print-clause-end : goal.returns-in-Err-print-clause-end
returns-in-Err-print-clause-end g c =
    gave_part c.args.answer.now _ _ _ _ _ _ _ c.print.result c.in-Err-print.field-0 c.in_default.ensures.written c.print.ensures c.in-Err-print.is
    c.say-in-Err-print.ensures.status c.say-in-Err-print.ensures.line
