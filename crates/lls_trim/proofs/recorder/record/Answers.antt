use Rattle.lls_trim.proofs.recorder.record.Goals as goal

pub list_sources-requires-clause-numbered : goal.list_sources-requires-clause-numbered
list_sources-requires-clause-numbered c = c.requires.numbered c.in-Some.count c.in-Some.is
