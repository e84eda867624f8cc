use Rattle.std.proofs.lemmas.Str.{IsUtf8-from_ascii}
use Rattle.lls_search_file.proofs.NameBytes.{name_ascii}
use Rattle.lls_search_file.proofs.names.owned_name.Goals as goal

pub unreachable-requires : goal.unreachable-requires
unreachable-requires c = c.in_default.ensures.cases.0 (IsUtf8-from_ascii c.args.name.now (name_ascii c.args.name.now c.requires))
