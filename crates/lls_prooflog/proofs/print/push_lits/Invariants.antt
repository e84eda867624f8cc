use Rattle.std.proofs.Common.{◌≡◌, ◌++◌, true, take}
use Rattle.std.specs.Prelude.{codes}
use Rattle.std.specs.List.{flat_map}
use Rattle.std.specs.Fmt.{signed_decimal}
use Rattle.lls_lit.specs.Formula.{is_within}
use Rattle.lls_lit.specs.declared.var.TheConstants.Var.{MOST}
use Rattle.lls_prooflog.proofs.print.push_lits.Given as goal

abbrev pub invariant-loop-lit : goal.invariant-loop-lit
invariant-loop-lit l = record {
  text : l.text.items ≡ l.initial.text.items ++ flat_map (λ n. signed_decimal n ++ codes " ") (take l.lit-index l.lits);
  within : is_within MOST (take l.lit-index l.lits) ≡ true;
}
