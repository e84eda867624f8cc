use Rattle.std.proofs.Common.{◌≡◌, ◌*◌, ◌∙◌, ap, rules}
use Rattle.std.specs.Prelude.{replicate}
use Rattle.lls_store.specs.declared.truths.Truth.TheVariants.{Unset}
use Rattle.lls_store.specs.TruthTable.{values_in, are_paired}
use Rattle.lls_store.proofs.Pairs.{unset_pairs}
use Rattle.lls_store.proofs.truths.Values.new.Goals as goal

pub invariant_of-result : goal.invariant_of-result
invariant_of-result c =
    let filled : c.in_ok-truths.truths.items ≡ replicate (2 * c.args.vars) Unset = search rules in
    ap are_paired filled ∙ (unset_pairs c.args.vars).1

pub returns : goal.returns
returns c =
    let filled : c.in_ok-truths.truths.items ≡ replicate (2 * c.args.vars) Unset = search rules in
    ap values_in filled ∙ (unset_pairs c.args.vars).0
