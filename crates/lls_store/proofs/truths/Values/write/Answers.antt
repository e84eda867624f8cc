use Rattle.std.proofs.Common.{◌∙◌, ap, arith, length, set}
use Rattle.lls_store.specs.TruthTable.{value_in}
use Rattle.lls_store.proofs.Pairs.{length-values_in, written}
use Rattle.lls_store.proofs.truths.Values.write.Goals as goal

pub index_mut-requires : goal.index_mut-requires
index_mut-requires c =
    let v = c.self.inside.truths in
    omega (arith, c.requires.within, ap length c.self.view_is, length-values_in v.items c.self.invariant, v.ok.0)

pub index_mut-requires-2 : goal.index_mut-requires-2
index_mut-requires-2 c =
    let v = c.self.inside.truths in
    omega (arith, c.requires.within, ap length c.self.view_is, length-values_in v.items c.self.invariant, v.ok.0)

pub overflow_mul-place : goal.overflow_mul-place
overflow_mul-place c =
    let v = c.self.inside.truths in
    omega (arith, c.requires.within, ap length c.self.view_is, length-values_in v.items c.self.invariant, v.ok.0, v.small)

pub overflow_mul-place-2 : goal.overflow_mul-place-2
overflow_mul-place-2 c =
    let v = c.self.inside.truths in
    omega (arith, c.requires.within, ap length c.self.view_is, length-values_in v.items c.self.invariant, v.ok.0, v.small)

pub overflow_add-place : goal.overflow_add-place
overflow_add-place c =
    let v = c.self.inside.truths in
    omega (arith, c.requires.within, ap length c.self.view_is, length-values_in v.items c.self.invariant, v.ok.0, v.small)

pub invariant_of-self : goal.invariant_of-self
invariant_of-self c =
    (written c.self.inside.truths.items c.args.place c.args.straight c.args.turned c.self.invariant c.requires.turned (omega (arith, c.requires.within, ap length c.self.view_is))).paired

pub returns : goal.returns
returns c =
    (written c.self.inside.truths.items c.args.place c.args.straight c.args.turned c.self.invariant c.requires.turned (omega (arith, c.requires.within, ap length c.self.view_is))).values
    ∙ ap (λ os. set os c.args.place (value_in c.args.straight)) c.self.view_is
