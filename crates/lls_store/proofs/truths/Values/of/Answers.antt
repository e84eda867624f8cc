use Rattle.std.proofs.Common.{◌-◌, ◌<◌, ◌∙◌, sym, ap, arith, length}
use Rattle.lls_lit.specs.Literal.{variable_of}
use Rattle.lls_store.specs.TruthTable.{value_in, values_in}
use Rattle.lls_store.proofs.Pairs.{answer_is, place_within}
use Rattle.lls_store.proofs.truths.Values.of.Goals as goal

pub index-requires-2 : goal.index-requires-2
index-requires-2 c =
    let v = c.self.inside.truths in
    let inside : variable_of c.args.lit - 1 < length (values_in v.items) = omega (arith, c.requires, c.index.ensures.literal.0, ap length c.self.view_is) in
    omega (arith, place_within v.items c.args.lit c.self.invariant c.index.ensures.literal.0 inside, c.index.ensures.place, v.ok.0)

pub returns-in-Unset-clause-answer : goal.returns-in-Unset-clause-answer
returns-in-Unset-clause-answer c = sym (ap value_in c.in-Unset.is) ∙ answer_is c.self.inside.truths.items c.args.self.now c.args.lit c.index.result c.index-2.result.now c.self.view_is c.self.invariant c.index.ensures.literal.0 (omega (arith, c.requires, c.index.ensures.literal.0)) c.index.ensures.place c.index-2.ensures

pub returns-in-True-clause-answer : goal.returns-in-True-clause-answer
returns-in-True-clause-answer c = sym (ap value_in c.in-True.is) ∙ answer_is c.self.inside.truths.items c.args.self.now c.args.lit c.index.result c.index-2.result.now c.self.view_is c.self.invariant c.index.ensures.literal.0 (omega (arith, c.requires, c.index.ensures.literal.0)) c.index.ensures.place c.index-2.ensures

pub returns-in-False-clause-answer : goal.returns-in-False-clause-answer
returns-in-False-clause-answer c = sym (ap value_in c.in-False.is) ∙ answer_is c.self.inside.truths.items c.args.self.now c.args.lit c.index.result c.index-2.result.now c.self.view_is c.self.invariant c.index.ensures.literal.0 (omega (arith, c.requires, c.index.ensures.literal.0)) c.index.ensures.place c.index-2.ensures
