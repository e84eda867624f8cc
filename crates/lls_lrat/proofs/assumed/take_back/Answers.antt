use Rattle.std.proofs.Common.{◌∷◌, [], ◌≤◌, leb-true, take, length, sym, ap, subst, ◌∙◌}
use Rattle.std.proofs.lemmas.Grind.{common_steps}
use Rattle.std.proofs.Common.{arith}
use Rattle.std.proofs.lemmas.List.{take-append-le, length-append}
use Rattle.lls_lit.specs.Literal.{variable_of}
use Rattle.lls_lrat.specs.Entered.{AreEntered}
use Rattle.lls_lrat.proofs.Entries.{AreEntered-taken, AreEntered-left, last_within}
use Rattle.lls_lrat.proofs.assumed.take_back.Goals as goal

pub take-requires : goal.take-requires
take-requires c =
    let items = c.in-Some.ensures.items in
    let before = subst (AreEntered c.loop-entries.marks) items c.loop-entries.invariant.0 in
    leb-true (variable_of c.in-Some.entry.lit) c.loop-entries.marks.vars (last_within c.loop-entries.marks c.pop.new.self.items c.in-Some.entry before)

pub loop-entries-preserved-then-entry : goal.loop-entries-preserved-then-entry
loop-entries-preserved-then-entry c =
    let items = c.in-Some.ensures.items in
    let len = ap length items ∙ length-append c.pop.new.self.items (c.in-Some.entry ∷ []) in
    let shorter : c.args.len ≤ length c.pop.new.self.items = grind (arith, common_steps, len) in
    let before = subst (AreEntered c.loop-entries.marks) items c.loop-entries.invariant.0 in
    let same = sym (ap (take c.args.len) items ∙ take-append-le c.args.len c.pop.new.self.items (c.in-Some.entry ∷ []) shorter) ∙ c.loop-entries.invariant.1 in
    rw c.take.ensures (AreEntered-taken c.loop-entries.marks c.pop.new.self.items c.in-Some.entry before c.if-entry.true, same, c.loop-entries.invariant.2)

pub loop-entries-preserved-else-entry : goal.loop-entries-preserved-else-entry
loop-entries-preserved-else-entry c =
    let items = c.in-Some.ensures.items in
    let len = ap length items ∙ length-append c.pop.new.self.items (c.in-Some.entry ∷ []) in
    let shorter : c.args.len ≤ length c.pop.new.self.items = grind (arith, common_steps, len) in
    let before = subst (AreEntered c.loop-entries.marks) items c.loop-entries.invariant.0 in
    let same = sym (ap (take c.args.len) items ∙ take-append-le c.args.len c.pop.new.self.items (c.in-Some.entry ∷ []) shorter) ∙ c.loop-entries.invariant.1 in
    (AreEntered-left c.loop-entries.marks c.pop.new.self.items c.in-Some.entry before c.if-entry.false, same, c.loop-entries.invariant.2)
