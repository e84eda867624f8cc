use Rattle.std.proofs.Common.{inl, inr, arith}
use Rattle.std.proofs.lemmas.Bool.{cases_lt}
use Rattle.lls_lit.specs.Literal.{IsVariable}
use Rattle.lls_order.proofs.Cursor.{is_there}
use Rattle.lls_order.proofs.Ranks.{told_by_none}
use Rattle.lls_order.proofs.queue.is_greater.Goals as goal

pub returns-in_default-clause-greater : goal.returns-in_default-clause-greater
returns-in_default-clause-greater c =
    told_by_none c.args.activities.now c.args.var c.args.other (omega (arith, c.index.ensures.variable.0)) (omega (arith, c.index.ensures.variable.1))
    (elim (cases_lt 0 c.args.other) [
      | inl some ↦ absurd (is_there c.from_number.result (IsVariable c.args.other) c.args.other c.from_number.ensures (omega (arith, some), omega (arith, c.requires.other, c.requires.few)) c.in_default.is)
      | inr none ↦ omega (arith, none)
    ])
