use Rattle.std.proofs.Common.{◌≡◌, ◌<◌, length, arith}
use Rattle.std.proofs.lemmas.Bool.Decides.{nat_tests}
use Rattle.lls_lrat.proofs.LineChecks.{last_some, last_none}
use Rattle.lls_lrat.proofs.feed.take_last.Goals as goal

pub returns-then-is_empty-clause-taken : goal.returns-then-is_empty-clause-taken
returns-then-is_empty-clause-taken c =
    let none : length c.args.last.now ≡ 0 = grind (arith, nat_tests) in
    λ _. last_none c.args.check.now.state c.args.last.now none

pub returns-clause-taken : goal.returns-clause-taken
returns-clause-taken c =
    let some : 0 < length c.args.last.now = grind (arith, nat_tests) in
    let line = c.without_return.ensures in
    λ has. last_some c.args.check.now.state c.take.new.self.state c.args.last.now some (rw (← line) (c.take.ensures.taken has))
