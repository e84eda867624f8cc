use Rattle.std.proofs.Common.{◌≡◌, true, false, sym, ap, ◌∙◌}
use Rattle.std.specs.Prelude.{is_some}
use Rattle.lls_prooflog.specs.Steps.{find_clause}
use Rattle.lls_lrat.specs.Checking.{Checking, IsChecking}
use Rattle.lls_prooflog.specs.Lent.{hints_of}
use Rattle.lls_lrat.proofs.Checks.{IsChecking-reach, IsChecking-add, good_addition, is_empty_addition-Add, is_some-copied}
use Rattle.lls_lrat.proofs.checker.Checker.add.Goals as goal

pub invariant_of-self : goal.invariant_of-self
invariant_of-self c =
    let k = c.self.inside in
    IsChecking-reach k.formula.now k.live.all k.assumed.vars c.assume.new.assumed.vars k.done c.assume.ensures.grown c.self.invariant

pub check_hints-requires-clause-within : goal.check_hints-requires-clause-within
check_hints-requires-clause-within c =
    let k = c.self.inside in
    (IsChecking-reach k.formula.now k.live.all k.assumed.vars c.assume.new.assumed.vars k.done c.assume.ensures.grown c.self.invariant).within

pub invariant_of-self-in_err-looked : goal.invariant_of-self-in_err-looked
invariant_of-self-in_err-looked c =
    let k = c.self.inside in
    rw (c.check_hints.ensures.vars, c.check_hints.ensures.live) (IsChecking-reach k.formula.now k.live.all k.assumed.vars c.assume.new.assumed.vars k.done c.assume.ensures.grown c.self.invariant)

pub invariant_of-self-in_err-push : goal.invariant_of-self-in_err-push
invariant_of-self-in_err-push c =
    let k = c.self.inside in
    rw (c.check_hints.ensures.vars, c.in_err-push.ensures.err, c.check_hints.ensures.live) (IsChecking-reach k.formula.now k.live.all k.assumed.vars c.assume.new.assumed.vars k.done c.assume.ensures.grown c.self.invariant)

pub invariant_of-self-then-is_empty : goal.invariant_of-self-then-is_empty
invariant_of-self-then-is_empty c =
    let k = c.self.inside in
    let before : IsChecking k.formula.now k.live.all k.assumed.vars false = rw (ap (λ (v : Checking). v.done) c.self.view_is ∙ c.requires) at c.self.invariant in
    let reached = IsChecking-reach k.formula.now k.live.all k.assumed.vars c.assume.new.assumed.vars false c.assume.ensures.grown before in
    let free : is_some (find_clause k.live.all c.args.id) ≡ false = ap is_some (sym c.find.ensures) ∙ is_some-copied c.find.result ∙ sym c.if-is_some.ensures in
    let good = good_addition k.live.all c.args.id c.args.lits.now (hints_of c.args.hints) free c.in_ok-looked.ensures.exact in
    let empty = is_empty_addition-Add c.args.id c.args.lits.now (hints_of c.args.hints) ∙ sym c.if-is_empty.ensures in
    rw (c.check_hints.ensures.vars, c.in_ok-push.ensures.ok, c.check_hints.ensures.live) (IsChecking-add k.formula.now k.live.all c.assume.new.assumed.vars c.args.id c.args.lits.now (hints_of c.args.hints) true reached c.in_ok-assume.ensures.within good empty)

pub invariant_of-self-else-is_empty : goal.invariant_of-self-else-is_empty
invariant_of-self-else-is_empty c =
    let k = c.self.inside in
    let before : IsChecking k.formula.now k.live.all k.assumed.vars false = rw (ap (λ (v : Checking). v.done) c.self.view_is ∙ c.requires) at c.self.invariant in
    let reached = IsChecking-reach k.formula.now k.live.all k.assumed.vars c.assume.new.assumed.vars false c.assume.ensures.grown before in
    let free : is_some (find_clause k.live.all c.args.id) ≡ false = ap is_some (sym c.find.ensures) ∙ is_some-copied c.find.result ∙ sym c.if-is_some.ensures in
    let good = good_addition k.live.all c.args.id c.args.lits.now (hints_of c.args.hints) free c.in_ok-looked.ensures.exact in
    let empty = is_empty_addition-Add c.args.id c.args.lits.now (hints_of c.args.hints) ∙ sym c.if-is_empty.ensures in
    rw (c.check_hints.ensures.vars, c.in_ok-push.ensures.ok, c.check_hints.ensures.live, ap (λ (v : Checking). v.done) c.self.view_is ∙ c.requires) (IsChecking-add k.formula.now k.live.all c.assume.new.assumed.vars c.args.id c.args.lits.now (hints_of c.args.hints) false reached c.in_ok-assume.ensures.within good empty)

pub returns-then-is_empty-clause-keeps : goal.returns-then-is_empty-clause-keeps
returns-then-is_empty-clause-keeps c = (invariant_of-self-then-is_empty c).kept

pub returns-else-is_empty-clause-keeps : goal.returns-else-is_empty-clause-keeps
returns-else-is_empty-clause-keeps c = (invariant_of-self-else-is_empty c).kept
