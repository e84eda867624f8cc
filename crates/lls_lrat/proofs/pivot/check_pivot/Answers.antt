use Rattle.std.proofs.Common.{◌≡◌, None, Some, length, drop, sym, ap, ◌∙◌}
use Rattle.std.proofs.Common.{arith}
use Rattle.std.proofs.lemmas.Bool.Decides.{nat_tests}
use Rattle.std.proofs.lemmas.Grind.{common_steps}
use Rattle.lls_prooflog.specs.Lent.{hints_of}
use Rattle.lls_prooflog.specs.Rat.{groups_of}
use Rattle.lls_lrat.proofs.Groups.{first_lacking, first_lacking-permuted, by_lacking-empty, by_lacking-some, pivot_told, with_pivot}
use Rattle.lls_lrat.proofs.pivot.check_pivot.Goals as goal

pub returns-in-None-clause-exact : goal.returns-in-None-clause-exact
returns-in-None-clause-exact c =
    let live = c.count.new.self.all in
    let pivot = c.in-Some.pivot.now in
    let groups = groups_of (drop c.args.place (hints_of c.args.hints)) in
    let ids = c.in_ok-check_groups.field-0.items in
    let first = c.in-None.ensures ∙ ap (λ ns. first_lacking live c.negated.result ns) c.deref.ensures.value ∙ sym (first_lacking-permuted live c.negated.result ids c.sorted-ids.result.items c.sorted-ids.ensures.permutation) ∙ ap (λ n. first_lacking live n ids) c.negated.ensures in
    rw (← c.count.ensures)
    (with_pivot live c.args.lits.now pivot groups c.args.assumed.now.lits (sym c.in-Some.ensures.value)
    ∙ pivot_told live pivot c.args.assumed.now.lits groups ids None c.in_ok-check_groups.ensures.exact c.in_ok-check_groups.ensures.ids first)

pub returns-in-Some-first_lacking-clause-exact : goal.returns-in-Some-first_lacking-clause-exact
returns-in-Some-first_lacking-clause-exact c =
    let live = c.count.new.self.all in
    let pivot = c.in-Some.pivot.now in
    let groups = groups_of (drop c.args.place (hints_of c.args.hints)) in
    let ids = c.in_ok-check_groups.field-0.items in
    let id = c.in-Some-first_lacking.field-0 in
    let first = c.in-Some-first_lacking.ensures ∙ ap (λ ns. first_lacking live c.negated.result ns) c.deref.ensures.value ∙ sym (first_lacking-permuted live c.negated.result ids c.sorted-ids.result.items c.sorted-ids.ensures.permutation) ∙ ap (λ n. first_lacking live n ids) c.negated.ensures in
    let empty : length ids ≡ 0 = grind (arith, nat_tests, common_steps) in
    rw (c.into-in-Some-first_lacking.ensures, ← c.count.ensures)
    (with_pivot live c.args.lits.now pivot groups c.args.assumed.now.lits (sym c.in-Some.ensures.value)
    ∙ pivot_told live pivot c.args.assumed.now.lits groups ids (Some id) c.in_ok-check_groups.ensures.exact c.in_ok-check_groups.ensures.ids first ∙ by_lacking-empty id ids empty)

pub returns-clause-exact : goal.returns-clause-exact
returns-clause-exact c =
    let live = c.count.new.self.all in
    let pivot = c.in-Some.pivot.now in
    let groups = groups_of (drop c.args.place (hints_of c.args.hints)) in
    let ids = c.in_ok-check_groups.field-0.items in
    let id = c.in-Some-2.id in
    let first = c.in-Some-first_lacking.ensures ∙ ap (λ ns. first_lacking live c.negated.result ns) c.deref.ensures.value ∙ sym (first_lacking-permuted live c.negated.result ids c.sorted-ids.result.items c.sorted-ids.ensures.permutation) ∙ ap (λ n. first_lacking live n ids) c.negated.ensures in
    let some : ¬ (length ids ≡ 0) = λ e. grind (arith, nat_tests, common_steps, e) in
    rw (c.into-in-Some-2.ensures, ← c.count.ensures)
    (with_pivot live c.args.lits.now pivot groups c.args.assumed.now.lits (sym c.in-Some.ensures.value)
    ∙ pivot_told live pivot c.args.assumed.now.lits groups ids (Some c.in-Some-first_lacking.field-0) c.in_ok-check_groups.ensures.exact c.in_ok-check_groups.ensures.ids first ∙ by_lacking-some c.in-Some-first_lacking.field-0 ids some)
