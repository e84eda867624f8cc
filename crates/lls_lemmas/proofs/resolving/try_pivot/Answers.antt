use Rattle.std.proofs.Common.{◌≡◌, ℕ, ◌<◌, List, get_or, sym, subst}
use Rattle.std.specs.Prelude.{take}
use Rattle.std.proofs.lemmas.List.{get_or_default, take_all}
use Rattle.lls_store.specs.Store.{StoreState}
use Rattle.lls_analyse.proofs.LiveClauses.{number_given}
use Rattle.lls_lemmas.specs.Pivot.{AreGroups}
use Rattle.lls_lemmas.proofs.Groups.{groups_add}
use Rattle.lls_lemmas.proofs.resolving.try_pivot.Goals as goal

pub try_against-requires-clause-given : goal.try_against-requires-clause-given
try_against-requires-clause-given g c =
    let s = g.S.Store.state c.args.store.now in
    let k = c.loop-number.number-index in
    let number = get_or c.args.numbers.now k 0 in
    let lt = number_given s number c.count-count.ensures.live (c.requires.alive number (k, c.loop-number-test.true, get_or_default c.args.numbers.now k number 0 c.loop-number-test.true)) in
    let P : StoreState → Type 0 = λ x. number < x.count in
    subst P (sym c.loop-number.invariant.state) lt

pub returns-clause-adds : goal.returns-clause-adds
returns-clause-adds g c = λ _ pairs spells.
    let s = g.S.Store.state c.args.store.now in
    let all : take c.loop-number.number-index c.args.numbers.now ≡ c.args.numbers.now = take_all c.loop-number.number-index c.args.numbers.now c.loop-number-test.false in
    groups_add s.live pairs c.args.pivot c.args.lits.now c.args.numbers.now c.loop-number.resolving.groups.items c.requires.first
    c.requires.all
    (subst (λ (tried : List ℕ). AreGroups s.live c.args.pivot c.args.lits.now tried c.loop-number.resolving.groups.items) all c.loop-number.invariant.groups) spells
