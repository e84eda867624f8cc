use Rattle.std.proofs.Common.{◌≡◌, ◌<◌, ◌^◌, w64, ℕ, Some, List, [], get_or, refl, sym, ap, ◌∙◌, arith}
use Rattle.std.specs.Prelude.{ℤ, pos, slice_get}
use Rattle.std.proofs.lemmas.List.{append-nil}
use Rattle.std.proofs.lemmas.Option.{get_or_from_slice_get}
use mir.Val.{to_z, of_z}
use lib.Signed.{mag}
use Rattle.lls_prooflog.specs.Lent.{hints_of}
use Rattle.lls_prooflog.proofs.PrintedNumbers.{same_number}
use Rattle.lls_prooflog.specs.UnitWalk.{find_clause}
use Rattle.lls_lrat.proofs.Walked.{follows_none, stays_here, stops_without, closes_here, stops_here, follows_on, next_here}
use Rattle.lls_lrat.proofs.Within.{found_within, variable_of-negation}
use Rattle.lls_lrat.proofs.walk.follow_hints.Goals as goal

-- the hint of that number, as it is handed on
hint_at : (hints : List ℤ) (k : ℕ) (hint : ℤ) → mag hint < 2 ^ 63 → slice_get hints k ≡ Some hint → to_z w64 (of_z w64 hint) ≡ get_or hints k (pos 0)
hint_at hints k hint fits at = same_number hint fits ∙ sym (get_or_from_slice_get hints k hint (pos 0) at)

pub loop-k-init : goal.loop-k-init
loop-k-init c = (refl, follows_none c.args.live.now.all c.args.assumed.now.lits (hints_of c.args.hints) c.args.from ([], sym (append-nil c.args.assumed.now.lits)))

pub returns-then-is_negative-clause-exact : goal.returns-then-is_negative-clause-exact
returns-then-is_negative-clause-exact c =
    stays_here c.args.live.now.all c.args.assumed.now.lits (hints_of c.args.hints) c.args.from c.loop-k.assumed.lits c.loop-k.k c.loop-k.invariant.1 (to_z w64 (of_z w64 c.get-hint.result))
    (omega (arith, c.loop-k-test.true, c.len-k-end.ensures)) (hint_at (hints_of c.args.hints) c.loop-k.k c.get-hint.result c.get-hint.type_inv c.get-hint.ensures) (sym c.if-is_negative.ensures)

pub returns-then-is_negative-clause-group : goal.returns-then-is_negative-clause-group
returns-then-is_negative-clause-group c =
    next_here (hints_of c.args.hints) c.args.from c.loop-k.k c.loop-k.invariant.1.passed (to_z w64 (of_z w64 c.get-hint.result))
    (omega (arith, c.loop-k-test.true, c.len-k-end.ensures)) (hint_at (hints_of c.args.hints) c.loop-k.k c.get-hint.result c.get-hint.type_inv c.get-hint.ensures) (sym c.if-is_negative.ensures)

pub returns-in_default-clause-exact : goal.returns-in_default-clause-exact
returns-in_default-clause-exact c =
    let stops = stops_without c.args.live.now.all c.args.assumed.now.lits (hints_of c.args.hints) c.args.from c.loop-k.assumed.lits c.loop-k.k c.loop-k.invariant.1 (to_z w64 (of_z w64 c.get-hint.result))
    (omega (arith, c.loop-k-test.true, c.len-k-end.ensures)) (hint_at (hints_of c.args.hints) c.loop-k.k c.get-hint.result c.get-hint.type_inv c.get-hint.ensures) (sym c.if-is_negative.ensures)
    (ap (find_clause c.args.live.now.all) (sym c.id_of.ensures) ∙ sym c.in_default.ensures)
    in rw c.into.ensures stops

pub unmarked-requires : goal.unmarked-requires
unmarked-requires c =
    rw c.loop-k.invariant.0 (found_within c.args.assumed.now.vars c.args.live.now.all c.id_of.result c.in-Some.clause.now c.requires.within (sym c.in-Some.ensures))

pub put-requires : goal.put-requires
put-requires c = rw (c.negated.ensures, variable_of-negation c.in-One.lit) c.in-One.ensures.within

pub returns-in-Nothing-clause-exact : goal.returns-in-Nothing-clause-exact
returns-in-Nothing-clause-exact c =
    closes_here c.args.live.now.all c.args.assumed.now.lits (hints_of c.args.hints) c.args.from c.loop-k.assumed.lits c.loop-k.k c.loop-k.invariant.1 (to_z w64 (of_z w64 c.get-hint.result))
    (omega (arith, c.loop-k-test.true, c.len-k-end.ensures)) (hint_at (hints_of c.args.hints) c.loop-k.k c.get-hint.result c.get-hint.type_inv c.get-hint.ensures) (sym c.if-is_negative.ensures)
    c.in-Some.clause.now (ap (find_clause c.args.live.now.all) (sym c.id_of.ensures) ∙ sym c.in-Some.ensures) c.in-Nothing.ensures.left

pub returns-in-More-clause-exact : goal.returns-in-More-clause-exact
returns-in-More-clause-exact c =
    let stops = stops_here c.args.live.now.all c.args.assumed.now.lits (hints_of c.args.hints) c.args.from c.loop-k.assumed.lits c.loop-k.k c.loop-k.invariant.1 (to_z w64 (of_z w64 c.get-hint.result))
    (omega (arith, c.loop-k-test.true, c.len-k-end.ensures)) (hint_at (hints_of c.args.hints) c.loop-k.k c.get-hint.result c.get-hint.type_inv c.get-hint.ensures) (sym c.if-is_negative.ensures)
    c.in-Some.clause.now (ap (find_clause c.args.live.now.all) (sym c.id_of.ensures) ∙ sym c.in-Some.ensures) c.in-More.ensures.left
    in rw c.into-in-More.ensures stops

pub loop-k-preserved : goal.loop-k-preserved
loop-k-preserved c =
    let on = follows_on c.args.live.now.all c.args.assumed.now.lits (hints_of c.args.hints) c.args.from c.loop-k.assumed.lits c.loop-k.k c.loop-k.invariant.1 (to_z w64 (of_z w64 c.get-hint.result))
    (omega (arith, c.loop-k-test.true, c.len-k-end.ensures)) (hint_at (hints_of c.args.hints) c.loop-k.k c.get-hint.result c.get-hint.type_inv c.get-hint.ensures) (sym c.if-is_negative.ensures)
    c.in-Some.clause.now (ap (find_clause c.args.live.now.all) (sym c.id_of.ensures) ∙ sym c.in-Some.ensures) c.in-One.lit c.in-One.ensures.left
    in rw (c.in_ok-put-in-One.ensures.ok, c.negated.ensures) (c.loop-k.invariant.0, on)
