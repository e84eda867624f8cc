use Rattle.std.proofs.Common.{◌≡◌, ◌≢◌, ℕ, ◌<◌, Some, None, below_more, get_or, length, sym, ap, ◌∙◌, arith}
use Rattle.std.specs.Prelude.{pos, Option, is_some, option_and_then}
use Rattle.lls_store.specs.Trail.{Entry}
use Rattle.lls_store.proofs.Entries.{entry_read}
use Rattle.lls_engine_tests.proofs.store_removal.is_no_reason.Goals as goal
use Rattle.lls_engine_tests.proofs.store_removal.is_no_reason.Goals.{in-Some+else-reason-c, in_default}

pub known_reason-requires : goal.known_reason-requires
known_reason-requires c =
    let inside : c.loop-k.k < length c.args.trail.now.entries = omega (arith, c.loop-k-test.true, c.len-k-end.ensures.len) in
    ap (λ (o : Option Entry). is_some o) (entry_read c.args.trail.now.entries c.loop-k.k c.var.result c.lit.result (record { lit = pos 0; level = 0; reason = None }) c.len-k-end.ensures.kept.once inside c.lit.ensures c.var.ensures.var)

other_reason : (found : Option ℕ) (reason number : ℕ) → found ≡ Some reason → reason ≢ number → found ≢ Some number
other_reason found reason number is other same = other cc

no_reason : (found : Option ℕ) (number : ℕ) → found ≡ None → found ≢ Some number
no_reason found number is same = absurd cc

pub loop-k-preserved : goal.loop-k-preserved
loop-k-preserved c =
    let es = c.args.trail.now.entries in
    let k = c.loop-k.k in
    let inside : k < length es = omega (arith, c.loop-k-test.true, c.len-k-end.ensures.len) in
    let known = λ (d : Entry). sym (c.known_reason.ensures ∙ ap (option_and_then (λ (e : Entry). e.reason)) (entry_read es k c.var.result c.lit.result d c.len-k-end.ensures.kept.once inside c.lit.ensures c.var.ensures.var)) in
    let found : c.known_reason.result ≢ Some c.args.c =
    elim c.match-known_reason.branch [
      | in-Some+else-reason-c w ↦ other_reason c.known_reason.result w.in-Some.reason c.args.c w.in-Some.is w.if-reason-c.false
      | in_default w ↦ no_reason c.known_reason.result c.args.c w.in_default.is
    ]
    in
    let P : ℕ → Type 0 = λ j. (d : Entry) → (get_or es j d).reason ≢ Some c.args.c in
    λ j d lt. below_more P k (λ i less e. c.loop-k.invariant i e less) (λ e same. found (sym (known e) ∙ same)) j lt d
