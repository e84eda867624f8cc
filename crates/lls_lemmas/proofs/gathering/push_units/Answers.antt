use Rattle.std.proofs.Common.{◌++◌, List, [], take, sym, ap, ◌∙◌, append_assoc}
use Rattle.std.specs.Prelude.{ℤ}
use Rattle.std.specs.List.{filter_map, cons_option}
use Rattle.lls_lemmas.specs.Units.{unit_hint}
use Rattle.lls_lemmas.proofs.Carried.{filter_map-take_more}
use Rattle.lls_lemmas.proofs.gathering.push_units.Goals as goal

pub loop-lit-preserved : goal.loop-lit-preserved
loop-lit-preserved c =
    let f = unit_hint c.args.units.now in
    let done = filter_map f (take c.loop-lit.lit-index c.args.lits.now) in
    let last = cons_option (f c.lit-item.result) [] in
    record {
      pushed = c.in_ok-push_unit.ensures.hints ∙ ap (λ (hs : List ℤ). hs ++ last) c.loop-lit.invariant.pushed ∙ append_assoc c.args.hints.now.items done last
          ∙ ap (λ (hs : List ℤ). c.args.hints.now.items ++ hs) (sym (filter_map-take_more f c.args.lits.now c.loop-lit.lit-index c.lit-item.result c.loop-lit-test.true c.lit-item.is));
      in_range = c.in_ok-push_unit.ensures.in_range;
    }
