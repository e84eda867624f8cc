use Rattle.std.proofs.Common.{take, ◌∷◌, ◌≡◌, ◌++◌, [], ap, sym, ◌∙◌, arith, length}
use Rattle.std.specs.Prelude.{ℕ, Option, Some, None}
use Rattle.std.specs.List.{filter_map, cons_option}
use Rattle.std.proofs.lemmas.List.{append-nil, length-take-le}
use Rattle.lls_analyse.specs.Hinted.{place_followed}
use Rattle.lls_analyse.proofs.HintLists.{filter_map-take_more, length-filter_map-le, visited_few}
use Rattle.lls_analyse.proofs.hints.gather_places.Goals as goal
use Rattle.lls_analyse.proofs.hints.gather_places.Goals.{in-Some, in_default}

pub push_reserved-requires : goal.push_reserved-requires
push_reserved-requires c =
    let f = place_followed c.args.trail.now.entries c.args.visited.now.seen in
    let few = visited_few c.args.visited.now c.lits-lit-items.ensures.visited in
    let so_far = length-filter_map-le f (take c.loop-lit.lit-index c.lits-lit-items.result.now) in
    omega (arith, few, so_far, length-take-le c.loop-lit.lit-index c.lits-lit-items.result.now, ap length c.lits-lit-items.ensures.lits, ap length c.loop-lit.invariant.0, c.loop-lit.invariant.1, c.requires.room, c.loop-lit-test.true)

pub loop-lit-preserved : goal.loop-lit-preserved
loop-lit-preserved c =
    let f = place_followed c.args.trail.now.entries c.args.visited.now.seen in
    let more = filter_map-take_more f c.lits-lit-items.result.now c.loop-lit.lit-index c.lit-item.result c.loop-lit-test.true c.lit-item.is in
    elim c.match-place_followed.branch [
      | in-Some w ↦
          let is : Some w.in-Some.place ≡ f c.lit-item.result = sym w.in-Some.is ∙ c.place_followed.ensures in
          rw (w.places-is, w.push_reserved.ensures.items, w.push_reserved.ensures.capacity)
          (ap (λ xs. xs ++ w.in-Some.place ∷ []) c.loop-lit.invariant.0 ∙ ap (λ (o : Option ℕ). filter_map f (take c.loop-lit.lit-index c.lits-lit-items.result.now) ++ cons_option o []) is ∙ sym more, c.loop-lit.invariant.1)
      | in_default w ↦
          let is : None ≡ f c.lit-item.result = sym w.in_default.is ∙ c.place_followed.ensures in
          rw w.places-is
          (c.loop-lit.invariant.0 ∙ sym (append-nil (filter_map f (take c.loop-lit.lit-index c.lits-lit-items.result.now))) ∙ ap (λ (o : Option ℕ). filter_map f (take c.loop-lit.lit-index c.lits-lit-items.result.now) ++ cons_option o []) is ∙ sym more, c.loop-lit.invariant.1)
    ]
