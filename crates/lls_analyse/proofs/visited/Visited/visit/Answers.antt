use Rattle.std.proofs.Common.{◌≡◌, ◌+◌, ◌≤◌, false, get_or, ap, ◌∙◌, arith}
use Rattle.std.specs.Prelude.{vec_capacity}
use Rattle.lls_lit.specs.Literal.{variable_of}
use Rattle.lls_analyse.specs.declared.visited.Seen.TheVariants.{No}
use Rattle.lls_analyse.specs.Visited.{VisitedState, is_seen, status_of}
use Rattle.lls_analyse.proofs.Visits.{some_unseen, AreKept-visit}
use Rattle.lls_analyse.proofs.visited.Visited.visit.Goals as goal

pub push_reserved-requires : goal.push_reserved-requires
push_reserved-requires c =
    let m = c.self.inside in
    let at : c.index-place.result + 1 ≡ variable_of c.args.lit = c.index-place.ensures.place ∙ c.var.ensures.var in
    let most : variable_of c.args.lit ≤ m.vars = rw (ap (λ (s : VisitedState). s.vars) c.self.view_is) c.requires.within in
    let none : is_seen (get_or m.seen.items c.index-place.result No) ≡ false = ap (λ n. is_seen (get_or m.seen.items n No)) (omega (arith, at)) ∙ ap (λ (s : VisitedState). is_seen (status_of s.seen (variable_of c.args.lit))) c.self.view_is ∙ c.requires.new in
    omega (arith, some_unseen m.seen.items c.index-place.result (omega (arith, at, most, c.self.invariant.visited.each)) none, c.self.invariant.visited.each, c.self.invariant.visited.counted, c.self.invariant.room_for_all)

pub invariant_of-self : goal.invariant_of-self
invariant_of-self c =
    let m = c.self.inside in
    let at : c.index-place.result + 1 ≡ variable_of c.args.lit = c.index-place.ensures.place ∙ c.var.ensures.var in
    let most : variable_of c.args.lit ≤ m.vars = rw (ap (λ (s : VisitedState). s.vars) c.self.view_is) c.requires.within in
    let none : is_seen (get_or m.seen.items c.index-place.result No) ≡ false = ap (λ n. is_seen (get_or m.seen.items n No)) (omega (arith, at)) ∙ ap (λ (s : VisitedState). is_seen (status_of s.seen (variable_of c.args.lit))) c.self.view_is ∙ c.requires.new in
    rw (c.push_reserved.ensures.items, c.push_reserved.ensures.capacity, c.one_if_open.ensures)
    (AreKept-visit m.vars m.seen.items m.lits.items (vec_capacity m.lits) m.opens c.index-place.result c.args.lit c.args.seen c.self.invariant at most none c.requires.seen)
