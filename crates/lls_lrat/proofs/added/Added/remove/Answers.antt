use Rattle.std.proofs.Common.{◌≡◌, eqb, Some, sym, ◌∙◌, arith}
use Rattle.std.specs.Prelude.{slice_get}
use Rattle.std.specs.List.{zip}
use Rattle.lls_lrat.specs.Placed.{place_of}
use Rattle.lls_lrat.proofs.Kept.{kept-filter}
use Rattle.lls_lrat.proofs.Indexed.{place_within, get-zip}
use Rattle.lls_lrat.proofs.Emptied.{fewer_literals, IsStored-none}
use Rattle.lls_lrat.proofs.added.Added.remove.Goals as goal

pub invariant_of-self : goal.invariant_of-self
invariant_of-self c =
    let a = c.self.inside in
    IsStored-none (place_of a.places) (place_of c.take.new.self) a.ids.items a.clauses a.dead c.args.id c.self.invariant (sym c.take.ensures.place ∙ c.in_default.is) c.take.ensures.others

pub returns-in_default : goal.returns-in_default
returns-in_default c =
    let a = c.self.inside in
    rw (← c.self.view_is)
    (kept-filter (place_of a.places) (place_of c.take.new.self) (λ q. eqb c.args.id q) 0 (zip a.ids.items a.clauses) c.take.ensures.others)

pub clause-len-requires : goal.clause-len-requires
clause-len-requires c =
    let a = c.self.inside in
    place_within (place_of a.places) a.ids.items a.clauses c.args.id c.in-Some.place c.self.invariant.indexed (sym c.in-Some.ensures.place)

pub bury-self-inside-requires-clause-dead : goal.bury-self-inside-requires-clause-dead
bury-self-inside-requires-clause-dead c =
    let a = c.self.inside in
    let all = zip a.ids.items a.clauses in
    let there = sym c.in-Some.ensures.place in
    let clause = c.clause-len.result.now in
    let at : slice_get all c.in-Some.place ≡ Some (c.args.id, clause) = get-zip a.ids.items a.clauses c.in-Some.place c.args.id clause (c.self.invariant.indexed.under c.args.id c.in-Some.place there) c.clause-len.ensures in
    let fewer = fewer_literals (place_of a.places) (place_of c.take.new.self) c.args.id c.in-Some.place there c.take.ensures.others all (c.args.id, clause) at in
    rw c.deref.ensures.value (omega (arith, fewer, c.self.invariant.dead_at_most))

pub returns : goal.returns
returns c =
    let a = c.self.inside in
    let live = rw c.deref.ensures.value at c.bury-self-inside.ensures.live in
    rw (← c.self.view_is)
    (live ∙ kept-filter (place_of a.places) (place_of c.take.new.self) (λ q. eqb c.args.id q) 0 (zip a.ids.items a.clauses) c.take.ensures.others)
