use Rattle.std.proofs.Common.{◌≡◌, ◌+◌, length, arith}
use Rattle.std.specs.List.{zip}
use Rattle.lls_lrat.specs.Placed.{place_of}
use Rattle.lls_lrat.proofs.Kept.{kept-push}
use Rattle.lls_lrat.proofs.Indexed.{free_id, zip-push, length-zip}
use Rattle.lls_lrat.proofs.Emptied.{IsStored-push}
use Rattle.lls_lrat.proofs.added.Added.push.Goals as goal

pub store-requires : goal.store-requires
store-requires c =
    let a = c.self.inside in
    free_id (place_of a.places) a.ids.items a.clauses c.args.id c.self.invariant.indexed (rw c.self.view_is c.requires)

pub invariant_of-self-2 : goal.invariant_of-self-2
invariant_of-self-2 c =
    let a = c.self.inside in
    let free = free_id (place_of a.places) a.ids.items a.clauses c.args.id c.self.invariant.indexed (rw c.self.view_is c.requires) in
    rw (c.in_ok-store.ensures.ids, c.in_ok-store.ensures.clauses)
    (IsStored-push (place_of a.places) (place_of c.store.new.places) a.ids.items a.clauses a.dead c.args.id c.args.lits.now c.self.invariant free c.in_ok-store.ensures.ok)

pub returns-clause-ok : goal.returns-clause-ok
returns-clause-ok c =
    let a = c.self.inside in
    let free = free_id (place_of a.places) a.ids.items a.clauses c.args.id c.self.invariant.indexed (rw c.self.view_is c.requires) in
    let size : length a.ids.items ≡ 0 + length (zip a.ids.items a.clauses) = omega (arith, length-zip a.ids.items a.clauses c.self.invariant.indexed.same_many) in
    rw (c.in_ok-store.ensures.ids, c.in_ok-store.ensures.clauses, ← c.self.view_is, zip-push a.ids.items a.clauses c.args.id c.args.lits.now c.self.invariant.indexed.same_many)
    (kept-push (place_of a.places) (place_of c.store.new.places) 0 (zip a.ids.items a.clauses) c.args.id (length a.ids.items) c.args.lits.now free size c.in_ok-store.ensures.ok)
