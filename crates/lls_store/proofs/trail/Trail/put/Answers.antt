use Rattle.std.proofs.Common.{length, ◌≡◌, ◌+◌, ◌≤◌, Some, None, is_none, cond, set, ap, sym, ◌∙◌, arith}
use Rattle.std.specs.Prelude.{vec_capacity}
use Rattle.std.proofs.lemmas.List.{length-map}
use Rattle.lls_lit.specs.Literal.{variable_of, is_positive}
use Rattle.lls_store.specs.Trail.{TrailState, entry_of}
use Rattle.lls_store.specs.Tables.{entry_in, trail_in}
use Rattle.lls_store.proofs.Parts.{room_left, AreTables-push, trail_in-push}
use Rattle.lls_store.proofs.Found.{entry_of-free}
use Rattle.lls_store.proofs.Tabled.{literals_of-entries_in}
use Rattle.lls_store.proofs.Placed.{ArePlaced-push}
use Rattle.lls_lit.specs.Formula.{is_within}
use Rattle.lls_store.proofs.trail.Trail.put.Goals as goal

pub push_reserved-requires : goal.push_reserved-requires
push_reserved-requires c =
    let m = c.self.inside in
    let i = c.index-index.result in
    let at : i + 1 ≡ variable_of c.args.lit = c.index-index.ensures.place ∙ c.var.ensures.var in
    let most : variable_of c.args.lit ≤ m.vars = rw (ap (λ (t : TrailState). t.vars) c.self.view_is) c.requires.within in
    let t = trail_in m.vars m.current m.rows.levels m.rows.reasons m.lits.items in
    let none = entry_of-free t c.args.self.now c.args.lit c.self.view_is c.self.invariant.0.is_trail c.requires.unset in
    let none_here : entry_of t.entries (i + 1) ≡ None = ap (entry_of t.entries) at ∙ none in
    omega (arith, room_left t (vec_capacity m.lits) i m.values m.rows.levels m.rows.reasons c.self.invariant.0 (omega (arith, at, most)) none_here, c.self.invariant.0.room_for_all, length-map m.lits.items (entry_in m.rows.levels m.rows.reasons), m.lits.ok.0)

pub set-requires : goal.set-requires
set-requires c =
    let m = c.self.inside in
    let i = c.index-index.result in
    let at : i + 1 ≡ variable_of c.args.lit = c.index-index.ensures.place ∙ c.var.ensures.var in
    let most : variable_of c.args.lit ≤ m.vars = rw (ap (λ (t : TrailState). t.vars) c.self.view_is) c.requires.within in
    omega (arith, most, c.self.invariant.0.value_each)

pub write-requires : goal.write-requires
write-requires c =
    let m = c.self.inside in
    let i = c.index-index.result in
    let at : i + 1 ≡ variable_of c.args.lit = c.index-index.ensures.place ∙ c.var.ensures.var in
    let most : variable_of c.args.lit ≤ m.vars = rw (ap (λ (t : TrailState). t.vars) c.self.view_is) c.requires.within in
    omega (arith, at, most, c.self.invariant.0.level_each)

pub invariant_of-self : goal.invariant_of-self
invariant_of-self c =
    let m = c.self.inside in
    let i = c.index-index.result in
    let at : i + 1 ≡ variable_of c.args.lit = c.index-index.ensures.place ∙ c.var.ensures.var in
    let most : variable_of c.args.lit ≤ m.vars = rw (ap (λ (t : TrailState). t.vars) c.self.view_is) c.requires.within in
    let t = trail_in m.vars m.current m.rows.levels m.rows.reasons m.lits.items in
    let none = entry_of-free t c.args.self.now c.args.lit c.self.view_is c.self.invariant.0.is_trail c.requires.unset in
    let now : c.set.new.self ≡ set m.values i (Some (is_positive c.args.lit)) = c.set.ensures ∙ ap (λ n. set m.values n (Some (is_positive c.args.lit))) (omega (arith, at)) in
    let len : c.len-place.result ≡ length m.lits.items = omega (arith, c.len-place.ensures, m.lits.ok.0) in
    rw (c.push_reserved.ensures.items, c.push_reserved.ensures.capacity, now, c.write.ensures, len) (
      AreTables-push m.vars m.current c.args.level (vec_capacity m.lits) i m.values m.rows.levels m.rows.reasons m.lits.items c.args.lit c.args.reason c.self.invariant.0 at most none (c.requires.level ∙ ap (λ (t : TrailState). t.current + cond (is_none c.args.reason) 1 0) (sym c.self.view_is)),
      ArePlaced-push m.vars i m.rows.levels m.rows.reasons m.lits.items m.rows.places c.args.lit c.self.invariant.1 (ap (is_within m.vars) (sym (literals_of-entries_in m.rows.levels m.rows.reasons m.lits.items)) ∙ c.self.invariant.0.is_trail.within) at most none,
    )

pub returns : goal.returns
returns c =
    let m = c.self.inside in
    let i = c.index-index.result in
    let at : i + 1 ≡ variable_of c.args.lit = c.index-index.ensures.place ∙ c.var.ensures.var in
    let most : variable_of c.args.lit ≤ m.vars = rw (ap (λ (t : TrailState). t.vars) c.self.view_is) c.requires.within in
    let t = trail_in m.vars m.current m.rows.levels m.rows.reasons m.lits.items in
    let none = entry_of-free t c.args.self.now c.args.lit c.self.view_is c.self.invariant.0.is_trail c.requires.unset in
    rw (c.push_reserved.ensures.items, c.write.ensures, ← c.self.view_is)
    (trail_in-push m.vars m.current c.args.level (vec_capacity m.lits) i m.values m.rows.levels m.rows.reasons m.lits.items c.args.lit c.args.reason c.self.invariant.0 at most none)
