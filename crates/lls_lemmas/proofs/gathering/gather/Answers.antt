use Rattle.std.proofs.Common.{◌≡◌, ◌++◌, ◌∷◌, [], List, reverse, ap, ◌∙◌, subst}
use Rattle.std.specs.Prelude.{ℤ}
use Rattle.std.specs.List.{filter_map}
use Rattle.lls_lit.specs.Marked.{Marked}
use Rattle.lls_analyse.specs.Hinted.{hint_of}
use Rattle.lls_lemmas.specs.Closing.{AreListed, CarriesOver, is_id_hint}
use Rattle.lls_lemmas.specs.Units.{unit_hint}
use Rattle.lls_lemmas.proofs.Carried.{gathered, list_all-reverse, listed-none, units_in_range}
use Rattle.lls_lemmas.proofs.gathering.gather.Goals as goal

pub go_by-requires-clause-listed : goal.go_by-requires-clause-listed
go_by-requires-clause-listed g c = rw (c.clear.ensures, c.clear-2.ensures.items) (listed-none c.args.gathering.now.marks.vars)

pub push_units-requires-clause-ids : goal.push_units-requires-clause-ids
push_units-requires-clause-ids g c = units_in_range (g.S.Store.state c.args.store.now) c.args.trail.now.entries c.args.units.now c.requires.live c.requires.are_units

pub returns-clause-gives : goal.returns-clause-gives
returns-clause-gives g c =
    let s = g.S.Store.state c.args.store.now in
    let t = c.args.trail.now in
    let one = c.go_by.new.gathering in
    let two = c.go_back_over.new.gathering in
    let start : one.hints.items ≡ hint_of s.live c.args.closing ∷ [] = c.in_ok-go_by.ensures.hints ∙ ap (λ (hs : List ℤ). hs ++ hint_of s.live c.args.closing ∷ []) c.clear-3.ensures.items in
    let P : List ℤ → Type 0 = λ hs. CarriesOver s.live t.entries one.marks.lits c.args.top hs two.marks.lits c.args.base two.hints.items in
    let vars : one.marks.vars ≡ t.vars = c.in_ok-go_by.ensures.vars ∙ ap (λ (m : Marked). m.vars) c.clear.ensures ∙ c.requires.vars in
    gathered s t c.args.units.now c.args.base c.args.top c.args.closing one.marks.lits two.marks.lits two.met.items two.hints.items c.reverse.new.self.items
    c.requires.live c.requires.is_trail c.requires.are_units c.requires.complete c.in_ok-go_by.ensures.marked
    (subst P start c.in_ok-go_back_over.ensures.closes)
    (subst (λ n. AreListed n two.marks.lits two.met.items) vars c.in_ok-go_back_over.ensures.listed)
    (c.reverse.ensures.items ∙ ap reverse (c.in_ok-push_units.ensures.hints ∙ ap (λ (ms : List ℤ). two.hints.items ++ filter_map (unit_hint c.args.units.now) ms) c.as_slice.ensures.value))

pub returns-clause-in_range : goal.returns-clause-in_range
returns-clause-in_range g c = rw c.reverse.ensures.items (list_all-reverse is_id_hint c.push_units.new.hints.items c.in_ok-push_units.ensures.in_range)
