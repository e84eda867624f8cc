use Rattle.std.proofs.Common.{sym, ap, subst, ◌∙◌, arith, length, map, ◌++◌, ◌∷◌, []}
use Rattle.std.specs.Prelude.{ℕ, List, Contains}
use Rattle.std.proofs.lemmas.List.Sorted.{IsNonDecreasingBy-from_sort}
use Rattle.lls_analyse.specs.Hinted.{hint_at, hint_of, IsForcedPlace}
use Rattle.lls_analyse.proofs.Learning.{sorted_places, hints_made}
use Rattle.lls_analyse.proofs.Valued.{all_have_values}
use Rattle.lls_analyse.proofs.hints.gather_hints.Goals as goal

pub hints_of-requires-clause-forced : goal.hints_of-requires-clause-forced
hints_of-requires-clause-forced g c =
    let store = g.S.Store.state c.args.store.now in
    let all = sorted_places store c.args.trail.now c.args.visited.now c.args.conflict c.gather_places.new.places.items c.sort_unstable.new.self.items c.gather_places.ensures.visited c.requires.analysed c.gather_places.ensures.places c.sort_unstable.ensures.permutation in
    let P : List ℕ → Type 0 = λ ks. (k : ℕ) → Contains ks k → IsForcedPlace store.live c.args.trail.now.entries k in
    subst P (sym c.as_slice.ensures.value) all.forced

pub hints_of-requires-clause-room : goal.hints_of-requires-clause-room
hints_of-requires-clause-room g c =
    let store = g.S.Store.state c.args.store.now in
    let all = sorted_places store c.args.trail.now c.args.visited.now c.args.conflict c.gather_places.new.places.items c.sort_unstable.new.self.items c.gather_places.ensures.visited c.requires.analysed c.gather_places.ensures.places c.sort_unstable.ensures.permutation in
    omega (arith, all.few, ap (λ (ks : List ℕ). length ks) c.as_slice.ensures.value, c.requires.room_for_hints)

pub returns-clause-hints : goal.returns-clause-hints
returns-clause-hints g c =
    let store = g.S.Store.state c.args.store.now in
    let all = sorted_places store c.args.trail.now c.args.visited.now c.args.conflict c.gather_places.new.places.items c.sort_unstable.new.self.items c.gather_places.ensures.visited c.requires.analysed c.gather_places.ensures.places c.sort_unstable.ensures.permutation in
    hints_made store c.args.trail.now c.args.visited.now c.args.conflict c.sort_unstable.new.self.items c.hints_of.new.hints.items c.requires.live c.requires.analysed all (IsNonDecreasingBy-from_sort (λ x. x) c.sort_unstable.new.self.items c.sort_unstable.ensures.sorted)
    (c.hints_of.ensures.hints ∙ ap (λ ks. map (hint_at store.live c.args.trail.now.entries) ks ++ hint_of store.live c.args.conflict ∷ []) c.as_slice.ensures.value)

pub gather_places-requires-clause-have_values : goal.gather_places-requires-clause-have_values
gather_places-requires-clause-have_values g c = all_have_values c.args.trail.now.entries c.args.visited.now.lits c.requires.analysed.marked.all_false
