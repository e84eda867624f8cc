use Rattle.std.proofs.Common.{◌≡◌, ℕ, get_or, map, true, subst, ◌∙◌, arith}
use Rattle.std.specs.Prelude.{List, All, Contains}
use Rattle.std.proofs.lemmas.List.{with_items_is}
use Rattle.std.proofs.lemmas.List.Elements.{All-contains, All-map}
use Rattle.lls_store.proofs.Live.{number_given}
use Rattle.lls_solver.specs.declared.deletion.Candidate.{Candidate}
use Rattle.lls_solver.specs.Deletion.{is_marked, MayGo}
use Rattle.lls_solver.proofs.Marks.{half_may_go}
use Rattle.lls_solver.proofs.deletion.marks_of.Goals as goal

pub mark_numbers-requires-clause-within : goal.mark_numbers-requires-clause-within
mark_numbers-requires-clause-within g c =
    let store = g.S.Store.state c.args.store.now in
    let P : Candidate → Type 0 = λ x. MayGo store.live c.args.reasons.now c.args.last x.number in
    let all : All P c.truncate.new.self.items = half_may_go P c.in_ok-candidates.candidates.items c.sort_unstable.new.self.items c.truncate.new.self.items _ c.in_ok-candidates.ensures c.sort_unstable.ensures.permutation c.truncate.ensures.items in
    rw c.deref.ensures.value (λ k d lt.
    let goes = all k d lt in
    let given = number_given store (get_or c.truncate.new.self.items k d).number goes.clause c.count-count.ensures.live goes.is_live in
    omega (arith, given, c.count-count.ensures.count, c.in_ok-marks.ensures.len, c.deref_mut.ensures.len))

pub returns-clause-may_go : goal.returns-clause-may_go
returns-clause-may_go g c =
    let store = g.S.Store.state c.args.store.now in
    let P : Candidate → Type 0 = λ x. MayGo store.live c.args.reasons.now c.args.last x.number in
    let all : All P c.truncate.new.self.items = half_may_go P c.in_ok-candidates.candidates.items c.sort_unstable.new.self.items c.truncate.new.self.items _ c.in_ok-candidates.ensures c.sort_unstable.ensures.permutation c.truncate.ensures.items in
    let number : Candidate → ℕ = λ x. x.number in
    let Goes : ℕ → Type 0 = λ m. MayGo store.live c.args.reasons.now c.args.last m in
    let marks = c.mark_numbers.new.marks in
    let same = with_items_is c.in_ok-marks.marks marks (c.mark_numbers.ensures.len ∙ c.deref_mut.ensures.len) in
    λ n is.
    let marked = c.mark_numbers.ensures.marked n (subst (λ ms. is_marked ms n ≡ true) same is) in
    All-contains Goes (map number c.truncate.new.self.items) n (All-map Goes number c.truncate.new.self.items all) (subst (λ (xs : List Candidate). Contains (map number xs) n) c.deref.ensures.value marked)
