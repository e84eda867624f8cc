use Rattle.std.proofs.Common.{◌≡◌, true, sym, ap, subst, ◌∙◌, arith, length}
use Rattle.std.specs.Prelude.{ℤ, List, Option, Contains, IfSome}
use Rattle.lls_analyse.specs.Visited.{is_open, status}
use Rattle.lls_analyse.proofs.HintLists.{visited_few}
use Rattle.lls_analyse.proofs.Gathering.{asserting_found, others_few}
use Rattle.lls_analyse.proofs.clause.gather_clause.Goals as goal

pub unwrap-requires : goal.unwrap-requires
unwrap-requires c = asserting_found c.args.visited.now c.asserting.result c.asserting.ensures.visited c.requires.some c.asserting.ensures.none

pub push_reserved-requires : goal.push_reserved-requires
push_reserved-requires c =
    let s = c.args.visited.now in
    let F : Option ℤ → Type 0 = λ o. IfSome o (λ (l : ℤ). Contains s.lits l) in
    let (k, lt, at) = subst F c.unwrap.ensures c.asserting.ensures.found in
    omega (arith, lt, visited_few s c.asserting.ensures.visited, c.requires.room, ap (λ (ls : List ℤ). length ls) c.requires.empty)

pub push_reserved-requires-in-Some : goal.push_reserved-requires-in-Some
push_reserved-requires-in-Some c =
    let s = c.args.visited.now in
    let F : Option ℤ → Type 0 = λ o. IfSome o (λ (l : ℤ). Contains s.lits l) in
    let O : Option ℤ → Type 0 = λ o. IfSome o (λ (l : ℤ). is_open (status s.seen l) ≡ true) in
    let few = others_few c.args.trail.now.entries s c.unwrap.result c.in-Some.second (subst F c.unwrap.ensures c.asserting.ensures.found) (subst O c.unwrap.ensures c.asserting.ensures.is_open) (sym c.latest.ensures ∙ c.in-Some.is) in
    omega (arith, few, visited_few s c.asserting.ensures.visited, c.requires.room, c.push_reserved.ensures.len, c.push_reserved.ensures.capacity, ap (λ (ls : List ℤ). length ls) c.requires.empty)

pub push_others-requires : goal.push_others-requires
push_others-requires c =
    let s = c.args.visited.now in
    let F : Option ℤ → Type 0 = λ o. IfSome o (λ (l : ℤ). Contains s.lits l) in
    let O : Option ℤ → Type 0 = λ o. IfSome o (λ (l : ℤ). is_open (status s.seen l) ≡ true) in
    let few = others_few c.args.trail.now.entries s c.unwrap.result c.in-Some.second (subst F c.unwrap.ensures c.asserting.ensures.found) (subst O c.unwrap.ensures c.asserting.ensures.is_open) (sym c.latest.ensures ∙ c.in-Some.is) in
    omega (arith, few, visited_few s c.asserting.ensures.visited, c.requires.room, c.push_reserved.ensures.len, c.push_reserved.ensures.capacity, c.push_reserved-in-Some.ensures.len, c.push_reserved-in-Some.ensures.capacity, ap (λ (ls : List ℤ). length ls) c.requires.empty)
