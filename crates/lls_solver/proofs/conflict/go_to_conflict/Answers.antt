use Rattle.std.proofs.Common.{◌≡◌, ◌≤◌, ℕ, ℤ, List, Some, sym, subst}
use Rattle.std.specs.Prelude.{IfSome}
use Rattle.std.specs.FinSet as set
use Rattle.lls_store.specs.Trail.{TrailState, IsTrail}
use Rattle.lls_store.specs.Changes.{cut_to}
use Rattle.lls_store.specs.Clauses.{LiveClause, clause_numbered}
use Rattle.lls_store.specs.Store.{IsConflict}
use Rattle.lls_store.proofs.Live.{number_given}
use Rattle.lls_analyse.specs.Learnt.{IsCurrentConflict}
use Rattle.lls_analyse.proofs.Valued.{clause_has_values, conflict_has_values}
use Rattle.lls_solver.specs.Conflict.{IsHighest}
use Rattle.lls_solver.proofs.Kept.{closed_below_moved}
use Rattle.lls_solver.proofs.Below.{closed_below_cut}
use Rattle.lls_solver.proofs.Conflicts.{conflict_up_to, current_up_to}
use Rattle.lls_solver.proofs.conflict.go_to_conflict.Goals as goal

read_is : (live : List LiveClause) (number : ℕ) (clause : LiveClause) (lits : List ℤ) → clause_numbered live number ≡ Some clause → IfSome (clause_numbered live number) (λ c. set.from_list lits ≡ c.lits) → set.from_list lits ≡ clause.lits
read_is live number clause lits is read = subst (λ o. IfSome o (λ c. set.from_list lits ≡ c.lits)) is read

pub lits-requires : goal.lits-requires
lits-requires g c = number_given (g.S.Store.state c.args.store.now) c.args.conflict c.requires.conflict.clause c.count-count.ensures.live c.requires.conflict.is_live

pub highest_level-level-requires-clause-have_values : goal.highest_level-level-requires-clause-have_values
highest_level-level-requires-clause-have_values g c =
    let s = g.S.Store.state c.args.store.now in
    let conflict = subst (λ (t : TrailState). IsConflict s.live t c.args.conflict) (sym c.course.view_is) c.requires.conflict in
    let t = c.course.inside.trail in
    clause_has_values t.entries s.live c.args.conflict conflict.clause c.lits.result.now (conflict_has_values s.live t c.args.conflict conflict) conflict.is_live (read_is s.live c.args.conflict conflict.clause c.lits.result.now conflict.is_live c.lits.ensures)

pub returns-clause-conflict : goal.returns-clause-conflict
returns-clause-conflict g c =
    let s = g.S.Store.state c.args.store.now in
    let t = c.args.course.now in
    let lits = c.lits.result.now in
    let level = c.highest_level-level.result in
    let conflict = c.requires.conflict in
    let cut : IsTrail (cut_to t level) = subst IsTrail c.go_back.ensures.cut c.go_back.ensures.kept in
    let highest = subst (λ (x : TrailState). IsHighest x lits level) c.course.view_is c.highest_level-level.ensures.highest in
    subst (λ (x : TrailState). IsConflict s.live x c.args.conflict) (sym c.go_back.ensures.cut)
    (conflict_up_to s.live t c.args.conflict level lits (subst IsTrail c.course.view_is c.course.invariant.is_trail) cut conflict (read_is s.live c.args.conflict conflict.clause lits conflict.is_live c.lits.ensures) highest)

pub returns-clause-current : goal.returns-clause-current
returns-clause-current g c =
    let s = g.S.Store.state c.args.store.now in
    let t = c.args.course.now in
    let lits = c.lits.result.now in
    let level = c.highest_level-level.result in
    let conflict = c.requires.conflict in
    let cut : IsTrail (cut_to t level) = subst IsTrail c.go_back.ensures.cut c.go_back.ensures.kept in
    let highest = subst (λ (x : TrailState). IsHighest x lits level) c.course.view_is c.highest_level-level.ensures.highest in
    λ above.
    subst (λ (x : TrailState). IsCurrentConflict s.live x c.args.conflict) (sym c.go_back.ensures.cut)
    (current_up_to s.live t c.args.conflict level lits (subst IsTrail c.course.view_is c.course.invariant.is_trail) cut conflict (read_is s.live c.args.conflict conflict.clause lits conflict.is_live c.lits.ensures) highest above)

pub returns-clause-on_course : goal.returns-clause-on_course
returns-clause-on_course g c =
    let s = g.S.Store.state c.args.store.now in
    let t = c.args.course.now in
    let level = c.highest_level-level.result in
    let most : level ≤ t.current = subst (λ (x : TrailState). level ≤ x.current) c.course.view_is c.highest_level-level.ensures.most in
    record {
      sound = c.go_back.ensures.sound;
      closed_below = closed_below_moved s (cut_to t level) c.go_back.new.self (sym c.go_back.ensures.cut) (closed_below_cut s.live t level most c.requires.on_course.closed_below);
    }
