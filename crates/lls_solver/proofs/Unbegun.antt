-- A search that hasn't begun: no literal has a value, and nothing is learnt.
use Rattle.std.proofs.Common.{◌≡◌, ◌+◌, ℕ, List, [], length, refl, sym, subst, arith}
use Rattle.lls_lit.specs.Formula.{Cnf}
use Rattle.lls_prooflog.specs.UnitWalk.{numbered}
use Rattle.lls_store.specs.Trail.{TrailState}
use Rattle.lls_store.specs.Changes.{empty_trail}
use Rattle.lls_store.specs.Clauses.{LiveClause}
use Rattle.lls_store.specs.Sound.{IsSound}
use Rattle.lls_store.specs.Store.{StoreState}
use Rattle.lls_solver.specs.Course.{AreClosedBelow}
use Rattle.lls_solver.specs.Searching.{additions, HoldsClauses, IsGoodLog, IsSearching}

pub good_none : (formula : Cnf) → IsGoodLog formula []
good_none formula = record { good = tt; fresh = tt; deletions = tt; numbered_on = tt; none_empty = refl }

closed_below_none : (live : List LiveClause) (vars : ℕ) → AreClosedBelow live (empty_trail vars)
closed_below_none live vars level least most = absurd (omega (arith, least, most))

pub searching_start : (formula : Cnf) (store : StoreState) (seen trail : TrailState) → seen ≡ trail → trail ≡ empty_trail formula.vars → HoldsClauses store formula.vars (numbered formula.clauses) (length formula.clauses) → IsSound store.live seen → IsSearching formula [] store trail
searching_start formula store seen trail same empty holds sound =
    let last : length formula.clauses ≡ length formula.clauses + additions [] = omega arith in
    record {
      holds = subst (λ n. HoldsClauses store formula.vars (numbered formula.clauses) n) last holds;
      log = good_none formula;
      on_course = record { sound = subst (IsSound store.live) same sound; closed_below = subst (AreClosedBelow store.live) (sym empty) (closed_below_none store.live formula.vars) };
    }
