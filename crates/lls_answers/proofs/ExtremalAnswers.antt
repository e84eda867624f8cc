-- What a search for the fewest live cells, or for the most, comes to is a right answer, and what that does.
use Rattle.std.proofs.Common.{◌≡◌, Bool, List, Option, None, Some, refl, sym, subst, inl, inr, ◌∙◌}
use Rattle.std.specs.Option.{option_map}
use Rattle.lls_base.specs.Shelf.{Files}
use Rattle.std.specs.Prelude.{codes}
use Rattle.lls_grid.specs.History.{History}
use Rattle.lls_prooflog.specs.declared.step.Step.{Step}
use Rattle.lls_prooflog.specs.Log.{log_text}
use Rattle.lls_prooflog.specs.Spent.{IsSpent}
use Rattle.lls_solver.specs.Searching.{KeepsAll}
use Rattle.lls_search_file.specs.Posed.{IsPosed}
use Rattle.lls_problem.specs.declared.bounds.Bound.{Bound}
use Rattle.lls_problem.specs.Bounds.{grid_size}
use Rattle.lls_problem.specs.Problem.{AreFitting}
use Rattle.lls_problem.specs.Solution.{IsSolution}
use Rattle.lls_problem.proofs.Plane.{plane_law}
use Rattle.lls_least.specs.declared.extreme.Extreme.{Extreme}
use Rattle.lls_least.specs.Bounded.{live_cells, LeavesRoom}
use Rattle.lls_least.specs.Extremal.{Certifies, IsExtreme, beyond_it}
use Rattle.lls_least.proofs.Made.{made-bounded, within-beyond}
use Rattle.lls_least.proofs.Solutions.{live_cells-le}
use Rattle.lls_answers.specs.Questions as questions
use Rattle.lls_answers.specs.declared.effort.Effort.{Effort}
use Rattle.lls_answers.specs.declared.answer_file.AnswerFile.{AnswerFile}
use Rattle.lls_answers.specs.declared.answer.Answer.{Answer}
use Rattle.lls_answers.specs.declared.asked.Asked.{Asked}
use Rattle.lls_answers.specs.declared.status.Status.TheVariants as statuses
use Rattle.lls_answers.specs.Subject.{Subject, formula_asked}
use Rattle.lls_answers.specs.Subject as subjects
use Rattle.lls_answers.specs.Evidence.{HasProof, IsEvidence}
use Rattle.lls_answers.specs.Meaning.{OfFile, shown, shown_behind}
use Rattle.lls_answers.specs.Extremal.{asked_bounded, subject_beyond, AsksBeyond, IsOfExtreme, whole, farther, shown_text, reached_text, IsExtremal, last, utmost_shown, no_solution, reached, unsettled, HasLookedLog, IsCertified, leaves_extremal, extremal_meaning}
use Rattle.lls_answers.specs.Answer.{IsAnswer}
use Rattle.lls_answers.specs.Shown.{ShowsNone}
use Rattle.lls_outside.specs.Moment.{ShelfMoment, files_at}
use Rattle.lls_answers.specs.Standing.{WroteFile}
use Rattle.lls_answers.proofs.Outputs.{IsLawful, WritesAtMost, named_by, none_ahead, of_written, one_name, proof_left}
use Rattle.lls_answers.proofs.Searches.{evidence_of, log_by, short_by}

pub of_extreme : (extreme : Extreme) (asked : Asked) (history : History) → IsSolution asked.problem history → IsExtreme extreme asked.problem history → IsOfExtreme extreme asked history
of_extreme extreme asked history solution utmost = record { solution = solution; law = plane_law asked.problem history solution; utmost = utmost }

pub asks_beyond : (extreme : Extreme) (asked : Asked) (history : History) (bound : Bound) → IsPosed asked.problem.posed → AreFitting asked.problem.posed asked.problem.demands
    → LeavesRoom asked.problem → IsSolution asked.problem history → beyond_it extreme asked.problem history ≡ Some bound → AsksBeyond extreme asked history bound
asks_beyond extreme asked history bound kept fitting room solution asks = record {
  solution = solution;
  law = plane_law asked.problem history solution;
  asks = asks;
  posed = made-bounded asked.problem bound kept fitting room
      (within-beyond extreme (grid_size asked.problem.posed) (live_cells history) bound (live_cells-le asked.problem history kept.generations.0 solution) asks);
}

-- the certificate of a solution beyond which there is room is evidence
pub certified_by : (asked : Asked) (effort : Effort) (steps : List Step) (next : Option Bound) (bound : Bound) → next ≡ Some bound → KeepsAll effort.keep_all steps
    → Certifies asked.problem asked.formulation effort.budget steps next → IsEvidence (formula_asked (asked_bounded asked bound)) effort steps
certified_by asked effort steps next bound is kept certified =
    evidence_of (formula_asked (asked_bounded asked bound)) effort steps kept (subst (Certifies asked.problem asked.formulation effort.budget steps) is certified)

-- what the problem that asks for a solution beyond a history says of that
none_of_map : (asked : Asked) (next : Option Bound) → None ≡ option_map (λ bound. subjects.Problem (asked_bounded asked bound)) next → next ≡ None
none_of_map asked None is = refl
none_of_map asked (Some bound) is = absurd cc

some_of_map : (asked : Asked) (next : Option Bound) (subject : Subject) → Some subject ≡ option_map (λ bound. subjects.Problem (asked_bounded asked bound)) next
    → (bound : Bound) × (next ≡ Some bound) × (subject ≡ subjects.Problem (asked_bounded asked bound))
some_of_map asked None subject is = absurd cc
some_of_map asked (Some bound) subject is = (bound, refl, same is) where
  same : {a b : Subject} → Some a ≡ Some b → a ≡ b
  same is = cc

pub none_beyond : (extreme : Extreme) (asked : Asked) (history : History) (next : Option Subject) → next ≡ None → next ≡ subject_beyond extreme asked history
    → beyond_it extreme asked.problem history ≡ None
none_beyond extreme asked history next is beyond = none_of_map asked (beyond_it extreme asked.problem history) (subst (λ n. n ≡ subject_beyond extreme asked history) is beyond)

pub one_beyond : (extreme : Extreme) (asked : Asked) (history : History) (next : Option Subject) (subject : Subject) → next ≡ Some subject → next ≡ subject_beyond extreme asked history
    → (bound : Bound) × (beyond_it extreme asked.problem history ≡ Some bound) × (subject ≡ subjects.Problem (asked_bounded asked bound))
one_beyond extreme asked history next subject is beyond =
    some_of_map asked (beyond_it extreme asked.problem history) subject (subst (λ n. n ≡ subject_beyond extreme asked history) is beyond)

pub last_answer : (extreme : Extreme) (asked : Asked) (effort : Effort) (rle : Bool) (history : History) (answer : Answer) → IsOfExtreme extreme asked history
    → beyond_it extreme asked.problem history ≡ None → answer ≡ shown statuses.Pattern (shown_text extreme rle asked.problem.rule history)
    → IsAnswer (questions.Extremal extreme asked effort rle) answer
last_answer extreme asked effort rle history answer own none is =
    subst (IsAnswer (questions.Extremal extreme asked effort rle)) (sym is) (record { answers = last history own none; holds = (history, own) })

pub utmost_answer : (extreme : Extreme) (asked : Asked) (effort : Effort) (rle : Bool) (history : History) (bound : Bound) (file : AnswerFile) (answer : Answer)
    → IsOfExtreme extreme asked history → AsksBeyond extreme asked history bound → HasProof (formula_asked (asked_bounded asked bound)) effort file
    → answer ≡ shown_behind file statuses.Pattern (shown_text extreme rle asked.problem.rule history) → IsAnswer (questions.Extremal extreme asked effort rle) answer
utmost_answer extreme asked effort rle history bound file answer own asks proof is =
    subst (IsAnswer (questions.Extremal extreme asked effort rle)) (sym is) (record { answers = utmost_shown history bound file own asks proof; holds = (history, own) })

pub no_solution_answer : (extreme : Extreme) (asked : Asked) (effort : Effort) (rle : Bool) (answer : Answer) → ShowsNone (subjects.Problem asked) effort answer
    → IsAnswer (questions.Extremal extreme asked effort rle) answer
no_solution_answer extreme asked effort rle answer shows =
    subst (IsAnswer (questions.Extremal extreme asked effort rle)) (sym shows.answer_is) (record { answers = no_solution shows.file shows.proof; holds = shows.absent })

pub reached_answer : (extreme : Extreme) (asked : Asked) (effort : Effort) (rle : Bool) (history : History) (bound : Bound) (steps : List Step) (file : AnswerFile) (answer : Answer)
    → AsksBeyond extreme asked history bound → file ≡ record { name = effort.proof; bytes = log_text steps } → KeepsAll effort.keep_all steps
    → IsSpent (formula_asked (asked_bounded asked bound)) steps effort.budget → answer ≡ shown_behind file statuses.Undecided (reached_text extreme rle asked.problem.rule history)
    → IsAnswer (questions.Extremal extreme asked effort rle) answer
reached_answer extreme asked effort rle history bound steps file answer asks named kept spent is =
    let formula = formula_asked (asked_bounded asked bound) in
    subst (IsAnswer (questions.Extremal extreme asked effort rle)) (sym is)
    (record { answers = reached history bound file asks (log_by formula effort steps file named kept spent); holds = (asked_bounded asked bound, farther history bound asks, short_by formula effort steps kept spent) })

pub unsettled_answer : (extreme : Extreme) (asked : Asked) (effort : Effort) (rle : Bool) (steps : List Step) (file : AnswerFile) (answer : Answer)
    → file ≡ record { name = effort.proof; bytes = log_text steps } → KeepsAll effort.keep_all steps → IsSpent (formula_asked asked) steps effort.budget
    → answer ≡ shown_behind file statuses.Undecided (codes "undecided\n") → IsAnswer (questions.Extremal extreme asked effort rle) answer
unsettled_answer extreme asked effort rle steps file answer named kept spent is =
    let formula = formula_asked asked in
    subst (IsAnswer (questions.Extremal extreme asked effort rle)) (sym is)
    (record { answers = unsettled file (log_by formula effort steps file named kept spent); holds = (asked, whole, short_by formula effort steps kept spent) })

extremal_writes : (extreme : Extreme) (asked : Asked) (effort : Effort) (rle : Bool) (answer : Answer) → IsExtremal extreme asked effort rle answer
    → WritesAtMost (extremal_meaning extreme asked effort rle) answer
extremal_writes extreme asked effort rle _ (last history is none) = inl refl
extremal_writes extreme asked effort rle _ (utmost_shown history bound file is asks proof) =
    let name = one_name effort proof.steps file proof.log in inr (record { file = file; file_is = refl; at_status = name; at_failure = name })
extremal_writes extreme asked effort rle _ (no_solution file proof) =
    let name = one_name effort proof.steps file proof.log in inr (record { file = file; file_is = refl; at_status = name; at_failure = name })
extremal_writes extreme asked effort rle _ (reached history bound file asks log) =
    let name = one_name effort log.steps file log.log in inr (record { file = file; file_is = refl; at_status = name; at_failure = name })
extremal_writes extreme asked effort rle _ (unsettled file log) =
    let name = one_name effort log.steps file log.log in inr (record { file = file; file_is = refl; at_status = name; at_failure = name })

looked_left : (extreme : Extreme) (asked : Asked) (effort : Effort) (file : AnswerFile) (before after : ShelfMoment) (has : HasLookedLog extreme asked effort file)
    → WroteFile (Some file) before after → OfFile (HasLookedLog extreme asked effort) effort.proof (files_at after)
looked_left extreme asked effort file before after has wrote =
    of_written (HasLookedLog extreme asked effort) file effort.proof before after (named_by effort has.log.steps file has.log.log) has wrote

-- a solution beyond which there is no room needs no proof, and one with room beyond it has its own
last_certified : (extreme : Extreme) (asked : Asked) (effort : Effort) (files : Option Files) (history : History) → IsOfExtreme extreme asked history
    → beyond_it extreme asked.problem history ≡ None → IsCertified extreme asked effort files history
last_certified extreme asked effort files history is none = record { utmost = is; proof = λ bound asks. absurd (no_bound (sym none ∙ asks)) } where
  no_bound : {b : Bound} → None ≡ Some b → ⊥
  no_bound is = cc

utmost_certified : (extreme : Extreme) (asked : Asked) (effort : Effort) (files : Option Files) (history : History) (bound : Bound) → IsOfExtreme extreme asked history
    → AsksBeyond extreme asked history bound → OfFile (HasProof (formula_asked (asked_bounded asked bound)) effort) effort.proof files → IsCertified extreme asked effort files history
utmost_certified extreme asked effort files history bound is asks left = record {
  utmost = is;
  proof = λ other same.
      subst (λ b. AsksBeyond extreme asked history b × OfFile (HasProof (formula_asked (asked_bounded asked b)) effort) effort.proof files) (one (sym asks.asks ∙ same)) (asks, left);
} where
  one : {a b : Bound} → Some a ≡ Some b → a ≡ b
  one is = cc

extremal_leaves : (extreme : Extreme) (asked : Asked) (effort : Effort) (rle : Bool) (answer : Answer) (before after : ShelfMoment) → IsExtremal extreme asked effort rle answer
    → WroteFile answer.file before after → leaves_extremal extreme asked effort answer.status (files_at after)
extremal_leaves extreme asked effort rle _ before after (last history is none) wrote = (history, last_certified extreme asked effort (files_at after) history is none)
extremal_leaves extreme asked effort rle _ before after (utmost_shown history bound file is asks proof) wrote =
    (history, utmost_certified extreme asked effort (files_at after) history bound is asks (proof_left (formula_asked (asked_bounded asked bound)) effort file before after proof wrote))
extremal_leaves extreme asked effort rle _ before after (no_solution file proof) wrote = proof_left (formula_asked asked) effort file before after proof wrote
extremal_leaves extreme asked effort rle _ before after (reached history bound file asks log) wrote =
    looked_left extreme asked effort file before after (record { looked = asked_bounded asked bound; is_looked = farther history bound asks; log = log }) wrote
extremal_leaves extreme asked effort rle _ before after (unsettled file log) wrote =
    looked_left extreme asked effort file before after (record { looked = asked; is_looked = whole; log = log }) wrote

pub extremal_lawful : (extreme : Extreme) (asked : Asked) (effort : Effort) (rle : Bool) → IsLawful (extremal_meaning extreme asked effort rle)
extremal_lawful extreme asked effort rle = record {
  writes = extremal_writes extreme asked effort rle;
  leaves = extremal_leaves extreme asked effort rle;
  ahead = λ status says. none_ahead status;
}
