use Rattle.std.proofs.Common.{ℕ, Bool, List, Ok, refl}
use Rattle.std.proofs.lemmas.Result.{err_from_is_err_and}
use Rattle.lls_grid.specs.History.{History}
use Rattle.lls_problem.specs.Problem.{PosedProblem}
use Rattle.lls_answers.specs.Questions.{Question}
use Rattle.lls_answers.specs.Questions as questions
use Rattle.lls_outside.specs.Moment.{files_at, shelf_at}
use Rattle.lls_cli.specs.declared.task.Task.TheVariants as tasks
use Rattle.lls_cli.specs.Question.{Asking, AsksBy, and_ask, come_to, made_of, pattern_in, problem_asked, search_limit}
use Rattle.lls_cli.proofs.Asked.{AsksBy-then, ComesTo-answered, Reads-ok, Reads-stopped, Reads-then}
use Rattle.lls_cli.proofs.Coming.{comes_refused}
use Rattle.lls_cli.proofs.answering.answer_judge.Goals as goal

-- what is asked of a pattern
abbrev of_pattern : List ℕ → Bool → PosedProblem → Asking Question
of_pattern pattern rle problem = and_ask (made_of pattern search_limit (pattern_in rle problem)) (λ history. come_to (Ok (questions.Judge problem history)))

pub returns-in_err-problem : goal.returns-in_err-problem
returns-in_err-problem g c =
    let source = c.args.source in
    let p = err_from_is_err_and c.from_residual.result c.from_residual.ensures.1 in
    rw (p.1, p.2)
    (comes_refused (tasks.Judge source c.args.pattern.now c.args.rle) _ _ _ _
    (Reads-stopped (problem_asked Ok source) (of_pattern c.args.pattern.now c.args.rle) _ (shelf_at g.S.Shelf c.args.shelf.now) (shelf_at g.S.Shelf c.read_problem.new.shelf) c.in_err-problem.ensures.read))

pub returns-in_err-history : goal.returns-in_err-history
returns-in_err-history g c =
    let source = c.args.source in
    let problem = c.in_ok-problem.problem in
    let before = shelf_at g.S.Shelf c.args.shelf.now in
    let mid = shelf_at g.S.Shelf c.read_problem.new.shelf in
    let after = shelf_at g.S.Shelf c.read_pattern.new.shelf in
    let p = err_from_is_err_and c.from_residual-in_err-history.result c.from_residual-in_err-history.ensures.1 in
    rw (p.1, p.2)
    (comes_refused (tasks.Judge source c.args.pattern.now c.args.rle) _ _ before after
    (Reads-then (problem_asked Ok source) (of_pattern c.args.pattern.now c.args.rle) problem _ before mid after c.in_ok-problem.ensures.read
    (Reads-stopped (made_of c.args.pattern.now search_limit (pattern_in c.args.rle problem)) (λ history. come_to (Ok (questions.Judge problem history))) _ mid after c.in_err-history.ensures)))

pub returns : goal.returns
returns g c =
    let source = c.args.source in
    let problem = c.in_ok-problem.problem in
    let history = c.in_ok-history.history in
    let question = questions.Judge problem history in
    let before = shelf_at g.S.Shelf c.args.shelf.now in
    let mid = shelf_at g.S.Shelf c.read_problem.new.shelf in
    let after = shelf_at g.S.Shelf c.read_pattern.new.shelf in
    let made = made_of c.args.pattern.now search_limit (pattern_in c.args.rle problem) in
    let next : History → Asking Question = λ history. come_to (Ok (questions.Judge problem history)) in
    ComesTo-answered (tasks.Judge source c.args.pattern.now c.args.rle) question c.in_ok-judge.field-0 before after
    (Reads-then (problem_asked Ok source) (of_pattern c.args.pattern.now c.args.rle) problem (Ok question) before mid after c.in_ok-problem.ensures.read
    (Reads-ok (AsksBy (files_at mid) made) (AsksBy (files_at mid) (and_ask made next)) history question mid after (λ asked. AsksBy-then (files_at mid) made next history (Ok question) asked refl) c.in_ok-history.ensures))
    refl c.in_ok-judge.ensures
