use Rattle.std.proofs.Common.{◌≡◌, ◌*◌, ◌∙◌, ap, arith, refl, sym, subst, length, map, get_or, []}
use Rattle.lls_grid.specs.History.{History, HasSizes, height_of, width_of, rows_at, cells_of_rows, folded}
use Rattle.lls_grid.specs.Changes.{successors}
use Rattle.lls_grid.specs.Evolution.{evolution}
use Rattle.lls_grid.proofs.Folded.{height_of-folded, width_of-folded}
use Rattle.lls_gen.specs.Numbers.{numbers}
use Rattle.lls_gen.specs.Drawing.{is_live, cells_of_both}
use Rattle.lls_problem.specs.declared.demands.Edge.TheVariants.{Bare}
use Rattle.lls_problem.specs.Problem.{PosedProblem, edge_alone}
use Rattle.lls_problem.specs.Solution.{IsSolution}
use Rattle.lls_gen.specs.Made.{life, first_generation, made_history, posed_of, made_posed, made_problem}
use Rattle.lls_gen.proofs.Counts.{square-le, length-numbers}
use Rattle.lls_gen.proofs.Solved.{IsSolution-made, problem-bare}
use Rattle.lls_gen.proofs.making.make.Goals as goal

pub first_generation-requires-clause-count : goal.first_generation-requires-clause-count
first_generation-requires-clause-count c =
    ap length (c.deref.ensures.value ∙ c.in_ok-numbers.ensures) ∙ length-numbers c.args.seed (c.args.size * c.args.size)

pub evolve-requires-clause-most : goal.evolve-requires-clause-most
evolve-requires-clause-most c =
    let high : height_of c.in_ok-first.first ≡ c.args.size = ap height_of c.in_ok-first.ensures ∙ height_of-folded 1 c.args.size c.args.size _ (omega arith) in
    let wide : width_of c.in_ok-first.first ≡ c.args.size = ap width_of c.in_ok-first.ensures ∙ width_of-folded 1 c.args.size c.args.size _ (omega arith) (omega (arith, c.requires)) in
    rw (high, wide) (omega (arith, square-le c.args.size c.requires.1))

pub posed-requires-clause-count : goal.posed-requires-clause-count
posed-requires-clause-count c =
    ap length (c.deref-2.ensures.value ∙ c.in_ok-numbers.ensures) ∙ length-numbers c.args.seed (c.args.size * c.args.size)

pub posed-requires-clause-next_count : goal.posed-requires-clause-next_count
posed-requires-clause-next_count c =
    let high : height_of c.in_ok-first.first ≡ c.args.size = ap height_of c.in_ok-first.ensures ∙ height_of-folded 1 c.args.size c.args.size _ (omega arith) in
    let wide : width_of c.in_ok-first.first ≡ c.args.size = ap width_of c.in_ok-first.ensures ∙ width_of-folded 1 c.args.size c.args.size _ (omega arith) (omega (arith, c.requires)) in
    let high_now : height_of c.in_ok-history.history ≡ c.args.size = ap length c.in_ok-history.ensures.begins ∙ high in
    let wide_now : width_of c.in_ok-history.history ≡ c.args.size = ap (λ rows. length (get_or rows 0 [])) c.in_ok-history.ensures.begins ∙ wide in
    c.cells_at.ensures.count ∙ rw (high_now, wide_now) refl

pub returns-clause-value : goal.returns-clause-value
unfolding made_problem made_history
returns-clause-value c =
    let seed = c.args.seed in
    let size = c.args.size in
    let drawn = numbers seed (size * size) in
    let rule : c.from_counts-life.result ≡ life = c.from_counts-life.ensures in
    let first : c.in_ok-first.first ≡ first_generation seed size =
    c.in_ok-first.ensures ∙ ap (λ ns. folded 1 size size (map is_live ns)) (c.deref.ensures.value ∙ c.in_ok-numbers.ensures) in
    let history : c.in_ok-history.history ≡ made_history seed size =
    c.in_ok-history.ensures.history ∙ (ap (λ h. evolution c.from_counts-life.result 2 h) first ∙ ap (λ table. evolution table 2 (first_generation seed size)) rule) in
    let next : c.cells_at.result.now ≡ cells_of_rows (rows_at (made_history seed size) 1) =
    c.cells_at.ensures.cells ∙ ap (λ h. cells_of_rows (rows_at h 1)) history in
    let posed : c.in_ok-posed.posed ≡ made_posed seed size =
    c.in_ok-posed.ensures ∙ (ap (λ ns. posed_of size (cells_of_both ns c.cells_at.result.now)) (c.deref-2.ensures.value ∙ c.in_ok-numbers.ensures)
    ∙ ap (λ cells. posed_of size (cells_of_both drawn cells)) next) in
    let problem : c.in-Ok.problem ≡ made_problem seed size =
    problem-bare c.in_ok-posed.posed c.from_counts-life.result c.new.result c.in-Ok.problem c.new.ensures (sym c.in-Ok.is ∙ c.make_problem.ensures)
    ∙ (ap (λ file. record { posed = file; rule = c.from_counts-life.result; demands = edge_alone Bare }) posed
    ∙ ap (λ table. record { posed = made_posed seed size; rule = table; demands = edge_alone Bare }) rule) in
    cc

pub returns-clause-solution : goal.returns-clause-solution
unfolding made_problem
returns-clause-solution c =
    let seed = c.args.seed in
    let size = c.args.size in
    let drawn = numbers seed (size * size) in
    let now = c.in_ok-history.history in
    let first : c.in_ok-first.first ≡ first_generation seed size =
    c.in_ok-first.ensures ∙ ap (λ ns. folded 1 size size (map is_live ns)) (c.deref.ensures.value ∙ c.in_ok-numbers.ensures) in
    let high : height_of c.in_ok-first.first ≡ size = ap height_of c.in_ok-first.ensures ∙ height_of-folded 1 size size _ (omega arith) in
    let wide : width_of c.in_ok-first.first ≡ size = ap width_of c.in_ok-first.ensures ∙ width_of-folded 1 size size _ (omega arith) (omega (arith, c.requires)) in
    let sizes : HasSizes 2 size size now = rw (high, wide) at c.in_ok-history.ensures.sizes in
    let begins : rows_at now 0 ≡ rows_at (first_generation seed size) 0 = c.in_ok-history.ensures.begins ∙ ap (λ h. rows_at h 0) first in
    let goes_on : rows_at now 1 ≡ successors life now 0 = c.in_ok-history.ensures.goes_on 0 (omega arith) ∙ ap (λ table. successors table now 0) c.from_counts-life.ensures in
    let solved = IsSolution-made life size drawn now (length-numbers seed (size * size)) sizes
    (ap length c.in_ok-history.ensures.begins ∙ high) (ap (λ rows. length (get_or rows 0 [])) c.in_ok-history.ensures.begins ∙ wide) begins goes_on in
    let value = returns-clause-value c in
    let IsSolved : History → Type 0 = λ h. IsSolution (record { posed = posed_of size (cells_of_both drawn (cells_of_rows (rows_at h 1))); rule = life; demands = edge_alone Bare }) now in
    let HasSolution : PosedProblem → Type 0 = λ problem. IsSolution problem now in
    subst HasSolution (sym (ap (λ pair. pair.problem) value)) (subst IsSolved (ap (λ pair. pair.history) value) solved)
