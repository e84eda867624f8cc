use Rattle.std.proofs.Common.{◌≡◌, ◌+◌, ◌*◌, ◌∙◌, ap, arith, length, sym, subst, pos, true}
use Rattle.std.proofs.lemmas.Bool.{and_from, le-leb}
use Rattle.lls_lit.specs.Formula.{is_literal_of}
use Rattle.lls_encode.specs.Formula.{generation_size}
use Rattle.lls_encode.proofs.Differences.{cell_in_order}
use Rattle.lls_encode.proofs.generation.cell_of_generation.Goals as goal

pub cell_literal-requires : goal.cell_literal-requires
cell_literal-requires c =
    let p = c.args.problem.now in
    let kept = c.posed-posed.ensures.kept in
    let within = cell_in_order p kept c.args.t c.args.k c.requires.generation c.requires.cell in
    let size : c.args.k + c.generation_size.result * c.args.t ≡ c.args.k + generation_size p * c.args.t = ap (λ size. c.args.k + size * c.args.t) c.generation_size.ensures.size in
    omega (arith, within, size, kept.most)

pub returns-clause-within : goal.returns-clause-within
returns-clause-within c =
    let p = c.args.problem.now in
    let within = cell_in_order p c.posed-posed.ensures.kept c.args.t c.args.k c.requires.generation c.requires.cell in
    let size : c.args.k + c.generation_size.result * c.args.t ≡ c.args.k + generation_size p * c.args.t = ap (λ size. c.args.k + size * c.args.t) c.generation_size.ensures.size in
    let literal : c.cell_literal.result ≡ pos (c.args.k + generation_size p * c.args.t + 1) = c.cell_literal.ensures ∙ ap (λ n. pos (n + 1)) size in
    subst (λ l. is_literal_of (length p.posed.cells) l ≡ true) (sym literal)
    (and_from _ _ (le-leb 1 _ (omega arith)) (le-leb (c.args.k + generation_size p * c.args.t + 1) (length p.posed.cells) (omega (arith, within))))
