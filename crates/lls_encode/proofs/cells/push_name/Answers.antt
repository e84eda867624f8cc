-- The name of the cell is new, or its first cell is known.
use Rattle.std.proofs.Common.{◌≡◌, ◌<◌, ◌∙◌, ap, sym, None, Some, length, subst, set, IfSome}
use Rattle.lls_search_file.specs.Posed.{name_of}
use Rattle.lls_problem.specs.Solution.{cell_number}
use Rattle.lls_encode.specs.Formula.{same}
use Rattle.lls_encode.specs.Names.{first_literal, first_literals}
use Rattle.lls_transition.specs.Clause.{with_clauses}
use Rattle.lls_encode.proofs.Steps.{with_clauses-none, on_ok, on_ok_always}
use Rattle.lls_encode.proofs.Firsts.{first_literals-unnamed, first_literals-kept, first_literals-new, name_clauses-new, name_clauses-old, first_literal_at, is_within-names}
use Rattle.lls_encode.proofs.cells.push_name.Goals as goal

pub returns-in_default-clause-firsts : goal.returns-in_default-clause-firsts
returns-in_default-clause-firsts c =
    let unnamed : name_of (cell_number c.args.cells.now c.args.k).kind ≡ None = sym c.name.ensures ∙ c.in_default.is in
    c.requires.firsts ∙ first_literals-unnamed c.args.cells.now c.args.k (length c.args.firsts.now.items) c.requires.cell unnamed

pub push_same-requires-clause-within : goal.push_same-requires-clause-within
push_same-requires-clause-within c =
    let named : name_of (cell_number c.args.cells.now c.args.k).kind ≡ Some c.in-Some.name = sym c.name.ensures ∙ c.in-Some.is in
    let had : first_literal c.args.cells.now c.args.k c.in-Some.name ≡ Some c.in-Some-index.first =
    first_literal_at c.args.cells.now c.args.k c.in-Some.name c.args.firsts.now.items _ _ c.requires.firsts c.requires.known named (sym c.index.ensures ∙ c.in-Some-index.is) in
    is_within-names c.args.cells.now c.args.formula.now.vars c.args.k c.in-Some.name c.in-Some-index.first c.name_literal-literal.result c.requires.vars c.requires.cell had c.name_literal-literal.ensures

pub returns-in-None-clause-pushed : goal.returns-in-None-clause-pushed
returns-in-None-clause-pushed c =
    let named : name_of (cell_number c.args.cells.now c.args.k).kind ≡ Some c.in-Some.name = sym c.name.ensures ∙ c.in-Some.is in
    with_clauses-none c.args.formula.now ∙ ap (with_clauses c.args.formula.now) (sym (name_clauses-new c.args.cells.now c.args.k c.in-Some.name c.requires.cell named
    (first_literal_at c.args.cells.now c.args.k c.in-Some.name c.args.firsts.now.items _ _ c.requires.firsts c.requires.known named (sym c.index.ensures ∙ c.in-None.is))))

pub returns-in-None-clause-firsts : goal.returns-in-None-clause-firsts
returns-in-None-clause-firsts c =
    let named : name_of (cell_number c.args.cells.now c.args.k).kind ≡ Some c.in-Some.name = sym c.name.ensures ∙ c.in-Some.is in
    let none : first_literal c.args.cells.now c.args.k c.in-Some.name ≡ None =
    first_literal_at c.args.cells.now c.args.k c.in-Some.name c.args.firsts.now.items _ _ c.requires.firsts c.requires.known named (sym c.index.ensures ∙ c.in-None.is) in
    let inside : c.in-Some.name < length c.args.firsts.now.items = subst (λ name. IfSome name (λ m. m < length c.args.firsts.now.items)) named c.requires.known in
    ap (λ xs. set xs c.in-Some.name (Some c.name_literal-literal.result)) c.requires.firsts
    ∙ ap (λ l. set (first_literals c.args.cells.now c.args.k (length c.args.firsts.now.items)) c.in-Some.name (Some l)) c.name_literal-literal.ensures
    ∙ first_literals-new c.args.cells.now c.args.k (length c.args.firsts.now.items) c.in-Some.name c.requires.cell inside named none

pub returns-in-Some-index-clause-pushed : goal.returns-in-Some-index-clause-pushed
returns-in-Some-index-clause-pushed c =
    let named : name_of (cell_number c.args.cells.now c.args.k).kind ≡ Some c.in-Some.name = sym c.name.ensures ∙ c.in-Some.is in
    let had : first_literal c.args.cells.now c.args.k c.in-Some.name ≡ Some c.in-Some-index.first =
    first_literal_at c.args.cells.now c.args.k c.in-Some.name c.args.firsts.now.items _ _ c.requires.firsts c.requires.known named (sym c.index.ensures ∙ c.in-Some-index.is) in
    on_ok c.push_same.result _ _
    (λ pushed. pushed ∙ ap (with_clauses c.args.formula.now) (ap (same c.in-Some-index.first) c.name_literal-literal.ensures ∙ sym (name_clauses-old c.args.cells.now c.args.k c.in-Some.name c.in-Some-index.first c.requires.cell named had)))
    c.push_same.ensures

pub returns-in-Some-index-clause-firsts : goal.returns-in-Some-index-clause-firsts
returns-in-Some-index-clause-firsts c =
    let named : name_of (cell_number c.args.cells.now c.args.k).kind ≡ Some c.in-Some.name = sym c.name.ensures ∙ c.in-Some.is in
    let had : first_literal c.args.cells.now c.args.k c.in-Some.name ≡ Some c.in-Some-index.first =
    first_literal_at c.args.cells.now c.args.k c.in-Some.name c.args.firsts.now.items _ _ c.requires.firsts c.requires.known named (sym c.index.ensures ∙ c.in-Some-index.is) in
    on_ok_always c.push_same.result _ (c.requires.firsts ∙ first_literals-kept c.args.cells.now c.args.k (length c.args.firsts.now.items) c.in-Some.name c.in-Some-index.first c.requires.cell named had)
