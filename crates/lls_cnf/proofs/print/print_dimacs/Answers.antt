use Rattle.std.proofs.Common.{◌≡◌, ◌++◌, List, ap, sym, ◌∙◌, take, arith}
use Rattle.std.specs.List.{flat_map}
use Rattle.std.proofs.lemmas.List.{flat_map_more, take_all}
use Rattle.lls_lit.specs.Formula.{Clause}
use Rattle.lls_cnf.specs.DimacsText.{header_text, clause_text, dimacs_text}
use Rattle.lls_cnf.specs.Dimacs.{dimacs}
use Rattle.lls_cnf.proofs.Elements.{take-next}
use Rattle.lls_cnf.proofs.RoundTrip.{dimacs-dimacs_text}
use Rattle.lls_cnf.proofs.print.print_dimacs.Goals as goal

pub loop-k-preserved : goal.loop-k-preserved
loop-k-preserved c =
    let f = c.args.formula.now in
    let k = c.loop-k.k in
    let clause = c.clause.result.now in
    let text = c.in_ok-push_clause.ensures ∙ ap (λ t. t ++ clause_text clause) c.loop-k.invariant in
    let more = flat_map_more clause_text (header_text f) (take k f.clauses) clause in
    text ∙ more ∙ sym (ap (λ cs. header_text f ++ flat_map clause_text cs) (take-next f.clauses k clause c.clause.ensures.value))

pub returns-clause-read_again : goal.returns-clause-read_again
returns-clause-read_again c =
    let f = c.args.formula.now in
    let all : take c.loop-k.k f.clauses ≡ f.clauses = take_all c.loop-k.k f.clauses (omega (arith, c.loop-k-test.false, c.len-k-end.ensures.len)) in
    let text : c.loop-k.text.items ≡ dimacs_text f = c.loop-k.invariant ∙ ap (λ (cs : List Clause). header_text f ++ flat_map clause_text cs) all in
    ap dimacs text ∙ dimacs-dimacs_text f c.in_ok-text.ensures.formula
