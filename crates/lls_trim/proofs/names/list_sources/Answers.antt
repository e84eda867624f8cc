use Rattle.std.proofs.Common.{sym, ap, ◌∙◌, ◌++◌, ◌∷◌, [], List, take}
use Rattle.lls_lit.specs.Literal.{variable_of}
use Rattle.lls_prooflog.specs.Lent.{hints_of}
use Rattle.lls_prooflog.proofs.PrintedNumbers.{same_number}
use Rattle.lls_trim.specs.declared.source.Source.{Source}
use Rattle.lls_trim.specs.Inferences.{sources_of}
use Rattle.lls_trim.specs.Buffers.{names_in}
use Rattle.lls_trim.proofs.Buffers.{sources_of-next}
use Rattle.lls_trim.proofs.Numbered.{numbered_at}
use Rattle.lls_trim.proofs.names.list_sources.Goals as goal

pub of-requires : goal.of-requires
of-requires c =
    let is = c.get-in-loop-k.ensures ∙ ap (names_in c.args.names.now) (c.id_of.ensures ∙ ap variable_of (same_number c.get.result c.get.type_inv)) in
    rw is (numbered_at (names_in c.args.names.now) (hints_of c.args.hints) c.args.count c.loop-k.k c.get.result c.requires.numbered c.loop-k-test.true c.get.ensures)

pub loop-k-preserved : goal.loop-k-preserved
loop-k-preserved c =
    c.in_ok-push.ensures.items
    ∙ ap (λ (ss : List Source). ss ++ c.of.result ∷ []) c.loop-k.invariant
    ∙ ap (λ (s : Source). sources_of (names_in c.args.names.now) (take c.loop-k.k (hints_of c.args.hints)) ++ s ∷ []) (c.of.ensures ∙ c.get-in-loop-k.ensures ∙ ap (names_in c.args.names.now) (c.id_of.ensures ∙ ap variable_of (same_number c.get.result c.get.type_inv)))
    ∙ sym (sources_of-next (names_in c.args.names.now) (hints_of c.args.hints) c.loop-k.k c.get.result c.get.ensures)
