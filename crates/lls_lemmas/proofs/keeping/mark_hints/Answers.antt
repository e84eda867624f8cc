use Rattle.std.proofs.Common.{◌≡◌, ◌<◌, ◌^◌, true, ap, ◌∙◌, arith, w64}
use lib.Signed.{mag}
use mir.Val.{to_z, of_z}
use Rattle.std.specs.Prelude.{ℤ, pos, negsuc, slice_set}
use Rattle.std.proofs.lemmas.Int.{ints, to_z-of_z, to_z_pos}
use Rattle.lls_lit.specs.Literal.{variable_of}
use Rattle.lls_prooflog.specs.Lent.{hints_of}
use Rattle.lls_lemmas.proofs.RestMarks.{marks_none, marks_one}
use Rattle.lls_lemmas.proofs.keeping.mark_hints.Goals.{then-named-id, else-named-id}
use Rattle.lls_lemmas.proofs.keeping.mark_hints.Goals as goal

-- an `i64` that is passed on
passed : (r : ℤ) → mag r < 2 ^ 63 → to_z w64 (of_z w64 r) ≡ r
passed (pos n) fits = to_z_pos w64 n (omega (arith, fits))
passed (negsuc n) fits = to_z-of_z w64 (negsuc n) (omega (arith, ints, fits))

pub loop-k-preserved : goal.loop-k-preserved
loop-k-preserved c =
    let i = c.loop-k.invariant in
    let hints = hints_of c.args.hints in
    let named : c.id_of-named.result ≡ variable_of c.get.result = c.id_of-named.ensures ∙ ap variable_of (passed c.get.result c.get.type_inv) in
    record {
      marks = elim c.if-named-id.branch [
        | then-named-id w ↦ marks_one hints c.loop-k.k c.args.id c.get.result c.get.ensures c.args.marks.now c.loop-k.marks c.if-named-id.marks i.marks (omega (arith, w.if-named-id.true, named)) (omega (arith, c.requires, i.len)) (w.marks-is ∙ ap (λ n. slice_set c.loop-k.marks n true) named)
        | else-named-id w ↦ marks_none hints c.loop-k.k c.args.id c.get.result c.get.ensures c.args.marks.now c.loop-k.marks c.if-named-id.marks i.marks (λ lt. omega (arith, lt, w.if-named-id.false, named)) w.marks-is
      ];
      len = c.if-named-id.auto.marks ∙ i.len;
    }
