-- An isotropic rule isn't refused, and each generation adds its picture.
use Rattle.std.proofs.Common.{◌≡◌, ◌++◌, ◌∙◌, ℕ, ◌+◌, List, arith, ap, sym, Some, None, Err}
use Rattle.std.specs.List.{flat_map, range_with_len}
use Rattle.lls_hensel.specs.Printing.{uneven}
use Rattle.lls_hensel.proofs.Isotropy.{uneven-IsIsotropic}
use Rattle.lls_rle.specs.Printing.{rle_text}
use Rattle.lls_encode.proofs.Steps.{flat_map-range_more}
use Rattle.lls_answers.proofs.pattern.print_pictures.Goals as goal

pub unreachable-requires : goal.unreachable-requires
unreachable-requires c =
    let none : uneven c.args.rule.now ≡ None = (uneven-IsIsotropic c.args.rule.now).1 c.requires in
    let some : uneven c.args.rule.now ≡ Some c.in-Err-NotIsotropic.field-0-0 =
    (c.print_rle.ensures.not_isotropic c.in-Err-NotIsotropic.field-0-0).0 (c.in-Err-NotIsotropic.is ∙ ap Err c.in-Err-NotIsotropic.field-0-is) in
    cc

pub loop-t-preserved : goal.loop-t-preserved
loop-t-preserved c =
    let picture = rle_text c.args.rule.now c.args.history.now in
    let at : c.loop-t.t ≡ 0 + c.loop-t.t = omega arith in
    c.in_ok-extend_from_slice-in-Ok.ensures.items
    ∙ ap (λ (text : List ℕ). c.loop-t.text.items ++ text) (c.deref.ensures.value ∙ c.in-Ok.ensures.text)
    ∙ ap (λ (text : List ℕ). text ++ picture c.loop-t.t) c.loop-t.invariant
    ∙ ap (λ (k : ℕ). flat_map picture (range_with_len 0 c.loop-t.t) ++ picture k) at
    ∙ sym (flat_map-range_more picture 0 c.loop-t.t)
