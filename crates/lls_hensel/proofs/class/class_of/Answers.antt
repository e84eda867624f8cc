use Rattle.std.proofs.Common.{◌∙◌, sym, ap, [], ◌∷◌}
use Rattle.lls_hensel.specs.Numbers.{class_by_number, letter_by_number, fewer_of}
use Rattle.lls_hensel.proofs.Classes.{classes_of-class_by_number}
use Rattle.lls_hensel.proofs.class.class_of.Goals as goal

pub returns : goal.returns
unfolding class_by_number
returns c =
    let count = c.live_count-count.result in
    classes_of-class_by_number c.args.eight c.ranges.eight.fits ∙
    (ap (λ n. record { count = n; letter = letter_by_number n (fewer_of c.args.eight) } ∷ []) (sym c.live_count-count.ensures.live) ∙
    ap (λ letter. record { count = count; letter = letter } ∷ []) (sym (c.letter_of-letter.ensures ∙ ap (letter_by_number count) c.fewer.ensures)))
