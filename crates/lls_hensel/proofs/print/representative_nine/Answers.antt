use Rattle.std.proofs.Common.{◌≡◌, ◌∙◌, ap, inl, inr, bit_and, nat_eq, not}
use Rattle.std.specs.Prelude.{count_ones}
use Rattle.lls_hensel.specs.Groups.{nine_number}
use Rattle.lls_hensel.specs.Numbers.{live_number, representative_by_number}
use Rattle.lls_hensel.proofs.Representatives.{representative_nine-steps}
use Rattle.lls_hensel.proofs.print.representative_nine.Goals as goal
use Rattle.lls_hensel.proofs.print.representative_nine.Goals.{in-Some, in-None}

pub returns-clause-number : goal.returns-clause-number
returns-clause-number c =
    let few = c.fewer-few.result in
    let least = c.match-representative_of.least in
    let count : c.live_count-count.result ≡ count_ones c.around-eight.result = c.live_count-count.ensures.live in
    c.with_centre.ensures.number ∙ (ap (nine_number (not (nat_eq (bit_and c.args.nine 16) 0))) (c.live_of.ensures ∙ ap (λ n. live_number n least) count) ∙
    representative_nine-steps c.args.nine c.around-eight.result few least c.representative_of.result c.requires c.around-eight.ensures c.fewer-few.ensures (c.representative_of.ensures ∙ ap (λ n. representative_by_number n few) count)
    (elim c.match-representative_of.branch [ in-Some w ↦ inl (w.in-Some.representative, w.in-Some.is, w.least-is) | in-None w ↦ inr (w.in-None.is, w.least-is) ]))
