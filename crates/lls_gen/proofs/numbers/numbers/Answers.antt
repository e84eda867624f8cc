use Rattle.std.proofs.Common.{◌≡◌, ◌∙◌, suc, ◌+◌, ap, arith, refl, sym}
use Rattle.std.proofs.lemmas.List.FromFn.{map-range_with_len_more}
use Rattle.lls_numbers.specs.Numbers.{after}
use Rattle.lls_gen.specs.Numbers.{nth}
use Rattle.lls_gen.proofs.numbers.numbers.Goals as goal

pub drawn-init : goal.drawn-init
unfolding nth
drawn-init c = record { so_far = c.in_ok-numbers.ensures.items; last = refl }

pub drawn-preserved : goal.drawn-preserved
unfolding nth
drawn-preserved c =
    let k = c.drawn.counter in
    let more : suc k ≡ k + 1 = omega arith in
    let last : c.after-last.result ≡ nth c.args.seed (k + 1) = c.after-last.ensures ∙ (ap after c.drawn.invariant.last ∙ ap (nth c.args.seed) more) in
    record {
      so_far = c.in_ok-push.ensures.items ∙ (rw (c.drawn.invariant.so_far, last) (sym (map-range_with_len_more (nth c.args.seed) 1 k (k + 1) (omega arith))));
      last = last;
    }
