use Rattle.std.proofs.Common.{◌≡◌, ℕ, ap, ◌<◌, ◌+◌, ◌-◌, length, drop, sym, arith}
use Rattle.lls_drat.specs.Number.{number_value}
use Rattle.lls_drat.specs.declared.number.TheConstants.{MOST_CODE}
use Rattle.lls_drat.proofs.FirstNumbers.{number_value-more, too_large}
use Rattle.lls_drat.proofs.number.number_value.Goals as goal

pub returns-then-value-gt-MOST_CODE : goal.returns-then-value-gt-MOST_CODE
returns-then-value-gt-MOST_CODE c =
    let bytes = c.args.bytes.now in
    let k = c.loop-left.left - 1 in
    let within : k < length bytes = omega arith in
    let back : number_value (drop (k + 1) bytes) ≡ number_value (drop c.loop-left.left bytes) = ap (λ (n : ℕ). number_value (drop n bytes)) (let e : k + 1 ≡ c.loop-left.left = omega arith in e) in
    let large : MOST_CODE < number_value (drop k bytes) = omega (arith, back, number_value-more bytes k within) in
    sym (too_large bytes k MOST_CODE large)
