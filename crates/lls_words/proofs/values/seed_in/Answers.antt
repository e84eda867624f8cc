use Rattle.std.proofs.Common.{rules, ◌≡◌, ◌≤◌, ◌==◌, ◌∙◌, ℕ, Bool, true, false, cond, not, List, length, Option, Some, None, Result, refl, arith}
use Rattle.std.specs.List.{list_all}
use Rattle.std.specs.Char.{is_ascii_digit}
use Rattle.std.specs.Result.{result_ok}
use Rattle.std.specs.Str.Parse.{ParsesUnsigned, digits_value}
use Rattle.std.proofs.lemmas.Bool.{and_parts}
use Rattle.std.proofs.lemmas.Bool.Decides.{nat_tests}
use Rattle.std.proofs.lemmas.Str.Parse.{IsNumeralModel, numerals_by_value, parse_digits}
use Rattle.lls_text.specs.Digits.{is_digits}
use Rattle.lls_words.specs.Values.{most_digits, seed_in}
use Rattle.lls_words.proofs.values.seed_in.Goals as goal

digits : IsNumeralModel (λ ds. list_all is_ascii_digit ds ≡ true) (digits_value 10)
digits = numerals_by_value _ (search rules)

-- a number of 64 bits in digits alone
parsed : {E : Type 0} (text : List ℕ) (read : Result ℕ E) → length text ≤ most_digits → is_digits text ≡ true → ParsesUnsigned 64 10 text read → result_ok read ≡ seed_in text
parsed {E = E} text read short all told =
    let parts = and_parts (not (length text == 0)) (list_all is_ascii_digit text) all in
    let one = parse_digits digits {E = E} 64 text read told parts.1 in
    grind (arith, nat_tests, one)

is_told : (b : Bool) (n m : ℕ) → ◌≡◌ {A = Option ℕ} (Some n) (cond b (Some m) None) → b ≡ true
is_told true n m e = refl
is_told false n m e = cc

pub returns : goal.returns
returns c =
    c.ok.ensures.value ∙ parsed c.args.text.now c.parse.result c.if-text-gt-MOST_DIGITS.false (is_told _ _ _ (rw c.as_bytes.ensures.value at c.in_ok-digits_number.ensures)) c.parse.ensures.value.0
