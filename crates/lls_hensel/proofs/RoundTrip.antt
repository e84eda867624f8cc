-- The canonical text of an isotropic rule is read as that rule.
use Rattle.std.proofs.Common.{◌≡◌, ℕ, zero, suc, ◌+◌, ◌<◌, ◌≤◌, Bool, true, false, cond, not, ◌&&◌, ◌||◌, List, ◌++◌, find, length, Some, None, Ok, inl, inr, refl, ap, ◌∙◌, sym, arith}
use Rattle.std.specs.List.{range_with_len}
use Rattle.std.proofs.Math.Bool.{beq, or-false}
use Rattle.std.proofs.lemmas.Bool.{cases_eq}
use Rattle.lls_base.specs.Results.{and_then}
use Rattle.lls_rule.specs.Rule.{answer, has_bit, table_of, around}
use Rattle.lls_rule.proofs.Tables.{same_table_of}
use Rattle.lls_hensel.specs.Entries.{Entry, next_of}
use Rattle.lls_hensel.specs.Groups.{around_number}
use Rattle.lls_hensel.specs.Notation.{entries_of_side}
use Rattle.lls_hensel.specs.Notation.Form.{BirthFirst}
use Rattle.lls_hensel.specs.Printing.{number_with, representative_eight, representative_nine, differs, uneven, canonical_side, rule_text}
use Rattle.lls_hensel.specs.Reading.{entries_of}
use Rattle.lls_hensel.proofs.Back.{own_answer}
use Rattle.lls_hensel.proofs.SidesBack.{canonical_side-is, next_of-canonical_side}
use Rattle.lls_hensel.proofs.Tells.{around-eight_of}
use Rattle.lls_hensel.proofs.Uneven.{from_beq}
use Rattle.lls_hensel.proofs.With.{next_of-append}
use Rattle.lls_hensel.proofs.Written.{reads_each_text}

-- where none differs, each has its representative's answer
none_found : (p : ℕ → Bool) (from many : ℕ) → find p (range_with_len from many) ≡ None → (k : ℕ) → from ≤ k → k < from + many → p k ≡ false
none_found p from zero e k h g = absurd (omega arith)
none_found p from (suc many) e k h g =
    (elim (p from) as (λ b. p from ≡ b → cond b (Some from) (find p (range_with_len (from + 1) many)) ≡ None → p k ≡ false) [
      | true ↦ λ t e. cc
      | false ↦ λ f e. elim (cases_eq k from) [
        | inl is ↦ ap p is ∙ f
        | inr other ↦ none_found p (from + 1) many e k (omega arith) (omega arith)
      ]
    ]) refl e

pub isotropic : (table : List Bool) → uneven table ≡ None → (n : ℕ) → n < 512 → answer table n ≡ answer table (representative_nine n)
unfolding uneven differs
isotropic table e n h = from_beq (answer table n) (answer table (representative_nine n)) (none_found (λ n. not (beq (answer table n) (answer table (representative_nine n)))) 0 512 e n (omega arith) (omega arith))

both_answers : (h birth survival : Bool) → ((beq false h && birth) || (beq true h && survival)) ≡ cond h survival birth
both_answers true birth survival = refl
both_answers false birth survival = or-false birth

own_representative : (table : List Bool) (h : Bool) (n : ℕ) → n < 512 → has_bit n 4 ≡ h → own_answer table h (around_number n) ≡ answer table (representative_nine n)
unfolding representative_nine
own_representative table h n within e =
    ap (λ eight. answer table (number_with h (representative_eight eight))) (sym (around-eight_of n within)) ∙ ap (λ centre. answer table (number_with centre (representative_eight (around n)))) (sym e)

chosen : (table : List Bool) (n : ℕ) → n < 512 → cond (has_bit n 4) (own_answer table true (around_number n)) (own_answer table false (around_number n)) ≡ answer table (representative_nine n)
chosen table n within =
    (elim (has_bit n 4) as (λ h. has_bit n 4 ≡ h → cond h (own_answer table true (around_number n)) (own_answer table false (around_number n)) ≡ answer table (representative_nine n)) [
      | true ↦ own_representative table true n within
      | false ↦ own_representative table false n within
    ]) refl

abbrev entries_back : List Bool → List Entry
entries_back table = entries_of_side false (canonical_side table false) ++ entries_of_side true (canonical_side table true)

-- what the entries of both sides say is the table
table_back : (table : List Bool) → length table ≡ 512 → uneven table ≡ None → table ≡ table_of (next_of (entries_back table))
table_back table whole even =
    same_table_of table (next_of (entries_back table)) whole (λ n h.
    isotropic table even n h ∙ sym (next_of-append (entries_of_side false (canonical_side table false)) (entries_of_side true (canonical_side table true)) n ∙
    (ap (λ b. b || next_of (entries_of_side true (canonical_side table true)) n) (next_of-canonical_side table false n h) ∙
    (ap (λ b. (beq false (has_bit n 4) && own_answer table false (around_number n)) || b) (next_of-canonical_side table true n h) ∙
    (both_answers (has_bit n 4) (own_answer table false (around_number n)) (own_answer table true (around_number n)) ∙ chosen table n h)))))

-- the canonical text of an isotropic rule is read as that rule
pub entries_of-rule_text : (table : List Bool) → length table ≡ 512 → uneven table ≡ None → and_then (entries_of (rule_text table)) (λ entries. Ok (table_of (next_of entries))) ≡ Ok table
unfolding rule_text
entries_of-rule_text table whole even =
    ap (λ read. and_then read (λ entries. Ok (table_of (next_of entries))))
    (reads_each_text (BirthFirst false true false) (canonical_side table false) (canonical_side table true) (canonical_side-is table false) (canonical_side-is table true)) ∙
    ap Ok (sym (table_back table whole even))
