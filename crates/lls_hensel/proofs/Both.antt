-- The two sides of a rule text, one after the other.
use Rattle.std.proofs.Common.{◌≡◌, ℕ, Bool, false, List, ◌++◌, length, Result, Ok, Err, refl, ap, ◌∙◌}
use Rattle.lls_rule.specs.Rule.{table_of}
use Rattle.lls_hensel.specs.Entries.{Entry, next_of}
use Rattle.lls_hensel.specs.Sides.{with_entries}
use Rattle.lls_hensel.specs.Reading.{both_sides, side_entries}
use Rattle.lls_base.specs.Results.{and_then}
use Rattle.lls_hensel.specs.declared.read.RuleError.{RuleError}
use Rattle.lls_hensel.proofs.With.{length-with_entries, with_entries-append, with_entries-dead}

-- a fault of the first side is the text's
pub both_sides-fault : (survival : Bool) (table : List Bool) (first : Result (List Entry) RuleError) (behind : Result (ℕ × List ℕ) RuleError) (fault : RuleError) →
    Err fault ≡ and_then first (λ entries. Ok (with_entries table entries)) → Err fault ≡ and_then (both_sides survival first behind) (λ entries. Ok (table_of (next_of entries)))
both_sides-fault survival table (Ok entries) behind fault e = cc
both_sides-fault survival table (Err other) behind fault e = e

-- where the first side is read, a fault behind it is the text's
pub both_sides-fault_behind : (survival : Bool) (table born : List Bool) (first : Result (List Entry) RuleError) (behind : Result (ℕ × List ℕ) RuleError) (fault : RuleError) →
    Ok born ≡ and_then first (λ entries. Ok (with_entries table entries)) → Err fault ≡ behind → Err fault ≡ and_then (both_sides survival first behind) (λ entries. Ok (table_of (next_of entries)))
both_sides-fault_behind survival table born (Ok entries) (Ok second) fault e g = cc
both_sides-fault_behind survival table born (Ok entries) (Err other) fault e g = let same : fault ≡ other = cc in ap Err same
both_sides-fault_behind survival table born (Err other) behind fault e g = cc

pub length-first_side : (table born : List Bool) (first : Result (List Entry) RuleError) → Ok born ≡ and_then first (λ entries. Ok (with_entries table entries)) → length born ≡ 512
length-first_side table born (Ok entries) e = let is : born ≡ with_entries table entries = cc in ap length is ∙ length-with_entries table entries
length-first_side table born (Err fault) e = cc

second_side : (born : List Bool) (entries : List Entry) (second : Result (List Entry) RuleError) → born ≡ with_entries (table_of (λ _. false)) entries →
    and_then second (λ others. Ok (with_entries born others)) ≡ and_then (and_then second (λ others. Ok (entries ++ others))) (λ entries. Ok (table_of (next_of entries)))
second_side born entries (Ok others) is =
    ap Ok (ap (λ table. with_entries table others) is ∙ (with_entries-append (table_of (λ _. false)) entries others ∙ with_entries-dead (entries ++ others)))
second_side born entries (Err fault) is = refl

-- where both sides are read, the table has what both say
pub both_sides-tables : (survival : Bool) (born : List Bool) (first : Result (List Entry) RuleError) (second : ℕ × List ℕ) (behind : Result (ℕ × List ℕ) RuleError) →
    Ok born ≡ and_then first (λ entries. Ok (with_entries (table_of (λ _. false)) entries)) → Ok second ≡ behind →
    and_then (side_entries survival second.0 second.1) (λ entries. Ok (with_entries born entries)) ≡ and_then (both_sides survival first behind) (λ entries. Ok (table_of (next_of entries)))
both_sides-tables survival born (Ok entries) second behind e g =
    let is : born ≡ with_entries (table_of (λ _. false)) entries = cc in
    second_side born entries (side_entries survival second.0 second.1) is ∙
    ap (λ found. and_then (both_sides survival (Ok entries) found) (λ entries. Ok (table_of (next_of entries)))) g
both_sides-tables survival born (Err fault) second behind e g = cc
