-- Tables with what entries say beside them.
use Rattle.std.proofs.Common.{◌≡◌, ℕ, ◌<◌, Bool, false, ◌||◌, List, [], ◌++◌, length, ap, ◌∙◌, sym}
use Rattle.std.proofs.Math.Bool.{or-false, or_assoc}
use Rattle.std.proofs.lemmas.List.Folds.{list_any-append}
use Rattle.lls_rule.specs.Rule.{answer, table_of}
use Rattle.lls_rule.proofs.Tables.{length-table_of, answer-table_of, same_tables, same_table_of}
use Rattle.lls_hensel.specs.Entries.{Entry, tells, next_of}
use Rattle.lls_hensel.specs.Sides.{with_entries}

pub next_of-append : (first second : List Entry) (n : ℕ) → next_of (first ++ second) n ≡ (next_of first n || next_of second n)
unfolding next_of
next_of-append first second n = list_any-append (tells n) first second

pub length-with_entries : (table : List Bool) (entries : List Entry) → length (with_entries table entries) ≡ 512
unfolding with_entries
length-with_entries table entries = length-table_of _

answer-with_entries : (table : List Bool) (entries : List Entry) (n : ℕ) → n < 512 → answer (with_entries table entries) n ≡ (answer table n || next_of entries n)
unfolding with_entries
answer-with_entries table entries n h = answer-table_of _ n h

-- nothing is added where there are no entries
pub with_entries-none : (table : List Bool) → length table ≡ 512 → with_entries table [] ≡ table
unfolding with_entries next_of
with_entries-none table whole = sym (same_table_of table _ whole (λ n h. sym (or-false (answer table n))))

-- entries are added in two steps
pub with_entries-append : (table : List Bool) (first second : List Entry) → with_entries (with_entries table first) second ≡ with_entries table (first ++ second)
with_entries-append table first second =
    same_tables (with_entries (with_entries table first) second) (with_entries table (first ++ second)) (length-with_entries _ second) (length-with_entries table _) (λ n h.
    answer-with_entries (with_entries table first) second n h ∙ (ap (λ b. b || next_of second n) (answer-with_entries table first n h) ∙
    (or_assoc (answer table n) (next_of first n) (next_of second n) ∙ (ap (λ b. answer table n || b) (sym (next_of-append first second n)) ∙ sym (answer-with_entries table (first ++ second) n h)))))

-- entries on their own
pub with_entries-dead : (entries : List Entry) → with_entries (table_of (λ _. false)) entries ≡ table_of (next_of entries)
with_entries-dead entries =
    same_table_of (with_entries (table_of (λ _. false)) entries) (next_of entries) (length-with_entries _ entries) (λ n h.
    answer-with_entries (table_of (λ _. false)) entries n h ∙ ap (λ b. b || next_of entries n) (answer-table_of (λ _. false) n h))
