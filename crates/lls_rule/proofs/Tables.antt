-- Tables of 512 answers.
use Rattle.std.proofs.Common.{◌≡◌, ℕ, ◌<◌, List, Bool, length, ◌≢◌, set, ◌∙◌, sym, arith}
use Rattle.std.proofs.lemmas.List.FromFn.{length-map-range_with_len, get_or-map-range_with_len}
use Rattle.std.proofs.lemmas.List.{same_lists, get_or_default, get_or-set_same, get_or-set_other}
use Rattle.lls_rule.specs.Rule.{table_of, answer}

pub length-table_of : (f : ℕ → Bool) → length (table_of f) ≡ 512
unfolding table_of
length-table_of f = length-map-range_with_len f 0 512

pub answer-table_of : (f : ℕ → Bool) (n : ℕ) → n < 512 → answer (table_of f) n ≡ f n
unfolding table_of
answer-table_of f n h = get_or-map-range_with_len f 0 512 n n _ h (omega arith)

-- two tables of one length with the same answers
pub same_tables : (xs ys : List Bool) → length xs ≡ 512 → length ys ≡ 512 → ((n : ℕ) → n < 512 → answer xs n ≡ answer ys n) → xs ≡ ys
same_tables xs ys h g same = same_lists xs ys (h ∙ sym g) (λ k d within. get_or_default xs k d _ within ∙ same k (omega (arith, h)) ∙ sym (get_or_default ys k d _ (omega (arith, h, g))))

-- a table whose answers are those of a function
pub same_table_of : (xs : List Bool) (f : ℕ → Bool) → length xs ≡ 512 → ((n : ℕ) → n < 512 → answer xs n ≡ f n) → xs ≡ table_of f
same_table_of xs f h same =
    same_tables xs (table_of f) h (length-table_of f) (λ n g. same n g ∙ sym (answer-table_of f n g))

pub answer-set_same : (xs : List Bool) (n : ℕ) (live : Bool) → n < length xs → answer (set xs n live) n ≡ live
answer-set_same xs n live h = get_or-set_same xs n live _ h

pub answer-set_other : (xs : List Bool) (n m : ℕ) (live : Bool) → m ≢ n → answer (set xs n live) m ≡ answer xs m
answer-set_other xs n m live h = get_or-set_other xs n m live _ h
