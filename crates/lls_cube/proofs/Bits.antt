-- The rows of a table, by the bits of its words.
use Rattle.std.proofs.Common.{◌≡◌, ◌≢◌, bit_or, w64, inl, inr, ℕ, ◌*◌, ◌/◌, ◌%◌, ◌^◌, ◌<◌, List, Bool, true, false, length, replicate, refl, ap, ◌∙◌, sym, get_or, set, nat_eq, arith}
use Rattle.std.specs.Int.{bit_at}
use Rattle.std.proofs.lemmas.List.{same_lists, length-set, length-replicate, get_or-replicate, get_or-set_other}
use Rattle.std.proofs.lemmas.List.FromFn.{length-map-range_with_len, get_or-map-range_with_len}
use Rattle.std.proofs.lemmas.Grind.{get_or-set_at}
use Rattle.std.proofs.lemmas.Bool.Decides.{eqb_tells}
use Rattle.std.proofs.lemmas.Nat.Bits.{bit_at-zero, bit_at_set_same, bit_at_set_other}
use Rattle.lls_cube.specs.Table.{is_forbidden}
use Rattle.lls_cube.specs.Words.{bit_in, table_in}

pub length-table_in : (words : List ℕ) → length (table_in words) ≡ 64 * length words
unfolding table_in
length-table_in words = length-map-range_with_len (bit_in words) 0 (64 * length words)

get_or-table_in : (words : List ℕ) (row : ℕ) (d : Bool) → row < 64 * length words → get_or (table_in words) row d ≡ bit_in words row
unfolding table_in
get_or-table_in words row d inside = get_or-map-range_with_len (bit_in words) 0 (64 * length words) row row d inside (omega arith)

pub is_forbidden-table_in : (words : List ℕ) (row : ℕ) → row < 64 * length words → is_forbidden (table_in words) row ≡ bit_in words row
is_forbidden-table_in words row inside = get_or-table_in words row false inside

bit_in-replicate : (count row : ℕ) → row < 64 * count → bit_in (replicate count 0) row ≡ false
bit_in-replicate count row inside =
    ap (λ word. nat_eq (bit_at word (row % 64)) 1) (get_or-replicate count (row / 64) 0 0 (omega arith)) ∙ ap (λ bit. nat_eq bit 1) (bit_at-zero (row % 64))

pub table_in-replicate : (count : ℕ) → table_in (replicate count 0) ≡ replicate (64 * count) false
table_in-replicate count =
    let words = length-replicate {A = ℕ} count 0 in
    let rows = length-table_in (replicate count 0) in
    same_lists (table_in (replicate count 0)) (replicate (64 * count) false) (rows ∙ ap (λ n. 64 * n) words ∙ sym (length-replicate (64 * count) false)) (λ row d inside.
    let within : row < 64 * count = omega (arith, words, rows, inside) in
    get_or-table_in (replicate count 0) row d (omega (arith, words, within)) ∙ bit_in-replicate count row within ∙ sym (get_or-replicate (64 * count) row false d within))

-- the word with the bit of a row set
abbrev with_bit : List ℕ → ℕ → ℕ
with_bit words row = bit_or (get_or words (row / 64) 0) (1 * 2 ^ (row % 64) % 2 ^ 64)

bit_in-same : (words : List ℕ) (row : ℕ) → row < 64 * length words → bit_in (set words (row / 64) (with_bit words row)) row ≡ true
bit_in-same words row inside =
    ap (λ word. nat_eq (bit_at word (row % 64)) 1) (get_or-set_at words (row / 64) (row / 64) (with_bit words row) 0 refl (omega arith))
    ∙ ap (λ bit. nat_eq bit 1) (bit_at_set_same w64 (get_or words (row / 64) 0) (row % 64) (omega arith))

other_bit : (row other : ℕ) → other ≢ row → other / 64 ≡ row / 64 → other % 64 ≢ row % 64
other_bit row other apart same bit = apart (omega arith)

bit_in-other : (words : List ℕ) (row other : ℕ) → row < 64 * length words → other ≢ row → bit_in (set words (row / 64) (with_bit words row)) other ≡ bit_in words other
bit_in-other words row other inside apart = elim (eqb_tells (other / 64) (row / 64)) [
  | inl t ↦
      ap (λ word. nat_eq (bit_at word (other % 64)) 1) (get_or-set_at words (row / 64) (other / 64) (with_bit words row) 0 t.1 (omega arith))
      ∙ ap (λ bit. nat_eq bit 1) (bit_at_set_other w64 (get_or words (row / 64) 0) (row % 64) (omega arith) (other % 64) (other_bit row other apart t.1))
      ∙ ap (λ place. nat_eq (bit_at (get_or words place 0) (other % 64)) 1) (sym t.1)
  | inr t ↦ ap (λ word. nat_eq (bit_at word (other % 64)) 1) (get_or-set_other words (row / 64) (other / 64) (with_bit words row) 0 t.1)
]

pub table_in-set : (words : List ℕ) (row : ℕ) → row < 64 * length words → table_in (set words (row / 64) (with_bit words row)) ≡ set (table_in words) row true
table_in-set words row inside =
    let new = set words (row / 64) (with_bit words row) in
    let count : length new ≡ length words = length-set words (row / 64) (with_bit words row) in
    let rows = length-table_in new in
    let rows' = length-table_in words in
    same_lists (table_in new) (set (table_in words) row true) (rows ∙ ap (λ n. 64 * n) count ∙ sym rows' ∙ sym (length-set (table_in words) row true)) (λ other d below.
    let within : other < 64 * length words = omega (arith, count, rows, below) in
    get_or-table_in new other d (omega (arith, count, within)) ∙ elim (eqb_tells other row) [
      | inl t ↦ ap (bit_in new) t.1 ∙ bit_in-same words row inside ∙ sym (get_or-set_at (table_in words) row other true d t.1 (omega (arith, rows', inside)))
      | inr t ↦ bit_in-other words row other inside t.1 ∙ sym (get_or-set_other (table_in words) row other true d t.1 ∙ get_or-table_in words other d within)
    ])
