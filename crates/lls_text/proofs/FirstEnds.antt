-- The first byte of a value.
use Rattle.std.proofs.Common.{◌≡◌, ℕ, suc, ◌+◌, ◌<◌, ◌≤◌, true, false, not, cond, eqb, ◌||◌, List, [], ◌∷◌, ◌++◌, length, take, drop, take-append-drop, refl, sym, ap, ◌∙◌, append_assoc, length-drop, arith}
use Rattle.std.specs.Prelude.{Some, None, nat_lt}
use Rattle.std.specs.List.{position, position_or_len}
use Rattle.std.proofs.Math.Seq.{take-add}
use Rattle.std.proofs.lemmas.List.{drop-drop}
use Rattle.std.proofs.lemmas.Bool.{eqb-true}
use Rattle.std.proofs.lemmas.Bool.Decides.{nat_tests}
use Rattle.std.proofs.lemmas.Option.{same_Some}
use Rattle.std.proofs.lemmas.List.Folds.{list_any-append}
use Rattle.lls_text.specs.WaitingBytes.{IsFirstEnd, has_byte}

abbrev end_at : ℕ → List ℕ → ℕ
end_at end bytes = position_or_len (λ b. eqb b end) bytes

first_at : (end : ℕ) (bytes : List ℕ) → end_at end bytes < length bytes → IsFirstEnd end bytes (end_at end bytes)
first_at end [] lt = absurd (omega arith)
first_at end (b ∷ bs) lt =
    let m = end_at end bs in
    elim (eqb b end) as (λ v. eqb b end ≡ v → cond (not v) (1 + m) 0 < length (b ∷ bs) → IsFirstEnd end (b ∷ bs) (cond (not v) (1 + m) 0)) [
      | true ↦ λ is within. record { within = within; whole = ap (λ (c : ℕ). c ∷ bs) (eqb-true b end is); none_before = refl }
      | false ↦ λ other within.
          let more = first_at end bs (omega arith) in
          let one : 1 + m ≡ suc m = omega arith in
          let two : 1 + m + 1 ≡ suc (m + 1) = omega arith in
          let front : take (1 + m) (b ∷ bs) ≡ b ∷ take m bs = ap (λ k. take k (b ∷ bs)) one in
          let rest : drop (1 + m + 1) (b ∷ bs) ≡ drop (m + 1) bs = ap (λ k. drop k (b ∷ bs)) two in
          record {
            within = within;
            whole = rw (front, rest) (ap (λ (t : List ℕ). b ∷ t) more.whole);
            none_before = rw (front, other) more.none_before;
          }
    ] refl lt

none_found : (end : ℕ) (bytes : List ℕ) → length bytes ≤ end_at end bytes → has_byte end bytes ≡ false
none_found end [] le = refl
none_found end (b ∷ bs) le =
    elim (eqb b end) as (λ v. length (b ∷ bs) ≤ cond (not v) (1 + end_at end bs) 0 → (v || has_byte end bs) ≡ false) [
      | true ↦ λ none. absurd (omega arith)
      | false ↦ λ all. none_found end bs (omega arith)
    ] le

search_fails : (end : ℕ) (bytes : List ℕ) → None ≡ position (λ b. eqb b end) bytes → has_byte end bytes ≡ false
search_fails end bytes e =
    elim (nat_lt (end_at end bytes) (length bytes)) as (λ v. nat_lt (end_at end bytes) (length bytes) ≡ v → None ≡ cond v (Some (end_at end bytes)) None → has_byte end bytes ≡ false) [
      | true ↦ λ _ found. absurd cc
      | false ↦ λ far _. let beyond : length bytes ≤ end_at end bytes = grind (arith, nat_tests) in none_found end bytes beyond
    ] refl e

search_finds : (end : ℕ) (bytes : List ℕ) (k : ℕ) → Some k ≡ position (λ b. eqb b end) bytes → IsFirstEnd end bytes k
search_finds end bytes k e =
    elim (nat_lt (end_at end bytes) (length bytes)) as (λ v. nat_lt (end_at end bytes) (length bytes) ≡ v → Some k ≡ cond v (Some (end_at end bytes)) None → IsFirstEnd end bytes k) [
      | true ↦ λ near found.
          let within : end_at end bytes < length bytes = grind (arith, nat_tests) in
          let same : k ≡ end_at end bytes = same_Some k (end_at end bytes) found in
          rw same (first_at end bytes within)
      | false ↦ λ _ none. absurd cc
    ] refl e

-- the same, behind bytes that were searched
pub none_behind_searched : (end : ℕ) (bytes : List ℕ) (n : ℕ) → has_byte end (take n bytes) ≡ false → None ≡ position (λ b. eqb b end) (drop n bytes) → has_byte end bytes ≡ false
none_behind_searched end bytes n none e =
    ap (has_byte end) (sym (take-append-drop n bytes)) ∙ list_any-append (λ b. eqb b end) (take n bytes) (drop n bytes) ∙ rw (none, search_fails end (drop n bytes) e) refl

pub first_behind_searched : (end : ℕ) (bytes : List ℕ) (n k : ℕ) → n ≤ length bytes → has_byte end (take n bytes) ≡ false → Some k ≡ position (λ b. eqb b end) (drop n bytes) → IsFirstEnd end bytes (n + k)
first_behind_searched end bytes n k le none e =
    let rest = drop n bytes in
    let found = search_finds end rest k e in
    let next : n + (k + 1) ≡ n + k + 1 = omega arith in
    let rest_is : drop (k + 1) rest ≡ drop (n + k + 1) bytes = drop-drop (k + 1) n bytes ∙ ap (λ m. drop m bytes) next in
    let whole : take n bytes ++ rest ≡ (take n bytes ++ take k rest) ++ end ∷ drop (n + k + 1) bytes = ap (λ (t : List ℕ). take n bytes ++ t) found.whole ∙ sym (append_assoc (take n bytes) (take k rest) (end ∷ drop (k + 1) rest)) ∙ rw rest_is refl in
    record {
      within = omega (arith, found.within, length-drop n bytes);
      whole = sym (take-append-drop n bytes) ∙ whole ∙ rw (take-add n k bytes) refl;
      none_before = rw (take-add n k bytes, list_any-append (λ b. eqb b end) (take n bytes) (take k rest), none) found.none_before;
    }
