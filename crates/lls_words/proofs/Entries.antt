-- The entries of a value, cut off one after another at a comma.
use Rattle.std.proofs.Common.{◌≡◌, ◌<◌, ◌≤◌, ℕ, zero, suc, ◌+◌, Bool, true, false, not, cond, List, [], ◌∷◌, ◌++◌, length, get_or, take, drop, Option, None, Some, refl, sym, ap, ◌∙◌, arith, append_assoc, length-drop}
use Rattle.std.specs.Prelude.{◌==◌, nat_lt}
use Rattle.std.specs.List.{slice_split, position_or_len, before_first, after_first}
use Rattle.std.specs.Option.{option_map, option_and_then}
use Rattle.std.proofs.lemmas.Option.{none-some}
use Rattle.std.proofs.lemmas.Bool.{ltb-true, ltb-false}
use Rattle.std.proofs.lemmas.List.{append-nil}
use Rattle.std.proofs.lemmas.List.Splits.{slice_split_first, slice_split_none}
use Rattle.lls_problem.specs.declared.bounds.Bound.{Bound}
use Rattle.lls_words.specs.Values.{cut_at, bound_in, all_in}

abbrev pub parts_at : ℕ → List ℕ → List (List ℕ)
parts_at byte text = slice_split (λ b. b == byte) text

-- where the byte isn't there, each byte is another
all_before : (test : ℕ → Bool) (text : List ℕ) (k d : ℕ) → length text ≤ position_or_len test text → k < length text → test (get_or text k d) ≡ false
all_before test [] k d none inside = absurd (omega arith)
all_before test (b ∷ text) zero d none inside =
    elim (test b) as (λ v. suc (length text) ≤ cond (not v) (1 + position_or_len test text) 0 → v ≡ false) [
      | true ↦ λ more. absurd (omega (arith, more))
      | false ↦ λ more. refl
    ] none
all_before test (b ∷ text) (suc k) d none inside =
    elim (test b) as (λ v. suc (length text) ≤ cond (not v) (1 + position_or_len test text) 0 → test (get_or text k d) ≡ false) [
      | true ↦ λ more. absurd (omega (arith, more))
      | false ↦ λ more. all_before test text k d (omega (arith, more)) (omega (arith, inside))
    ] none

-- what a cut says of the parts of a text
pub record IsCut (byte : ℕ) (text before behind : List ℕ) : Type 0 where
  pub parts : parts_at byte text ≡ before ∷ parts_at byte behind
  pub shorter : length behind < length text

-- the parts of a cut
abbrev parts_or : Option (List ℕ × List ℕ) → List ℕ × List ℕ
parts_or None = ([], [])
parts_or (Some parts) = parts

cut_here : (byte : ℕ) (text before behind : List ℕ) → position_or_len (λ b. b == byte) text < length text
    → before ≡ before_first (λ b. b == byte) text → behind ≡ after_first (λ b. b == byte) text → IsCut byte text before behind
cut_here byte text before behind inside first rest = record {
  parts = slice_split_first (λ b. b == byte) text 0 inside ∙ ap (λ a. a ∷ parts_at byte (after_first (λ b. b == byte) text)) (sym first)
      ∙ ap (λ b. before ∷ parts_at byte b) (sym rest);
  shorter = omega (arith, ap length rest, length-drop (position_or_len (λ b. b == byte) text + 1) text);
}

abbrev pub pair : List ℕ → List ℕ → List ℕ × List ℕ
pair before behind = (before, behind)

abbrev cut_parts : List ℕ → ℕ → List ℕ × List ℕ
cut_parts text at = (take at text, drop (at + 1) text)

pub cut_some : (byte : ℕ) (text before behind : List ℕ) → Some (pair before behind) ≡ cut_at byte text → IsCut byte text before behind
cut_some byte text before behind cut =
    elim (nat_lt (position_or_len (λ b. b == byte) text) (length text))
    as (λ v. nat_lt (position_or_len (λ b. b == byte) text) (length text) ≡ v
    → Some (pair before behind) ≡ option_map (cut_parts text) (cond v (Some (position_or_len (λ b. b == byte) text)) None) → IsCut byte text before behind) [
      | true ↦ λ within is.
          let first : before ≡ before_first (λ b. b == byte) text = ap (λ o. (parts_or o).0) is in
          let rest : behind ≡ after_first (λ b. b == byte) text = ap (λ o. (parts_or o).1) is in
          cut_here byte text before behind (ltb-true _ _ within) first rest
      | false ↦ λ within is. absurd (none-some (pair before behind) (sym is))
    ] refl cut

pub cut_none : (byte : ℕ) (text : List ℕ) → None ≡ cut_at byte text → parts_at byte text ≡ text ∷ []
cut_none byte text cut =
    elim (nat_lt (position_or_len (λ b. b == byte) text) (length text))
    as (λ v. nat_lt (position_or_len (λ b. b == byte) text) (length text) ≡ v
    → None ≡ option_map (cut_parts text) (cond v (Some (position_or_len (λ b. b == byte) text)) None) → parts_at byte text ≡ text ∷ []) [
      | true ↦ λ within is. absurd (none-some (cut_parts text (position_or_len (λ b. b == byte) text)) is)
      | false ↦ λ within is.
          let none = ltb-false (position_or_len (λ b. b == byte) text) (length text) within in
          slice_split_none (λ b. b == byte) text (λ k d inside. all_before (λ b. b == byte) text k d none inside)
    ] refl cut

-- the bounds so far, and those that are left
abbrev pub with_left : List Bound → List (List ℕ) → Option (List Bound)
with_left done texts = option_map (λ more. done ++ more) (all_in bound_in texts)

joined : (done : List Bound) (bound : Bound) (rest : Option (List Bound)) → option_map (λ more. done ++ more) (option_map (λ more. bound ∷ more) rest) ≡ option_map (λ more. (done ++ bound ∷ []) ++ more) rest
joined done bound None = refl
joined done bound (Some more) = ap Some (sym (append_assoc done (bound ∷ []) more))

-- one entry more
pub with_left-more : (done : List Bound) (entry : List ℕ) (texts : List (List ℕ)) (bound : Bound) → Some bound ≡ bound_in entry → with_left (done ++ bound ∷ []) texts ≡ with_left done (entry ∷ texts)
with_left-more done entry texts bound read =
    sym (joined done bound (all_in bound_in texts))
    ∙ ap (λ o. option_map (λ more. done ++ more) (option_and_then (λ value. option_map (λ values. value ∷ values) (all_in bound_in texts)) o)) read

pub with_left-none : (done : List Bound) (entry : List ℕ) (texts : List (List ℕ)) → None ≡ bound_in entry → None ≡ with_left done (entry ∷ texts)
with_left-none done entry texts read =
    ap (λ o. option_map (λ more. done ++ more) (option_and_then (λ value. option_map (λ values. value ∷ values) (all_in bound_in texts)) o)) read

-- the last entry
pub with_left-last : (done : List Bound) → Some done ≡ with_left done []
with_left-last done = ap Some (sym (append-nil done))
