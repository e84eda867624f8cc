-- The parts of a header, one after another.
use Rattle.std.proofs.Common.{◌≡◌, ◌<◌, ◌+◌, ℕ, List, length, drop, get_or, Some, None, sym, ap, ◌∙◌, add-one, drop-cons}
use Rattle.std.specs.Prelude.{option_and_then}
use Rattle.lls_rle.specs.declared.header.HeaderPart.{HeaderPart}
use Rattle.lls_rle.specs.Header.{behind_part, behind_parts}

next_part : (parts : List HeaderPart) (i : ℕ) (d : HeaderPart) (text : List ℕ) → i < length parts
    → behind_parts (drop i parts) text ≡ option_and_then (behind_parts (drop (i + 1) parts)) (behind_part (get_or parts i d) text)
next_part parts i d text within =
    ap (λ ps. behind_parts ps text) (drop-cons parts i d within) ∙ ap (λ n. option_and_then (behind_parts (drop n parts)) (behind_part (get_or parts i d) text)) (sym (add-one i))

-- a part that stands first
pub behind_parts-more : (parts : List HeaderPart) (i : ℕ) (d : HeaderPart) (text line behind : List ℕ) → i < length parts → Some behind ≡ behind_part (get_or parts i d) text
    → behind_parts (drop i parts) text ≡ behind_parts parts line → behind_parts (drop (i + 1) parts) behind ≡ behind_parts parts line
behind_parts-more parts i d text line behind within is h = ap (option_and_then (behind_parts (drop (i + 1) parts))) is ∙ sym (next_part parts i d text within) ∙ h

-- one that doesn't
pub behind_parts-none : (parts : List HeaderPart) (i : ℕ) (d : HeaderPart) (text line : List ℕ) → i < length parts → None ≡ behind_part (get_or parts i d) text
    → behind_parts (drop i parts) text ≡ behind_parts parts line → None ≡ behind_parts parts line
behind_parts-none parts i d text line within is h = ap (option_and_then (behind_parts (drop (i + 1) parts))) is ∙ sym (next_part parts i d text within) ∙ h
