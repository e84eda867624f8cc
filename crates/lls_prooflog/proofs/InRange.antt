-- What a line writes is in range.
use Rattle.std.proofs.Common.{◌≡◌, ℕ, zero, suc, ◌+◌, Bool, true, false, not, cond, ◌&&◌, leb, leb-true, List, [], ◌∷◌, map, drop, Some, None, refl, w64, arith}
use Rattle.std.specs.Prelude.{ℤ, pos, negsuc, nat_le, Result, Ok, Err}
use Rattle.std.specs.List.{list_all, list_any}
use Rattle.std.proofs.lemmas.Bool.{and_parts}
use Rattle.std.proofs.lemmas.Int.{ints, to_z_pos, to_z-of_z}
use mir.Val.{to_z, of_z}
use Rattle.lls_base.specs.Results.{and_then}
use Rattle.lls_text.specs.Lines.{begins_with}
use Rattle.lls_text.specs.Words.{PlacedWord, words_of}
use Rattle.lls_lit.specs.Literal.{variable_of, negation}
use Rattle.lls_prooflog.specs.declared.line_fault.LineFault.{LineFault}
use Rattle.lls_prooflog.specs.declared.step.TheConstants.Step.{MOST_ID}
use Rattle.lls_prooflog.specs.declared.number.Number.{Number}
use Rattle.lls_prooflog.specs.declared.step.Step.{Step}
use Rattle.lls_prooflog.specs.declared.step.Step.TheVariants.{Add, Del}
use Rattle.lls_prooflog.specs.Number.{number_in, value_of, id_in, hint_in, leading_in, literal_in, in_range, ranged, item}
use Rattle.lls_lit.specs.declared.var.TheConstants.Var.{MOST}
use Rattle.lls_prooflog.specs.Range.{is_id, is_hint, is_in_range}
use Rattle.lls_prooflog.specs.Steps.{has_literals}
use Rattle.lls_prooflog.specs.Line.{comment, is_end, before_end, behind_end, all_of, if_ended, listed, step_alone, addition, deletion, begins_d, step_of_words, step_of_line}

-- a value that follows from a part: the part has a value
and_then-Ok : {A B : Type 0} (part : Result A LineFault) (more : A → Result B LineFault) (b : B) → and_then part more ≡ Ok b → (a : A) × ((part ≡ Ok a) × (more a ≡ Ok b))
and_then-Ok (Ok a) more b e = (a, (refl, e))
and_then-Ok (Err fault) more b e = absurd cc

id_within : (number : Number) (column n : ℕ) → in_range column (id_in number) ≡ Ok n → is_id n ≡ true
id_within number column n e =
    let size = number.size in
    elim number.is_negative as (λ s. in_range column (cond (not s && is_id size) (Some size) None) ≡ Ok n → is_id n ≡ true) [
      | true ↦ λ h. absurd cc
      | false ↦ λ h. elim (is_id size) as (λ b. is_id size ≡ b → in_range column (cond b (Some size) None) ≡ Ok n → is_id n ≡ true) [
        | true ↦ λ is k. let same : size ≡ n = cc in rw (← same) is
        | false ↦ λ _ k. absurd cc
      ] refl h
    ] e

pub variable_of-value : (number : Number) → variable_of (value_of number) ≡ number.size
variable_of-value number = elim number.is_negative as (λ s. variable_of (cond s (negation (pos number.size)) (pos number.size)) ≡ number.size) [ true ↦ minus number.size | false ↦ refl ] where
  minus : (n : ℕ) → variable_of (negation (pos n)) ≡ n
  minus zero = refl
  minus (suc n) = omega arith

pub hint_within : (number : Number) (column : ℕ) (z : ℤ) → in_range column (hint_in number) ≡ Ok z → is_hint z ≡ true
hint_within number column z e =
    elim (is_id number.size) as (λ b. is_id number.size ≡ b → in_range column (cond b (Some (value_of number)) None) ≡ Ok z → is_hint z ≡ true) [
      | true ↦ λ is k. let same : value_of number ≡ z = cc in rw (← same, variable_of-value number) is
      | false ↦ λ _ k. absurd cc
    ] refl e

id_item : (word : PlacedWord) (n : ℕ) → item id_in word ≡ Ok n → is_id n ≡ true
id_item word n e = elim (number_in word.text) as (λ o. ranged id_in word.column o ≡ Ok n → is_id n ≡ true) [ None ↦ λ h. absurd cc | Some number ↦ λ h. id_within number word.column n h ] e

hint_item : (word : PlacedWord) (z : ℤ) → item hint_in word ≡ Ok z → is_hint z ≡ true
hint_item word z e = elim (number_in word.text) as (λ o. ranged hint_in word.column o ≡ Ok z → is_hint z ≡ true) [ None ↦ λ h. absurd cc | Some number ↦ λ h. hint_within number word.column z h ] e

module _ {X : Type 0} (item_of : PlacedWord → Result X LineFault) (test : X → Bool) (each : (word : PlacedWord) (x : X) → item_of word ≡ Ok x → test x ≡ true) where
  all_pass : (words : List PlacedWord) (xs : List X) → all_of (map item_of words) ≡ Ok xs → list_all test xs ≡ true
  all_pass [] xs e = let same : [] ≡ xs = cc in rw (← same) refl
  all_pass (word ∷ words) xs e =
      let first = and_then-Ok (item_of word) (λ value. and_then (all_of (map item_of words)) (λ values. Ok (value ∷ values))) xs e in
      let rest = and_then-Ok (all_of (map item_of words)) (λ values. Ok (first.0 ∷ values)) xs first.1.1 in
      let same : first.0 ∷ rest.0 ≡ xs = same_Ok (first.0 ∷ rest.0) xs (Ok (first.0 ∷ rest.0)) refl rest.1.1 in
      rw (← same, each word first.0 first.1.0, all_pass words rest.0 rest.1.0) refl
    where
      same_Ok : (a b : List X) (r : Result (List X) LineFault) → r ≡ Ok a → r ≡ Ok b → a ≡ b
      same_Ok a b r h k = cc

  listed_pass : (words : List PlacedWord) (xs : List X) → listed item_of words ≡ Ok xs → list_all test xs ≡ true
  listed_pass words xs e =
      let all = and_then-Ok (all_of (map item_of (before_end words))) (if_ended (list_any is_end words)) xs e in
      let same : all.0 ≡ xs = ended (list_any is_end words) all.0 xs all.1.1 in
      rw (← same) (all_pass (before_end words) all.0 all.1.0)
    where
      ended : (has : Bool) (a b : List X) → if_ended has a ≡ Ok b → a ≡ b
      ended true a b h = cc
      ended false a b h = absurd cc

alone : (one step : Step) (words : List PlacedWord) → step_alone one words ≡ Ok (Some step) → one ≡ step
alone one step [] e = cc
alone one step (word ∷ words) e = absurd cc

addition_in_range : (first : PlacedWord) (words : List PlacedWord) (step : Step) → addition first words ≡ Ok (Some step) → is_in_range step ≡ true
addition_in_range first words step e =
    let id = and_then-Ok (item id_in first) _ (Some step) e in
    let lits = and_then-Ok (listed (item literal_in) words) _ (Some step) id.1.1 in
    let hints = and_then-Ok (listed (item hint_in) (behind_end words)) _ (Some step) lits.1.1 in
    let same : Add id.0 lits.0 hints.0 ≡ step = alone (Add id.0 lits.0 hints.0) step (behind_end (behind_end words)) hints.1.1 in
    rw (← same, id_item first id.0 id.1.0, listed_pass (item hint_in) is_hint hint_item (behind_end words) hints.0 hints.1.0) refl

deletion_in_range : (first : PlacedWord) (words : List PlacedWord) (step : Step) → deletion first words ≡ Ok (Some step) → is_in_range step ≡ true
deletion_in_range first words step e =
    let leading = and_then-Ok (item leading_in first) _ (Some step) e in
    let ids = and_then-Ok (listed (item id_in) words) _ (Some step) leading.1.1 in
    let same : Del ids.0 ≡ step = alone (Del ids.0) step (behind_end words) ids.1.1 in
    rw (← same) (listed_pass (item id_in) is_id id_item words ids.0 ids.1.0)

literal_within : (number : Number) (column : ℕ) (z : ℤ) → in_range column (literal_in number) ≡ Ok z → nat_le 1 (variable_of z) ≡ true
literal_within number column z e =
    let size = number.size in
    elim (nat_le 1 size && nat_le size MOST) as (λ b. (nat_le 1 size && nat_le size MOST) ≡ b → in_range column (cond b (Some (value_of number)) None) ≡ Ok z → nat_le 1 (variable_of z) ≡ true) [
      | true ↦ λ is k. let same : value_of number ≡ z = cc in rw (← same, variable_of-value number) (and_parts (nat_le 1 size) (nat_le size MOST) is).0
      | false ↦ λ _ k. absurd cc
    ] refl e

literal_item : (word : PlacedWord) (z : ℤ) → item literal_in word ≡ Ok z → nat_le 1 (variable_of z) ≡ true
literal_item word z e = elim (number_in word.text) as (λ o. ranged literal_in word.column o ≡ Ok z → nat_le 1 (variable_of z) ≡ true) [ None ↦ λ h. absurd cc | Some number ↦ λ h. literal_within number word.column z h ] e

addition_has_literals : (first : PlacedWord) (words : List PlacedWord) (step : Step) → addition first words ≡ Ok (Some step) → has_literals step ≡ true
addition_has_literals first words step e =
    let id = and_then-Ok (item id_in first) _ (Some step) e in
    let lits = and_then-Ok (listed (item literal_in) words) _ (Some step) id.1.1 in
    let hints = and_then-Ok (listed (item hint_in) (behind_end words)) _ (Some step) lits.1.1 in
    let same : Add id.0 lits.0 hints.0 ≡ step = alone (Add id.0 lits.0 hints.0) step (behind_end (behind_end words)) hints.1.1 in
    rw (← same) (listed_pass (item literal_in) (λ l. nat_le 1 (variable_of l)) literal_item words lits.0 lits.1.0)

deletion_has_literals : (first : PlacedWord) (words : List PlacedWord) (step : Step) → deletion first words ≡ Ok (Some step) → has_literals step ≡ true
deletion_has_literals first words step e =
    let leading = and_then-Ok (item leading_in first) _ (Some step) e in
    let ids = and_then-Ok (listed (item id_in) words) _ (Some step) leading.1.1 in
    let same : Del ids.0 ≡ step = alone (Del ids.0) step (behind_end words) ids.1.1 in
    rw (← same) refl

-- what additions and deletions pass, each step that a line writes passes
module _ (test : Step → Bool) (added : (first : PlacedWord) (words : List PlacedWord) (step : Step) → addition first words ≡ Ok (Some step) → test step ≡ true) (deleted : (first : PlacedWord) (words : List PlacedWord) (step : Step) → deletion first words ≡ Ok (Some step) → test step ≡ true) where
  words_pass : (words : List PlacedWord) (step : Step) → step_of_words words ≡ Ok (Some step) → test step ≡ true
  words_pass [] step h = absurd cc
  words_pass (first ∷ words) step h = elim (begins_d words) as (λ b. cond b (deletion first (drop 1 words)) (addition first words) ≡ Ok (Some step) → test step ≡ true) [
    | true ↦ λ k. deleted first (drop 1 words) step k
    | false ↦ λ k. added first words step k
  ] h

  line_passes : (line : List ℕ) (step : Step) → step_of_line line ≡ Ok (Some step) → test step ≡ true
  line_passes line step e = elim (begins_with comment line) as (λ b. cond b (Ok None) (step_of_words (words_of line)) ≡ Ok (Some step) → test step ≡ true) [
    | true ↦ λ h. absurd cc
    | false ↦ λ h. words_pass (words_of line) step h
  ] e

-- what a line writes is in range
pub line_in_range : (line : List ℕ) (step : Step) → step_of_line line ≡ Ok (Some step) → is_in_range step ≡ true
line_in_range line step e = line_passes is_in_range addition_in_range deletion_in_range line step e

-- and none of its literals is 0
pub line_has_literals : (line : List ℕ) (step : Step) → step_of_line line ≡ Ok (Some step) → has_literals step ≡ true
line_has_literals line step e = line_passes has_literals addition_has_literals deletion_has_literals line step e

-- a hint of 64 bits is passed on as it is
pub passed : (hint : ℤ) → is_hint hint ≡ true → to_z w64 (of_z w64 hint) ≡ hint
passed (pos n) e = to_z_pos w64 n (omega (arith, leb-true n MOST_ID (and_parts (leb 1 n) (leb n MOST_ID) e).1))
passed (negsuc n) e = to_z-of_z w64 (negsuc n) (omega (arith, ints, leb-true (n + 1) MOST_ID (and_parts (leb 1 (n + 1)) (leb (n + 1) MOST_ID) e).1))
