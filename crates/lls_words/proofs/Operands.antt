-- The walk of `clap` over operands, its end, and what it finds.
use Rattle.std.proofs.Common.{◌≡◌, ℕ, ◌+◌, ◌==◌, true, false, not, cond, min, ◌&&◌, List, [], ◌∷◌, ◌++◌, All, map, fold, drop, length, get_or, Option, Some, None, refl, sym, ap, ap₂, ◌∙◌, subst, append_assoc, arith}
use Rattle.std.specs.Prelude.{find, slice_get, unwrap_or}
use Rattle.std.specs.List.{list_all}
use Rattle.std.specs.Option.{option_and_then, option_map_or}
use Rattle.std.specs.Str.{bytes_eq}
use Rattle.std.proofs.Math.Bool.{and-false}
use Rattle.std.proofs.lemmas.Bool.{and_parts}
use Rattle.std.proofs.lemmas.List.{append-nil}
use Rattle.std.proofs.lemmas.List.Elements.{All-head, All-tail}
use Rattle.std.proofs.lemmas.Slice.Eq.{bytes_eq-Decides}
use Rattle.clap.specs.Facts.{explicit_source}
use Rattle.clap.specs.Lexer.{long_of, short_of, usize_max}
use Rattle.clap.specs.Walk.{Row, Rule, Text, Walk, idle, arg_by_id, arg_by_index, at_row, default_rows, first_of, has_row, is_empty, more_values, reading_by, settled, settled_rows, used, walked, with_default}
use Rattle.clap.specs.Simple.{Shape, filled, filled_from, with_index}
use Rattle.clap.specs.Takes.{is_given, settle_passes, turn_passes, use_passes, walk_passes}
use Rattle.clap.specs.declared.parser.matches.ValueSource.TheVariants.{CommandLine}
use Rattle.clap.proofs.SimpleLemmas.{is_nil}
use Rattle.lls_words.specs.Items.{is_bare}
use Rattle.lls_words.specs.Parser.{operand_rule}
use Rattle.lls_words.specs.Scan.{Operand}
use Rattle.lls_words.proofs.Rows.{at_row-missing, are_distinct, are_fresh, find-missing, fresh-head, fresh-more, fresh-tail, is_apart, true_false}

-- between two words, where an operand may be pending
abbrev pub at : ℕ → List Row → Option (Text × List Text) → Walk
at position rows pending = record {
  held = record { rows = rows; pending = pending; skip = 0 };
  waiting = idle;
  position = position;
  is_trailing = false;
  stopped = None;
}

-- a word that is no flag
record IsOperand (word : Text) : Type 0 where
  other : bytes_eq word (45 ∷ 45 ∷ []) ≡ false
  no_long : long_of word ≡ None
  no_short : short_of word ≡ None

IsOperand-plain : (word : Text) → is_bare word ≡ true → IsOperand word
IsOperand-plain [] plain = true_false (sym plain)
IsOperand-plain (b ∷ bs) plain =
    let first : (b == 45) ≡ false = elim (b == 45) as (λ v. not v ≡ true → v ≡ false) [ true ↦ λ e. sym e | false ↦ λ e. refl ] plain in
    record { other = rw first refl; no_long = rw first refl; no_short = rw first refl }

-- the rule of an operand, built
abbrev pub operand_at : ℕ → Text → Rule
operand_at place name = with_index place (filled (operand_rule name))

abbrev pub operand_row : Text → Text → Row
operand_row name value = record {
  id = name;
  values = value ∷ [];
  count = None;
  source = Some CommandLine;
  reading = reading_by (filled (operand_rule name));
}

used-operand : (place : ℕ) (name value : Text) (rows : List Row) → has_row name rows ≡ false → used (operand_at place name) (value ∷ []) rows ≡ rows ++ operand_row name value ∷ []
used-operand place name value rows none =
    let left : at_row name (λ _. []) [] rows ≡ rows = at_row-missing name (λ _. []) [] rows none ∙ append-nil rows in
    rw left (at_row-missing name (more_values CommandLine (value ∷ [])) (operand_row name value ∷ []) rows none)

passes-operand : (place : ℕ) (name value : Text) (rows : List Row) → has_row name rows ≡ false → use_passes false (operand_at place name) (value ∷ []) rows ≡ true
passes-operand place name value rows none = rw none refl

-- once the pending operand is used, what is held is these rows
pub record Settles (c : List Rule) (rows : List Row) (pending : Option (Text × List Text)) (done : List Row) : Type 0 where
  pub rows_are : settled_rows c pending rows ≡ done
  pub passes : settle_passes c false (record { rows = rows; pending = pending; skip = 0 }) ≡ true

Settles-operand : (c : List Rule) (place : ℕ) (name value : Text) (rows : List Row) → arg_by_id c name ≡ Some (operand_at place name) → has_row name rows ≡ false
    → Settles c rows (Some (name, value ∷ [])) (rows ++ operand_row name value ∷ [])
Settles-operand c place name value rows found none = record {
  rows_are = rw found (used-operand place name value rows none);
  passes = rw found (passes-operand place name value rows none);
}

abbrev pub place_after : ℕ → ℕ
place_after place = min (place + 1) usize_max

-- an operand is pending, and the one before it is used
walked-operand : (c : List Rule) (place : ℕ) (name word : Text) (rows done : List Row) (pending : Option (Text × List Text)) → IsOperand word
    → arg_by_index c place ≡ Some (operand_at place name) → Settles c rows pending done → walked c [] (at place rows pending) word ≡ at (place_after place) done (Some (name, word ∷ []))
unfolding walked
walked-operand c place name word rows done pending is found settles = rw (is.other, is.no_long, is.no_short, found, and-false, settles.rows_are) refl

turn_passes-operand : (s : Shape) (place : ℕ) (name word : Text) (rows done : List Row) (pending : Option (Text × List Text)) → s.args_override_self ≡ false → IsOperand word
    → arg_by_index s.rules place ≡ Some (operand_at place name) → Settles s.rules rows pending done → turn_passes s [] (at place rows pending) word ≡ true
turn_passes-operand s place name word rows done pending once is found settles = rw (is.other, is.no_long, is.no_short, found, and-false, once, settles.passes) refl

-- operands, built, are found by their places and by their names
pub record AreFound (c operands : List Rule) : Type 0 where
  pub by_place : map (λ a. arg_by_index c (unwrap_or a.index 0)) operands ≡ map (λ a. Some a) operands
  pub by_name : map (λ a. arg_by_id c a.id) operands ≡ map (λ a. Some a) operands

-- the rules of operands of these names from a place on, built
abbrev pub operands_from : ℕ → List Text → List Rule
operands_from place names = filled_from place (map operand_rule names)

abbrev pub operand_rows : List Text → List Operand → List Row
operand_rows (name ∷ names) (o ∷ operands) = operand_row name o.word ∷ operand_rows names operands
operand_rows names operands = []

-- the walk over these words passes, and ends with these rows
pub record Ends (s : Shape) (w : Walk) (words : List Text) (rows : List Row) : Type 0 where
  pub passes : walk_passes s [] w words ≡ true
  pub settles : settle_passes s.rules false (fold (walked s.rules []) w words).held ≡ true
  pub rows_are : (settled s.rules (fold (walked s.rules []) w words).held).rows ≡ rows

pub ends-operands : (s : Shape) (place : ℕ) (names : List Text) (operands : List Operand) (rows done : List Row) (pending : Option (Text × List Text)) → s.args_override_self ≡ false
    → AreFound s.rules (operands_from place names) → length operands ≡ length names → All (λ o. is_bare o.word ≡ true) operands → are_distinct names ≡ true → are_fresh names done ≡ true
    → Settles s.rules rows pending done → Ends s (at place rows pending) (map (λ o. o.word) operands) (done ++ operand_rows names operands)
unfolding walk_passes
ends-operands s place [] [] rows done pending once found count plain distinct fresh settles = record { passes = refl; settles = settles.passes; rows_are = settles.rows_are ∙ sym (append-nil done) }
ends-operands s place [] (o ∷ operands) rows done pending once found count plain distinct fresh settles = absurd (omega (arith, count))
ends-operands s place (name ∷ names) [] rows done pending once found count plain distinct fresh settles = absurd (omega (arith, count))
ends-operands s place (name ∷ names) (o ∷ operands) rows done pending once found count plain distinct fresh settles =
    let words : List Text = map (λ o. o.word) operands in
    let row = operand_row name o.word in
    let is = IsOperand-plain o.word (All-head (λ o. is_bare o.word ≡ true) o operands plain) in
    let by_place : arg_by_index s.rules place ≡ Some (operand_at place name) = ap (λ all. get_or all 0 None) found.by_place in
    let by_name : arg_by_id s.rules name ≡ Some (operand_at place name) = ap (λ all. get_or all 0 None) found.by_name in
    let apart = and_parts (is_apart name names) (are_distinct names) distinct in
    let step = walked-operand s.rules place name o.word rows done pending is by_place settles in
    let later : AreFound s.rules (operands_from (place_after place) names) = record { by_place = ap (drop 1) found.by_place; by_name = ap (drop 1) found.by_name } in
    let more = ends-operands s (place_after place) names operands done (done ++ row ∷ []) (Some (name, o.word ∷ [])) once later (omega (arith, count))
    (All-tail (λ o. is_bare o.word ≡ true) o operands plain) apart.1 (fresh-more names done row apart.0 (fresh-tail name names done fresh))
    (Settles-operand s.rules place name o.word done by_name (fresh-head name names done fresh)) in
    record {
      passes = ap₂ (λ b w. b && walk_passes s [] w words) (turn_passes-operand s place name o.word rows done pending once is by_place settles) step ∙ more.passes;
      settles = ap (λ w. settle_passes s.rules false (fold (walked s.rules []) w words).held) step ∙ more.settles;
      rows_are = ap (λ w. (settled s.rules (fold (walked s.rules []) w words).held).rows) step ∙ (more.rows_are ∙ append_assoc done (row ∷ []) (operand_rows names operands));
    }

-- among these rows each operand has one, with its value
pub record AreThere (names : List Text) (operands : List Operand) (rows : List Row) : Type 0 where
  pub given : list_all (λ name. is_given name rows) names ≡ true
  pub values : map (λ name. first_of name rows) names ≡ map (λ o. Some o.word) operands

pub are_there : (names : List Text) (operands : List Operand) (before : List Row) → length operands ≡ length names → are_distinct names ≡ true → are_fresh names before ≡ true
    → AreThere names operands (before ++ operand_rows names operands)
are_there [] [] before count distinct fresh = record { given = refl; values = refl }
are_there [] (o ∷ operands) before count distinct fresh = absurd (omega (arith, count))
are_there (name ∷ names) [] before count distinct fresh = absurd (omega (arith, count))
are_there (name ∷ names) (o ∷ operands) before count distinct fresh =
    let row = operand_row name o.word in
    let behind = operand_rows names operands in
    let apart = and_parts (is_apart name names) (are_distinct names) distinct in
    let here : find (λ r. bytes_eq r.id name) (before ++ row ∷ behind) ≡ Some row =
    find-missing name before (row ∷ behind) (fresh-head name names before fresh) ∙ ap (λ b. cond b (Some row) (find (λ r. bytes_eq r.id name) behind)) ((bytes_eq-Decides name name).1 refl) in
    let more = subst (AreThere names operands) (append_assoc before (row ∷ []) behind)
    (are_there names operands (before ++ row ∷ []) (omega (arith, count)) apart.1 (fresh-more names before row apart.0 (fresh-tail name names before fresh))) in
    record {
      given = ap₂ (λ found b. option_map_or (λ (r : Row). explicit_source r.source) found false && b) here more.given;
      values = ap₂ (λ found rest. option_and_then (λ (r : Row). slice_get r.values 0) found ∷ rest) here more.values;
    }

with_default-none : (rows : List Row) (a : Rule) → is_empty a.defaults ≡ true → with_default rows a ≡ rows
with_default-none rows a none =
    ap (λ d. cond (has_row a.id rows) rows (default_rows a.id (reading_by a) d rows)) (is_nil a.defaults none)
    ∙ (elim (has_row a.id rows) as (λ b. cond b rows rows ≡ rows) [ true ↦ refl | false ↦ refl ])

-- where no argument has a default, nothing is added at the end
pub no_defaults : (c : List Rule) (rows : List Row) → list_all (λ a. is_empty a.defaults) c ≡ true → fold with_default rows c ≡ rows
no_defaults [] rows none = refl
no_defaults (a ∷ c) rows none =
    let parts = and_parts (is_empty a.defaults) (list_all (λ a. is_empty a.defaults) c) none in
    ap (λ r. fold with_default r c) (with_default-none rows a parts.0) ∙ no_defaults c rows parts.1
