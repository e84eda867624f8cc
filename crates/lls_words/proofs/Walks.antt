-- The walk of `clap` over canonical words.
use Rattle.std.proofs.Common.{◌≡◌, true, false, ◌&&◌, List, [], ◌∷◌, ◌++◌, map, fold, Option, Some, None, refl, ap, ap₂, ◌∙◌, append_assoc, subst}
use Rattle.std.specs.List.{list_all}
use Rattle.std.specs.Str.{bytes_eq}
use Rattle.std.proofs.lemmas.Bool.{and_parts}
use Rattle.std.proofs.lemmas.List.{append-nil}
use Rattle.clap.specs.Lexer.{long_of}
use Rattle.clap.specs.Walk.{Row, Rule, Text, Walk, arg_by_long, at_row, has_row, more_values, reading_by, takes_values, used, walk_from, walked}
use Rattle.clap.specs.Simple.{Shape, built, filled}
use Rattle.clap.specs.Takes.{turn_passes, use_passes, walk_passes}
use Rattle.clap.specs.declared.parser.matches.ValueSource.TheVariants.{CommandLine}
use Rattle.lls_words.specs.declared.command.Command.{Command}
use Rattle.lls_words.specs.declared.command.Setting.{Setting}
use Rattle.lls_words.specs.Command.{option_name, takes}
use Rattle.lls_words.specs.Scan.{Given}
use Rattle.lls_words.specs.Canonical.{option_word, word_of, value_of, option_words}
use Rattle.lls_words.specs.Parser.{parser_of, option_rule}
use Rattle.lls_words.proofs.Table.{rules, arg_by_long-option, long_of-option, no_dashes}
use Rattle.lls_words.proofs.Rows.{at_row-missing, are_fresh, are_distinct, is_apart, fresh-head, fresh-tail, fresh-more}

-- between two words, with these rows
abbrev pub with_rows : List Row → Walk
with_rows rows = walk_from (record { rows = rows; pending = None; skip = 0 })

pub walked-long : (c : List Rule) (rows : List Row) (word name value : Text) (a : Rule) → bytes_eq word (45 ∷ 45 ∷ []) ≡ false → long_of word ≡ Some (name, Some value)
    → arg_by_long c name ≡ Some a → takes_values a ≡ true → walked c [] (with_rows rows) word ≡ with_rows (used a (value ∷ []) rows)
unfolding walked
walked-long c rows word name value a other read found one = rw (other, read, found, one) refl

pub turn_passes-long : (s : Shape) (rows : List Row) (word name value : Text) (a : Rule) → bytes_eq word (45 ∷ 45 ∷ []) ≡ false → long_of word ≡ Some (name, Some value)
    → arg_by_long s.rules name ≡ Some a → takes_values a ≡ true → use_passes s.args_override_self a (value ∷ []) rows ≡ true → turn_passes s [] (with_rows rows) word ≡ true
turn_passes-long s rows word name value a other read found one passes = rw (other, read, found, one, passes) refl

-- what is found of an option
abbrev pub option_row : Setting → Text → Row
option_row s value = record {
  id = option_name s;
  values = value ∷ [];
  count = None;
  source = Some CommandLine;
  reading = reading_by (filled (option_rule s));
}

-- a first use of an option adds its row
pub used-option : (s : Setting) (value : Text) (rows : List Row) → has_row (option_name s) rows ≡ false → used (filled (option_rule s)) (value ∷ []) rows ≡ rows ++ option_row s value ∷ []
used-option s value rows none =
    let left : at_row (option_name s) (λ _. []) [] rows ≡ rows = at_row-missing (option_name s) (λ _. []) [] rows none ∙ append-nil rows in
    rw left (at_row-missing (option_name s) (more_values CommandLine (value ∷ [])) (option_row s value ∷ []) rows none)

passes-option : (s : Setting) (value : Text) (rows : List Row) → has_row (option_name s) rows ≡ false → use_passes false (filled (option_rule s)) (value ∷ []) rows ≡ true
passes-option s value rows none = rw none refl

abbrev pub shape : Command → Shape
shape command = (built (parser_of command)).top

pub walked-option : (command : Command) (s : Setting) (value : Text) (rows : List Row) → takes command s ≡ true → has_row (option_name s) rows ≡ false
    → walked (rules command) [] (with_rows rows) (option_word s value) ≡ with_rows (rows ++ option_row s value ∷ [])
walked-option command s value rows taken none =
    walked-long (rules command) rows (option_word s value) (option_name s) value (filled (option_rule s)) (no_dashes s value) (long_of-option s value) (arg_by_long-option command s taken) refl
    ∙ ap with_rows (used-option s value rows none)

abbrev pub row_of : Setting → Option Text → List Row
row_of s None = []
row_of s (Some value) = option_row s value ∷ []

-- what is found of these options
abbrev pub option_rows : List Given → List Setting → List Row
option_rows givens [] = []
option_rows givens (s ∷ more) = row_of s (value_of givens s) ++ option_rows givens more

-- the walk over words adds rows, and leaves ids fresh
pub record Adds (command : Command) (words : List Text) (rows added : List Row) (ids : List Text) (rest : List Text) : Type 0 where
  pub walk : fold (walked (rules command) []) (with_rows rows) (words ++ rest) ≡ fold (walked (rules command) []) (with_rows (rows ++ added)) rest
  pub passes : walk_passes (shape command) [] (with_rows rows) (words ++ rest) ≡ walk_passes (shape command) [] (with_rows (rows ++ added)) rest
  pub fresh : are_fresh ids (rows ++ added) ≡ true

adds-one : (command : Command) (s : Setting) (value : Text) (words : List Text) (rows added : List Row) (ids rest : List Text) → takes command s ≡ true
    → has_row (option_name s) rows ≡ false → Adds command words (rows ++ option_row s value ∷ []) added ids rest
    → Adds command (option_word s value ∷ words) rows (option_row s value ∷ added) ids rest
unfolding walk_passes
adds-one command s value words rows added ids rest taken none more =
    let row = option_row s value in
    let joined : (rows ++ row ∷ []) ++ added ≡ rows ++ row ∷ added = append_assoc rows (row ∷ []) added in
    let step = walked-option command s value rows taken none in
    let turn = turn_passes-long (shape command) rows (option_word s value) (option_name s) value (filled (option_rule s)) (no_dashes s value) (long_of-option s value)
    (arg_by_long-option command s taken) refl (passes-option s value rows none) in
    record {
      walk = ap (λ w. fold (walked (rules command) []) w (words ++ rest)) step ∙ more.walk ∙ ap (λ r. fold (walked (rules command) []) (with_rows r) rest) joined;
      passes = ap₂ (λ b w. b && walk_passes (shape command) [] w (words ++ rest)) turn step ∙ more.passes ∙ ap (λ r. walk_passes (shape command) [] (with_rows r) rest) joined;
      fresh = subst (λ r. are_fresh ids r ≡ true) joined more.fresh;
    }

abbrev pub ids_of : List Setting → List Text → List Text
ids_of ss ids = map option_name ss ++ ids

pub adds-options : (command : Command) (givens : List Given) (ss : List Setting) (rows : List Row) (ids rest : List Text) → list_all (takes command) ss ≡ true
    → are_distinct (ids_of ss ids) ≡ true → are_fresh (ids_of ss ids) rows ≡ true → Adds command (option_words givens ss) rows (option_rows givens ss) ids rest
adds-options command givens [] rows ids rest taken distinct fresh =
    let same : rows ++ [] ≡ rows = append-nil rows in
    record { walk = rw same refl; passes = rw same refl; fresh = rw same fresh }
adds-options command givens (s ∷ ss) rows ids rest taken distinct fresh =
    let takes_both = and_parts (takes command s) (list_all (takes command) ss) taken in
    let apart = and_parts (is_apart (option_name s) (ids_of ss ids)) (are_distinct (ids_of ss ids)) distinct in
    let later = fresh-tail (option_name s) (ids_of ss ids) rows fresh in
    elim (value_of givens s) as (λ o. Adds command (word_of s o ++ option_words givens ss) rows (row_of s o ++ option_rows givens ss) ids rest) [
      | None ↦ adds-options command givens ss rows ids rest takes_both.1 apart.1 later
      | Some value ↦
          adds-one command s value (option_words givens ss) rows (option_rows givens ss) ids rest takes_both.0 (fresh-head (option_name s) (ids_of ss ids) rows fresh)
          (adds-options command givens ss (rows ++ option_row s value ∷ []) ids rest takes_both.1 apart.1 (fresh-more (ids_of ss ids) rows (option_row s value) apart.0 later))
    ]
