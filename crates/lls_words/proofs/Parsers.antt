-- The parser of each command takes canonical words, and finds what they say.
use Rattle.std.proofs.Common.{◌≡◌, true, false, ◌&&◌, List, [], ◌∷◌, ◌++◌, All, map, fold, length, None, refl, ap, ap₂, ◌∙◌}
use Rattle.std.specs.List.{list_all}
use Rattle.clap.specs.Walk.{Row, Text, finished, is_empty, nothing_held, walked}
use Rattle.clap.specs.Simple.{built, matches_of}
use Rattle.clap.specs.Takes.{default_passes, is_given, is_valid, level_passes, settle_passes, takes}
use Rattle.clap.proofs.TakesLemmas.{leaf_takes}
use Rattle.lls_words.specs.declared.command.Command.{Command}
use Rattle.lls_words.specs.declared.command.Command.TheVariants as commands
use Rattle.lls_words.specs.Command.{operand_count, operand_names, options_of}
use Rattle.lls_words.specs.Command as table
use Rattle.lls_words.specs.Canonical.{canonical_words, option_words}
use Rattle.lls_words.specs.Items.{is_bare}
use Rattle.lls_words.specs.Parser.{parser_of}
use Rattle.lls_words.specs.Scan.{Given, Operand, Scanned}
use Rattle.lls_words.proofs.Table.{rules, is_simple-parser}
use Rattle.lls_words.proofs.Rows.{are_distinct, are_fresh}
use Rattle.lls_words.proofs.Walks.{Adds, with_rows, shape, ids_of, option_rows, adds-options}
use Rattle.lls_words.proofs.Operands.{AreFound, AreThere, are_there, ends-operands, no_defaults, operand_rows, operands_from}

-- what holds of the options and operands of each command, by computation
record HasArguments (command : Command) : Type 0 where
  taken : list_all (table.takes command) (options_of command) ≡ true
  distinct : are_distinct (ids_of (options_of command) (operand_names command)) ≡ true
  count : operand_count command ≡ length (operand_names command)
  apart : are_distinct (operand_names command) ≡ true
  found : AreFound (rules command) (operands_from 1 (operand_names command))
  no_defaults : list_all (λ a. is_empty a.defaults) (rules command) ≡ true
  default_passes : list_all default_passes (rules command) ≡ true
  required : (rows : List Row) → is_valid (shape command) rows false ≡ list_all (λ name. is_given name rows) (operand_names command)

has_arguments : (command : Command) → HasArguments command
has_arguments commands.Check = record { taken = refl; distinct = refl; count = refl; apart = refl; found = record { by_place = refl; by_name = refl }; no_defaults = refl; default_passes = refl; required = λ rows. refl }
has_arguments commands.Search = record { taken = refl; distinct = refl; count = refl; apart = refl; found = record { by_place = refl; by_name = refl }; no_defaults = refl; default_passes = refl; required = λ rows. refl }
has_arguments commands.Judge = record { taken = refl; distinct = refl; count = refl; apart = refl; found = record { by_place = refl; by_name = refl }; no_defaults = refl; default_passes = refl; required = λ rows. refl }
has_arguments commands.Cnf = record { taken = refl; distinct = refl; count = refl; apart = refl; found = record { by_place = refl; by_name = refl }; no_defaults = refl; default_passes = refl; required = λ rows. refl }
has_arguments commands.Sat = record { taken = refl; distinct = refl; count = refl; apart = refl; found = record { by_place = refl; by_name = refl }; no_defaults = refl; default_passes = refl; required = λ rows. refl }
has_arguments commands.Lrat = record { taken = refl; distinct = refl; count = refl; apart = refl; found = record { by_place = refl; by_name = refl }; no_defaults = refl; default_passes = refl; required = λ rows. refl }
has_arguments commands.Rule = record { taken = refl; distinct = refl; count = refl; apart = refl; found = record { by_place = refl; by_name = refl }; no_defaults = refl; default_passes = refl; required = λ rows. refl }
has_arguments commands.Make = record { taken = refl; distinct = refl; count = refl; apart = refl; found = record { by_place = refl; by_name = refl }; no_defaults = refl; default_passes = refl; required = λ rows. refl }
has_arguments commands.Least = record { taken = refl; distinct = refl; count = refl; apart = refl; found = record { by_place = refl; by_name = refl }; no_defaults = refl; default_passes = refl; required = λ rows. refl }
has_arguments commands.Most = record { taken = refl; distinct = refl; count = refl; apart = refl; found = record { by_place = refl; by_name = refl }; no_defaults = refl; default_passes = refl; required = λ rows. refl }
has_arguments commands.Open = record { taken = refl; distinct = refl; count = refl; apart = refl; found = record { by_place = refl; by_name = refl }; no_defaults = refl; default_passes = refl; required = λ rows. refl }
has_arguments commands.OpenCheck = record { taken = refl; distinct = refl; count = refl; apart = refl; found = record { by_place = refl; by_name = refl }; no_defaults = refl; default_passes = refl; required = λ rows. refl }
has_arguments commands.Trim = record { taken = refl; distinct = refl; count = refl; apart = refl; found = record { by_place = refl; by_name = refl }; no_defaults = refl; default_passes = refl; required = λ rows. refl }

fresh-nil : (ids : List Text) → are_fresh ids [] ≡ true
fresh-nil [] = refl
fresh-nil (id ∷ ids) = fresh-nil ids

adds : (command : Command) (givens : List Given) (rest : List Text)
    → Adds command (option_words givens (options_of command)) [] (option_rows givens (options_of command)) (operand_names command) rest
adds command givens rest =
    let has = has_arguments command in
    adds-options command givens (options_of command) [] (operand_names command) rest has.taken has.distinct (fresh-nil (ids_of (options_of command) (operand_names command)))

-- the rows of canonical words
abbrev pub canonical_rows : Command → Scanned → List Row
canonical_rows command s = option_rows s.givens (options_of command) ++ operand_rows (operand_names command) s.operands

pub operands_there : (command : Command) (s : Scanned) → length s.operands ≡ operand_count command → AreThere (operand_names command) s.operands (canonical_rows command s)
operands_there command s count =
    let has = has_arguments command in
    are_there (operand_names command) s.operands (option_rows s.givens (options_of command)) (count ∙ has.count) has.apart (adds command s.givens []).fresh

-- a parse of words succeeds, and finds these rows
pub record Reads (command : Command) (words : List Text) (rows : List Row) : Type 0 where
  pub taken : takes (parser_of command) words ≡ true
  pub found : matches_of (parser_of command) words ≡ rows

pub reads : (command : Command) (s : Scanned) → length s.operands ≡ operand_count command → All (λ o. is_bare o.word ≡ true) s.operands
    → Reads command (canonical_words command s) (canonical_rows command s)
reads command s count plain =
    let has = has_arguments command in
    let words : List Text = map (λ (o : Operand). o.word) s.operands in
    let options = adds command s.givens words in
    let ends = ends-operands (shape command) 1 (operand_names command) s.operands (option_rows s.givens (options_of command)) (option_rows s.givens (options_of command)) None
    refl has.found (count ∙ has.count) plain has.apart options.fresh (record { rows_are = refl; passes = refl }) in
    let end : finished (rules command) (fold (walked (rules command) []) (with_rows []) (canonical_words command s)).held ≡ canonical_rows command s =
    ap (λ w. finished (rules command) w.held) options.walk ∙ (no_defaults (rules command) _ has.no_defaults ∙ ends.rows_are) in
    let valid = ap (λ rows. is_valid (shape command) rows false) end ∙ (has.required (canonical_rows command s) ∙ (operands_there command s count).given) in
    let level : level_passes (shape command) [] nothing_held (canonical_words command s) false ≡ true =
    ap₂ (λ a b. a && b) (options.passes ∙ ends.passes)
    (ap₂ (λ a b. a && b) (ap (λ w. settle_passes (rules command) false w.held) options.walk ∙ ends.settles) (ap₂ (λ a b. a && b) has.default_passes valid)) in
    record {
      taken = ap₂ (λ a b. a && b) (is_simple-parser command) (leaf_takes (built (parser_of command)) nothing_held (canonical_words command s) refl level);
      found = end;
    }
