-- What a parse of canonical words found, by the ids of options and operands.
use Rattle.std.proofs.Common.{◌≡◌, ℕ, true, false, cond, ◌||◌, List, [], ◌∷◌, ◌++◌, length, get_or, map, Option, Some, None, refl, ap, ap₂, ◌∙◌, arith}
use Rattle.std.specs.Prelude.{find, slice_get}
use Rattle.std.specs.List.{list_any}
use Rattle.std.specs.Option.{option_and_then, option_map}
use Rattle.std.specs.Str.{bytes_eq}
use Rattle.std.proofs.lemmas.Slice.Eq.{bytes_eq-Decides}
use Rattle.clap.specs.Matches.{first_value}
use Rattle.clap.specs.Walk.{Row, Text, first_of, rows_of}
use Rattle.clap.specs.Simple.{matches_of}
use Rattle.clap.specs.declared.parser.matches.Found.{Found}
use Rattle.clap.proofs.WalkLemmas.{first_value-rows}
use Rattle.lls_words.specs.declared.command.Command.{Command}
use Rattle.lls_words.specs.declared.command.Setting.{Setting}
use Rattle.lls_words.specs.Command.{operand_count, operand_names, option_name, options_of, same_setting}
use Rattle.lls_words.specs.Canonical.{FitsCanonical, canonical_words, value_of}
use Rattle.lls_words.specs.Parser.{ReadsBack, parser_of}
use Rattle.lls_words.specs.Scan.{Given, Scanned}
use Rattle.lls_words.proofs.Walks.{option_row, option_rows, row_of}
use Rattle.lls_words.proofs.Operands.{operand_rows}
use Rattle.lls_words.proofs.Parsers.{canonical_rows, operands_there, reads}

map-agree : {X Y : Type 0} (f g : X → Y) → ((x : X) → f x ≡ g x) → (xs : List X) → map f xs ≡ map g xs
map-agree f g same [] = refl
map-agree f g same (x ∷ xs) = ap₂ (λ y ys. y ∷ ys) (same x) (map-agree f g same xs)

abbrev first_text : Option Row → Option Text
first_text = option_and_then (λ r. slice_get r.values 0)

same_value : (givens : List Given) (a b : Setting) → same_setting a b ≡ true → value_of givens a ≡ value_of givens b
same_value givens a b same =
    ap (λ n. option_map (λ (g : Given). g.value) (find (λ g. bytes_eq (option_name g.setting) n) givens)) ((bytes_eq-Decides (option_name a) (option_name b)).0 same)

-- an option that is given has its value
first_of-option : (givens : List Given) (ss : List Setting) (s : Setting) (value : Text) (behind : List Row) → value_of givens s ≡ Some value
    → list_any (λ t. same_setting t s) ss ≡ true → first_of (option_name s) (option_rows givens ss ++ behind) ≡ Some value
first_of-option givens [] s value behind is there = let bad : ◌≡◌ {A = ℕ} 0 1 = ap (λ b. cond b 1 0) there in absurd (omega (arith, bad))
first_of-option givens (t ∷ ss) s value behind is there =
    let later : List Row = option_rows givens ss ++ behind in
    let name = option_name s in
    elim (same_setting t s) as (λ b. same_setting t s ≡ b → (b || list_any (λ u. same_setting u s) ss) ≡ true → first_of name ((row_of t (value_of givens t) ++ option_rows givens ss) ++ behind) ≡ Some value) [
      | true ↦ λ same e.
          ap (λ o. first_of name ((row_of t o ++ option_rows givens ss) ++ behind)) (same_value givens t s same ∙ is)
          ∙ ap (λ b. first_text (cond b (Some (option_row t value)) (find (λ r. bytes_eq r.id name) later))) same
      | false ↦ λ same e.
          let more = first_of-option givens ss s value behind is e in
          elim (value_of givens t) as (λ o. first_of name ((row_of t o ++ option_rows givens ss) ++ behind) ≡ Some value) [
            | None ↦ more
            | Some u ↦ ap (λ b. first_text (cond b (Some (option_row t u)) (find (λ r. bytes_eq r.id name) later))) same ∙ more
          ]
    ] refl there

-- what a parse found, where it found what the command finds in these words
pub ReadsBack-found : (command : Command) (s : Scanned) (found : Found) → length s.operands ≡ operand_count command → FitsCanonical command s
    → rows_of found ≡ matches_of (parser_of command) (canonical_words command s) → ReadsBack command s found
ReadsBack-found command s found count fits same =
    let rows_are : rows_of found ≡ canonical_rows command s = same ∙ (reads command s count fits.plain).found in
    let value_is : (id : Text) → first_value found id ≡ first_of id (canonical_rows command s) = λ id. first_value-rows found id ∙ ap (first_of id) rows_are in
    let behind = operand_rows (operand_names command) s.operands in
    record {
      options = λ k d inside.
          let given = get_or s.givens k d in
          value_is (option_name given.setting)
          ∙ first_of-option s.givens (options_of command) given.setting given.value behind (fits.once k d inside) (fits.taken k d inside);
      operands = map-agree (first_value found) (λ id. first_of id (canonical_rows command s)) value_is (operand_names command) ∙ (operands_there command s count).values;
    }
