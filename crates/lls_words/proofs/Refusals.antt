-- A command with another number of operands than it has.
use Rattle.std.proofs.Common.{◌≡◌, ◌≢◌, List, [], ◌∷◌, length, map, Err, refl, sym, ap, ◌∙◌}
use Rattle.std.proofs.lemmas.List.{length-map}
use Rattle.lls_words.specs.declared.command.Command.{Command}
use Rattle.lls_words.specs.declared.command.Command.TheVariants as commands
use Rattle.lls_words.specs.declared.error.WordsError.TheVariants.{Operands}
use Rattle.lls_words.specs.Command.{operand_count}
use Rattle.lls_words.specs.Job.{job_with}
use Rattle.lls_words.specs.Scan.{Given, Operand}

other_count : (command : Command) (operands : List Operand) (givens : List Given) → length operands ≢ operand_count command
    → job_with command operands givens ≡ Err (Operands (operand_count command) (length operands))
other_count commands.Check [] givens other = refl
other_count commands.Check (o ∷ []) givens other = refl
other_count commands.Check (o ∷ p ∷ []) givens other = absurd (other refl)
other_count commands.Check (o ∷ p ∷ q ∷ more) givens other = refl
other_count commands.Search [] givens other = refl
other_count commands.Search (o ∷ []) givens other = refl
other_count commands.Search (o ∷ p ∷ []) givens other = absurd (other refl)
other_count commands.Search (o ∷ p ∷ q ∷ more) givens other = refl
other_count commands.Judge [] givens other = refl
other_count commands.Judge (o ∷ []) givens other = refl
other_count commands.Judge (o ∷ p ∷ []) givens other = absurd (other refl)
other_count commands.Judge (o ∷ p ∷ q ∷ more) givens other = refl
other_count commands.Cnf [] givens other = refl
other_count commands.Cnf (o ∷ []) givens other = absurd (other refl)
other_count commands.Cnf (o ∷ p ∷ more) givens other = refl
other_count commands.Sat [] givens other = refl
other_count commands.Sat (o ∷ []) givens other = refl
other_count commands.Sat (o ∷ p ∷ []) givens other = absurd (other refl)
other_count commands.Sat (o ∷ p ∷ q ∷ more) givens other = refl
other_count commands.Lrat [] givens other = refl
other_count commands.Lrat (o ∷ []) givens other = refl
other_count commands.Lrat (o ∷ p ∷ []) givens other = absurd (other refl)
other_count commands.Lrat (o ∷ p ∷ q ∷ more) givens other = refl
other_count commands.Rule [] givens other = refl
other_count commands.Rule (o ∷ []) givens other = absurd (other refl)
other_count commands.Rule (o ∷ p ∷ more) givens other = refl
other_count commands.Make [] givens other = refl
other_count commands.Make (o ∷ []) givens other = refl
other_count commands.Make (o ∷ p ∷ []) givens other = refl
other_count commands.Make (o ∷ p ∷ q ∷ []) givens other = refl
other_count commands.Make (o ∷ p ∷ q ∷ r ∷ []) givens other = absurd (other refl)
other_count commands.Make (o ∷ p ∷ q ∷ r ∷ t ∷ more) givens other = refl
other_count commands.Least [] givens other = refl
other_count commands.Least (o ∷ []) givens other = refl
other_count commands.Least (o ∷ p ∷ []) givens other = absurd (other refl)
other_count commands.Least (o ∷ p ∷ q ∷ more) givens other = refl
other_count commands.Most [] givens other = refl
other_count commands.Most (o ∷ []) givens other = refl
other_count commands.Most (o ∷ p ∷ []) givens other = absurd (other refl)
other_count commands.Most (o ∷ p ∷ q ∷ more) givens other = refl
other_count commands.Open [] givens other = refl
other_count commands.Open (o ∷ []) givens other = refl
other_count commands.Open (o ∷ p ∷ []) givens other = absurd (other refl)
other_count commands.Open (o ∷ p ∷ q ∷ more) givens other = refl
other_count commands.OpenCheck [] givens other = refl
other_count commands.OpenCheck (o ∷ []) givens other = refl
other_count commands.OpenCheck (o ∷ p ∷ []) givens other = absurd (other refl)
other_count commands.OpenCheck (o ∷ p ∷ q ∷ more) givens other = refl
other_count commands.Trim [] givens other = refl
other_count commands.Trim (o ∷ []) givens other = refl
other_count commands.Trim (o ∷ p ∷ []) givens other = refl
other_count commands.Trim (o ∷ p ∷ q ∷ []) givens other = absurd (other refl)
other_count commands.Trim (o ∷ p ∷ q ∷ r ∷ more) givens other = refl

-- the same of operands as contracts see them
pub refused : {X : Type 0} (command : Command) (seen : X → Operand) (operands : List X) (givens : List Given) → length operands ≢ operand_count command
    → job_with command (map seen operands) givens ≡ Err (Operands (operand_count command) (length operands))
refused command seen operands givens other =
    let same = length-map operands seen in
    other_count command (map seen operands) givens (λ count. other (sym same ∙ count)) ∙ ap (λ n. Err (Operands (operand_count command) n)) same
