-- A proof with hints.
use Rattle.std.specs.Prelude.{◌≡◌, ◌≤◌, ◌⊎◌, ◌++◌, ℕ, true, List, length, codes, decimal}
use Rattle.std.specs.List.{count_by, list_all}
use Rattle.lls_lit.specs.Formula.{Cnf, IsUnsatisfiable}
use Rattle.lls_prooflog.specs.declared.step.Step.{Step}
use Rattle.lls_prooflog.specs.Log.{log_text}
use Rattle.lls_prooflog.specs.Spent.{is_addition}
use Rattle.lls_lrat.specs.Verdict.{Accepted, verdict}
use Rattle.lls_trim.specs.Inferences.{inferences_of}
use Rattle.lls_trim.specs.Needed.{IsFirstRat}
use Rattle.lls_trim.specs.Placed.{steps_of_log}
use Rattle.lls_trim.specs.Trimmed.{IsTrimmed}
use Rattle.lls_drat.specs.Lemma.{NumberedLemma}
use Rattle.lls_lemmas.specs.Lemmas.{EndsEmpty}
use Rattle.lls_lemmas.specs.Rest.{IsRest}
use Rattle.lls_hinting.specs.Asked.{Asked}
use Rattle.lls_hinting.specs.Behind.{IsBehind, Progress}

-- the steps are what is left of others. None is a deletion, and nothing can be trimmed from them
pub record AreTrimmed (formula : Cnf) (whole steps : List Step) : Type 0 where
  pub left : IsTrimmed formula (steps_of_log whole) steps
  pub additions : list_all is_addition steps ≡ true
  pub again : IsTrimmed formula (steps_of_log steps) steps

-- the empty clause rests on a step by its first literal
abbrev pub RestOnRat : Cnf → List Step → Type 0
RestOnRat formula steps = (line : ℕ) × IsFirstRat (inferences_of formula (steps_of_log steps)) line

-- what is said of a proof with hints: of how many additions how many are kept, and how many deletions were passed over, of reasons and of clauses
-- that aren't known
abbrev pub hints_text : ℕ → ℕ → ℕ → ℕ → List ℕ
hints_text kept given reasons unknown =
    codes "kept " ++ decimal kept ++ codes " of " ++ decimal given ++ codes "\npassed over " ++ decimal reasons ++ codes " deletions of reasons and " ++ decimal unknown ++ codes " of unknown clauses\n"

-- a text that says it of these steps, which were kept of those behind the lemmas that were taken, and of the deletions among these
pub record IsHintsText (now : Progress) (steps : List Step) (text : List ℕ) : Type 0 where
  pub fewer : count_by is_addition steps ≤ count_by is_addition now.steps
  pub text_is : text ≡ hints_text (count_by is_addition steps) (count_by is_addition now.steps) now.reasons now.unknown

-- the bytes are the text of steps that the checker accepts, and the other text says how many they are, and what was passed over. They are what the empty
-- clause rests on: numbered anew and without a deletion, but where it rests on a step by its first literal, of which deletions and ids are a part. So no
-- assignment satisfies the formula
pub record AreHints (formula : Cnf) (now : Progress) (bytes said_of_them : List ℕ) : Type 0 where
  pub steps : List Step
  pub text : bytes ≡ log_text steps
  pub accepted : verdict formula bytes ≡ Accepted
  pub trimmed : AreTrimmed formula now.steps steps ⊎ (IsRest (length formula.clauses) now.steps steps × RestOnRat formula now.steps)
  pub unsatisfiable : IsUnsatisfiable formula
  pub said : IsHintsText now steps said_of_them

-- lemmas were taken up to the one with which the empty clause came, and none behind it
pub record ReachesEmpty (asked : Asked) (now : Progress) : Type 0 where
  pub before : List NumberedLemma
  pub behind : List NumberedLemma
  pub lemmas_are : asked.lemmas ≡ before ++ behind
  pub is_behind : IsBehind asked.formula before now
  pub ends : EndsEmpty now.steps

-- so the proof goes through, and this is what it comes to
pub record IsHinted (asked : Asked) (bytes said_of_them : List ℕ) : Type 0 where
  pub now : Progress
  pub reaches : ReachesEmpty asked now
  pub hints : AreHints asked.formula now bytes said_of_them
