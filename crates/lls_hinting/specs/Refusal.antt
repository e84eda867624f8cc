-- A proof that doesn't go through, and what is said of it.
use Rattle.std.specs.Prelude.{◌≡◌, ◌⊎◌, ℕ, List, [], ◌∷◌, ◌++◌, codes, decimal}
use Rattle.lls_lit.specs.Formula.{Clause}
use Rattle.lls_drat.specs.declared.kind.Kind.TheVariants.{Addition}
use Rattle.lls_drat.specs.Lemma.{NumberedLemma}
use Rattle.lls_lemmas.specs.Lemmas.{IsNotAddable, IsNotImplied}
use Rattle.lls_hinting.specs.Asked.{Asked}
use Rattle.lls_hinting.specs.Behind.{IsBehind, Progress}

-- the lemma of that number, with these literals
abbrev pub addition : ℕ → Clause → NumberedLemma
addition number lits = record { number = number; lemma = record { kind = Addition; lits = lits } }

-- the lemma of that number is one that no hints lead to, from the clauses that are live behind the lemmas before it, and that no hints add by its
-- first literal
pub record StopsAt (asked : Asked) (number : ℕ) : Type 0 where
  pub before : List NumberedLemma
  pub lits : Clause
  pub behind : List NumberedLemma
  pub lemmas_are : asked.lemmas ≡ before ++ addition number lits ∷ behind
  pub now : Progress
  pub is_behind : IsBehind asked.formula before now
  pub not_implied : IsNotImplied asked.formula now.steps lits
  pub not_addable : IsNotAddable asked.formula now.steps lits

-- all lemmas were taken, and no hints lead from what is live then to the empty clause
pub record EndsOpen (asked : Asked) : Type 0 where
  pub now : Progress
  pub is_behind : IsBehind asked.formula asked.lemmas now
  pub not_implied : IsNotImplied asked.formula now.steps []

abbrev pub not_implied_text : ℕ → List ℕ
not_implied_text number = codes "refused: NotImplied " ++ decimal number ++ codes "\n"

abbrev pub no_empty_text : List ℕ
no_empty_text = codes "refused: NoEmpty\n"

-- the text says why a proof doesn't go through
abbrev pub IsRefusal : Asked → List ℕ → Type 0
IsRefusal asked text =
    ((number : ℕ) × StopsAt asked number × (text ≡ not_implied_text number)) ⊎ (EndsOpen asked × (text ≡ no_empty_text))
