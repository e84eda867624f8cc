-- The form of a proof by its first bytes.
use Rattle.std.proofs.Common.{◌≡◌, ◌≤◌, ◌⊎◌, ℕ, List, [], ◌∷◌, ◌++◌, length, take, Option, None, Some, refl, sym, ap, ◌∙◌, inl, inr}
use Rattle.std.specs.Prelude.{Ok}
use Rattle.std.proofs.lemmas.List.{take-append-le}
use Rattle.lls_base.specs.Shelf.{Files}
use Rattle.lls_drat.specs.declared.form.Form.{Form}
use Rattle.lls_drat.specs.Form.{recognised}
use Rattle.lls_hinting.specs.Place.{HasStart, StartSays}
use Rattle.lls_hinting.specs.Steps.{IsForm, IsOpened}
use Rattle.lls_hinting.proofs.Passing.{at}

-- the first bytes of what was left, and what is left behind them
pub record Begun (start : List ℕ) (now : Option (List ℕ)) (left : List ℕ) : Type 0 where
  pub behind : List ℕ
  pub rest : now ≡ Some behind
  pub front : left ≡ start ++ behind

none_behind : (start : List ℕ) → start ++ [] ≡ start
none_behind [] = refl
none_behind (b ∷ bs) = ap (λ (more : List ℕ). b ∷ more) (none_behind bs)

same_start : (start behind bytes : List ℕ) → bytes ≡ start ++ behind → (10 ≤ length start) ⊎ (behind ≡ []) → take 10 start ≡ take 10 bytes
same_start start behind bytes is (inl enough) = sym (ap (take 10) is ∙ take-append-le 10 start behind enough)
same_start start behind bytes is (inr none) = sym (ap (take 10) (is ∙ ap (λ (bs : List ℕ). start ++ bs) none ∙ none_behind start))

-- the first bytes tell the form
pub form_told : (start bytes : List ℕ) → HasStart 10 start bytes → recognised start ≡ recognised bytes
form_told start bytes has = rw (same_start start has.behind bytes has.front has.enough) refl

pub told_form : (files : Option Files) (name : List ℕ) (given : Option Form) (rest : Option (List ℕ)) (start : List ℕ) (form : Form) → given ≡ None → form ≡ recognised start
    → IsOpened files name rest (Ok tt) → StartSays 10 rest start (Ok tt) → IsForm files name given (Ok form)
told_form None name given rest start form none is opened says = tt
told_form (Some files) name given rest start form none is opened says = λ bytes found.
    let same : opened.0 ≡ bytes = same_some opened.0 bytes (sym opened.1 ∙ found) in
    rw none (is ∙ form_told start bytes (at (HasStart 10 start) rest bytes (opened.2 ∙ ap Some same) says))
  where
    same_some : (one two : List ℕ) → Some one ≡ Some two → one ≡ two
    same_some one two is = cc
