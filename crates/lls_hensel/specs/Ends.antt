-- Two rules as the ends of the rules between them: which two are, and where two others fail to be.
use Rattle.std.specs.Prelude.{◌≡◌, ◌<◌, ◌-◌, ◌&&◌, ℕ, Bool, true, not, List, [], ◌∷◌, find, Option}
use Rattle.std.specs.List.{range_with_len}
use Rattle.std.proofs.Math.Bool.{beq}
use Rattle.lls_rule.specs.declared.rule.TheConstants.Rule.{NEIGHBOURHOODS}
use Rattle.lls_rule.specs.Rule.{answer}
use Rattle.lls_hensel.specs.Isotropy.{IsIsotropic}

-- the high rule gives 1 wherever the low one does
abbrev pub IsAtMost : List Bool → List Bool → Type 0
IsAtMost low high = (nine : ℕ) → nine < NEIGHBOURHOODS → answer low nine ≡ true → answer high nine ≡ true

-- both rules give the same where all nine cells are dead, and where all are live
abbrev pub AgreeWhereUniform : List Bool → List Bool → Type 0
AgreeWhereUniform low high = (answer low 0 ≡ answer high 0) × (answer low (NEIGHBOURHOODS - 1) ≡ answer high (NEIGHBOURHOODS - 1))

-- Two rules that leave a question open: both are isotropic, the high one gives 1 wherever the low one does, and they agree
-- at the neighbourhoods of nine dead and of nine live cells. So every rule between has the same backgrounds.
pub record AreEnds (low high : List Bool) : Type 0 where
  pub low_isotropic : IsIsotropic low
  pub high_isotropic : IsIsotropic high
  pub ordered : IsAtMost low high
  pub dead : answer low 0 ≡ answer high 0
  pub live : answer low 511 ≡ answer high 511

-- whether the low rule gives 1 at a neighbourhood and the high one 0
abbrev pub crosses : List Bool → List Bool → ℕ → Bool
crosses low high nine = answer low nine && not (answer high nine)

-- the least neighbourhood where it does
unfoldable pub first_crossing : List Bool → List Bool → Option ℕ
first_crossing low high = find (crosses low high) (range_with_len 0 NEIGHBOURHOODS)

-- the first of the neighbourhoods of nine dead and of nine live cells at which two rules differ
unfoldable pub first_loose_background : List Bool → List Bool → Option ℕ
first_loose_background low high = find (λ nine. not (beq (answer low nine) (answer high nine))) (0 ∷ (NEIGHBOURHOODS - 1) ∷ [])
