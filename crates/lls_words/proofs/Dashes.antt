-- What stands behind the dashes of a word.
use Rattle.std.proofs.Common.{◌≡◌, ◌≢◌, ◌==◌, ℕ, true, false, cond, ◌&&◌, List, [], ◌∷◌, Some, None, refl, ap, ◌∙◌}
use Rattle.std.proofs.lemmas.Bool.{eqb-true}
use Rattle.lls_words.specs.Items.{option_text}

pub option_text-none : (word : List ℕ) → ((rest : List ℕ) → word ≢ 45 ∷ rest) → None ≡ option_text word
option_text-none [] other = refl
option_text-none (a ∷ []) other = refl
option_text-none (a ∷ b ∷ []) other = refl
option_text-none (a ∷ b ∷ c ∷ text) other =
    elim (a == 45) as (λ v. (a == 45) ≡ v → None ≡ cond (v && (b == 45)) (Some (c ∷ text)) None) [
      | true ↦ λ is. absurd (other (b ∷ c ∷ text) (ap (λ x. x ∷ b ∷ c ∷ text) (eqb-true a 45 is)))
      | false ↦ λ is. refl
    ] refl

pub option_text-one : (word rest : List ℕ) → word ≡ 45 ∷ rest → ((text : List ℕ) → rest ≢ 45 ∷ text) → option_text word ≡ None
option_text-one word [] first other = ap option_text first
option_text-one word (b ∷ []) first other = ap option_text first
option_text-one word (b ∷ c ∷ text) first other =
    ap option_text first ∙
    (elim (b == 45) as (λ v. (b == 45) ≡ v → cond v (Some (c ∷ text)) None ≡ None) [
      | true ↦ λ is. absurd (other (c ∷ text) (ap (λ x. x ∷ c ∷ text) (eqb-true b 45 is)))
      | false ↦ λ is. refl
    ] refl)
