use Rattle.std.proofs.Common.{ℕ, Option, sym, subst}
use Rattle.std.specs.Prelude.{IsSome}
use Rattle.lls_lemmas.proofs.index.lead_back.Goals as goal

pub returns-in_default : goal.returns-in_default
returns-in_default c =
    let P : Option ℕ → Type 0 = λ o. IsSome o in
    absurd (let none = subst P (sym c.in_default.ensures.value) c.requires.known in cc)
