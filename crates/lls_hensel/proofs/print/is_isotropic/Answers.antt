use Rattle.std.proofs.Common.{◌≡◌, ℕ, Bool, true, false, not, Option, Some, None, refl, ap, ◌∙◌, sym}
use Rattle.std.specs.Option.{is_some}
use Rattle.lls_hensel.proofs.Isotropy.{uneven-IsIsotropic}
use Rattle.lls_hensel.proofs.print.is_isotropic.Goals as goal

none_is : (found : Option ℕ) → is_some found ≡ false → found ≡ None
none_is None e = refl
none_is (Some n) e = cc

is_true : (b : Bool) → not b ≡ false → b ≡ true
is_true true e = refl
is_true false e = cc

pub returns : goal.returns
returns c =
    let law = uneven-IsIsotropic c.args.rule.now in
    let least = c.first_uneven.ensures.least in
    (λ none. law.0 (sym least ∙ none_is c.first_uneven.result (c.is_none.ensures ∙ ap not none)), λ even. is_true c.is_none.result (sym c.is_none.ensures ∙ ap is_some (least ∙ law.1 even)))
