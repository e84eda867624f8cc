-- The clause that forced a variable, where the trail is sound: the entry, those before it, and what holds of them.
use Rattle.std.proofs.Common.{◌≡◌, ℕ, Bool, true, false, cond, List, [], ◌∷◌, ◌++◌, Option, Some, None, refl, sym, ap, ◌∙◌}
use Rattle.std.specs.Prelude.{option_and_then, ◌==◌}
use Rattle.std.proofs.lemmas.Bool.Decides.{Decides-eqb}
use Rattle.lls_lit.specs.Literal.{variable_of}
use Rattle.lls_store.specs.Trail.{Entry, TrailState, entry_of, reason_of}
use Rattle.lls_store.specs.Clauses.{LiveClause}
use Rattle.lls_store.specs.Sound.{IsForced, IsSound}

-- where the entry of a variable stands
pub record StandsAt (es : List Entry) (v : ℕ) (e : Entry) : Type 0 where
  pub before : List Entry
  pub after : List Entry
  pub splits : es ≡ before ++ e ∷ after
  pub of_variable : variable_of e.lit ≡ v

pub entry_stands : (es : List Entry) (v : ℕ) (e : Entry) → entry_of es v ≡ Some e → StandsAt es v e
entry_stands [] v e is = absurd cc
entry_stands (x ∷ xs) v e is = by_first (variable_of x.lit == v) refl is (entry_stands xs v e) where
  by_first : (test : Bool) → (variable_of x.lit == v) ≡ test → cond test (Some x) (entry_of xs v) ≡ Some e → (entry_of xs v ≡ Some e → StandsAt xs v e) → StandsAt (x ∷ xs) v e
  by_first true same found rest =
      let equal : x ≡ e = cc in
      record { before = []; after = xs; splits = ap (λ (y : Entry). y ∷ xs) equal; of_variable = ap (λ (y : Entry). variable_of y.lit) (sym equal) ∙ (Decides-eqb (variable_of x.lit) v).0 same }
  by_first false other found rest =
      let at = rest found in
      record { before = x ∷ at.before; after = at.after; splits = ap (λ (ys : List Entry). x ∷ ys) at.splits; of_variable = at.of_variable }

-- the entry of a variable that a clause forced
pub record IsReason (live : List LiveClause) (es : List Entry) (v reason : ℕ) : Type 0 where
  pub entry : Entry
  pub stands : StandsAt es v entry
  pub has_reason : entry.reason ≡ Some reason
  pub forced : IsForced live stands.before entry.lit reason

pub reason_found : (live : List LiveClause) (t : TrailState) (v reason : ℕ) → IsSound live t → reason_of t.entries v ≡ Some reason → IsReason live t.entries v reason
reason_found live t v reason sound is = at (entry_of t.entries v) refl is where
  at : (o : Option Entry) → entry_of t.entries v ≡ o → option_and_then (λ (e : Entry). e.reason) o ≡ Some reason → IsReason live t.entries v reason
  at None found has = absurd cc
  at (Some e) found has =
      let stands = entry_stands t.entries v e found in
      record { entry = e; stands = stands; has_reason = has; forced = sound stands.before stands.after e reason stands.splits has }
