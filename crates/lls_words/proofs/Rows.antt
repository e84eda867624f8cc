-- The rows that `clap` has found, where each new one has an id of its own.
use Rattle.std.proofs.Common.{◌≡◌, ℕ, Bool, true, false, not, cond, ◌&&◌, ◌||◌, List, [], ◌∷◌, ◌++◌, refl, sym, ap, ap₂, ◌∙◌, arith, Some}
use Rattle.std.specs.Prelude.{find}
use Rattle.std.specs.List.{list_all}
use Rattle.std.specs.Str.{bytes_eq}
use Rattle.std.proofs.lemmas.Bool.{and_parts}
use Rattle.std.proofs.lemmas.List.Folds.{list_any-append}
use Rattle.clap.specs.Walk.{Row, Text, at_row, has_row}

pub true_false : {P : Type 0} → true ≡ false → P
true_false e = let bad : ◌≡◌ {A = ℕ} 1 0 = ap (λ b. cond b 1 0) e in absurd (omega (arith, bad))

-- where no row has the id, the new one stands at the end
pub at_row-missing : (id : Text) (change : Row → List Row) (new rows : List Row) → has_row id rows ≡ false → at_row id change new rows ≡ rows ++ new
at_row-missing id change new [] none = refl
at_row-missing id change new (r ∷ rows) none =
    elim (bytes_eq r.id id) as (λ b. (b || has_row id rows) ≡ false → cond b (change r ++ rows) (r ∷ at_row id change new rows) ≡ r ∷ rows ++ new) [
      | true ↦ λ e. true_false e
      | false ↦ λ e. ap (λ more. r ∷ more) (at_row-missing id change new rows e)
    ] none

-- none of these ids has a row
abbrev pub are_fresh : List Text → List Row → Bool
are_fresh ids rows = list_all (λ id. not (has_row id rows)) ids

abbrev pub is_apart : Text → List Text → Bool
is_apart id others = list_all (λ other. not (bytes_eq id other)) others

-- no id stands twice
abbrev pub are_distinct : List Text → Bool
are_distinct [] = true
are_distinct (id ∷ ids) = is_apart id ids && are_distinct ids

not-false : (b : Bool) → not b ≡ true → b ≡ false
not-false true e = sym e
not-false false e = refl

pub fresh-head : (id : Text) (ids : List Text) (rows : List Row) → are_fresh (id ∷ ids) rows ≡ true → has_row id rows ≡ false
fresh-head id ids rows fresh = not-false _ (and_parts (not (has_row id rows)) (are_fresh ids rows) fresh).0

pub fresh-tail : (id : Text) (ids : List Text) (rows : List Row) → are_fresh (id ∷ ids) rows ≡ true → are_fresh ids rows ≡ true
fresh-tail id ids rows fresh = (and_parts (not (has_row id rows)) (are_fresh ids rows) fresh).1

still_fresh : (id : Text) (rows : List Row) (row : Row) → has_row id rows ≡ false → bytes_eq row.id id ≡ false → not (has_row id (rows ++ row ∷ [])) ≡ true
still_fresh id rows row none other =
    ap not (list_any-append (λ r. bytes_eq r.id id) rows (row ∷ []) ∙ ap₂ (λ a b. a || (b || false)) none other)

-- a row more leaves the ids fresh that are apart from its own
pub fresh-more : (ids : List Text) (rows : List Row) (row : Row) → is_apart row.id ids ≡ true → are_fresh ids rows ≡ true → are_fresh ids (rows ++ row ∷ []) ≡ true
fresh-more [] rows row apart fresh = refl
fresh-more (id ∷ ids) rows row apart fresh =
    let parts = and_parts (not (bytes_eq row.id id)) (is_apart row.id ids) apart in
    let first = still_fresh id rows row (fresh-head id ids rows fresh) (not-false _ parts.0) in
    ap₂ (λ a b. a && b) first (fresh-more ids rows row parts.1 (fresh-tail id ids rows fresh))

-- where no row has the id, the first row of it is one of those behind
pub find-missing : (id : Text) (rows behind : List Row) → has_row id rows ≡ false → find (λ r. bytes_eq r.id id) (rows ++ behind) ≡ find (λ r. bytes_eq r.id id) behind
find-missing id [] behind none = refl
find-missing id (r ∷ rows) behind none =
    elim (bytes_eq r.id id) as (λ b. (b || has_row id rows) ≡ false → cond b (Some r) (find (λ r. bytes_eq r.id id) (rows ++ behind)) ≡ find (λ r. bytes_eq r.id id) behind) [
      | true ↦ λ e. true_false e
      | false ↦ λ e. find-missing id rows behind e
    ] none
