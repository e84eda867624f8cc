-- What is left of a clause, as a loop goes through it.
use Rattle.std.proofs.Common.{◌≡◌, ℕ, ◌+◌, ◌<◌, Bool, true, false, cond, List, [], ◌∷◌, ◌++◌, length, get_or, take, drop, Option, Some, None, refl, sym, ap, ◌∙◌}
use Rattle.std.specs.Prelude.{ℤ, filter}
use Rattle.std.specs.List.{list_all}
use Rattle.std.specs.Ordering.{int_eq}
use Rattle.std.proofs.lemmas.List.{drop_more, take-append-drop}
use Rattle.std.proofs.lemmas.List.Folds.{list_all-append}
use Rattle.std.proofs.lemmas.List.Elements.{filter-append}
use Rattle.lls_lrat.specs.declared.walk.Left.{Left}
use Rattle.lls_lrat.specs.declared.walk.Left.TheVariants.{Nothing, One, More}
use Rattle.lls_lrat.specs.Left.{left_in}

-- what is left, where no two literals differ
abbrev pub left_of : Option ℤ → Left
left_of None = Nothing
left_of (Some l) = One l

-- a literal that differs from the one before
differs : (ls : List ℤ) (m l : ℤ) (rest : List ℤ) → left_in ls ≡ One m → int_eq m l ≡ false → left_in (ls ++ l ∷ rest) ≡ More
differs [] m l rest e other = absurd cc
differs (x ∷ xs) m l rest e other =
    elim (list_all (int_eq x) xs) as (λ b. list_all (int_eq x) xs ≡ b → cond b (One x) More ≡ One m → cond (list_all (int_eq x) (xs ++ l ∷ rest)) (One x) More ≡ More) [
      | true ↦ λ all h.
          let same : x ≡ m = cc in
          let apart : int_eq x l ≡ false = rw same other in
          rw (list_all-append (int_eq x) xs (l ∷ rest), all, apart) refl
      | false ↦ λ _ h. absurd cc
    ] refl e

-- where an element passes that differs from those before, the list has more than one
pub left_in-differs : (keep : ℤ → Bool) (clause : List ℤ) (i : ℕ) (m d : ℤ) → i < length clause → left_in (filter keep (take i clause)) ≡ One m → keep (get_or clause i d) ≡ true → int_eq m (get_or clause i d) ≡ false → left_in (filter keep clause) ≡ More
left_in-differs keep clause i m d lt e passes other =
    let l = get_or clause i d in
    let split : clause ≡ take i clause ++ l ∷ drop (i + 1) clause = sym (take-append-drop i clause) ∙ ap (λ (t : List ℤ). take i clause ++ t) (drop_more clause i d lt) in
    let kept : filter keep clause ≡ filter keep (take i clause) ++ l ∷ filter keep (drop (i + 1) clause) =
    ap (filter keep) split ∙ filter-append keep (take i clause) (l ∷ drop (i + 1) clause)
    ∙ ap (λ b. filter keep (take i clause) ++ cond b (l ∷ filter keep (drop (i + 1) clause)) (filter keep (drop (i + 1) clause))) passes
    in rw kept (differs (filter keep (take i clause)) m l (filter keep (drop (i + 1) clause)) e other)
