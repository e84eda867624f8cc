-- The hints that a walk looked at are the shortest beginning of them that leads to a conflict.
use Rattle.std.proofs.Common.{◌≡◌, ℕ, suc, ◌+◌, ◌≤◌, Bool, true, false, cond, List, [], ◌∷◌, ◌++◌, map, take, length, Option, Some, None, refl, sym, ap, ◌∙◌, arith}
use Rattle.std.specs.Prelude.{ℤ, pos, negsuc, is_none, find}
use Rattle.std.specs.List.{list_all}
use Rattle.std.specs.Option.{option_map}
use Rattle.std.specs.Ordering.{int_eq}
use Rattle.lls_lit.specs.Literal.{negation}
use Rattle.lls_lit.specs.Formula.{Clause}
use Rattle.lls_prooflog.specs.declared.step_fault.StepFault.{StepFault}
use Rattle.lls_prooflog.specs.declared.step_fault.StepFault.TheVariants.{NotUnit}
use Rattle.lls_prooflog.specs.UnitWalk.{Live, find_clause, remaining, at_clause, at_hint, unit_walk}
use Rattle.lls_lrat.specs.Left.{left_in}
use Rattle.lls_lrat.specs.declared.walk.Left.TheVariants.{One, More}
use Rattle.lls_lrat.specs.Walked.{Walk, Closes, Stays, at_left, at_found, walk_from}
use Rattle.lls_lrat.specs.Looked.{beginnings, looked_at}

pub find-map : {X Y : Type 0} (p : Y → Bool) (f : X → Y) (xs : List X) → find p (map f xs) ≡ option_map f (find (λ x. p (f x)) xs)
find-map p f [] = refl
find-map p f (x ∷ xs) =
    elim (p (f x)) as (λ b. cond b (Some (f x)) (find p (map f xs)) ≡ option_map f (cond b (Some x) (find (λ y. p (f y)) xs))) [
      | true ↦ refl
      | false ↦ find-map p f xs
    ]

pub find-none : {X : Type 0} (xs : List X) → find (λ (x : X). false) xs ≡ None
find-none [] = refl
find-none (x ∷ xs) = find-none xs

pub first_beginning : {X : Type 0} (xs : List X) → find (λ (front : List X). true) (beginnings xs) ≡ Some []
first_beginning [] = refl
first_beginning (x ∷ xs) = refl

abbrev pub closes_along : (List ℤ → Option StepFault) → List ℤ → Option (List ℤ)
closes_along walk hints = find (λ front. is_none (walk front)) (beginnings hints)

-- the walk closed behind so many more hints, along which it leads to a conflict for the first time
pub record LooksAlong (found : Option (List ℤ)) (hints : List ℤ) (place end : ℕ) : Type 0 where
  pub count : ℕ
  pub is_end : end ≡ place + count
  pub within : count ≤ length hints
  pub looked : found ≡ Some (take count hints)

abbrev Looks : (List ℤ → Option StepFault) → List ℤ → ℕ → ℕ → Type 0
Looks walk hints place end = LooksAlong (closes_along walk hints) hints place end

-- the same with a hint before them
abbrev LooksBehind : ℤ → (List ℤ → Option StepFault) → List ℤ → ℕ → ℕ → Type 0
LooksBehind hint walk hints place end = LooksAlong (option_map (λ front. hint ∷ front) (closes_along walk hints)) (hint ∷ hints) place end

looks_on : (walk : List ℤ → Option StepFault) (hint : ℤ) (hints : List ℤ) (place end : ℕ) → Looks walk hints (place + 1) end → LooksBehind hint walk hints place end
looks_on walk hint hints place end l = record { count = suc l.count; is_end = omega (arith, l.is_end); within = omega (arith, l.within); looked = ap (option_map (λ front. hint ∷ front)) l.looked }

module _ (hint : ℤ) (hints : List ℤ) (place end : ℕ) (one : ℤ → List ℤ → Option StepFault) (other : ℤ → Walk) (each : (l : ℤ) → other l ≡ Closes end → Looks (one l) hints (place + 1) end) where
  looks_left : (lits : List ℤ) → at_left hint place (left_in lits) other ≡ Closes end → LooksBehind hint (λ front. at_clause hint lits (λ l. one l front)) hints place end
  looks_left [] e = let is : end ≡ place + 1 = cc in record { count = 1; is_end = is; within = omega arith; looked = ap (option_map (λ front. hint ∷ front)) (first_beginning hints) }
  looks_left (l ∷ ls) e =
      elim (list_all (int_eq l) ls) as (λ b. at_left hint place (cond b (One l) More) other ≡ Closes end → LooksBehind hint (λ front. cond b (one l front) (Some (NotUnit hint))) hints place end) [
        | true ↦ λ h. looks_on (one l) hint hints place end (each l h)
        | false ↦ λ h. absurd cc
      ] e

  looks_found : (assumed : List ℤ) (found : Option Clause) → at_found hint place assumed found other ≡ Closes end → LooksBehind hint (λ front. at_hint hint assumed found (λ l. one l front)) hints place end
  looks_found assumed None e = absurd cc
  looks_found assumed (Some clause) e = looks_left (remaining assumed clause) e

pub looks_at : (live : Live) (assumed : List ℤ) (place : ℕ) (hints : List ℤ) (end : ℕ) → walk_from live assumed place hints ≡ Closes end → Looks (unit_walk live assumed) hints place end
looks_at live assumed place [] end e = absurd cc
looks_at live assumed place (negsuc n ∷ hints) end e = absurd cc
looks_at live assumed place (pos id ∷ hints) end e =
    let found = looks_found (pos id) hints place end (λ l front. unit_walk live (assumed ++ negation l ∷ []) front) (λ l. walk_from live (assumed ++ negation l ∷ []) (place + 1) hints)
    (λ l h. looks_at live (assumed ++ negation l ∷ []) (place + 1) hints end h) assumed (find_clause live id) e
    in record { count = found.count; is_end = found.is_end; within = found.within; looked = find-map (λ front. is_none (unit_walk live assumed front)) (λ (front : List ℤ). pos id ∷ front) (beginnings hints) ∙ found.looked }

-- a walk that closes looks at just the hints up to there
pub looked_at-closes : (live : Live) (lits : Clause) (hints : List ℤ) (end : ℕ) → walk_from live lits 0 hints ≡ Closes end → option_map (λ n. take n hints) (Some end) ≡ looked_at live lits hints
looked_at-closes live lits hints end e =
    let looks = looks_at live lits 0 hints end e in
    let same : end ≡ looks.count = omega (arith, looks.is_end) in
    ap (λ (n : ℕ). Some (take n hints)) same ∙ sym looks.looked

pub closes-within : (live : Live) (lits : Clause) (hints : List ℤ) (end : ℕ) → walk_from live lits 0 hints ≡ Closes end → end ≤ length hints
closes-within live lits hints end e = let looks = looks_at live lits 0 hints end e in omega (arith, looks.is_end, looks.within)

module _ (hint : ℤ) (hints : List ℤ) (place end : ℕ) (lasts : List ℤ) (one : ℤ → List ℤ → Option StepFault) (other : ℤ → Walk) (each : (l : ℤ) → other l ≡ Stays end lasts → closes_along (one l) hints ≡ None) where
  stays_left : (lits : List ℤ) → at_left hint place (left_in lits) other ≡ Stays end lasts → closes_along (λ front. at_clause hint lits (λ l. one l front)) hints ≡ None
  stays_left [] e = absurd cc
  stays_left (l ∷ ls) e =
      elim (list_all (int_eq l) ls) as (λ b. at_left hint place (cond b (One l) More) other ≡ Stays end lasts → closes_along (λ front. cond b (one l front) (Some (NotUnit hint))) hints ≡ None) [
        | true ↦ λ h. each l h
        | false ↦ λ h. absurd cc
      ] e

  stays_found : (assumed : List ℤ) (found : Option Clause) → at_found hint place assumed found other ≡ Stays end lasts → closes_along (λ front. at_hint hint assumed found (λ l. one l front)) hints ≡ None
  stays_found assumed None e = absurd cc
  stays_found assumed (Some clause) e = stays_left (remaining assumed clause) e

-- a walk that ends without a conflict leads to none along any beginning of the hints
pub looked_at-stays : (live : Live) (assumed : List ℤ) (place : ℕ) (hints : List ℤ) (end : ℕ) (lasts : List ℤ) → walk_from live assumed place hints ≡ Stays end lasts → looked_at live assumed hints ≡ None
looked_at-stays live assumed place [] end lasts e = refl
looked_at-stays live assumed place (negsuc n ∷ hints) end lasts e =
    find-map (λ front. is_none (unit_walk live assumed front)) (λ (front : List ℤ). negsuc n ∷ front) (beginnings hints) ∙ ap (option_map (λ (front : List ℤ). negsuc n ∷ front)) (find-none (beginnings hints))
looked_at-stays live assumed place (pos id ∷ hints) end lasts e =
    let none = stays_found (pos id) hints place end lasts (λ l front. unit_walk live (assumed ++ negation l ∷ []) front) (λ l. walk_from live (assumed ++ negation l ∷ []) (place + 1) hints)
    (λ l h. looked_at-stays live (assumed ++ negation l ∷ []) (place + 1) hints end lasts h) assumed (find_clause live id) e
    in find-map (λ front. is_none (unit_walk live assumed front)) (λ (front : List ℤ). pos id ∷ front) (beginnings hints) ∙ ap (option_map (λ (front : List ℤ). pos id ∷ front)) none
