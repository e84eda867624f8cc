-- What the gathered literals are: those that are held, the open one first, then one of the highest of the other levels.
use Rattle.std.proofs.Common.{◌≡◌, ◌≢◌, ℕ, zero, suc, ◌+◌, ◌≤◌, Bool, true, false, not, ◌&&◌, cond, List, [], ◌∷◌, length, Option, Some, None, refl, sym, ap, ◌∙◌, inl, inr, arith}
use Rattle.std.specs.Prelude.{ℤ, ◌⊎◌, Contains, count_by, filter, fold, nat_lt, IfNone, All, IsSome}
use Rattle.std.specs.Ordering.{int_eq}
use Rattle.std.proofs.lemmas.List.Elements.{All-contains}
use Rattle.std.proofs.lemmas.List.Sums.{sum_by-cons, count_by-le-length}
use Rattle.std.proofs.lemmas.Bool.{ltb-true, ltb-false}
use Rattle.std.proofs.lemmas.Bool.Decides.{Decides-int_eq}
use Rattle.lls_store.specs.Trail.{Entry}
use Rattle.lls_analyse.specs.declared.visited.Seen.{Seen}
use Rattle.lls_analyse.specs.declared.visited.Seen.TheVariants.{No, Open, Kept, Followed}
use Rattle.lls_analyse.specs.Visited.{VisitedState, AreVisited, is_open, is_kept, status}
use Rattle.lls_analyse.specs.Gathered.{place_or_zero, is_behind, later_of, latest_of, is_other}
use Rattle.lls_analyse.proofs.Visits.{unlike}
use Rattle.lls_analyse.proofs.Opens.{some_open}

abbrev one_if : Bool → ℕ
one_if b = cond b 1 0

pub kept_is : (x : Seen) → is_kept x ≡ true → x ≡ Kept
kept_is No is = absurd cc
kept_is Open is = absurd cc
kept_is Kept is = refl
kept_is Followed is = absurd cc

pub later : {X : Type 0} → (x : X) (xs : List X) (y : X) → Contains xs y → Contains (x ∷ xs) y
later x xs y (k, lt, at) = (suc k, omega (arith, lt), at)

pub first_or_later : {X : Type 0} → (x : X) (xs : List X) (y : X) → Contains (x ∷ xs) y → (x ≡ y) ⊎ Contains xs y
first_or_later x xs y (zero, lt, at) = inl at
first_or_later x xs y (suc k, lt, at) = inr (k, omega (arith, lt), at)

pub nothing_there : {X : Type 0} → (y : X) → Contains [] y → ⊥
nothing_there y (k, lt, at) = omega (arith, lt)

-- the elements of a filtered list
pub of_filter : (p : ℤ → Bool) (xs : List ℤ) (m : ℤ) → Contains (filter p xs) m → Contains xs m × (p m ≡ true)
of_filter p [] m inside = absurd (nothing_there m inside)
of_filter p (x ∷ xs) m inside = by_test (p x) refl inside (of_filter p xs m) where
  by_test : (b : Bool) → p x ≡ b → Contains (cond b (x ∷ filter p xs) (filter p xs)) m → (Contains (filter p xs) m → Contains xs m × (p m ≡ true)) → Contains (x ∷ xs) m × (p m ≡ true)
  by_test true is inside' rest = elim (first_or_later x (filter p xs) m inside') [
    | inl t ↦ ((0, omega arith, t), ap p (sym t) ∙ is)
    | inr t ↦ (let r = rest t in (later x xs m r.0, r.1))
  ]
  by_test false is inside' rest = let r = rest inside' in (later x xs m r.0, r.1)

pub in_filter : (p : ℤ → Bool) (xs : List ℤ) (m : ℤ) → Contains xs m → p m ≡ true → Contains (filter p xs) m
in_filter p [] m inside is = absurd (nothing_there m inside)
in_filter p (x ∷ xs) m inside is = by_test (p x) refl (first_or_later x xs m inside) (λ t. in_filter p xs m t is) where
  by_test : (b : Bool) → p x ≡ b → (x ≡ m) ⊎ Contains xs m → (Contains xs m → Contains (filter p xs) m) → Contains (cond b (x ∷ filter p xs) (filter p xs)) m
  by_test true at (inl t) rest = (0, omega arith, t)
  by_test true at (inr t) rest = later x (filter p xs) m (rest t)
  by_test false at (inl t) rest = absurd (unlike is (ap p (sym t) ∙ at))
  by_test false at (inr t) rest = rest t

-- fewer pass than there are, where one doesn't, or two don't
one_fails : (p : ℤ → Bool) (xs : List ℤ) (a : ℤ) → Contains xs a → p a ≡ false → count_by p xs + 1 ≤ length xs
one_fails p [] a inside fails = absurd (nothing_there a inside)
one_fails p (x ∷ xs) a inside fails = by (first_or_later x xs a inside) (λ t. one_fails p xs a t fails) where
  at_most : (b : Bool) → cond b 1 0 ≤ 1
  at_most true = omega arith
  at_most false = omega arith

  by : (x ≡ a) ⊎ Contains xs a → (Contains xs a → count_by p xs + 1 ≤ length xs) → count_by p (x ∷ xs) + 1 ≤ length (x ∷ xs)
  by (inl t) rest = omega (arith, sum_by-cons (λ y. cond (p y) 1 0) x xs, ap one_if (ap p t ∙ fails), count_by-le-length p xs)
  by (inr t) rest = omega (arith, sum_by-cons (λ y. cond (p y) 1 0) x xs, at_most (p x), rest t)

pub two_fail : (p : ℤ → Bool) (xs : List ℤ) (a b : ℤ) → a ≢ b → Contains xs a → Contains xs b → p a ≡ false → p b ≡ false → count_by p xs + 2 ≤ length xs
two_fail p [] a b apart inside inside' fails fails' = absurd (nothing_there a inside)
two_fail p (x ∷ xs) a b apart inside inside' fails fails' = by (first_or_later x xs a inside) (first_or_later x xs b inside') (λ t t'. two_fail p xs a b apart t t' fails fails') where
  at_most : (c : Bool) → cond c 1 0 ≤ 1
  at_most true = omega arith
  at_most false = omega arith

  by : (x ≡ a) ⊎ Contains xs a → (x ≡ b) ⊎ Contains xs b → (Contains xs a → Contains xs b → count_by p xs + 2 ≤ length xs) → count_by p (x ∷ xs) + 2 ≤ length (x ∷ xs)
  by (inl t) (inl t') rest = absurd (apart (sym t ∙ t'))
  by (inl t) (inr t') rest = omega (arith, sum_by-cons (λ y. cond (p y) 1 0) x xs, ap one_if (ap p t ∙ fails), one_fails p xs b t' fails')
  by (inr t) (inl t') rest = omega (arith, sum_by-cons (λ y. cond (p y) 1 0) x xs, ap one_if (ap p t' ∙ fails'), one_fails p xs a t fails)
  by (inr t) (inr t') rest = omega (arith, sum_by-cons (λ y. cond (p y) 1 0) x xs, at_most (p x), rest t t')

-- of those that are kept the one that became false last
pub none_kept : (entries : List Entry) (seen : List Seen) (ls : List ℤ) (best : Option ℤ) → fold (later_of entries seen) best ls ≡ None → (best ≡ None) × ((m : ℤ) → Contains ls m → is_kept (status seen m) ≡ false)
none_kept entries seen [] best is = (is, λ m inside. absurd (nothing_there m inside))
none_kept entries seen (x ∷ xs) best is = by_test (is_kept (status seen x)) refl best is (none_kept entries seen xs) where
  by_test : (k : Bool) → is_kept (status seen x) ≡ k → (best : Option ℤ) → fold (later_of entries seen) (cond (k && is_behind entries best x) (Some x) best) xs ≡ None
      → ((best : Option ℤ) → fold (later_of entries seen) best xs ≡ None → (best ≡ None) × ((m : ℤ) → Contains xs m → is_kept (status seen m) ≡ false)) → (best ≡ None) × ((m : ℤ) → Contains (x ∷ xs) m → is_kept (status seen m) ≡ false)
  by_test true at None is' rest = absurd (let t = (rest (Some x) is').0 in cc)
  by_test true at (Some b) is' rest = absurd (none (nat_lt (place_or_zero entries b) (place_or_zero entries x)) (rest (cond (nat_lt (place_or_zero entries b) (place_or_zero entries x)) (Some x) (Some b)) is').0) where
    none : (c : Bool) → cond c (Some x) (Some b) ≡ None → ⊥
    none true e = cc
    none false e = cc
  by_test false at best' is' rest =
      let r = rest best' is' in
      (r.0, λ m inside. elim (first_or_later x xs m inside) [ inl t ↦ ap (λ y. is_kept (status seen y)) (sym t) ∙ at | inr t ↦ r.1 m t ])

pub record IsLatest (entries : List Entry) (seen : List Seen) (ls : List ℤ) (best : Option ℤ) (h : ℤ) : Type 0 where
  pub from : (best ≡ Some h) ⊎ (Contains ls h × (is_kept (status seen h) ≡ true))
  pub above_best : (b : ℤ) → best ≡ Some b → place_or_zero entries b ≤ place_or_zero entries h
  pub above : (m : ℤ) → Contains ls m → is_kept (status seen m) ≡ true → place_or_zero entries m ≤ place_or_zero entries h

some_same : {X : Type 0} → {x y : X} → Some x ≡ Some y → x ≡ y
some_same is = cc

pub one_latest : (entries : List Entry) (seen : List Seen) (ls : List ℤ) (best : Option ℤ) (h : ℤ) → fold (later_of entries seen) best ls ≡ Some h → IsLatest entries seen ls best h
one_latest entries seen [] best h is = record {
  from = inl is;
  above_best = λ b same. omega (arith, ap (place_or_zero entries) (some_same (sym same ∙ is)));
  above = λ m inside _. absurd (nothing_there m inside);
}
one_latest entries seen (x ∷ xs) best h is = by_kept (is_kept (status seen x)) refl best is (one_latest entries seen xs) where
  -- the head is taken
  taken : (best : Option ℤ) → is_kept (status seen x) ≡ true → ((b : ℤ) → best ≡ Some b → place_or_zero entries b ≤ place_or_zero entries x) → IsLatest entries seen xs (Some x) h → IsLatest entries seen (x ∷ xs) best h
  taken best' at beats r = record {
    from = elim r.from [
      | inl t ↦ (let same : x ≡ h = some_same t in inr ((0, omega arith, same), ap (λ y. is_kept (status seen y)) (sym same) ∙ at))
      | inr t ↦ inr (later x xs h t.0, t.1)
    ];
    above_best = λ b same. omega (arith, beats b same, r.above_best x refl);
    above = λ m inside kept. elim (first_or_later x xs m inside) [ inl t ↦ omega (arith, ap (place_or_zero entries) t, r.above_best x refl) | inr t ↦ r.above m t kept ];
  }

  -- or not
  left : (best : Option ℤ) → (is_kept (status seen x) ≡ true → (b : ℤ) × ((best ≡ Some b) × (place_or_zero entries x ≤ place_or_zero entries b))) → IsLatest entries seen xs best h → IsLatest entries seen (x ∷ xs) best h
  left best' beaten r = record {
    from = elim r.from [ inl t ↦ inl t | inr t ↦ inr (later x xs h t.0, t.1) ];
    above_best = r.above_best;
    above = λ m inside kept. elim (first_or_later x xs m inside) [
      | inl t ↦ (let (b, by) = beaten (ap (λ y. is_kept (status seen y)) t ∙ kept) in omega (arith, ap (place_or_zero entries) t, by.1, r.above_best b by.0))
      | inr t ↦ r.above m t kept
    ];
  }

  by_place : (b : ℤ) (c : Bool) → nat_lt (place_or_zero entries b) (place_or_zero entries x) ≡ c → is_kept (status seen x) ≡ true → fold (later_of entries seen) (cond c (Some x) (Some b)) xs ≡ Some h
      → ((best : Option ℤ) (h : ℤ) → fold (later_of entries seen) best xs ≡ Some h → IsLatest entries seen xs best h) → IsLatest entries seen (x ∷ xs) (Some b) h
  by_place b true lt at is' rest = taken (Some b) at (λ b' same. omega (arith, ap (place_or_zero entries) (some_same same), ltb-true (place_or_zero entries b) (place_or_zero entries x) lt)) (rest (Some x) h is')
  by_place b false ge at is' rest = left (Some b) (λ _. (b, (refl, ltb-false (place_or_zero entries b) (place_or_zero entries x) ge))) (rest (Some b) h is')

  by_kept : (k : Bool) → is_kept (status seen x) ≡ k → (best : Option ℤ) → fold (later_of entries seen) (cond (k && is_behind entries best x) (Some x) best) xs ≡ Some h
      → ((best : Option ℤ) (h : ℤ) → fold (later_of entries seen) best xs ≡ Some h → IsLatest entries seen xs best h) → IsLatest entries seen (x ∷ xs) best h
  by_kept true at None is' rest = taken None at (λ b same. absurd cc) (rest (Some x) h is')
  by_kept true at (Some b) is' rest = by_place b (nat_lt (place_or_zero entries b) (place_or_zero entries x)) refl at is' rest
  by_kept false at best' is' rest = left best' (λ kept. absurd (unlike kept at)) (rest best' h is')

-- there is an open literal
pub asserting_found : (s : VisitedState) (o : Option ℤ) → AreVisited s → 1 ≤ count_by is_open s.seen → IfNone o (All (λ l. is_open (status s.seen l) ≡ false) s.lits) → IsSome o
asserting_found s (Some l) h some none = refl
asserting_found s None h some none =
    let (l, at) = some_open s h some in
    absurd (unlike (ap is_open at.is_open) (All-contains (λ m. is_open (status s.seen m) ≡ false) s.lits l none at.contains))

-- the others are fewer by two than all
pub others_few : (entries : List Entry) (s : VisitedState) (first second : ℤ) → Contains s.lits first → is_open (status s.seen first) ≡ true → latest_of entries s ≡ Some second → count_by (is_other s.seen second) s.lits + 2 ≤ length s.lits
others_few entries s first second inside opened is =
    let top = one_latest entries s.seen s.lits None second is in
    let at : Contains s.lits second × (is_kept (status s.seen second) ≡ true) = elim top.from [ inl t ↦ absurd cc | inr t ↦ t ] in
    two_fail (is_other s.seen second) s.lits first second (λ same. shut (status s.seen second) at.1 (ap (λ m. is_open (status s.seen m)) (sym same) ∙ opened)) inside at.0
    (open_not_kept (status s.seen first) opened (not (int_eq first second)))
    (itself (is_kept (status s.seen second)) (int_eq second second) ((Decides-int_eq second second).1 refl)) where
      shut : (x : Seen) → is_kept x ≡ true → is_open x ≡ true → ⊥
      shut No a b = cc
      shut Open a b = cc
      shut Kept a b = cc
      shut Followed a b = cc

      open_not_kept : (x : Seen) → is_open x ≡ true → (b : Bool) → (is_kept x && b) ≡ false
      open_not_kept No a b = absurd cc
      open_not_kept Open a b = refl
      open_not_kept Kept a b = absurd cc
      open_not_kept Followed a b = absurd cc

      itself : (a b : Bool) → b ≡ true → (a && not b) ≡ false
      itself true true e = refl
      itself false true e = refl
      itself a false e = absurd cc
