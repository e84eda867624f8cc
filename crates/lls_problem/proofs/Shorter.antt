-- A history's period is exact where generation 0 is there again after none of the shorter ones.
use Rattle.std.proofs.Common.{FitsSigned, w32, to_z, of_z, to_z-of_z, lit<, ◌≡◌, ◌≢◌, ◌<◌, ◌≤◌, ℕ, zero, suc, ◌+◌, ◌-◌, ◌*◌, ◌/◌, ◌%◌, ◌==◌, ℤ, pos, negsuc, ◌+ℤ◌, neg_ℤ, unsigned_abs, int_div, Bool, true, false, not, ◌&&◌, cond, List, [], ◌∷◌, ◌++◌, map, Option, None, Some, refl, sym, ap, ◌∙◌, subst, arith, nat_le}
use Rattle.std.specs.List.{AllByRecursion as Each, list_all, cons_option, flat_map, filter_map, range_with_len}
use Rattle.std.specs.Option.{option_map_or}
use Rattle.std.proofs.lemmas.Int.{ints, fits_signed_from_abs, quot_fits, to_z_pos}
use Rattle.std.proofs.lemmas.Bool.{and_parts, and_from, false_from_ne_true, leb-true, leb-false, le-leb, ne_eqb, not_from_false}
use Rattle.std.proofs.lemmas.Bool.Decides.{Decides-eqb}
use Rattle.std.proofs.Math.Nat.{div-le_self, div-lt_self, lt-mul-div-succ, mod-eq_of_lt}
use Rattle.lls_rule.specs.Rule.{background}
use Rattle.lls_grid.specs.History.{History, at}
use Rattle.lls_grid.specs.Place.{IsWithin}
use Rattle.lls_symmetry.specs.declared.moved.TheConstants.{MOST_SHIFT}
use Rattle.lls_symmetry.specs.Moved.{generation_moved, IsMoved, IsMovedPair}
use Rattle.lls_symmetry.proofs.Shifted.{IsMoved-by_generations, back_by_moved, pairs_moved}
use Rattle.lls_problem.specs.declared.demands.Period.{Period}
use Rattle.lls_problem.specs.declared.losses.Loss.TheVariants.{OfBackground, OfPlace}
use Rattle.lls_problem.specs.Problem.{PosedProblem, AreFitting, IsPeriod, part_of}
use Rattle.lls_problem.specs.Solution.{IsPrime, Divides, IsThere, IsExact}
use Rattle.lls_problem.specs.Judgement.{HasItsSizes}
use Rattle.lls_problem.specs.Losses.{course_of, lost_places, background_losses, losses_at}
use Rattle.lls_problem.specs.Exact.{is_prime, is_multiple, part_by, is_nothing, parts_of, excluded, returning, shorter_lengths}
use Rattle.lls_problem.proofs.FirstOf.{both_empty, empty_where, false_where_empty}
use Rattle.lls_problem.proofs.Outside.{at_outside}
use Rattle.lls_problem.proofs.Symmetric.{same_by_differ, differ-same}
use Rattle.lls_problem.proofs.Returned.{pairs_by_lost, lost_by_pairs, empty_mapped}

-- of the generations up to the later one, the first alone has one so much later
first_alone : (n t : ℕ) → t + n < n + 1 → 0 ≡ t
first_alone n t later = omega arith

behind_first : (n : ℕ) → 0 + n ≡ n
behind_first n = omega arith

-- what is there again has moved, as a period of these generations says it
pub moved_by_there : (length : ℕ) (dx dy : ℤ) (value : ℕ → ℤ → ℤ → Bool) → ((y x : ℤ) → value length (y +ℤ dy) (x +ℤ dx) ≡ value 0 y x)
    → IsMoved (length + 1) length dx dy value
moved_by_there length dx dy value there = λ t y x later.
    subst (λ t. value (t + length) (y +ℤ dy) (x +ℤ dx) ≡ value t y x) (first_alone length t later) (ap (λ n. value n (y +ℤ dy) (x +ℤ dx)) (behind_first length) ∙ there y x)

pub there_by_moved : (length : ℕ) (dx dy : ℤ) (value : ℕ → ℤ → ℤ → Bool) → IsMoved (length + 1) length dx dy value
    → (y x : ℤ) → value length (y +ℤ dy) (x +ℤ dx) ≡ value 0 y x
there_by_moved length dx dy value moved y x = ap (λ n. value n (y +ℤ dy) (x +ℤ dx)) (sym (behind_first length)) ∙ moved 0 y x (omega arith)

-- it is there again where the backgrounds are the same and so are the places of each pair
pub there_by_pairs : (p : PosedProblem) (h : History) (value : ℕ → ℤ → ℤ → Bool) (part : Period) → part.length < p.posed.generations
    → ((t : ℕ) (y x : ℤ) → t < p.posed.generations → value t y x ≡ at p.rule h t y x) → HasItsSizes p h
    → background p.rule 0 ≡ background p.rule part.length → Each (IsMovedPair value) (generation_moved p.posed.height p.posed.width (course_of part 0))
    → IsThere p h part
there_by_pairs p h value part shorter is sizes back pairs =
    let moved : IsMoved (part.length + 1) part.length part.dx part.dy value =
    IsMoved-by_generations (part.length + 1) p.posed.height p.posed.width part.length part.dx part.dy value (background p.rule)
    (λ t t_in place off. is t place.y place.x (omega (arith, shorter, t_in)) ∙ at_outside p h sizes t (omega (arith, shorter, t_in)) place off)
    (λ t later. subst (λ t. background p.rule t ≡ background p.rule (t + part.length)) (first_alone part.length t later) (back ∙ ap (background p.rule) (sym (behind_first part.length))))
    (λ t later. subst (λ t. Each (IsMovedPair value) (generation_moved p.posed.height p.posed.width (course_of part t))) (first_alone part.length t later) pairs) in
    λ y x. sym (is part.length (y +ℤ part.dy) (x +ℤ part.dx) shorter) ∙ there_by_moved part.length part.dx part.dy value moved y x ∙ is 0 y x (omega (arith, shorter))

pub back_by_there : (p : PosedProblem) (h : History) (part : Period) → IsPeriod part → part.length < p.posed.generations → HasItsSizes p h → IsThere p h part
    → background p.rule 0 ≡ background p.rule part.length
back_by_there p h part period shorter sizes there =
    back_by_moved (part.length + 1) p.posed.height p.posed.width part.length part.dx part.dy (at p.rule h) (background p.rule) period.rows
    (λ t t_in place off. at_outside p h sizes t (omega (arith, shorter, t_in)) place off)
    (moved_by_there part.length part.dx part.dy (at p.rule h) there) 0 (omega arith)
    ∙ ap (background p.rule) (behind_first part.length)

pub pairs_by_there : (p : PosedProblem) (value : ℕ → ℤ → ℤ → Bool) (part : Period) → ((y x : ℤ) → value part.length (y +ℤ part.dy) (x +ℤ part.dx) ≡ value 0 y x)
    → Each (IsMovedPair value) (generation_moved p.posed.height p.posed.width (course_of part 0))
pairs_by_there p value part there =
    pairs_moved (part.length + 1) p.posed.height p.posed.width part.length 0 part.dx part.dy value (moved_by_there part.length part.dx part.dy value there) (omega arith)

-- so where nothing of it is lost
there_by_losses : (p : PosedProblem) (h : History) (part : Period) → HasItsSizes p h → part.length < p.posed.generations → losses_at p h part 0 ≡ [] → IsThere p h part
there_by_losses p h part sizes shorter none =
    let both = both_empty (background_losses p part 0) (map OfPlace (lost_places p h part 0)) none in
    there_by_pairs p h (at p.rule h) part shorter (λ t y x t_in. refl) sizes
    (same_by_differ _ _ (false_where_empty _ (OfBackground 0) both.0) ∙ ap (background p.rule) (behind_first part.length))
    (pairs_by_lost p.rule h (generation_moved p.posed.height p.posed.width (course_of part 0)) (empty_mapped OfPlace (lost_places p h part 0) both.1))

losses_by_there : (p : PosedProblem) (h : History) (part : Period) → HasItsSizes p h → IsPeriod part → part.length < p.posed.generations → IsThere p h part → losses_at p h part 0 ≡ []
losses_by_there p h part sizes period shorter there =
    ap (λ spots. background_losses p part 0 ++ map OfPlace spots) (lost_by_pairs p.rule h (generation_moved p.posed.height p.posed.width (course_of part 0)) (pairs_by_there p (at p.rule h) part there))
    ∙ ap (λ list. list ++ []) (empty_where _ (OfBackground 0) (differ-same _ _ (back_by_there p h part period shorter sizes there ∙ ap (background p.rule) (sym (behind_first part.length)))))

-- primes by the test
all_in_range : (f : ℕ → Bool) (a n : ℕ) → ((k : ℕ) → a ≤ k → k < a + n → f k ≡ true) → list_all f (range_with_len a n) ≡ true
all_in_range f a zero each = refl
all_in_range f a (suc n) each = and_from _ _ (each a (omega arith) (omega arith)) (all_in_range f (a + 1) n (λ k low high. each k (omega arith) (omega arith)))

each_in_range : (f : ℕ → Bool) (a n k : ℕ) → list_all f (range_with_len a n) ≡ true → a ≤ k → k < a + n → f k ≡ true
each_in_range f a zero k all low high = absurd (omega arith)
each_in_range f a (suc n) k all low high =
    let both = and_parts (f a) (list_all f (range_with_len (a + 1) n)) all in
    elim (nat_le k a) as (λ b. nat_le k a ≡ b → f k ≡ true) [
      | true ↦ λ test. let same : a ≡ k = omega (arith, low, leb-true k a test) in subst (λ k. f k ≡ true) same both.0
      | false ↦ λ test. each_in_range f (a + 1) n k both.1 (omega (arith, low, leb-false k a test)) (omega (arith, high))
    ] refl

not_zero : (n : ℕ) → n ≢ 0 → not (n == 0) ≡ true
not_zero n other = not_from_false (n == 0) (ne_eqb n 0 other)

no_zero : (n : ℕ) → not (n == 0) ≡ true → n ≢ 0
no_zero n test = λ is. let same : (n == 0) ≡ true = (Decides-eqb n 0).1 is in cc

pub prime-test : (q : ℕ) → IsPrime q → is_prime q ≡ true
prime-test q prime =
    and_from _ _ (le-leb 2 q prime.more) (all_in_range (λ k. not (q % k == 0)) 2 (q - 2) (λ k low high. not_zero (q % k) (prime.undivided k low (omega (arith, high, prime.more)))))

pub prime-by_test : (q : ℕ) → is_prime q ≡ true → IsPrime q
prime-by_test q test =
    let both = and_parts (nat_le 2 q) (list_all (λ k. not (q % k == 0)) (range_with_len 2 (q - 2))) test in
    record {
      more = leb-true 2 q both.0;
      undivided = λ k low high. no_zero (q % k) (each_in_range (λ k. not (q % k == 0)) 2 (q - 2) k both.1 low (omega (arith, high, low)));
    }

-- as the code finds it
pub no_prime : (q k : ℕ) → 2 ≤ k → k < q → q % k ≡ 0 → is_prime q ≡ false
no_prime q k low high divides = false_from_ne_true (is_prime q) (λ test. (prime-by_test q test).undivided k low high divides)

multiple-test : (period : Period) (q : ℕ) → Divides q period → is_multiple period q ≡ true
multiple-test period q divides =
    and_from _ _ ((Decides-eqb (period.length % q) 0).1 divides.length)
    (and_from _ _ ((Decides-eqb (unsigned_abs period.dx % q) 0).1 divides.columns) ((Decides-eqb (unsigned_abs period.dy % q) 0).1 divides.rows))

multiple-by_test : (period : Period) (q : ℕ) → is_multiple period q ≡ true → Divides q period
multiple-by_test period q test =
    let both = and_parts (period.length % q == 0) ((unsigned_abs period.dx % q == 0) && (unsigned_abs period.dy % q == 0)) test in
    let shift = and_parts (unsigned_abs period.dx % q == 0) (unsigned_abs period.dy % q == 0) both.1 in
    record {
      length = (Decides-eqb (period.length % q) 0).0 both.0;
      columns = (Decides-eqb (unsigned_abs period.dx % q) 0).0 shift.0;
      rows = (Decides-eqb (unsigned_abs period.dy % q) 0).0 shift.1;
    }

-- a number that divides another isn't greater
pub divisor_most : (period : Period) (q : ℕ) → IsPeriod period → Divides q period → q ≤ period.length
divisor_most period q kept divides =
    elim (nat_le q period.length) as (λ b. nat_le q period.length ≡ b → q ≤ period.length) [
      | true ↦ λ test. leb-true q period.length test
      | false ↦ λ test.
          let whole : period.length % q ≡ period.length = mod-eq_of_lt (leb-false q period.length test) in
          omega (arith, kept.length.0, whole, divides.length)
    ] refl

-- the shorter period by a prime that divides
pub part-by_prime : (period : Period) (q : ℕ) → IsPrime q → Divides q period → part_by period q ≡ Some (part_of period q)
part-by_prime period q prime divides = ap (λ b. cond b (Some (part_of period q)) None) (and_from _ _ (prime-test q prime) (multiple-test period q divides))

pub record IsPart (period : Period) (q : ℕ) (part : Period) : Type 0 where
  pub prime : IsPrime q
  pub divides : Divides q period
  pub is : part_of period q ≡ part

pub part-is : (period : Period) (q : ℕ) (part : Period) → part_by period q ≡ Some part → IsPart period q part
part-is period q part found =
    elim (is_prime q && is_multiple period q) as (λ b. (is_prime q && is_multiple period q) ≡ b → cond b (Some (part_of period q)) None ≡ Some part → IsPart period q part) [
      | true ↦ λ test here.
          let both = and_parts (is_prime q) (is_multiple period q) test in
          record { prime = prime-by_test q both.0; divides = multiple-by_test period q both.1; is = cc }
      | false ↦ λ test here. cc
    ] refl found

-- it is a period, and shorter
within_negated : (n : ℕ) → n ≤ 64 → IsWithin MOST_SHIFT (neg_ℤ (pos n))
within_negated zero few = (omega (arith, ints), omega (arith, ints))
within_negated (suc n) few = (omega (arith, ints, few), omega (arith, ints))

within_quotient : (z : ℤ) (q : ℕ) → IsWithin MOST_SHIFT z → IsWithin MOST_SHIFT (int_div z (pos q))
within_quotient (pos a) q within = (omega (arith, ints), omega (arith, ints, within.1, div-le_self a q))
within_quotient (negsuc a) q within = within_negated (suc a / q) (omega (arith, ints, within.0, div-le_self (suc a) q))

-- the parts of its shift, as the code divides them
abs_within : (z : ℤ) → IsWithin MOST_SHIFT z → unsigned_abs z ≤ 64
abs_within (pos n) within = omega (arith, ints, within.1)
abs_within (negsuc n) within = omega (arith, ints, within.0)

below_by : (m n : ℕ) → m ≤ 64 → 64 < n → m < n
below_by m n few more = omega (arith, few, more)

pub shift_fits : (z : ℤ) → IsWithin MOST_SHIFT z → FitsSigned w32 z
shift_fits z within = fits_signed_from_abs w32 z (below_by (unsigned_abs z) _ (abs_within z within) (lit< tt))

pub quotient_made : (z : ℤ) (q : ℕ) → IsWithin MOST_SHIFT z → 1 ≤ q → q ≤ 63 → to_z w32 (of_z w32 (int_div (to_z w32 (of_z w32 z)) (to_z w32 q))) ≡ int_div z (pos q)
quotient_made z q within some most =
    let number : to_z w32 q ≡ pos q = to_z_pos w32 q (below_by q _ (omega (arith, most)) (lit< tt)) in
    let fits : FitsSigned w32 z = shift_fits z within in
    let fits' : FitsSigned w32 (int_div z (pos q)) = quot_fits w32 z (pos q) fits (omega (arith, ints, some)) in
    let inner : to_z w32 (of_z w32 z) ≡ z = rw to_z-of_z in
    ap (λ a. to_z w32 (of_z w32 (int_div a (to_z w32 q)))) inner ∙ ap (λ b. to_z w32 (of_z w32 (int_div z b))) number ∙ rw to_z-of_z

some_quotient : (n q : ℕ) → 1 ≤ q → q ≤ n → 1 ≤ n / q
some_quotient n q some most =
    elim (n / q) as (λ k. n / q ≡ k → 1 ≤ n / q) [
      | zero ↦ λ none.
          let short : n < q * (n / q + 1) = lt-mul-div-succ n (omega (arith, some)) in
          let one : q * (n / q + 1) ≡ q = ap (λ k. q * (k + 1)) none ∙ omega arith in
          omega (arith, short, one, most)
      | (suc k) ↦ λ is. omega (arith, is)
    ] refl

pub part_keeps : (period : Period) (q : ℕ) (part : Period) → IsPeriod period → part_by period q ≡ Some part → IsPeriod part × (part.length < period.length)
part_keeps period q part kept found =
    let it = part-is period q part found in
    let less : period.length / q < period.length = div-lt_self (omega (arith, kept.length.0)) (omega (arith, it.prime.more)) in
    subst (λ part. IsPeriod part × (part.length < period.length)) it.is (
      record {
        length = (some_quotient period.length q (omega (arith, it.prime.more)) (divisor_most period q kept it.divides), omega (arith, less, kept.length.1));
        columns = within_quotient period.dx q kept.columns;
        rows = within_quotient period.dy q kept.rows;
      },
      less,
    )

-- as the code makes it
pub part-found : (period : Period) (q : ℕ) → is_prime q ≡ true → is_multiple period q ≡ true → part_by period q ≡ Some (part_of period q)
part-found period q prime multiple = ap (λ b. cond b (Some (part_of period q)) None) (and_from _ _ prime multiple)

pub part_made : (period : Period) (q : ℕ) → IsPeriod period → part_by period q ≡ Some (part_of period q)
    → record { length = period.length / q; dx = to_z w32 (of_z w32 (int_div (to_z w32 (of_z w32 period.dx)) (to_z w32 q))); dy = to_z w32 (of_z w32 (int_div (to_z w32 (of_z w32 period.dy)) (to_z w32 q))) } ≡ part_of period q
part_made period q kept found =
    let it = part-is period q (part_of period q) found in
    let some : 1 ≤ q = omega (arith, it.prime.more) in
    let most : q ≤ 63 = omega (arith, divisor_most period q kept it.divides, kept.length.1) in
    let column = quotient_made period.dx q kept.columns some most in
    let row = quotient_made period.dy q kept.rows some most in
    ap (λ x. record { length = period.length / q; dx = x; dy = to_z w32 (of_z w32 (int_div (to_z w32 (of_z w32 period.dy)) (to_z w32 q))) }) column
    ∙ ap (λ y. record { length = period.length / q; dx = int_div period.dx (pos q); dy = y }) row

-- a length is listed exactly where generation 0 is there again after it
some_lost : {X : Type 0} (xs : List X) (n : ℕ) → cond (is_nothing xs) (n ∷ []) [] ≡ [] → xs ≡ [] → ⊥
some_lost [] n none is = cc
some_lost (x ∷ xs) n none is = cc

none_returning : {X : Type 0} (xs : List X) (n : ℕ) → (xs ≡ [] → ⊥) → cond (is_nothing xs) (n ∷ []) [] ≡ []
none_returning [] n lost = absurd (lost refl)
none_returning (x ∷ xs) n lost = refl

-- of the numbers of a range, those with a part
part_in : (period : Period) (P : Period → Type 0) (a n q : ℕ) (part : Period) → Each P (filter_map (part_by period) (range_with_len a n)) → a ≤ q → q < a + n → part_by period q ≡ Some part → P part
part_in period P a zero q part each low high is = absurd (omega (arith, low, high))
part_in period P a (suc n) q part each low high is =
    elim (nat_le q a) as (λ b. nat_le q a ≡ b → P part) [
      | true ↦ λ test.
          let same : a ≡ q = omega (arith, low, leb-true q a test) in
          here (part_by period a) each (ap (part_by period) same ∙ is)
      | false ↦ λ test. part_in period P (a + 1) n q part (rest (part_by period a) each) (omega (arith, low, leb-false q a test)) (omega (arith, high)) is
    ] refl
  where
    here : (found : Option Period) → Each P (cons_option found (filter_map (part_by period) (range_with_len (a + 1) n)))
        → found ≡ Some part → P part
    here None each is = cc
    here (Some it) each is = let same : it ≡ part = cc in subst P same each.0

    rest : (found : Option Period) → Each P (cons_option found (filter_map (part_by period) (range_with_len (a + 1) n)))
        → Each P (filter_map (part_by period) (range_with_len (a + 1) n))
    rest None each = each
    rest (Some it) each = each.1

with_one : (P : Period → Type 0) (found : Option Period) (parts : List Period) → ((part : Period) → found ≡ Some part → P part) → Each P parts → Each P (cons_option found parts)
with_one P None parts each more = more
with_one P (Some part) parts each more = (each part refl, more)

parts_each : (period : Period) (P : Period → Type 0) → ((q : ℕ) (part : Period) → part_by period q ≡ Some part → P part) → (a n : ℕ) → Each P (filter_map (part_by period) (range_with_len a n))
parts_each period P each a zero = tt
parts_each period P each a (suc n) = with_one P (part_by period a) (filter_map (part_by period) (range_with_len (a + 1) n)) (each a) (parts_each period P each (a + 1) n)

-- what an exact period says of the shorter ones that it excludes
abbrev pub IsUnseen : PosedProblem → History → Period → Type 0
IsUnseen p h part = IsThere p h part → ⊥

exact_by_parts : (p : PosedProblem) (h : History) (period : Period) → IsPeriod period → Each (IsUnseen p h) (parts_of period) → (q : ℕ) → IsPrime q → Divides q period
    → IsThere p h (part_of period q) → ⊥
exact_by_parts p h period kept each q prime divides =
    part_in period (IsUnseen p h) 0 (period.length + 1) q (part_of period q) each (omega arith) (omega (arith, divisor_most period q kept divides)) (part-by_prime period q prime divides)

pub IsExact-by_excluded : (p : PosedProblem) (h : History) → AreFitting p.posed p.demands → Each (IsUnseen p h) (excluded p.demands) → IsExact p h
IsExact-by_excluded p h fitting each = λ asked period is.
    exact_by_parts p h period (fitting.period period is)
    (subst (λ o. Each (IsUnseen p h) (option_map_or parts_of o [])) is (subst (λ b. Each (IsUnseen p h) (cond b (option_map_or parts_of p.demands.period []) [])) asked each))

-- each of those that are asked
of_asked : (p : PosedProblem) (P : Period → Type 0) → ((period : Period) → p.demands.exact ≡ true → p.demands.period ≡ Some period → Each P (parts_of period))
    → (exact : Bool) → p.demands.exact ≡ exact → (asked : Option Period) → p.demands.period ≡ asked → Each P (cond exact (option_map_or parts_of asked []) [])
of_asked p P each false off asked is = tt
of_asked p P each true on None is = tt
of_asked p P each true on (Some period) is = each period on is

pub excluded-exact : (p : PosedProblem) (h : History) → IsExact p h → Each (IsUnseen p h) (excluded p.demands)
excluded-exact p h exact =
    of_asked p (IsUnseen p h) (λ period on asked. parts_each period (IsUnseen p h) (λ q part is.
    let it = part-is period q part is in
    λ there. exact on period asked q it.prime it.divides (subst (IsThere p h) (sym it.is) there)) 0 (period.length + 1)) p.demands.exact refl p.demands.period refl

-- they are periods, and shorter than the file
pub record IsShort (p : PosedProblem) (part : Period) : Type 0 where
  pub period : IsPeriod part
  pub shorter : part.length < p.posed.generations

pub excluded_short : (p : PosedProblem) → AreFitting p.posed p.demands → Each (IsShort p) (excluded p.demands)
excluded_short p fitting =
    of_asked p (IsShort p) (λ period on asked. parts_each period (IsShort p) (λ q part is.
    let keeps = part_keeps period q part (fitting.period period asked) is in
    record { period = keeps.0; shorter = omega (arith, keeps.1, fitting.shorter period asked) }) 0 (period.length + 1)) p.demands.exact refl p.demands.period refl

-- nothing is listed exactly where none of them is there again
unseen_by_none : (p : PosedProblem) (h : History) → HasItsSizes p h → (parts : List Period) → Each (IsShort p) parts → flat_map (returning p h) parts ≡ [] → Each (IsUnseen p h) parts
unseen_by_none p h sizes [] short none = tt
unseen_by_none p h sizes (part ∷ parts) short none =
    let both = both_empty (returning p h part) (flat_map (returning p h) parts) none in (
      λ there. some_lost (losses_at p h part 0) part.length both.0 (losses_by_there p h part sizes short.0.period short.0.shorter there),
      unseen_by_none p h sizes parts short.1 both.1,
    )

none_by_unseen : (p : PosedProblem) (h : History) → HasItsSizes p h → (parts : List Period) → Each (IsShort p) parts → Each (IsUnseen p h) parts → flat_map (returning p h) parts ≡ []
none_by_unseen p h sizes [] short unseen = refl
none_by_unseen p h sizes (part ∷ parts) short unseen =
    ap (λ xs. xs ++ flat_map (returning p h) parts)
    (none_returning (losses_at p h part 0) part.length (λ none. unseen.0 (there_by_losses p h part sizes short.0.shorter none)))
    ∙ none_by_unseen p h sizes parts short.1 unseen.1

pub IsExact-by_none : (p : PosedProblem) (h : History) → HasItsSizes p h → AreFitting p.posed p.demands → shorter_lengths p h ≡ [] → IsExact p h
IsExact-by_none p h sizes fitting none = IsExact-by_excluded p h fitting (unseen_by_none p h sizes (excluded p.demands) (excluded_short p fitting) none)

pub shorter_lengths-exact : (p : PosedProblem) (h : History) → HasItsSizes p h → AreFitting p.posed p.demands → IsExact p h → shorter_lengths p h ≡ []
shorter_lengths-exact p h sizes fitting exact = none_by_unseen p h sizes (excluded p.demands) (excluded_short p fitting) (excluded-exact p h exact)

-- of the numbers of a range, the lists of those with a part
abbrev pub returning_by : PosedProblem → History → Period → ℕ → List ℕ
returning_by p h period q = option_map_or (returning p h) (part_by period q) []

with_its_list : {X Y : Type 0} (f : X → List Y) (found : Option X) (xs : List X) (ys : List Y) → flat_map f xs ≡ ys → flat_map f (cons_option found xs) ≡ option_map_or f found [] ++ ys
with_its_list f None xs ys same = same
with_its_list f (Some x) xs ys same = ap (λ rest. f x ++ rest) same

in_range : (p : PosedProblem) (h : History) (period : Period) (a n : ℕ) → flat_map (returning p h) (filter_map (part_by period) (range_with_len a n)) ≡ flat_map (returning_by p h period) (range_with_len a n)
in_range p h period a zero = refl
in_range p h period a (suc n) =
    with_its_list (returning p h) (part_by period a) (filter_map (part_by period) (range_with_len (a + 1) n)) (flat_map (returning_by p h period) (range_with_len (a + 1) n)) (in_range p h period (a + 1) n)

pub returning_of-parts : (p : PosedProblem) (h : History) (period : Period) → flat_map (returning_by p h period) (range_with_len 0 (period.length + 1)) ≡ flat_map (returning p h) (parts_of period)
returning_of-parts p h period = sym (in_range p h period 0 (period.length + 1))
