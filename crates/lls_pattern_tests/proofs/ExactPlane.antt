-- Where the rule holds on the whole plane, an exact period has no shorter one along the same line at all.
use Rattle.std.proofs.Common.{◌≡◌, ◌≢◌, ◌<◌, ◌≤◌, ℕ, zero, suc, ◌+◌, ◌*◌, ◌/◌, ◌%◌, ℤ, pos, negsuc, ◌+ℤ◌, ◌-ℤ◌, neg_ℤ, unsigned_abs, int_div, Bool, true, List, Some, refl, sym, ap, ◌∙◌, arith, inl, inr}
use Rattle.std.proofs.lemmas.Int.{ints}
use Rattle.std.proofs.lemmas.Bool.{cases_lt}
use Rattle.std.proofs.Math.Nat.{mod-add-div, mul-div_cancel_left, mul-mod_right, mul_assoc, div-le_self}
use Rattle.lls_rule.specs.Rule.{successor}
use Rattle.lls_grid.specs.History.{History, at, nine}
use Rattle.lls_problem.specs.declared.demands.Period.{Period}
use Rattle.lls_problem.specs.declared.demands.Edge.TheVariants.{Framed}
use Rattle.lls_problem.specs.Problem.{PosedProblem, AreFitting, part_of}
use Rattle.lls_problem.specs.Solution.{IsPrime, Divides, IsThere, IsSolution}
use Rattle.lls_problem.specs.Plane.{AreUnmarked, ObeysEverywhere}
use Rattle.lls_problem.proofs.Plane.{plane_law}

-- numbers that divide one another
whole : (m a : ℕ) → a % m ≡ 0 → m * (a / m) ≡ a
whole m a divides = omega (arith, divides, mod-add-div a m)

divides_on : (j q m : ℕ) → q % j ≡ 0 → m % q ≡ 0 → m % j ≡ 0
divides_on j q m first second =
    let a : q * (m / q) ≡ m = whole q m second in
    let b : j * (q / j) ≡ q = whole j q first in
    let c : j * ((q / j) * (m / q)) ≡ m = sym (mul_assoc j (q / j) (m / q)) ∙ ap (λ n. n * (m / q)) b ∙ a in
    ap (λ n. n % j) (sym c) ∙ mul-mod_right j ((q / j) * (m / q))

-- of each number from 2 on some prime is a divisor
record HasPrime (m : ℕ) : Type 0 where
  q : ℕ
  prime : IsPrime q
  divides : m % q ≡ 0

least_divisor : (m fuel q : ℕ) → 2 ≤ q → q ≤ m → m < q + fuel → ((j : ℕ) → 2 ≤ j → j < q → m % j ≢ 0) → HasPrime m
least_divisor m zero q some most enough none = absurd (omega (arith, most, enough))
least_divisor m (suc fuel) q some most enough none =
    elim (m % q) as (λ r. m % q ≡ r → HasPrime m) [
      | zero ↦ λ divides. record { q = q; prime = record { more = some; undivided = λ j low high no. none j low high (divides_on j q m no divides) }; divides = divides }
      | (suc r) ↦ λ left.
          let other : q ≢ m = λ same. let all : m % q ≡ 0 = ap (λ n. m % n) same ∙ ap (λ n. n % m) (sym (one_time m)) ∙ mul-mod_right m 1 in cc in
          let next : q + 1 ≤ m = below q m most other in
          least_divisor m fuel (q + 1) (omega (arith, some)) next (omega (arith, enough)) (λ j low high. elim (cases_lt j q) [
            | inl less ↦ none j low less
            | inr rest ↦ λ no. let same : q ≡ j = omega (arith, high, rest) in let here : m % q ≡ 0 = ap (λ n. m % n) same ∙ no in cc
          ])
    ] refl
  where
    one_time : (m : ℕ) → m * 1 ≡ m
    one_time m = omega arith

    below : (q m : ℕ) → q ≤ m → q ≢ m → q + 1 ≤ m
    below q m most other = elim (cases_lt q m) [
      | inl less ↦ omega (arith, less)
      | inr rest ↦ absurd (other (omega (arith, most, rest)))
    ]

has_prime : (m : ℕ) → 2 ≤ m → HasPrime m
has_prime m more = least_divisor m m 2 (omega arith) more (omega arith) (λ j low high. absurd (omega (arith, low, high)))

-- a shift made so many times
times : ℕ → ℤ → ℤ
times zero s = pos 0
times (suc k) s = times k s +ℤ s

times_pos : (k e : ℕ) → times k (pos e) ≡ pos (k * e)
unfolding times
times_pos zero e = let none : 0 ≡ zero * e = omega arith in ap pos none
times_pos (suc k) e = ap (λ z. z +ℤ pos e) (times_pos k e) ∙ add_pos (k * e) e ∙ ap pos (once_more k e)
  where
    add_pos : (a b : ℕ) → pos a +ℤ pos b ≡ pos (a + b)
    add_pos a b = omega (arith, ints)

    once_more : (k e : ℕ) → k * e + e ≡ suc k * e
    once_more k e = grind arith

times_neg : (k e : ℕ) → times k (neg_ℤ (pos e)) ≡ neg_ℤ (pos (k * e))
unfolding times
times_neg zero e = let none : 0 ≡ zero * e = omega arith in ap (λ n. neg_ℤ (pos n)) none
times_neg (suc k) e = ap (λ z. z +ℤ neg_ℤ (pos e)) (times_neg k e) ∙ add_neg (k * e) e ∙ ap (λ n. neg_ℤ (pos n)) (once_more k e)
  where
    add_neg : (a b : ℕ) → neg_ℤ (pos a) +ℤ neg_ℤ (pos b) ≡ neg_ℤ (pos (a + b))
    add_neg zero b = omega (arith, ints)
    add_neg (suc a) zero = omega (arith, ints)
    add_neg (suc a) (suc b) = omega (arith, ints)

    once_more : (k e : ℕ) → k * e + e ≡ suc k * e
    once_more k e = grind arith

-- a q-th part is so many m-th parts, where q divides m and m the number
parts : (m q a : ℕ) → 1 ≤ q → m % q ≡ 0 → a % m ≡ 0 → (m / q) * (a / m) ≡ a / q
parts m q a some first second =
    let by_q : q * (m / q) ≡ m = whole q m first in
    let by_m : m * (a / m) ≡ a = whole m a second in
    let all : q * ((m / q) * (a / m)) ≡ a = sym (mul_assoc q (m / q) (a / m)) ∙ ap (λ n. n * (a / m)) by_q ∙ by_m in
    sym (mul-div_cancel_left ((m / q) * (a / m)) (omega (arith, some))) ∙ ap (λ n. n / q) all

shift_parts : (m q : ℕ) (z : ℤ) → 1 ≤ q → m % q ≡ 0 → unsigned_abs z % m ≡ 0 → times (m / q) (int_div z (pos m)) ≡ int_div z (pos q)
shift_parts m q (pos a) some first second = times_pos (m / q) (a / m) ∙ ap pos (parts m q a some first second)
shift_parts m q (negsuc a) some first second = times_neg (m / q) (suc a / m) ∙ ap (λ n. neg_ℤ (pos n)) (parts m q (suc a) some first second)

-- what is there again is so in each later generation, where the rule holds everywhere
less_one : (a s : ℤ) → (a +ℤ s) -ℤ pos 1 ≡ (a -ℤ pos 1) +ℤ s
less_one a s = omega (arith, ints)

one_more : (a s : ℤ) → (a +ℤ s) +ℤ pos 1 ≡ (a +ℤ pos 1) +ℤ s
one_more a s = omega (arith, ints)

nine_moved : (rule : List Bool) (h : History) (late early : ℕ) (sy sx y x : ℤ) → ((y x : ℤ) → at rule h late (y +ℤ sy) (x +ℤ sx) ≡ at rule h early y x)
    → nine rule h late (y +ℤ sy) (x +ℤ sx) ≡ nine rule h early y x
nine_moved rule h late early sy sx y x there = rw (
  less_one y sy,
  one_more y sy,
  less_one x sx,
  one_more x sx,
  there (y -ℤ pos 1) (x -ℤ pos 1),
  there (y -ℤ pos 1) x,
  there (y -ℤ pos 1) (x +ℤ pos 1),
  there y (x -ℤ pos 1),
  there y x,
  there y (x +ℤ pos 1),
  there (y +ℤ pos 1) (x -ℤ pos 1),
  there (y +ℤ pos 1) x,
  there (y +ℤ pos 1) (x +ℤ pos 1),
) refl

along : (p : PosedProblem) (h : History) → ObeysEverywhere p h → (d : ℕ) (sy sx : ℤ) → ((y x : ℤ) → at p.rule h d (y +ℤ sy) (x +ℤ sx) ≡ at p.rule h 0 y x)
    → (t : ℕ) → t + d < p.posed.generations → (y x : ℤ) → at p.rule h (t + d) (y +ℤ sy) (x +ℤ sx) ≡ at p.rule h t y x
along p h obeys d sy sx there zero within y x =
    let here : 0 + d ≡ d = omega arith in
    ap (λ n. at p.rule h n (y +ℤ sy) (x +ℤ sx)) here ∙ there y x
along p h obeys d sy sx there (suc t) within y x =
    let late : suc t + d ≡ t + d + 1 = omega arith in
    let early : suc t ≡ t + 1 = omega arith in
    ap (λ n. at p.rule h n (y +ℤ sy) (x +ℤ sx)) late
    ∙ obeys (t + d) (y +ℤ sy) (x +ℤ sx) (omega (arith, within))
    ∙ ap (successor p.rule) (nine_moved p.rule h (t + d) t sy sx y x (along p h obeys d sy sx there t (omega (arith, within))))
    ∙ sym (obeys t y x (omega (arith, within)))
    ∙ ap (λ n. at p.rule h n y x) (sym early)

-- so after each number of such periods
again : (p : PosedProblem) (h : History) → ObeysEverywhere p h → (d : ℕ) (sy sx : ℤ) → ((y x : ℤ) → at p.rule h d (y +ℤ sy) (x +ℤ sx) ≡ at p.rule h 0 y x)
    → (k : ℕ) → k * d < p.posed.generations → (y x : ℤ) → at p.rule h (k * d) (y +ℤ times k sy) (x +ℤ times k sx) ≡ at p.rule h 0 y x
unfolding times
again p h obeys d sy sx there zero within y x =
    let none : 0 * d ≡ 0 = omega arith in
    ap (λ n. at p.rule h n (y +ℤ pos 0) (x +ℤ pos 0)) none ∙ ap (λ a. at p.rule h 0 a (x +ℤ pos 0)) (still y) ∙ ap (at p.rule h 0 y) (still x)
  where
    still : (a : ℤ) → a +ℤ pos 0 ≡ a
    still a = omega (arith, ints)
again p h obeys d sy sx there (suc k) within y x =
    let more : suc k * d ≡ k * d + d = once_more k d in
    ap (λ n. at p.rule h n (y +ℤ (times k sy +ℤ sy)) (x +ℤ (times k sx +ℤ sx))) more
    ∙ ap (λ a. at p.rule h (k * d + d) a (x +ℤ (times k sx +ℤ sx))) (joined y (times k sy) sy)
    ∙ ap (at p.rule h (k * d + d) ((y +ℤ times k sy) +ℤ sy)) (joined x (times k sx) sx)
    ∙ along p h obeys d sy sx there (k * d) (omega (arith, within, more)) (y +ℤ times k sy) (x +ℤ times k sx)
    ∙ again p h obeys d sy sx there k (omega (arith, within, more)) y x
  where
    once_more : (k e : ℕ) → suc k * e ≡ k * e + e
    once_more k e = grind arith

    joined : (a b c : ℤ) → a +ℤ (b +ℤ c) ≡ (a +ℤ b) +ℤ c
    joined a b c = omega (arith, ints)

pub no_shorter : (p : PosedProblem) (h : History) → AreFitting p.posed p.demands → IsSolution p h → p.demands.exact ≡ true → p.demands.edge ≡ Framed → AreUnmarked p.posed
    → (period : Period) → p.demands.period ≡ Some period → (m : ℕ) → 2 ≤ m → Divides m period → IsThere p h (part_of period m) → ⊥
no_shorter p h fitting solution exact closed unmarked period asked m more divides there =
    let obeys : ObeysEverywhere p h = plane_law p h solution closed unmarked in
    let found = has_prime m more in
    let q : ℕ = found.q in
    let k : ℕ = m / q in
    let some : 1 ≤ q = omega (arith, found.prime.more) in
    let part : Period = part_of period m in
    let whole_part : Period = part_of period q in
    let length : k * part.length ≡ whole_part.length = parts m q period.length some found.divides divides.length in
    let rows : times k part.dy ≡ whole_part.dy = shift_parts m q period.dy some found.divides divides.rows in
    let columns : times k part.dx ≡ whole_part.dx = shift_parts m q period.dx some found.divides divides.columns in
    let within : k * part.length < p.posed.generations = omega (arith, length, div-le_self period.length q, fitting.shorter period asked) in
    let seen : IsThere p h whole_part = λ y x.
    ap (λ n. at p.rule h n (y +ℤ whole_part.dy) (x +ℤ whole_part.dx)) (sym length)
    ∙ ap (λ s. at p.rule h (k * part.length) (y +ℤ s) (x +ℤ whole_part.dx)) (sym rows)
    ∙ ap (λ s. at p.rule h (k * part.length) (y +ℤ times k part.dy) (x +ℤ s)) (sym columns)
    ∙ again p h obeys part.length part.dy part.dx there k within y x in
    solution.exact exact period asked q found.prime (record {
      length = divides_on q m period.length found.divides divides.length;
      columns = divides_on q m (unsigned_abs period.dx) found.divides divides.columns;
      rows = divides_on q m (unsigned_abs period.dy) found.divides divides.rows;
    }) seen
