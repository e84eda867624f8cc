-- The ends of a bound, and how far its counter counts.
use Rattle.std.proofs.Common.{◌≡◌, ◌<◌, ◌≤◌, ℕ, ◌+◌, true, false, cond, None, Some, Option, refl, ap, arith}
use Rattle.std.specs.Prelude.{min, nat_lt}
use Rattle.std.specs.Option.{ForSome, option_map_or}
use Rattle.std.proofs.lemmas.Bool.{ltb-true, ltb-false}
use Rattle.lls_problem.specs.declared.bounds.Bound.{Bound}
use Rattle.lls_problem.specs.Bounds.{Allows, top_end, counter_top}

end_le : (size : ℕ) (asked : Option ℕ) → option_map_or (λ high. min high size) asked size ≤ size
end_le size None = omega arith
end_le size (Some high) = omega arith

pub top_end-le : (size : ℕ) (bound : Bound) → top_end size bound ≤ size
top_end-le size bound = end_le size bound.high

-- so many live cells are within the ends exactly where they are from the low end to the top end
pub Allows-by_ends : (size live : ℕ) (bound : Bound) → bound.low ≤ live → live ≤ top_end size bound → Allows bound live
Allows-by_ends size live bound low high = record {
  low = low;
  high = λ most is. let top : top_end size bound ≡ min most size = ap (λ o. option_map_or (λ high. min high size) o size) is in omega (arith, top);
}

end_by_allowed : (size live : ℕ) (asked : Option ℕ) → live ≤ size → ForSome asked (λ high. live ≤ high) → live ≤ option_map_or (λ high. min high size) asked size
end_by_allowed size live None few allows = few
end_by_allowed size live (Some high) few allows = omega (arith, allows high refl)

pub top_end-allowed : (size live : ℕ) (bound : Bound) → live ≤ size → Allows bound live → live ≤ top_end size bound
top_end-allowed size live bound few allows = end_by_allowed size live bound.high few allows.high

-- the counter counts as far as either end
counts_to : (size end low : ℕ) → low ≤ end → (low ≤ cond (nat_lt end size) (end + 1) low) × (end < size → end < cond (nat_lt end size) (end + 1) low)
counts_to size end low ordered =
    elim (nat_lt end size) as (λ b. nat_lt end size ≡ b → (low ≤ cond b (end + 1) low) × (end < size → end < cond b (end + 1) low)) [
      | true ↦ λ less. (omega arith, λ more. omega arith)
      | false ↦ λ less. let all = ltb-false end size less in (omega arith, λ more. absurd (omega arith))
    ] refl

pub low_counted : (size : ℕ) (bound : Bound) → bound.low ≤ top_end size bound → bound.low ≤ counter_top size bound
low_counted size bound ordered = (counts_to size (top_end size bound) bound.low ordered).0

pub end_counted : (size : ℕ) (bound : Bound) → bound.low ≤ top_end size bound → top_end size bound < size → top_end size bound < counter_top size bound
end_counted size bound ordered = (counts_to size (top_end size bound) bound.low ordered).1

-- it doesn't count at all where every number is allowed
pub all_allowed : (size live : ℕ) (bound : Bound) → bound.low ≤ top_end size bound → counter_top size bound ≡ 0 → live ≤ size → Allows bound live
all_allowed size live bound ordered none few =
    let low = low_counted size bound ordered in
    let high : size ≤ top_end size bound = elim (nat_lt (top_end size bound) size)
    as (λ b. nat_lt (top_end size bound) size ≡ b → size ≤ top_end size bound) [
      | true ↦ λ less. let counts = end_counted size bound ordered (ltb-true (top_end size bound) size less) in absurd (omega (arith, counts, none))
      | false ↦ λ less. ltb-false (top_end size bound) size less
    ] refl in
    Allows-by_ends size live bound (omega (arith, low, none)) (omega (arith, high, few))
