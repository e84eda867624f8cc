-- The groups that are printed for a side are a side, and stand for the classes that are in.
use Rattle.std.proofs.Common.{◌≡◌, ◌≢◌, inl, inr, ℕ, zero, suc, ◌+◌, ◌<◌, ◌≤◌, nat_eq, nat_le, Bool, true, false, ◌&&◌, ◌||◌, List, [], ◌∷◌, ◌++◌, map, flat_map, refl, ap, ◌∙◌, sym, subst, arith}
use Rattle.std.specs.List.{range_with_len, AllByRecursion, IsDistinct}
use Rattle.std.proofs.Math.Bool.{beq, or-false}
use Rattle.std.proofs.lemmas.Bool.{le-leb, lt-leb, ne_eqb, eq-eqb, eqb-true, cases_lt, and_left, and_right}
use Rattle.std.proofs.lemmas.Bool.Decides.{eqb_tells}
use Rattle.std.proofs.lemmas.List.Elements.{All-from_recursion}
use Rattle.std.proofs.lemmas.Map.Keys.{IsDistinct-cons}
use Rattle.lls_rule.specs.Rule.{has_bit}
use Rattle.lls_hensel.specs.Entries.{Group, next_of, stands_for, entries_of_group}
use Rattle.lls_hensel.specs.Groups.{around_number}
use Rattle.lls_hensel.specs.Notation.{IsGroup, IsSide, entries_of_side}
use Rattle.lls_hensel.specs.Numbers.{class_by_number}
use Rattle.lls_hensel.specs.Printing.{canonical_group, canonical_side}
use Rattle.lls_hensel.proofs.Back.{own_answer, IsAbsent, IsPresent, group_back}
use Rattle.lls_hensel.proofs.Tells.{next_of-entries_of_group, around_number-lt, counts-le}
use Rattle.lls_hensel.proofs.With.{next_of-append}

-- the groups of the counts from one on
groups_from : List Bool → Bool → ℕ → ℕ → List Group
groups_from table survival from many = flat_map (canonical_group table survival) (range_with_len from many)

-- what the classes of a side from a count on say
said : List Bool → Bool → ℕ → ℕ → Bool
said table survival from n =
    beq survival (has_bit n 4) && (nat_le from (class_by_number (around_number n)).count && own_answer table survival (around_number n))

abbrev AreAbove : ℕ → List Group → Type 0
AreAbove from groups = AllByRecursion (λ group. from ≤ group.count) groups

record IsSideBack (table : List Bool) (survival : Bool) (from : ℕ) (groups : List Group) : Type 0 where
  each : AllByRecursion IsGroup groups
  above : AreAbove from groups
  once : IsDistinct nat_eq (map (λ group. group.count) groups)
  says : (n : ℕ) → n < 512 → next_of (entries_of_side survival groups) n ≡ said table survival from n

-- at another count, what is said from a count on and from the next on is the same
from_next : (a o : ℕ) → o ≢ a → nat_le a o ≡ nat_le (a + 1) o
from_next a o h =
    elim (cases_lt a o) [
      | inl l ↦ le-leb a o (omega arith) ∙ sym (le-leb (a + 1) o (omega arith))
      | inr g ↦ lt-leb a o (omega (arith, h)) ∙ sym (lt-leb (a + 1) o (omega arith))
    ]

-- nothing is said from nine on
said-nine : (table : List Bool) (survival : Bool) (from n : ℕ) → n < 512 → from ≡ 9 → false ≡ said table survival from n
unfolding said
said-nine table survival from n h e =
    let few = counts-le (around_number n) (around_number-lt n h) in
    sym (and_right (beq survival (has_bit n 4)) _ (and_left (nat_le from (class_by_number (around_number n)).count) _ (lt-leb from (class_by_number (around_number n)).count (omega (arith, few, e)))))

side_end : (table : List Bool) (survival : Bool) (from : ℕ) → from + 0 ≡ 9 → IsSideBack table survival from []
unfolding next_of IsDistinct
side_end table survival from e =
    record { each = tt; above = tt; once = tt; says = λ n h. said-nine table survival from n h (omega (arith, e)) }

above_less : (from : ℕ) (groups : List Group) → AreAbove (from + 1) groups → AreAbove from groups
above_less from [] h = tt
above_less from (group ∷ groups) h = (omega (arith, h.0), above_less from groups h.1)

side_absent : (table : List Bool) (survival : Bool) (from : ℕ) (groups : List Group) → IsAbsent table survival from → IsSideBack table survival (from + 1) groups → IsSideBack table survival from groups
unfolding said
side_absent table survival from groups gone rest = record {
  each = rest.each;
  above = above_less from groups rest.above;
  once = rest.once;
  says = λ n h.
      let own = class_by_number (around_number n) in
      let q = own_answer table survival (around_number n) in
      rest.says n h ∙ ap (λ b. beq survival (has_bit n 4) && b)
      (elim (eqb_tells own.count from) [
        | inl t ↦ and_right (nat_le (from + 1) own.count) q (gone.out (around_number n) (around_number-lt n h) t.1) ∙ sym (and_right (nat_le from own.count) q (gone.out (around_number n) (around_number-lt n h) t.1))
        | inr t ↦ ap (λ b. b && q) (sym (from_next from own.count t.1))
      ]);
}

-- a group, and what is said behind it
joined : (side here own from next q : Bool) → (here ≡ true → (own ≡ q) × (from ≡ true) × (next ≡ false)) → (here ≡ false → from ≡ next) →
    ((side && (here && own)) || (side && (next && q))) ≡ (side && (from && q))
joined false here own from next q f g = refl
joined true true own from next q f g =
    let t = f refl in
    ap (λ b. own || (b && q)) t.2 ∙ (or-false own ∙ (t.0 ∙ sym (ap (λ b. b && q) t.1)))
joined true false own from next q f g = sym (ap (λ b. b && q) (g refl))

above_differ : (count from : ℕ) (groups : List Group) → count ≡ from → AreAbove (from + 1) groups → AllByRecursion (λ other. nat_eq count other ≡ false) (map (λ group. group.count) groups)
above_differ count from [] e h = tt
above_differ count from (group ∷ groups) e h =
    (ne_eqb count group.count (λ is. absurd (omega (arith, h.0))), above_differ count from groups e h.1)

side_present : (table : List Bool) (survival : Bool) (from : ℕ) (group : Group) (groups : List Group) → IsPresent table survival from group → IsSideBack table survival (from + 1) groups → IsSideBack table survival from (group ∷ groups)
unfolding said
side_present table survival from group groups here rest = record {
  each = (here.well, rest.each);
  above = (omega (arith, here.counts), above_less from groups rest.above);
  once = IsDistinct-cons nat_eq group.count (map (λ group. group.count) groups) (above_differ group.count from groups here.counts rest.above) rest.once;
  says = λ n h.
      let e = around_number n in
      let own = class_by_number e in
      let within = around_number-lt n h in
      let q = own_answer table survival e in
      let side = beq survival (has_bit n 4) in
      next_of-append (entries_of_group survival group) (entries_of_side survival groups) n ∙
      (ap (λ b. b || next_of (entries_of_side survival groups) n) (next_of-entries_of_group survival group n h) ∙
      (ap (λ b. (side && (nat_eq group.count own.count && stands_for group own.letter)) || b) (rest.says n h) ∙
      joined side (nat_eq group.count own.count) (stands_for group own.letter) (nat_le from own.count) (nat_le (from + 1) own.count) q
      (λ t. let is : own.count ≡ from = sym (eqb-true group.count own.count t) ∙ here.counts in
      (here.stands e within is, le-leb from own.count (omega (arith, is)), lt-leb (from + 1) own.count (omega (arith, is))))
      (λ f. from_next from own.count (λ is. let t = eq-eqb group.count own.count (here.counts ∙ sym is) in cc))));
}

side_back : (table : List Bool) (survival : Bool) (from many : ℕ) → from + many ≡ 9 → IsSideBack table survival from (groups_from table survival from many)
unfolding groups_from
side_back table survival from zero e = side_end table survival from e
side_back table survival from (suc many) e =
    let behind = groups_from table survival (from + 1) many in
    let rest = side_back table survival (from + 1) many (omega arith) in
    elim (group_back table survival from (omega arith)) [
      | inl gone ↦ subst (λ groups. IsSideBack table survival from (groups ++ behind)) (sym gone.none) (side_absent table survival from behind gone rest)
      | inr (group, here) ↦ subst (λ groups. IsSideBack table survival from (groups ++ behind)) (sym here.only) (side_present table survival from group behind here rest)
    ]

-- the groups that are printed for a side are a side
pub canonical_side-is : (table : List Bool) (survival : Bool) → IsSide (canonical_side table survival)
unfolding canonical_side groups_from
canonical_side-is table survival =
    let back = side_back table survival 0 9 refl in
    record { each = All-from_recursion IsGroup (groups_from table survival 0 9) back.each; digits_once = back.once }

-- and say what the rule answers at the classes' representatives
pub next_of-canonical_side : (table : List Bool) (survival : Bool) (n : ℕ) → n < 512 → next_of (entries_of_side survival (canonical_side table survival)) n ≡ (beq survival (has_bit n 4) && own_answer table survival (around_number n))
unfolding canonical_side groups_from said
next_of-canonical_side table survival n h =
    let back = side_back table survival 0 9 refl in
    back.says n h ∙ ap (λ b. beq survival (has_bit n 4) && (b && own_answer table survival (around_number n))) (le-leb 0 (class_by_number (around_number n)).count (omega arith))
