-- The worked trail over the worked clauses.
use Rattle.std.proofs.Common.{◌≡◌, ◌≢◌, ℕ, zero, suc, ◌<◌, Bool, true, false, not, ◌&&◌, ◌||◌, List, [], ◌∷◌, Some, None, refl, sym, ap, subst, ◌∙◌, arith}
use Rattle.std.specs.Prelude.{ℤ, pos, negsuc, Contains, slice_index_or}
use Rattle.std.specs.List.{list_any}
use Rattle.std.specs.Ordering.{int_eq}
use Rattle.std.specs.FinSet as set
use Rattle.std.proofs.lemmas.Cmp.{int_cmp_total}
use Rattle.std.proofs.lemmas.Bool.Decides.{Decides-int_eq}
use Rattle.lls_lit.specs.Literal.{negation, variable_of}
use Rattle.lls_store.specs.Trail.{Entry, has, Has, HasNegated, level_of}
use Rattle.lls_store.specs.Changes.{cut_to, with_reason}
use Rattle.lls_store.specs.Clauses.{LiveClause, Literals, IsIn}
use Rattle.lls_store.specs.Closed.{IsSettled, IsClosed, IsClosedBelow}
use Rattle.lls_store.specs.Closed.IsSettled.{satisfied, two_left}
use Rattle.lls_store.specs.Sound.{IsForced, IsSound}
use Rattle.lls_store.specs.Uip.{HasOneCurrent, HasTwoCurrent, IsLast, resolved_on, LeadsTo, IsUip}
use Rattle.lls_store.specs.Uip.LeadsTo.{reached, resolved}
use Rattle.lls_store.specs.Worked.{lits, first_clause, second_clause, third_clause, worked_clauses, worked_trail}
use Rattle.lls_store.proofs.Points.{has_one_point}
use Rattle.lls_store.proofs.Reasons.{IsSound-from_each}

not_so : (b : Bool) → b ≡ false → b ≡ true → ⊥
not_so b is_false is_true = cc

apart : (l m : ℤ) → int_eq l m ≡ false → l ≢ m
apart l m other same = not_so (int_eq l m) other ((Decides-int_eq l m).1 same)

is_in : (ls : List ℤ) (l : ℤ) → list_any (int_eq l) ls ≡ true → IsIn (lits ls) l
is_in ls l among = set.contains-from_list int_cmp_total ls l ∙ among

among : (ls : List ℤ) (l : ℤ) → IsIn (lits ls) l → list_any (int_eq l) ls ≡ true
among ls l inside = sym (set.contains-from_list int_cmp_total ls l) ∙ inside

each_of_two : (P : ℤ → Type 0) (a b : ℤ) → P a → P b → (l : ℤ) → IsIn (lits (a ∷ b ∷ [])) l → P l
each_of_two P a b pa pb l inside = by_first (int_eq l a) refl (among (a ∷ b ∷ []) l inside) where
  by_second : (c : Bool) → int_eq l b ≡ c → (c || false) ≡ true → P l
  by_second true same either = subst P (sym ((Decides-int_eq l b).0 same)) pb
  by_second false same either = absurd cc

  by_first : (c : Bool) → int_eq l a ≡ c → (c || (int_eq l b || false)) ≡ true → P l
  by_first true same either = subst P (sym ((Decides-int_eq l a).0 same)) pa
  by_first false same either = by_second (int_eq l b) refl either

each_of_three : (P : ℤ → Type 0) (a b c : ℤ) → P a → P b → P c → (l : ℤ) → IsIn (lits (a ∷ b ∷ c ∷ [])) l → P l
each_of_three P a b c pa pb pc l inside = by_first (int_eq l a) refl (among (a ∷ b ∷ c ∷ []) l inside) where
  by_first : (d : Bool) → int_eq l a ≡ d → (d || (int_eq l b || (int_eq l c || false))) ≡ true → P l
  by_first true same either = subst P (sym ((Decides-int_eq l a).0 same)) pa
  by_first false same either = each_of_two P b c pb pc l (is_in (b ∷ c ∷ []) l either)

each_clause : (P : LiveClause → Type 0) (a b c x : LiveClause) → P a → P b → P c → Contains (a ∷ b ∷ c ∷ []) x → P x
each_clause P a b c x pa pb pc contains = at contains.0 contains.1 contains.2 where
  at : (k : ℕ) → k < 3 → slice_index_or (a ∷ b ∷ c ∷ []) k x ≡ x → P x
  at zero lt is = subst P is pa
  at (suc zero) lt is = subst P is pb
  at (suc (suc zero)) lt is = subst P is pc
  at (suc (suc (suc k))) lt is = absurd (omega arith)

-- where only 4 is true, each clause has two literals without a value
settled_above : (clause : LiveClause) → Contains worked_clauses clause → IsSettled (record { lit = pos 4; level = 1; reason = None } ∷ []) clause.lits
settled_above clause contains =
    let es : List Entry = record { lit = pos 4; level = 1; reason = None } ∷ [] in
    each_clause (λ x. IsSettled es x.lits) first_clause second_clause third_clause clause
    (two_left (negsuc 0) (pos 2) (is_in (negsuc 0 ∷ pos 2 ∷ []) (negsuc 0) refl) (is_in (negsuc 0 ∷ pos 2 ∷ []) (pos 2) refl) (apart (negsuc 0) (pos 2) refl) (not_so (has es (pos 1)) refl) (not_so (has es (negsuc 1)) refl))
    (two_left (negsuc 1) (pos 3) (is_in (negsuc 1 ∷ negsuc 3 ∷ pos 3 ∷ []) (negsuc 1) refl) (is_in (negsuc 1 ∷ negsuc 3 ∷ pos 3 ∷ []) (pos 3) refl) (apart (negsuc 1) (pos 3) refl) (not_so (has es (pos 2)) refl) (not_so (has es (negsuc 2)) refl))
    (two_left (negsuc 2) (negsuc 1) (is_in (negsuc 2 ∷ negsuc 1 ∷ []) (negsuc 2) refl) (is_in (negsuc 2 ∷ negsuc 1 ∷ []) (negsuc 1) refl) (apart (negsuc 2) (negsuc 1) refl) (not_so (has es (pos 3)) refl) (not_so (has es (pos 2)) refl))
    contains

pub closed_below : IsClosedBelow worked_clauses worked_trail
closed_below = settled_above

pub closed_at_one : IsClosed worked_clauses (cut_to worked_trail 1)
closed_at_one = settled_above

-- the third clause has neither
unsettled : IsSettled worked_trail.entries third_clause.lits → ⊥
unsettled (satisfied l inside is) =
    each_of_two (λ m. Has worked_trail.entries m → ⊥) (negsuc 2) (negsuc 1) (not_so (has worked_trail.entries (negsuc 2)) refl) (not_so (has worked_trail.entries (negsuc 1)) refl) l inside is
unsettled (two_left l m inside inside' other not_false not_false') = not_false (each_of_two (λ k. HasNegated worked_trail.entries k) (negsuc 2) (negsuc 1) refl refl l inside)

pub not_closed : ¬ IsClosed worked_clauses worked_trail
not_closed closed = unsettled (closed third_clause (2, omega arith, refl))

no_reason : (reason : ℕ) → None ≡ Some reason → ⊥
no_reason reason is = cc

same_reason : (n m : ℕ) → Some n ≡ Some m → n ≡ m
same_reason n m is = cc

abbrev two_true : List Entry
two_true = record { lit = pos 4; level = 1; reason = None } ∷ record { lit = pos 1; level = 2; reason = None } ∷ []

abbrev three_true : List Entry
three_true = record { lit = pos 4; level = 1; reason = None } ∷ record { lit = pos 1; level = 2; reason = None } ∷ record { lit = pos 2; level = 2; reason = Some 0 } ∷ []

-- 2 is forced behind 4 and 1, and 3 behind these
forced_two : IsForced worked_clauses two_true (pos 2) 0
forced_two = record {
  clause = first_clause;
  is_live = refl;
  stands = is_in (negsuc 0 ∷ pos 2 ∷ []) (pos 2) refl;
  others_false = each_of_two (λ m. m ≢ pos 2 → HasNegated two_true m) (negsuc 0) (pos 2) (λ _. refl) (λ other. absurd (other refl));
}

forced_three : IsForced worked_clauses three_true (pos 3) 1
forced_three = record {
  clause = second_clause;
  is_live = refl;
  stands = is_in (negsuc 1 ∷ negsuc 3 ∷ pos 3 ∷ []) (pos 3) refl;
  others_false = each_of_three (λ m. m ≢ pos 3 → HasNegated three_true m) (negsuc 1) (negsuc 3) (pos 3) (λ _. refl) (λ _. refl) (λ other. absurd (other refl));
}

pub sound : IsSound worked_clauses worked_trail
sound = IsSound-from_each worked_clauses worked_trail.entries (
  λ reason is. absurd (no_reason reason is),
  (
    λ reason is. absurd (no_reason reason is),
    (
      λ reason is. subst (λ (n : ℕ). IsForced worked_clauses (two_true) (pos 2) n) (same_reason 0 reason is) forced_two,
      (λ reason is. subst (λ (n : ℕ). IsForced worked_clauses three_true (pos 3) n) (same_reason 1 reason is) forced_three, tt),
    ),
  ),
)

-- the first clause doesn't have 3
pub not_sound : ¬ IsSound worked_clauses (with_reason worked_trail 3 0)
not_sound is =
    let last : Entry = record { lit = pos 3; level = 2; reason = Some 0 } in
    let forced = is three_true [] last 0 refl refl in
    let P : LiveClause → Type 0 = λ clause. IsIn clause.lits (pos 3) in
    not_so (list_any (int_eq (pos 3)) (negsuc 0 ∷ pos 2 ∷ [])) refl (among (negsuc 0 ∷ pos 2 ∷ []) (pos 3) (subst P (sym (same_clause first_clause forced.clause forced.is_live)) forced.stands)) where
      same_clause : (x y : LiveClause) → Some x ≡ Some y → x ≡ y
      same_clause x y h = cc

-- -2 -4
abbrev point : Literals
point = lits (negsuc 1 ∷ negsuc 3 ∷ [])

by_signs : (a b d : Bool) → ((not a && (a || (b || false))) || (not false && (b || (d || (false || false))))) ≡ (b || (d || false))
by_signs true true true = refl
by_signs true true false = refl
by_signs true false true = refl
by_signs true false false = refl
by_signs false true true = refl
by_signs false true false = refl
by_signs false false true = refl
by_signs false false false = refl

abbrev before_signs : ℤ → Bool → Bool
before_signs q c = (not (int_eq q (negsuc 2)) && (int_eq q (negsuc 2) || (int_eq q (negsuc 1) || false))) || (not c && (int_eq q (negsuc 1) || (int_eq q (negsuc 3) || (c || false))))

by_three : (c : Bool) (q : ℤ) → int_eq q (pos 3) ≡ c → before_signs q (int_eq q (pos 3)) ≡ (int_eq q (negsuc 1) || (int_eq q (negsuc 3) || false))
by_three true q same = let P : ℤ → Type 0 = λ m. before_signs m (int_eq m (pos 3)) ≡ (int_eq m (negsuc 1) || (int_eq m (negsuc 3) || false)) in subst P (sym ((Decides-int_eq q (pos 3)).0 same)) refl
by_three false q same = ap (before_signs q) same ∙ by_signs (int_eq q (negsuc 2)) (int_eq q (negsuc 1)) (int_eq q (negsuc 3))

resolvent : resolved_on third_clause.lits (negsuc 2) second_clause ≡ point
resolvent = set.same_set int_cmp_total set.int_cmp-IsAntisymmetric (resolved_on third_clause.lits (negsuc 2) second_clause) point (λ q.
    set.contains-union int_cmp_total (set.remove third_clause.lits (negsuc 2)) (set.remove second_clause.lits (pos 3)) q
    ∙ ap (λ b. b || set.contains (set.remove second_clause.lits (pos 3)) q) (set.contains-remove int_cmp_total third_clause.lits (negsuc 2) q ∙ ap (λ b. not (int_eq q (negsuc 2)) && b) (set.contains-from_list int_cmp_total (negsuc 2 ∷ negsuc 1 ∷ []) q))
    ∙ ap (λ b. (not (int_eq q (negsuc 2)) && list_any (int_eq q) (negsuc 2 ∷ negsuc 1 ∷ [])) || b) (set.contains-remove int_cmp_total second_clause.lits (pos 3) q ∙ ap (λ b. not (int_eq q (pos 3)) && b) (set.contains-from_list int_cmp_total (negsuc 1 ∷ negsuc 3 ∷ pos 3 ∷ []) q))
    ∙ by_three (int_eq q (pos 3)) q refl
    ∙ sym (set.contains-from_list int_cmp_total (negsuc 1 ∷ negsuc 3 ∷ []) q))

one_left : HasOneCurrent worked_trail point
one_left = record {
  one = negsuc 1;
  is_current = record { is_in = is_in (negsuc 1 ∷ negsuc 3 ∷ []) (negsuc 1) refl; of_level = refl };
  alone = λ m current. each_of_two (λ l. level_of worked_trail.entries (variable_of l) ≡ Some 2 → l ≡ negsuc 1) (negsuc 1) (negsuc 3) (λ _. refl) (λ is. absurd (let same : 1 ≡ 2 = same_reason 1 2 is in omega (arith, same))) m current.is_in current.of_level;
}

two_left_over : HasTwoCurrent worked_trail third_clause.lits
two_left_over = record {
  first = negsuc 2;
  second = negsuc 1;
  apart = apart (negsuc 2) (negsuc 1) refl;
  first_current = record { is_in = is_in (negsuc 2 ∷ negsuc 1 ∷ []) (negsuc 2) refl; of_level = refl };
  second_current = record { is_in = is_in (negsuc 2 ∷ negsuc 1 ∷ []) (negsuc 1) refl; of_level = refl };
}

three_last : IsLast worked_clauses worked_trail third_clause.lits (negsuc 2) second_clause
three_last = record {
  before = three_true;
  entry = record { lit = pos 3; level = 2; reason = Some 1 };
  after = [];
  reason = 1;
  is_in = is_in (negsuc 2 ∷ negsuc 1 ∷ []) (negsuc 2) refl;
  stands = refl;
  negated = refl;
  none_later = λ m _ is. not_so (has [] (negation m)) refl is;
  has_reason = refl;
  is_live = refl;
}

pub uip : IsUip worked_clauses worked_trail third_clause.lits point
uip = record {
  above_zero = omega arith;
  all_false = each_of_two (λ l. HasNegated worked_trail.entries l) (negsuc 2) (negsuc 1) refl refl;
  leads = resolved third_clause.lits point (negsuc 2) second_clause two_left_over three_last (subst (λ (s : Literals). LeadsTo worked_clauses worked_trail s point) (sym resolvent) (reached point one_left));
}

-- -1 -4, the decisions' negations, is another set
pub not_decisions : ¬ IsUip worked_clauses worked_trail third_clause.lits (lits (negsuc 0 ∷ negsuc 3 ∷ []))
not_decisions other =
    let same : point ≡ lits (negsuc 0 ∷ negsuc 3 ∷ []) = has_one_point worked_clauses worked_trail third_clause.lits point (lits (negsuc 0 ∷ negsuc 3 ∷ [])) uip other in
    let P : Literals → Type 0 = λ s. IsIn s (negsuc 1) in
    not_so (list_any (int_eq (negsuc 1)) (negsuc 0 ∷ negsuc 3 ∷ [])) refl (among (negsuc 0 ∷ negsuc 3 ∷ []) (negsuc 1) (subst P same (is_in (negsuc 1 ∷ negsuc 3 ∷ []) (negsuc 1) refl)))
