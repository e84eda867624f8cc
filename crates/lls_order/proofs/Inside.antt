-- Which variables stand at the first places, as two places are exchanged.
use Rattle.std.proofs.Common.{◌≡◌, ◌≢◌, ℕ, ◌+◌, ◌<◌, ◌≤◌, Bool, true, false, List, length, get_or, set, sym, ap, ◌∙◌, inl, inr, arith}
use Rattle.std.specs.Prelude.{nat_lt, swap}
use Rattle.std.proofs.lemmas.List.{length-map, length-set, get_or-map, get_or-set_other, same_lists, get_or_default}
use Rattle.std.proofs.lemmas.List.Edits.{swapped_from_swap, length-swap}
use Rattle.std.proofs.lemmas.Bool.Decides.{eqb_tells, nat_tests}
use Rattle.std.proofs.lemmas.Grind.{get_or-set_at}
use Rattle.lls_order.specs.Heap.{AreInverse, inside_of}
use Rattle.lls_order.proofs.Tables.{first, second, neither, among}

-- what a place was, and what it is
pub data HasMoved (i j old new : ℕ) : Type 0 where
  to_first : old ≡ j → new ≡ i → HasMoved i j old new
  to_second : old ≡ i → new ≡ j → HasMoved i j old new
  stayed : new ≡ old → old ≢ i → old ≢ j → HasMoved i j old new

pub has_moved : (heap places new after : List ℕ) (i j : ℕ) → i < length heap → j < length heap → AreInverse heap places → AreInverse new after → new ≡ swap heap i j
    → (v : ℕ) → v < length heap → HasMoved i j (get_or places v 0) (get_or after v 0)
has_moved heap places new after i j i_in j_in old_tables new_tables is v v_in =
    let swapped = swapped_from_swap heap new i j 0 i_in j_in is in
    let same_length : length new ≡ length heap = ap length is ∙ length-swap heap i j in
    let k = get_or after v 0 in
    let k_in : k < length heap = omega (arith, same_length, new_tables.place_fits v (omega (arith, v_in, same_length))) in
    let stands : get_or new k 0 ≡ v = new_tables.number_back v (omega (arith, v_in, same_length)) in
    elim (among i j k) [
      | first k at ↦ to_first (ap (λ n. get_or places n 0) (sym stands ∙ ap (λ n. get_or new n 0) at ∙ swapped.0) ∙ old_tables.place_back j j_in) at
      | second k other at ↦ to_second (ap (λ n. get_or places n 0) (sym stands ∙ ap (λ n. get_or new n 0) at ∙ swapped.1) ∙ old_tables.place_back i i_in) at
      | neither k other_first other_second ↦
          let was : get_or places v 0 ≡ k = ap (λ n. get_or places n 0) (sym stands ∙ swapped.2 k other_first other_second) ∙ old_tables.place_back k k_in in
          stayed (sym was) (λ same. other_first (sym was ∙ same)) (λ same. other_second (sym was ∙ same))
    ]

-- the list of a test of each place
pub inside_of-is : (count : ℕ) (places : List ℕ) (bs : List Bool) → length bs ≡ length places
    → ((v : ℕ) → v < length places → nat_lt (get_or places v 0) count ≡ get_or bs v false) → inside_of count places ≡ bs
inside_of-is count places bs same_length at =
    let test = λ (place : ℕ). nat_lt place count in
    same_lists (inside_of count places) bs (length-map places test ∙ sym same_length) (λ v d v_in.
    let within : v < length places = omega (arith, v_in, length-map places test) in
    get_or-map test places v 0 d within ∙ at v within ∙ get_or_default bs v false d (omega (arith, within, same_length))
    )

pub get_or-inside_of : (count : ℕ) (places : List ℕ) (v : ℕ) → v < length places → get_or (inside_of count places) v false ≡ nat_lt (get_or places v 0) count
get_or-inside_of count places v within = get_or-map (λ place. nat_lt place count) places v 0 false within

pub same_test : (a b c d : ℕ) → (a < b → c < d) → (c < d → a < b) → nat_lt a b ≡ nat_lt c d
same_test a b c d to from = grind (arith, nat_tests)

-- an exchange before the cut leaves what stands before it
pub inside_of-exchanged : (heap places new after : List ℕ) (i j count : ℕ) → i < length heap → j < length heap → AreInverse heap places → AreInverse new after → new ≡ swap heap i j
    → i < count → j < count → inside_of count after ≡ inside_of count places
inside_of-exchanged heap places new after i j count i_in j_in old_tables new_tables is i_before j_before =
    let same_length : length after ≡ length places = new_tables.place_each ∙ ap length is ∙ length-swap heap i j ∙ sym old_tables.place_each in
    inside_of-is count after (inside_of count places) (length-map places (λ place. nat_lt place count) ∙ sym same_length) (λ v v_in.
    let within : v < length places = omega (arith, v_in, same_length) in
    by_move v (get_or places v 0) (get_or after v 0) (has_moved heap places new after i j i_in j_in old_tables new_tables is v (omega (arith, within, old_tables.place_each))) ∙ sym (get_or-inside_of count places v within)
    ) where
      by_move : (v old now : ℕ) → HasMoved i j old now → nat_lt now count ≡ nat_lt old count
      by_move v old now (to_first was is_now) = same_test now count old count (λ low. omega (arith, was, j_before)) (λ low. omega (arith, is_now, i_before))
      by_move v old now (to_second was is_now) = same_test now count old count (λ low. omega (arith, was, i_before)) (λ low. omega (arith, is_now, j_before))
      by_move v old now (stayed same other_first other_second) = ap (λ n. nat_lt n count) same

pub is_below : (a c : ℕ) → a < c → nat_lt a c ≡ true
is_below a c below = grind (arith, nat_tests)

pub not_below : (a c : ℕ) → c ≤ a → nat_lt a c ≡ false
not_below a c above = grind (arith, nat_tests)

-- the first is exchanged with the last place before the cut, which is one lower then
module _ (heap places new after : List ℕ) (count : ℕ) (within : count < length heap) (old_tables : AreInverse heap places) (new_tables : AreInverse new after) (is : new ≡ swap heap 0 count) where
  first_in : 0 < length heap
  first_in = omega (arith, within)

  removed_at : (v : ℕ) → v < length heap → nat_lt (get_or after v 0) count ≡ get_or (set (inside_of (count + 1) places) (get_or heap 0 0) false) v false
  removed_at v v_in =
      let x = get_or heap 0 0 in
      let bs = inside_of (count + 1) places in
      let length_bs : length bs ≡ length heap = length-map places (λ place. nat_lt place (count + 1)) ∙ old_tables.place_each in
      let moved = has_moved heap places new after 0 count first_in within old_tables new_tables is v v_in in
      elim (eqb_tells v x) [
        | inl t ↦ gone v (get_or places v 0) (get_or after v 0) moved (ap (λ n. get_or places n 0) t.1 ∙ old_tables.place_back 0 first_in) ∙ sym (get_or-set_at bs x v false false t.1 (omega (arith, length_bs, old_tables.number_fits 0 first_in)))
        | inr t ↦
            stays v (get_or places v 0) (get_or after v 0) moved (λ zero. t.1 (sym (old_tables.number_back v v_in) ∙ ap (λ n. get_or heap n 0) zero))
            ∙ sym (get_or-inside_of (count + 1) places v (omega (arith, v_in, old_tables.place_each)))
            ∙ sym (get_or-set_other bs x v false false t.1)
      ] where
        gone : (v old now : ℕ) → HasMoved 0 count old now → old ≡ 0 → nat_lt now count ≡ false
        gone v old now (to_first was is_now) zero = not_below now count (omega (arith, was, zero))
        gone v old now (to_second was is_now) zero = not_below now count (omega (arith, is_now))
        gone v old now (stayed same other_first other_second) zero = absurd (other_first zero)

        stays : (v old now : ℕ) → HasMoved 0 count old now → (old ≡ 0 → ⊥) → nat_lt now count ≡ nat_lt old (count + 1)
        stays v old now (to_first was is_now) some = is_below now count (omega (arith, was, is_now, some)) ∙ sym (is_below old (count + 1) (omega (arith, was)))
        stays v old now (to_second was is_now) some = absurd (some was)
        stays v old now (stayed same other_first other_second) some = same_test now count old (count + 1) (λ low. omega (arith, same)) (λ low. omega (arith, same, other_second))

  pub inside_of-removed : inside_of count after ≡ set (inside_of (count + 1) places) (get_or heap 0 0) false
  inside_of-removed =
      let same_length : length after ≡ length heap = new_tables.place_each ∙ ap length is ∙ length-swap heap 0 count in
      inside_of-is count after (set (inside_of (count + 1) places) (get_or heap 0 0) false)
      (length-set (inside_of (count + 1) places) (get_or heap 0 0) false ∙ length-map places (λ place. nat_lt place (count + 1)) ∙ old_tables.place_each ∙ sym same_length)
      (λ v v_in. removed_at v (omega (arith, v_in, same_length)))

-- a place behind the cut is exchanged with the first there, and the cut is one higher then
module _ (heap places new after : List ℕ) (place count : ℕ) (within : place < length heap) (behind : count ≤ place) (old_tables : AreInverse heap places) (new_tables : AreInverse new after) (is : new ≡ swap heap place count) where
  count_in : count < length heap
  count_in = omega (arith, within, behind)

  inserted_at : (v : ℕ) → v < length heap → nat_lt (get_or after v 0) (count + 1) ≡ get_or (set (inside_of count places) (get_or heap place 0) true) v false
  inserted_at v v_in =
      let x = get_or heap place 0 in
      let bs = inside_of count places in
      let length_bs : length bs ≡ length heap = length-map places (λ at. nat_lt at count) ∙ old_tables.place_each in
      let moved = has_moved heap places new after place count within count_in old_tables new_tables is v v_in in
      elim (eqb_tells v x) [
        | inl t ↦ comes v (get_or places v 0) (get_or after v 0) moved (ap (λ n. get_or places n 0) t.1 ∙ old_tables.place_back place within) ∙ sym (get_or-set_at bs x v true false t.1 (omega (arith, length_bs, old_tables.number_fits place within)))
        | inr t ↦
            stays v (get_or places v 0) (get_or after v 0) moved (λ same. t.1 (sym (old_tables.number_back v v_in) ∙ ap (λ n. get_or heap n 0) same))
            ∙ sym (get_or-inside_of count places v (omega (arith, v_in, old_tables.place_each)))
            ∙ sym (get_or-set_other bs x v true false t.1)
      ] where
        comes : (v old now : ℕ) → HasMoved place count old now → old ≡ place → nat_lt now (count + 1) ≡ true
        comes v old now (to_first was is_now) at = is_below now (count + 1) (omega (arith, was, is_now, at))
        comes v old now (to_second was is_now) at = is_below now (count + 1) (omega (arith, is_now))
        comes v old now (stayed same other_first other_second) at = absurd (other_first at)

        stays : (v old now : ℕ) → HasMoved place count old now → (old ≡ place → ⊥) → nat_lt now (count + 1) ≡ nat_lt old count
        stays v old now (to_first was is_now) some = not_below now (count + 1) (omega (arith, was, is_now, some, behind)) ∙ sym (not_below old count (omega (arith, was)))
        stays v old now (to_second was is_now) some = absurd (some was)
        stays v old now (stayed same other_first other_second) some = same_test now (count + 1) old count (λ low. omega (arith, same, other_second)) (λ low. omega (arith, same))

  pub inside_of-inserted : inside_of (count + 1) after ≡ set (inside_of count places) (get_or heap place 0) true
  inside_of-inserted =
      let same_length : length after ≡ length heap = new_tables.place_each ∙ ap length is ∙ length-swap heap place count in
      inside_of-is (count + 1) after (set (inside_of count places) (get_or heap place 0) true)
      (length-set (inside_of count places) (get_or heap place 0) true ∙ length-map places (λ at. nat_lt at count) ∙ old_tables.place_each ∙ sym same_length)
      (λ v v_in. inserted_at v (omega (arith, v_in, same_length)))
