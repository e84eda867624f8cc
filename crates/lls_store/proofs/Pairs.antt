-- Values as they are kept for each literal.
use Rattle.std.proofs.Common.{◌≡◌, ℕ, zero, suc, ◌+◌, ◌-◌, ◌*◌, ◌<◌, ◌≤◌, Bool, true, not, ◌&&◌, List, [], ◌∷◌, length, get_or, set, None, refl, sym, ap, ◌∙◌, arith}
use Rattle.std.specs.Prelude.{ℤ, pos, negsuc, Option, option_map, replicate}
use Rattle.std.proofs.lemmas.Bool.{and_parts}
use Rattle.std.proofs.lemmas.List.{get_or_read}
use Rattle.lls_lit.specs.Literal.{variable_of, index_of, is_positive}
use Rattle.lls_store.specs.declared.truths.Truth.{Truth}
use Rattle.lls_store.specs.declared.truths.Truth.TheVariants.{Unset, True, False}
use Rattle.lls_store.specs.TruthTable.{value_in, values_in, is_turned, are_paired, answer_for}

next_pair : (k : ℕ) → 2 * suc k ≡ suc (suc (2 * k))
next_pair k = omega arith

next_turned : (k : ℕ) → 2 * suc k + 1 ≡ suc (suc (2 * k + 1))
next_turned k = omega arith

pub length-values_in : (vs : List Truth) → are_paired vs ≡ true → length vs ≡ 2 * length (values_in vs)
length-values_in [] paired = refl
length-values_in (a ∷ []) paired = absurd cc
length-values_in (a ∷ b ∷ vs) paired = let rest = length-values_in vs (and_parts (is_turned a b) (are_paired vs) paired).1 in omega (arith, rest)

straight_read : (vs : List Truth) (k : ℕ) → are_paired vs ≡ true → k < length (values_in vs) → get_or (values_in vs) k None ≡ value_in (get_or vs (2 * k) Unset)
straight_read [] k paired lt = absurd (omega (arith, lt))
straight_read (a ∷ []) k paired lt = absurd cc
straight_read (a ∷ b ∷ vs) zero paired lt = refl
straight_read (a ∷ b ∷ vs) (suc k) paired lt =
    straight_read vs k (and_parts (is_turned a b) (are_paired vs) paired).1 (omega (arith, lt)) ∙ ap (λ n. value_in (get_or (a ∷ b ∷ vs) n Unset)) (sym (next_pair k))

value_turned : (a b : Truth) → is_turned a b ≡ true → option_map not (value_in a) ≡ value_in b
value_turned Unset Unset turned = refl
value_turned Unset True turned = absurd cc
value_turned Unset False turned = absurd cc
value_turned True Unset turned = absurd cc
value_turned True True turned = absurd cc
value_turned True False turned = refl
value_turned False Unset turned = absurd cc
value_turned False True turned = refl
value_turned False False turned = absurd cc

turned_read : (vs : List Truth) (k : ℕ) → are_paired vs ≡ true → k < length (values_in vs) → option_map not (get_or (values_in vs) k None) ≡ value_in (get_or vs (2 * k + 1) Unset)
turned_read [] k paired lt = absurd (omega (arith, lt))
turned_read (a ∷ []) k paired lt = absurd cc
turned_read (a ∷ b ∷ vs) zero paired lt = value_turned a b (and_parts (is_turned a b) (are_paired vs) paired).0
turned_read (a ∷ b ∷ vs) (suc k) paired lt =
    turned_read vs k (and_parts (is_turned a b) (are_paired vs) paired).1 (omega (arith, lt)) ∙ ap (λ n. value_in (get_or (a ∷ b ∷ vs) n Unset)) (sym (next_turned k))

-- the value of a literal is read at its place
pub answer_read : (vs : List Truth) (l : ℤ) → are_paired vs ≡ true → variable_of l - 1 < length (values_in vs) → answer_for (is_positive l) (get_or (values_in vs) (variable_of l - 1) None) ≡ value_in (get_or vs (index_of l) Unset)
answer_read vs (pos n) paired lt = straight_read vs (n - 1) paired lt
answer_read vs (negsuc n) paired lt =
    let at : n + 1 - 1 ≡ n = omega arith in
    ap (λ k. option_map not (get_or (values_in vs) k None)) at ∙ turned_read vs n paired (omega (arith, lt))

-- both literals of a variable written
pub record IsWritten (vs new : List Truth) (k : ℕ) (straight : Truth) : Type 0 where
  pub values : values_in new ≡ set (values_in vs) k (value_in straight)
  pub paired : are_paired new ≡ true

pub written : (vs : List Truth) (k : ℕ) (a b : Truth) → are_paired vs ≡ true → is_turned a b ≡ true → k < length (values_in vs) → IsWritten vs (set (set vs (2 * k) a) (2 * k + 1) b) k a
written [] k a b paired turned lt = absurd (omega (arith, lt))
written (v ∷ []) k a b paired turned lt = absurd cc
written (v ∷ w ∷ vs) zero a b paired turned lt = record {
  values = refl;
  paired = ap (λ t. t && are_paired vs) turned ∙ (and_parts (is_turned v w) (are_paired vs) paired).1;
}
written (v ∷ w ∷ vs) (suc k) a b paired turned lt =
    let parts = and_parts (is_turned v w) (are_paired vs) paired in
    let rest = written vs k a b parts.1 turned (omega (arith, lt)) in
    let P : ℕ → ℕ → Type 0 = λ m n. IsWritten (v ∷ w ∷ vs) (set (set (v ∷ w ∷ vs) m a) n b) (suc k) a in
    let here : P (suc (suc (2 * k))) (suc (suc (2 * k + 1))) = record {
      values = ap (λ os. value_in v ∷ os) rest.values;
      paired = ap (λ t. t && are_paired (set (set vs (2 * k) a) (2 * k + 1) b)) parts.0 ∙ rest.paired;
    } in
    rw (next_turned k, next_pair k) here

-- nothing has a value at first
pub unset_pairs : (vars : ℕ) → (values_in (replicate (2 * vars) Unset) ≡ replicate vars None) × (are_paired (replicate (2 * vars) Unset) ≡ true)
unset_pairs zero = (refl, refl)
unset_pairs (suc vars) =
    let rest = unset_pairs vars in
    rw next_pair (ap (λ os. None ∷ os) rest.0, rest.1)

-- the place of a literal is in the table
pub place_within : (vs : List Truth) (l : ℤ) → are_paired vs ≡ true → 1 ≤ variable_of l → variable_of l - 1 < length (values_in vs) → index_of l < length vs
place_within vs (pos n) paired low lt = omega (arith, length-values_in vs paired, lt, low)
place_within vs (negsuc n) paired low lt = omega (arith, length-values_in vs paired, lt)

-- what is read tells the value
pub answer_is : (vs : List Truth) (os : List (Option Bool)) (l : ℤ) (i : ℕ) (read : Truth) → values_in vs ≡ os → are_paired vs ≡ true → 1 ≤ variable_of l → variable_of l - 1 < length os → i ≡ index_of l → read ≡ get_or vs i read
    → value_in read ≡ answer_for (is_positive l) (get_or os (variable_of l - 1) None)
answer_is vs os l i read view paired low lt at is =
    let inside : variable_of l - 1 < length (values_in vs) = omega (arith, lt, ap length view) in
    let here : i < length vs = omega (arith, at, place_within vs l paired low inside) in
    ap value_in (get_or_read vs i read here is Unset)
    ∙ ap (λ n. value_in (get_or vs n Unset)) at
    ∙ sym (answer_read vs l paired inside)
    ∙ ap (λ (xs : List (Option Bool)). answer_for (is_positive l) (get_or xs (variable_of l - 1) None)) view
