-- The hash of a set of literals, as one more is put in.
use Rattle.std.proofs.Common.{◌≡◌, ◌≢◌, ℕ, zero, suc, ◌+◌, ◌<◌, ◌≤◌, Bool, true, false, ◌||◌, ◌%◌, ◌^◌, cond, List, [], ◌∷◌, ◌++◌, length, take, get_or, refl, sym, ap, ◌∙◌, inl, inr, arith}
use Rattle.std.specs.Prelude.{ℤ, pos, negsuc, ◌⊎◌}
use Rattle.std.specs.FinSet as set
use Rattle.std.specs.Ordering.{int_cmp, int_eq, eq_by_cmp}
use Rattle.std.proofs.lemmas.Cmp.{int_cmp_total}
use Rattle.std.proofs.lemmas.Bool.Decides.{Decides-int_eq}
use Rattle.std.proofs.lemmas.Bool.Decides.{nat_tests}
use Rattle.std.proofs.lemmas.List.{take_more}
use Rattle.std.proofs.Math.Nat.{mod-add-mod}
use Rattle.lls_lit.specs.Literal.{variable_of}
use Rattle.lls_lit.specs.Formula.{is_literal_of}
use Rattle.lls_store.specs.Clauses.{Literals}
use Rattle.lls_lemmas.specs.Indexed.{mixed, share, shares}

share_other : (lits : Literals) (l m : ℤ) → m ≢ l → share (set.insert lits l) m ≡ share lits m
share_other lits l m other = ap (λ b. cond b (mixed m) 0) (set.contains-insert int_cmp_total lits l m ∙ ap (λ b. b || set.contains lits m) apart) where
  apart : eq_by_cmp int_cmp m l ≡ false
  apart = elim (eq_by_cmp int_cmp m l) as (λ b. eq_by_cmp int_cmp m l ≡ b → b ≡ false) [
    | true ↦ λ is. absurd (other ((Decides-int_eq m l).0 is))
    | false ↦ λ _. refl
  ] refl

share_here : (lits : Literals) (l : ℤ) → set.contains lits l ≡ false → share (set.insert lits l) l ≡ share lits l + mixed l
share_here lits l none =
    let here : share (set.insert lits l) l ≡ mixed l = ap (λ b. cond b (mixed l) 0) (set.contains-insert int_cmp_total lits l l ∙ ap (λ b. b || set.contains lits l) ((Decides-int_eq l l).1 refl)) in
    let before : share lits l ≡ 0 = ap (λ b. cond b (mixed l) 0) none in
    omega (arith, here, before)

-- a literal of a variable is one of two
either_sign : (l : ℤ) (v : ℕ) → variable_of l ≡ suc v → (l ≡ pos (v + 1)) ⊎ (l ≡ negsuc v)
either_sign (pos n) v is = inl (ap pos (omega (arith, is)))
either_sign (negsuc n) v is = inr (ap negsuc (omega (arith, is)))

-- a literal of a later variable adds nothing yet
shares_later : (lits : Literals) (l : ℤ) (n : ℕ) → n < variable_of l → shares (set.insert lits l) n ≡ shares lits n
shares_later lits l zero lt = refl
shares_later lits l (suc v) lt =
    let rest = shares_later lits l v (omega (arith, lt)) in
    let positive = share_other lits l (pos (v + 1)) (λ same. omega (arith, lt, ap variable_of same)) in
    let negative = share_other lits l (negsuc v) (λ same. omega (arith, lt, ap variable_of same)) in
    omega (arith, rest, positive, negative)

-- one more literal adds what stands for it
pub shares_more : (lits : Literals) (l : ℤ) (n : ℕ) → set.contains lits l ≡ false → 1 ≤ variable_of l → variable_of l ≤ n → shares (set.insert lits l) n ≡ shares lits n + mixed l
shares_more lits l zero none low high = absurd (omega (arith, low, high))
shares_more lits l (suc v) none low high = by (λ below. shares_more lits l v none low below) (int_eq l (pos (v + 1))) refl (int_eq l (negsuc v)) refl where
  apart : (m : ℤ) → int_eq l m ≡ false → m ≢ l
  apart m differs same = let clash : false ≡ true = sym differs ∙ (Decides-int_eq l m).1 (sym same) in absurd cc

  by : (variable_of l ≤ v → shares (set.insert lits l) v ≡ shares lits v + mixed l) → (a : Bool) → int_eq l (pos (v + 1)) ≡ a → (b : Bool) → int_eq l (negsuc v) ≡ b → shares (set.insert lits l) (suc v) ≡ shares lits (suc v) + mixed l
  by before true is true is' = let clash : pos (v + 1) ≡ negsuc v = sym ((Decides-int_eq l (pos (v + 1))).0 is) ∙ (Decides-int_eq l (negsuc v)).0 is' in absurd cc
  by before true is false is' =
      let same = (Decides-int_eq l (pos (v + 1))).0 is in
      let rest = shares_later lits l v (omega (arith, ap variable_of same)) in
      let positive : share (set.insert lits l) (pos (v + 1)) ≡ share lits (pos (v + 1)) + mixed l = ap (share (set.insert lits l)) (sym same) ∙ share_here lits l none ∙ ap (λ m. share lits m + mixed l) same in
      let negative = share_other lits l (negsuc v) (apart (negsuc v) is') in
      omega (arith, rest, positive, negative)
  by before false is true is' =
      let same = (Decides-int_eq l (negsuc v)).0 is' in
      let rest = shares_later lits l v (omega (arith, ap variable_of same)) in
      let positive = share_other lits l (pos (v + 1)) (apart (pos (v + 1)) is) in
      let negative : share (set.insert lits l) (negsuc v) ≡ share lits (negsuc v) + mixed l = ap (share (set.insert lits l)) (sym same) ∙ share_here lits l none ∙ ap (λ m. share lits m + mixed l) same in
      omega (arith, rest, positive, negative)
  by before false is false is' =
      let other : variable_of l ≢ suc v = λ at. elim (either_sign l v at) [
        | inl same ↦ apart (pos (v + 1)) is (sym same)
        | inr same ↦ apart (negsuc v) is' (sym same)
      ] in
      let below : variable_of l ≤ v = omega (arith, high, other) in
      let rest = before below in
      let positive = share_other lits l (pos (v + 1)) (apart (pos (v + 1)) is) in
      let negative = share_other lits l (negsuc v) (apart (negsuc v) is') in
      omega (arith, rest, positive, negative)

-- no literal adds nothing
pub shares_none : (n : ℕ) → shares set.empty n ≡ 0
shares_none zero = refl
shares_none (suc v) =
    let none : (l : ℤ) → share set.empty l ≡ 0 = λ l. ap (λ b. cond b (mixed l) 0) (set.contains-empty int_cmp l) in
    omega (arith, shares_none v, none (pos (v + 1)), none (negsuc v))

-- so does the sum of what stands for them
pub sum_more : (lits : Literals) (l : ℤ) (vars sum : ℕ) → sum ≡ shares lits vars % 2 ^ 64 → set.contains lits l ≡ false → is_literal_of vars l ≡ true → (sum + mixed l) % 2 ^ 64 ≡ shares (set.insert lits l) vars % 2 ^ 64
sum_more lits l vars sum is none within =
    let low : 1 ≤ variable_of l = grind (arith, nat_tests) in
    let high : variable_of l ≤ vars = grind (arith, nat_tests) in
    ap (λ s. (s + mixed l) % 2 ^ 64) is ∙ mod-add-mod (shares lits vars) (2 ^ 64) (mixed l) ∙ ap (λ s. s % 2 ^ 64) (sym (shares_more lits l vars none low high))

-- a literal that is in a set makes no other of it
pub insert_known : (lits : Literals) (l : ℤ) → set.contains lits l ≡ true → set.insert lits l ≡ lits
insert_known lits l inside = set.same_set int_cmp_total set.int_cmp-IsAntisymmetric (set.insert lits l) lits (λ q. set.contains-insert int_cmp_total lits l q ∙ by q (eq_by_cmp int_cmp q l) refl) where
  by : (q : ℤ) (b : Bool) → eq_by_cmp int_cmp q l ≡ b → (b || set.contains lits q) ≡ set.contains lits q
  by q true is = sym (ap (set.contains lits) ((Decides-int_eq q l).0 is) ∙ inside)
  by q false is = refl

-- one more of a list
pub set_more : (lits : List ℤ) (k : ℕ) (l : ℤ) → k < length lits → l ≡ get_or lits k l → set.from_list {R = int_cmp} (take (k + 1) lits) ≡ set.insert (set.from_list (take k lits)) l
set_more lits k l lt is =
    ap (λ (ls : List ℤ). set.from_list {R = int_cmp} ls) (take_more lits k l lt ∙ ap (λ m. take k lits ++ m ∷ []) (sym is)) ∙ set.from_list_push int_cmp_total set.int_cmp-IsAntisymmetric (take k lits) l
