-- The literals of a table of stamps.
use Rattle.std.proofs.Common.{◌≡◌, ℕ, zero, suc, ◌+◌, ◌*◌, ◌<◌, ◌≤◌, ◌≢◌, Bool, true, false, not, ◌&&◌, ◌||◌, cond, eqb, List, [], ◌∷◌, length, get_or, set, refl, sym, ap, ◌∙◌, arith, add-zero, zero-add, eq-eqb}
use Rattle.std.specs.Prelude.{ℤ, pos, negsuc, All}
use Rattle.std.specs.List.{list_any}
use Rattle.std.specs.Ordering.{int_cmp, int_eq}
use Rattle.std.specs.FinSet as members
use Rattle.std.proofs.lemmas.List.Elements.{All-get_or}
use Rattle.std.proofs.lemmas.Cmp.{int_cmp_total}
use Rattle.std.proofs.lemmas.Bool.Decides.{Decides-int_eq, nat_tests}
use Rattle.lls_lit.specs.Literal.{IsLiteral, variable_of, index_of, literal_at}
use Rattle.lls_lit.specs.Stamps.{stamped, marked}
use Rattle.lls_lit.specs.Indices.{index_of-literal_at, literal_at-index_of}

or_swap : (a b c : Bool) → (a || (b || c)) ≡ (b || (a || c))
or_swap true true c = refl
or_swap true false c = refl
or_swap false b c = refl

or_again : (a c : Bool) → (a || c) ≡ (a || (a || c))
or_again true c = refl
or_again false c = refl

-- the literal of another place is another
not_there : (i : ℕ) (q : ℤ) → index_of q ≢ i → int_eq q (literal_at i) ≡ false
not_there i q other =
    elim (int_eq q (literal_at i)) as (λ b. int_eq q (literal_at i) ≡ b → b ≡ false) [
      | true ↦ λ is. absurd (other (ap index_of ((Decides-int_eq q (literal_at i)).0 is) ∙ index_of-literal_at i))
      | false ↦ λ _. refl
    ] refl

-- to stamp a place is to put its literal in
any-set : (i : ℕ) (ss : List ℕ) (j stamp : ℕ) (q : ℤ) → j < length ss → list_any (int_eq q) (stamped i (set ss j stamp) stamp) ≡ (int_eq q (literal_at (i + j)) || list_any (int_eq q) (stamped i ss stamp))
any-set i [] j stamp q lt = absurd (omega arith)
any-set i (s ∷ ss) zero stamp q lt =
    let rest = stamped (i + 1) ss stamp in
    let here = int_eq q (literal_at i) in
    let split : (here || list_any (int_eq q) rest) ≡ (here || list_any (int_eq q) (cond (eqb s stamp) (literal_at i ∷ rest) rest)) =
    elim (eqb s stamp) as (λ b. (here || list_any (int_eq q) rest) ≡ (here || list_any (int_eq q) (cond b (literal_at i ∷ rest) rest))) [
      | true ↦ or_again here (list_any (int_eq q) rest)
      | false ↦ refl
    ]
    in rw (eq-eqb stamp stamp refl, add-zero) split
any-set i (s ∷ ss) (suc j) stamp q lt =
    let before = stamped (i + 1) ss stamp in
    let now = stamped (i + 1) (set ss j stamp) stamp in
    let place : i + suc j ≡ i + 1 + j = omega arith in
    let more : list_any (int_eq q) now ≡ (int_eq q (literal_at (i + suc j)) || list_any (int_eq q) before) = rw place (any-set (i + 1) ss j stamp q (omega arith)) in
    elim (eqb s stamp) as (λ b. list_any (int_eq q) (cond b (literal_at i ∷ now) now) ≡ (int_eq q (literal_at (i + suc j)) || list_any (int_eq q) (cond b (literal_at i ∷ before) before))) [
      | true ↦ ap (λ b. int_eq q (literal_at i) || b) more ∙ or_swap (int_eq q (literal_at i)) (int_eq q (literal_at (i + suc j))) (list_any (int_eq q) before)
      | false ↦ more
    ]

-- no literal stands before its place
none_before : (i : ℕ) (ss : List ℕ) (stamp : ℕ) (q : ℤ) → index_of q < i → list_any (int_eq q) (stamped i ss stamp) ≡ false
none_before i [] stamp q lt = refl
none_before i (s ∷ ss) stamp q lt =
    let rest = none_before (i + 1) ss stamp q (omega arith) in
    let other : index_of q ≢ i = λ e. omega arith in
    elim (eqb s stamp) as (λ b. list_any (int_eq q) (cond b (literal_at i ∷ stamped (i + 1) ss stamp) (stamped (i + 1) ss stamp)) ≡ false) [
      | true ↦ rw (not_there i q other) rest
      | false ↦ rest
    ]

-- to give a place another stamp is to take its literal out
any-unset : (i : ℕ) (ss : List ℕ) (j stamp old : ℕ) (q : ℤ) → j < length ss → old < stamp → list_any (int_eq q) (stamped i (set ss j old) stamp) ≡ (not (int_eq q (literal_at (i + j))) && list_any (int_eq q) (stamped i ss stamp))
any-unset i [] j stamp old q lt before = absurd (omega arith)
any-unset i (s ∷ ss) zero stamp old q lt before =
    let rest = stamped (i + 1) ss stamp in
    let other : eqb old stamp ≡ false = grind (arith, nat_tests) in
    let gone : list_any (int_eq q) rest ≡ (not (int_eq q (literal_at i)) && list_any (int_eq q) (cond (eqb s stamp) (literal_at i ∷ rest) rest)) =
    elim (int_eq q (literal_at i)) as (λ h. int_eq q (literal_at i) ≡ h → list_any (int_eq q) rest ≡ (not h && list_any (int_eq q) (cond (eqb s stamp) (literal_at i ∷ rest) rest))) [
      | true ↦ λ is. none_before (i + 1) ss stamp q (let at : index_of q ≡ i = ap index_of ((Decides-int_eq q (literal_at i)).0 is) ∙ index_of-literal_at i in omega (arith, at))
      | false ↦ λ is. elim (eqb s stamp) as (λ b. list_any (int_eq q) rest ≡ list_any (int_eq q) (cond b (literal_at i ∷ rest) rest)) [ true ↦ rw is refl | false ↦ refl ]
    ] refl
    in rw (other, add-zero) gone
any-unset i (s ∷ ss) (suc j) stamp old q lt before =
    let were = stamped (i + 1) ss stamp in
    let now = stamped (i + 1) (set ss j old) stamp in
    let place : i + suc j ≡ i + 1 + j = omega arith in
    let there = int_eq q (literal_at (i + suc j)) in
    let fewer : list_any (int_eq q) now ≡ (not there && list_any (int_eq q) were) = rw place (any-unset (i + 1) ss j stamp old q (omega arith) before) in
    let here_no_more : there ≡ true → int_eq q (literal_at i) ≡ false =
    λ is. not_there i q (λ same. let at : index_of q ≡ i + suc j = ap index_of ((Decides-int_eq q (literal_at (i + suc j))).0 is) ∙ index_of-literal_at (i + suc j) in omega (arith, same, at))
    in
    elim (eqb s stamp) as (λ b. list_any (int_eq q) (cond b (literal_at i ∷ now) now) ≡ (not there && list_any (int_eq q) (cond b (literal_at i ∷ were) were))) [
      | true ↦ ap (λ b. int_eq q (literal_at i) || b) fewer ∙ and_or (int_eq q (literal_at i)) there (list_any (int_eq q) were) here_no_more
      | false ↦ fewer
    ]
  where
    and_or : (a b c : Bool) → (b ≡ true → a ≡ false) → (a || (not b && c)) ≡ (not b && (a || c))
    and_or a true c apart = rw (apart refl) refl
    and_or a false c apart = refl

-- a literal is there where its place has the stamp
any-stamped : (i : ℕ) (ss : List ℕ) (j stamp : ℕ) (q : ℤ) → IsLiteral q → index_of q ≡ i + j → j < length ss → list_any (int_eq q) (stamped i ss stamp) ≡ eqb (get_or ss j 0) stamp
any-stamped i [] j stamp q h e lt = absurd (omega arith)
any-stamped i (s ∷ ss) zero stamp q h e lt =
    let at : index_of q ≡ i = omega arith in
    let same : q ≡ literal_at i = sym (literal_at-index_of q h) ∙ ap literal_at at in
    elim (eqb s stamp) as (λ b. list_any (int_eq q) (cond b (literal_at i ∷ stamped (i + 1) ss stamp) (stamped (i + 1) ss stamp)) ≡ b) [
      | true ↦ ap (λ b. b || list_any (int_eq q) (stamped (i + 1) ss stamp)) ((Decides-int_eq q (literal_at i)).1 same)
      | false ↦ none_before (i + 1) ss stamp q (omega arith)
    ]
any-stamped i (s ∷ ss) (suc j) stamp q h e lt =
    let rest = any-stamped (i + 1) ss j stamp q h (omega arith) (omega arith) in
    let other : index_of q ≢ i = λ same. omega arith in
    elim (eqb s stamp) as (λ b. list_any (int_eq q) (cond b (literal_at i ∷ stamped (i + 1) ss stamp) (stamped (i + 1) ss stamp)) ≡ eqb (get_or ss j 0) stamp) [
      | true ↦ rw (not_there i q other) rest
      | false ↦ rest
    ]

-- a newer stamp stands nowhere
pub stamped-newer : (i : ℕ) (ss : List ℕ) (stamp : ℕ) → ((k : ℕ) → k < length ss → get_or ss k 0 < stamp) → stamped i ss stamp ≡ []
stamped-newer i [] stamp h = refl
stamped-newer i (s ∷ ss) stamp h =
    let first : s < stamp = h 0 (omega arith) in
    let other : eqb s stamp ≡ false = grind (arith, nat_tests) in
    rw other (stamped-newer (i + 1) ss stamp (λ k lt. h (suc k) (omega arith)))

-- where no place has the stamp, nothing is marked
pub marked-newer : (vars : ℕ) (stamps : List ℕ) (stamp : ℕ) → All (λ s. s < stamp) stamps → marked vars stamps stamp ≡ record { vars = vars; lits = members.empty }
marked-newer vars stamps stamp h =
    ap (λ (ls : List ℤ). record { vars = vars; lits = members.from_list ls }) (stamped-newer 0 stamps stamp (λ k lt. All-get_or (λ s. s < stamp) stamps k 0 lt h))

pub marked-put : (vars : ℕ) (stamps : List ℕ) (stamp : ℕ) (l : ℤ) → IsLiteral l → index_of l < length stamps → marked vars (set stamps (index_of l) stamp) stamp ≡ record { vars = vars; lits = members.insert (members.from_list (stamped 0 stamps stamp)) l }
marked-put vars stamps stamp l h lt =
    ap (λ s. record { vars = vars; lits = s })
    (members.same_set int_cmp_total members.int_cmp-IsAntisymmetric _ _ (λ q.
    members.contains-from_list int_cmp_total (stamped 0 (set stamps (index_of l) stamp) stamp) q
    ∙ any-set 0 stamps (index_of l) stamp q lt
    ∙ ap (λ m. int_eq q m || list_any (int_eq q) (stamped 0 stamps stamp)) (ap literal_at (zero-add (index_of l)) ∙ literal_at-index_of l h)
    ∙ sym (members.contains-insert int_cmp_total (members.from_list (stamped 0 stamps stamp)) l q ∙ ap (λ b. int_eq q l || b) (members.contains-from_list int_cmp_total (stamped 0 stamps stamp) q))))

pub marked-take : (vars : ℕ) (stamps : List ℕ) (stamp old : ℕ) (l : ℤ) → IsLiteral l → index_of l < length stamps → old < stamp → marked vars (set stamps (index_of l) old) stamp ≡ record { vars = vars; lits = members.remove (members.from_list (stamped 0 stamps stamp)) l }
marked-take vars stamps stamp old l h lt before =
    ap (λ s. record { vars = vars; lits = s })
    (members.same_set int_cmp_total members.int_cmp-IsAntisymmetric _ _ (λ q.
    members.contains-from_list int_cmp_total (stamped 0 (set stamps (index_of l) old) stamp) q
    ∙ any-unset 0 stamps (index_of l) stamp old q lt before
    ∙ ap (λ m. not (int_eq q m) && list_any (int_eq q) (stamped 0 stamps stamp)) (ap literal_at (zero-add (index_of l)) ∙ literal_at-index_of l h)
    ∙ sym (members.contains-remove int_cmp_total (members.from_list (stamped 0 stamps stamp)) l q ∙ ap (λ b. not (int_eq q l) && b) (members.contains-from_list int_cmp_total (stamped 0 stamps stamp) q))))

pub contains-marked : (stamps : List ℕ) (stamp : ℕ) (l : ℤ) → IsLiteral l → index_of l < length stamps → members.contains (members.from_list {R = int_cmp} (stamped 0 stamps stamp)) l ≡ eqb (get_or stamps (index_of l) 0) stamp
contains-marked stamps stamp l h lt =
    members.contains-from_list int_cmp_total (stamped 0 stamps stamp) l ∙ any-stamped 0 stamps (index_of l) stamp l h (omega arith) lt

-- a literal's place is in a table of two entries a variable
pub index_within : (l : ℤ) (vars : ℕ) → IsLiteral l → variable_of l ≤ vars → index_of l < 2 * vars
index_within (pos n) vars h le = omega (arith, h.0)
index_within (negsuc n) vars h le = omega arith
