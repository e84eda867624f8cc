-- Cells of one name: what it takes that they agree.
use Rattle.std.proofs.Common.{◌≡◌, ◌<◌, ◌≤◌, ℕ, zero, suc, Bool, true, false, not, List, length, refl, sym, ap, ◌∙◌, subst, arith, None, Some, inl, inr, eqb, get_or}
use Rattle.std.specs.Prelude.{◌⊎◌}
use Rattle.std.proofs.Math.Bool.{beq}
use Rattle.std.specs.Cmp.{booleans_Decides}
use Rattle.std.proofs.lemmas.Bool.{eqb-true, eq-eqb, cases_lt}
use Rattle.lls_search_file.specs.declared.cell.Cell.{Cell}
use Rattle.lls_search_file.specs.declared.cell.Kind.{Kind}
use Rattle.lls_search_file.specs.declared.cell.Kind.TheVariants.{Dead, Live, Free, Named, Negated}
use Rattle.lls_search_file.specs.Posed.{name_of}
use Rattle.lls_problem.specs.Solution.{cell_number, AreTied, MeetsCells}
use Rattle.lls_problem.specs.Named.{named_value}
use Rattle.lls_problem.specs.Judgement.{KeepsBit, KeepsName, IsFirstOfName}

not_not : (b : Bool) → not (not b) ≡ b
not_not true = refl
not_not false = refl

-- two cells of one name are tied where they give it one value
pub AreTied-by_value : (n : ℕ) (first kind : Kind) (a b : Bool) → name_of first ≡ Some n → name_of kind ≡ Some n
    → named_value first a ≡ named_value kind b → AreTied first kind a b
AreTied-by_value n Dead kind a b e e' same = tt
AreTied-by_value n Live kind a b e e' same = tt
AreTied-by_value n Free kind a b e e' same = tt
AreTied-by_value n (Named m) Dead a b e e' same = tt
AreTied-by_value n (Named m) Live a b e e' same = tt
AreTied-by_value n (Named m) Free a b e e' same = tt
AreTied-by_value n (Named m) (Named m') a b e e' same = λ one. same
AreTied-by_value n (Named m) (Negated m') a b e e' same = λ one. same
AreTied-by_value n (Negated m) Dead a b e e' same = tt
AreTied-by_value n (Negated m) Live a b e e' same = tt
AreTied-by_value n (Negated m) Free a b e e' same = tt
AreTied-by_value n (Negated m) (Named m') a b e e' same = λ one. sym (not_not a) ∙ ap not same
AreTied-by_value n (Negated m) (Negated m') a b e e' same = λ one. sym (not_not a) ∙ ap not same ∙ not_not b

-- and only there
pub named_value-by_tied : (n : ℕ) (first kind : Kind) (a b : Bool) → name_of first ≡ Some n → name_of kind ≡ Some n
    → AreTied first kind a b → named_value first a ≡ named_value kind b
named_value-by_tied n Dead kind a b e e' tied = cc
named_value-by_tied n Live kind a b e e' tied = cc
named_value-by_tied n Free kind a b e e' tied = cc
named_value-by_tied n (Named m) Dead a b e e' tied = cc
named_value-by_tied n (Named m) Live a b e e' tied = cc
named_value-by_tied n (Named m) Free a b e e' tied = cc
named_value-by_tied n (Negated m) Dead a b e e' tied = cc
named_value-by_tied n (Negated m) Live a b e e' tied = cc
named_value-by_tied n (Negated m) Free a b e e' tied = cc
named_value-by_tied n (Named m) (Named m') a b e e' tied = let one : m ≡ m' = cc in tied one
named_value-by_tied n (Named m) (Negated m') a b e e' tied = let one : m ≡ m' = cc in tied one
named_value-by_tied n (Negated m) (Named m') a b e e' tied = let one : m ≡ m' = cc in ap not (tied one) ∙ not_not b
named_value-by_tied n (Negated m) (Negated m') a b e e' tied = let one : m ≡ m' = cc in ap not (tied one)

-- cells that aren't of one name are tied
AreTied-by_names : (first kind : Kind) (a b : Bool) → ((n : ℕ) → name_of first ≡ Some n → name_of kind ≡ Some n → AreTied first kind a b) → AreTied first kind a b
AreTied-by_names Dead kind a b each = tt
AreTied-by_names Live kind a b each = tt
AreTied-by_names Free kind a b each = tt
AreTied-by_names (Named m) Dead a b each = tt
AreTied-by_names (Named m) Live a b each = tt
AreTied-by_names (Named m) Free a b each = tt
AreTied-by_names (Named m) (Named m') a b each = λ one. each m refl (ap Some (sym one)) one
AreTied-by_names (Named m) (Negated m') a b each = λ one. each m refl (ap Some (sym one)) one
AreTied-by_names (Negated m) Dead a b each = tt
AreTied-by_names (Negated m) Live a b each = tt
AreTied-by_names (Negated m) Free a b each = tt
AreTied-by_names (Negated m) (Named m') a b each = λ one. each m refl (ap Some (sym one)) one
AreTied-by_names (Negated m) (Negated m') a b each = λ one. each m refl (ap Some (sym one)) one

-- a cell has the name or not
same_or_not : (m n : ℕ) (b : Bool) → eqb m n ≡ b → (m ≡ n) ⊎ (m ≡ n → ⊥)
same_or_not m n true e = inl (eqb-true m n e)
same_or_not m n false e = inr (λ one. let yes' = eq-eqb m n one in cc)

has_name_or_not : (kind : Kind) (n : ℕ) → (name_of kind ≡ Some n) ⊎ (name_of kind ≡ Some n → ⊥)
has_name_or_not Dead n = inr (λ e. cc)
has_name_or_not Live n = inr (λ e. cc)
has_name_or_not Free n = inr (λ e. cc)
has_name_or_not (Named m) n = elim (same_or_not m n (eqb m n) refl) [ inl one ↦ inl (ap Some one) | inr other ↦ inr (λ e. let one : m ≡ n = cc in other one) ]
has_name_or_not (Negated m) n = elim (same_or_not m n (eqb m n) refl) [ inl one ↦ inl (ap Some one) | inr other ↦ inr (λ e. let one : m ≡ n = cc in other one) ]

-- among the first k cells none has the name, or there is a first one
first_or_none : (cells : List Cell) (n k : ℕ) → k ≤ length cells
    → ((j : ℕ) → j < k → name_of (cell_number cells j).kind ≡ Some n → ⊥) ⊎ ((first : ℕ) × IsFirstOfName cells n first)
first_or_none cells n zero within = inl (λ j none. absurd (omega arith))
first_or_none cells n (suc k) within =
    elim (first_or_none cells n k (omega arith)) [
      | inr found ↦ inr found
      | inl none ↦ elim (has_name_or_not (cell_number cells k).kind n) [
        | inl named ↦ inr (k, record { within = omega arith; named = named; before = none })
        | inr other ↦ inl (λ j below named. elim (cases_lt j k) [
          | inl less ↦ none j less named
          | inr last ↦ let one : j ≡ k = omega arith in other (subst (λ i. name_of (cell_number cells i).kind ≡ Some n) one named)
        ])
      ]
    ]

-- a name has a first cell
first_of : (cells : List Cell) (n k : ℕ) → k < length cells → name_of (cell_number cells k).kind ≡ Some n → (first : ℕ) × IsFirstOfName cells n first
first_of cells n k within named =
    elim (first_or_none cells n (suc k) (omega arith)) [
      | inr found ↦ found
      | inl none ↦ absurd (none k (omega arith) named)
    ]

-- and one alone
pub first_unique : (cells : List Cell) (n i j : ℕ) → IsFirstOfName cells n i → IsFirstOfName cells n j → i ≡ j
first_unique cells n i j a b =
    elim (cases_lt i j) [
      | inl less ↦ absurd (b.before i less a.named)
      | inr rest ↦ elim (cases_lt j i) [
        | inl less ↦ absurd (a.before j less b.named)
        | inr rest' ↦ omega arith
      ]
    ]

-- where each cell agrees with the first of its name, any two of one name agree
pub MeetsCells-by_firsts : (cells : List Cell) (values : List Bool) → ((k : ℕ) → k < length cells → KeepsBit cells values k)
    → ((k : ℕ) → k < length cells → KeepsName cells values k) → MeetsCells cells values
MeetsCells-by_firsts cells values fixed agree = record {
  fixed = fixed;
  tied = λ j k j_in k_in. AreTied-by_names _ _ _ _ (λ n j_named k_named.
      let first = first_of cells n j j_in j_named in
      let with_j = named_value-by_tied n _ _ (get_or values first.0 false) (get_or values j false) first.1.named j_named (agree j j_in n first.0 j_named first.1) in
      let with_k = named_value-by_tied n _ _ (get_or values first.0 false) (get_or values k false) first.1.named k_named (agree k k_in n first.0 k_named first.1) in
      AreTied-by_value n _ _ _ _ j_named k_named (sym with_j ∙ with_k));
}

-- a cell agrees with the first of its name where both give it one value
Keeps-by_value : (cells : List Cell) (values : List Bool) (k n first : ℕ) → name_of (cell_number cells k).kind ≡ Some n → IsFirstOfName cells n first
    → named_value (cell_number cells first).kind (get_or values first false) ≡ named_value (cell_number cells k).kind (get_or values k false) → KeepsName cells values k
Keeps-by_value cells values k n first named is same = λ n' first' named' is'.
    let name : n' ≡ n = cc in
    let one : first ≡ first' = first_unique cells n first first' is (subst (λ m. IsFirstOfName cells m first') name is') in
    AreTied-by_value n _ _ _ _ (subst (λ i. name_of (cell_number cells i).kind ≡ Some n) one is.named) named
    (subst (λ i. named_value (cell_number cells i).kind (get_or values i false) ≡ named_value (cell_number cells k).kind (get_or values k false)) one same)

-- so the test of these values decides it
pub KeepsName-by_test : (cells : List Cell) (values : List Bool) (k n first : ℕ) (a b : Bool) → Some n ≡ name_of (cell_number cells k).kind → IsFirstOfName cells n first
    → a ≡ named_value (cell_number cells first).kind (get_or values first false) → b ≡ named_value (cell_number cells k).kind (get_or values k false)
    → (beq a b ≡ true → KeepsName cells values k) × (KeepsName cells values k → beq a b ≡ true)
KeepsName-by_test cells values k n first a b named is first_value value =
    let decides = booleans_Decides a b in (
      λ test. Keeps-by_value cells values k n first (sym named) is (sym first_value ∙ decides.0 test ∙ value),
      λ keeps. decides.1 (first_value ∙ named_value-by_tied n _ _ _ _ is.named (sym named) (keeps n first (sym named) is) ∙ sym value),
    )

-- a cell without a name agrees
pub KeepsName-unnamed : (cells : List Cell) (values : List Bool) (k : ℕ) → name_of (cell_number cells k).kind ≡ None → KeepsName cells values k
KeepsName-unnamed cells values k unnamed = λ n first named is. cc
