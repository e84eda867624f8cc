-- The first of patterns that has the cells of generation 0.
use Rattle.std.proofs.Common.{◌≡◌, ◌≢◌, ◌<◌, ◌≤◌, ◌+◌, ℕ, Bool, true, false, List, [], ◌∷◌, length, refl, sym, ap, ◌∙◌, subst, arith, inl, inr}
use Rattle.std.proofs.Math.Bool.{beq}
use Rattle.std.specs.Prelude.{slice_index_or}
use Rattle.std.specs.Cmp.Lexicographic.{pointwise}
use Rattle.std.specs.List.{All}
use Rattle.std.proofs.lemmas.Bool.{and_parts, cases_lt}
use Rattle.std.proofs.lemmas.List.{get_or_default}
use Rattle.lls_problem.specs.Problem.{Pattern}
use Rattle.lls_problem.specs.Judgement.{IsFirstListed}

-- what a test of cells says
same_cell : (a b : Bool) → beq a b ≡ true → a ≡ b
same_cell true true is = refl
same_cell true false is = cc
same_cell false true is = cc
same_cell false false is = refl

same_as_itself : (a : Bool) → beq a a ≡ true
same_as_itself true = refl
same_as_itself false = refl

pub same_cells : (a b : List Bool) → pointwise beq a b ≡ true → a ≡ b
same_cells [] [] is = refl
same_cells [] (y ∷ ys) is = cc
same_cells (x ∷ xs) [] is = cc
same_cells (x ∷ xs) (y ∷ ys) is =
    let parts = and_parts (beq x y) (pointwise beq xs ys) is in
    ap (λ c. c ∷ xs) (same_cell x y parts.0) ∙ ap (λ cs. y ∷ cs) (same_cells xs ys parts.1)

all_same : (a : List Bool) → pointwise beq a a ≡ true
all_same [] = refl
all_same (x ∷ xs) = rw (same_as_itself x) (all_same xs)

pub other_cells : (a b : List Bool) → pointwise beq a b ≡ false → a ≢ b
other_cells a b is = λ same. let clash : pointwise beq a a ≡ false = subst (λ c. pointwise beq a c ≡ false) (sym same) is in let all = all_same a in cc

-- one pattern more has other cells
pub others_more : (patterns : List Pattern) (cells : List Bool) (n : ℕ) → ((m : ℕ) → m < n → slice_index_or patterns m [] ≢ cells) → slice_index_or patterns n [] ≢ cells
    → (m : ℕ) → m < n + 1 → slice_index_or patterns m [] ≢ cells
others_more patterns cells n before here m within = elim (cases_lt m n) [
  | inl less ↦ before m less
  | inr rest ↦ let same : n ≡ m = omega (arith, within, rest) in subst (λ k. slice_index_or patterns k [] ≢ cells) same here
]

-- this one has them, and those before have others
pub first_listed_at : (patterns : List Pattern) (cells : List Bool) (n : ℕ) → n < length patterns → slice_index_or patterns n [] ≡ cells
    → ((m : ℕ) → m < n → slice_index_or patterns m [] ≢ cells) → IsFirstListed patterns cells n
first_listed_at patterns cells n within same before = record { within = within; same = same; before = before }

-- all have others
pub none_listed : (patterns : List Pattern) (cells : List Bool) (n : ℕ) → length patterns ≤ n → ((m : ℕ) → m < n → slice_index_or patterns m [] ≢ cells) → All (λ pattern. cells ≢ pattern) patterns
none_listed patterns cells n all others = λ k d within same. others k (omega (arith, within, all)) (sym (same ∙ get_or_default patterns k d [] within))

-- where no pattern has them there is no first
pub first_listed_broken : (patterns : List Pattern) (cells : List Bool) (n : ℕ) → IsFirstListed patterns cells n → All (λ pattern. cells ≢ pattern) patterns → ⊥
first_listed_broken patterns cells n listed none = none n [] listed.within (sym listed.same)

-- there is one first
pub first_listed-one : (patterns : List Pattern) (cells : List Bool) (n m : ℕ) → IsFirstListed patterns cells n → IsFirstListed patterns cells m → n ≡ m
first_listed-one patterns cells n m one other = elim (cases_lt n m) [
  | inl less ↦ absurd (other.before n less one.same)
  | inr rest ↦ elim (cases_lt m n) [
    | inl more ↦ absurd (one.before m more other.same)
    | inr back ↦ omega (arith, rest, back)
  ]
]
