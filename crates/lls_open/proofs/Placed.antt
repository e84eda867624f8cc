-- At a place: the values of the cells and of the open classes' variables satisfy the tables' clauses where the next value is
-- the rule's.
use Rattle.std.proofs.Common.{◌≡◌, ℕ, zero, suc, ◌<◌, List, [], ◌∷◌, Bool, true, false, cond, not, ◌&&◌, ◌||◌, length, get_or, refl, ◌∙◌, sym, arith}
use Rattle.std.specs.List.{list_any}
use Rattle.std.proofs.Math.Bool.{beq}
use Rattle.std.proofs.lemmas.Bool.{and_from}
use Rattle.lls_rule.specs.Rule.{answer}
use Rattle.lls_problem.specs.Problem.{PosedProblem}
use Rattle.lls_open.specs.declared.class.SideClass.{SideClass}
use Rattle.lls_open.specs.Between.{IsBetween, AreEnds}
use Rattle.lls_open.specs.Classes.{is_of, gives, class_number, open_classes}
use Rattle.lls_open.specs.Decoding.{class_value, is_chosen}
use Rattle.lls_open.proofs.Constant.{gives-answer}
use Rattle.lls_open.proofs.Opened.{answers-open, any_open}
use Rattle.lls_open.proofs.Ranges.{any_none, any_at}

-- a class of some that a test finds
record IsAmong (p : SideClass → Bool) (xs : List SideClass) (d : SideClass) : Type 0 where
  k : ℕ
  inside : k < length xs
  passes : p (get_or xs k d) ≡ true

found_among : (p : SideClass → Bool) (xs : List SideClass) (d : SideClass) → list_any p xs ≡ true → IsAmong p xs d
found_among p [] d any = cc
found_among p (x ∷ xs) d any =
    elim (p x) as (λ b. p x ≡ b → (b || list_any p xs) ≡ true → IsAmong p (x ∷ xs) d) [
      | true ↦ λ here any. record { k = 0; inside = omega arith; passes = here }
      | false ↦ λ here any. let later = found_among p xs d any in record { k = suc later.k; inside = omega (arith, later.inside); passes = later.passes }
    ] refl any

neither_of : (b c : Bool) → (b || c) ≡ false → (b ≡ false) × (c ≡ false)
neither_of true c e = cc
neither_of false c e = (refl, e)

none_among : (p : SideClass → Bool) (xs : List SideClass) (d : SideClass) (k : ℕ) → list_any p xs ≡ false → k < length xs → p (get_or xs k d) ≡ false
none_among p [] d k none inside = absurd (omega (arith, inside))
none_among p (x ∷ xs) d zero none inside = (neither_of (p x) (list_any p xs) none).0
none_among p (x ∷ xs) d (suc k) none inside = none_among p xs d k (neither_of (p x) (list_any p xs) none).1 (omega (arith, inside))

unless_of : (b c : Bool) → (b ≡ true → c ≡ false) → (b && c) ≡ false
unless_of true c e = e refl
unless_of false c e = refl

same_bits : (b c d : Bool) → not (b && not (beq c d)) ≡ true → b ≡ true → c ≡ d
same_bits true true true e of = refl
same_bits true true false e of = cc
same_bits true false true e of = cc
same_bits true false false e of = refl
same_bits false c d e of = cc

low_bit : (any a last : Bool) → not (not any && cond a (not last) last) ≡ true → any ≡ false → last ≡ a
low_bit true a last e none = cc
low_bit false true true e none = refl
low_bit false true false e none = cc
low_bit false false true e none = cc
low_bit false false false e none = refl

or_of : (a b : Bool) → a ≡ false → (a || b) ≡ b
or_of true b e = cc
or_of false b e = refl

or_none : (a b : Bool) → b ≡ false → (a || b) ≡ a
or_none true b e = refl
or_none false b e = e

-- what the clauses say of a neighbourhood and the next value
pub record Says (p : PosedProblem) (high : List Bool) (values : List Bool) (n : ℕ) (last : Bool) : Type 0 where
  pub settled : not (not (list_any (λ class. is_of class n) (open_classes p.rule high)) && cond (answer p.rule n) (not last) last) ≡ true
  pub classes : (k : ℕ) → k < length (open_classes p.rule high) → not (is_of (class_number (open_classes p.rule high) k) n && not (beq last (class_value p values k))) ≡ true

abbrev chosen_at : PosedProblem → List Bool → List Bool → ℕ → ℕ → Bool
chosen_at p high values n k = is_of (class_number (open_classes p.rule high) k) n && class_value p values k

-- then the next value is the decoded rule's
pub next-by_clauses : (p : PosedProblem) (high : List Bool) (values : List Bool) (n : ℕ) (last : Bool) → AreEnds p.rule high → n < 512 → Says p high values n last
    → last ≡ (answer p.rule n || is_chosen p (open_classes p.rule high) values n)
next-by_clauses p high values n last ends h says =
    let classes = open_classes p.rule high in
    elim (list_any (λ class. is_of class n) classes) as (λ b. list_any (λ class. is_of class n) classes ≡ b → last ≡ (answer p.rule n || is_chosen p classes values n)) [
      | true ↦ λ any.
          let at = found_among (λ class. is_of class n) classes (class_number [] 0) any in
          let value : last ≡ class_value p values at.k = same_bits _ last _ (says.classes at.k at.inside) at.passes in
          let dead = answers-open p.rule high at.k n ends.low_isotropic ends.high_isotropic at.inside h at.passes in
          let chosen : is_chosen p classes values n ≡ last = elim last as (λ b. last ≡ b → is_chosen p classes values n ≡ b) [
            | true ↦ λ live. any_at (chosen_at p high values n) 0 (length classes) at.k (omega arith) (omega (arith, at.inside)) (and_from _ _ at.passes (sym value ∙ live))
            | false ↦ λ live. any_none (chosen_at p high values n) 0 (length classes) (λ k low high_in.
                unless_of (is_of (class_number classes k) n) (class_value p values k) (λ of. sym (same_bits _ last (class_value p values k) (says.classes k (omega (arith, high_in))) of) ∙ live))
          ] refl in
          sym (or_of (answer p.rule n) _ dead.0 ∙ chosen)
      | false ↦ λ none.
          let unchosen : is_chosen p classes values n ≡ false = any_none (chosen_at p high values n) 0 (length classes) (λ k low high_in.
          unless_of (is_of (class_number classes k) n) (class_value p values k) (λ of. absurd (true_false (sym of ∙ none_among (λ class. is_of class n) classes (class_number [] 0) k none (omega (arith, high_in)))))) in
          low_bit _ (answer p.rule n) last says.settled none ∙ sym (or_none (answer p.rule n) _ unchosen)
    ] refl
  where
    true_false : true ≡ false → ⊥
    true_false e = cc

-- and where a rule between says the next value, and the variables what it gives, the clauses hold
holds_low : (any a last : Bool) → (any ≡ false → last ≡ a) → not (not any && cond a (not last) last) ≡ true
holds_low true a last e = refl
holds_low false true true e = refl
holds_low false true false e = let no = e refl in cc
holds_low false false true e = let no = e refl in cc
holds_low false false false e = refl

holds_class : (b c d : Bool) → (b ≡ true → c ≡ d) → not (b && not (beq c d)) ≡ true
holds_class true true true e = refl
holds_class true true false e = let no = e refl in cc
holds_class true false true e = let no = e refl in cc
holds_class true false false e = refl
holds_class false c d e = refl

settled_answer : (low high rule : List Bool) (n : ℕ) → AreEnds low high → IsBetween low high rule → n < 512 → list_any (λ class. is_of class n) (open_classes low high) ≡ false → answer rule n ≡ answer low n
settled_answer low high rule n ends between h none =
    elim (answer low n) as (λ b. answer low n ≡ b → answer rule n ≡ b) [
      | true ↦ λ live. between.above n h live
      | false ↦ λ dead. elim (answer high n) as (λ b. answer high n ≡ b → answer rule n ≡ false) [
        | true ↦ λ open_here. absurd (true_false (sym (any_open low high n ends.low_isotropic ends.high_isotropic h dead open_here) ∙ none))
        | false ↦ λ shut. between.below n h shut
      ] refl
    ] refl
  where
    true_false : true ≡ false → ⊥
    true_false e = cc

pub says-by_rule : (p : PosedProblem) (high rule values : List Bool) (n : ℕ) (last : Bool) → AreEnds p.rule high → IsBetween p.rule high rule → n < 512 → last ≡ answer rule n
    → ((k : ℕ) → k < length (open_classes p.rule high) → class_value p values k ≡ gives rule (class_number (open_classes p.rule high) k)) → Says p high values n last
says-by_rule p high rule values n last ends between h next given = record {
  settled = holds_low _ (answer p.rule n) last (λ none. next ∙ settled_answer p.rule high rule n ends between h none);
  classes = λ k inside. holds_class _ last _ (λ of. next ∙ sym (gives-answer rule (class_number (open_classes p.rule high) k) n between.isotropic h of) ∙ sym (given k inside));
}
