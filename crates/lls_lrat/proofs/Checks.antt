-- What holds of a checker's parts, after its marks reach further and after a good step.
use Rattle.std.proofs.Common.{◌≡◌, ℕ, ◌+◌, ◌<◌, ◌≤◌, Bool, true, false, cond, eqb, List, [], ◌∷◌, ◌++◌, length, get_or, take, Option, Some, None, refl, sym, ◌∙◌, arith, Bor}
use Rattle.std.specs.Prelude.{ℤ, filter, is_some, nat_le}
use Rattle.std.specs.List.{list_all, enumerate_from}
use Rattle.std.specs.Option.{option_copied}
use Rattle.std.proofs.lemmas.Bool.{and_parts, le-leb}
use Rattle.std.proofs.lemmas.Bool.Decides.{nat_tests}
use Rattle.std.proofs.lemmas.List.Folds.{list_all-append, list_all_more}
use Rattle.lls_lit.specs.Literal.{variable_of}
use Rattle.lls_lit.specs.Formula.{Clause, Cnf, is_literal_of, is_within}
use Rattle.lls_cnf.proofs.Within.{is_within-more}
use Rattle.lls_prooflog.specs.declared.step.Step.TheVariants.{Add, Del}
use Rattle.lls_prooflog.specs.declared.step.Step.{Step}
use Rattle.lls_prooflog.specs.Steps.{Live, numbered, find_clause, walk_on, fault_of, after, is_empty_addition, clauses_of, are_literals, has_literals, AreProper}
use Rattle.lls_prooflog.specs.Rat.{groups_of, rat_fault}
use Rattle.lls_prooflog.proofs.Proper.{AreProper-numbered, AreProper-after}
use Rattle.lls_prooflog.proofs.Soundness.{KeepsSatisfiable-numbered, KeepsSatisfiable-after, unsatisfiable_at_empty}
use Rattle.lls_lrat.specs.Hinted.{are_within}
use Rattle.lls_lrat.specs.Checking.{IsChecking}

-- a literal more
pub is_within-push : (v : ℕ) (clause : Clause) (i : ℕ) (d : ℤ) → i < length clause → is_within v (take i clause) ≡ true → (1 ≤ variable_of (get_or clause i d)) × (variable_of (get_or clause i d) ≤ v) → is_within v (take (i + 1) clause) ≡ true
is_within-push v clause i d lt e h =
    list_all_more (is_literal_of v) clause i d lt ∙ rw (e, le-leb 1 (variable_of (get_or clause i d)) h.0, le-leb (variable_of (get_or clause i d)) v h.1) refl

are_within-more : (v w : ℕ) (live : Live) → v ≤ w → are_within v live ≡ true → are_within w live ≡ true
are_within-more v w [] le e = refl
are_within-more v w (pair ∷ rest) le e =
    let both = and_parts (is_within v pair.1) (are_within v rest) e in
    rw (is_within-more v w pair.1 le both.0, are_within-more v w rest le both.1) refl

are_within-filter : (v : ℕ) (keep : ℕ × Clause → Bool) (live : Live) → are_within v live ≡ true → are_within v (filter keep live) ≡ true
are_within-filter v keep [] e = refl
are_within-filter v keep (pair ∷ rest) e =
    let both = and_parts (is_within v pair.1) (are_within v rest) e in
    let others = are_within-filter v keep rest both.1 in
    elim (keep pair) as (λ b. are_within v (cond b (pair ∷ filter keep rest) (filter keep rest)) ≡ true) [
      | true ↦ rw (both.0, others) refl
      | false ↦ others
    ]

pub are_within-numbered : (v n : ℕ) (clauses : List Clause) → list_all (is_within v) clauses ≡ true → are_within v (enumerate_from n clauses) ≡ true
are_within-numbered v n [] e = refl
are_within-numbered v n (c ∷ cs) e =
    let both = and_parts (is_within v c) (list_all (is_within v) cs) e in
    rw (both.0, are_within-numbered v (n + 1) cs both.1) refl

-- a literal of a variable isn't 0
literal_clause : (v : ℕ) (clause : Clause) → is_within v clause ≡ true → are_literals clause ≡ true
literal_clause v [] e = refl
literal_clause v (l ∷ ls) e =
    let both = and_parts (is_literal_of v l) (is_within v ls) e in
    rw ((and_parts (nat_le 1 (variable_of l)) (nat_le (variable_of l) v) both.0).0, literal_clause v ls both.1) refl

pub literals_within : (v : ℕ) (clauses : List Clause) → list_all (is_within v) clauses ≡ true → list_all are_literals clauses ≡ true
literals_within v [] e = refl
literals_within v (c ∷ cs) e =
    let both = and_parts (is_within v c) (list_all (is_within v) cs) e in
    rw (literal_clause v c both.0, literals_within v cs both.1) refl

literals_live : (v : ℕ) (live : Live) → are_within v live ≡ true → list_all are_literals (clauses_of live) ≡ true
literals_live v [] e = refl
literals_live v (pair ∷ rest) e =
    let both = and_parts (is_within v pair.1) (are_within v rest) e in
    rw (literal_clause v pair.1 both.0, literals_live v rest both.1) refl

proper_within : (formula : Cnf) (live : Live) (v : ℕ) → IsChecking formula live v false → AreProper live
proper_within formula live v h = record { apart = h.apart; literals = literals_live v live h.within }

differ : false ≡ true → ⊥
differ e = cc

pub IsChecking-start : (formula : Cnf) (v : ℕ) → list_all (is_within v) formula.clauses ≡ true → IsChecking formula (numbered formula.clauses) v false
IsChecking-start formula v e = record { within = are_within-numbered v 1 formula.clauses e; apart = (AreProper-numbered formula (literals_within v formula.clauses e)).apart; kept = KeepsSatisfiable-numbered formula; refuted = λ h. absurd (differ h) }

-- the marks reach further
pub IsChecking-reach : (formula : Cnf) (live : Live) (v w : ℕ) (done : Bool) → v ≤ w → IsChecking formula live v done → IsChecking formula live w done
IsChecking-reach formula live v w done le h = record { within = are_within-more v w live le h.within; apart = h.apart; kept = h.kept; refuted = h.refuted }

pub good_addition : (live : Live) (id : ℕ) (lits hints : List ℤ) → is_some (find_clause live id) ≡ false → walk_on live (rat_fault live lits (groups_of hints)) lits hints ≡ None → fault_of live (Add id lits hints) ≡ None
good_addition live id lits hints free closes = rw free closes

IsChecking-after : (formula : Cnf) (live : Live) (v : ℕ) (step : Step) (done : Bool) → IsChecking formula live v false → has_literals step ≡ true → are_within v (after live step) ≡ true → fault_of live step ≡ None → is_empty_addition step ≡ done → IsChecking formula (after live step) v done
IsChecking-after formula live v step done h ok w good empty =
    let proper = proper_within formula live v h in
    record {
      within = w;
      apart = (AreProper-after live step proper ok good).apart;
      kept = KeepsSatisfiable-after formula live step proper ok h.kept good;
      refuted = λ is. unsatisfiable_at_empty formula live step h.kept good (empty ∙ is);
    }

-- a clause was added
pub IsChecking-add : (formula : Cnf) (live : Live) (v : ℕ) (id : ℕ) (lits hints : List ℤ) (done : Bool) → IsChecking formula live v false → is_within v lits ≡ true → fault_of live (Add id lits hints) ≡ None → is_empty_addition (Add id lits hints) ≡ done → IsChecking formula (live ++ (id, lits) ∷ []) v done
IsChecking-add formula live v id lits hints done h w good empty =
    IsChecking-after formula live v (Add id lits hints) done h (literal_clause v lits w) (list_all-append (λ (pair : ℕ × Clause). is_within v pair.1) live ((id, lits) ∷ []) ∙ rw (h.within, w) refl) good empty

-- clauses were taken out
pub IsChecking-delete : (formula : Cnf) (live : Live) (v : ℕ) (ids : List ℕ) → IsChecking formula live v false → IsChecking formula (after live (Del ids)) v false
IsChecking-delete formula live v ids h = IsChecking-after formula live v (Del ids) false h refl (are_within-filter v _ live h.within) refl refl

pub is_empty_addition-Add : (id : ℕ) (lits hints : List ℤ) → is_empty_addition (Add id lits hints) ≡ eqb (length lits) 0
is_empty_addition-Add id [] hints = refl
is_empty_addition-Add id (l ∷ ls) hints = let e : eqb (length (l ∷ ls)) 0 ≡ false = grind (arith, nat_tests) in sym e

pub is_some-copied : {X : Type 0} (o : Option (Bor X)) → is_some (option_copied o) ≡ is_some o
is_some-copied None = refl
is_some-copied (Some r) = refl
