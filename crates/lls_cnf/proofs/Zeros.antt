-- Numbers cut at zeros: the clauses that were written with a zero each.
use Rattle.std.proofs.Common.{◌≡◌, ℕ, zero, suc, ◌<◌, true, false, List, [], ◌∷◌, ◌++◌, length, refl, sym, ap, ◌∙◌, append_assoc, arith}
use Rattle.std.specs.Prelude.{ℤ, pos, negsuc, None, Ok, Err}
use Rattle.std.specs.List.{list_all, flat_map, onto_first}
use Rattle.std.proofs.lemmas.Bool.{and_parts}
use Rattle.std.proofs.lemmas.List.{append-nil, nil_from_length}
use Rattle.lls_lit.specs.Formula.{Clause, is_literal_of, is_within}
use Rattle.lls_cnf.specs.declared.dimacs_fault.DimacsFault.TheVariants.{Unended}
use Rattle.lls_cnf.specs.Dimacs.{Numbered, is_zero, is_ended, cut_at_zeros, ended_clauses, first_fault, numbers_of, clauses_in}
use Rattle.lls_cnf.specs.Reading.{written}

-- a literal isn't zero
is_zero-literal : (vars : ℕ) (l : ℤ) → is_literal_of vars l ≡ true → is_zero l ≡ false
is_zero-literal vars (pos zero) e = absurd cc
is_zero-literal vars (pos (suc n)) e = refl
is_zero-literal vars (negsuc n) e = refl

-- a clause and its zero
cut_at_zeros-clause : (vars : ℕ) (clause numbers : List ℤ) → is_within vars clause ≡ true → cut_at_zeros (clause ++ pos 0 ∷ numbers) ≡ clause ∷ cut_at_zeros numbers
cut_at_zeros-clause vars [] numbers w = refl
cut_at_zeros-clause vars (l ∷ ls) numbers w =
    let parts = and_parts (is_literal_of vars l) (is_within vars ls) w in
    rw (is_zero-literal vars l parts.0) (ap (onto_first l) (cut_at_zeros-clause vars ls numbers parts.1))

clause_first : (clause : Clause) (clauses : List Clause) (open_clause : List ℤ) → written (clause ∷ clauses) open_clause ≡ clause ++ pos 0 ∷ written clauses open_clause
clause_first clause clauses open_clause =
    rw (append_assoc (clause ++ pos 0 ∷ []) (flat_map (λ c. c ++ pos 0 ∷ []) clauses) open_clause, append_assoc clause (pos 0 ∷ []) (flat_map (λ c. c ++ pos 0 ∷ []) clauses ++ open_clause)) refl

pub cut_at_zeros-written : (vars : ℕ) (clauses : List Clause) → list_all (is_within vars) clauses ≡ true → cut_at_zeros (written clauses []) ≡ clauses
cut_at_zeros-written vars [] w = refl
cut_at_zeros-written vars (clause ∷ clauses) w =
    let parts = and_parts (is_within vars clause) (list_all (is_within vars) clauses) w in
    rw (clause_first clause clauses [], cut_at_zeros-clause vars clause (written clauses []) parts.0, cut_at_zeros-written vars clauses parts.1) refl

-- the end of numbers is that of what stands behind a zero
is_ended-zero : (numbers : List ℤ) → is_ended (pos 0 ∷ numbers) ≡ is_ended numbers
is_ended-zero [] = refl
is_ended-zero (n ∷ ns) = refl

is_ended-clause : (clause numbers : List ℤ) → is_ended (clause ++ pos 0 ∷ numbers) ≡ is_ended numbers
is_ended-clause [] numbers = is_ended-zero numbers
is_ended-clause (l ∷ []) numbers = is_ended-zero numbers
is_ended-clause (l ∷ m ∷ ms) numbers = is_ended-clause (m ∷ ms) numbers

is_ended-written : (clauses : List Clause) (open_clause : List ℤ) → is_ended (written clauses open_clause) ≡ is_ended open_clause
is_ended-written [] open_clause = refl
is_ended-written (clause ∷ clauses) open_clause =
    rw (clause_first clause clauses open_clause, is_ended-clause clause (written clauses open_clause)) (is_ended-written clauses open_clause)

is_ended-open : (vars : ℕ) (clause : List ℤ) → is_within vars clause ≡ true → 0 < length clause → is_ended clause ≡ false
is_ended-open vars [] w some = absurd (omega arith)
is_ended-open vars (l ∷ []) w some = is_zero-literal vars l (and_parts (is_literal_of vars l) true w).0
is_ended-open vars (l ∷ m ∷ ms) w some = is_ended-open vars (m ∷ ms) (and_parts (is_literal_of vars l) (is_within vars (m ∷ ms)) w).1 (omega arith)

-- the clauses that were written with a zero each
pub ended_clauses-written : (vars : ℕ) (clauses : List Clause) → list_all (is_within vars) clauses ≡ true → ended_clauses (written clauses []) ≡ Ok clauses
ended_clauses-written vars clauses w = rw (is_ended-written clauses [], cut_at_zeros-written vars clauses w) refl

-- a clause is left that has no zero
pub ended_clauses-open : (vars : ℕ) (clauses : List Clause) (open_clause : List ℤ) → is_within vars open_clause ≡ true → 0 < length open_clause → ended_clauses (written clauses open_clause) ≡ Err Unended
ended_clauses-open vars clauses open_clause w some = rw (is_ended-written clauses open_clause, is_ended-open vars open_clause w some) refl

-- nothing is left of words without a fault, which write these numbers
without_fault : (vars : ℕ) (words left : List Numbered) (numbers : List ℤ) → left ≡ [] → first_fault vars left ≡ first_fault vars words → numbers ++ numbers_of left ≡ numbers_of words → clauses_in vars words ≡ ended_clauses numbers
without_fault vars words left numbers none same e =
    let faultless : first_fault vars words ≡ None = sym same ∙ ap (first_fault vars) none in
    let all : numbers_of words ≡ numbers = sym e ∙ ap (λ (ws : List Numbered). numbers ++ numbers_of ws) none ∙ append-nil numbers in
    rw (faultless, all) refl

pub clauses_in-ended : (vars : ℕ) (words left : List Numbered) (clauses : List Clause) (open_clause : List ℤ) → left ≡ [] → first_fault vars left ≡ first_fault vars words → written clauses open_clause ++ numbers_of left ≡ numbers_of words
    → list_all (is_within vars) clauses ≡ true → length open_clause ≡ 0 → clauses_in vars words ≡ Ok clauses
clauses_in-ended vars words left clauses open_clause none same e w empty =
    let nothing : open_clause ≡ [] = nil_from_length open_clause empty in
    without_fault vars words left (written clauses []) none same (rw nothing at e) ∙ ended_clauses-written vars clauses w

pub clauses_in-open : (vars : ℕ) (words left : List Numbered) (clauses : List Clause) (open_clause : List ℤ) → left ≡ [] → first_fault vars left ≡ first_fault vars words → written clauses open_clause ++ numbers_of left ≡ numbers_of words
    → is_within vars open_clause ≡ true → 0 < length open_clause → clauses_in vars words ≡ Err Unended
clauses_in-open vars words left clauses open_clause none same e w some =
    without_fault vars words left (written clauses open_clause) none same e ∙ ended_clauses-open vars clauses open_clause w some
