-- Clauses by number, where the numbers rise.
use Rattle.std.proofs.Common.{◌≡◌, ◌≢◌, ℕ, suc, ◌<◌, cond, List, [], ◌∷◌, length, get_or, Option, Some, None, is_some, refl, sym, ap, ◌∙◌, arith}
use Rattle.std.specs.Prelude.{ℤ, All, map, slice_get, option_map, IfNone, IfSome}
use Rattle.std.specs.FinSet as set
use Rattle.std.proofs.lemmas.Bool.{ne_eqb}
use Rattle.std.proofs.lemmas.List.{get_or_default, get_or-map, length-map}
use Rattle.std.proofs.lemmas.Option.{same_Some, slice_get-get_or, slice_get-map, slice_get_within}
use Rattle.lls_store.specs.Clauses.{LiveClause, clause_numbered}
use Rattle.lls_store.specs.Flat.{KeptClause}
use Rattle.lls_store.specs.Scan.{AreRising, live_clause, live_in}
use Rattle.lls_store.proofs.Live.{clause_numbered-contained}

abbrev numbers : List KeptClause → List ℕ
numbers clauses = map (λ (clause : KeptClause). clause.number) clauses

abbrev nothing : KeptClause
nothing = record { number = 0; id = 0; lits = [] }

-- the clause of that number stands there
pub record HoldsAt (clauses : List KeptClause) (k number : ℕ) : Type 0 where
  pub clause : KeptClause
  pub within : k < length clauses
  pub kept : slice_get clauses k ≡ Some clause
  pub stands : (d : KeptClause) → get_or clauses k d ≡ clause
  pub numbered : clause.number ≡ number
  pub is_live : clause_numbered (live_in clauses) number ≡ Some (live_clause clause)

pub holds_at : (clauses : List KeptClause) (k number : ℕ) → AreRising (live_in clauses) → slice_get (numbers clauses) k ≡ Some number → HoldsAt clauses k number
holds_at clauses k number rising read =
    let lt : k < length clauses = omega (arith, slice_get_within (numbers clauses) k number read, length-map clauses (λ (clause : KeptClause). clause.number)) in
    let kept = get_or clauses k nothing in
    let found : slice_get clauses k ≡ Some kept = slice_get-get_or clauses k nothing lt in
    let is_numbered : kept.number ≡ number = same_Some kept.number number (ap (option_map (λ (clause : KeptClause). clause.number)) (sym found) ∙ sym (slice_get-map (λ (clause : KeptClause). clause.number) clauses k) ∙ read) in
    record {
      clause = kept;
      within = lt;
      kept = found;
      stands = λ d. get_or_default clauses k d nothing lt;
      numbered = is_numbered;
      is_live =
          ap (clause_numbered (live_in clauses)) (sym is_numbered)
          ∙ clause_numbered-contained (live_in clauses) (live_clause kept) rising (k, omega (arith, lt, length-map clauses live_clause), get_or-map live_clause clauses k nothing (live_clause kept) lt);
    }

-- no clause has the number
pub none_numbered : (clauses : List KeptClause) (number : ℕ) → All (λ (clause : KeptClause). clause.number ≢ number) clauses → clause_numbered (live_in clauses) number ≡ None
none_numbered [] number others = refl
none_numbered (c ∷ cs) number others =
    ap (λ b. cond b (Some (live_clause c)) (clause_numbered (live_in cs) number)) (ne_eqb c.number number (others 0 c (omega arith)))
    ∙ none_numbered cs number (λ k d lt. others (suc k) d (omega arith))

-- nothing is said of it
pub unless_numbered : (clauses : List KeptClause) (number : ℕ) (P : LiveClause → Type 0) → All (λ (clause : KeptClause). clause.number ≢ number) clauses → IfSome (clause_numbered (live_in clauses) number) P
unless_numbered clauses number P none = rw (none_numbered clauses number none) tt

-- a clause has the number exactly where one was found
pub is_some-place : (clauses : List KeptClause) (number : ℕ) (place : Option ℕ)
    → AreRising (live_in clauses)
    → IfSome place (λ k. slice_get (numbers clauses) k ≡ Some number)
    → IfNone place (All (λ (clause : KeptClause). clause.number ≢ number) clauses)
    → is_some place ≡ is_some (clause_numbered (live_in clauses) number)
is_some-place clauses number None rising found none = sym (ap is_some (none_numbered clauses number none))
is_some-place clauses number (Some k) rising found none = sym (ap is_some (holds_at clauses k number rising found).is_live)

-- what is read of a clause is so of the live one
module _ (clauses : List KeptClause) (k number : ℕ) (rising : AreRising (live_in clauses)) (numbered : slice_get (numbers clauses) k ≡ Some number) where
  pub id-numbered : (id : ℕ) → slice_get (map (λ (clause : KeptClause). clause.id) clauses) k ≡ Some id → IfSome (clause_numbered (live_in clauses) number) (λ clause. id ≡ clause.id)
  id-numbered id read =
      let at = holds_at clauses k number rising numbered in
      rw at.is_live (sym (same_Some at.clause.id id (ap (option_map (λ (clause : KeptClause). clause.id)) (sym at.kept) ∙ sym (slice_get-map (λ (clause : KeptClause). clause.id) clauses k) ∙ read)))

  pub lits-numbered : (lits : List ℤ) → slice_get (map (λ (clause : KeptClause). clause.lits) clauses) k ≡ Some lits → IfSome (clause_numbered (live_in clauses) number) (λ clause. set.from_list lits ≡ clause.lits)
  lits-numbered lits read =
      let at = holds_at clauses k number rising numbered in
      rw at.is_live (ap (λ (ls : List ℤ). set.from_list ls) (sym (same_Some at.clause.lits lits (ap (option_map (λ (clause : KeptClause). clause.lits)) (sym at.kept) ∙ sym (slice_get-map (λ (clause : KeptClause). clause.lits) clauses k) ∙ read))))
