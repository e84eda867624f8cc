-- A pass over the clauses: what holds of the trail behind the first of them.
use Rattle.std.proofs.Common.{◌≡◌, inl, inr, ℕ, ◌+◌, ◌<◌, ◌≤◌, List, [], ◌∷◌, ◌++◌, length, get_or, take, Some, refl, sym, ap, subst, ◌∙◌, arith, append_assoc, length-append}
use Rattle.std.specs.Prelude.{ℤ, IsSome, map, option_map, slice_get}
use Rattle.std.specs.FinSet as set
use Rattle.std.proofs.lemmas.List.{append-nil, get_or-map, length_push, length-map, map_more}
use Rattle.std.proofs.lemmas.List.Elements.{All-nil, All-push, All-append, Contains-push_cases}
use Rattle.std.proofs.lemmas.Option.{same_Some, slice_get-map}
use Rattle.lls_store.specs.Trail.{Entry, TrailState, HasNegated}
use Rattle.lls_store.specs.Changes.{forced}
use Rattle.lls_store.specs.Clauses.{LiveClause, Literals, clause_numbered, IsIn}
use Rattle.lls_store.specs.Closed.{IsSettled, AreSettled}
use Rattle.lls_store.specs.Sound.{IsForced, IsSound}
use Rattle.lls_store.specs.Store.{AreWithin, GoesOn, IsConflict}
use Rattle.lls_store.specs.Standing.{IsLeft}
use Rattle.lls_store.specs.Flat.{KeptClause}
use Rattle.lls_store.specs.Scan.{AreRising, AreScannable, live_clause, live_in}
use Rattle.lls_store.proofs.Numbered.{holds_at}
use Rattle.lls_store.proofs.SoundChanges.{IsSound-forced}

pub GoesOn-same : (t : TrailState) → GoesOn t t
GoesOn-same t = record {
  added = [];
  grown = ap (λ (es : List Entry). record t { entries = es }) (sym (append-nil t.entries));
  of_level = All-nil (λ (e : Entry). e.level ≡ t.current);
  are_forced = All-nil (λ (e : Entry). IsSome e.reason);
}

pub GoesOn-forced : (old t : TrailState) (l : ℤ) (number : ℕ) → GoesOn old t → GoesOn old (forced t l number)
GoesOn-forced old t l number on =
    let entry : Entry = record { lit = l; level = t.current; reason = Some number } in
    record {
      added = on.added ++ entry ∷ [];
      grown = ap (λ (s : TrailState). forced s l number) on.grown ∙ rw (append_assoc, on.grown) refl;
      of_level = All-push (λ (e : Entry). e.level ≡ old.current) on.added entry on.of_level (ap (λ (s : TrailState). s.current) on.grown);
      are_forced = All-push (λ (e : Entry). IsSome e.reason) on.added entry on.are_forced refl;
    }

pub GoesOn-further : (old t new : TrailState) → GoesOn old t → GoesOn t new → GoesOn old new
GoesOn-further old t new first second =
    record {
      added = first.added ++ second.added;
      grown = second.grown ∙ rw (first.grown, append_assoc) refl;
      of_level = All-append (λ (e : Entry). e.level ≡ old.current) first.added second.added first.of_level (λ k d lt. second.of_level k d lt ∙ ap (λ (s : TrailState). s.current) first.grown);
      are_forced = All-append (λ (e : Entry). IsSome e.reason) first.added second.added first.are_forced second.are_forced;
    }

pub length-GoesOn : (old new : TrailState) → GoesOn old new → length old.entries ≤ length new.entries
length-GoesOn old new on = omega (arith, ap (λ (s : TrailState). length s.entries) on.grown, length-append old.entries on.added)

-- the clause that stands there, with its number, and the clauses up to it
pub record IsReadAt (clauses : List KeptClause) (k number : ℕ) (lits : List ℤ) : Type 0 where
  pub clause : LiveClause
  pub is_live : clause_numbered (live_in clauses) number ≡ Some clause
  pub has_lits : clause.lits ≡ set.from_list lits
  pub stands_at : (d : LiveClause) → get_or (live_in clauses) k d ≡ clause
  pub within : k < length clauses
  pub next : live_in (take (k + 1) clauses) ≡ live_in (take k clauses) ++ clause ∷ []

abbrev nothing : KeptClause
nothing = record { number = 0; id = 0; lits = [] }

abbrev numbers : List KeptClause → List ℕ
numbers clauses = map (λ (clause : KeptClause). clause.number) clauses

abbrev literals : List KeptClause → List (List ℤ)
literals clauses = map (λ (clause : KeptClause). clause.lits) clauses

pub read_at : (clauses : List KeptClause) (k number : ℕ) (lits : List ℤ) → AreRising (live_in clauses) → slice_get (numbers clauses) k ≡ Some number → slice_get (literals clauses) k ≡ Some lits → IsReadAt clauses k number lits
read_at clauses k number lits rising numbered read =
    let at = holds_at clauses k number rising numbered in
    let equal : at.clause.lits ≡ lits = same_Some at.clause.lits lits (ap (option_map (λ (clause : KeptClause). clause.lits)) (sym at.kept) ∙ sym (slice_get-map (λ (clause : KeptClause). clause.lits) clauses k) ∙ read) in
    record {
      clause = live_clause at.clause;
      is_live = at.is_live;
      has_lits = ap (λ (ls : List ℤ). set.from_list ls) equal;
      stands_at = λ d. get_or-map live_clause clauses k nothing d at.within ∙ ap live_clause (at.stands nothing);
      within = at.within;
      next = map_more live_clause clauses k nothing at.within ∙ ap (λ (c : KeptClause). live_in (take k clauses) ++ live_clause c ∷ []) (at.stands nothing);
    }

pub within_read : (vars : ℕ) (clauses : List KeptClause) (k number : ℕ) (lits : List ℤ) → AreScannable vars clauses → IsReadAt clauses k number lits → AreWithin vars (set.from_list lits)
within_read vars clauses k number lits scannable at =
    let P : LiveClause → Type 0 = λ clause. AreWithin vars clause.lits in
    subst (AreWithin vars) at.has_lits (subst P (at.stands_at at.clause) (scannable.within k at.clause (omega (arith, at.within, length-map clauses live_clause))))

pub IsConflict-read : (clauses : List KeptClause) (t : TrailState) (k number : ℕ) (lits : List ℤ) → IsReadAt clauses k number lits → ((l : ℤ) → IsIn (set.from_list lits) l → HasNegated t.entries l) → IsConflict (live_in clauses) t number
IsConflict-read clauses t k number lits at all_false = record {
  clause = at.clause;
  is_live = at.is_live;
  all_false = λ l inside. all_false l (subst (λ (s : Literals). IsIn s l) at.has_lits inside);
}

IsForced-read : (clauses : List KeptClause) (t : TrailState) (k number : ℕ) (lits : List ℤ) (l : ℤ) → IsReadAt clauses k number lits → IsLeft t.entries (set.from_list lits) l → IsForced (live_in clauses) t.entries l number
IsForced-read clauses t k number lits l at left = record {
  clause = at.clause;
  is_live = at.is_live;
  stands = subst (λ (s : Literals). IsIn s l) (sym at.has_lits) left.stands;
  others_false = λ m inside other. left.others_false m (subst (λ (s : Literals). IsIn s m) at.has_lits inside) other;
}

-- one clause more is settled
pub AreSettled-push : (live : List LiveClause) (clause : LiveClause) (entries : List Entry) → AreSettled live entries → IsSettled entries clause.lits → AreSettled (live ++ clause ∷ []) entries
AreSettled-push live clause entries settled new other contains =
    elim (Contains-push_cases live clause other contains) [
      | inl before ↦ settled other before
      | inr same ↦ subst (λ (c : LiveClause). IsSettled entries c.lits) same new
    ]

-- the trail behind the first clauses of a pass: where it is no longer than before, these are settled
pub record IsPassed (clauses : List KeptClause) (old : TrailState) (k : ℕ) (t : TrailState) : Type 0 where
  pub grown : GoesOn old t
  pub sound : IsSound (live_in clauses) t
  pub settled : length t.entries ≡ length old.entries → AreSettled (live_in (take k clauses)) t.entries

pub IsPassed-start : (clauses : List KeptClause) (old t : TrailState) → GoesOn old t → IsSound (live_in clauses) t → IsPassed clauses old 0 t
IsPassed-start clauses old t grown sound = record {
  grown = grown;
  sound = sound;
  settled = λ _ clause contains. absurd (omega (arith, contains.1));
}

pub IsPassed-settled : (clauses : List KeptClause) (old t : TrailState) (k number : ℕ) (lits : List ℤ) → IsPassed clauses old k t → IsReadAt clauses k number lits → IsSettled t.entries (set.from_list lits) → IsPassed clauses old (k + 1) t
IsPassed-settled clauses old t k number lits passed at settled = record {
  grown = passed.grown;
  sound = passed.sound;
  settled = λ same.
      subst (λ (live : List LiveClause). AreSettled live t.entries) (sym at.next)
      (AreSettled-push (live_in (take k clauses)) at.clause t.entries (passed.settled same) (subst (IsSettled t.entries) (sym at.has_lits) settled));
}

pub IsPassed-forced : (clauses : List KeptClause) (old t : TrailState) (k number : ℕ) (lits : List ℤ) (l : ℤ) → IsPassed clauses old k t → IsReadAt clauses k number lits → IsLeft t.entries (set.from_list lits) l → IsPassed clauses old (k + 1) (forced t l number)
IsPassed-forced clauses old t k number lits l passed at left = record {
  grown = GoesOn-forced old t l number passed.grown;
  sound = IsSound-forced (live_in clauses) t l number passed.sound (IsForced-read clauses t k number lits l at left);
  settled = λ same. absurd (omega (arith, same, length_push t.entries (record { lit = l; level = t.current; reason = Some number }), length-GoesOn old t passed.grown));
}
