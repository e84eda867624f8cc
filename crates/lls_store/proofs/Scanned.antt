-- A store that scans, with one more clause, and with another tail.
use Rattle.std.proofs.Common.{◌≡◌, ℕ, ◌+◌, ◌-◌, ◌<◌, ◌≤◌, true, List, [], ◌∷◌, ◌++◌, length, refl, sym, ap, subst, ◌∙◌, arith}
use Rattle.std.specs.Prelude.{ℤ, nat_lt, nat_le}
use Rattle.std.specs.FinSet as set
use Rattle.std.proofs.lemmas.Bool.{and_parts}
use Rattle.std.proofs.lemmas.Bool.Decides.{nat_tests}
use Rattle.std.proofs.lemmas.List.{length_push, map_push}
use Rattle.lls_store.specs.declared.store.TheConstants.{MOST_CLAUSES}
use Rattle.lls_store.specs.Trail.{TrailState}
use Rattle.lls_store.specs.Clauses.{LiveClause}
use Rattle.lls_store.specs.Sound.{IsSound}
use Rattle.lls_store.specs.Store.{StoreState, AreLive, AreWithin, IsNewId, with_clause}
use Rattle.lls_store.specs.Flat.{FlatState, KeptClause}
use Rattle.lls_store.specs.Scan.{ScanState, IsScan, IsTail, live_clause, live_in, room_of, store_of}
use Rattle.lls_store.proofs.Live.{AreLive-with_clause}
use Rattle.lls_store.proofs.SoundChanges.{IsSound-push}
use Rattle.lls_store.proofs.Tails.{IsTail-empty}

-- the clauses have one more, and the tail is empty
pub record HasMore (s t : ScanState) (id : ℕ) (lits : List ℤ) : Type 0 where
  pub vars : t.vars ≡ s.vars
  pub count : t.count ≡ s.count + 1
  pub clauses : t.flat.clauses ≡ s.flat.clauses ++ record { number = s.count; id = id; lits = lits } ∷ []
  pub tail : t.flat.tail ≡ []

-- a clause that was sealed
pub HasMore-sealed : (s : ScanState) (vars count : ℕ) (flat new : FlatState) (id : ℕ) (lits : List ℤ) → vars ≡ s.vars → count ≡ s.count + 1 → flat.clauses ≡ s.flat.clauses → flat.tail ≡ lits → new ≡ record flat { clauses = flat.clauses ++ record { number = s.count; id = id; lits = flat.tail } ∷ []; tail = []; spare_heads = flat.spare_heads - 1; tail_room = flat.tail_room - length flat.tail } → HasMore s (record { vars = vars; count = count; flat = new }) id lits
HasMore-sealed s vars count flat new id lits same_vars one_more clauses tail is = record {
  vars = same_vars;
  count = one_more;
  clauses = ap (λ (f : FlatState). f.clauses) is ∙ rw (clauses, tail) refl;
  tail = ap (λ (f : FlatState). f.tail) is;
}

live_more : (clauses : List KeptClause) (number id : ℕ) (lits : List ℤ) → live_in (clauses ++ record { number = number; id = id; lits = lits } ∷ []) ≡ live_in clauses ++ record { number = number; id = id; lits = set.from_list lits } ∷ []
live_more clauses number id lits = map_push live_clause clauses (record { number = number; id = id; lits = lits })

pub store_of-more : (s t : ScanState) (id : ℕ) (lits : List ℤ) → HasMore s t id lits → store_of t ≡ record (with_clause (store_of s) id lits) { tail = [] }
store_of-more s t id lits more =
    rw (more.vars, more.count, more.clauses, more.tail, live_more s.flat.clauses s.count id lits) refl

-- the tail says nothing of live clauses
AreLive-tail : (store : StoreState) (tail : List ℤ) → AreLive store → AreLive (record store { tail = tail })
AreLive-tail store tail live = record { ids = live.ids; numbers = live.numbers; given = live.given; ids_fit = live.ids_fit; within = live.within }

pub IsScan-more : (s t : ScanState) (id : ℕ) (lits : List ℤ) → HasMore s t id lits → IsScan s → IsNewId (live_in s.flat.clauses) id → AreWithin s.vars (set.from_list lits) → s.count < MOST_CLAUSES → IsScan t
IsScan-more s t id lits more scan new within fewer = record {
  are_live = subst AreLive (sym (store_of-more s t id lits more)) (AreLive-tail (with_clause (store_of s) id lits) [] (AreLive-with_clause (store_of s) id lits scan.are_live new within));
  fit = omega (arith, scan.fit, more.count, ap length more.clauses, length_push s.flat.clauses (record { number = s.count; id = id; lits = lits }));
  few = omega (arith, more.count);
  is_tail = subst (IsTail t.vars) (sym more.tail) (IsTail-empty t.vars);
}

pub IsSound-more : (s t : ScanState) (id : ℕ) (lits : List ℤ) (trail : TrailState) → HasMore s t id lits → IsSound (live_in s.flat.clauses) trail → IsSound (live_in t.flat.clauses) trail
IsSound-more s t id lits trail more sound =
    let P : List LiveClause → Type 0 = λ live. IsSound live trail in
    subst P (sym (ap live_in more.clauses ∙ live_more s.flat.clauses s.count id lits)) (IsSound-push (live_in s.flat.clauses) (record { number = s.count; id = id; lits = set.from_list lits }) trail sound)

-- the clauses are the same
pub IsSound-same : (clauses same : List KeptClause) (trail : TrailState) → same ≡ clauses → IsSound (live_in clauses) trail → IsSound (live_in same) trail
IsSound-same clauses same trail is sound =
    let P : List KeptClause → Type 0 = λ all. IsSound (live_in all) trail in
    subst P (sym is) sound

pub IsScan-tail : (s t : ScanState) → t.vars ≡ s.vars → t.count ≡ s.count → t.flat.clauses ≡ s.flat.clauses → IsTail s.vars t.flat.tail → IsScan s → IsScan t
IsScan-tail s t vars count clauses is_tail scan =
    let live : AreLive (record (store_of s) { tail = t.flat.tail }) = AreLive-tail (store_of s) t.flat.tail scan.are_live in
    let same : record (store_of s) { tail = t.flat.tail } ≡ store_of t = rw (vars, count, clauses) refl in
    record {
      are_live = subst AreLive same live;
      fit = omega (arith, ap length clauses, count, scan.fit);
      few = omega (arith, count, scan.few);
      is_tail = rw vars is_tail;
    }

pub room_parts : (s : ScanState) → room_of s ≡ true → (0 < s.flat.spare_heads) × (s.vars ≤ s.flat.tail_room)
room_parts s room =
    let parts = and_parts (nat_lt 0 s.flat.spare_heads) (nat_le s.vars s.flat.tail_room) room in
    (grind (arith, nat_tests, parts.0), grind (arith, nat_tests, parts.1))
