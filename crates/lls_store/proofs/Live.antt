-- What holds of all live clauses: kept by one more, and what it says of one of them.
use Rattle.std.proofs.Common.{◌≡◌, ◌≢◌, ℕ, zero, suc, ◌+◌, ◌<◌, ◌≤◌, Bool, true, false, cond, List, [], ◌∷◌, length, get_or, Option, Some, None, refl, sym, ap, subst, ◌∙◌, arith}
use Rattle.std.specs.Prelude.{ℤ, All, AllPairs, Contains, IsSome, IfSome, ◌==◌}
use Rattle.std.specs.FinSet as set
use Rattle.std.proofs.lemmas.Bool.{eq-eqb, ne_eqb}
use Rattle.std.proofs.lemmas.Bool.Decides.{Decides-eqb}
use Rattle.std.proofs.lemmas.List.{get_or_default}
use Rattle.std.proofs.lemmas.List.Elements.{All-contains, All-push}
use Rattle.std.proofs.lemmas.List.Quantifiers.{all_pairs_push}
use Rattle.lls_store.specs.declared.store.TheConstants.{MOST_ID}
use Rattle.lls_store.specs.Clauses.{LiveClause, clause_numbered}
use Rattle.lls_store.specs.Store.{StoreState, AreLive, AreWithin, IsNewId, with_clause}

All-weaker : (P Q : LiveClause → Type 0) (xs : List LiveClause) → ((x : LiveClause) → P x → Q x) → All P xs → All Q xs
All-weaker P Q xs weaker all = λ k d lt. weaker (get_or xs k d) (all k d lt)

new_at : (store : StoreState) (id k : ℕ) (d : LiveClause) → IsNewId store.live id → k < length store.live → (get_or store.live k d).id ≢ id
new_at store id k d new lt = new.new (get_or store.live k d) (k, lt, get_or_default store.live k (get_or store.live k d) d lt)

pub AreLive-with_clause : (store : StoreState) (id : ℕ) (lits : List ℤ) → AreLive store → IsNewId store.live id → AreWithin store.vars (set.from_list lits) → AreLive (with_clause store id lits)
AreLive-with_clause store id lits live new within =
    let clause : LiveClause = record { number = store.count; id = id; lits = set.from_list lits } in
    record {
      ids = all_pairs_push (λ (a b : LiveClause). a.id ≢ b.id) store.live clause live.ids (λ k d lt. new_at store id k d new lt);
      numbers = all_pairs_push (λ (a b : LiveClause). a.number < b.number) store.live clause live.numbers (λ k d lt. live.given k d lt);
      given = All-push (λ (a : LiveClause). a.number < store.count + 1) store.live clause (All-weaker (λ (a : LiveClause). a.number < store.count) (λ (a : LiveClause). a.number < store.count + 1) store.live (λ a lt. omega arith) live.given) (omega arith);
      ids_fit = All-push (λ (a : LiveClause). (1 ≤ a.id) × (a.id ≤ MOST_ID)) store.live clause live.ids_fit (new.least, new.most);
      within = All-push (λ (a : LiveClause). AreWithin store.vars a.lits) store.live clause live.within within;
    }

-- the clause that was found has the number, and is live
pub record IsFound (live : List LiveClause) (number : ℕ) (clause : LiveClause) : Type 0 where
  pub numbered : clause.number ≡ number
  pub contained : Contains live clause

pub found : (live : List LiveClause) (number : ℕ) (clause : LiveClause) → clause_numbered live number ≡ Some clause → IsFound live number clause
found [] number clause is = absurd cc
found (x ∷ xs) number clause is = by_first (x.number == number) refl is (found xs number clause) where
  later : IsFound xs number clause → IsFound (x ∷ xs) number clause
  later rest = record { numbered = rest.numbered; contained = (suc rest.contained.0, omega (arith, rest.contained.1), rest.contained.2) }

  by_first : (test : Bool) → (x.number == number) ≡ test → cond test (Some x) (clause_numbered xs number) ≡ Some clause → (clause_numbered xs number ≡ Some clause → IsFound xs number clause) → IsFound (x ∷ xs) number clause
  by_first true is_number same rest =
      let equal : x ≡ clause = cc in
      record { numbered = ap (λ (c : LiveClause). c.number) (sym equal) ∙ (Decides-eqb x.number number).0 is_number; contained = (0, omega arith, equal) }
  by_first false other same rest = later (rest same)

pub number_given : (store : StoreState) (number : ℕ) (clause : LiveClause) → AreLive store → clause_numbered store.live number ≡ Some clause → number < store.count
number_given store number clause live is =
    let at = found store.live number clause is in
    let given : clause.number < store.count = All-contains (λ (a : LiveClause). a.number < store.count) store.live clause live.given at.contained in
    omega (arith, given, at.numbered)

-- literals that were read of a live clause are of the store's variables
pub AreWithin-read : (store : StoreState) (number : ℕ) (lits : List ℤ) → AreLive store → IsSome (clause_numbered store.live number) → IfSome (clause_numbered store.live number) (λ clause. set.from_list lits ≡ clause.lits) → AreWithin store.vars (set.from_list lits)
AreWithin-read store number lits live some read = at (clause_numbered store.live number) refl some read where
  at : (o : Option LiveClause) → clause_numbered store.live number ≡ o → IsSome o → IfSome o (λ clause. set.from_list lits ≡ clause.lits) → AreWithin store.vars (set.from_list lits)
  at None is some same = absurd cc
  at (Some clause) is some same = subst (AreWithin store.vars) (sym same) (All-contains (λ (a : LiveClause). AreWithin store.vars a.lits) store.live clause live.within (found store.live number clause is).contained)

-- where the numbers rise, each live clause is the one of its number
pub clause_numbered-contained : (live : List LiveClause) (clause : LiveClause) → AllPairs (λ a b. a.number < b.number) live → Contains live clause → clause_numbered live clause.number ≡ Some clause
clause_numbered-contained live clause rising contains = at live rising contains.0 contains.1 contains.2 where
  rest : (x : LiveClause) (xs : List LiveClause) → AllPairs (λ a b. a.number < b.number) (x ∷ xs) → AllPairs (λ a b. a.number < b.number) xs
  rest x xs rise i j d lt within = rise (suc i) (suc j) d (omega arith) (omega arith)

  at : (xs : List LiveClause) → AllPairs (λ a b. a.number < b.number) xs → (k : ℕ) → k < length xs → get_or xs k clause ≡ clause → clause_numbered xs clause.number ≡ Some clause
  at [] rise k lt is = absurd (omega arith)
  at (x ∷ xs) rise zero lt is = ap (λ b. cond b (Some x) (clause_numbered xs clause.number)) (eq-eqb x.number clause.number (ap (λ (c : LiveClause). c.number) is)) ∙ ap Some is
  at (x ∷ xs) rise (suc k) lt is =
      let less : x.number < (get_or xs k clause).number = rise 0 (suc k) clause (omega arith) lt in
      ap (λ b. cond b (Some x) (clause_numbered xs clause.number)) (ne_eqb x.number clause.number (λ same. omega (arith, less, ap (λ (c : LiveClause). c.number) is)))
      ∙ at xs (rest x xs rise) k (omega arith) is
