-- A clause less: of clauses in their order, of a store, and under a sound trail.
use Rattle.std.proofs.Common.{◌≡◌, ◌≢◌, inl, inr, ℕ, zero, suc, ◌<◌, ◌≤◌, Bool, not, cond, List, [], ◌∷◌, length, get_or, take, drop, Option, Some, refl, sym, ap, subst, ◌∙◌, arith, length-append}
use Rattle.std.specs.Prelude.{All, Contains, remove, ◌==◌}
use Rattle.std.proofs.lemmas.Bool.{eq-eqb, ne_eqb}
use Rattle.std.proofs.lemmas.Bool.Decides.{eqb_tells}
use Rattle.std.proofs.lemmas.List.{get_or_at, get_or-map, length-map, map-append, take-map, drop-map}
use Rattle.std.proofs.lemmas.List.Edits.{length-remove}
use Rattle.std.proofs.lemmas.List.Elements.{All-contains, All-filter}
use Rattle.std.proofs.lemmas.List.Kept.{AllPairs-filter}
use Rattle.lls_store.specs.declared.store.TheConstants.{MOST_ID}
use Rattle.lls_store.specs.Trail.{Entry, TrailState}
use Rattle.lls_store.specs.Clauses.{LiveClause, clause_numbered}
use Rattle.lls_store.specs.Sound.{IsSound}
use Rattle.lls_store.specs.Store.{StoreState, AreLive, AreWithin}
use Rattle.lls_store.specs.Removal.{IsNoReason, all_but, without_clause}
use Rattle.lls_store.specs.Worked.{IsResting}
use Rattle.lls_store.specs.Flat.{KeptClause}
use Rattle.lls_store.specs.Scan.{ScanState, AreRising, IsScan, IsTail, live_clause, live_in, store_of}
use Rattle.lls_store.proofs.Numbered.{HoldsAt}

abbrev kept_if : LiveClause → List LiveClause → Bool → List LiveClause
kept_if x rest is = cond (not is) (x ∷ rest) rest

-- where none has the number, none goes
all_but-none : (xs : List LiveClause) (n : ℕ) → All (λ c. c.number ≢ n) xs → all_but xs n ≡ xs
all_but-none [] n others = refl
all_but-none (x ∷ xs) n others =
    ap (kept_if x (all_but xs n)) (ne_eqb x.number n (others 0 x (omega arith)))
    ∙ ap (λ (rest : List LiveClause). x ∷ rest) (all_but-none xs n (λ k d lt. others (suc k) d (omega arith)))

-- where the numbers rise, one alone goes
pub all_but-at : (live : List LiveClause) (k n : ℕ) → AreRising live → k < length live → ((d : LiveClause) → (get_or live k d).number ≡ n) → all_but live n ≡ remove live k
all_but-at [] k n rising lt is = absurd (omega arith)
all_but-at (x ∷ xs) zero n rising lt is =
    ap (kept_if x (all_but xs n)) (eq-eqb x.number n (is x))
    ∙ all_but-none xs n (λ j d within same. omega (arith, rising 0 (suc j) d (omega arith) (omega arith), is x, same))
all_but-at (x ∷ xs) (suc k) n rising lt is =
    ap (kept_if x (all_but xs n)) (ne_eqb x.number n (λ same. omega (arith, rising 0 (suc k) x (omega arith) (omega arith), is x, same)))
    ∙ ap (λ (rest : List LiveClause). x ∷ rest) (all_but-at xs k n (λ i j d less within. rising (suc i) (suc j) d (omega arith) (omega arith)) (omega arith) is)

-- the others keep their numbers
clause_numbered-all_but : (live : List LiveClause) (n m : ℕ) → m ≢ n → clause_numbered (all_but live n) m ≡ clause_numbered live m
clause_numbered-all_but [] n m other = refl
clause_numbered-all_but (x ∷ xs) n m other = elim (eqb_tells x.number n) [
  | inl t ↦
      ap (λ b. clause_numbered (kept_if x (all_but xs n) b) m) t.0
      ∙ clause_numbered-all_but xs n m other
      ∙ sym (ap (λ b. cond b (Some x) (clause_numbered xs m)) (ne_eqb x.number m (λ same. other (sym same ∙ t.1))))
  | inr t ↦
      ap (λ b. clause_numbered (kept_if x (all_but xs n) b) m) t.0
      ∙ ap (λ (o : Option LiveClause). cond (x.number == m) (Some x) o) (clause_numbered-all_but xs n m other)
]

pub IsSound-without : (live : List LiveClause) (n : ℕ) (t : TrailState) → IsNoReason t.entries n → IsSound live t → IsSound (all_but live n) t
IsSound-without live n t no_reason sound before after e reason splits is =
    let old = sound before after e reason splits is in
    let there : Contains t.entries e = (
      length before,
      omega (arith, ap length splits, length-append before (e ∷ after)),
      ap (λ (es : List Entry). get_or es (length before) e) splits ∙ get_or_at before e after e (length before) refl,
    ) in
    let other : reason ≢ n = λ same. All-contains (λ (x : Entry). x.reason ≢ Some n) t.entries e no_reason there (is ∙ ap Some same) in
    record {
      clause = old.clause;
      is_live = clause_numbered-all_but live n reason other ∙ old.is_live;
      stands = old.stands;
      others_false = old.others_false;
    }

pub AreLive-without : (store : StoreState) (n : ℕ) → AreLive store → AreLive (without_clause store n)
AreLive-without store n live =
    let keep : LiveClause → Bool = λ c. not (c.number == n) in
    record {
      ids = AllPairs-filter (λ (a b : LiveClause). a.id ≢ b.id) keep store.live live.ids;
      numbers = AllPairs-filter (λ (a b : LiveClause). a.number < b.number) keep store.live live.numbers;
      given = All-filter keep (λ (a : LiveClause). a.number < store.count) store.live live.given;
      ids_fit = All-filter keep (λ (a : LiveClause). (1 ≤ a.id) × (a.id ≤ MOST_ID)) store.live live.ids_fit;
      within = All-filter keep (λ (a : LiveClause). AreWithin store.vars a.lits) store.live live.within;
    }

-- one clause less
pub record HasLess (s t : ScanState) (k : ℕ) : Type 0 where
  pub vars : t.vars ≡ s.vars
  pub count : t.count ≡ s.count
  pub clauses : t.flat.clauses ≡ remove s.flat.clauses k
  pub tail : t.flat.tail ≡ s.flat.tail

live_in-remove : (clauses : List KeptClause) (k : ℕ) → live_in (remove clauses k) ≡ remove (live_in clauses) k
live_in-remove clauses k =
    map-append live_clause (take k clauses) (drop (suc k) clauses)
    ∙ rw (take-map live_clause k clauses, drop-map live_clause (suc k) clauses) refl

live_in-without : (clauses : List KeptClause) (k n : ℕ) → AreRising (live_in clauses) → HoldsAt clauses k n → live_in (remove clauses k) ≡ all_but (live_in clauses) n
live_in-without clauses k n rising at =
    live_in-remove clauses k
    ∙ sym (all_but-at (live_in clauses) k n rising (omega (arith, at.within, length-map clauses live_clause))
    (λ d. ap (λ (c : LiveClause). c.number) (get_or-map live_clause clauses k at.clause d at.within) ∙ ap (λ (c : KeptClause). c.number) (at.stands at.clause) ∙ at.numbered))

pub store_of-less : (s t : ScanState) (k n : ℕ) → HasLess s t k → IsScan s → HoldsAt s.flat.clauses k n → store_of t ≡ without_clause (store_of s) n
store_of-less s t k n less scan at =
    rw (less.vars, less.count, less.clauses, less.tail, live_in-without s.flat.clauses k n scan.are_live.numbers at) refl

pub IsScan-less : (s t : ScanState) (k n : ℕ) → HasLess s t k → IsScan s → HoldsAt s.flat.clauses k n → IsScan t
IsScan-less s t k n less scan at =
    record {
      are_live = subst AreLive (sym (store_of-less s t k n less scan at)) (AreLive-without (store_of s) n scan.are_live);
      fit = omega (arith, scan.fit, less.count, ap length less.clauses, length-remove s.flat.clauses k at.within);
      few = omega (arith, scan.few, less.count);
      is_tail = subst (IsTail t.vars) (sym less.tail) (subst (λ n. IsTail n s.flat.tail) (sym less.vars) scan.is_tail);
    }

pub IsSound-less : (s t : ScanState) (k n : ℕ) (trail : TrailState) → HasLess s t k → IsScan s → HoldsAt s.flat.clauses k n → IsNoReason trail.entries n → IsSound (live_in s.flat.clauses) trail → IsSound (live_in t.flat.clauses) trail
IsSound-less s t k n trail less scan at no_reason sound =
    let P : List LiveClause → Type 0 = λ live. IsSound live trail in
    subst P (sym (ap (λ (store : StoreState). store.live) (store_of-less s t k n less scan at))) (IsSound-without (live_in s.flat.clauses) n trail no_reason sound)

-- no id comes
pub IsResting-without : (store now : StoreState) (n most : ℕ) → now ≡ without_clause store n → IsResting store most → IsResting now most
IsResting-without store now n most is rest =
    let P : StoreState → Type 0 = λ s. IsResting s most in
    subst P (sym is) (record { no_tail = rest.no_tail; ids = All-filter (λ (c : LiveClause). not (c.number == n)) (λ (c : LiveClause). c.id ≤ most) store.live rest.ids })
