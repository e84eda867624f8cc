-- Clauses that are marked by number.
use Rattle.std.proofs.Common.{◌≡◌, ◌≢◌, inl, inr, ℕ, zero, suc, ◌+◌, ◌<◌, ◌≤◌, Bool, true, false, not, cond, List, [], ◌∷◌, ◌++◌, length, length-set, get_or, take, map, Option, Some, None, is_some, refl, sym, ap, subst, ◌∙◌, arith, zero-add}
use Rattle.std.specs.FinSet as finset
use Rattle.std.specs.Prelude.{ℤ, ◌⊎◌, ◌-◌, All, AllPairs, Contains, filter, IfSome, IsSome, ◌&&◌, ◌==◌, nat_lt, slice_get, slice_set}
use Rattle.std.proofs.lemmas.Bool.{cases_order}
use Rattle.std.proofs.lemmas.Bool.Decides.{eqb_tells, nat_tests}
use Rattle.std.proofs.lemmas.List.{get_or-set_other, get_or-set_same, append-nil, get_or_default, map-append, take_more}
use Rattle.std.proofs.lemmas.List.Elements.{All-contains, All-more, All-push, All-take, All-weaker, Contains-append_left, Contains-push, filter-append}
use Rattle.std.specs.List.Sorted.{IsPermutation}
use Rattle.std.proofs.lemmas.List.Sorted.{All-permutation}
use Rattle.std.proofs.lemmas.Option.{get_or_from_slice_get, same_Some, slice_get_within}
use Rattle.lls_lit.specs.Literal.{variable_of}
use Rattle.lls_store.specs.Trail.{Entry, IsTrail, TrailState, literals_of, reason_of}
use Rattle.lls_store.specs.Clauses.{LiveClause, clause_numbered}
use Rattle.lls_store.specs.Store.{StoreState, AreLive}
use Rattle.lls_store.specs.Removal.{IsNoReason, without_clause}
use Rattle.lls_store.specs.Sound.{IsSound}
use Rattle.lls_store.proofs.Live.{clause_numbered-contained, number_given}
use Rattle.lls_store.proofs.ReasonFound.{reason_found}
use Rattle.lls_solver.specs.declared.deletion.Candidate.{Candidate}
use Rattle.lls_solver.proofs.Levels.{is_read, reason_read}
use Rattle.lls_solver.specs.Deletion.{is_marked, ids_marked, without_marked, AreAllLive, HasReasons, MayGo}

-- a clause that was looked at
pub may_go_from : (live : List LiveClause) (reasons : List Bool) (last c id : ℕ) → is_some (clause_numbered live c) ≡ true → IfSome (clause_numbered live c) (λ clause. id ≡ clause.id) → last < id → is_marked reasons c ≡ false → MayGo live reasons last c
may_go_from live reasons last c id is_live of_id lt unmarked =
    elim (clause_numbered live c) as (λ o. clause_numbered live c ≡ o → is_some o ≡ true → IfSome o (λ clause. id ≡ clause.id) → MayGo live reasons last c) [
      | Some clause ↦ λ is _ same. record { clause = clause; is_live = is; learnt = subst (λ n. last < n) same lt; unmarked = unmarked }
      | None ↦ λ _ some _. absurd cc
    ] refl is_live of_id

-- a reason is the number of a live clause, which was given
pub reason_given : (store : StoreState) (trail : TrailState) (v reason : ℕ) → AreLive store → IsSound store.live trail → reason_of trail.entries v ≡ Some reason → reason < store.count
reason_given store trail v reason live sound is =
    let found = reason_found store.live trail v reason sound is in
    number_given store reason found.forced.clause live found.forced.is_live

-- a clause that may go is no reason that was marked
pub no_reason_goes : (store : StoreState) (entries : List Entry) (reasons : List Bool) (last c : ℕ) → AreLive store → length reasons ≡ store.count → HasReasons entries reasons → MayGo store.live reasons last c → IsNoReason entries c
no_reason_goes store entries reasons last c live each has goes =
    let given : c < store.count = number_given store c goes.clause live goes.is_live in
    has c (omega (arith, given, each)) goes.unmarked

-- one more mark
pub marked_more : (marks : List Bool) (n c : ℕ) → n < length marks → is_marked (slice_set marks n true) c ≡ false → (c ≢ n) × (is_marked marks c ≡ false)
marked_more marks n c lt is = (apart, sym (get_or-set_other marks n c true false apart) ∙ is) where
  apart : c ≢ n
  apart same = clash (sym (ap (λ k. is_marked (slice_set marks n true) k) same ∙ get_or-set_same marks n true false lt) ∙ is) where
    clash : true ≡ false → ⊥
    clash e = absurd cc

-- which leaves the others
pub marked_still : (marks : List Bool) (n c : ℕ) → n < length marks → is_marked marks c ≡ true → is_marked (slice_set marks n true) c ≡ true
marked_still marks n c lt is = elim (eqb_tells c n) [
  | inl t ↦ ap (is_marked (slice_set marks n true)) t.1 ∙ get_or-set_same marks n true false lt
  | inr t ↦ get_or-set_other marks n c true false t.1 ∙ is
]

-- a clause that is marked then was marked before, or is that one
pub marked_cases : (marks : List Bool) (n c : ℕ) → is_marked (slice_set marks n true) c ≡ true → (c ≡ n) ⊎ (is_marked marks c ≡ true)
marked_cases marks n c is = elim (cases_order c n) [
  | inl same ↦ inl same
  | inr other ↦ inr (sym (get_or-set_other marks n c true false (elim other [ inl less ↦ λ same. omega (arith, less, same) | inr more ↦ λ same. omega (arith, more, same) ])) ∙ is)
]

no_reason_next : (entries : List Entry) (k : ℕ) (e : Entry) (c : ℕ) → k < length entries → ((d : Entry) → get_or entries k d ≡ e) → e.reason ≢ Some c → IsNoReason (take k entries) c → IsNoReason (take (k + 1) entries) c
no_reason_next entries k e c lt at other before =
    subst (λ (es : List Entry). IsNoReason es c) (sym (take_more entries k e lt ∙ ap (λ x. take k entries ++ x ∷ []) (at e))) (All-push (λ (x : Entry). x.reason ≢ Some c) (take k entries) e before other)

-- one more entry, whose reason is marked
pub reasons_more : (t : TrailState) (k v r : ℕ) (l : ℤ) (marks : List Bool) → IsTrail t → slice_get (literals_of t.entries) k ≡ Some l → v ≡ variable_of l → Some r ≡ reason_of t.entries v → r < length marks
    → ((c : ℕ) → c < length marks → is_marked marks c ≡ false → IsNoReason (take k t.entries) c)
    → (c : ℕ) → c < length (slice_set marks r true) → is_marked (slice_set marks r true) c ≡ false → IsNoReason (take (k + 1) t.entries) c
reasons_more t k v r l marks h read of_lit is lt before c fits unmarked =
    let at = is_read t k l h read in
    let parts = marked_more marks r c lt unmarked in
    let reason : Some r ≡ at.entry.reason = is ∙ reason_read t k v l h read of_lit in
    no_reason_next t.entries k at.entry c (slice_get_within t.entries k at.entry at.at) (λ d. get_or_from_slice_get t.entries k at.entry d at.at)
    (λ same. parts.0 (sym (same_Some r c (reason ∙ same))))
    (before c (omega (arith, fits, length-set marks r true)) parts.1)

-- one more entry, which has no reason
pub reasons_same : (t : TrailState) (k v : ℕ) (l : ℤ) (marks : List Bool) → IsTrail t → slice_get (literals_of t.entries) k ≡ Some l → v ≡ variable_of l → None ≡ reason_of t.entries v
    → ((c : ℕ) → c < length marks → is_marked marks c ≡ false → IsNoReason (take k t.entries) c)
    → (c : ℕ) → c < length marks → is_marked marks c ≡ false → IsNoReason (take (k + 1) t.entries) c
reasons_same t k v l marks h read of_lit is before c fits unmarked =
    let at = is_read t k l h read in
    let reason : None ≡ at.entry.reason = is ∙ reason_read t k v l h read of_lit in
    no_reason_next t.entries k at.entry c (slice_get_within t.entries k at.entry at.at) (λ d. get_or_from_slice_get t.entries k at.entry d at.at)
    (λ same. clash (reason ∙ same))
    (before c fits unmarked) where
      clash : None ≡ Some c → ⊥
      clash e = absurd cc

-- one more number
pub numbers_more : (xs : List Candidate) (k c : ℕ) (d : Candidate) (marks : List Bool) → k < length xs → ((n : ℕ) → is_marked marks n ≡ true → Contains (map (λ (x : Candidate). x.number) (take k xs)) n)
    → is_marked (slice_set marks (get_or xs k d).number true) c ≡ true → Contains (map (λ (x : Candidate). x.number) (take (k + 1) xs)) c
numbers_more xs k c d marks lt before is =
    let number : Candidate → ℕ = λ x. x.number in
    let x = get_or xs k d in
    let more : map number (take (k + 1) xs) ≡ map number (take k xs) ++ x.number ∷ [] = ap (map number) (take_more xs k d lt) ∙ map-append number (take k xs) (x ∷ []) in
    subst (λ (ns : List ℕ). Contains ns c) (sym more) (elim (marked_cases marks x.number c is) [
      | inl same ↦ subst (Contains (map number (take k xs) ++ x.number ∷ [])) (sym same) (Contains-push (map number (take k xs)) x.number)
      | inr old ↦ Contains-append_left (map number (take k xs)) (x.number ∷ []) c (before c old)
    ])

-- and one more candidate, which is marked as those before it are
pub candidates_more : (xs : List Candidate) (k : ℕ) (d : Candidate) (marks : List Bool) → k < length xs → (get_or xs k d).number < length marks → All (λ (x : Candidate). is_marked marks x.number ≡ true) (take k xs)
    → All (λ (x : Candidate). is_marked (slice_set marks (get_or xs k d).number true) x.number ≡ true) (take (k + 1) xs)
candidates_more xs k d marks lt fits before =
    All-more IsMarked xs k d lt (All-weaker (λ (x : Candidate). is_marked marks x.number ≡ true) IsMarked still (take k xs) before) (get_or-set_same marks n true false fits) where
      n : ℕ
      n = (get_or xs k d).number

      IsMarked : Candidate → Type 0
      IsMarked x = is_marked (slice_set marks n true) x.number ≡ true

      still : (x : Candidate) → is_marked marks x.number ≡ true → IsMarked x
      still x is = marked_still marks n x.number fits is

-- what holds of all holds of the first half of them in another order
pub half_may_go : (P : Candidate → Type 0) (xs sorted half : List Candidate) (n : ℕ) → All P xs → IsPermutation xs sorted → half ≡ take n sorted → All P half
half_may_go P xs sorted half n all moved is = subst (λ (ys : List Candidate). All P ys) (sym is) (All-take P n sorted (All-permutation P xs sorted moved all))

-- where numbers rise, they are as far apart as their places at least
rising_gap : (live : List LiveClause) (k j : ℕ) (d : LiveClause) → AllPairs (λ (a b : LiveClause). a.number < b.number) live → k + j < length live → (get_or live k d).number + j ≤ (get_or live (k + j) d).number
rising_gap live k zero d rising lt = subst (λ n. (get_or live k d).number + zero ≤ (get_or live n d).number) (same k) (omega arith) where
  same : (n : ℕ) → n ≡ n + zero
  same n = omega arith
rising_gap live k (suc j) d rising lt =
    let rest = rising_gap live k j d rising (omega (arith, lt)) in
    let next : (get_or live (k + j) d).number < (get_or live (k + suc j) d).number = rising (k + j) (k + suc j) d (omega arith) lt in
    omega (arith, rest, next)

-- where every number that was given is live, the numbers are the places
pub number_at : (store : StoreState) (k : ℕ) (d : LiveClause) → AreLive store → AreAllLive store → k < length store.live → (get_or store.live k d).number ≡ k
number_at store k d live all lt = omega (arith, least, gap, last, end) where
  many : ℕ
  many = length store.live

  rest : (n : ℕ) → k < n → (j : ℕ) × (n ≡ k + j + 1)
  rest zero less = absurd (omega (arith, less))
  rest (suc n) less = (n - k, omega (arith, less))

  j : ℕ
  j = (rest many lt).0

  whole : many ≡ k + j + 1
  whole = (rest many lt).1

  least : k ≤ (get_or store.live k d).number
  least = omega (arith, rising_gap store.live 0 k d live.numbers (omega (arith, lt)), ap (λ n. (get_or store.live n d).number) (zero-add k))

  gap : (get_or store.live k d).number + j ≤ (get_or store.live (k + j) d).number
  gap = rising_gap store.live k j d live.numbers (omega (arith, whole))

  last : (get_or store.live (k + j) d).number < store.count
  last = live.given (k + j) d (omega (arith, whole))

  end : store.count ≡ k + j + 1
  end = all ∙ whole

-- so there is a live clause of each number that was given
pub live_at : (store : StoreState) (c : ℕ) → AreLive store → AreAllLive store → c < store.count → IsSome (clause_numbered store.live c)
live_at store c live all lt =
    let within : c < length store.live = omega (arith, all, lt) in
    let x = get_or store.live c blank in
    let at : get_or store.live c x ≡ x = get_or_default store.live c x blank within in
    let number : x.number ≡ c = number_at store c blank live all within in
    let found : clause_numbered store.live c ≡ Some x = ap (clause_numbered store.live) (sym number) ∙ clause_numbered-contained store.live x live.numbers (c, within, at) in
    subst (λ (o : Option LiveClause). IsSome o) (sym found) refl where
      blank : LiveClause
      blank = record { number = 0; id = 0; lits = finset.empty }

-- the ids of the first clauses, and of the one behind them
abbrev marked_next : List Bool → List LiveClause → ℕ → LiveClause → Bool → List ℕ
marked_next marks live k x is = ids_marked marks (take k live) ++ map (λ (c : LiveClause). c.id) (cond is (x ∷ []) [])

ids_next : (marks : List Bool) (live : List LiveClause) (k : ℕ) (x : LiveClause) → k < length live → get_or live k x ≡ x → ids_marked marks (take (k + 1) live) ≡ marked_next marks live k x (is_marked marks x.number)
ids_next marks live k x lt at =
    let test : LiveClause → Bool = λ c. is_marked marks c.number in
    let id : LiveClause → ℕ = λ c. c.id in
    ap (ids_marked marks) (take_more live k x lt ∙ ap (λ c. take k live ++ c ∷ []) at)
    ∙ ap (map id) (filter-append test (take k live) (x ∷ []))
    ∙ map-append id (filter test (take k live)) (filter test (x ∷ []))

pub ids_more : (store : StoreState) (marks : List Bool) (k id : ℕ) → AreLive store → AreAllLive store → k < length store.live → IfSome (clause_numbered store.live k) (λ clause. id ≡ clause.id) → is_marked marks k ≡ true → ids_marked marks (take (k + 1) store.live) ≡ ids_marked marks (take k store.live) ++ id ∷ []
ids_more store marks k id live all lt of_id is =
    let x = get_or store.live k blank in
    let at : get_or store.live k x ≡ x = get_or_default store.live k x blank lt in
    let number : x.number ≡ k = number_at store k blank live all lt in
    let found : clause_numbered store.live k ≡ Some x = ap (clause_numbered store.live) (sym number) ∙ clause_numbered-contained store.live x live.numbers (k, lt, at) in
    let same : id ≡ x.id = subst (λ (o : Option LiveClause). IfSome o (λ clause. id ≡ clause.id)) found of_id in
    ids_next marks store.live k x lt at
    ∙ ap (marked_next marks store.live k x) (ap (is_marked marks) number ∙ is)
    ∙ ap (λ n. ids_marked marks (take k store.live) ++ n ∷ []) (sym same) where
      blank : LiveClause
      blank = record { number = 0; id = 0; lits = finset.empty }

pub ids_same : (store : StoreState) (marks : List Bool) (k : ℕ) → AreLive store → AreAllLive store → k < length store.live → is_marked marks k ≡ false → ids_marked marks (take (k + 1) store.live) ≡ ids_marked marks (take k store.live)
ids_same store marks k live all lt is =
    let x = get_or store.live k blank in
    let at : get_or store.live k x ≡ x = get_or_default store.live k x blank lt in
    ids_next marks store.live k x lt at
    ∙ ap (marked_next marks store.live k x) (ap (is_marked marks) (number_at store k blank live all lt) ∙ is)
    ∙ append-nil (ids_marked marks (take k store.live)) where
      blank : LiveClause
      blank = record { number = 0; id = 0; lits = finset.empty }

-- whether the clause stays where those of the first numbers are looked at
abbrev stays_below : ℕ → List Bool → LiveClause → Bool
stays_below c marks clause = not (nat_lt clause.number c && is_marked marks clause.number)

-- the store without the marked clauses of the first numbers
abbrev pub without_first : ℕ → StoreState → List Bool → StoreState
without_first c store marks = record store { live = filter (stays_below c marks) store.live }

filter_same : (p q : LiveClause → Bool) (xs : List LiveClause) → ((x : LiveClause) → Contains xs x → p x ≡ q x) → filter p xs ≡ filter q xs
filter_same p q [] same = refl
filter_same p q (x ∷ xs) same =
    ap (λ b. cond b (x ∷ filter p xs) (filter p xs)) (same x (0, omega arith, refl))
    ∙ ap (λ (rest : List LiveClause). cond (q x) (x ∷ rest) rest) (filter_same p q xs (λ y contains. same y (suc contains.0, omega (arith, contains.1), contains.2)))

filter_all : (xs : List LiveClause) → filter (λ _. true) xs ≡ xs
filter_all [] = refl
filter_all (x ∷ xs) = ap (λ (rest : List LiveClause). x ∷ rest) (filter_all xs)

filter_both : (p q : LiveClause → Bool) (xs : List LiveClause) → filter q (filter p xs) ≡ filter (λ x. p x && q x) xs
filter_both p q [] = refl
filter_both p q (x ∷ xs) =
    elim (p x) as (λ b. filter q (cond b (x ∷ filter p xs) (filter p xs)) ≡ cond (b && q x) (x ∷ filter (λ y. p y && q y) xs) (filter (λ y. p y && q y) xs)) [
      | true ↦ ap (λ (rest : List LiveClause). cond (q x) (x ∷ rest) rest) (filter_both p q xs)
      | false ↦ filter_both p q xs
    ]

pub without_first-none : (store : StoreState) (marks : List Bool) → store ≡ without_first 0 store marks
without_first-none store marks =
    ap (λ (live : List LiveClause). record store { live = live }) (sym (filter_same (stays_below 0 marks) (λ _. true) store.live (λ x _. first x) ∙ filter_all store.live)) where
      first : (x : LiveClause) → stays_below 0 marks x ≡ true
      first x = ap (λ b. not (b && is_marked marks x.number)) (none x.number) where
        none : (n : ℕ) → nat_lt n 0 ≡ false
        none n = grind (arith, nat_tests)

pub without_first-all : (store : StoreState) (marks : List Bool) → AreLive store → without_first store.count store marks ≡ without_marked store marks
without_first-all store marks live =
    ap (λ (clauses : List LiveClause). record store { live = clauses }) (filter_same (stays_below store.count marks) (λ clause. not (is_marked marks clause.number)) store.live given) where
      given : (x : LiveClause) → Contains store.live x → stays_below store.count marks x ≡ not (is_marked marks x.number)
      given x contains = ap (λ b. not (b && is_marked marks x.number)) below where
        less : x.number < store.count
        less = All-contains (λ (a : LiveClause). a.number < store.count) store.live x live.given contains

        below : nat_lt x.number store.count ≡ true
        below = grind (arith, nat_tests)

pub without_first-unmarked : (store : StoreState) (marks : List Bool) (c : ℕ) → is_marked marks c ≡ false → without_first c store marks ≡ without_first (c + 1) store marks
without_first-unmarked store marks c is =
    ap (λ (clauses : List LiveClause). record store { live = clauses }) (filter_same (stays_below c marks) (stays_below (c + 1) marks) store.live (λ x _. same x)) where
      same : (x : LiveClause) → stays_below c marks x ≡ stays_below (c + 1) marks x
      same x = elim (eqb_tells x.number c) [
        | inl t ↦ ap not (no_more (nat_lt x.number c) (ap (is_marked marks) t.1 ∙ is) ∙ sym (no_more (nat_lt x.number (c + 1)) (ap (is_marked marks) t.1 ∙ is)))
        | inr t ↦ ap (λ b. not (b && is_marked marks x.number)) (next x.number t.1)
      ] where
        no_more : (b : Bool) → is_marked marks x.number ≡ false → (b && is_marked marks x.number) ≡ false
        no_more true un = un
        no_more false un = refl

        next : (n : ℕ) → n ≢ c → nat_lt n c ≡ nat_lt n (c + 1)
        next n apart = grind (arith, nat_tests)

pub without_first-marked : (store : StoreState) (marks : List Bool) (c : ℕ) → is_marked marks c ≡ true → without_clause (without_first c store marks) c ≡ without_first (c + 1) store marks
without_first-marked store marks c is =
    ap (λ (clauses : List LiveClause). record store { live = clauses })
    (filter_both (stays_below c marks) (λ clause. not (clause.number == c)) store.live
    ∙ filter_same (λ x. stays_below c marks x && not (x.number == c)) (stays_below (c + 1) marks) store.live (λ x _. same x)) where
      same : (x : LiveClause) → (stays_below c marks x && not (x.number == c)) ≡ stays_below (c + 1) marks x
      same x = elim (eqb_tells x.number c) [
        | inl t ↦
            ap (λ b. stays_below c marks x && not b) t.0
            ∙ and_false (stays_below c marks x)
            ∙ sym (ap (λ b. not (nat_lt x.number (c + 1) && b)) (ap (is_marked marks) t.1 ∙ is) ∙ ap (λ b. not (b && true)) (below x.number t.1))
        | inr t ↦
            ap (λ b. stays_below c marks x && not b) t.0
            ∙ and_true (stays_below c marks x)
            ∙ ap (λ b. not (b && is_marked marks x.number)) (next x.number t.1)
      ] where
        and_false : (b : Bool) → (b && false) ≡ false
        and_false true = refl
        and_false false = refl

        and_true : (b : Bool) → (b && true) ≡ b
        and_true true = refl
        and_true false = refl

        below : (n : ℕ) → n ≡ c → nat_lt n (c + 1) ≡ true
        below n equal = grind (arith, nat_tests)

        next : (n : ℕ) → n ≢ c → nat_lt n c ≡ nat_lt n (c + 1)
        next n apart = grind (arith, nat_tests)

found_filter : (p : LiveClause → Bool) (live : List LiveClause) (c : ℕ) → ((x : LiveClause) → x.number ≡ c → p x ≡ true) → clause_numbered (filter p live) c ≡ clause_numbered live c
found_filter p [] c passes = refl
found_filter p (x ∷ xs) c passes = elim (eqb_tells x.number c) [
  | inl t ↦
      ap (λ b. clause_numbered (cond b (x ∷ filter p xs) (filter p xs)) c) (passes x t.1)
      ∙ ap (λ b. cond b (Some x) (clause_numbered (filter p xs) c)) t.0
      ∙ sym (ap (λ b. cond b (Some x) (clause_numbered xs c)) t.0)
  | inr t ↦
      elim (p x) as (λ b. clause_numbered (cond b (x ∷ filter p xs) (filter p xs)) c ≡ clause_numbered xs c) [
        | true ↦ ap (λ b. cond b (Some x) (clause_numbered (filter p xs) c)) t.0 ∙ found_filter p xs c passes
        | false ↦ found_filter p xs c passes
      ]
      ∙ sym (ap (λ b. cond b (Some x) (clause_numbered xs c)) t.0)
]

-- the clause of the next number is live still
pub first_live : (store : StoreState) (marks : List Bool) (c : ℕ) → IsSome (clause_numbered store.live c) → IsSome (clause_numbered (without_first c store marks).live c)
first_live store marks c is = subst (λ (o : Option LiveClause). IsSome o) (sym (found_filter (stays_below c marks) store.live c (λ x same. ap (λ b. not (b && is_marked marks x.number)) (none x.number same)))) is where
  none : (n : ℕ) → n ≡ c → nat_lt n c ≡ false
  none n same = grind (arith, nat_tests)
