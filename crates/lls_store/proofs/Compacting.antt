-- Live clauses numbered from 0 in their order, and a sound trail with its reasons renamed.
use Rattle.std.proofs.Common.{◌≡◌, ℕ, zero, suc, ◌+◌, ◌<◌, ◌≤◌, true, false, cond, List, [], ◌∷◌, ◌++◌, length, get_or, take, drop, Option, Some, None, refl, sym, ap, subst, ◌∙◌, arith, zero-add}
use Rattle.std.specs.Prelude.{ℤ, pos, All, Contains, map, nat_lt, ◌||◌, option_map, slice_get}
use Rattle.std.specs.Ordering.{int_eq}
use Rattle.std.specs.FinSet as set
use Rattle.std.proofs.lemmas.Bool.Decides.{nat_tests}
use Rattle.std.proofs.lemmas.List.{drop_more, get_or-map, length-map, same_lists, take-append-drop}
use Rattle.std.proofs.lemmas.List.Elements.{All-map}
use Rattle.std.proofs.lemmas.List.Sums.{sum_by-append}
use Rattle.std.proofs.lemmas.Option.{same_Some, slice_get-get_or, slice_get-map, slice_get_within}
use Rattle.std.proofs.lemmas.Simd.{map-map}
use Rattle.lls_lit.specs.Literal.{negation}
use Rattle.lls_store.specs.declared.store.TheConstants.{MOST_ID}
use Rattle.lls_store.specs.Trail.{Entry, TrailState, has}
use Rattle.lls_store.specs.Clauses.{LiveClause, IsIn, clause_numbered}
use Rattle.lls_store.specs.Sound.{IsSound}
use Rattle.lls_store.specs.Store.{StoreState, AreLive, AreWithin}
use Rattle.lls_store.specs.Removal.{CompactingSaysTheSame, compacted, new_number, renamed, renamed_entry, renumbered}
use Rattle.lls_store.specs.Worked.{IsResting}
use Rattle.lls_store.specs.Flat.{KeptClause, AreRenumbered}
use Rattle.lls_store.specs.Scan.{ScanState, AreRising, IsScan, IsTail, live_clause, live_in, store_of}
use Rattle.lls_store.proofs.Numbered.{HoldsAt}
use Rattle.lls_store.proofs.Live.{clause_numbered-contained, found}
use Rattle.lls_store.proofs.Reasons.{heads}

new_number-cons : (x : LiveClause) (xs : List LiveClause) (n : ℕ) → new_number (x ∷ xs) n ≡ cond (nat_lt x.number n) 1 0 + new_number xs n
new_number-cons x xs n =
    sum_by-append (λ (c : LiveClause). cond (nat_lt c.number n) 1 0) (x ∷ []) xs
    ∙ ap (λ k. k + new_number xs n) (zero-add (cond (nat_lt x.number n) 1 0))

new_number-least : (xs : List LiveClause) (n : ℕ) → All (λ c. n ≤ c.number) xs → new_number xs n ≡ 0
new_number-least [] n above = refl
new_number-least (x ∷ xs) n above =
    let first : n ≤ x.number = above 0 x (omega arith) in
    let no : nat_lt x.number n ≡ false = grind (arith, nat_tests) in
    new_number-cons x xs n ∙ rw (no, new_number-least xs n (λ k d lt. above (suc k) d (omega arith))) refl

-- where the numbers rise, so many have a lesser number as stand before
pub new_number-at : (live : List LiveClause) (k : ℕ) (d : LiveClause) → AreRising live → k < length live → new_number live (get_or live k d).number ≡ k
new_number-at [] k d rising lt = absurd (omega arith)
new_number-at (x ∷ xs) zero d rising lt =
    let no : nat_lt x.number x.number ≡ false = grind (arith, nat_tests) in
    new_number-cons x xs x.number
    ∙ rw (no, new_number-least xs x.number (λ j e within. omega (arith, rising 0 (suc j) e (omega arith) (omega arith)))) refl
new_number-at (x ∷ xs) (suc k) d rising lt =
    let n = (get_or xs k d).number in
    let less : x.number < n = rising 0 (suc k) d (omega arith) lt in
    let test : nat_lt x.number n ≡ true = grind (arith, nat_tests) in
    let rest = new_number-at xs k d (λ i j e below within. rising (suc i) (suc j) e (omega arith) (omega arith)) (omega arith) in
    new_number-cons x xs n ∙ rw test (omega (arith, rest))

number-compacted : (live : List LiveClause) (k : ℕ) (d : LiveClause) → AreRising live → k < length live → (get_or (map (renumbered live) live) k d).number ≡ k
number-compacted live k d rising lt =
    ap (λ (c : LiveClause). c.number) (get_or-map (renumbered live) live k d d lt) ∙ new_number-at live k d rising lt

rising-compacted : (live : List LiveClause) → AreRising live → AreRising (map (renumbered live) live)
rising-compacted live rising i j d lt within =
    let inside : j < length live = omega (arith, length-map live (renumbered live)) in
    omega (arith, number-compacted live i d rising (omega arith), number-compacted live j d rising inside)

pub AreLive-compacted : (store : StoreState) → AreLive store → AreLive (compacted store)
AreLive-compacted store live =
    let new = renumbered store.live in
    record {
      ids = λ i j d lt within same.
          let inside : j < length store.live = omega (arith, length-map store.live new) in
          live.ids i j d lt inside (sym (ap (λ (c : LiveClause). c.id) (get_or-map new store.live i d d (omega arith))) ∙ same ∙ ap (λ (c : LiveClause). c.id) (get_or-map new store.live j d d inside));
      numbers = rising-compacted store.live live.numbers;
      given = λ k d within.
          let inside : k < length store.live = omega (arith, length-map store.live new) in
          omega (arith, number-compacted store.live k d live.numbers inside);
      ids_fit = All-map (λ (a : LiveClause). (1 ≤ a.id) × (a.id ≤ MOST_ID)) new store.live live.ids_fit;
      within = All-map (λ (a : LiveClause). AreWithin store.vars a.lits) new store.live live.within;
    }

abbrev nothing : KeptClause
nothing = record { number = 0; id = 0; lits = [] }

-- clauses that are numbered by their places
pub live_in-renumbered : (old new : List KeptClause) → AreRenumbered old new → AreRising (live_in old) → live_in new ≡ map (renumbered (live_in old)) (live_in old)
live_in-renumbered old new numbered rising =
    let live = live_in old in
    same_lists (live_in new) (map (renumbered live) live)
    (omega (arith, numbered.length_same, length-map new live_clause, length-map live (renumbered live), length-map old live_clause))
    (λ k d lt.
    let inside : k < length old = omega (arith, numbered.length_same, length-map new live_clause) in
    let among : k < length live = omega (arith, length-map old live_clause) in
    let c = get_or old k nothing in
    let at : get_or live k d ≡ live_clause c = get_or-map live_clause old k nothing d inside in
    let place : new_number live c.number ≡ k = ap (λ (l : LiveClause). new_number live l.number) (sym at) ∙ new_number-at live k d rising among in
    get_or-map live_clause new k nothing d (omega (arith, numbered.length_same))
    ∙ ap live_clause (numbered.each k nothing inside)
    ∙ ap (λ n. record (live_clause c) { number = n }) (sym place)
    ∙ ap (renumbered live) (sym at)
    ∙ sym (get_or-map (renumbered live) live k d d among))

has-renamed : (live : List LiveClause) (es : List Entry) (l : ℤ) → has (map (renamed_entry live) es) l ≡ has es l
has-renamed live [] l = refl
has-renamed live (x ∷ xs) l = ap (λ b. int_eq x.lit l || b) (has-renamed live xs l)

-- what a mapped list splits into is mapped
record IsMapped (f : Entry → Entry) (es before after : List Entry) (e : Entry) : Type 0 where
  first : List Entry
  entry : Entry
  rest : List Entry
  splits : es ≡ first ++ entry ∷ rest
  mapped : map f first ≡ before
  same : f entry ≡ e

unmapped : (f : Entry → Entry) (es before after : List Entry) (e : Entry) → map f es ≡ before ++ e ∷ after → IsMapped f es before after e
unmapped f [] [] after e is = absurd cc
unmapped f [] (y ∷ ys) after e is = absurd cc
unmapped f (x ∷ xs) [] after e is = record { first = []; entry = x; rest = xs; splits = refl; mapped = refl; same = (heads (f x) e (map f xs) after is).0 }
unmapped f (x ∷ xs) (y ∷ ys) after e is =
    let parts = heads (f x) y (map f xs) (ys ++ e ∷ after) is in
    let rest = unmapped f xs ys after e parts.1 in
    record {
      first = x ∷ rest.first;
      entry = rest.entry;
      rest = rest.rest;
      splits = ap (λ (all : List Entry). x ∷ all) rest.splits;
      mapped = ap (λ (all : List Entry). f x ∷ all) rest.mapped ∙ ap (λ z. z ∷ ys) parts.0;
      same = rest.same;
    }

-- a reason that was renamed had a number before
was_named : (live : List LiveClause) (o : Option ℕ) (reason : ℕ) → option_map (new_number live) o ≡ Some reason → (old : ℕ) × (o ≡ Some old) × (new_number live old ≡ reason)
was_named live None reason is = absurd cc
was_named live (Some old) reason is = (old, refl, same_Some (new_number live old) reason is)

pub clause_numbered-compacted : (live : List LiveClause) (old : ℕ) (clause : LiveClause) → AreRising live → clause_numbered live old ≡ Some clause → clause_numbered (map (renumbered live) live) (new_number live old) ≡ Some (renumbered live clause)
clause_numbered-compacted live old clause rising is =
    let at = found live old clause is in
    let k = at.contained.0 in
    let there : Contains (map (renumbered live) live) (renumbered live clause) = (
      k,
      omega (arith, at.contained.1, length-map live (renumbered live)),
      get_or-map (renumbered live) live k clause (renumbered live clause) at.contained.1 ∙ ap (renumbered live) at.contained.2,
    ) in
    ap (λ n. clause_numbered (map (renumbered live) live) (new_number live n)) (sym at.numbered)
    ∙ clause_numbered-contained (map (renumbered live) live) (renumbered live clause) (rising-compacted live rising) there

pub IsSound-compacted : (live : List LiveClause) (t : TrailState) → AreRising live → IsSound live t → IsSound (map (renumbered live) live) (renamed live t)
IsSound-compacted live t rising sound before after e reason splits is =
    let f = renamed_entry live in
    let at = unmapped f t.entries before after e splits in
    let named = was_named live at.entry.reason reason (ap (λ (x : Entry). x.reason) at.same ∙ is) in
    let old = sound at.first at.rest at.entry named.0 at.splits named.1 in
    let same_lit : at.entry.lit ≡ e.lit = ap (λ (x : Entry). x.lit) at.same in
    record {
      clause = renumbered live old.clause;
      is_live = ap (clause_numbered (map (renumbered live) live)) (sym named.2) ∙ clause_numbered-compacted live named.0 old.clause rising old.is_live;
      stands = subst (IsIn old.clause.lits) same_lit old.stands;
      others_false = λ m inside other.
          let was = old.others_false m inside (λ same. other (same ∙ same_lit)) in
          ap (λ (es : List Entry). has es (negation m)) (sym at.mapped) ∙ has-renamed live at.first (negation m) ∙ was;
    }

-- a clause's new number is its place
pub new_number-place : (clauses : List KeptClause) (k number : ℕ) → AreRising (live_in clauses) → HoldsAt clauses k number → new_number (live_in clauses) number ≡ k
new_number-place clauses k number rising at =
    let live = live_in clauses in
    let d = live_clause at.clause in
    let same : (get_or live k d).number ≡ number = ap (λ (c : LiveClause). c.number) (get_or-map live_clause clauses k at.clause d at.within) ∙ ap (λ (c : KeptClause). c.number) (at.stands at.clause) ∙ at.numbered in
    ap (new_number live) (sym same) ∙ new_number-at live k d rising (omega (arith, at.within, length-map clauses live_clause))

-- a store whose clauses are numbered by their places
pub record IsCompacted (s t : ScanState) : Type 0 where
  pub vars : t.vars ≡ s.vars
  pub count : t.count ≡ length t.flat.clauses
  pub clauses : AreRenumbered s.flat.clauses t.flat.clauses
  pub tail : t.flat.tail ≡ s.flat.tail

pub store_of-compacted : (s t : ScanState) → IsCompacted s t → IsScan s → store_of t ≡ compacted (store_of s)
store_of-compacted s t is scan =
    let count : t.count ≡ length (live_in s.flat.clauses) = omega (arith, is.count, is.clauses.length_same, length-map s.flat.clauses live_clause) in
    rw (is.vars, count, is.tail, live_in-renumbered s.flat.clauses t.flat.clauses is.clauses scan.are_live.numbers) refl

pub IsScan-compacted : (s t : ScanState) → IsCompacted s t → IsScan s → IsScan t
IsScan-compacted s t is scan =
    record {
      are_live = subst AreLive (sym (store_of-compacted s t is scan)) (AreLive-compacted (store_of s) scan.are_live);
      fit = omega (arith, is.count);
      few = omega (arith, is.count, is.clauses.length_same, scan.fit, scan.few);
      is_tail = subst (IsTail t.vars) (sym is.tail) (subst (λ n. IsTail n s.flat.tail) (sym is.vars) scan.is_tail);
    }

pub IsSound-renumbered : (s t : ScanState) (trail : TrailState) → IsCompacted s t → IsScan s → IsSound (live_in s.flat.clauses) trail → IsSound (live_in t.flat.clauses) (renamed (live_in s.flat.clauses) trail)
IsSound-renumbered s t trail is scan sound =
    let live = live_in s.flat.clauses in
    let P : List LiveClause → Type 0 = λ new. IsSound new (renamed live trail) in
    subst P (sym (live_in-renumbered s.flat.clauses t.flat.clauses is.clauses scan.are_live.numbers)) (IsSound-compacted live trail scan.are_live.numbers sound)

blank_clause : LiveClause
blank_clause = record { number = 0; id = 0; lits = set.from_list [] }

blank_entry : Entry
blank_entry = record { lit = pos 0; level = 0; reason = None }

-- the reason of an entry, and those before it and behind it
reason_stands : (es : List Entry) (k old : ℕ) → slice_get (map (λ (e : Entry). e.reason) es) k ≡ Some (Some old) → (e : Entry) × (slice_get es k ≡ Some e) × (e.reason ≡ Some old) × (es ≡ take k es ++ e ∷ drop (k + 1) es)
reason_stands es k old read =
    let lt : k < length es = omega (arith, slice_get_within (map (λ (e : Entry). e.reason) es) k (Some old) read, length-map es (λ (e : Entry). e.reason)) in
    let e = get_or es k blank_entry in
    let at : slice_get es k ≡ Some e = slice_get-get_or es k blank_entry lt in (
      e,
      at,
      same_Some e.reason (Some old) (ap (option_map (λ (x : Entry). x.reason)) (sym at) ∙ sym (slice_get-map (λ (x : Entry). x.reason) es k) ∙ read),
      sym (take-append-drop k es) ∙ ap (λ (ys : List Entry). take k es ++ ys) (drop_more es k blank_entry lt),
    )

pub compacting_says_the_same : CompactingSaysTheSame
compacting_says_the_same store trail are_live sound =
    let live = store.live in
    let new = renumbered live in
    let f = renamed_entry live in
    record {
      ids = map-map (λ (c : LiveClause). c.id) new live;
      lits = map-map (λ (c : LiveClause). c.lits) new live;
      numbers = λ k lt.
          slice_get-map (λ (c : LiveClause). c.number) (map new live) k
          ∙ ap (option_map (λ (c : LiveClause). c.number)) (slice_get-get_or (map new live) k blank_clause (omega (arith, lt, length-map live new)))
          ∙ ap Some (number-compacted live k blank_clause are_live.numbers lt);
      literals = map-map (λ (e : Entry). e.lit) f trail.entries;
      reasons = λ k old read.
          let at = reason_stands trail.entries k old read in
          let e = at.0 in
          let forced = sound (take k trail.entries) (drop (k + 1) trail.entries) e old at.3 at.2 in (
            new_number live old,
            slice_get-map (λ (x : Entry). x.reason) (map f trail.entries) k
                ∙ ap (option_map (λ (x : Entry). x.reason)) (slice_get-map f trail.entries k ∙ ap (option_map f) at.1)
                ∙ ap (λ (o : Option ℕ). Some (option_map (new_number live) o)) at.2,
            record {
              clause = forced.clause;
              renumbered = new forced.clause;
              was_live = forced.is_live;
              is_live = clause_numbered-compacted live old forced.clause are_live.numbers forced.is_live;
              same_id = refl;
              same_lits = refl;
            },
          );
    }

-- no id comes
pub IsResting-compacted : (store now : StoreState) (most : ℕ) → now ≡ compacted store → IsResting store most → IsResting now most
IsResting-compacted store now most is rest =
    let P : StoreState → Type 0 = λ s. IsResting s most in
    subst P (sym is) (record { no_tail = rest.no_tail; ids = All-map (λ (c : LiveClause). c.id ≤ most) (renumbered store.live) store.live rest.ids })
