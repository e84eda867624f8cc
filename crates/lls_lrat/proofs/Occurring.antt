-- How often literals stand in clauses: as they are counted, and what the counts say of the clauses that are left.
use Rattle.std.proofs.Common.{◌≡◌, ℕ, zero, suc, ◌+◌, ◌-◌, ◌<◌, ◌≤◌, Bool, true, false, not, ◌&&◌, ◌||◌, cond, eqb, List, [], ◌∷◌, ◌++◌, length, get_or, take, drop, Option, Some, None, refl, sym, ap, ◌∙◌, inl, inr, arith}
use Rattle.std.specs.Prelude.{ℤ, filter, find, slice_get}
use Rattle.std.specs.List.{list_any}
use Rattle.std.specs.Ordering.{int_eq}
use Rattle.std.proofs.lemmas.Bool.Decides.{eqb_tells, Decides-int_eq, nat_tests}
use Rattle.std.proofs.lemmas.List.{drop_more, drop_all, take_more}
use Rattle.std.proofs.lemmas.Option.{get_or_from_slice_get, slice_get_within}
use Rattle.lls_lit.specs.Literal.{IsLiteral, index_of, literal_at}
use Rattle.lls_lit.specs.Formula.{Clause}
use Rattle.lls_lit.specs.Indices.{index_of-literal_at, literal_at-index_of}
use Rattle.lls_prooflog.specs.UnitWalk.{Live, find_clause, is_among}
use Rattle.lls_lrat.specs.Grouped.{is_lacking}
use Rattle.lls_lrat.specs.Stored.{is_at, kept}
use Rattle.lls_lrat.specs.Occurring.{times_in, times_of, times_among, count_at, AreCounts, IsCounted, HasCounted, CountsMore}

times_in-push : (x : ℤ) (ls : List ℤ) (l : ℤ) → times_in x (ls ++ l ∷ []) ≡ times_in x ls + cond (int_eq x l) 1 0
times_in-push x [] l = omega arith
times_in-push x (m ∷ ms) l = ap (λ n. cond (int_eq x m) 1 0 + n) (times_in-push x ms l) ∙ (let e : cond (int_eq x m) 1 0 + (times_in x ms + cond (int_eq x l) 1 0) ≡ cond (int_eq x m) 1 0 + times_in x ms + cond (int_eq x l) 1 0 = omega arith in e)

-- a literal's place
same_place : (l : ℤ) (i : ℕ) → IsLiteral l → eqb (index_of l) i ≡ int_eq (literal_at i) l
same_place l i h = elim (eqb_tells (index_of l) i) [
  | inl is ↦ is.0 ∙ sym ((Decides-int_eq (literal_at i) l).1 (ap literal_at (sym is.1) ∙ literal_at-index_of l h))
  | inr other ↦ other.0 ∙ (elim (int_eq (literal_at i) l) as (λ b. int_eq (literal_at i) l ≡ b → false ≡ b) [
    | true ↦ λ is. absurd (other.1 (sym (ap index_of ((Decides-int_eq (literal_at i) l).0 is)) ∙ index_of-literal_at i))
    | false ↦ λ _. refl
  ] refl)
]

-- one more literal of a clause
pub counted_more : (lits : List ℤ) (k i : ℕ) (l : ℤ) (start before after : ℕ) → k < length lits → l ≡ get_or lits k l → IsLiteral l → before ≡ start + times_in (literal_at i) (take k lits) → after ≡ cond (eqb (index_of l) i) (before + 1) before → after ≡ start + times_in (literal_at i) (take (k + 1) lits)
counted_more lits k i l start before after lt is h b a =
    let x = literal_at i in
    let pushed : times_in x (take (k + 1) lits) ≡ times_in x (take k lits) + cond (int_eq x l) 1 0 = ap (times_in x) (take_more lits k l lt ∙ ap (λ m. take k lits ++ m ∷ []) (sym is)) ∙ times_in-push x (take k lits) l in
    by_same (int_eq x l) (a ∙ ap (λ t. cond t (before + 1) before) (same_place l i h)) pushed
  where
    by_same : (t : Bool) → after ≡ cond t (before + 1) before → times_in (literal_at i) (take (k + 1) lits) ≡ times_in (literal_at i) (take k lits) + cond t 1 0 → after ≡ start + times_in (literal_at i) (take (k + 1) lits)
    by_same true e f = omega (arith, e, f, b)
    by_same false e f = omega (arith, e, f, b)

pub counted_less : (lits : List ℤ) (k i : ℕ) (l : ℤ) (start before after : ℕ) → k < length lits → l ≡ get_or lits k l → IsLiteral l → before ≡ start - times_in (literal_at i) (take k lits) → after ≡ cond (eqb (index_of l) i) (before - 1) before → after ≡ start - times_in (literal_at i) (take (k + 1) lits)
counted_less lits k i l start before after lt is h b a =
    let x = literal_at i in
    let pushed : times_in x (take (k + 1) lits) ≡ times_in x (take k lits) + cond (int_eq x l) 1 0 = ap (times_in x) (take_more lits k l lt ∙ ap (λ m. take k lits ++ m ∷ []) (sym is)) ∙ times_in-push x (take k lits) l in
    by_same (int_eq x l) (a ∙ ap (λ t. cond t (before - 1) before) (same_place l i h)) pushed
  where
    by_same : (t : Bool) → after ≡ cond t (before - 1) before → times_in (literal_at i) (take (k + 1) lits) ≡ times_in (literal_at i) (take k lits) + cond t 1 0 → after ≡ start - times_in (literal_at i) (take (k + 1) lits)
    by_same true e f = omega (arith, e, f, b)
    by_same false e f = omega (arith, e, f, b)

-- one more literal that is compared
pub times_more : (x : ℤ) (clause : Clause) (k : ℕ) (l : ℤ) → k < length clause → l ≡ get_or clause k l → times_in x (take (k + 1) clause) ≡ times_in x (take k clause) + cond (int_eq x l) 1 0
times_more x clause k l lt is = ap (times_in x) (take_more clause k l lt ∙ ap (λ m. take k clause ++ m ∷ []) (sym is)) ∙ times_in-push x (take k clause) l

times_among-append : (x : ℤ) (front back : Live) → times_among x (front ++ back) ≡ times_among x front + times_among x back
times_among-append x [] back = omega arith
times_among-append x (pair ∷ rest) back = let h = times_among-append x rest back in omega (arith, h)

pub HasCounted-append : (front back : Live) (a b c : List ℕ) → HasCounted front a b → HasCounted back b c → HasCounted (front ++ back) a c
HasCounted-append front back a b c f g i = let x = times_among-append (literal_at i) front back in omega (arith, x, f i, g i)

pub AreCounts-counted : (live : Live) (counts : List ℕ) → HasCounted live [] counts → AreCounts live counts
AreCounts-counted live counts h i = let e : count_at [] i ≡ 0 = refl in omega (arith, h i, e)

-- clauses that are stored, as a loop counts them
module _ (place_of : ℕ → Option ℕ) (all : Live) (before now : List ℕ) (place : ℕ) where
  abbrev pub CountedFrom : Type 0
  CountedFrom = (i : ℕ) → count_at before i + times_among (literal_at i) (kept place_of 0 all) ≤ count_at now i + times_among (literal_at i) (kept place_of place (drop place all))

  pub all_counted : CountedFrom → length all ≤ place → HasCounted (kept place_of 0 all) before now
  all_counted h le i =
      let none : times_among (literal_at i) (kept place_of place (drop place all)) ≡ 0 = ap (λ rest. times_among (literal_at i) (kept place_of place rest)) (drop_all place all le) in
      omega (arith, h i, none)

  module _ (pair : ℕ × Clause) (at : slice_get all place ≡ Some pair) where
    kept_here : (live : Bool) → is_at (place_of pair.0) place ≡ live → kept place_of place (drop place all) ≡ cond live (pair ∷ kept place_of (place + 1) (drop (place + 1) all)) (kept place_of (place + 1) (drop (place + 1) all))
    kept_here live is =
        ap (kept place_of place) (drop_more all place pair (slice_get_within all place pair at) ∙ ap (λ (p : ℕ × Clause). p ∷ drop (place + 1) all) (get_or_from_slice_get all place pair pair at))
        ∙ ap (λ b. cond b (pair ∷ kept place_of (place + 1) (drop (place + 1) all)) (kept place_of (place + 1) (drop (place + 1) all))) is

    pub dead_passed : CountedFrom → is_at (place_of pair.0) place ≡ false → (i : ℕ) → count_at before i + times_among (literal_at i) (kept place_of 0 all) ≤ count_at now i + times_among (literal_at i) (kept place_of (place + 1) (drop (place + 1) all))
    dead_passed h dead i = let e = ap (times_among (literal_at i)) (kept_here false dead) in omega (arith, h i, e)

    pub live_counted : CountedFrom → is_at (place_of pair.0) place ≡ true → (next : List ℕ) → ((i : ℕ) → count_at next i ≡ count_at now i + times_in (literal_at i) pair.1) → (i : ℕ) → count_at before i + times_among (literal_at i) (kept place_of 0 all) ≤ count_at next i + times_among (literal_at i) (kept place_of (place + 1) (drop (place + 1) all))
    live_counted h live next more i = let e = ap (times_among (literal_at i)) (kept_here true live) in let m = more i in omega (arith, h i, e, m)

-- a clause is put at the end
pub IsCounted-push : (live : Live) (id : ℕ) (lits : Clause) (before after : Option (List ℕ)) → IsCounted live before → CountsMore lits before after → IsCounted (live ++ (id, lits) ∷ []) after
IsCounted-push live id lits before after known more counts is i =
    let m = more counts is in
    let old = known m.0 m.1.0 i in
    let grown = times_among-append (literal_at i) live ((id, lits) ∷ []) in
    let last : times_among (literal_at i) ((id, lits) ∷ []) ≡ times_in (literal_at i) lits = omega arith in
    let counted = m.1.1 i in
    omega (arith, old, grown, last, counted)

abbrev pub without : ℕ → Live → Live
without id live = filter (λ pair. not (eqb id pair.0)) live

without_less : (x : ℤ) (id : ℕ) (live : Live) → times_among x (without id live) ≤ times_among x live
without_less x id [] = omega arith
without_less x id (pair ∷ rest) =
    let h = without_less x id rest in
    elim (eqb id pair.0) as (λ b. times_among x (cond (not b) (pair ∷ without id rest) (without id rest)) ≤ times_in x pair.1 + times_among x rest) [
      | true ↦ omega (arith, h)
      | false ↦ omega (arith, h)
    ]

eqb-swap : (a b : ℕ) → eqb a b ≡ eqb b a
eqb-swap a b = grind (arith, nat_tests)

-- without the clause of an id, its literals aren't there as often
pub without_found : (x : ℤ) (id : ℕ) (live : Live) → times_of x (find_clause live id) + times_among x (without id live) ≤ times_among x live
without_found x id [] = omega arith
without_found x id (pair ∷ rest) =
    let h = without_found x id rest in
    let less = without_less x id rest in
    rw (eqb-swap pair.0 id) (elim (eqb id pair.0) as (λ b. times_of x (cond b (Some pair.1) (find_clause rest id)) + times_among x (cond (not b) (pair ∷ without id rest) (without id rest)) ≤ times_in x pair.1 + times_among x rest) [
      | true ↦ omega (arith, less)
      | false ↦ omega (arith, h)
    ])

pub AreCounts-less : (live : Live) (id : ℕ) (clause : Clause) (before after : List ℕ) → AreCounts live before → find_clause live id ≡ Some clause → ((i : ℕ) → count_at after i ≡ count_at before i - times_in (literal_at i) clause) → AreCounts (without id live) after
AreCounts-less live id clause before after known found less i =
    let h = without_found (literal_at i) id live in
    let t : times_of (literal_at i) (find_clause live id) ≡ times_in (literal_at i) clause = ap (times_of (literal_at i)) found in
    let l = less i in
    omega (arith, known i, h, t, l)

pub AreCounts-same : (live : Live) (id : ℕ) (counts : List ℕ) → AreCounts live counts → AreCounts (without id live) counts
AreCounts-same live id counts known i = let h = without_less (literal_at i) id live in omega (arith, known i, h)

-- ids that descend strictly, all below a bound
abbrev pub Descend : ℕ → List ℕ → Type 0
Descend bound [] = Unit {0}
Descend bound (id ∷ ids) = (id < bound) × Descend id ids

-- how often a literal stands in the clauses of ids
abbrev pub times_by : ℤ → Live → List ℕ → ℕ
times_by x live [] = 0
times_by x live (id ∷ ids) = times_of x (find_clause live id) + times_by x live ids

-- clauses whose ids are none of these
abbrev pub without_all : List ℕ → Live → Live
without_all ids live = filter (λ pair. not (list_any (λ id. eqb id pair.0) ids)) live

find-without : (live : Live) (id other : ℕ) → other < id → find_clause (without id live) other ≡ find_clause live other
find-without [] id other lt = refl
find-without (pair ∷ rest) id other lt =
    let h = find-without rest id other lt in
    elim (eqb_tells id pair.0) [
      | inl is ↦
          let apart : eqb pair.0 other ≡ false = let e = is.1 in grind (arith, nat_tests, e, lt) in
          rw (is.0, apart) h
      | inr not_it ↦ rw not_it.0 (ap (λ o. cond (eqb pair.0 other) (Some pair.1) o) h)
    ]

times_by-without : (x : ℤ) (live : Live) (id bound : ℕ) (ids : List ℕ) → bound ≤ id → Descend bound ids → times_by x (without id live) ids ≡ times_by x live ids
times_by-without x live id bound [] le h = refl
times_by-without x live id bound (other ∷ ids) le h =
    let here = ap (times_of x) (find-without live id other (omega (arith, le, h.0))) in
    let rest = times_by-without x live id other ids (omega (arith, le, h.0)) h.1 in
    rw (here, rest) refl

filter-both : (id : ℕ) (ids : List ℕ) (live : Live) → without_all ids (without id live) ≡ without_all (id ∷ ids) live
filter-both id ids [] = refl
filter-both id ids (pair ∷ rest) =
    let h = filter-both id ids rest in
    elim (eqb id pair.0) as (λ b. without_all ids (cond (not b) (pair ∷ without id rest) (without id rest)) ≡ cond (not (b || list_any (λ i. eqb i pair.0) ids)) (pair ∷ without_all (id ∷ ids) rest) (without_all (id ∷ ids) rest)) [
      | true ↦ h
      | false ↦ ap (λ ps. cond (not (list_any (λ i. eqb i pair.0) ids)) (pair ∷ ps) ps) h
    ]

-- what stands in the clauses of some ids and in the others is no more than stands in all
times_apart : (x : ℤ) (live : Live) (bound : ℕ) (ids : List ℕ) → Descend bound ids → times_by x live ids + times_among x (without_all ids live) ≤ times_among x live
times_apart x live bound [] h = let e : without_all [] live ≡ live = all_kept live in let f = ap (times_among x) e in omega (arith, f) where
  all_kept : (ps : Live) → without_all [] ps ≡ ps
  all_kept [] = refl
  all_kept (p ∷ ps) = ap (λ qs. p ∷ qs) (all_kept ps)
times_apart x live bound (id ∷ ids) h =
    let one = without_found x id live in
    let rest = times_apart x (without id live) id ids h.1 in
    let same = times_by-without x live id id ids (omega arith) h.1 in
    let both = ap (times_among x) (filter-both id ids live) in
    omega (arith, one, rest, same, both)

none_among : (x : ℤ) (clause : Clause) → times_in x clause ≡ 0 → is_among clause x ≡ false
none_among x [] e = refl
none_among x (l ∷ ls) e = elim (int_eq x l) as (λ b. cond b 1 0 + times_in x ls ≡ 0 → (b || is_among ls x) ≡ false) [
  | true ↦ λ h. absurd (omega (arith, h))
  | false ↦ λ h. none_among x ls (omega (arith, h))
] e

-- where the literal stands in no clause but those of some ids, none lacks
none_lacks : (x : ℤ) (ids taken : List ℕ) (live : Live) → ((id : ℕ) → list_any (λ other. eqb other id) taken ≡ true → list_any (λ other. eqb other id) ids ≡ true) → times_among x (without_all taken live) ≡ 0 → find (is_lacking x ids) live ≡ None
none_lacks x ids taken [] among e = refl
none_lacks x ids taken (pair ∷ rest) among e =
    by_taken (list_any (λ id. eqb id pair.0) taken) refl e (none_lacks x ids taken rest among)
  where
    by_taken : (b : Bool) → list_any (λ id. eqb id pair.0) taken ≡ b → times_among x (cond (not b) (pair ∷ without_all taken rest) (without_all taken rest)) ≡ 0 → (times_among x (without_all taken rest) ≡ 0 → find (is_lacking x ids) rest ≡ None) → cond (is_among pair.1 x && not (list_any (λ id. eqb id pair.0) ids)) (Some pair) (find (is_lacking x ids) rest) ≡ None
    by_taken true is h others = rw (among pair.0 is) (by_among (is_among pair.1 x) (others h)) where
      by_among : (b : Bool) → find (is_lacking x ids) rest ≡ None → cond (b && false) (Some pair) (find (is_lacking x ids) rest) ≡ None
      by_among true k = k
      by_among false k = k
    by_taken false is h others =
        let none = none_among x pair.1 (omega (arith, h)) in
        rw none (others (omega (arith, h)))

-- ids that were taken from a list, each once, and what is left of a count
pub record Taken (x : ℤ) (live : Live) (ids : List ℕ) (total last left : ℕ) : Type 0 where
  pub taken : List ℕ
  pub once : Descend (last + 1) taken
  pub among : (id : ℕ) → list_any (λ other. eqb other id) taken ≡ true → list_any (λ other. eqb other id) ids ≡ true
  pub left_is : left ≡ total - times_by x live taken

pub takes_none : (x : ℤ) (live : Live) (ids : List ℕ) (total : ℕ) → Taken x live ids total 0 total
takes_none x live ids total = record { taken = []; once = tt; among = λ id e. absurd cc; left_is = omega arith }

among_at : (ids : List ℕ) (k id : ℕ) → k < length ids → id ≡ get_or ids k 0 → list_any (λ other. eqb other id) ids ≡ true
among_at [] k id lt is = absurd (omega arith)
among_at (other ∷ ids) zero id lt is = let e : eqb other id ≡ true = grind (arith, nat_tests, is) in rw e refl
among_at (other ∷ ids) (suc k) id lt is = or_true (eqb other id) (among_at ids k id (omega (arith, lt)) is) where
  or_true : (b : Bool) → list_any (λ o. eqb o id) ids ≡ true → (b || list_any (λ o. eqb o id) ids) ≡ true
  or_true true e = refl
  or_true false e = e

pub takes_on : (x : ℤ) (live : Live) (ids : List ℕ) (total last left id times : ℕ) (k : ℕ) → Taken x live ids total last left → last < id → k < length ids → id ≡ get_or ids k 0 → times ≡ times_of x (find_clause live id) → Taken x live ids total id (left - times)
takes_on x live ids total last left id times k t lt within is e = record {
  taken = id ∷ t.taken;
  once = (omega arith, wider (last + 1) t.taken (omega (arith, lt)) t.once);
  among = λ other h. by_id other (eqb id other) refl h;
  left_is = let old = t.left_is in omega (arith, old, e);
} where
  wider : (bound : ℕ) (ns : List ℕ) → bound ≤ id → Descend bound ns → Descend id ns
  wider bound [] le h = tt
  wider bound (n ∷ ns) le h = (omega (arith, le, h.0), h.1)

  by_id : (other : ℕ) (b : Bool) → eqb id other ≡ b → (b || list_any (λ o. eqb o other) t.taken) ≡ true → list_any (λ o. eqb o other) ids ≡ true
  by_id other true same h = elim (eqb_tells id other) [
    | inl s ↦ ap (λ n. list_any (λ o. eqb o n) ids) (sym s.1) ∙ among_at ids k id within is
    | inr s ↦ let clash : false ≡ true = sym s.0 ∙ same in absurd cc
  ]
  by_id other false same h = t.among other h

pub all_taken : (l : ℤ) (live : Live) (ids counts : List ℕ) (last left : ℕ) → IsLiteral l → AreCounts live counts → Taken l live ids (count_at counts (index_of l)) last left → left ≡ 0 → find (is_lacking l ids) live ≡ None
all_taken l live ids counts last left h known t none =
    let same : times_among (literal_at (index_of l)) live ≡ times_among l live = ap (λ m. times_among m live) (literal_at-index_of l h) in
    let most = known (index_of l) in
    let apart = times_apart l live (last + 1) t.taken t.once in
    let left_is = t.left_is in
    none_lacks l ids t.taken live t.among (omega (arith, same, most, apart, left_is, none))
