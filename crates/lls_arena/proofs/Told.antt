-- Where live clauses are to go, as the first edge of each says it.
use Rattle.std.proofs.Common.{◌≡◌, ◌≢◌, ◌⊎◌, inl, inr, ℕ, zero, suc, ◌+◌, ◌<◌, Bool, true, false, cond, List, [], ◌∷◌, length, get_or, set, take, Option, Some, refl, sym, ap, ◌∙◌, arith, zero-add}
use Rattle.std.specs.Prelude.{ℤ, map, count_by, unwrap_or}
use Rattle.std.proofs.lemmas.Bool.Decides.{eqb_tells}
use Rattle.std.proofs.lemmas.List.{get_or-set_other, get_or-set_same, get_or_default, get_or-map, length-map}
use Rattle.std.proofs.lemmas.List.Sums.{count_by_more_no, count_by_more_yes, sum_by-append}
use Rattle.std.proofs.lemmas.Option.{same_Some}
use Rattle.lls_arena.specs.declared.edges.Edges.{Edges}
use Rattle.lls_arena.specs.Arena.{HeadState, IsLive, live_before, unlinked}
use Rattle.lls_arena.specs.Links.{link_in}
use Rattle.lls_arena.specs.Parts.{AreAllWatched, SayWhereTo, SpanState, head_at, heads_in, is_live_at, live_among}
use Rattle.lls_arena.proofs.Heads.{no_span, read_span}

-- nothing is said of an arena that isn't planned
pub no_plan : (P : Type 0) → false ≡ true → P
no_plan P is = absurd cc

-- what stands in a list after a write
is_set : (es : List Edges) (new : Edges) (k j : ℕ) (d : Edges) → k < length es → ((j ≡ k) × (get_or (set es k new) j d ≡ new)) ⊎ ((j ≢ k) × (get_or (set es k new) j d ≡ get_or es j d))
is_set es new k j d lt = elim (eqb_tells j k) [
  | inl t ↦ inl (t.1, ap (λ n. get_or (set es k new) n d) t.1 ∙ get_or-set_same es k new d lt)
  | inr t ↦ inr (t.1, get_or-set_other es k j new d t.1)
]

-- other edges with the same link say the same
pub SayWhereTo-set : (es : List Edges) (lives : List Bool) (c : ℕ) (e new : Edges) → c < length es → e ≡ get_or es c e → new.first.next ≡ e.first.next → SayWhereTo es lives → SayWhereTo (set es c new) lives
SayWhereTo-set es lives c e new among is same say = λ k d lt live. elim (is_set es new c k d among) [
  | inl at ↦ ap (λ (x : Edges). link_in x.first.next) at.1 ∙ ap link_in (same ∙ ap (λ (x : Edges). x.first.next) is) ∙ say c e (omega (arith, lt, at.0)) (ap (is_live_at lives) (sym at.0) ∙ live) ∙ ap (λ n. Some (live_among lives n)) (sym at.0)
  | inr at ↦ ap (λ (x : Edges). link_in x.first.next) at.1 ∙ say k d lt live
]

-- the live clauses among the first k have been told
pub record IsTelling (old now : List Edges) (lives : List Bool) (k before : ℕ) : Type 0 where
  pub counted : before ≡ live_among lives k
  pub told : (j : ℕ) (d : Edges) → j < k → is_live_at lives j ≡ true → link_in (get_or now j d).first.next ≡ Some (live_among lives j)
  pub first : (j : ℕ) (d : Edges) → (get_or now j d).first.lit ≡ (get_or old j d).first.lit
  pub second : (j : ℕ) (d : Edges) → (get_or now j d).second ≡ (get_or old j d).second

pub IsTelling-start : (old : List Edges) (lives : List Bool) → IsTelling old old lives 0 0
IsTelling-start old lives = record {
  counted = refl;
  told = λ j d lt live. absurd (omega arith);
  first = λ j d. refl;
  second = λ j d. refl;
}

pub IsTelling-live : (old now : List Edges) (lives : List Bool) (k before : ℕ) (e new : Edges) → IsTelling old now lives k before → k < length now → k < length lives → is_live_at lives k ≡ true → e ≡ get_or now k e → link_in new.first.next ≡ Some before → new.first.lit ≡ e.first.lit → new.second ≡ e.second → IsTelling old (set now k new) lives (k + 1) (before + 1)
IsTelling-live old now lives k before e new telling among lt live at link first second = record {
  counted = omega (arith, telling.counted, count_by_more_yes (λ (live : Bool). live) lives k false lt live);
  told = λ j d below is_live. elim (is_set now new k j d among) [
    | inl here ↦ ap (λ (x : Edges). link_in x.first.next) here.1 ∙ link ∙ ap Some telling.counted ∙ ap (λ n. Some (live_among lives n)) (sym here.0)
    | inr other ↦ ap (λ (x : Edges). link_in x.first.next) other.1 ∙ telling.told j d (omega (arith, below, other.0)) is_live
  ];
  first = λ j d. elim (is_set now new k j d among) [
    | inl here ↦ ap (λ (x : Edges). x.first.lit) here.1 ∙ first ∙ ap (λ (x : Edges). x.first.lit) (at ∙ get_or_default now k e d among ∙ ap (λ n. get_or now n d) (sym here.0)) ∙ telling.first j d
    | inr other ↦ ap (λ (x : Edges). x.first.lit) other.1 ∙ telling.first j d
  ];
  second = λ j d. elim (is_set now new k j d among) [
    | inl here ↦ ap (λ (x : Edges). x.second) here.1 ∙ second ∙ ap (λ (x : Edges). x.second) (at ∙ get_or_default now k e d among ∙ ap (λ n. get_or now n d) (sym here.0)) ∙ telling.second j d
    | inr other ↦ ap (λ (x : Edges). x.second) other.1 ∙ telling.second j d
  ];
}

clash : (P : Type 0) (b : Bool) → b ≡ true → b ≡ false → P
clash P b yes_it_is no_it_is_not = absurd cc

pub IsTelling-dead : (old now : List Edges) (lives : List Bool) (k before : ℕ) → IsTelling old now lives k before → k < length lives → is_live_at lives k ≡ false → IsTelling old now lives (k + 1) before
IsTelling-dead old now lives k before telling lt dead = record {
  counted = omega (arith, telling.counted, count_by_more_no (λ (live : Bool). live) lives k false lt dead);
  told = λ j d below live. elim (eqb_tells j k) [
    | inl here ↦ clash _ (is_live_at lives k) (ap (is_live_at lives) (sym here.1) ∙ live) dead
    | inr other ↦ telling.told j d (omega (arith, below, other.1)) live
  ];
  first = telling.first;
  second = telling.second;
}

count-cons : {X : Type 0} (p : X → Bool) (x : X) (xs : List X) → count_by p (x ∷ xs) ≡ cond (p x) 1 0 + count_by p xs
count-cons p x xs = sum_by-append (λ y. cond (p y) 1 0) (x ∷ []) xs ∙ ap (λ n. n + count_by p xs) (zero-add (cond (p x) 1 0))

abbrev live_of : SpanState → Bool
live_of s = s.live

pub live_before-heads_in : (lits : List ℤ) (es : List Edges) (spans : List SpanState) (c : ℕ) → AreAllWatched lits es spans → live_before (heads_in lits es spans) c ≡ live_among (map live_of spans) c
live_before-heads_in lits es spans zero watched = refl
live_before-heads_in lits [] [] (suc c) watched = refl
live_before-heads_in lits [] (s ∷ spans) (suc c) watched = absurd watched
live_before-heads_in lits (e ∷ es) [] (suc c) watched = absurd watched
live_before-heads_in lits (e ∷ es) (s ∷ spans) (suc c) watched =
    count-cons (λ (head : HeadState). head.live) (head_at lits e s) (take c (heads_in lits es spans))
    ∙ ap (λ n. cond s.live 1 0 + n) (live_before-heads_in lits es spans c watched.1)
    ∙ sym (count-cons (λ (live : Bool). live) s.live (take c (map live_of spans)))

pub live_at : (lits : List ℤ) (es : List Edges) (spans : List SpanState) (c : ℕ) → AreAllWatched lits es spans → c < length spans → IsLive (heads_in lits es spans) c → is_live_at (map live_of spans) c ≡ true
live_at lits es spans c watched lt live =
    let s = get_or spans c no_span in
    get_or-map live_of spans c no_span false lt
    ∙ same_Some s.live true (sym (read_span (λ (head : HeadState). head.live) s.live lits es spans c s watched lt (get_or_default spans c no_span s lt) (λ e. refl)) ∙ live)

-- what is read there
pub told_at : (lits : List ℤ) (es : List Edges) (spans : List SpanState) (lives : List Bool) (c answer : ℕ) (e : Edges) → AreAllWatched lits es spans → map (λ (s : SpanState). s.live) spans ≡ lives → c < length spans → IsLive (heads_in lits es spans) c → SayWhereTo es lives → e ≡ get_or es c e → answer ≡ unwrap_or (link_in e.first.next) c → answer ≡ live_before (heads_in lits es spans) c
told_at lits es spans lives c answer e watched known lt live say at is =
    is
    ∙ ap (λ (x : Edges). unwrap_or (link_in x.first.next) c) at
    ∙ ap (λ (o : Option ℕ). unwrap_or o c) (say c e (omega (arith, lt, ap length known, length-map spans live_of)) (ap (λ (ls : List Bool). is_live_at ls c) (sym known) ∙ live_at lits es spans c watched lt live))
    ∙ ap (λ (ls : List Bool). live_among ls c) (sym known)
    ∙ sym (live_before-heads_in lits es spans c watched)

-- edges that were told watch the same literals
pub AreAllWatched-told : (lits : List ℤ) (old new : List Edges) (spans : List SpanState) → length new ≡ length old → ((k : ℕ) (d : Edges) → (get_or new k d).first.lit ≡ (get_or old k d).first.lit) → ((k : ℕ) (d : Edges) → (get_or new k d).second ≡ (get_or old k d).second) → AreAllWatched lits old spans → AreAllWatched lits new spans
AreAllWatched-told lits [] [] spans same first second watched = watched
AreAllWatched-told lits [] (n ∷ new) spans same first second watched = absurd (omega arith)
AreAllWatched-told lits (e ∷ old) [] spans same first second watched = absurd (omega arith)
AreAllWatched-told lits (e ∷ old) (n ∷ new) [] same first second watched = watched
AreAllWatched-told lits (e ∷ old) (n ∷ new) (s ∷ spans) same first second watched = (
  record {
    first = λ lt. first 0 n ∙ watched.0.first lt;
    second = λ lt. ap (λ x. x.lit) (second 0 n) ∙ watched.0.second lt;
  },
  AreAllWatched-told lits old new spans (omega arith) (λ k d. first (suc k) d) (λ k d. second (suc k) d) watched.1,
)

-- but for their links, the clauses are the same
pub unlinked-told : (lits : List ℤ) (old new : List Edges) (spans : List SpanState) → length new ≡ length old → map unlinked (heads_in lits new spans) ≡ map unlinked (heads_in lits old spans)
unlinked-told lits [] [] spans same = refl
unlinked-told lits [] (n ∷ new) spans same = absurd (omega arith)
unlinked-told lits (e ∷ old) [] spans same = absurd (omega arith)
unlinked-told lits (e ∷ old) (n ∷ new) [] same = refl
unlinked-told lits (e ∷ old) (n ∷ new) (s ∷ spans) same = ap (λ (heads : List HeadState). unlinked (head_at lits e s) ∷ heads) (unlinked-told lits old new spans (omega arith))
