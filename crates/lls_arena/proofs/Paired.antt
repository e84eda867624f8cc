-- Edges that stand beside each other in one list.
use Rattle.std.proofs.Common.{◌≡◌, ℕ, zero, suc, ◌+◌, ◌*◌, ◌<◌, Bool, true, false, cond, List, [], ◌∷◌, ◌++◌, length, get_or, set, take, refl, sym, ap, ◌∙◌, arith}
use Rattle.std.specs.Prelude.{ℤ, ◌-◌, ◌/◌, ◌%◌, ◌==◌, not, None, Option, Some}
use Rattle.std.proofs.Common.{inl, inr, add-one}
use lib.Bits.{bit_xor, xor_block, xor_zero_r}
use Rattle.std.proofs.lemmas.Bool.Decides.{eqb_tells}
use Rattle.std.proofs.lemmas.List.{get_or_default, length-set, length-take, length_push}
use Rattle.lls_arena.specs.declared.edges.Link.{Link}
use Rattle.lls_arena.specs.declared.edges.Edge.{Edge}
use Rattle.lls_arena.specs.declared.edges.Edges.{Edges}
use Rattle.lls_arena.specs.Arena.{place_of}
use Rattle.lls_arena.specs.Links.{linked, no_edge, no_pair, pairs_in, second_named, with_lit, with_next}

abbrev pub AreTwos : List Edge → Type 0
AreTwos es = length es ≡ 2 * length (pairs_in es)

abbrev pub edge_of : Bool → Edges → Edge
edge_of w both = cond w both.second both.first

abbrev pub with_edge : Bool → Edge → Edges → Edges
with_edge false edge both = record both { first = edge }
with_edge true edge both = record both { second = edge }

place_below : (w : Bool) → place_of w < 2
place_below true = omega arith
place_below false = omega arith

pub edge_read : (es : List Edge) (c n : ℕ) (w : Bool) → n ≡ 2 * c + place_of w → c < length (pairs_in es) → get_or es n no_edge ≡ edge_of w (get_or (pairs_in es) c no_pair)
edge_read [] c n w at lt = absurd (omega arith)
edge_read (x ∷ []) c n w at lt = absurd (omega arith)
edge_read (x ∷ y ∷ rest) zero zero true at lt = absurd (omega arith)
edge_read (x ∷ y ∷ rest) zero zero false at lt = refl
edge_read (x ∷ y ∷ rest) zero (suc zero) true at lt = refl
edge_read (x ∷ y ∷ rest) zero (suc zero) false at lt = absurd (omega arith)
edge_read (x ∷ y ∷ rest) zero (suc (suc n)) w at lt = absurd (omega (arith, place_below w))
edge_read (x ∷ y ∷ rest) (suc c) zero w at lt = absurd (omega arith)
edge_read (x ∷ y ∷ rest) (suc c) (suc zero) w at lt = absurd (omega arith)
edge_read (x ∷ y ∷ rest) (suc c) (suc (suc n)) w at lt = edge_read rest c n w (omega arith) (omega arith)

pub edge_written : (es : List Edge) (c n : ℕ) (w : Bool) (edge : Edge) → n ≡ 2 * c + place_of w → c < length (pairs_in es) → pairs_in (set es n edge) ≡ set (pairs_in es) c (with_edge w edge (get_or (pairs_in es) c no_pair))
edge_written [] c n w edge at lt = absurd (omega arith)
edge_written (x ∷ []) c n w edge at lt = absurd (omega arith)
edge_written (x ∷ y ∷ rest) zero zero true edge at lt = absurd (omega arith)
edge_written (x ∷ y ∷ rest) zero zero false edge at lt = refl
edge_written (x ∷ y ∷ rest) zero (suc zero) true edge at lt = refl
edge_written (x ∷ y ∷ rest) zero (suc zero) false edge at lt = absurd (omega arith)
edge_written (x ∷ y ∷ rest) zero (suc (suc n)) w edge at lt = absurd (omega (arith, place_below w))
edge_written (x ∷ y ∷ rest) (suc c) zero w edge at lt = absurd (omega arith)
edge_written (x ∷ y ∷ rest) (suc c) (suc zero) w edge at lt = absurd (omega arith)
edge_written (x ∷ y ∷ rest) (suc c) (suc (suc n)) w edge at lt = ap (λ (ps : List Edges). record { first = x; second = y } ∷ ps) (edge_written rest c n w edge (omega arith) (omega arith))

pub twos_written : (es : List Edge) (c n : ℕ) (w : Bool) (edge : Edge) → n ≡ 2 * c + place_of w → c < length (pairs_in es) → AreTwos es → AreTwos (set es n edge)
twos_written es c n w edge at lt twos =
    let written = ap length (edge_written es c n w edge at lt) in
    let same = length-set (pairs_in es) c (with_edge w edge (get_or (pairs_in es) c no_pair)) in
    omega (arith, length-set es n edge, written, same, twos)

pub pairs_pushed : (es : List Edge) (x y : Edge) → AreTwos es → pairs_in ((es ++ x ∷ []) ++ y ∷ []) ≡ pairs_in es ++ record { first = x; second = y } ∷ []
pairs_pushed [] x y twos = refl
pairs_pushed (a ∷ []) x y twos = absurd (omega arith)
pairs_pushed (a ∷ b ∷ es) x y twos = ap (λ (ps : List Edges). record { first = a; second = b } ∷ ps) (pairs_pushed es x y (omega arith))

pub pairs_taken : (es : List Edge) (k n : ℕ) → n ≡ 2 * k → pairs_in (take n es) ≡ take k (pairs_in es)
pairs_taken es zero zero at = refl
pairs_taken es zero (suc n) at = absurd (omega arith)
pairs_taken es (suc k) zero at = absurd (omega arith)
pairs_taken es (suc k) (suc zero) at = absurd (omega arith)
pairs_taken [] (suc k) (suc (suc n)) at = refl
pairs_taken (a ∷ []) (suc k) (suc (suc n)) at = refl
pairs_taken (a ∷ b ∷ es) (suc k) (suc (suc n)) at = ap (λ (ps : List Edges). record { first = a; second = b } ∷ ps) (pairs_taken es k n (omega arith))

same_pair : (a b : Edge) (p : Edges) → a ≡ p.first → b ≡ p.second → record { first = a; second = b } ≡ p
same_pair a b p first second = ap (λ (x : Edge). record { first = x; second = b }) first ∙ ap (λ (x : Edge). record { first = p.first; second = x }) second

-- an edge of a clause, as it stands in the list
pub stands : (es : List Edge) (c n : ℕ) (w : Bool) (edge : Edge) → n ≡ 2 * c + place_of w → c < length (pairs_in es) → AreTwos es → edge ≡ get_or es n edge → edge ≡ edge_of w (get_or (pairs_in es) c no_pair)
stands es c n w edge at lt twos is = is ∙ sym (get_or_default es n no_edge edge (omega (arith, at, place_below w, lt, twos))) ∙ edge_read es c n w at lt

pub both_stand : (es : List Edge) (k : ℕ) (a b : Edge) → k < length (pairs_in es) → AreTwos es → a ≡ get_or es (2 * k) a → b ≡ get_or es (2 * k + 1) b → record { first = a; second = b } ≡ get_or (pairs_in es) k no_pair
both_stand es k a b lt twos first second = same_pair a b (get_or (pairs_in es) k no_pair) (stands es k (2 * k) false a (omega arith) lt twos first) (stands es k (2 * k + 1) true b refl lt twos second)

relinked : (w : Bool) (next : Link) (was : Edge) (p : Edges) → was ≡ edge_of w p → with_edge w (record { next = next; lit = was.lit }) p ≡ with_next w next p
relinked true next was p is = ap (λ (x : Edge). record { first = p.first; second = record { next = next; lit = x.lit } }) is
relinked false next was p is = ap (λ (x : Edge). record { first = record { next = next; lit = x.lit }; second = p.second }) is

rewatched : (w : Bool) (lit : ℤ) (was : Edge) (p : Edges) → was ≡ edge_of w p → with_edge w (record { next = was.next; lit = lit }) p ≡ with_lit w lit p
rewatched true lit was p is = ap (λ (x : Edge). record { first = p.first; second = record { next = x.next; lit = lit } }) is
rewatched false lit was p is = ap (λ (x : Edge). record { first = record { next = x.next; lit = lit }; second = p.second }) is

-- an edge gets another link, or watches another literal
pub link_written : (es : List Edge) (c n : ℕ) (w : Bool) (next : Link) (was : Edge) → n ≡ 2 * c + place_of w → c < length (pairs_in es) → AreTwos es → was ≡ get_or es n was → pairs_in (set es n (record { next = next; lit = was.lit })) ≡ set (pairs_in es) c (with_next w next (get_or (pairs_in es) c no_pair))
link_written es c n w next was at lt twos is =
    edge_written es c n w (record { next = next; lit = was.lit }) at lt ∙ ap (set (pairs_in es) c) (relinked w next was (get_or (pairs_in es) c no_pair) (stands es c n w was at lt twos is))

pub lit_written : (es : List Edge) (c n : ℕ) (w : Bool) (lit : ℤ) (was : Edge) → n ≡ 2 * c + place_of w → c < length (pairs_in es) → AreTwos es → was ≡ get_or es n was → pairs_in (set es n (record { next = was.next; lit = lit })) ≡ set (pairs_in es) c (with_lit w lit (get_or (pairs_in es) c no_pair))
lit_written es c n w lit was at lt twos is =
    edge_written es c n w (record { next = was.next; lit = lit }) at lt ∙ ap (set (pairs_in es) c) (rewatched w lit was (get_or (pairs_in es) c no_pair) (stands es c n w was at lt twos is))

pub pair_written : (es : List Edge) (k n m : ℕ) (a b : Edge) → n ≡ 2 * k → m ≡ 2 * k + 1 → k < length (pairs_in es) → pairs_in (set (set es n a) m b) ≡ set (pairs_in es) k (record { first = a; second = b })
pair_written [] k n m a b first second lt = absurd (omega arith)
pair_written (x ∷ []) k n m a b first second lt = absurd (omega arith)
pair_written (x ∷ y ∷ rest) zero n m a b first second lt = rw (first, second) refl
pair_written (x ∷ y ∷ rest) (suc k) n m a b first second lt =
    let n_is : n ≡ suc (suc (2 * k)) = omega arith in
    let m_is : m ≡ suc (suc (2 * k + 1)) = omega arith in
    rw (n_is, m_is) (ap (λ (ps : List Edges). record { first = x; second = y } ∷ ps) (pair_written rest k (2 * k) (2 * k + 1) a b refl refl (omega arith)))

pub twos_put : (es : List Edge) (k : ℕ) (a b : Edge) → k < length (pairs_in es) → AreTwos es → AreTwos (set (set es (2 * k) a) (2 * k + 1) b)
twos_put es k a b lt twos =
    let written = ap length (pair_written es k (2 * k) (2 * k + 1) a b refl refl lt) in
    omega (arith, length-set (set es (2 * k) a) (2 * k + 1) b, length-set es (2 * k) a, length-set (pairs_in es) k (record { first = a; second = b }), written, twos)

pub twos_pushed : (es : List Edge) (x y : Edge) → AreTwos es → AreTwos ((es ++ x ∷ []) ++ y ∷ [])
twos_pushed es x y twos =
    let pushed = ap length (pairs_pushed es x y twos) in
    omega (arith, length_push (es ++ x ∷ []) y, length_push es x, length_push (pairs_in es) (record { first = x; second = y }), pushed, twos)

pub twos_taken : (es : List Edge) (k : ℕ) → AreTwos es → AreTwos (take (2 * k) es)
twos_taken es k twos =
    let taken = ap length (pairs_taken es k (2 * k) refl) in
    omega (arith, length-take (2 * k) es, length-take k (pairs_in es), taken, twos)

remainder : (p : ℕ) → p ≡ 2 * (p / 2) + place_of (p % 2 == 1)
remainder p = elim (eqb_tells (p % 2) 1) [
  | inl t ↦ rw t.0 (omega (arith, t.1))
  | inr t ↦ rw t.0 (omega (arith, t.1))
]

-- the place of the edge that a link names
pub named_place : (after c : ℕ) → linked after ≡ Some c → after - 1 ≡ 2 * c + place_of (second_named after)
named_place zero c is = absurd cc
named_place (suc p) c is =
    let same : p / 2 ≡ c = cc in
    let at : suc p - 1 ≡ p = omega arith in
    at ∙ remainder p ∙ ap (λ n. 2 * n + place_of (p % 2 == 1)) same

-- a number with its last bit turned
flipped : (a r : ℕ) → r < 2 → bit_xor (a * 2 + r) 1 ≡ a * 2 + bit_xor r 1
flipped a r h = xor_block 1 a 0 r 1 h (omega arith) ∙ ap (λ n. n * 2 + bit_xor r 1) (xor_zero_r a)

pub turned : (p : ℕ) → bit_xor p 1 ≡ 2 * (p / 2) + place_of (not (p % 2 == 1))
turned p = elim (eqb_tells (p % 2) 1) [
  | inl t ↦
      let is : p ≡ p / 2 * 2 + 1 = omega (arith, t.1) in
      rw t.0 (ap (λ n. bit_xor n 1) is ∙ flipped (p / 2) 1 (omega arith) ∙ omega arith)
  | inr t ↦
      let is : p ≡ p / 2 * 2 + 0 = omega (arith, t.1) in
      rw t.0 (ap (λ n. bit_xor n 1) is ∙ flipped (p / 2) 0 (omega arith) ∙ omega arith)
]

half : (k : ℕ) (b : Bool) → (2 * k + place_of b) / 2 ≡ k
half k true = omega arith
half k false = omega arith

second_at : (k : ℕ) (b : Bool) → ((2 * k + place_of b) % 2 == 1) ≡ b
second_at k true =
    let odd : (2 * k + 1) % 2 ≡ 1 = omega arith in
    rw odd refl
second_at k false =
    let even : (2 * k + 0) % 2 ≡ 0 = omega arith in
    rw even refl

-- the link to the other edge of the same clause
pub beside_linked : (after : ℕ) → 0 < after → linked (bit_xor (after - 1) 1 + 1) ≡ linked after
beside_linked zero some = absurd (omega (arith, some))
beside_linked (suc p) some =
    let at : suc p - 1 ≡ p = omega arith in
    rw (at, add-one) (ap Some (ap (λ n. n / 2) (turned p) ∙ half (p / 2) (not (p % 2 == 1))))

pub beside_named : (after : ℕ) → 0 < after → second_named (bit_xor (after - 1) 1 + 1) ≡ not (second_named after)
beside_named zero some = absurd (omega (arith, some))
beside_named (suc p) some =
    let at : suc p - 1 ≡ p = omega arith in
    rw (at, add-one) (ap (λ n. n % 2 == 1) (turned p) ∙ second_at (p / 2) (not (p % 2 == 1)))

pub some_link : (after : ℕ) → (linked after ≡ None → ⊥) → 0 < after
some_link zero leads = absurd (leads refl)
some_link (suc p) leads = omega arith

-- a link that leads somewhere leads to a clause
pub led_to : (o : Option ℕ) → (o ≡ None → ⊥) → (k : ℕ) × (o ≡ Some k)
led_to None leads = absurd (leads refl)
led_to (Some k) leads = (k, refl)
