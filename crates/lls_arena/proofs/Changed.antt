-- One clause is killed, or has another link.
use Rattle.std.proofs.Common.{◌≡◌, ℕ, zero, suc, ◌<◌, List, [], ◌∷◌, length, get_or, set, refl, ap, sym, subst, ◌∙◌, arith}
use Rattle.std.specs.Prelude.{ℤ, Bool, true, false}
use Rattle.std.proofs.lemmas.List.{get_or_default, length-set}
use Rattle.lls_arena.specs.declared.edges.Link.{Link}
use Rattle.lls_arena.specs.declared.edges.Edges.{Edges}
use Rattle.lls_arena.specs.declared.arena.Span.{Span}
use Rattle.lls_arena.specs.Arena.{HeadState, changed_at, killed, with_link}
use Rattle.lls_arena.specs.Links.{link_in, with_next}
use Rattle.lls_arena.specs.Parts.{AreAllWatched, AreInOrder, AreParts, AreWatched, SpanState, head_at, heads_in, spans_in}
use Rattle.lls_arena.proofs.Heads.{no_span}
use Rattle.lls_arena.proofs.Rows.{spans_in-life}

abbrev with_life : Bool → SpanState → SpanState
with_life l s = record s { live = l }

killed-heads : (lits : List ℤ) (es : List Edges) (spans : List SpanState) (c : ℕ) (s : SpanState) → s ≡ get_or spans c s → c < length spans → heads_in lits es (set spans c (with_life false s)) ≡ changed_at killed c (heads_in lits es spans)
killed-heads lits [] spans c s is lt = refl
killed-heads lits (e ∷ es) [] c s is lt = absurd (omega arith)
killed-heads lits (e ∷ es) (y ∷ spans) zero s is lt = ap (λ x. head_at lits e (with_life false x) ∷ heads_in lits es spans) is
killed-heads lits (e ∷ es) (y ∷ spans) (suc c) s is lt = ap (λ (heads : List HeadState). head_at lits e y ∷ heads) (killed-heads lits es spans c s is (omega arith))

pub heads_in-killed : (lits : List ℤ) (es : List Edges) (ss : List Span) (ls : List Bool) (ids : List ℕ) (c : ℕ) → c < length (spans_in ss ls ids) → heads_in lits es (spans_in ss (set ls c false) ids) ≡ changed_at killed c (heads_in lits es (spans_in ss ls ids))
heads_in-killed lits es ss ls ids c lt =
    let spans = spans_in ss ls ids in
    let s = get_or spans c no_span in
    let at = get_or_default spans c no_span s lt in
    ap (heads_in lits es) (spans_in-life ss ls ids c false s at) ∙ killed-heads lits es spans c s at lt

AreInOrder-life : (from : ℕ) (spans : List SpanState) (tail c : ℕ) (l : Bool) (s : SpanState) → s ≡ get_or spans c s → AreInOrder from spans tail → AreInOrder from (set spans c (with_life l s)) tail
AreInOrder-life from [] tail c l s is order = order
AreInOrder-life from (y ∷ spans) tail zero l s is order =
    let P : SpanState → Type 0 = λ x. AreInOrder from (with_life l x ∷ spans) tail in
    subst P (sym is) order
AreInOrder-life from (y ∷ spans) tail (suc c) l s is order = (order.0, order.1, AreInOrder-life y.end spans tail c l s is order.2)

AreAllWatched-life : (lits : List ℤ) (es : List Edges) (spans : List SpanState) (c : ℕ) (l : Bool) (s : SpanState) → s ≡ get_or spans c s → AreAllWatched lits es spans → AreAllWatched lits es (set spans c (with_life l s))
AreAllWatched-life lits [] [] c l s is watched = tt
AreAllWatched-life lits [] (y ∷ spans) c l s is watched = absurd watched
AreAllWatched-life lits (e ∷ es) [] c l s is watched = absurd watched
AreAllWatched-life lits (e ∷ es) (y ∷ spans) zero l s is watched =
    let P : SpanState → Type 0 = λ x. AreAllWatched lits (e ∷ es) (with_life l x ∷ spans) in
    subst P (sym is) (record { first = watched.0.first; second = watched.0.second }, watched.1)
AreAllWatched-life lits (e ∷ es) (y ∷ spans) (suc c) l s is watched = (watched.0, AreAllWatched-life lits es spans c l s is watched.1)

-- whatever is written there, the parts of an arena go together
pub AreParts-life : (lits : List ℤ) (es : List Edges) (ss : List Span) (ls : List Bool) (ids : List ℕ) (tail c : ℕ) (l : Bool) → c < length (spans_in ss ls ids) → AreParts es (spans_in ss ls ids) lits tail → AreParts es (spans_in ss (set ls c l) ids) lits tail
AreParts-life lits es ss ls ids tail c l lt parts =
    let spans = spans_in ss ls ids in
    let s = get_or spans c no_span in
    let at = get_or_default spans c no_span s lt in
    rw (spans_in-life ss ls ids c l s at)
    (record {
      few = omega (arith, length-set spans c (with_life l s), parts.few);
      in_order = AreInOrder-life 0 spans tail c l s at parts.in_order;
      tail_begins = parts.tail_begins;
      watched = AreAllWatched-life lits es spans c l s at parts.watched;
    })

head_at-linked : (lits : List ℤ) (w : Bool) (next : Link) (e : Edges) (s : SpanState) → head_at lits (with_next w next e) s ≡ with_link w (link_in next) (head_at lits e s)
head_at-linked lits false next e s = refl
head_at-linked lits true next e s = refl

pub heads_in-linked : (lits : List ℤ) (es : List Edges) (spans : List SpanState) (c : ℕ) (w : Bool) (next : Link) (e : Edges) → e ≡ get_or es c e → c < length es → heads_in lits (set es c (with_next w next e)) spans ≡ changed_at (with_link w (link_in next)) c (heads_in lits es spans)
heads_in-linked lits [] spans c w next e is lt = absurd (omega arith)
heads_in-linked lits (x ∷ es) [] zero w next e is lt = refl
heads_in-linked lits (x ∷ es) [] (suc c) w next e is lt = refl
heads_in-linked lits (x ∷ es) (y ∷ spans) zero w next e is lt =
    ap (λ z. head_at lits (with_next w next z) y ∷ heads_in lits es spans) is
    ∙ ap (λ (head : HeadState). head ∷ heads_in lits es spans) (head_at-linked lits w next x y)
heads_in-linked lits (x ∷ es) (y ∷ spans) (suc c) w next e is lt = ap (λ (heads : List HeadState). head_at lits x y ∷ heads) (heads_in-linked lits es spans c w next e is (omega arith))

AreWatched-linked : (lits : List ℤ) (w : Bool) (next : Link) (e : Edges) (s : SpanState) → AreWatched lits e s → AreWatched lits (with_next w next e) s
AreWatched-linked lits false next e s watched = record { first = watched.first; second = watched.second }
AreWatched-linked lits true next e s watched = record { first = watched.first; second = watched.second }

pub AreAllWatched-linked : (lits : List ℤ) (es : List Edges) (spans : List SpanState) (c : ℕ) (w : Bool) (next : Link) (e : Edges) → e ≡ get_or es c e → AreAllWatched lits es spans → AreAllWatched lits (set es c (with_next w next e)) spans
AreAllWatched-linked lits [] [] c w next e is watched = tt
AreAllWatched-linked lits [] (y ∷ spans) c w next e is watched = absurd watched
AreAllWatched-linked lits (x ∷ es) [] c w next e is watched = absurd watched
AreAllWatched-linked lits (x ∷ es) (y ∷ spans) zero w next e is watched =
    let P : Edges → Type 0 = λ z. AreAllWatched lits (with_next w next z ∷ es) (y ∷ spans) in
    subst P (sym is) (AreWatched-linked lits w next x y watched.0, watched.1)
AreAllWatched-linked lits (x ∷ es) (y ∷ spans) (suc c) w next e is watched = (watched.0, AreAllWatched-linked lits es spans c w next e is watched.1)
