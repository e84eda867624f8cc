-- Pieces of buffers: they stay where a buffer grows, and the last one is what it grew by.
use Rattle.std.proofs.Common.{◌≡◌, ◌+◌, ◌-◌, ◌∷◌, ◌++◌, true, List, [], length, map, take, drop, refl, sym, ap, arith}
use Rattle.std.specs.Prelude.{ℕ, ℤ, pos, negsuc}
use Rattle.std.specs.List.{between, list_all}
use Rattle.std.proofs.lemmas.Bool.{and_parts}
use Rattle.std.proofs.lemmas.List.{append-nil, take-append-le, drop-append-le, drop_at, take_all, length-append, length-drop}
use Rattle.lls_lit.specs.Literal.{variable_of}
use Rattle.lls_prooflog.specs.declared.spans.Span.{Span}
use Rattle.lls_prooflog.specs.declared.spans.Place.{Place}
use Rattle.lls_prooflog.specs.declared.spans.Place.TheVariants as places
use Rattle.lls_prooflog.specs.Pieces.{Begins, hints_at, ids_at, is_narrow_hint, IsPlace, IsSpan}

pub begins_same : {X : Type 0} (xs : List X) → Begins xs xs
begins_same xs = ([], sym (append-nil xs))

pub begins_more : {X : Type 0} (xs more : List X) → Begins xs (xs ++ more)
begins_more xs more = (more, refl)

pub last_piece : {X : Type 0} (buffer more : List X) → between (length buffer) (length buffer + length more) (buffer ++ more) ≡ more
last_piece buffer more =
    let all : take (length buffer + length more - length buffer) more ≡ more = take_all _ more (omega arith) in
    rw (drop_at buffer more (length buffer) refl) all

pub last_span : {X : Type 0} (buffer more : List X) → IsSpan (length (buffer ++ more)) (record { from = length buffer; to = length buffer + length more })
last_span buffer more = record { order = omega arith; within = omega (arith, length-append buffer more) }

pub kept_piece : {X : Type 0} (span : Span) (old new : List X) → IsSpan (length old) span → Begins old new → between span.from span.to new ≡ between span.from span.to old
kept_piece span old new h (more, is) =
    rw (is, drop-append-le span.from old more (omega (arith, h.order, h.within)), take-append-le (span.to - span.from) (drop span.from old) more (omega (arith, length-drop span.from old, h.order, h.within))) refl

pub span_more : {X : Type 0} (span : Span) (old new : List X) → IsSpan (length old) span → Begins old new → IsSpan (length new) span
span_more span old new h (more, is) = record { order = h.order; within = omega (arith, h.within, ap length is, length-append old more) }

pub place_more : {X Y : Type 0} (place : Place) (old new : List X) (wide wider : List Y) → IsPlace (length old) (length wide) place → Begins old new → Begins wide wider → IsPlace (length new) (length wider) place
place_more (places.Narrow span) old new wide wider h more _ = span_more span old new h more
place_more (places.Wide span) old new wide wider h _ more = span_more span wide wider h more

pub hints_kept : (place : Place) (old new : List ℕ) (wide wider : List ℤ) → IsPlace (length old) (length wide) place → Begins old new → Begins wide wider → hints_at new wider place ≡ hints_at old wide place
hints_kept (places.Narrow span) old new wide wider h more _ = ap (map pos) (kept_piece span old new h more)
hints_kept (places.Wide span) old new wide wider h _ more = kept_piece span wide wider h more

pub ids_kept : (place : Place) (old new wide wider : List ℕ) → IsPlace (length old) (length wide) place → Begins old new → Begins wide wider → ids_at new wider place ≡ ids_at old wide place
ids_kept (places.Narrow span) old new wide wider h more _ = kept_piece span old new h more
ids_kept (places.Wide span) old new wide wider h _ more = kept_piece span wide wider h more

-- a narrow hint is its size
narrow_size : (hint : ℤ) → is_narrow_hint hint ≡ true → pos (variable_of hint) ≡ hint
narrow_size (pos n) e = refl
narrow_size (negsuc n) e = absurd cc

pub narrow_sizes : (hints : List ℤ) → list_all is_narrow_hint hints ≡ true → map pos (map variable_of hints) ≡ hints
narrow_sizes [] e = refl
narrow_sizes (hint ∷ hints) e =
    let parts = and_parts (is_narrow_hint hint) (list_all is_narrow_hint hints) e in
    rw (narrow_size hint parts.0, narrow_sizes hints parts.1) refl
