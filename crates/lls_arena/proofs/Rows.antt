-- The three tables that tell of each clause, as one.
use Rattle.std.proofs.Common.{◌≡◌, ℕ, zero, suc, ◌<◌, Bool, false, List, [], ◌∷◌, ◌++◌, length, get_or, set, take, refl, sym, ap, ◌∙◌, arith}
use Rattle.std.specs.Prelude.{map}
use Rattle.std.proofs.lemmas.List.{length-set}
use Rattle.lls_arena.specs.declared.arena.Span.{Span}
use Rattle.lls_arena.specs.Parts.{HaveRows, SpanState, span_of, spans_in}

rest_rows : (s : Span) (l : Bool) (i : ℕ) (ss : List Span) (ls : List Bool) (ids : List ℕ) → HaveRows (s ∷ ss) (l ∷ ls) (i ∷ ids) → HaveRows ss ls ids
rest_rows s l i ss ls ids rows = record { lives_each = omega (arith, rows.lives_each); ids_each = omega (arith, rows.ids_each) }

pub length-spans_in : (ss : List Span) (ls : List Bool) (ids : List ℕ) → HaveRows ss ls ids → length (spans_in ss ls ids) ≡ length ss
length-spans_in [] ls ids rows = refl
length-spans_in (s ∷ ss) [] ids rows = absurd (omega (arith, rows.lives_each))
length-spans_in (s ∷ ss) (l ∷ ls) [] rows = absurd (omega (arith, rows.ids_each))
length-spans_in (s ∷ ss) (l ∷ ls) (i ∷ ids) rows = ap suc (length-spans_in ss ls ids (rest_rows s l i ss ls ids rows))

pub lives-spans_in : (ss : List Span) (ls : List Bool) (ids : List ℕ) → HaveRows ss ls ids → map (λ (s : SpanState). s.live) (spans_in ss ls ids) ≡ ls
lives-spans_in [] [] ids rows = refl
lives-spans_in [] (l ∷ ls) ids rows = absurd (omega (arith, rows.lives_each))
lives-spans_in (s ∷ ss) [] ids rows = absurd (omega (arith, rows.lives_each))
lives-spans_in (s ∷ ss) (l ∷ ls) [] rows = absurd (omega (arith, rows.ids_each))
lives-spans_in (s ∷ ss) (l ∷ ls) (i ∷ ids) rows = ap (λ (lives : List Bool). l ∷ lives) (lives-spans_in ss ls ids (rest_rows s l i ss ls ids rows))

abbrev pub no_place : Span
no_place = record { start = 0; end = 0 }

row_at : (ss : List Span) (ls : List Bool) (ids : List ℕ) (k : ℕ) (d : SpanState) (s : Span) (l : Bool) (i : ℕ) → k < length (spans_in ss ls ids) → get_or (spans_in ss ls ids) k d ≡ span_of (get_or ss k s) (get_or ls k l) (get_or ids k i)
row_at [] ls ids k d s l i lt = absurd (omega arith)
row_at (x ∷ ss) [] ids k d s l i lt = absurd (omega arith)
row_at (x ∷ ss) (y ∷ ls) [] k d s l i lt = absurd (omega arith)
row_at (x ∷ ss) (y ∷ ls) (z ∷ ids) zero d s l i lt = refl
row_at (x ∷ ss) (y ∷ ls) (z ∷ ids) (suc k) d s l i lt = row_at ss ls ids k d s l i (omega arith)

-- what is read of a row, where one of the three is known
abbrev pub with_span : List Bool → List ℕ → ℕ → Span → SpanState
with_span ls ids k s = span_of s (get_or ls k false) (get_or ids k 0)

pub row_with_span : (ss : List Span) (ls : List Bool) (ids : List ℕ) (k : ℕ) (s : Span) → k < length (spans_in ss ls ids) → s ≡ get_or ss k s → with_span ls ids k s ≡ get_or (spans_in ss ls ids) k (with_span ls ids k s)
row_with_span ss ls ids k s lt is = ap (with_span ls ids k) is ∙ sym (row_at ss ls ids k (with_span ls ids k s) s false 0 lt)

pub live_at_row : (ss : List Span) (ls : List Bool) (ids : List ℕ) (k : ℕ) (d : SpanState) (l : Bool) → k < length (spans_in ss ls ids) → l ≡ get_or ls k l → (get_or (spans_in ss ls ids) k d).live ≡ l
live_at_row ss ls ids k d l lt is = ap (λ (s : SpanState). s.live) (row_at ss ls ids k d no_place l 0 lt) ∙ sym is

pub id_at_row : (ss : List Span) (ls : List Bool) (ids : List ℕ) (k : ℕ) (d : SpanState) (i : ℕ) → k < length (spans_in ss ls ids) → i ≡ get_or ids k i → (get_or (spans_in ss ls ids) k d).id ≡ i
id_at_row ss ls ids k d i lt is = ap (λ (s : SpanState). s.id) (row_at ss ls ids k d no_place false i lt) ∙ sym is

abbrev pub row : List Span → List Bool → List ℕ → ℕ → SpanState
row ss ls ids k = with_span ls ids k (get_or ss k no_place)

-- one row more
pub spans_in-push : (ss : List Span) (ls : List Bool) (ids : List ℕ) (s : Span) (l : Bool) (i : ℕ) → HaveRows ss ls ids → spans_in (ss ++ s ∷ []) (ls ++ l ∷ []) (ids ++ i ∷ []) ≡ spans_in ss ls ids ++ span_of s l i ∷ []
spans_in-push [] [] [] s l i rows = refl
spans_in-push [] [] (z ∷ ids) s l i rows = absurd (omega (arith, rows.ids_each))
spans_in-push [] (y ∷ ls) ids s l i rows = absurd (omega (arith, rows.lives_each))
spans_in-push (x ∷ ss) [] ids s l i rows = absurd (omega (arith, rows.lives_each))
spans_in-push (x ∷ ss) (y ∷ ls) [] s l i rows = absurd (omega (arith, rows.ids_each))
spans_in-push (x ∷ ss) (y ∷ ls) (z ∷ ids) s l i rows = ap (λ (spans : List SpanState). span_of x y z ∷ spans) (spans_in-push ss ls ids s l i (rest_rows x y z ss ls ids rows))

-- one row is written
pub spans_in-set : (ss : List Span) (ls : List Bool) (ids : List ℕ) (k : ℕ) (s : Span) (l : Bool) (i : ℕ) → spans_in (set ss k s) (set ls k l) (set ids k i) ≡ set (spans_in ss ls ids) k (span_of s l i)
spans_in-set [] ls ids k s l i = refl
spans_in-set (x ∷ ss) [] ids zero s l i = refl
spans_in-set (x ∷ ss) [] ids (suc k) s l i = refl
spans_in-set (x ∷ ss) (y ∷ ls) [] zero s l i = refl
spans_in-set (x ∷ ss) (y ∷ ls) [] (suc k) s l i = refl
spans_in-set (x ∷ ss) (y ∷ ls) (z ∷ ids) zero s l i = refl
spans_in-set (x ∷ ss) (y ∷ ls) (z ∷ ids) (suc k) s l i = ap (λ (spans : List SpanState). span_of x y z ∷ spans) (spans_in-set ss ls ids k s l i)

-- another life is written
pub spans_in-life : (ss : List Span) (ls : List Bool) (ids : List ℕ) (k : ℕ) (l : Bool) (s : SpanState) → s ≡ get_or (spans_in ss ls ids) k s → spans_in ss (set ls k l) ids ≡ set (spans_in ss ls ids) k (record s { live = l })
spans_in-life [] ls ids k l s is = refl
spans_in-life (x ∷ ss) [] ids zero l s is = refl
spans_in-life (x ∷ ss) [] ids (suc k) l s is = refl
spans_in-life (x ∷ ss) (y ∷ ls) [] zero l s is = refl
spans_in-life (x ∷ ss) (y ∷ ls) [] (suc k) l s is = refl
spans_in-life (x ∷ ss) (y ∷ ls) (z ∷ ids) zero l s is = ap (λ (span : SpanState). record span { live = l } ∷ spans_in ss ls ids) (sym is)
spans_in-life (x ∷ ss) (y ∷ ls) (z ∷ ids) (suc k) l s is = ap (λ (spans : List SpanState). span_of x y z ∷ spans) (spans_in-life ss ls ids k l s is)

pub HaveRows-life : (ss : List Span) (ls : List Bool) (ids : List ℕ) (k : ℕ) (l : Bool) → HaveRows ss ls ids → HaveRows ss (set ls k l) ids
HaveRows-life ss ls ids k l rows = record { lives_each = omega (arith, length-set ls k l, rows.lives_each); ids_each = rows.ids_each }

-- the first rows alone
pub spans_in-take : (ss : List Span) (ls : List Bool) (ids : List ℕ) (n : ℕ) → spans_in (take n ss) (take n ls) (take n ids) ≡ take n (spans_in ss ls ids)
spans_in-take ss ls ids zero = refl
spans_in-take [] ls ids (suc n) = refl
spans_in-take (x ∷ ss) [] ids (suc n) = refl
spans_in-take (x ∷ ss) (y ∷ ls) [] (suc n) = refl
spans_in-take (x ∷ ss) (y ∷ ls) (z ∷ ids) (suc n) = ap (λ (spans : List SpanState). span_of x y z ∷ spans) (spans_in-take ss ls ids n)
