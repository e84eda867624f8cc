-- Numbers of live clauses, one after another.
use Rattle.std.proofs.Common.{◌≡◌, ◌≤◌, ◌<◌, ◌+◌, ℕ, Bool, true, false, cond, List, [], ◌∷◌, ◌++◌, Option, Some, sym, ap, ◌∙◌, arith, get_or, length, map, take, drop, length-append}
use Rattle.std.specs.Prelude.{slice_set, filter, is_some, option_and_then, slice_get}
use Rattle.std.proofs.lemmas.List.{append-nil, drop-set-lt, get_or-drop, length-map, map-append, take_more, take_more_set}
use Rattle.std.proofs.lemmas.Grind.{drop_more_same}
use Rattle.std.proofs.lemmas.List.Elements.{filter-append}
use Rattle.std.proofs.lemmas.Option.{get_or_from_slice_get, slice_get_within}
use Rattle.lls_store.specs.Trail.{Entry, TrailState, reason_of}
use Rattle.lls_store.specs.Changes.{with_reason}
use Rattle.lls_store.specs.Sound.{IsSound}
use Rattle.lls_store.specs.Removal.{new_number}
use Rattle.lls_store.proofs.Renaming.{IsRead, renamed_front, renamed_front-forced}
use Rattle.lls_arena.specs.Arena.{HeadState, IsLive, live_before, lives_of}
use Rattle.lls_watch.specs.Passed.{live_from}
use Rattle.lls_watch.specs.Renumbered.{is_live_at, live_among, moved_among}
use Rattle.lls_watch.proofs.Compacted.{new_number-heads}
use Rattle.lls_watch.proofs.Rearranged.{live_in_arena}

-- one number more
abbrev if_live : List HeadState → ℕ → List ℕ
if_live heads c = cond (is_live_at heads c) (c ∷ []) []

pub live_more : (heads : List HeadState) (cs : List ℕ) (k : ℕ) → k < length cs → live_among heads (take (k + 1) cs) ≡ live_among heads (take k cs) ++ if_live heads (get_or cs k 0)
live_more heads cs k within = ap (filter (is_live_at heads)) (take_more cs k 0 within) ∙ filter-append (is_live_at heads) (take k cs) (get_or cs k 0 ∷ [])

moved_more : (heads : List HeadState) (cs : List ℕ) (k : ℕ) → k < length cs → moved_among heads (take (k + 1) cs) ≡ moved_among heads (take k cs) ++ map (live_before heads) (if_live heads (get_or cs k 0))
moved_more heads cs k within = ap (map (live_before heads)) (live_more heads cs k within) ∙ map-append (live_before heads) (live_among heads (take k cs)) (if_live heads (get_or cs k 0))

live_is : (heads : List HeadState) (c : ℕ) (b : Bool) → slice_get (lives_of heads) c ≡ Some b → is_live_at heads c ≡ b
live_is heads c b read = get_or_from_slice_get (lives_of heads) c b false read

-- it is counted where it is live
pub counted_live : (heads : List HeadState) (cs : List ℕ) (k count : ℕ) → k < length cs → slice_get (lives_of heads) (get_or cs k 0) ≡ Some true → count ≡ length (live_among heads (take k cs))
    → count + 1 ≡ length (live_among heads (take (k + 1) cs))
counted_live heads cs k count within read so_far =
    ap (λ n. n + 1) so_far ∙ sym (length-append (live_among heads (take k cs)) (get_or cs k 0 ∷ []))
    ∙ ap (λ b. length (live_among heads (take k cs) ++ cond b (get_or cs k 0 ∷ []) [])) (sym (live_is heads (get_or cs k 0) true read)) ∙ ap length (sym (live_more heads cs k within))

pub counted_dead : (heads : List HeadState) (cs : List ℕ) (k count : ℕ) → k < length cs → slice_get (lives_of heads) (get_or cs k 0) ≡ Some false → count ≡ length (live_among heads (take k cs))
    → count ≡ length (live_among heads (take (k + 1) cs))
counted_dead heads cs k count within read so_far =
    so_far ∙ sym (length-append (live_among heads (take k cs)) [] ∙ nothing (length (live_among heads (take k cs))))
    ∙ ap (λ b. length (live_among heads (take k cs) ++ cond b (get_or cs k 0 ∷ []) [])) (sym (live_is heads (get_or cs k 0) false read)) ∙ ap length (sym (live_more heads cs k within))
  where
    nothing : (n : ℕ) → n + 0 ≡ n
    nothing n = omega arith

-- what stands at a place that isn't written yet
pub stands_as : (now old : List ℕ) (k : ℕ) → drop k now ≡ drop k old → get_or now k 0 ≡ get_or old k 0
stands_as now old k same =
    let there : k ≡ k + 0 = omega arith in
    ap (λ j. get_or now j 0) there ∙ sym (get_or-drop k now 0 0) ∙ ap (λ xs. get_or xs 0 0) same ∙ get_or-drop k old 0 0 ∙ ap (λ j. get_or old j 0) (sym there)

-- so far the first numbers are moved
pub record AreMoved (heads : List HeadState) (old now : List ℕ) (kept k : ℕ) : Type 0 where
  pub low : kept ≤ k
  pub front : take kept now ≡ moved_among heads (take k old)
  pub rest : drop k now ≡ drop k old

pub moved_live : (heads : List HeadState) (old now : List ℕ) (kept k to : ℕ) → AreMoved heads old now kept k → k < length now → length now ≡ length old → slice_get (lives_of heads) (get_or now k 0) ≡ Some true
    → to ≡ live_before heads (get_or now k 0) → AreMoved heads old (slice_set now kept to) (kept + 1) (k + 1)
moved_live heads old now kept k to it within same read goes = record {
  low = omega (arith, it.low);
  front =
      take_more_set now kept to (omega (arith, it.low, within))
      ∙ ap (λ xs. xs ++ to ∷ []) it.front
      ∙ ap (λ c. moved_among heads (take k old) ++ c ∷ []) (goes ∙ ap (live_before heads) stands)
      ∙ ap (λ b. moved_among heads (take k old) ++ map (live_before heads) (cond b (get_or old k 0 ∷ []) [])) (sym (ap (is_live_at heads) (sym stands) ∙ live_is heads (get_or now k 0) true read))
      ∙ sym (moved_more heads old k (omega (arith, within, same)));
  rest = drop-set-lt (k + 1) now kept to (omega (arith, it.low)) ∙ drop_more_same now old k it.rest;
}
  where
    stands : get_or now k 0 ≡ get_or old k 0
    stands = stands_as now old k it.rest

pub moved_dead : (heads : List HeadState) (old now : List ℕ) (kept k : ℕ) → AreMoved heads old now kept k → k < length now → length now ≡ length old → slice_get (lives_of heads) (get_or now k 0) ≡ Some false
    → AreMoved heads old now kept (k + 1)
moved_dead heads old now kept k it within same read = record {
  low = omega (arith, it.low);
  front =
      it.front ∙ sym (append-nil (moved_among heads (take k old)))
      ∙ ap (λ b. moved_among heads (take k old) ++ map (live_before heads) (cond b (get_or old k 0 ∷ []) [])) (sym (ap (is_live_at heads) (sym stands) ∙ live_is heads (get_or now k 0) false read))
      ∙ sym (moved_more heads old k (omega (arith, within, same)));
  rest = drop_more_same now old k it.rest;
}
  where
    stands : get_or now k 0 ≡ get_or old k 0
    stands = stands_as now old k it.rest

-- the reason that was read of an entry
reason_is : (heads : List HeadState) (t now : TrailState) (k v : ℕ) (answer : Option ℕ) (read : IsRead (live_from 0 heads) t now k v) → answer ≡ reason_of now.entries v → read.at.entry.reason ≡ answer
reason_is heads t now k v answer read is = sym (is ∙ ap (option_and_then (λ (e : Entry). e.reason)) read.found)

-- it is a live clause's
pub reason_live : (heads : List HeadState) (t now : TrailState) (k v reason : ℕ) (answer : Option ℕ) → IsSound (live_from 0 heads) t → IsRead (live_from 0 heads) t now k v → answer ≡ reason_of now.entries v → answer ≡ Some reason → IsLive heads reason
reason_live heads t now k v reason answer sound read is some =
    let forced = sound (take k t.entries) (drop (k + 1) t.entries) read.at.entry reason read.at.stands (reason_is heads t now k v answer read is ∙ some) in
    live_in_arena heads reason (ap is_some forced.is_live)

-- and gets that one's place
pub reason_moved : (heads : List HeadState) (t now : TrailState) (k v reason place : ℕ) (answer : Option ℕ) → now ≡ renamed_front (live_from 0 heads) t k → IsRead (live_from 0 heads) t now k v → answer ≡ reason_of now.entries v → answer ≡ Some reason
    → reason ≤ length heads → place ≡ live_before heads reason → with_reason now v place ≡ renamed_front (live_from 0 heads) t (k + 1)
reason_moved heads t now k v reason place answer so_far read is some below goes =
    ap (λ (x : TrailState). with_reason x v place) so_far
    ∙ ap (λ n. with_reason (renamed_front (live_from 0 heads) t k) n place) read.variable
    ∙ renamed_front-forced (live_from 0 heads) t k reason place read.at (reason_is heads t now k v answer read is ∙ some)
    (ap (new_number (live_from 0 heads)) none_more ∙ new_number-heads 0 heads reason below ∙ sym goes)
  where
    none_more : reason ≡ 0 + reason
    none_more = omega arith

pub live_below : (heads : List HeadState) (c : ℕ) → IsLive heads c → c ≤ length heads
live_below heads c live = omega (arith, slice_get_within (lives_of heads) c true live, length-map heads (λ (h : HeadState). h.live))
