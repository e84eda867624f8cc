-- What was passed stays so where the trail grows, where it is cut, where the mark is lowered, and where one place more is passed.
use Rattle.std.proofs.Common.{◌≡◌, ◌≤◌, ◌<◌, ◌+◌, zero, suc, ℕ, ℤ, Bool, true, false, not, cond, List, [], ◌∷◌, ◌++◌, Option, Some, None, refl, sym, ap, ◌∙◌, subst, arith, length, map, inl, inr, ⊎_elim}
use Rattle.std.specs.Prelude.{slice_get, nat_le, nat_lt}
use Rattle.std.proofs.lemmas.List.Sums.{take_while-cons}
use Rattle.std.proofs.lemmas.Bool.Decides.{nat_tests}
use Rattle.lls_lit.specs.Literal.{negation}
use Rattle.lls_store.specs.Trail.{Entry, TrailState, IsTrail, decisions, is_decision, levels_after}
use Rattle.lls_store.specs.Changes.{entries_up_to}
use Rattle.lls_store.proofs.Entries.{decisions_cons}
use Rattle.lls_arena.specs.Arena.{HeadState}
use Rattle.lls_watch.specs.Watches.{IsWatching, watched}
use Rattle.lls_watch.specs.declared.progress.Progress.{Progress}
use Rattle.lls_watch.specs.Passed.{IsMarked, IsOffset, ArePassed, passed_before, cut_progress}

pub get_in_front : (es more : List Entry) (k : ℕ) (e : Entry) → slice_get es k ≡ Some e → slice_get (es ++ more) k ≡ Some e
get_in_front [] more k e found = absurd cc
get_in_front (x ∷ es) more zero e found = found
get_in_front (x ∷ es) more (suc k) e found = get_in_front es more k e found

get_from_front : (es more : List Entry) (k : ℕ) (e : Entry) → k < length es → slice_get (es ++ more) k ≡ Some e → slice_get es k ≡ Some e
get_from_front [] more k e within found = absurd (omega (arith, within))
get_from_front (x ∷ es) more zero e within found = found
get_from_front (x ∷ es) more (suc k) e within found = get_from_front es more k e (omega (arith, within)) found

pub offset_grown : (es more : List Entry) (mark : Option ℕ) (place level : ℕ) (other : ℤ) → IsOffset es mark place level other → IsOffset (es ++ more) mark place level other
offset_grown es more mark place level other it =
    record { at = it.at; entry = it.entry; found = get_in_front es more it.at it.entry it.found; is_true = it.is_true; in_time = it.in_time }

-- the trail grows
pub passed_grown : (heads : List HeadState) (es more : List Entry) (progress : Progress) → progress.passed ≤ length es → ArePassed heads es progress → ArePassed heads (es ++ more) progress
passed_grown heads es more progress within passed c head w place entry found live watching before there is =
    offset_grown es more progress.mark place entry.level (watched (not w) head)
    (passed c head w place entry found live watching before (get_from_front es more place entry (omega (arith, before, within)) there) is)

-- the mark is lowered
pub passed_marked : (heads : List HeadState) (es : List Entry) (progress : Progress) (mark : Option ℕ) → ((place : ℕ) → IsMarked progress.mark place → IsMarked mark place)
    → ArePassed heads es progress → ArePassed heads es (record progress { mark = mark })
passed_marked heads es progress mark lower passed c head w place entry found live watching before there is =
    let it = passed c head w place entry found live watching before there is in
    record { at = it.at; entry = it.entry; found = it.found; is_true = it.is_true; in_time = ⊎_elim inl (λ marked. inr (lower place marked)) it.in_time }

-- one place more is passed
pub passed_one : (heads : List HeadState) (es : List Entry) (progress : Progress) → ArePassed heads es progress
    → ((c : ℕ) (head : HeadState) (w : Bool) (entry : Entry) → slice_get heads c ≡ Some head → head.live ≡ true → IsWatching head → slice_get es progress.passed ≡ Some entry
    → entry.lit ≡ negation (watched w head) → IsOffset es progress.mark progress.passed entry.level (watched (not w) head))
    → ArePassed heads es (record progress { passed = progress.passed + 1 })
passed_one heads es progress passed here c head w place entry found live watching before there is = by_test (nat_lt place progress.passed) refl
  where
    by_test : (b : Bool) → nat_lt place progress.passed ≡ b → IsOffset es progress.mark place entry.level (watched (not w) head)
    by_test true lower = passed c head w place entry found live watching (grind (arith, nat_tests, lower)) there is
    by_test false upper =
        let last : place ≡ progress.passed = grind (arith, nat_tests, upper, before) in
        subst (λ k. IsOffset es progress.mark k entry.level (watched (not w) head)) (sym last)
        (here c head w entry found live watching (subst (λ k. slice_get es k ≡ Some entry) last there) is)

least_first : (b : Bool) (n : ℕ) → n ≤ cond b (n + 1) n
least_first true n = omega arith
least_first false n = omega arith

both_same : (a b : ℕ) (xs ys : List ℕ) → a ∷ xs ≡ b ∷ ys → (a ≡ b) × (xs ≡ ys)
both_same a b xs ys h = (cc, cc)

-- the level of an entry, where so many decisions stand before it
abbrev level_after : ℕ → Entry → ℕ
level_after n x = cond (is_decision x) (n + 1) n

parts_of : (n : ℕ) (x : Entry) (es : List Entry) → map (λ y. y.level) (x ∷ es) ≡ levels_after n (x ∷ es) → (x.level ≡ level_after n x) × (map (λ y. y.level) es ≡ levels_after (level_after n x) es)
parts_of n x es levels = both_same x.level (level_after n x) (map (λ y. y.level) es) (levels_after (level_after n x) es) levels

-- levels rise along a trail
level_least : (n : ℕ) (es : List Entry) (k : ℕ) (e : Entry) → map (λ x. x.level) es ≡ levels_after n es → slice_get es k ≡ Some e → n ≤ e.level
level_least n [] k e levels found = absurd cc
level_least n (x ∷ es) zero e levels found =
    let same : x ≡ e = cc in
    omega (arith, least_first (is_decision x) n, (parts_of n x es levels).0, ap (λ (y : Entry). y.level) same)
level_least n (x ∷ es) (suc k) e levels found =
    omega (arith, least_first (is_decision x) n, level_least (level_after n x) es k e (parts_of n x es levels).1 found)

pub up_to_low : (level : ℕ) (x : Entry) (es : List Entry) → nat_le x.level level ≡ true → entries_up_to level (x ∷ es) ≡ x ∷ entries_up_to level es
up_to_low level x es low = take_while-cons (λ y. nat_le y.level level) x es ∙ ap (λ b. cond b (x ∷ entries_up_to level es) []) low

pub up_to_high : (level : ℕ) (x : Entry) (es : List Entry) → nat_le x.level level ≡ false → entries_up_to level (x ∷ es) ≡ []
up_to_high level x es high = take_while-cons (λ y. nat_le y.level level) x es ∙ ap (λ b. cond b (x ∷ entries_up_to level es) []) high

level_sum : (b : Bool) (n : ℕ) → cond b (n + 1) n ≡ n + cond b 1 0
level_sum true n = refl
level_sum false n = omega arith

-- no level is above the number of decisions
pub level_most : (n : ℕ) (es : List Entry) (k : ℕ) (e : Entry) → map (λ x. x.level) es ≡ levels_after n es → slice_get es k ≡ Some e → e.level ≤ n + decisions es
level_most n [] k e levels found = absurd cc
level_most n (x ∷ es) zero e levels found =
    let same : x ≡ e = cc in
    omega (arith, level_sum (is_decision x) n, decisions_cons x es, (parts_of n x es levels).0, ap (λ (y : Entry). y.level) same)
level_most n (x ∷ es) (suc k) e levels found =
    omega (arith, level_sum (is_decision x) n, decisions_cons x es, level_most (level_after n x) es k e (parts_of n x es levels).1 found)

is_low : (n level : ℕ) → n ≤ level → nat_le n level ≡ true
is_low n level low = grind (arith, nat_tests)

kept_up_to : (n level : ℕ) (es : List Entry) (k : ℕ) (e : Entry) → map (λ x. x.level) es ≡ levels_after n es → slice_get es k ≡ Some e → e.level ≤ level → slice_get (entries_up_to level es) k ≡ Some e
kept_up_to n level [] k e levels found low = absurd cc
kept_up_to n level (x ∷ es) zero e levels found low =
    let same : x ≡ e = cc in
    ap (λ ys. slice_get ys zero) (up_to_low level x es (is_low x.level level (omega (arith, low, ap (λ (y : Entry). y.level) same)))) ∙ found
kept_up_to n level (x ∷ es) (suc k) e levels found low =
    let parts = parts_of n x es levels in
    let later = level_least (level_after n x) es k e parts.1 found in
    ap (λ ys. slice_get ys (suc k)) (up_to_low level x es (is_low x.level level (omega (arith, low, later, parts.0))))
    ∙ kept_up_to (level_after n x) level es k e parts.1 found low

from_up_to : (level : ℕ) (es : List Entry) (k : ℕ) (e : Entry) → slice_get (entries_up_to level es) k ≡ Some e → (slice_get es k ≡ Some e) × (e.level ≤ level)
from_up_to level [] k e found = absurd cc
from_up_to level (x ∷ es) k e found = by_level k (λ i. from_up_to level es i e) (nat_le x.level level) refl found
  where
    by_place : (i : ℕ) → ((j : ℕ) → slice_get (entries_up_to level es) j ≡ Some e → (slice_get es j ≡ Some e) × (e.level ≤ level)) → nat_le x.level level ≡ true
        → slice_get (x ∷ entries_up_to level es) i ≡ Some e → (slice_get (x ∷ es) i ≡ Some e) × (e.level ≤ level)
    by_place zero later low there =
        let same : x ≡ e = cc in
        (there, grind (arith, nat_tests, low, ap (λ (y : Entry). y.level) same))
    by_place (suc i) later low there = later i there

    by_level : (i : ℕ) → ((j : ℕ) → slice_get (entries_up_to level es) j ≡ Some e → (slice_get es j ≡ Some e) × (e.level ≤ level)) → (b : Bool) → nat_le x.level level ≡ b
        → slice_get (entries_up_to level (x ∷ es)) i ≡ Some e → (slice_get (x ∷ es) i ≡ Some e) × (e.level ≤ level)
    by_level i later true low there = by_place i later low (sym (ap (λ ys. slice_get ys i) (up_to_low level x es low)) ∙ there)
    by_level i later false high there =
        let none : slice_get [] i ≡ Some e = sym (ap (λ ys. slice_get ys i) (up_to_high level x es high)) ∙ there in
        absurd cc

-- what is before the mark isn't marked
unmarked : (passed : ℕ) (mark : Option ℕ) (place : ℕ) → place < passed_before passed mark → (place < passed) × (¬ IsMarked mark place)
unmarked passed None place before = (before, λ marked. marked)
unmarked passed (Some mark) place before = by_test (nat_le mark passed) refl before
  where
    by_test : (b : Bool) → nat_le mark passed ≡ b → place < cond b mark passed → (place < passed) × (¬ (mark ≤ place))
    by_test true low lower = (grind (arith, nat_tests, low, lower), λ marked. omega (arith, lower, marked))
    by_test false high lower = (lower, λ marked. grind (arith, nat_tests, high, lower, marked))

-- the trail is cut
pub passed_cut : (heads : List HeadState) (t : TrailState) (level : ℕ) (progress : Progress) → IsTrail t → ArePassed heads t.entries progress
    → ArePassed heads (entries_up_to level t.entries) (cut_progress progress)
passed_cut heads t level progress h passed c head w place entry found live watching before there is =
    let ahead = unmarked progress.passed progress.mark place before in
    let front = from_up_to level t.entries place entry there in
    let it = passed c head w place entry found live watching ahead.0 front.0 is in
    let early : it.entry.level ≤ entry.level = ⊎_elim (λ low. low) (λ marked. absurd (ahead.1 marked)) it.in_time in
    record {
      at = it.at;
      entry = it.entry;
      found = kept_up_to 0 level t.entries it.at it.entry h.levels it.found (omega (arith, early, front.1));
      is_true = it.is_true;
      in_time = inl early;
    }
