-- A trail that is cut, one entry after another.
use Rattle.std.proofs.Common.{◌≡◌, ℕ, ◌+◌, ◌-◌, ◌<◌, ◌≤◌, Bool, true, false, cond, List, [], ◌∷◌, ◌++◌, length, map, take, get_or, refl, sym, ap, subst, ◌∙◌, arith}
use Rattle.std.specs.Prelude.{nat_le}
use Rattle.std.proofs.lemmas.List.{take_more, take_all}
use Rattle.std.proofs.lemmas.List.Sums.{count_by-le-length, take_while-cons}
use Rattle.std.proofs.lemmas.Bool.Decides.{nat_tests}
use Rattle.lls_store.specs.Trail.{Entry, TrailState, is_decision, decisions, levels_after, IsTrail}
use Rattle.lls_store.specs.Changes.{entries_up_to, cut_to}
use Rattle.lls_store.proofs.Entries.{decisions_cons, decisions_push, level_of_last}

pub some_entry : (t : TrailState) (level : ℕ) → IsTrail t → level < t.current → 0 < length t.entries
some_entry t level h above = omega (arith, above, h.current, count_by-le-length is_decision t.entries)

with_last : (es : List Entry) → 0 < length es → (e : Entry) × (es ≡ take (length es - 1) es ++ e ∷ [])
with_last [] some = absurd (omega arith)
with_last (x ∷ es) some =
    let all = x ∷ es in
    let last = get_or all (length all - 1) x in
    let whole : length all ≡ length all - 1 + 1 = omega (arith, some) in
    (last, sym (take_all (length all) all (omega arith)) ∙ ap (λ n. take n all) whole ∙ take_more all (length all - 1) x (omega (arith, some)))

-- an entry above the level at the end makes no difference
up_to-push : (level : ℕ) (es : List Entry) (e : Entry) → nat_le e.level level ≡ false → entries_up_to level (es ++ e ∷ []) ≡ entries_up_to level es
up_to-push level [] e above = take_while-cons (λ x. nat_le x.level level) e [] ∙ ap (λ b. cond b (e ∷ []) []) above
up_to-push level (x ∷ es) e above =
    take_while-cons (λ y. nat_le y.level level) x (es ++ e ∷ []) ∙ ap (λ ys. cond (nat_le x.level level) (x ∷ ys) []) (up_to-push level es e above) ∙ sym (take_while-cons (λ y. nat_le y.level level) x es)

one_more : (b : Bool) (n : ℕ) → n + cond b 1 0 ≤ n + 1
one_more true n = omega arith
one_more false n = omega arith

-- one entry less, where the current level is above
pub record IsCutOnce (t : TrailState) (level : ℕ) (es : List Entry) : Type 0 where
  pub above : level ≤ decisions es
  pub kept : entries_up_to level es ≡ entries_up_to level t.entries

pub cut_once : (t : TrailState) (level : ℕ) → IsTrail t → level < t.current → IsCutOnce t level (take (length t.entries - 1) t.entries)
cut_once t level h above =
    let es = take (length t.entries - 1) t.entries in
    let last = with_last t.entries (some_entry t level h above) in
    let P : List Entry → Type 0 = λ all. IsTrail (record { vars = t.vars; current = t.current; entries = all }) in
    let e_level : last.0.level ≡ t.current = level_of_last t.vars t.current es last.0 (subst P last.1 h) in
    let count : t.current ≡ decisions es + cond (is_decision last.0) 1 0 = h.current ∙ ap decisions last.1 ∙ decisions_push es last.0 in
    let high : nat_le last.0.level level ≡ false = not_le last.0.level level (omega (arith, e_level, above)) in
    record {
      above = omega (arith, count, above, one_more (is_decision last.0) (decisions es));
      kept = sym (up_to-push level es last.0 high) ∙ ap (entries_up_to level) (sym last.1);
    } where
      not_le : (n m : ℕ) → m < n → nat_le n m ≡ false
      not_le n m lt = grind (arith, nat_tests)

first_level : (b : Bool) (n count level : ℕ) → n + (cond b 1 0 + count) ≤ level → (cond b (n + 1) n ≤ level) × (cond b (n + 1) n + count ≤ level)
first_level true n count level le = (omega arith, omega arith)
first_level false n count level le = (omega arith, omega arith)

both_same : (a b : ℕ) (xs ys : List ℕ) → a ∷ xs ≡ b ∷ ys → (a ≡ b) × (xs ≡ ys)
both_same a b xs ys h = (cc, cc)

is_le : (n m : ℕ) → n ≤ m → nat_le n m ≡ true
is_le n m le = grind (arith, nat_tests)

-- where no more decisions stand than the level, all entries are up to it
up_to_all : (n level : ℕ) (es : List Entry) → map (λ e. e.level) es ≡ levels_after n es → n + decisions es ≤ level → entries_up_to level es ≡ es
up_to_all n level [] levels le = refl
up_to_all n level (x ∷ es) levels le =
    let now = cond (is_decision x) (n + 1) n in
    let parts = both_same x.level now (map (λ e. e.level) es) (levels_after now es) levels in
    let bounds = first_level (is_decision x) n (decisions es) level (omega (arith, le, decisions_cons x es)) in
    let low : nat_le x.level level ≡ true = is_le x.level level (omega (arith, parts.0, bounds.0)) in
    take_while-cons (λ y. nat_le y.level level) x es ∙ ap (λ b. cond b (x ∷ entries_up_to level es) []) low ∙ ap (λ ys. x ∷ ys) (up_to_all now level es parts.1 bounds.1)

-- nothing is left to cut
pub cut_all : (t : TrailState) (level : ℕ) → IsTrail t → t.current ≤ level → entries_up_to level t.entries ≡ t.entries
cut_all t level h below = up_to_all 0 level t.entries h.levels (omega (arith, below, h.current))

-- what was cut so far is above the level
pub record IsCutting (start : TrailState) (level : ℕ) (t : TrailState) : Type 0 where
  pub vars : t.vars ≡ start.vars
  pub above : level ≤ t.current
  pub kept : entries_up_to level t.entries ≡ entries_up_to level start.entries

pub cut_end : (start t : TrailState) (level : ℕ) → IsCutting start level t → IsTrail t → t.current ≤ level → t ≡ cut_to start level
cut_end start t level cutting h below =
    let current : t.current ≡ level = omega (arith, cutting.above, below) in
    let entries : t.entries ≡ entries_up_to level start.entries = sym (cut_all t level h below) ∙ cutting.kept in
    ap (λ (n : ℕ). record { vars = n; current = t.current; entries = t.entries }) cutting.vars
    ∙ ap (λ (n : ℕ). record { vars = start.vars; current = n; entries = t.entries }) current
    ∙ ap (λ (es : List Entry). record { vars = start.vars; current = level; entries = es }) entries
