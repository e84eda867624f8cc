-- What stays where false literals are visited and follow, and how that is taken back.
use Rattle.std.proofs.Common.{◌≡◌, ℕ, zero, suc, ◌-◌, ◌<◌, ◌≤◌, Bool, true, false, cond, List, [], ◌∷◌, ◌++◌, length, get_or, set, take, refl, sym, ap, subst, ◌∙◌, inl, inr, arith}
use Rattle.std.specs.Prelude.{ℤ, pos, ◌⊎◌, Contains, count_by}
use Rattle.std.proofs.lemmas.List.{length-set, length_push, get_or-set_other, set-get_or, get_or_push, get_or_append_left, take-append-le, take_all}
use Rattle.std.proofs.lemmas.Grind.{get_or-set_at}
use Rattle.std.proofs.lemmas.List.Elements.{Contains-append_left, Contains-push_cases}
use Rattle.std.proofs.lemmas.Bool.Decides.{eqb_tells}
use Rattle.lls_lit.specs.Literal.{variable_of}
use Rattle.lls_store.specs.Trail.{Entry, HasNegated}
use Rattle.lls_store.specs.Clauses.{LiveClause}
use Rattle.lls_analyse.specs.declared.visited.Seen.{Seen}
use Rattle.lls_analyse.specs.declared.visited.Seen.TheVariants.{No, Open, Kept, Followed}
use Rattle.lls_analyse.specs.Visited.{VisitedState, is_seen, is_open, status}
use Rattle.lls_analyse.specs.Marked.{GivesWay}
use Rattle.lls_analyse.specs.Minimised.{IsGrown}
use Rattle.lls_analyse.specs.Minimised.IsGrown.{same, more}
use Rattle.lls_analyse.proofs.Visits.{unlike, count_by-set}

abbrev one_if : Bool → ℕ
one_if b = cond b 1 0

pub grown_then : (es : List Entry) (a b c : VisitedState) → IsGrown es a b → IsGrown es b c → IsGrown es a c
grown_then es a b c first same = first
grown_then es a b c first (more s l rest false_ bounds unseen) = more s l (grown_then es a b s first rest) false_ bounds unseen

pub grown_vars : (es : List Entry) (a b : VisitedState) → IsGrown es a b → b.vars ≡ a.vars
grown_vars es a b same = refl
grown_vars es a b (more s l rest false_ bounds unseen) = grown_vars es a s rest

grown_each : (es : List Entry) (a b : VisitedState) → IsGrown es a b → length b.seen ≡ length a.seen
grown_each es a b same = refl
grown_each es a b (more s l rest false_ bounds unseen) = length-set s.seen (variable_of l - 1) Followed ∙ grown_each es a s rest

pub grown_longer : (es : List Entry) (a b : VisitedState) → IsGrown es a b → length a.lits ≤ length b.lits
grown_longer es a b same = omega arith
grown_longer es a b (more s l rest false_ bounds unseen) = omega (arith, grown_longer es a s rest, length_push s.lits l)

pub grown_stays : (es : List Entry) (a b : VisitedState) (m : ℤ) → IsGrown es a b → is_seen (status a.seen m) ≡ true → status b.seen m ≡ status a.seen m
grown_stays es a b m same seen = refl
grown_stays es a b m (more s l rest false_ bounds unseen) seen =
    let before = grown_stays es a s m rest seen in
    get_or-set_other s.seen (variable_of l - 1) (variable_of m - 1) Followed No (λ at. unlike (ap is_seen before ∙ seen) (ap (λ n. is_seen (get_or s.seen n No)) at ∙ unseen)) ∙ before

pub grown_seen : (es : List Entry) (a b : VisitedState) (m : ℤ) → IsGrown es a b → is_seen (status a.seen m) ≡ true → is_seen (status b.seen m) ≡ true
grown_seen es a b m grown seen = ap is_seen (grown_stays es a b m grown seen) ∙ seen

pub grown_newly : (es : List Entry) (a b : VisitedState) (m : ℤ) → length a.seen ≡ a.vars → IsGrown es a b → is_seen (status a.seen m) ≡ false → is_seen (status b.seen m) ≡ true → status b.seen m ≡ Followed
grown_newly es a b m each same unseen seen = absurd (unlike seen unseen)
grown_newly es a b m each (more s l rest false_ bounds unseen') unseen seen = elim (eqb_tells (variable_of m - 1) (variable_of l - 1)) [
  | inl t ↦ get_or-set_at s.seen (variable_of l - 1) (variable_of m - 1) Followed No t.1 (omega (arith, bounds.0, bounds.1, each, grown_each es a s rest, grown_vars es a s rest))
  | inr t ↦
      let stays = get_or-set_other s.seen (variable_of l - 1) (variable_of m - 1) Followed No t.1 in
      stays ∙ grown_newly es a s m each rest unseen (ap is_seen (sym stays) ∙ seen)
]

pub grown_opens : (es : List Entry) (a b : VisitedState) → length a.seen ≡ a.vars → IsGrown es a b → count_by is_open b.seen ≡ count_by is_open a.seen
grown_opens es a b each same = refl
grown_opens es a b each (more s l rest false_ bounds unseen) =
    omega (arith, count_by-set is_open s.seen (variable_of l - 1) Followed (omega (arith, bounds.0, bounds.1, each, grown_each es a s rest, grown_vars es a s rest)), ap one_if (not_open (status s.seen l) unseen), grown_opens es a s each rest) where
      not_open : (x : Seen) → is_seen x ≡ false → is_open x ≡ false
      not_open No none = refl
      not_open Open none = absurd cc
      not_open Kept none = refl
      not_open Followed none = refl

not_seen : (b : Bool) → (b ≡ true → ⊥) → b ≡ false
not_seen true never = absurd (never refl)
not_seen false never = refl

-- a visited literal was visited before, or nothing was known of it
pub grown_origin : (es : List Entry) (a b : VisitedState) (m : ℤ) → IsGrown es a b → Contains b.lits m → Contains a.lits m ⊎ ((is_seen (status a.seen m) ≡ false) × HasNegated es m)
grown_origin es a b m same inside = inl inside
grown_origin es a b m (more s l rest false_ bounds unseen) inside = elim (Contains-push_cases s.lits l m inside) [
  | inl t ↦ grown_origin es a s m rest t
  | inr t ↦
      let P : ℤ → Type 0 = λ x. HasNegated es x in
      inr (ap (λ x. is_seen (status a.seen x)) (sym t) ∙ not_seen (is_seen (status a.seen l)) (λ seen. unlike (grown_seen es a s l rest seen) unseen), subst P t false_)
]

-- the literals that were added are false
pub grown_false : (es : List Entry) (a b : VisitedState) (k : ℕ) (d : ℤ) → IsGrown es a b → length a.lits ≤ k → k < length b.lits → HasNegated es (get_or b.lits k d)
grown_false es a b k d same le lt = absurd (omega (arith, le, lt))
grown_false es a b k d (more s l rest false_ bounds unseen) le lt = elim (eqb_tells k (length s.lits)) [
  | inl t ↦ subst (HasNegated es) (sym (get_or_push s.lits l d k (sym t.1))) false_
  | inr t ↦
      let early : k < length s.lits = omega (arith, lt, t.1, length_push s.lits l) in
      subst (HasNegated es) (sym (get_or_append_left s.lits (l ∷ []) d k early)) (grown_false es a s k d rest le early)
]

pub grown_lits : (es : List Entry) (a b : VisitedState) (m : ℤ) → IsGrown es a b → Contains a.lits m → Contains b.lits m
grown_lits es a b m same inside = inside
grown_lits es a b m (more s l rest false_ bounds unseen) inside = Contains-append_left s.lits (l ∷ []) m (grown_lits es a s m rest inside)

pub grown_same : (es : List Entry) (a b : VisitedState) → IsGrown es a b → length b.lits ≤ length a.lits → b ≡ a
grown_same es a b same le = refl
grown_same es a b (more s l rest false_ bounds unseen) le = absurd (omega (arith, le, grown_longer es a s rest, length_push s.lits l))

-- the state without its last literal
abbrev pub forgotten : VisitedState → VisitedState
forgotten s = record s {
  seen = set s.seen (variable_of (get_or s.lits (length s.lits - 1) (pos 0)) - 1) No;
  lits = take (length s.lits - 1) s.lits;
}

set_back : (seen : List Seen) (i : ℕ) → is_seen (get_or seen i No) ≡ false → set (set seen i Followed) i No ≡ seen
set_back seen i unseen = set_twice seen i Followed No ∙ ap (set seen i) (sym (nothing (get_or seen i No) unseen)) ∙ set-get_or seen i No where
  set_twice : (xs : List Seen) (i : ℕ) (x y : Seen) → set (set xs i x) i y ≡ set xs i y
  set_twice [] zero x y = refl
  set_twice [] (suc i) x y = refl
  set_twice (z ∷ zs) zero x y = refl
  set_twice (z ∷ zs) (suc i) x y = ap (λ ws. z ∷ ws) (set_twice zs i x y)

  nothing : (x : Seen) → is_seen x ≡ false → x ≡ No
  nothing No none = refl
  nothing Open none = absurd cc
  nothing Kept none = absurd cc
  nothing Followed none = absurd cc

pub grown_forgotten : (es : List Entry) (a b : VisitedState) → IsGrown es a b → length a.lits < length b.lits → IsGrown es a (forgotten b)
grown_forgotten es a b same lt = absurd (omega (arith, lt))
grown_forgotten es a b (more s l rest false_ bounds unseen) lt =
    let size : length (s.lits ++ l ∷ []) - 1 ≡ length s.lits = omega (arith, length_push s.lits l) in
    let last : get_or (s.lits ++ l ∷ []) (length (s.lits ++ l ∷ []) - 1) (pos 0) ≡ l = ap (λ n. get_or (s.lits ++ l ∷ []) n (pos 0)) size ∙ get_or_push s.lits l (pos 0) (length s.lits) refl in
    let front : take (length (s.lits ++ l ∷ []) - 1) (s.lits ++ l ∷ []) ≡ s.lits = ap (λ n. take n (s.lits ++ l ∷ [])) size ∙ take-append-le (length s.lits) s.lits (l ∷ []) (omega arith) ∙ take_all (length s.lits) s.lits (omega arith) in
    let table : set (set s.seen (variable_of l - 1) Followed) (variable_of (get_or (s.lits ++ l ∷ []) (length (s.lits ++ l ∷ []) - 1) (pos 0)) - 1) No ≡ s.seen = ap (λ m. set (set s.seen (variable_of l - 1) Followed) (variable_of m - 1) No) last ∙ set_back s.seen (variable_of l - 1) unseen in
    let P : VisitedState → Type 0 = λ t. IsGrown es a t in
    subst P (sym (ap (λ (xs : List Seen). record { vars = s.vars; seen = xs; lits = take (length (s.lits ++ l ∷ []) - 1) (s.lits ++ l ∷ []) }) table ∙ ap (λ (ls : List ℤ). record { vars = s.vars; seen = s.seen; lits = ls }) front)) rest

pub gives_way_still : (live : List LiveClause) (es : List Entry) (a b : List Seen) (l : ℤ) → GivesWay live es a l → ((m : ℤ) → is_seen (status a m) ≡ true → is_seen (status b m) ≡ true) → GivesWay live es b l
gives_way_still live es a b l h still = record { reason = h.reason; clause = h.clause; has_reason = h.has_reason; is_live = h.is_live; all_seen = λ m inside. still m (h.all_seen m inside) }
