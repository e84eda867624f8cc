-- What is true at level 0 stays so.
use Rattle.std.proofs.Common.{◌≡◌, ◌≤◌, ℕ, ℤ, Bool, true, false, ◌||◌, List, [], ◌∷◌, ◌++◌, refl, sym, ap, ◌∙◌, subst, arith}
use Rattle.std.specs.Prelude.{nat_le}
use Rattle.std.specs.Ordering.{int_eq}
use Rattle.std.proofs.lemmas.Bool.Decides.{nat_tests}
use Rattle.lls_store.specs.Trail.{Entry, TrailState, IsTrail, has}
use Rattle.lls_store.specs.Changes.{entries_up_to}
use Rattle.lls_store.specs.Clauses.{LiveClause}
use Rattle.lls_store.proofs.Cut.{cut_all}
use Rattle.lls_watch.specs.Short.{AreSatisfied, AreSatisfiedForGood}
use Rattle.lls_watch.proofs.Kept.{up_to_high, up_to_low}

either : (a b d : Bool) → (b ≡ true → d ≡ true) → (a || b) ≡ true → (a || d) ≡ true
either true b d later is = refl
either false b d later is = later is

nothing : (l : ℤ) → has [] l ≡ true → ⊥
nothing l is = absurd cc

up_to_in : (level : ℕ) (es : List Entry) (l : ℤ) → has (entries_up_to level es) l ≡ true → has es l ≡ true
up_to_in level [] l is = is
up_to_in level (x ∷ es) l is = by_level (nat_le x.level level) refl (up_to_in level es l)
  where
    by_level : (b : Bool) → nat_le x.level level ≡ b → (has (entries_up_to level es) l ≡ true → has es l ≡ true) → (int_eq x.lit l || has es l) ≡ true
    by_level true low later = either (int_eq x.lit l) (has (entries_up_to level es) l) (has es l) later (sym (ap (λ ys. has ys l) (up_to_low level x es low)) ∙ is)
    by_level false high later = absurd (nothing l (sym (ap (λ ys. has ys l) (up_to_high level x es high)) ∙ is))

up_to_grown : (level : ℕ) (es more : List Entry) (l : ℤ) → has (entries_up_to level es) l ≡ true → has (entries_up_to level (es ++ more)) l ≡ true
up_to_grown level [] more l is = absurd (nothing l is)
up_to_grown level (x ∷ es) more l is = by_level (nat_le x.level level) refl (up_to_grown level es more l)
  where
    by_level : (b : Bool) → nat_le x.level level ≡ b → (has (entries_up_to level es) l ≡ true → has (entries_up_to level (es ++ more)) l ≡ true) → has (entries_up_to level (x ∷ es ++ more)) l ≡ true
    by_level true low later =
        ap (λ ys. has ys l) (up_to_low level x (es ++ more) low)
        ∙ either (int_eq x.lit l) (has (entries_up_to level es) l) (has (entries_up_to level (es ++ more)) l) later (sym (ap (λ ys. has ys l) (up_to_low level x es low)) ∙ is)
    by_level false high later = absurd (nothing l (sym (ap (λ ys. has ys l) (up_to_high level x es high)) ∙ is))

up_to_cut : (least level : ℕ) (es : List Entry) (l : ℤ) → least ≤ level → has (entries_up_to least es) l ≡ true → has (entries_up_to least (entries_up_to level es)) l ≡ true
up_to_cut least level [] l below is = is
up_to_cut least level (x ∷ es) l below is = by_level (nat_le x.level least) refl (up_to_cut least level es l below)
  where
    by_level : (b : Bool) → nat_le x.level least ≡ b → (has (entries_up_to least es) l ≡ true → has (entries_up_to least (entries_up_to level es)) l ≡ true) → has (entries_up_to least (entries_up_to level (x ∷ es))) l ≡ true
    by_level true low later =
        let lower : nat_le x.level level ≡ true = grind (arith, nat_tests, low, below) in
        ap (λ ys. has (entries_up_to least ys) l) (up_to_low level x es lower)
        ∙ ap (λ ys. has ys l) (up_to_low least x (entries_up_to level es) low)
        ∙ either (int_eq x.lit l) (has (entries_up_to least es) l) (has (entries_up_to least (entries_up_to level es)) l) later (sym (ap (λ ys. has ys l) (up_to_low least x es low)) ∙ is)
    by_level false high later = absurd (nothing l (sym (ap (λ ys. has ys l) (up_to_high least x es high)) ∙ is))

-- by another trail that has what was true
pub satisfied_by : (live : List LiveClause) (es more : List Entry) (cs : List ℕ) (n : ℕ) → ((l : ℤ) → has es l ≡ true → has more l ≡ true) → AreSatisfied live es cs n → AreSatisfied live more cs n
satisfied_by live es more cs n keeps satisfied k c before found clause is =
    let it = satisfied k c before found clause is in
    (it.0, (it.1.0, keeps it.0 it.1.1))

pub for_good_now : (live : List LiveClause) (es : List Entry) (cs : List ℕ) (n : ℕ) → AreSatisfiedForGood live es cs n → AreSatisfied live es cs n
for_good_now live es cs n good = satisfied_by live (entries_up_to 0 es) es cs n (up_to_in 0 es) good

pub for_good_grown : (live : List LiveClause) (es more : List Entry) (cs : List ℕ) (n : ℕ) → AreSatisfiedForGood live es cs n → AreSatisfiedForGood live (es ++ more) cs n
for_good_grown live es more cs n good = satisfied_by live (entries_up_to 0 es) (entries_up_to 0 (es ++ more)) cs n (up_to_grown 0 es more) good

pub for_good_cut : (live : List LiveClause) (es : List Entry) (level : ℕ) (cs : List ℕ) (n : ℕ) → AreSatisfiedForGood live es cs n → AreSatisfiedForGood live (entries_up_to level es) cs n
for_good_cut live es level cs n good =
    satisfied_by live (entries_up_to 0 es) (entries_up_to 0 (entries_up_to level es)) cs n (λ l. up_to_cut 0 level es l (omega arith)) good

-- at level 0 all is
pub for_good_from : (live : List LiveClause) (t : TrailState) (cs : List ℕ) (n : ℕ) → IsTrail t → t.current ≡ 0 → AreSatisfied live t.entries cs n → AreSatisfiedForGood live t.entries cs n
for_good_from live t cs n kept lowest satisfied =
    subst (λ es. AreSatisfied live es cs n) (sym (cut_all t 0 kept (omega (arith, lowest)))) satisfied
