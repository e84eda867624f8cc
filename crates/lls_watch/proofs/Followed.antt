-- A list that is followed link by link ends, since it has no clause twice.
use Rattle.std.proofs.Common.{◌≡◌, ◌≤◌, ◌<◌, zero, suc, ℕ, ℤ, Bool, true, false, ◌||◌, List, [], ◌∷◌, Option, Some, None, refl, sym, ap, ◌∙◌, subst, arith, length}
use Rattle.std.specs.Prelude.{slice_get, ◌==◌}
use Rattle.std.specs.Option.{option_and_then}
use Rattle.std.specs.List.{IsDistinct, list_any, AllByRecursion}
use Rattle.std.proofs.Math.Dec.{eqb}
use Rattle.std.proofs.lemmas.Option.{slice_get_within}
use Rattle.std.proofs.lemmas.Map.Steps.{length-le_from_distinct_below}
use Rattle.std.proofs.lemmas.Bool.{eq-eqb, eqb-true}
use Rattle.lls_arena.specs.Arena.{HeadState, link_of}
use Rattle.lls_watch.specs.Watches.{IsSegment, IsOnce, has, side_of}

-- where a clause's edge with that literal leads
abbrev pub next_of : List HeadState → ℤ → ℕ → Option ℕ
next_of heads lit c = option_and_then (λ head. link_of (side_of head lit) head) (slice_get heads c)

-- the clauses to which links lead, as many as that at most
abbrev pub followed : ℕ → List HeadState → ℤ → Option ℕ → List ℕ
followed zero heads lit start = []
followed (suc n) heads lit None = []
followed (suc n) heads lit (Some c) = c ∷ followed n heads lit (next_of heads lit c)

followed_none : (n : ℕ) (heads : List HeadState) (lit : ℤ) → followed n heads lit None ≡ []
followed_none zero heads lit = refl
followed_none (suc n) heads lit = refl

pub followed_is : (n : ℕ) (heads : List HeadState) (lit : ℤ) (start : Option ℕ) (cs : List ℕ) → IsSegment heads lit start cs None → length cs ≤ n → followed n heads lit start ≡ cs
followed_is n heads lit start [] leads few = ap (followed n heads lit) leads ∙ followed_none n heads lit
followed_is zero heads lit start (c ∷ cs) leads few = absurd (omega (arith, few))
followed_is (suc n) heads lit start (c ∷ cs) leads few =
    let step = leads.1.1.0 in
    let next : next_of heads lit c ≡ leads.1.0 = ap (option_and_then (λ head. link_of (side_of head lit) head)) step.is_head ∙ step.next_is in
    ap (followed (suc n) heads lit) leads.0 ∙ ap (λ s. c ∷ followed n heads lit s) next ∙ ap (λ ds. c ∷ ds) (followed_is n heads lit leads.1.0 cs leads.1.1.1 (omega (arith, few)))

-- clauses to which links lead are there
led_within : (heads : List HeadState) (lit : ℤ) (start : Option ℕ) (cs : List ℕ) → IsSegment heads lit start cs None → (q : ℕ) → list_any (eqb q) cs ≡ true → q < length heads
led_within heads lit start [] leads q among = absurd cc
led_within heads lit start (c ∷ cs) leads q among = by_test (led_within heads lit leads.1.0 cs leads.1.1.1 q) (eqb q c) refl among
  where
    by_test : (list_any (eqb q) cs ≡ true → q < length heads) → (b : Bool) → eqb q c ≡ b → (b || list_any (eqb q) cs) ≡ true → q < length heads
    by_test later true is _ = subst (λ k. k < length heads) (sym (eqb-true q c is)) (slice_get_within heads c leads.1.1.0.head leads.1.1.0.is_head)
    by_test later false _ rest = later rest

unlike : (c : ℕ) (cs : List ℕ) → has cs c ≡ false → AllByRecursion (λ y. eqb c y ≡ false) cs
unlike c [] absent = tt
unlike c (y ∷ ys) absent = by_test (unlike c ys) (y == c) refl absent
  where
    by_test : (has ys c ≡ false → AllByRecursion (λ z. eqb c z ≡ false) ys) → (b : Bool) → (y == c) ≡ b → (b || has ys c) ≡ false → AllByRecursion (λ z. eqb c z ≡ false) (y ∷ ys)
    by_test later true is none = absurd cc
    by_test later false differ none =
        elim (eqb c y) as (λ b. eqb c y ≡ b → AllByRecursion (λ z. eqb c z ≡ false) (y ∷ ys)) [
          | true ↦ λ same.
              let both : true ≡ false = sym (eq-eqb y c (sym (eqb-true c y same))) ∙ differ in
              absurd cc
          | false ↦ λ apart. (apart, later none)
        ] refl

distinct : (cs : List ℕ) → IsOnce cs → IsDistinct eqb cs
unfolding IsDistinct
distinct [] once = tt
distinct (c ∷ cs) once = (unlike c cs once.0, distinct cs once.1)

-- so they are no more than all
pub led_few : (heads : List HeadState) (lit : ℤ) (start : Option ℕ) (cs : List ℕ) → IsSegment heads lit start cs None → IsOnce cs → length cs ≤ length heads
led_few heads lit start cs leads once = length-le_from_distinct_below cs (length heads) (distinct cs once) (led_within heads lit start cs leads)
