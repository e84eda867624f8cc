-- A lemma that no step adds: neither by unit propagation nor by its pivot.
use Rattle.std.proofs.Common.{◌≡◌, ◌≢◌, ℕ, ◌<◌, Bool, true, false, not, ◌&&◌, ◌||◌, cond, List, [], ◌∷◌, ◌++◌, Option, Some, None, refl, sym, ap, subst, ◌∙◌, inl, inr, arith}
use Rattle.std.specs.Prelude.{ℤ, ◌⊎◌, ◌==◌, AllPairs, Contains, find, slice_get}
use Rattle.std.specs.List.{list_any}
use Rattle.std.specs.Option.{option_map, option_or}
use Rattle.std.specs.Ordering.{int_eq}
use Rattle.std.specs.FinSet as set
use Rattle.std.proofs.lemmas.Bool.Decides.{Decides-eqb, Decides-int_eq}
use Rattle.std.proofs.lemmas.List.Elements.{Contains-append_cases}
use Rattle.std.proofs.lemmas.Option.{same_Some}
use Rattle.lls_lit.specs.Literal.{negation}
use Rattle.lls_lit.specs.Formula.{Clause}
use Rattle.lls_lit.proofs.Flipped.{negation_twice}
use Rattle.lls_prooflog.specs.declared.step_fault.StepFault.{StepFault}
use Rattle.lls_prooflog.specs.declared.step_fault.StepFault.TheVariants.{NoConflict, RatMissing, RatOther}
use Rattle.lls_prooflog.specs.Rat.{Group, group_fault, groups_fault, groups_of, has_true, lacks_group, missing_fault, other_fault, others, pivot_fault, rat_fault, resolvent_fault}
use Rattle.lls_prooflog.specs.UnitWalk.{Live, find_clause, is_among, unit_walk, walk_on}
use Rattle.lls_store.specs.Trail.{has, Has, HasNegated}
use Rattle.lls_store.specs.Clauses.{LiveClause, Literals, IsIn}
use Rattle.lls_store.proofs.Live.{clause_numbered-contained}
use Rattle.lls_store.proofs.Sets.{Contains-from_IsIn, IsIn-from_Contains}
use Rattle.lls_analyse.specs.Spelled.{Spells}
use Rattle.lls_analyse.proofs.Gathering.{first_or_later, later, nothing_there}
use Rattle.lls_analyse.proofs.Trails.{consistent_trail}
use Rattle.lls_analyse.proofs.Walk.{spelled}
use Rattle.lls_lemmas.specs.Pivot.{IsUnresolved}
use Rattle.lls_lemmas.proofs.Groups.{rat_fault-first}
use Rattle.lls_lemmas.proofs.Listing.{among-from_Contains, Contains-from_among}
use Rattle.lls_lemmas.proofs.Open.{ends_false, no_hints}

-- a literal of the others
pub of_others : (left_out : ℤ) (clause : Clause) (l : ℤ) → Contains (others left_out clause) l → Contains clause l × (l ≢ left_out)
of_others x [] l inside = absurd (nothing_there l inside)
of_others x (c ∷ cs) l inside = by_test (int_eq x c) refl inside (of_others x cs l) where
  by_test : (b : Bool) → int_eq x c ≡ b → Contains (cond (not b) (c ∷ others x cs) (others x cs)) l → (Contains (others x cs) l → Contains cs l × (l ≢ x)) → Contains (c ∷ cs) l × (l ≢ x)
  by_test true is there rest = let r = rest there in (later c cs l r.0, r.1)
  by_test false is there rest = elim (first_or_later c (others x cs) l there) [
    | inl same ↦ ((0, omega arith, same), λ equal. let clash : false ≡ true = sym is ∙ (Decides-int_eq x c).1 (sym equal ∙ sym same) in absurd cc)
    | inr on ↦ (let r = rest on in (later c cs l r.0, r.1))
  ]

pub in_others : (left_out : ℤ) (clause : Clause) (l : ℤ) → Contains clause l → l ≢ left_out → Contains (others left_out clause) l
in_others x [] l inside other = absurd (nothing_there l inside)
in_others x (c ∷ cs) l inside other = by_test (int_eq x c) refl (first_or_later c cs l inside) (λ there. in_others x cs l there other) where
  by_test : (b : Bool) → int_eq x c ≡ b → (c ≡ l) ⊎ Contains cs l → (Contains cs l → Contains (others x cs) l) → Contains (cond (not b) (c ∷ others x cs) (others x cs)) l
  by_test true is (inl same) rest = absurd (other (sym ((Decides-int_eq x c).0 is ∙ same)))
  by_test true is (inr there) rest = rest there
  by_test false is (inl same) rest = (0, omega arith, same)
  by_test false is (inr there) rest = later c (others x cs) l (rest there)

-- a literal whose negation is among others
pub record IsTrueLit (assumed lits : List ℤ) : Type 0 where
  pub lit : ℤ
  pub inside : Contains lits lit
  pub negated : Contains assumed (negation lit)

pub true_lit : (assumed lits : List ℤ) → has_true assumed lits ≡ true → IsTrueLit assumed lits
true_lit assumed [] is = absurd cc
true_lit assumed (l ∷ ls) is = by_test (is_among assumed (negation l)) refl is (λ h. true_lit assumed ls h) where
  by_test : (b : Bool) → is_among assumed (negation l) ≡ b → (b || has_true assumed ls) ≡ true → (has_true assumed ls ≡ true → IsTrueLit assumed ls) → IsTrueLit assumed (l ∷ ls)
  by_test true among h rest = record { lit = l; inside = (0, omega arith, refl); negated = Contains-from_among assumed (negation l) among }
  by_test false among h rest = (let r = rest h in record { lit = r.lit; inside = later l ls r.lit r.inside; negated = r.negated })

pub has_true-from : (assumed lits : List ℤ) (l : ℤ) → Contains lits l → Contains assumed (negation l) → has_true assumed lits ≡ true
has_true-from assumed [] l inside negated = absurd (nothing_there l inside)
has_true-from assumed (x ∷ xs) l inside negated = elim (first_or_later x xs l inside) [
  | inl same ↦ ap (λ b. b || has_true assumed xs) (ap (λ m. is_among assumed (negation m)) same ∙ among-from_Contains assumed (negation l) negated)
  | inr there ↦ either (is_among assumed (negation x)) (has_true-from assumed xs l there negated)
] where
  either : (a : Bool) {b : Bool} → b ≡ true → (a || b) ≡ true
  either true is = refl
  either false is = is

pub has_true-none : (assumed lits : List ℤ) → ((l : ℤ) → Contains lits l → Contains assumed (negation l) → ⊥) → has_true assumed lits ≡ false
has_true-none assumed lits none = elim (has_true assumed lits) as (λ b. has_true assumed lits ≡ b → b ≡ false) [
  | true ↦ λ is. (let t = true_lit assumed lits is in absurd (none t.lit t.inside t.negated))
  | false ↦ λ _. refl
] refl

-- what a clause that is found passes, some clause does
any_found : (q : Clause → Bool) (pairs : Live) (id : ℕ) (lits : Clause) → find_clause pairs id ≡ Some lits → q lits ≡ true → list_any (λ (pair : ℕ × Clause). q pair.1) pairs ≡ true
any_found q [] id lits found is = absurd cc
any_found q (p ∷ ps) id lits found is = by_test (p.0 == id) found (λ h. any_found q ps id lits h is) where
  either : (a : Bool) {b : Bool} → b ≡ true → (a || b) ≡ true
  either true is' = refl
  either false is' = is'

  by_test : (b : Bool) → cond b (Some p.1) (find_clause ps id) ≡ Some lits → (find_clause ps id ≡ Some lits → list_any (λ (pair : ℕ × Clause). q pair.1) ps ≡ true) → (q p.1 || list_any (λ (pair : ℕ × Clause). q pair.1) ps) ≡ true
  by_test true h rest = ap (λ b. b || list_any (λ (pair : ℕ × Clause). q pair.1) ps) (ap q (same_Some p.1 lits h) ∙ is)
  by_test false h rest = either (q p.1) (rest h)

-- where none lacks a group, a clause that is found has one
none_found : (q : ℕ × Clause → Bool) (pairs : Live) (id : ℕ) (lits : Clause) → find_clause pairs id ≡ Some lits → find q pairs ≡ None → q (id, lits) ≡ false
none_found q [] id lits found none = absurd cc
none_found q (p ∷ ps) id lits found none = by_both (q p) (p.0 == id) refl refl none found (λ is h. none_found q ps id lits is h) where
  by_both : (a b : Bool) → q p ≡ a → (p.0 == id) ≡ b → cond a (Some p) (find q ps) ≡ None → cond b (Some p.1) (find_clause ps id) ≡ Some lits → (find_clause ps id ≡ Some lits → find q ps ≡ None → q (id, lits) ≡ false) → q (id, lits) ≡ false
  by_both true b passes test h is rest = absurd cc
  by_both false true passes test h is rest =
      let P : ℕ → Type 0 = λ n. q (n, lits) ≡ false in
      let Q : Clause → Type 0 = λ ls. q (p.0, ls) ≡ false in
      subst P ((Decides-eqb p.0 id).0 test) (subst Q (same_Some p.1 lits is) passes)
  by_both false false passes test h is rest = rest is h

-- of groups without fault, one with that id
record IsGoodGroup (pairs : Live) (pivot : ℤ) (assumed : List ℤ) (id : ℕ) : Type 0 where
  group : Group
  same_id : group.id ≡ id
  good : group_fault pairs pivot assumed group ≡ None

either_fault : (a b : Option StepFault) → option_or a b ≡ None → (a ≡ None) × (b ≡ None)
either_fault None b is = (refl, is)
either_fault (Some x) b is = absurd cc

no_map : {X : Type 0} (f : X → StepFault) (o : Option X) → option_map f o ≡ None → o ≡ None
no_map f None is = refl
no_map f (Some x) is = absurd cc

good_group : (pairs : Live) (pivot : ℤ) (assumed : List ℤ) (id : ℕ) (groups : List Group) → groups_fault pairs pivot assumed groups ≡ None → list_any (λ (group : Group). group.id == id) groups ≡ true → IsGoodGroup pairs pivot assumed id
good_group pairs pivot assumed id [] good there = absurd cc
good_group pairs pivot assumed id (g ∷ gs) good there =
    let parts = either_fault (group_fault pairs pivot assumed g) (groups_fault pairs pivot assumed gs) good in
    elim (g.id == id) as (λ b. (g.id == id) ≡ b → (b || list_any (λ (group : Group). group.id == id) gs) ≡ true → IsGoodGroup pairs pivot assumed id) [
      | true ↦ λ is _. record { group = g; same_id = (Decides-eqb g.id id).0 is; good = parts.0 }
      | false ↦ λ _ h. good_group pairs pivot assumed id gs parts.1 h
    ] refl there

-- nothing is wrong with a group: its clause holds the pivot's negation, and nothing is wrong with the resolvent
group_good : (pairs : Live) (pivot : ℤ) (assumed : List ℤ) (group : Group) (lits : Clause) → find_clause pairs group.id ≡ Some lits → group_fault pairs pivot assumed group ≡ None → resolvent_fault pairs assumed (others (negation pivot) lits) group.hints ≡ None
group_good pairs pivot assumed group lits found good =
    let is : other_fault pairs pivot assumed group (Some lits) ≡ None = ap (other_fault pairs pivot assumed group) (sym found) ∙ good in
    elim (is_among lits (negation pivot)) as (λ b. cond b (resolvent_fault pairs assumed (others (negation pivot) lits) group.hints) (Some (RatOther group.id)) ≡ None → resolvent_fault pairs assumed (others (negation pivot) lits) group.hints ≡ None) [
      | true ↦ λ h. h
      | false ↦ λ h. absurd cc
    ] is

lacks_none : (a b : Bool) → a ≡ true → (a && not b) ≡ false → b ≡ true
lacks_none true true is h = refl
lacks_none true false is h = absurd cc
lacks_none false b is h = absurd cc

module _ (live : List LiveClause) (pairs : Live) (pivot : ℤ) (lits : List ℤ) (spells : Spells live pairs) (ids : AllPairs (λ (a b : LiveClause). a.id ≢ b.id) live) (numbers : AllPairs (λ (a b : LiveClause). a.number < b.number) live) (o : IsUnresolved live pivot lits) where
  AllFalse : List ℤ → Type 0
  AllFalse assumed = (m : ℤ) → is_among assumed m ≡ true → HasNegated o.trail.entries m

  -- no hints refute the resolvent
  resolvent_stands : (assumed : List ℤ) (clause : Clause) (hints : List ℤ) → AllFalse assumed → ((l : ℤ) → Contains clause l → IsIn o.clause.lits l) → resolvent_fault pairs assumed (others (negation pivot) clause) hints ≡ None → ⊥
  unfolding AllFalse
  resolvent_stands assumed clause hints all_false of good =
      let rest = others (negation pivot) clause in
      let rest_false : (l : ℤ) → Contains rest l → HasNegated o.trail.entries l = λ l inside. (let r = of_others (negation pivot) clause l inside in o.others_false l (of l r.0) r.1) in
      elim (has_true assumed rest) as (λ b. has_true assumed rest ≡ b → cond b None (unit_walk pairs (assumed ++ rest) hints) ≡ None → ⊥) [
        | true ↦ λ is _.
            let t = true_lit assumed rest is in
            let true_ : Has o.trail.entries t.lit = ap (has o.trail.entries) (sym (negation_twice t.lit)) ∙ all_false (negation t.lit) (among-from_Contains assumed (negation t.lit) t.negated) in
            consistent_trail o.trail o.is_trail t.lit true_ (rest_false t.lit t.inside)
        | false ↦ λ _ walk.
            no_hints live o.trail (assumed ++ rest) o.is_trail o.closed (λ l inside. elim (Contains-append_cases assumed rest l inside) [
              | inl early ↦ all_false l (among-from_Contains assumed l early)
              | inr late ↦ rest_false l late
            ]) pairs spells hints walk
      ] refl good

  never_pivot : (assumed : List ℤ) (groups : List Group) → AllFalse assumed → pivot_fault pairs pivot assumed groups ≡ None → ⊥
  never_pivot assumed [] all_false good =
      let s = spelled live pairs o.clause.number o.clause spells ids (clause_numbered-contained live o.clause numbers o.is_live) in
      let among : is_among s.lits (negation pivot) ≡ true = among-from_Contains s.lits (negation pivot) (Contains-from_IsIn s.lits (negation pivot) (ap (λ (ls : Literals). set.contains ls (negation pivot)) s.same ∙ o.opposes)) in
      let some = any_found (λ (ls : Clause). is_among ls (negation pivot)) pairs o.clause.id s.lits s.found among in
      let clash : Some NoConflict ≡ None = ap (λ b. cond b (Some NoConflict) None) (sym some) ∙ good in
      cc
  never_pivot assumed (g ∷ gs) all_false good =
      let s = spelled live pairs o.clause.number o.clause spells ids (clause_numbered-contained live o.clause numbers o.is_live) in
      let among : is_among s.lits (negation pivot) ≡ true = among-from_Contains s.lits (negation pivot) (Contains-from_IsIn s.lits (negation pivot) (ap (λ (ls : Literals). set.contains ls (negation pivot)) s.same ∙ o.opposes)) in
      let parts = either_fault (groups_fault pairs pivot assumed (g ∷ gs)) (missing_fault pairs (negation pivot) (g ∷ gs)) good in
      let missing = no_map (λ (pair : ℕ × Clause). RatMissing pair.0) (find (lacks_group (negation pivot) (g ∷ gs)) pairs) parts.1 in
      let lacks = none_found (lacks_group (negation pivot) (g ∷ gs)) pairs o.clause.id s.lits s.found missing in
      let one = good_group pairs pivot assumed o.clause.id (g ∷ gs) parts.0 (lacks_none (is_among s.lits (negation pivot)) (list_any (λ (group : Group). group.id == o.clause.id) (g ∷ gs)) among lacks) in
      let good_one = group_good pairs pivot assumed one.group s.lits (ap (find_clause pairs) one.same_id ∙ s.found) one.good in
      resolvent_stands assumed s.lits one.group.hints all_false (λ l inside. ap (λ (ls : Literals). set.contains ls l) (sym s.same) ∙ IsIn-from_Contains s.lits l inside) good_one

  -- no hints add the lemma
  pub never_added : slice_get lits 0 ≡ Some pivot → (hints : List ℤ) → walk_on pairs (rat_fault pairs lits (groups_of hints)) lits hints ≡ None → ⊥
  unfolding AllFalse
  never_added first hints walk =
      let at_end : List ℤ → Option StepFault = rat_fault pairs lits (groups_of hints) in
      let end = ends_false live o.trail lits o.is_trail o.closed o.lits_false pairs spells at_end hints walk in
      never_pivot end.assumed (groups_of hints) end.all_false (sym (rat_fault-first pairs lits pivot (groups_of hints) end.assumed first) ∙ end.ends)

-- nor is there any for the empty clause
pub never_empty : (pairs : Live) (groups : List Group) (assumed : List ℤ) → rat_fault pairs [] groups assumed ≡ None → ⊥
never_empty pairs [] assumed good = let clash : Some NoConflict ≡ None = good in cc
never_empty pairs (g ∷ gs) assumed good = let clash : Some (RatOther g.id) ≡ None = good in cc
