-- Where a clause that is good by its pivot isn't satisfied, the bits with the pivot made true satisfy it and the live clauses.
use Rattle.std.proofs.Common.{◌≡◌, ◌≢◌, ℕ, zero, suc, ◌+◌, Bool, true, false, not, ◌&&◌, ◌||◌, cond, List, [], ◌∷◌, ◌++◌, Option, Some, None, refl, sym, ap, ◌∙◌, inl, inr, arith, add-one}
use Rattle.std.specs.Prelude.{ℤ, pos, negsuc, filter, find, ◌⊎◌, ◌==◌, nat_le}
use Rattle.std.specs.List.{list_all, list_any}
use Rattle.std.specs.Option.{option_map, option_or}
use Rattle.std.specs.Ordering.{int_eq}
use Rattle.std.proofs.lemmas.Bool.{and_parts, and_from, or_parts, not-true}
use Rattle.std.proofs.lemmas.Bool.Decides.{eqb_tells, Decides-int_eq}
use Rattle.std.proofs.lemmas.List.Folds.{list_all-append}
use Rattle.lls_lit.specs.Literal.{variable_of, negation}
use Rattle.lls_lit.specs.Formula.{Clause, is_true, value_at, satisfies_clause, satisfies}
use Rattle.lls_prooflog.specs.declared.step_fault.StepFault.{StepFault}
use Rattle.lls_prooflog.specs.declared.step_fault.StepFault.TheVariants.{NoConflict, RatMissing, RatOther}
use Rattle.lls_prooflog.specs.UnitWalk.{Live, find_clause, is_among, unit_walk}
use Rattle.lls_prooflog.specs.Rat.{Group, others, has_true, resolvent_fault, other_fault, group_fault, groups_fault, lacks_group, missing_fault, pivot_fault, rat_fault}
use Rattle.lls_prooflog.specs.Steps.{clauses_of, are_literals, AreProper}
use Rattle.lls_prooflog.proofs.Walks.{are_false, among_false, walk_refutes}
use Rattle.lls_prooflog.proofs.Proper.{EachFound, each_found}

-- a list of bits with one of them put
put_value : List Bool → ℕ → Bool → List Bool
put_value [] zero b = b ∷ []
put_value [] (suc n) b = false ∷ put_value [] n b
put_value (v ∷ vs) zero b = b ∷ vs
put_value (v ∷ vs) (suc n) b = v ∷ put_value vs n b

value_at-there : (vs : List Bool) (n : ℕ) (b : Bool) → value_at (put_value vs n b) n ≡ b
unfolding put_value
value_at-there [] zero b = refl
value_at-there [] (suc n) b = value_at-there [] n b
value_at-there (v ∷ vs) zero b = refl
value_at-there (v ∷ vs) (suc n) b = value_at-there vs n b

value_at-elsewhere : (vs : List Bool) (n m : ℕ) (b : Bool) → n ≢ m → value_at (put_value vs n b) m ≡ value_at vs m
unfolding put_value
value_at-elsewhere [] zero zero b other = absurd (other refl)
value_at-elsewhere [] zero (suc m) b other = refl
value_at-elsewhere [] (suc n) zero b other = refl
value_at-elsewhere [] (suc n) (suc m) b other = value_at-elsewhere [] n m b (λ same. other (ap suc same))
value_at-elsewhere (v ∷ vs) zero zero b other = absurd (other refl)
value_at-elsewhere (v ∷ vs) zero (suc m) b other = refl
value_at-elsewhere (v ∷ vs) (suc n) zero b other = refl
value_at-elsewhere (v ∷ vs) (suc n) (suc m) b other = value_at-elsewhere vs n m b (λ same. other (ap suc same))

-- the bits with a literal made true
made_true : List Bool → ℤ → List Bool
made_true values (pos zero) = values
made_true values (pos (suc n)) = put_value values n true
made_true values (negsuc n) = put_value values n false

pivot_true : (values : List Bool) (l : ℤ) → nat_le 1 (variable_of l) ≡ true → is_true (made_true values l) l ≡ true
unfolding made_true
pivot_true values (pos zero) e = absurd cc
pivot_true values (pos (suc n)) e = value_at-there values n true
pivot_true values (negsuc n) e = ap not (value_at-there values n false)

unlike : {G : Type 0} → true ≡ false → G
unlike e = absurd cc

same_or_other : (n m : ℕ) → (n ≡ m) ⊎ (n ≢ m)
same_or_other n m = elim (eqb_tells n m) [ inl h ↦ inl h.1 | inr h ↦ inr h.1 ]

-- no other literal is made false
stays_true : (values : List Bool) (pivot l : ℤ) → int_eq (negation pivot) l ≡ false → is_true values l ≡ true → is_true (made_true values pivot) l ≡ true
unfolding made_true
stays_true values (pos zero) l other is = is
stays_true values (pos (suc n)) (pos zero) other is = is
stays_true values (pos (suc n)) (pos (suc m)) other is = elim (same_or_other n m) [
  | inl same ↦ ap (value_at (put_value values n true)) (sym same) ∙ value_at-there values n true
  | inr apart ↦ value_at-elsewhere values n m true apart ∙ is
]
stays_true values (pos (suc n)) (negsuc m) other is =
    let apart : n ≢ m = λ same. unlike (sym ((Decides-int_eq (negsuc n) (negsuc m)).1 (ap negsuc same)) ∙ other) in
    ap not (value_at-elsewhere values n m true apart) ∙ is
stays_true values (negsuc n) (pos zero) other is = is
stays_true values (negsuc n) (pos (suc m)) other is =
    let apart : n ≢ m = λ same. unlike (sym ((Decides-int_eq (pos (n + 1)) (pos (suc m))).1 (ap (λ k. pos k) (let e : n + 1 ≡ suc m = ap (λ k. k + 1) same ∙ (let f : m + 1 ≡ suc m = omega arith in f) in e))) ∙ other) in
    value_at-elsewhere values n m false apart ∙ is
stays_true values (negsuc n) (negsuc m) other is = elim (same_or_other n m) [
  | inl same ↦ ap (λ k. not (value_at (put_value values n false) k)) (sym same) ∙ ap not (value_at-there values n false)
  | inr apart ↦ ap not (value_at-elsewhere values n m false apart) ∙ is
]

-- where the negation of a literal is false, the literal is true
negated_false : (values : List Bool) (l : ℤ) → nat_le 1 (variable_of l) ≡ true → is_true values (negation l) ≡ false → is_true values l ≡ true
negated_false values (pos zero) e h = absurd cc
negated_false values (pos (suc n)) e h = flip (value_at values n) h where
  flip : (b : Bool) → not b ≡ false → b ≡ true
  flip true k = refl
  flip false k = absurd cc
negated_false values (negsuc n) e h = ap not (let f : is_true values (pos (n + 1)) ≡ is_true values (pos (suc n)) = rw add-one refl in sym f ∙ h)

-- of false literals none has a false negation
has_true-false : (values : List Bool) (assumed lits : List ℤ) → are_false values assumed ≡ true → are_false values lits ≡ true → are_literals lits ≡ true → has_true assumed lits ≡ false
has_true-false values assumed [] all none ok = refl
has_true-false values assumed (l ∷ ls) all none ok =
    let here = and_parts (not (is_true values l)) (are_false values ls) none in
    let literal = and_parts (nat_le 1 (variable_of l)) (are_literals ls) ok in
    let rest = has_true-false values assumed ls all here.1 literal.1 in
    elim (is_among assumed (negation l)) as (λ b. is_among assumed (negation l) ≡ b → (b || has_true assumed ls) ≡ false) [
      | true ↦ λ among. unlike (sym (negated_false values l literal.0 (among_false values assumed (negation l) all among)) ∙ not-true (is_true values l) here.0)
      | false ↦ λ _. rest
    ] refl

are_literals-kept : (keep : ℤ → Bool) (lits : List ℤ) → are_literals lits ≡ true → are_literals (filter keep lits) ≡ true
are_literals-kept keep [] ok = refl
are_literals-kept keep (l ∷ ls) ok =
    let parts = and_parts (nat_le 1 (variable_of l)) (are_literals ls) ok in
    let rest = are_literals-kept keep ls parts.1 in
    elim (keep l) as (λ b. are_literals (cond b (l ∷ filter keep ls) (filter keep ls)) ≡ true) [
      | true ↦ and_from (nat_le 1 (variable_of l)) (are_literals (filter keep ls)) parts.0 rest
      | false ↦ rest
    ]

both_none : (a b : Option StepFault) → option_or a b ≡ None → (a ≡ None) × (b ≡ None)
both_none None b e = (refl, e)
both_none (Some fault) b e = absurd cc

module _ (values : List Bool) (live : Live) (pivot : ℤ) (assumed : List ℤ) (all : satisfies values (clauses_of live) ≡ true) (none : are_false values assumed ≡ true) where
  abbrev turned : List Bool
  turned = made_true values pivot

  -- what isn't true behind the change wasn't before
  was_false : (l : ℤ) → int_eq (negation pivot) l ≡ false → is_true turned l ≡ false → not (is_true values l) ≡ true
  was_false l other is = elim (is_true values l) as (λ b. is_true values l ≡ b → not b ≡ true) [
    | true ↦ λ was. unlike (sym (stays_true values pivot l other was) ∙ is)
    | false ↦ λ _. refl
  ] refl

  -- of a clause that isn't satisfied then, all literals but the pivot's negation were false
  others_false : (clause : Clause) → satisfies_clause turned clause ≡ false → are_false values (others (negation pivot) clause) ≡ true
  others_false [] e = refl
  others_false (l ∷ ls) e =
      let parts = or_parts (is_true turned l) (satisfies_clause turned ls) e in
      let rest = others_false ls parts.1 in
      elim (int_eq (negation pivot) l) as (λ b. int_eq (negation pivot) l ≡ b → are_false values (cond (not b) (l ∷ others (negation pivot) ls) (others (negation pivot) ls)) ≡ true) [
        | true ↦ λ _. rest
        | false ↦ λ other. and_from (not (is_true values l)) (are_false values (others (negation pivot) ls)) (was_false l other parts.0) rest
      ] refl

  -- a clause without the pivot's negation stays satisfied
  without_negation : (clause : Clause) → is_among clause (negation pivot) ≡ false → satisfies_clause values clause ≡ true → satisfies_clause turned clause ≡ true
  without_negation [] e one = absurd cc
  without_negation (l ∷ ls) e one =
      let parts = or_parts (int_eq (negation pivot) l) (is_among ls (negation pivot)) e in
      elim (is_true values l) as (λ b. is_true values l ≡ b → (b || satisfies_clause values ls) ≡ true → (is_true turned l || satisfies_clause turned ls) ≡ true) [
        | true ↦ λ is _. rw (stays_true values pivot l parts.0 is) refl
        | false ↦ λ _ h. rw (without_negation ls parts.1 h) (or_true (is_true turned l))
      ] refl one
    where
      or_true : (b : Bool) → (b || true) ≡ true
      or_true true = refl
      or_true false = refl

  -- a clause whose resolvent has no fault is satisfied
  resolved : (clause : Clause) (hints : List ℤ) → are_literals clause ≡ true → resolvent_fault live assumed (others (negation pivot) clause) hints ≡ None → satisfies_clause turned clause ≡ true
  resolved clause hints ok good = elim (satisfies_clause turned clause) as (λ b. satisfies_clause turned clause ≡ b → b ≡ true) [
    | true ↦ λ _. refl
    | false ↦ λ is.
        let rest : List ℤ = others (negation pivot) clause in
        let were = others_false clause is in
        let no_true = has_true-false values assumed rest none were (are_literals-kept _ clause ok) in
        let walk : unit_walk live (assumed ++ rest) hints ≡ None = rw no_true at good in
        let false_both : are_false values (assumed ++ rest) ≡ true = rw (list_all-append (λ l. not (is_true values l)) assumed rest, none, were) refl in
        absurd (walk_refutes values live (assumed ++ rest) hints all false_both walk)
  ] refl

  -- the clause of a group that has no fault is satisfied
  in_group : (groups : List Group) (id : ℕ) (clause : Clause) → find_clause live id ≡ Some clause → are_literals clause ≡ true → list_any (λ group. group.id == id) groups ≡ true → groups_fault live pivot assumed groups ≡ None → satisfies_clause turned clause ≡ true
  in_group [] id clause found ok some good = absurd cc
  in_group (group ∷ groups) id clause found ok some good =
      let both = both_none (group_fault live pivot assumed group) (groups_fault live pivot assumed groups) good in
      elim (eqb_tells group.id id) [
        | inl is ↦
            let at : other_fault live pivot assumed group (Some clause) ≡ None = ap (other_fault live pivot assumed group) (sym (ap (find_clause live) is.1 ∙ found)) ∙ both.0 in
            of_resolvent (is_among clause (negation pivot)) at
        | inr other ↦ in_group groups id clause found ok (rw other.0 at some) both.1
      ]
    where
      of_resolvent : (b : Bool) → cond b (resolvent_fault live assumed (others (negation pivot) clause) group.hints) (Some (RatOther group.id)) ≡ None → satisfies_clause turned clause ≡ true
      of_resolvent true h = resolved clause group.hints ok h
      of_resolvent false h = absurd cc

  -- where no clause that holds the pivot's negation lacks a group, all stay satisfied
  all_grouped : (groups : List Group) (rest : Live) → groups_fault live pivot assumed groups ≡ None → EachFound live rest → list_all are_literals (clauses_of rest) ≡ true → satisfies values (clauses_of rest) ≡ true → find (lacks_group (negation pivot) groups) rest ≡ None → satisfies turned (clauses_of rest) ≡ true
  all_grouped groups [] good found ok one missing = refl
  all_grouped groups (pair ∷ rest) good found ok one missing =
      let literal = and_parts (are_literals pair.1) (list_all are_literals (clauses_of rest)) ok in
      let satisfied = and_parts (satisfies_clause values pair.1) (satisfies values (clauses_of rest)) one in
      by_lack (lacks_group (negation pivot) groups pair) refl literal.0 satisfied.0 missing (all_grouped groups rest good found.1 literal.1 satisfied.1)
    where
      grouped : (holds : Bool) → is_among pair.1 (negation pivot) ≡ holds → (holds && not (list_any (λ group. group.id == pair.0) groups)) ≡ false → are_literals pair.1 ≡ true → satisfies_clause values pair.1 ≡ true → satisfies_clause turned pair.1 ≡ true
      grouped true is lack literal was = elim (list_any (λ group. group.id == pair.0) groups) as (λ b. list_any (λ group. group.id == pair.0) groups ≡ b → not b ≡ false → satisfies_clause turned pair.1 ≡ true) [
        | true ↦ λ some _. in_group groups pair.0 pair.1 found.0 literal some good
        | false ↦ λ _ h. unlike h
      ] refl lack
      grouped false is lack literal was = without_negation pair.1 is was

      by_lack : (b : Bool) → lacks_group (negation pivot) groups pair ≡ b → are_literals pair.1 ≡ true → satisfies_clause values pair.1 ≡ true → cond b (Some pair) (find (lacks_group (negation pivot) groups) rest) ≡ None
          → (find (lacks_group (negation pivot) groups) rest ≡ None → satisfies turned (clauses_of rest) ≡ true) → (satisfies_clause turned pair.1 && satisfies turned (clauses_of rest)) ≡ true
      by_lack true is literal was h others = absurd cc
      by_lack false is literal was h others =
          and_from (satisfies_clause turned pair.1) (satisfies turned (clauses_of rest)) (grouped (is_among pair.1 (negation pivot)) refl is literal was) (others h)

  -- and so where none holds it
  none_holds : (rest : Live) → satisfies values (clauses_of rest) ≡ true → list_any (λ pair. is_among pair.1 (negation pivot)) rest ≡ false → satisfies turned (clauses_of rest) ≡ true
  none_holds [] one holds = refl
  none_holds (pair ∷ rest) one holds =
      let satisfied = and_parts (satisfies_clause values pair.1) (satisfies values (clauses_of rest)) one in
      let parts = or_parts (is_among pair.1 (negation pivot)) (list_any (λ p. is_among p.1 (negation pivot)) rest) holds in
      and_from (satisfies_clause turned pair.1) (satisfies turned (clauses_of rest)) (without_negation pair.1 parts.0 satisfied.0) (none_holds rest satisfied.1 parts.1)

-- other bits, which satisfy the live clauses and the added one
pub record Turns (live : Live) (lits : Clause) : Type 0 where
  pub bits : List Bool
  pub live_satisfied : satisfies bits (clauses_of live) ≡ true
  pub satisfied : satisfies_clause bits lits ≡ true

pub turns : (values : List Bool) (live : Live) (lits : Clause) (groups : List Group) (assumed : List ℤ) → AreProper live → are_literals lits ≡ true → satisfies values (clauses_of live) ≡ true → are_false values assumed ≡ true → rat_fault live lits groups assumed ≡ None → Turns live lits
turns values live [] [] assumed proper ok all none good = absurd cc
turns values live [] (group ∷ groups) assumed proper ok all none good = absurd cc
turns values live (pivot ∷ lits) groups assumed proper ok all none good =
    let literal = and_parts (nat_le 1 (variable_of pivot)) (are_literals lits) ok in
    record {
      bits = made_true values pivot;
      live_satisfied = by_groups groups good;
      satisfied = rw (pivot_true values pivot literal.0) refl;
    }
  where
    missing : (o : Option (ℕ × Clause)) → option_map (λ pair. RatMissing pair.0) o ≡ None → o ≡ None
    missing None e = refl
    missing (Some pair) e = absurd cc

    by_holds : (b : Bool) → list_any (λ pair. is_among pair.1 (negation pivot)) live ≡ b → cond b (Some NoConflict) None ≡ None → satisfies (made_true values pivot) (clauses_of live) ≡ true
    by_holds true is h = absurd cc
    by_holds false is h = none_holds values live pivot assumed all none live all is

    by_groups : (gs : List Group) → pivot_fault live pivot assumed gs ≡ None → satisfies (made_true values pivot) (clauses_of live) ≡ true
    by_groups [] h = by_holds (list_any (λ pair. is_among pair.1 (negation pivot)) live) refl h
    by_groups (g ∷ gs) h =
        let both = both_none (groups_fault live pivot assumed (g ∷ gs)) (missing_fault live (negation pivot) (g ∷ gs)) h in
        all_grouped values live pivot assumed all none (g ∷ gs) live both.0 (each_found live proper.apart) proper.literals all (missing (find (lacks_group (negation pivot) (g ∷ gs)) live) both.1)
