-- A clause that forced a literal of its own or stands for its value, once unit propagation has come to its end: that literal has a unit clause.
use Rattle.std.proofs.Common.{◌≡◌, ℕ, ◌+◌, ◌-◌, Bool, true, false, ◌||◌, List, [], ◌∷◌, ◌++◌, length, Option, Some, None, refl, sym, ap, subst, ◌∙◌, inl, inr, arith}
use Rattle.std.specs.Prelude.{ℤ, Contains, IsSome, slice_index_or}
use Rattle.std.specs.Ordering.{int_eq}
use Rattle.std.specs.FinSet as set
use Rattle.std.proofs.lemmas.Bool.Decides.{Decides-int_eq}
use Rattle.std.proofs.lemmas.List.{take_all}
use Rattle.std.proofs.lemmas.Option.{same_Some}
use Rattle.lls_lit.specs.Literal.{variable_of}
use Rattle.lls_lit.specs.Formula.{Cnf}
use Rattle.lls_prooflog.specs.declared.step.Step.{Step}
use Rattle.lls_store.specs.Trail.{Entry, TrailState, has, Has, reason_of}
use Rattle.lls_store.specs.Clauses.{LiveClause, Literals, IsIn}
use Rattle.lls_store.specs.Store.{StoreState, AreLive}
use Rattle.lls_store.proofs.Live.{clause_numbered-contained}
use Rattle.lls_store.proofs.ReasonFound.{reason_found}
use Rattle.lls_store.proofs.Sets.{Contains-from_IsIn, IsIn-from_Contains}
use Rattle.lls_store.proofs.Values.{same_variable}
use Rattle.lls_analyse.proofs.LiveClauses.{numbered, some_of}
use Rattle.lls_analyse.proofs.Trails.{consistent_trail}
use Rattle.lls_lemmas.specs.Finding.{HasLiterals, IsNeeded}
use Rattle.lls_lemmas.specs.Lemmas.{HasClause, HoldsForGood}
use Rattle.lls_lemmas.specs.Units.{HasSettled, IsAtRest, IsUnit, unit_of}
use Rattle.lls_lemmas.proofs.Carried.{early}
use Rattle.lls_lemmas.proofs.Found.{in_log}
use Rattle.lls_lemmas.proofs.Tried.{true_within}
use Rattle.lls_lemmas.proofs.Without.{same_id}

or_right : (a : Bool) {b : Bool} → b ≡ true → (a || b) ≡ true
or_right true is = refl
or_right false is = is

has_between : (before after : List Entry) (e : Entry) → has (before ++ e ∷ after) e.lit ≡ true
has_between [] after e = ap (λ b. b || has after e.lit) ((Decides-int_eq e.lit e.lit).1 refl)
has_between (x ∷ xs) after e = or_right (int_eq x.lit e.lit) (has_between xs after e)

module _ (formula : Cnf) (steps : List Step) (store : StoreState) (trail : TrailState) (units : List (Option ℕ)) (done last : ℕ) (rest : IsAtRest formula steps store trail units done last) (live : AreLive store) (number : ℕ) (lits : List ℤ) (found : HasLiterals store.live number lits) where
  inside_of : (l : ℤ) → IsIn found.clause.lits l → Contains lits l
  inside_of l stands = Contains-from_IsIn lits l (ap (λ (ls : Literals). set.contains ls l) found.same ∙ stands)

  unit_clause : (v id : ℕ) → (one : IsUnit store.live trail.entries v id) → HasClause formula steps (one.lit ∷ [])
  unit_clause v id one =
      in_log formula steps store last (one.lit ∷ []) rest.holds live one.clause.number (record { clause = one.clause; is_live = clause_numbered-contained store.live one.clause live.numbers one.is_live; same = sym one.single })

  by_unit : (i : ℕ) → slice_index_or units i None ≡ Some found.clause.id → HoldsForGood formula steps lits
  by_unit i is =
      let one = rest.has_units.are_units i found.clause.id is in
      let same = same_id store.live one.clause found.clause live.ids one.is_live (numbered store.live number found.clause found.is_live).contains one.same_id in
      let stands : IsIn found.clause.lits one.lit = ap (λ (c : LiveClause). set.contains c.lits one.lit) (sym same) ∙ ap (λ (ls : Literals). set.contains ls one.lit) one.single ∙ IsIn-from_Contains (one.lit ∷ []) one.lit (0, omega arith, refl) in
      record { lit = one.lit; inside = inside_of one.lit stands; unit = unit_clause (i + 1) found.clause.id one }

  -- each true literal has a unit clause
  unit_of_true : HasSettled store trail done → (l : ℤ) → Has trail.entries l → IsIn found.clause.lits l → HoldsForGood formula steps lits
  unit_of_true settled l true_ stands =
      let es = trail.entries in
      let kept = rest.has_units.is_trail in
      let e = early es (length es) l (ap (λ (xs : List Entry). has xs l) (take_all (length es) es (omega arith)) ∙ true_) in
      let some = rest.has_units.complete e.place e.entry (omega (arith, e.before, settled.all_done)) e.at in
      let P : ℤ → Type 0 = λ m. IsSome (unit_of units m) in
      let id = some_of (unit_of units l) (subst P e.same some) in
      let least = (true_within trail l kept true_).0 in
      let index : variable_of l - 1 + 1 ≡ variable_of l = omega (arith, least) in
      let Q : ℕ → Type 0 = λ v. IsUnit store.live es v id.0 in
      let one = subst Q index (rest.has_units.are_units (variable_of l - 1) id.0 id.1) in
      let R : ℤ → Type 0 = λ m. IsIn found.clause.lits m in
      let here : one.lit ≡ l = elim (same_variable one.lit l one.of_variable) [
        | inl same ↦ same
        | inr turned ↦ absurd (consistent_trail trail kept l true_ (ap (has es) (sym turned) ∙ one.is_true))
      ] in
      record { lit = one.lit; inside = inside_of one.lit (subst R (sym here) stands); unit = unit_clause (variable_of l) id.0 one }

  by_reason : HasSettled store trail done → (v : ℕ) → reason_of trail.entries v ≡ Some number → HoldsForGood formula steps lits
  by_reason settled v is =
      let r = reason_found store.live trail v number rest.has_units.sound is in
      let l = r.entry.lit in
      let true_ : Has trail.entries l = ap (λ (es : List Entry). has es l) r.stands.splits ∙ has_between r.stands.before r.stands.after r.entry in
      let same = same_Some r.forced.clause found.clause (sym r.forced.is_live ∙ found.is_live) in
      unit_of_true settled l true_ (ap (λ (c : LiveClause). set.contains c.lits l) (sym same) ∙ r.forced.stands)

  -- so a clause that is needed has a literal that holds for good
  pub holds_for_good : HasSettled store trail done → IsNeeded store.live trail.entries units number → HoldsForGood formula steps lits
  holds_for_good settled needed =
      let same = same_Some needed.clause found.clause (sym needed.is_live ∙ found.is_live) in
      elim needed.why [
        | inl reason ↦ by_reason settled needed.variable reason
        | inr unit ↦ by_unit (needed.variable - 1) (unit ∙ ap (λ (c : LiveClause). Some c.id) same)
      ]
