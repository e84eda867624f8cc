-- A walk along hints by the clauses that they name alone, whatever their ids.
use Rattle.std.proofs.Common.{◌≡◌, ℕ, true, false, cond, List, [], ◌∷◌, ◌++◌, Option, Some, None, refl, sym, ap, ◌∙◌, subst}
use Rattle.std.specs.Prelude.{ℤ, pos, negsuc, is_none}
use Rattle.std.specs.List.{list_all}
use Rattle.std.specs.Option.{option_map}
use Rattle.std.specs.Ordering.{int_eq}
use Rattle.std.proofs.lemmas.Option.{same_Some}
use Rattle.lls_lit.specs.Literal.{negation}
use Rattle.lls_lit.specs.Formula.{Clause}
use Rattle.lls_prooflog.specs.declared.step_fault.StepFault.{StepFault}
use Rattle.lls_prooflog.specs.declared.step_fault.StepFault.TheVariants.{NotUnit}
use Rattle.lls_prooflog.specs.UnitWalk.{Live, find_clause, remaining, at_clause, at_hint, unit_walk}
use Rattle.lls_lrat.specs.Looked.{beginnings, looked_at}
use Rattle.lls_lrat.proofs.Looking.{find-map, find-none, first_beginning, closes_along, looked_at-stays}

abbrev pub EndsLeft : List ℤ → Type 0 → (ℤ → Type 0) → Type 0
EndsLeft [] Last Next = Last
EndsLeft (l ∷ ls) Last Next = (list_all (int_eq l) ls ≡ true) × Next l

-- unit propagation along these clauses leads to a conflict at the last of them, and not before
abbrev pub ClosesAtEnd : List ℤ → List Clause → Type 0
ClosesAtEnd assumed [] = ⊥
ClosesAtEnd assumed (c ∷ cs) = EndsLeft (remaining assumed c) (cs ≡ []) (λ l. ClosesAtEnd (assumed ++ negation l ∷ []) cs)

-- these positive hints find these clauses
abbrev pub Finds : Live → List ℤ → List Clause → Type 0
Finds live [] [] = Unit {0}
Finds live [] (c ∷ cs) = ⊥
Finds live (pos id ∷ hints) [] = ⊥
Finds live (pos id ∷ hints) (c ∷ cs) = (find_clause live id ≡ Some c) × Finds live hints cs
Finds live (negsuc n ∷ hints) cs = ⊥

finds_none : (live : Live) (hints : List ℤ) (cs : List Clause) → Finds live hints cs → cs ≡ [] → hints ≡ []
finds_none live [] cs found e = refl
finds_none live (pos id ∷ hints) [] found e = absurd found
finds_none live (pos id ∷ hints) (c ∷ cs) found e = absurd cc
finds_none live (negsuc n ∷ hints) cs found e = absurd found

closed_left : (hint : ℤ) (lits : List ℤ) (Last : Type 0) (Next : ℤ → Type 0) (goes_on : ℤ → Option StepFault) → ((l : ℤ) → Next l → goes_on l ≡ None) → EndsLeft lits Last Next → at_clause hint lits goes_on ≡ None
closed_left hint [] Last Next goes_on each ends = refl
closed_left hint (l ∷ ls) Last Next goes_on each ends = ap (λ b. cond b (goes_on l) (Some (NotUnit hint))) ends.0 ∙ each l ends.1

-- hints that find such clauses lead to a conflict
pub found_closes : (live : Live) (assumed hints : List ℤ) (cs : List Clause) → Finds live hints cs → ClosesAtEnd assumed cs → unit_walk live assumed hints ≡ None
found_closes live assumed [] [] found closes = absurd closes
found_closes live assumed [] (c ∷ cs) found closes = absurd found
found_closes live assumed (pos id ∷ hints) [] found closes = absurd found
found_closes live assumed (pos id ∷ hints) (c ∷ cs) found closes =
    ap (λ o. at_hint (pos id) assumed o (λ l. unit_walk live (assumed ++ negation l ∷ []) hints)) found.0
    ∙ closed_left (pos id) (remaining assumed c) (cs ≡ []) (λ l. ClosesAtEnd (assumed ++ negation l ∷ []) cs) (λ l. unit_walk live (assumed ++ negation l ∷ []) hints) (λ l h. found_closes live (assumed ++ negation l ∷ []) hints cs found.1 h) closes
found_closes live assumed (negsuc n ∷ hints) cs found closes = absurd found

looked_left : (hint : ℤ) (hints lits : List ℤ) (Last : Type 0) (Next : ℤ → Type 0) (one : ℤ → List ℤ → Option StepFault) → (Last → hints ≡ []) → ((l : ℤ) → Next l → closes_along (one l) hints ≡ Some hints) → EndsLeft lits Last Next
    → option_map (λ front. hint ∷ front) (closes_along (λ front. at_clause hint lits (λ l. one l front)) hints) ≡ Some (hint ∷ hints)
looked_left hint hints [] Last Next one last each ends =
    ap (option_map (λ front. hint ∷ front)) (first_beginning hints) ∙ ap (λ (hs : List ℤ). Some (hint ∷ hs)) (sym (last ends))
looked_left hint hints (l ∷ ls) Last Next one last each ends =
    ap (λ b. option_map (λ front. hint ∷ front) (closes_along (λ front. cond b (one l front) (Some (NotUnit hint))) hints)) ends.0 ∙ ap (option_map (λ front. hint ∷ front)) (each l ends.1)

-- and all of them are looked at
pub found_looked : (live : Live) (assumed hints : List ℤ) (cs : List Clause) → Finds live hints cs → ClosesAtEnd assumed cs → looked_at live assumed hints ≡ Some hints
found_looked live assumed [] [] found closes = absurd closes
found_looked live assumed [] (c ∷ cs) found closes = absurd found
found_looked live assumed (pos id ∷ hints) [] found closes = absurd found
found_looked live assumed (pos id ∷ hints) (c ∷ cs) found closes =
    find-map (λ front. is_none (unit_walk live assumed front)) (λ (front : List ℤ). pos id ∷ front) (beginnings hints)
    ∙ ap (λ o. option_map (λ front. pos id ∷ front) (closes_along (λ front. at_hint (pos id) assumed o (λ l. unit_walk live (assumed ++ negation l ∷ []) front)) hints)) found.0
    ∙ looked_left (pos id) hints (remaining assumed c) (cs ≡ []) (λ l. ClosesAtEnd (assumed ++ negation l ∷ []) cs) (λ l front. unit_walk live (assumed ++ negation l ∷ []) front) (finds_none live hints cs found.1) (λ l h. found_looked live (assumed ++ negation l ∷ []) hints cs found.1 h) closes
found_looked live assumed (negsuc n ∷ hints) cs found closes = absurd found

abbrev no_clauses : List Clause
no_clauses = []

-- clauses that hints find, along which unit propagation leads to a conflict at the last
pub record Founds (live : Live) (assumed front : List ℤ) : Type 0 where
  pub clauses : List Clause
  pub found : Finds live front clauses
  pub closes : ClosesAtEnd assumed clauses

module _ (live : Live) (assumed : List ℤ) (id : ℕ) (hints front : List ℤ) (clause : Clause) (is : find_clause live id ≡ Some clause) (each : (l : ℤ) (behind : List ℤ) → looked_at live (assumed ++ negation l ∷ []) hints ≡ Some behind → Founds live (assumed ++ negation l ∷ []) behind) where
  founds_next : (l : ℤ) (ls : List ℤ) → remaining assumed clause ≡ l ∷ ls → list_all (int_eq l) ls ≡ true → (o : Option (List ℤ)) → looked_at live (assumed ++ negation l ∷ []) hints ≡ o → option_map (λ f. pos id ∷ f) o ≡ Some front → Founds live assumed front
  founds_next l ls rest same None looked e = absurd cc
  founds_next l ls rest same (Some behind) looked e =
      let more = each l behind looked in
      let ends : EndsLeft (l ∷ ls) (more.clauses ≡ []) (λ m. ClosesAtEnd (assumed ++ negation m ∷ []) more.clauses) = (same, more.closes) in
      subst (Founds live assumed) (same_Some (pos id ∷ behind) front e) (record {
        clauses = clause ∷ more.clauses;
        found = (is, more.found);
        closes = subst (λ lits. EndsLeft lits (more.clauses ≡ []) (λ m. ClosesAtEnd (assumed ++ negation m ∷ []) more.clauses)) (sym rest) ends;
      })

  founds_left : (lits : List ℤ) → remaining assumed clause ≡ lits → option_map (λ f. pos id ∷ f) (closes_along (λ f. at_clause (pos id) lits (λ l. unit_walk live (assumed ++ negation l ∷ []) f)) hints) ≡ Some front → Founds live assumed front
  founds_left [] rest e =
      let single : Some (pos id ∷ []) ≡ Some front = sym (ap (option_map (λ f. pos id ∷ f)) (first_beginning hints)) ∙ e in
      subst (Founds live assumed) (same_Some (pos id ∷ []) front single) (record {
        clauses = clause ∷ [];
        found = (is, tt);
        closes = subst (λ lits. EndsLeft lits (no_clauses ≡ no_clauses) (λ m. ClosesAtEnd (assumed ++ negation m ∷ []) no_clauses)) (sym rest) refl;
      })
  founds_left (l ∷ ls) rest e =
      elim (list_all (int_eq l) ls) as (λ b. list_all (int_eq l) ls ≡ b → option_map (λ f. pos id ∷ f) (closes_along (λ f. cond b (unit_walk live (assumed ++ negation l ∷ []) f) (Some (NotUnit (pos id)))) hints) ≡ Some front → Founds live assumed front) [
        | true ↦ λ same h. founds_next l ls rest same (looked_at live (assumed ++ negation l ∷ []) hints) refl h
        | false ↦ λ _ h. let clash : None ≡ Some front = sym (ap (option_map (λ f. pos id ∷ f)) (find-none (beginnings hints))) ∙ h in absurd cc
      ] refl e

module _ (live : Live) (assumed : List ℤ) (id : ℕ) (hints front : List ℤ) (each : (l : ℤ) (behind : List ℤ) → looked_at live (assumed ++ negation l ∷ []) hints ≡ Some behind → Founds live (assumed ++ negation l ∷ []) behind) where
  founds_at : (o : Option Clause) → find_clause live id ≡ o → option_map (λ f. pos id ∷ f) (closes_along (λ f. at_hint (pos id) assumed o (λ l. unit_walk live (assumed ++ negation l ∷ []) f)) hints) ≡ Some front → Founds live assumed front
  founds_at None is e = let clash : None ≡ Some front = sym (ap (option_map (λ f. pos id ∷ f)) (find-none (beginnings hints))) ∙ e in absurd cc
  founds_at (Some clause) is e = founds_left live assumed id hints front clause is each (remaining assumed clause) refl e

-- the hints that are looked at find such clauses
pub looked_finds : (live : Live) (assumed hints front : List ℤ) → looked_at live assumed hints ≡ Some front → Founds live assumed front
looked_finds live assumed [] front e = absurd cc
looked_finds live assumed (negsuc n ∷ hints) front e =
    let clash : None ≡ Some front = sym (looked_at-stays live assumed 0 (negsuc n ∷ hints) 0 assumed refl) ∙ e in absurd cc
looked_finds live assumed (pos id ∷ hints) front e =
    founds_at live assumed id hints front (λ l behind h. looked_finds live (assumed ++ negation l ∷ []) hints behind h) (find_clause live id) refl
    (sym (find-map (λ f. is_none (unit_walk live assumed f)) (λ (f : List ℤ). pos id ∷ f) (beginnings hints)) ∙ e)
