-- The step of a learnt clause, and that of the empty clause.
use Rattle.std.proofs.Common.{◌≡◌, ℕ, ◌-◌, ◌<◌, ◌≤◌, true, List, [], ◌∷◌, ◌++◌, map, Option, Some, refl, sym, ap, subst, ◌∙◌, inl, inr, arith}
use Rattle.std.specs.Prelude.{ℤ, pos, Contains, unwrap_or, option_map}
use Rattle.std.specs.Cmp.Derive.{both_true}
use Rattle.std.specs.FinSet as set
use Rattle.std.proofs.lemmas.Bool.Decides.{nat_tests}
use Rattle.lls_lit.specs.Literal.{variable_of}
use Rattle.lls_prooflog.specs.declared.step.Step.{Step}
use Rattle.lls_prooflog.specs.declared.step.Step.TheVariants.{Add}
use Rattle.lls_prooflog.specs.Range.{is_id, IsInRange}
use Rattle.lls_store.specs.Trail.{TrailState, HasNegated, IsTrail}
use Rattle.lls_store.specs.Clauses.{LiveClause, IsIn}
use Rattle.lls_store.specs.Sound.{IsSound}
use Rattle.lls_store.specs.Store.{StoreState, AreLive, IsConflict, IsNewId, sealed}
use Rattle.lls_analyse.specs.Learnt.{IsBack, Learns, Refutes}
use Rattle.lls_analyse.specs.Spelled.{IsGoodOver}
use Rattle.lls_analyse.specs.Visited.{VisitedState, AreVisited, is_held, status}
use Rattle.lls_analyse.specs.Marked.{IsAnalysed}
use Rattle.lls_analyse.specs.Hinted.{hint_at, hint_of, AreHints}
use Rattle.lls_analyse.specs.Gathered.{back_of}
use Rattle.lls_analyse.specs.Analysis.{IsAnalysis, IsRefutation}
use Rattle.lls_analyse.proofs.Trails.{consistent_trail, false_within}
use Rattle.lls_analyse.proofs.Opens.{counts_open}
use Rattle.lls_analyse.proofs.Resolving.{held_cases, same_found}
use Rattle.lls_analyse.proofs.FreshLearnt.{fresh_over}
use Rattle.lls_analyse.proofs.Walk.{IsGoodOver-places}
use Rattle.lls_analyse.proofs.Learning.{chain}
use Rattle.lls_analyse.proofs.Learned.{member, visited_member, level_known, level_most, held_member, false_member, once_clause, within_clause, one_current, is_back}

-- an addition is good where the hints are those of what was visited, and the literals those that are held
pub good_step : (store : StoreState) (trail : TrailState) (number id : ℕ) (s : VisitedState) (lits hints : List ℤ) → IsTrail trail → AreLive store → IsSound store.live trail → IsConflict store.live trail number → IsNewId store.live id
    → AreVisited s → (a : IsAnalysed store.live trail number s) → AreHints store.live trail.entries s number hints → ((l : ℤ) → Contains s.lits l → is_held (status s.seen l) ≡ true → Contains lits l) → IsGoodOver store.live id lits hints
good_step store trail number id s lits hints kept live sound conflict new visited a hinted held =
    let c = a.conflict in
    let false_ : (l : ℤ) → IsIn c.lits l → HasNegated trail.entries l = λ l inside. conflict.all_false l (ap (λ (x : LiveClause). set.contains x.lits l) (same_found conflict.clause c conflict.is_live a.is_live) ∙ inside) in
    let linked = chain store.live trail c s lits hinted.places kept sound visited a.marked a.explained false_ held hinted.are_places in
    let good = IsGoodOver-places store trail number id c lits hinted.places live sound (consistent_trail trail kept) new a.is_live linked (λ i j d lt within. hinted.ascending i j d (omega (arith, lt)) within) in
    let last : hint_of store.live number ≡ pos c.id = ap (λ (o : Option LiveClause). pos (unwrap_or (option_map (λ (x : LiveClause). x.id) o) 0)) a.is_live in
    let same : hints ≡ map (hint_at store.live trail.entries) hinted.places ++ pos c.id ∷ [] = hinted.gathered ∙ ap (λ h. map (hint_at store.live trail.entries) hinted.places ++ h ∷ []) last in
    let P : List ℤ → Type 0 = λ hs. IsGoodOver store.live id lits hs in
    subst P (sym same) good

pub step_in_range : (live : List LiveClause) (trail : TrailState) (number id : ℕ) (s : VisitedState) (lits hints : List ℤ) → IsNewId live id → AreHints live trail.entries s number hints → IsInRange (Add id lits hints)
step_in_range live trail number id s lits hints new hinted = both_true (id_within id new.least new.most) hinted.in_range where
  id_within : (n : ℕ) → 1 ≤ n → n ≤ 9223372036854775807 → is_id n ≡ true
  id_within n low high = grind (arith, nat_tests)

pub none_held : (trail : TrailState) (s : VisitedState) (live : List LiveClause) (number : ℕ) (hints : List ℤ) → IsTrail trail → trail.current ≡ 0 → (r : IsRefutation live trail number hints) → (l : ℤ) → Contains (r.seen).lits l → is_held (status (r.seen).seen l) ≡ true → Contains [] l
none_held trail s live number hints kept zero_ r l inside held =
    let marked = r.resolved.analysed.marked in
    let false_ = marked.all_false l inside in
    let within = false_within trail l kept false_ in
    elim (held_cases (status (r.seen).seen l) held) [
      | inl is ↦ absurd (omega (arith, r.resolved.opens, counts_open (r.seen).seen (variable_of l - 1) (omega (arith, within.0, within.1, r.visited.each, marked.same_vars)) is))
      | inr is ↦
          let known = level_known trail.entries l false_ in
          let at_zero = level_most trail l _ kept known in
          absurd (marked.lower l inside is (known ∙ ap Some (omega (arith, at_zero, zero_))))
    ]

pub refutes : (store : StoreState) (trail : TrailState) (number id : ℕ) (hints : List ℤ) (before after : List Step) → IsTrail trail → AreLive store → IsSound store.live trail → IsConflict store.live trail number → IsNewId store.live id → trail.current ≡ 0
    → IsRefutation store.live trail number hints → after ≡ before ++ Add id [] hints ∷ [] → Refutes store.live id before after
refutes store trail number id hints before after kept live sound conflict new zero_ r is = record {
  hints = hints;
  step = record {
    logged = is;
    good = good_step store trail number id r.seen [] hints kept live sound conflict new r.visited r.resolved.analysed r.hinted (none_held trail r.seen store.live number hints kept zero_ r);
    positive = r.hinted.positive;
  };
}

pub learns : (store new : StoreState) (trail : TrailState) (number id back : ℕ) (clause hints : List ℤ) (before after : List Step) → IsTrail trail → AreLive store → IsSound store.live trail → IsConflict store.live trail number → IsNewId store.live id → 0 < trail.current
    → IsAnalysis store.live trail number clause hints → back ≡ back_of trail.entries clause → after ≡ before ++ Add id clause hints ∷ [] → new ≡ sealed (record store { tail = clause }) id → Learns store new trail number id back before after
learns store new trail number id back clause hints before after kept live sound conflict fresh_id above a back_is logged stored =
    let r = a.resolved in
    let marked = r.analysed.marked in
    let part = r.part refl above in
    let P : ℕ → Type 0 = λ n. IsBack trail clause n in
    record {
      from_clause = record { clause = r.analysed.conflict; is_live = r.analysed.is_live; all_false = λ l inside. conflict.all_false l (ap (λ (x : LiveClause). set.contains x.lits l) (same_found conflict.clause r.analysed.conflict conflict.is_live r.analysed.is_live) ∙ inside) };
      lits = clause;
      hints = hints;
      clause = record {
        part_of_uip = record {
          uip = part.uip;
          is_uip = part.is_uip;
          among = λ l inside. (let at = visited_member trail a.seen clause kept a.visited marked r.opens a.gathered l inside in part.among l at.0 at.1);
        };
        all_false = false_member trail a.seen clause kept a.visited marked r.opens a.gathered;
        one_current = one_current trail a.seen clause kept a.visited marked r.opens a.gathered;
        once = once_clause trail a.seen clause kept a.visited marked r.opens a.gathered;
        within = within_clause trail a.seen clause kept a.visited marked r.opens a.gathered;
        is_back = subst P (sym back_is) (is_back trail a.seen clause kept a.visited marked r.opens a.gathered);
      };
      fresh = λ closed. fresh_over store.live trail clause (a.gathered).first kept closed
          (held_member trail a.seen clause kept a.visited marked r.opens a.gathered (a.gathered).first (a.gathered).contains (ap is_held (a.gathered).is_open))
          (marked.current (a.gathered).first (a.gathered).contains (a.gathered).is_open)
          (false_member trail a.seen clause kept a.visited marked r.opens a.gathered)
          (λ m inside. elim (member trail a.seen clause kept a.visited marked r.opens a.gathered m inside) [ inl t ↦ inl t | inr t ↦ inr (marked.lower m t.0 t.1) ]);
      step = record {
        logged = logged;
        good = good_step store trail number id a.seen clause hints kept live sound conflict fresh_id a.visited r.analysed a.hinted (held_member trail a.seen clause kept a.visited marked r.opens a.gathered);
        positive = a.hinted.positive;
      };
      store = stored;
    }
