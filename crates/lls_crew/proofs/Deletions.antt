-- What a deletion, or none, makes of a log and of what is live behind it, and of the ids that searchers hold.
use Rattle.std.proofs.Common.{◌≡◌, ℕ, ◌+◌, ◌<◌, ◌≤◌, Bool, true, false, not, cond, List, [], ◌∷◌, ◌++◌, length, length-set, get_or, set, map, take, drop, Option, refl, sym, ap, subst, ◌∙◌, arith}
use Rattle.std.specs.Prelude.{All, IfSome, filter, fold, slice_get, ◌==◌}
use Rattle.std.specs.List.{list_any}
use Rattle.std.proofs.lemmas.List.{append-nil, get_or-map, get_or-set_same, length-map, length-take, same_lists}
use Rattle.std.proofs.lemmas.Option.{slice_get_read}
use Rattle.lls_lit.specs.Formula.{Clause, Cnf}
use Rattle.lls_prooflog.specs.UnitWalk.{Live}
use Rattle.lls_prooflog.specs.Spent.{EachStep, IsLateDeletion, LogState, log_after, log_start, live_after}
use Rattle.lls_prooflog.specs.declared.step.Step.{Step}
use Rattle.lls_prooflog.specs.declared.step.Step.TheVariants.{Del}
use Rattle.lls_store.specs.Store.{StoreState, AreLive}
use Rattle.lls_store.specs.Trail.{Entry}
use Rattle.lls_solver.specs.Deletion.{HasReasons, KeepsMarks, MayLose, ids_left, ids_marked, is_marked, numbers_left}
use Rattle.lls_solver.specs.Searching.{SearcherState, additions, ids_of, HoldsClauses, IsGoodLog}
use Rattle.lls_solver.specs.Sharing.{AreLiveSteps, IsBehind}
use Rattle.lls_solver.proofs.Forgotten.{additions-deleted, good_forgotten, learnt_counted, spells_length}
use Rattle.lls_solver.proofs.ForgottenTogether.{behind_forgotten, held_forgotten, live_forgotten}
use Rattle.lls_solver.proofs.Logs.{live_after-push}
use Rattle.lls_solver.proofs.Marks.{no_reason_goes}
use Rattle.lls_crew.specs.Forgetting.{Forgets, HaveForgotten, IsChosen, deletion_of, ids_in}

pub additions-deletion_of : (steps : List Step) (deleted : List ℕ) → additions (steps ++ deletion_of deleted) ≡ additions steps
additions-deletion_of steps [] = ap additions (append-nil steps)
additions-deletion_of steps (id ∷ ids) = additions-deleted steps (id ∷ ids)

-- where nothing is deleted, all is left
pub ids_left-nil : (ids : List ℕ) → ids_left [] ids ≡ ids
ids_left-nil [] = refl
ids_left-nil (id ∷ ids) = ap (λ (rest : List ℕ). id ∷ rest) (ids_left-nil ids)

pub held_left-nil : (held : List (List ℕ)) → map (ids_left []) held ≡ held
held_left-nil [] = refl
held_left-nil (ids ∷ held) = rw (ids_left-nil ids, held_left-nil held) refl

ids_left-pairs : (deleted : List ℕ) (pairs : Live) → ids_left deleted (ids_of pairs) ≡ ids_of (filter (λ (pair : ℕ × Clause). not (list_any (λ id. id == pair.0) deleted)) pairs)
ids_left-pairs deleted [] = refl
ids_left-pairs deleted (pair ∷ pairs) =
    let rest = ids_left-pairs deleted pairs in
    let left = filter (λ (p : ℕ × Clause). not (list_any (λ id. id == p.0) deleted)) pairs in
    elim (list_any (λ id. id == pair.0) deleted) as (λ b. cond (not b) (pair.0 ∷ ids_left deleted (ids_of pairs)) (ids_left deleted (ids_of pairs)) ≡ ids_of (cond (not b) (pair ∷ left) left)) [
      | true ↦ rest
      | false ↦ ap (λ (ids : List ℕ). pair.0 ∷ ids) rest
    ]

-- what is left of the ids of what was live are those of what is
pub ids_left-live : (formula : Cnf) (steps : List Step) (deleted : List ℕ) → ids_left deleted (ids_of (live_after formula steps)) ≡ ids_of (live_after formula (steps ++ deletion_of deleted))
ids_left-live formula steps [] = ids_left-nil (ids_of (live_after formula steps)) ∙ ap (λ (ss : List Step). ids_of (live_after formula ss)) (sym (append-nil steps))
ids_left-live formula steps (id ∷ ids) = ids_left-pairs (id ∷ ids) (live_after formula steps) ∙ ap ids_of (sym (live_after-push formula steps (Del (id ∷ ids))))

-- ids that are some make a step
pub deletion_of-some : (ids : List ℕ) → 0 < length ids → deletion_of ids ≡ Del ids ∷ []
deletion_of-some [] some = absurd (omega (arith, some))
deletion_of-some (id ∷ ids) some = refl

-- nothing was deleted
pub forgets_none : (formula : Cnf) (keep_all : Bool) (steps : List Step) (held : List (List ℕ)) → Forgets formula keep_all steps steps held held
forgets_none formula keep_all steps held = record {
  deleted = [];
  may = record { late = tt; kept = λ _. refl };
  logged = sym (append-nil steps);
  held_left = sym (held_left-nil held);
}

each_last : (P : LogState → Step → Type 0) (state : LogState) (steps : List Step) (step : Step) → EachStep P state (steps ++ step ∷ []) → P (fold log_after state steps) step
each_last P state [] step each = each.0
each_last P state (s ∷ steps) step each = each_last P (log_after state s) steps step each.1

-- marks that were added leave what was known of reasons
pub has_kept : (entries : List Entry) (old new : List Bool) → KeepsMarks old new → length new ≡ length old → HasReasons entries old → HasReasons entries new
has_kept entries old new kept many has c lt unmarked = has c (omega (arith, lt, many)) (by_mark (is_marked old c) refl) where
  by_mark : (b : Bool) → is_marked old c ≡ b → is_marked old c ≡ false
  by_mark true is = let clash : true ≡ false = sym (kept c is) ∙ unmarked in absurd cc
  by_mark false is = is

module _ (formula : Cnf) (steps : List Step) (whole : StoreState) (last : ℕ) (marks : List Bool) (live : AreLive whole) (holds : HoldsClauses whole formula.vars (live_after formula steps) last) where
  -- all searchers are behind as before
  pub all_behind : (old new : List SearcherState) → IsGoodLog formula steps → IsGoodLog formula (steps ++ Del (ids_marked marks whole.live) ∷ []) → All (λ (s : SearcherState). IsBehind formula steps s.store s.trail) old → HaveForgotten marks old new
      → All (λ (s : SearcherState). IsBehind formula (steps ++ Del (ids_marked marks whole.live) ∷ []) s.store s.trail) new
  all_behind old new log then behind forget k d lt =
      let within : k < length old = omega (arith, lt, forget.many) in
      behind_forgotten formula steps whole last marks live holds (get_or old k d) (get_or new k d) log then (behind k d within) (forget.each k d within)

  -- and hold what is left of what they held
  pub all_held : (old new : List SearcherState) → All (λ (s : SearcherState). IsBehind formula steps s.store s.trail) old → HaveForgotten marks old new → map ids_in new ≡ map (ids_left (ids_marked marks whole.live)) (map ids_in old)
  all_held old new behind forget =
      let left = ids_left (ids_marked marks whole.live) in
      let many : length (map ids_in new) ≡ length (map left (map ids_in old)) = length-map new ids_in ∙ forget.many ∙ sym (length-map old ids_in) ∙ sym (length-map (map ids_in old) left) in
      same_lists (map ids_in new) (map left (map ids_in old)) many (λ k d lt.
      let in_new : k < length new = omega (arith, lt, length-map new ids_in) in
      let in_old : k < length old = omega (arith, in_new, forget.many) in
      let in_held : k < length (map ids_in old) = omega (arith, in_old, length-map old ids_in) in
      let x = get_or old k blank in
      let y = get_or new k blank in
      get_or-map ids_in new k blank d in_new ∙ held_forgotten formula steps whole last marks live holds x y (behind k blank in_old) (forget.each k blank in_old)
      ∙ ap left (sym (get_or-map ids_in old k blank [] in_old)) ∙ sym (get_or-map left (map ids_in old) k [] d in_held)) where
        blank : SearcherState
        blank = record { store = whole; trail = record { vars = 0; current = 0; entries = [] } }

  -- so a deletion was made
  pub forgets_marked : (keep_all : Bool) (old new : List SearcherState) → keep_all ≡ false → 0 < length (ids_marked marks whole.live) → IsGoodLog formula (steps ++ Del (ids_marked marks whole.live) ∷ [])
      → All (λ (s : SearcherState). IsBehind formula steps s.store s.trail) old → HaveForgotten marks old new → Forgets formula keep_all steps (steps ++ Del (ids_marked marks whole.live) ∷ []) (map ids_in old) (map ids_in new)
  forgets_marked keep_all old new keeps some then behind forget =
      let ids = ids_marked marks whole.live in
      let step = sym (deletion_of-some ids some) in
      record {
        deleted = ids;
        may = record {
          late = subst (EachStep IsLateDeletion (fold log_after (log_start formula) steps)) step (each_last IsLateDeletion (log_start formula) steps (Del ids) then.deletions, tt);
          kept = λ is. let clash : true ≡ false = sym is ∙ keeps in absurd cc;
        };
        logged = ap (λ (ss : List Step). steps ++ ss) step;
        held_left = all_held old new behind forget;
      }

-- what is known of the element at a place
pub at_place : (P : SearcherState → Type 0) (xs : List SearcherState) (k : ℕ) (x : SearcherState) → k < length xs → x ≡ get_or xs k x → IfSome (slice_get xs k) P → P x
at_place P xs k x lt is known = subst (λ (o : Option SearcherState). IfSome o P) (slice_get_read xs (length xs) k x refl lt is) known

-- and of the one that was put there
pub place_set : (P : SearcherState → Type 0) (xs : List SearcherState) (k : ℕ) (x : SearcherState) → k < length xs → P x → IfSome (slice_get (set xs k x) k) P
place_set P xs k x lt known =
    let within : k < length (set xs k x) = omega (arith, lt, length-set xs k x) in
    subst (λ (o : Option SearcherState). IfSome o P) (sym (slice_get_read (set xs k x) (length (set xs k x)) k x refl within (sym (get_or-set_same xs k x x lt)))) known

-- a searcher that is behind holds no more clauses than one that isn't
pub count_behind : (formula : Cnf) (steps : List Step) (s : SearcherState) (whole : StoreState) (last : ℕ) → HoldsClauses whole formula.vars (live_after formula steps) last → IsBehind formula steps s.store s.trail → s.store.count ≤ whole.count
count_behind formula steps s whole last holds behind =
    let pairs = live_after formula steps in
    let n = length s.store.live in
    omega (arith, behind.count, spells_length s.store.live (take n pairs) behind.first.spelled, length-take n pairs, holds.count)

module _ (formula : Cnf) (steps : List Step) (searchers : List SearcherState) (marks : List Bool) (ids : List ℕ) (chosen : IsChosen formula steps searchers marks ids) (log : IsGoodLog formula steps) where
  -- there are marks for the formula's clauses
  pub formula_marked : length formula.clauses ≤ length marks
  formula_marked = omega (arith, chosen.marks_each, chosen.holds.count, learnt_counted formula steps log)

  pub good_chosen : IsGoodLog formula (steps ++ Del ids ∷ [])
  good_chosen =
      subst (λ (named : List ℕ). IsGoodLog formula (steps ++ Del named ∷ [])) (sym chosen.ids_are)
      (good_forgotten formula steps chosen.whole chosen.reasons marks (length formula.clauses + additions steps) chosen.live chosen.holds log chosen.late chosen.may_go)

  -- each searcher may lose what is marked
  pub may_lose : All (λ (s : SearcherState). IsBehind formula steps s.store s.trail) searchers → All (MayLose marks) searchers
  may_lose behind k d lt =
      let s = get_or searchers k d in
      let is = behind k d lt in
      record {
        no_tail = is.no_tail;
        all_live = is.count;
        sound = is.on_course.sound;
        each = omega (arith, chosen.marks_each, count_behind formula steps s chosen.whole (length formula.clauses + additions steps) chosen.holds is);
        no_reason = λ c marked. no_reason_goes chosen.whole s.trail.entries chosen.reasons (length formula.clauses) c chosen.live chosen.reasons_each (chosen.has_reasons k d lt) (chosen.may_go c marked);
      }

  pub behind_chosen : (new : List SearcherState) → All (λ (s : SearcherState). IsBehind formula steps s.store s.trail) searchers → HaveForgotten marks searchers new
      → All (λ (s : SearcherState). IsBehind formula (steps ++ Del ids ∷ []) s.store s.trail) new
  behind_chosen new behind forget =
      let last = length formula.clauses + additions steps in
      let then : IsGoodLog formula (steps ++ Del (ids_marked marks chosen.whole.live) ∷ []) = subst (λ (named : List ℕ). IsGoodLog formula (steps ++ Del named ∷ [])) chosen.ids_are good_chosen in
      subst (λ (named : List ℕ). All (λ (s : SearcherState). IsBehind formula (steps ++ Del named ∷ []) s.store s.trail) new) (sym chosen.ids_are)
      (all_behind formula steps chosen.whole last marks chosen.live chosen.holds searchers new log then behind forget)

  pub forgets_chosen : (keep_all : Bool) (new : List SearcherState) → keep_all ≡ false → All (λ (s : SearcherState). IsBehind formula steps s.store s.trail) searchers → HaveForgotten marks searchers new
      → Forgets formula keep_all steps (steps ++ Del ids ∷ []) (map ids_in searchers) (map ids_in new)
  forgets_chosen keep_all new keeps behind forget =
      let last = length formula.clauses + additions steps in
      let then : IsGoodLog formula (steps ++ Del (ids_marked marks chosen.whole.live) ∷ []) = subst (λ (named : List ℕ). IsGoodLog formula (steps ++ Del named ∷ [])) chosen.ids_are good_chosen in
      let some : 0 < length (ids_marked marks chosen.whole.live) = subst (λ (named : List ℕ). 0 < length named) chosen.ids_are chosen.some in
      subst (λ (named : List ℕ). Forgets formula keep_all steps (steps ++ Del named ∷ []) (map ids_in searchers) (map ids_in new)) (sym chosen.ids_are)
      (forgets_marked formula steps chosen.whole last marks chosen.live chosen.holds keep_all searchers new keeps some then behind forget)

  pub live_chosen : (numbers : List ℕ) (n : ℕ) → AreLiveSteps formula steps numbers → n ≡ length formula.clauses → AreLiveSteps formula (steps ++ Del ids ∷ []) (numbers_left numbers (drop n marks))
  live_chosen numbers n lives n_is =
      let last = length formula.clauses + additions steps in
      subst (λ (named : List ℕ). AreLiveSteps formula (steps ++ Del named ∷ []) (numbers_left numbers (drop n marks))) (sym chosen.ids_are)
      (live_forgotten formula steps chosen.whole last marks chosen.live chosen.holds numbers n log lives chosen.marks_each n_is)
