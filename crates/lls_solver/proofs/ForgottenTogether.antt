-- Searchers over one log lose the clauses that one of them, which lacks none, has marked.
use Rattle.std.proofs.Common.{◌≡◌, ℕ, zero, suc, ◌+◌, ◌-◌, ◌<◌, ◌≤◌, Bool, true, false, not, cond, List, [], ◌∷◌, ◌++◌, length, length-append, get_or, map, take, drop, Option, Some, refl, sym, ap, subst, ◌∙◌, arith}
use Rattle.std.specs.Prelude.{ℤ, Contains, filter, slice_get}
use Rattle.std.specs.List.{zip}
use Rattle.std.specs.FinSet as finset
use Rattle.std.proofs.Math.Seq.{drop-append_seam, take-append-add, take-append_seam}
use Rattle.std.proofs.lemmas.List.{drop-map, get_or-map, get_or-take, get_or_default, length-map, length-take, map-append, same_lists, take-append-drop, take-map}
use Rattle.std.proofs.lemmas.List.Elements.{filter-append}
use Rattle.std.proofs.lemmas.List.FromFn.{length-enumerate_from}
use Rattle.lls_lit.specs.Formula.{Clause, Cnf}
use Rattle.lls_prooflog.specs.UnitWalk.{Live, numbered}
use Rattle.lls_prooflog.specs.Spent.{LogState, log_start, log_after, live_after}
use Rattle.lls_prooflog.specs.declared.step.Step.{Step}
use Rattle.lls_prooflog.specs.declared.step.Step.TheVariants.{Add, Del}
use Rattle.lls_store.specs.Clauses.{LiveClause}
use Rattle.lls_store.specs.Removal.{compacted, renamed, renumbered}
use Rattle.lls_store.specs.Sound.{IsSound}
use Rattle.lls_store.specs.Store.{StoreState, AreLive}
use Rattle.lls_store.specs.Trail.{TrailState}
use Rattle.lls_analyse.specs.Spelled.{Spells}
use Rattle.lls_solver.specs.Deletion.{ids_left, ids_marked, is_marked, numbers_left, without_marked, AreAllLive, HasForgotten}
use Rattle.lls_solver.specs.Searching.{SearcherState, ids_of, HoldsClauses, IsGoodLog}
use Rattle.lls_solver.specs.Sharing.{added_after, addition_at, addition_of, AreLiveSteps, IsBehind}
use Rattle.lls_solver.proofs.Clauses.{spells_ids}
use Rattle.lls_solver.proofs.Forgotten.{all_live, closed_below_forgotten, is_named, kept_of, marked_named, spells_filter, spells_length, spells_renumbered}
use Rattle.lls_solver.proofs.Logs.{fold-push, live_after-push, live_parts}
use Rattle.lls_solver.proofs.Marks.{number_at}

-- the pairs whose ids aren't named
abbrev unnamed_of : List ℕ → Live → Live
unnamed_of ids pairs = filter (λ pair. not (is_named ids pair.0)) pairs

-- a clause's id is that of the pair at its place
id_at : (live : List LiveClause) (pairs : Live) (k : ℕ) (d : LiveClause) → Spells live pairs → k < length live → (get_or live k d).id ≡ get_or (ids_of pairs) k 0
id_at live pairs k d spelled lt =
    let id : LiveClause → ℕ = λ c. c.id in
    sym (get_or-map id live k d 0 lt) ∙ ap (λ (ids : List ℕ). get_or ids k 0) (spells_ids live pairs spelled)

filter_front : (keeps : ℕ × Clause → Bool) (n : ℕ) (pairs : Live) → filter keeps (take n pairs) ≡ take (length (filter keeps (take n pairs))) (filter keeps pairs)
filter_front keeps n pairs =
    let front = filter keeps (take n pairs) in
    let back = filter keeps (drop n pairs) in
    sym (take-append_seam front back) ∙ ap (take (length front)) (sym (filter-append keeps (take n pairs) (drop n pairs)) ∙ ap (filter keeps) (take-append-drop n pairs))

-- the clauses of the formula stay, and so they do among the first
formula_left : (keeps : ℕ × Clause → Bool) (front added left : Live) (n : ℕ) → filter keeps (front ++ added) ≡ front ++ left → left ≡ filter keeps added → length front ≤ n → length front ≤ length (filter keeps (take n (front ++ added)))
formula_left keeps front added left n stands same most =
    let many : length (filter keeps front) + length (filter keeps added) ≡ length front + length (filter keeps added) =
    sym (length-append (filter keeps front) (filter keeps added)) ∙ ap length (sym (filter-append keeps front added) ∙ stands) ∙ length-append front left ∙ ap (λ (ps : Live). length front + length ps) same
    in
    let m = n - length front in
    let n_is : n ≡ length front + m = omega (arith, most) in
    let split : filter keeps (take n (front ++ added)) ≡ filter keeps front ++ filter keeps (take m added) =
    ap (λ i. filter keeps (take i (front ++ added))) n_is ∙ ap (filter keeps) (take-append-add front added m) ∙ filter-append keeps front (take m added)
    in
    omega (arith, many, ap length split, length-append (filter keeps front) (filter keeps (take m added)))

ids_renumbered : (all live : List LiveClause) → map (λ (c : LiveClause). c.id) (map (renumbered all) live) ≡ map (λ (c : LiveClause). c.id) live
ids_renumbered all [] = refl
ids_renumbered all (clause ∷ live) = ap (λ (ids : List ℕ). clause.id ∷ ids) (ids_renumbered all live)

ids_filter : (live : List LiveClause) (keep : LiveClause → Bool) (keeps : ℕ → Bool) → ((clause : LiveClause) → Contains live clause → keep clause ≡ keeps clause.id) → map (λ (c : LiveClause). c.id) (filter keep live) ≡ filter keeps (map (λ (c : LiveClause). c.id) live)
ids_filter [] keep keeps same = refl
ids_filter (clause ∷ live) keep keeps same =
    let id : LiveClause → ℕ = λ c. c.id in
    let rest = ids_filter live keep keeps (λ c contains. same c (suc contains.0, omega (arith, contains.1), contains.2)) in
    ap (λ b. map id (cond b (clause ∷ filter keep live) (filter keep live))) (same clause (0, omega arith, refl))
    ∙ (elim (keeps clause.id) as (λ b. map id (cond b (clause ∷ filter keep live) (filter keep live)) ≡ cond b (clause.id ∷ filter keeps (map id live)) (filter keeps (map id live))) [
      | true ↦ ap (λ (ids : List ℕ). clause.id ∷ ids) rest
      | false ↦ rest
    ])

-- an addition stands where it stood as the steps go on
addition_kept : (steps more : List Step) (n : ℕ) (pair : ℕ × Clause) → addition_at steps n ≡ Some pair → addition_at (steps ++ more) n ≡ Some pair
addition_kept [] more n pair is = absurd cc
addition_kept (step ∷ steps) more zero pair is = is
addition_kept (step ∷ steps) more (suc n) pair is = addition_kept steps more n pair is

live_kept : (steps more : List Step) (numbers : List ℕ) (added : Live) → map (addition_at steps) numbers ≡ map (λ (pair : ℕ × Clause). Some pair) added → map (addition_at (steps ++ more)) numbers ≡ map (λ (pair : ℕ × Clause). Some pair) added
live_kept steps more [] [] is = refl
live_kept steps more [] (pair ∷ added) is = absurd cc
live_kept steps more (n ∷ numbers) [] is = absurd cc
live_kept steps more (n ∷ numbers) (pair ∷ added) is =
    let head : addition_at steps n ≡ Some pair = cc in
    let tail : map (addition_at steps) numbers ≡ map (λ (p : ℕ × Clause). Some p) added = cc in
    let kept = addition_kept steps more n pair head in
    let rest = live_kept steps more numbers added tail in
    cc

step_at_end : (steps : List Step) (step : Step) → slice_get (steps ++ step ∷ []) (length steps) ≡ Some step
step_at_end [] step = refl
step_at_end (s ∷ steps) step = step_at_end steps step

-- one more addition is live
pub live_push : (formula : Cnf) (steps : List Step) (numbers : List ℕ) (id : ℕ) (lits : Clause) (hints : List ℤ) → AreLiveSteps formula steps numbers → AreLiveSteps formula (steps ++ Add id lits hints ∷ []) (numbers ++ length steps ∷ [])
live_push formula steps numbers id lits hints live =
    let step = Add id lits hints in
    let some : ℕ × Clause → Option (ℕ × Clause) = λ pair. Some pair in
    let at = addition_at (steps ++ step ∷ []) in
    let last : at (length steps) ≡ Some (id, lits) = ap addition_of (step_at_end steps step) in
    let added : added_after formula (steps ++ step ∷ []) ≡ added_after formula steps ++ (id, lits) ∷ [] = ap (λ (state : LogState). state.added) (fold-push log_after (log_start formula) steps step) in
    map-append at numbers (length steps ∷ [])
    ∙ ap (λ (os : List (Option (ℕ × Clause))). os ++ at (length steps) ∷ []) (live_kept steps (step ∷ []) numbers (added_after formula steps) live)
    ∙ ap (λ (o : Option (ℕ × Clause)). map some (added_after formula steps) ++ o ∷ []) last
    ∙ sym (ap (map some) added ∙ map-append some (added_after formula steps) ((id, lits) ∷ []))

live_left : (steps more : List Step) (numbers : List ℕ) (added : Live) (test : ℕ × Clause → Bool) → map (addition_at steps) numbers ≡ map (λ (pair : ℕ × Clause). Some pair) added
    → map (addition_at (steps ++ more)) (numbers_left numbers (map test added)) ≡ map (λ (pair : ℕ × Clause). Some pair) (filter (λ pair. not (test pair)) added)
live_left steps more [] [] test is = refl
live_left steps more [] (pair ∷ added) test is = absurd cc
live_left steps more (n ∷ numbers) [] test is = absurd cc
live_left steps more (n ∷ numbers) (pair ∷ added) test is =
    let at = addition_at (steps ++ more) in
    let some : ℕ × Clause → Option (ℕ × Clause) = λ p. Some p in
    let head : addition_at steps n ≡ Some pair = cc in
    let tail : map (addition_at steps) numbers ≡ map (λ (p : ℕ × Clause). Some p) added = cc in
    let kept : at n ≡ Some pair = addition_kept steps more n pair head in
    let rest = live_left steps more numbers added test tail in
    let zipped = filter (λ (p : ℕ × Bool). not p.1) (zip numbers (map test added)) in
    let unmarked = filter (λ p. not (test p)) added in
    elim (test pair) as (λ b. map at (map (λ (p : ℕ × Bool). p.0) (cond (not b) ((n, b) ∷ zipped) zipped)) ≡ map some (cond (not b) (pair ∷ unmarked) unmarked)) [
      | true ↦ rest
      | false ↦ cc
    ]

module _ (formula : Cnf) (steps : List Step) (whole : StoreState) (last : ℕ) (marks : List Bool) (live : AreLive whole) (holds : HoldsClauses whole formula.vars (live_after formula steps) last) where
  -- a clause of a store that is behind is marked exactly where its id is named
  alike : (store : StoreState) (n : ℕ) (clause : LiveClause) → AreLive store → AreAllLive store → Spells store.live (take n (live_after formula steps)) → Contains store.live clause
      → is_marked marks clause.number ≡ is_named (ids_marked marks whole.live) clause.id
  alike store n clause lives all spelled contains =
      let k = contains.0 in
      let pairs = live_after formula steps in
      let front : length store.live ≡ length (take n pairs) = spells_length store.live (take n pairs) spelled in
      let below : k < n = omega (arith, contains.1, front, length-take n pairs) in
      let in_whole : k < length whole.live = omega (arith, contains.1, front, length-take n pairs, spells_length whole.live pairs holds.spelled) in
      let other = get_or whole.live k clause in
      let at : get_or whole.live k other ≡ other = get_or_default whole.live k other clause in_whole in
      let number : clause.number ≡ other.number =
      sym (ap (λ (c : LiveClause). c.number) contains.2) ∙ number_at store k clause lives all contains.1 ∙ sym (number_at whole k clause live (all_live whole formula.vars pairs last holds) in_whole)
      in
      let id : other.id ≡ clause.id =
      id_at whole.live pairs k clause holds.spelled in_whole ∙ sym (get_or-take n (ids_of pairs) k 0 below) ∙ ap (λ (ids : List ℕ). get_or ids k 0) (take-map (λ (pair : ℕ × Clause). pair.0) n pairs)
      ∙ sym (id_at store.live (take n pairs) k clause spelled contains.1) ∙ ap (λ (c : LiveClause). c.id) contains.2
      in
      ap (is_marked marks) number ∙ marked_named whole.live marks other live.ids (k, in_whole, at) ∙ ap (is_named (ids_marked marks whole.live)) id

  -- so the store keeps what isn't named of the first clauses
  spells_left : (store : StoreState) (n : ℕ) → AreLive store → AreAllLive store → Spells store.live (take n (live_after formula steps))
      → Spells (compacted (without_marked store marks)).live (unnamed_of (ids_marked marks whole.live) (take n (live_after formula steps)))
  spells_left store n lives all spelled =
      let named = is_named (ids_marked marks whole.live) in
      let kept = spells_filter store.live (take n (live_after formula steps)) (λ clause. not (is_marked marks clause.number)) (λ id. not (named id)) (λ clause contains. ap not (alike store n clause lives all spelled contains)) spelled in
      spells_renumbered (kept_of marks store.live) (kept_of marks store.live) (unnamed_of (ids_marked marks whole.live) (take n (live_after formula steps))) kept

  -- what is live behind the deletion
  live_then : live_after formula (steps ++ Del (ids_marked marks whole.live) ∷ []) ≡ unnamed_of (ids_marked marks whole.live) (live_after formula steps)
  live_then = live_after-push formula steps (Del (ids_marked marks whole.live))

  added_then : added_after formula (steps ++ Del (ids_marked marks whole.live) ∷ []) ≡ unnamed_of (ids_marked marks whole.live) (added_after formula steps)
  added_then = ap (λ (state : LogState). state.added) (fold-push log_after (log_start formula) steps (Del (ids_marked marks whole.live)))

  -- a searcher that is behind stays so
  pub behind_forgotten : (old new : SearcherState) → IsGoodLog formula steps → IsGoodLog formula (steps ++ Del (ids_marked marks whole.live) ∷ []) → IsBehind formula steps old.store old.trail → HasForgotten marks old new
      → IsBehind formula (steps ++ Del (ids_marked marks whole.live) ∷ []) new.store new.trail
  behind_forgotten old new log then behind forgets =
      let ids = ids_marked marks whole.live in
      let after = steps ++ Del ids ∷ [] in
      let pairs = live_after formula steps in
      let n = length old.store.live in
      let left = compacted (without_marked old.store marks) in
      let keeps : ℕ × Clause → Bool = λ pair. not (is_named ids pair.0) in
      let front = numbered formula.clauses in
      let spelled = spells_left old.store n forgets.were_live behind.count behind.first.spelled in
      let many : length left.live ≡ length (filter keeps (take n pairs)) = spells_length left.live (filter keeps (take n pairs)) spelled in
      let firsts : filter keeps (take n pairs) ≡ take (length left.live) (live_after formula after) =
      filter_front keeps n pairs ∙ ap (λ m. take m (filter keeps pairs)) (sym many) ∙ ap (take (length left.live)) (sym live_then)
      in
      let parts = live_parts formula steps log in
      let stands : filter keeps (front ++ added_after formula steps) ≡ front ++ added_after formula after = ap (filter keeps) (sym parts) ∙ sym live_then ∙ live_parts formula after then in
      let fits : length front ≤ n = omega (arith, behind.first.whole_formula, length-enumerate_from 1 formula.clauses) in
      let most : length front ≤ length (filter keeps (take n (front ++ added_after formula steps))) = formula_left keeps front (added_after formula steps) (added_after formula after) n stands added_then fits in
      let whole_formula : length formula.clauses ≤ length left.live =
      omega (arith, most, many, ap (λ (ps : Live). length (filter keeps (take n ps))) parts, length-enumerate_from 1 formula.clauses)
      in
      let sound : IsSound left.live (renamed (without_marked old.store marks).live old.trail) =
      subst (λ (t : TrailState). IsSound left.live t) forgets.trail (subst (λ (s : StoreState). IsSound s.live new.trail) forgets.store forgets.sound)
      in
      let is : IsBehind formula after left (renamed (without_marked old.store marks).live old.trail) = record {
        store_vars = behind.store_vars;
        no_tail = behind.no_tail;
        first = record { whole_formula = whole_formula; spelled = subst (Spells left.live) firsts spelled };
        count = sym (length-map (kept_of marks old.store.live) (renumbered (kept_of marks old.store.live)));
        on_course = record {
          sound = sound;
          closed_below = closed_below_forgotten old.store.live (without_marked old.store marks).live (λ clause. not (is_marked marks clause.number)) old.trail behind.on_course.closed_below;
        };
      } in
      subst (λ (s : StoreState). IsBehind formula after s new.trail) (sym forgets.store) (subst (IsBehind formula after left) (sym forgets.trail) is)

  -- and holds what it held, without the ids that are named
  pub held_forgotten : (old new : SearcherState) → IsBehind formula steps old.store old.trail → HasForgotten marks old new
      → map (λ (c : LiveClause). c.id) new.store.live ≡ ids_left (ids_marked marks whole.live) (map (λ (c : LiveClause). c.id) old.store.live)
  held_forgotten old new behind forgets =
      let named = is_named (ids_marked marks whole.live) in
      let kept = kept_of marks old.store.live in
      ap (λ (s : StoreState). map (λ (c : LiveClause). c.id) s.live) forgets.store ∙ ids_renumbered kept kept
      ∙ ids_filter old.store.live (λ clause. not (is_marked marks clause.number)) (λ id. not (named id)) (λ clause contains. ap not (alike old.store (length old.store.live) clause forgets.were_live behind.count behind.first.spelled contains))

  -- the marks say of each place whether its id is named
  marks_are : length marks ≡ whole.count → marks ≡ map (λ (pair : ℕ × Clause). is_named (ids_marked marks whole.live) pair.0) (live_after formula steps)
  marks_are each =
      let pairs = live_after formula steps in
      let all = all_live whole formula.vars pairs last holds in
      let many : length whole.live ≡ length pairs = spells_length whole.live pairs holds.spelled in
      let ids = ids_marked marks whole.live in
      let test : ℕ × Clause → Bool = λ pair. is_named ids pair.0 in
      same_lists marks (map test pairs) (omega (arith, each, all, many, length-map pairs test)) (λ k d lt.
      let in_whole : k < length whole.live = omega (arith, lt, each, all) in
      let in_pairs : k < length pairs = omega (arith, in_whole, many) in
      let first : LiveClause = get_or whole.live k blank in
      let at : get_or whole.live k first ≡ first = get_or_default whole.live k first blank in_whole in
      let number : first.number ≡ k = number_at whole k blank live all in_whole in
      let id : first.id ≡ (get_or pairs k (0, [])).0 = id_at whole.live pairs k blank holds.spelled in_whole ∙ get_or-map (λ (pair : ℕ × Clause). pair.0) pairs k (0, []) 0 in_pairs in
      get_or_default marks k d false lt ∙ ap (is_marked marks) (sym number) ∙ marked_named whole.live marks first live.ids (k, in_whole, at) ∙ ap (is_named ids) id ∙ sym (get_or-map test pairs k (0, []) d in_pairs)) where
        blank : LiveClause
        blank = record { number = 0; id = 0; lits = finset.empty }

  -- so the numbers of the steps whose additions stay live are those that aren't marked
  pub live_forgotten : (numbers : List ℕ) (n : ℕ) → IsGoodLog formula steps → AreLiveSteps formula steps numbers → length marks ≡ whole.count → n ≡ length formula.clauses
      → AreLiveSteps formula (steps ++ Del (ids_marked marks whole.live) ∷ []) (numbers_left numbers (drop n marks))
  live_forgotten numbers n log lives each n_is =
      let ids = ids_marked marks whole.live in
      let step = Del ids in
      let test : ℕ × Clause → Bool = λ pair. is_named ids pair.0 in
      let some : ℕ × Clause → Option (ℕ × Clause) = λ pair. Some pair in
      let front = numbered formula.clauses in
      let added = added_after formula steps in
      let front_is : n ≡ length front = n_is ∙ sym (length-enumerate_from 1 formula.clauses) in
      let behind : drop n marks ≡ map test added =
      ap (drop n) (marks_are each ∙ ap (map test) (live_parts formula steps log)) ∙ drop-map test n (front ++ added) ∙ ap (λ m. map test (drop m (front ++ added))) front_is ∙ ap (map test) (drop-append_seam front added)
      in
      ap (λ (ms : List Bool). map (addition_at (steps ++ step ∷ [])) (numbers_left numbers ms)) behind
      ∙ live_left steps (step ∷ []) numbers added test lives
      ∙ sym (ap (map some) added_then)
