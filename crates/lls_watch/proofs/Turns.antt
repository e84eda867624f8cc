-- What one clause's visit makes of a walk, case by case.
use Rattle.std.proofs.Common.{◌≡◌, ◌≤◌, ◌<◌, ◌*◌, zero, suc, ℕ, ℤ, pos, Bool, true, false, not, ◌||◌, List, [], ◌∷◌, ◌++◌, Option, Some, None, refl, sym, ap, ◌∙◌, subst, arith, length, ◌⊎◌}
use Rattle.std.specs.Prelude.{slice_get, slice_index_or}
use Rattle.std.specs.Option.{option_map}
use Rattle.std.specs.Ordering.{int_eq}
use Rattle.std.proofs.lemmas.Bool.{and_parts}
use Rattle.std.proofs.lemmas.Bool.Decides.{Decides-int_eq}
use Rattle.std.proofs.lemmas.Option.{slice_get-map, slice_get_within}
use Rattle.lls_lit.specs.Literal.{IsLiteral, index_of, negation, variable_of}
use Rattle.lls_lit.specs.Formula.{is_literal_of, is_within}
use Rattle.lls_lit.proofs.Stamps.{index_within}
use Rattle.lls_store.specs.Trail.{Entry, TrailState, Has, HasNegated, IsTrail, entry_of, literals_of}
use Rattle.lls_store.specs.Changes.{forced}
use Rattle.lls_store.specs.Sound.{IsForced}
use Rattle.lls_store.proofs.Entries.{entry_read}
use Rattle.lls_store.proofs.Parts.{variable_most}
use Rattle.lls_store.proofs.Tabled.{variable_bounds}
use Rattle.lls_store.proofs.Values.{variable_of-negation}
use Rattle.lls_arena.specs.Arena.{HeadState, IsLive, place_of}
use Rattle.lls_watch.specs.declared.progress.Progress.{Progress}
use Rattle.lls_watch.specs.Watches.{WatchState, watched}
use Rattle.lls_watch.specs.Passed.{IsMarked, IsOffset, live_from}
use Rattle.lls_watch.specs.Visit.{AreRestFalse, CanBeWatched}
use Rattle.lls_watch.specs.Visiting.{leading_on}
use Rattle.lls_watch.specs.Propagating.{IsOnItsWay}
use Rattle.lls_watch.proofs.Meeting.{HasCome}
use Rattle.lls_watch.proofs.Moving.{IsMoving, relinked_led}
use Rattle.lls_watch.proofs.Passed.{has_at}
use Rattle.lls_watch.proofs.Steps.{way_forces, way_keeps}
use Rattle.lls_watch.proofs.Visited.{forced_by, visited_one}

-- where a false literal stands
pub record StandsFalse (trail : TrailState) (k : ℕ) (lit : ℤ) : Type 0 where
  pub entry : Entry
  pub found : slice_get trail.entries k ≡ Some entry
  pub is_false : entry.lit ≡ negation lit
  pub by_variable : entry_of trail.entries (variable_of lit) ≡ Some entry
  pub within : variable_of lit ≤ trail.vars

pub stands_false : (trail : TrailState) (k : ℕ) (lit : ℤ) → IsTrail trail → slice_get (literals_of trail.entries) k ≡ Some (negation lit) → StandsFalse trail k lit
stands_false trail k lit kept read =
    let at = entry_named trail.entries k (negation lit) read in
    let found = entry_here trail.entries k at.0 at.1.0 in
    let by_variable : entry_of trail.entries (variable_of lit) ≡ Some at.0 =
    entry_read trail.entries k (variable_of lit) (negation lit) at.0 kept.once (slice_get_within trail.entries k at.0 at.1.0) read (sym (variable_of-negation lit)) ∙ ap Some found in
    record {
      entry = at.0;
      found = at.1.0;
      is_false = at.1.1;
      by_variable = by_variable;
      within = variable_most trail (variable_of lit) kept (ap is_there by_variable);
    }
  where
    entry_named : (es : List Entry) (k : ℕ) (l : ℤ) → slice_get (literals_of es) k ≡ Some l → (e : Entry) × ((slice_get es k ≡ Some e) × (e.lit ≡ l))
    entry_named [] k l read = absurd cc
    entry_named (e ∷ es) zero l read = (e, (refl, cc))
    entry_named (e ∷ es) (suc k) l read = entry_named es k l read

    entry_here : (es : List Entry) (k : ℕ) (e : Entry) → slice_get es k ≡ Some e → slice_index_or es k e ≡ e
    entry_here [] k e found = absurd cc
    entry_here (x ∷ es) zero e found = cc
    entry_here (x ∷ es) (suc k) e found = entry_here es k e found

    is_there : Option Entry → Bool
    is_there None = false
    is_there (Some e) = true

-- where a literal of the variables has its list
pub has_list : (before now : WatchState) (start trail : TrailState) (progress : Progress) (lit : ℤ) (last next : Option ℕ) (l : ℤ) → IsOnItsWay before now start trail progress lit last next → IsLiteral l → variable_of l ≤ start.vars
    → index_of l < length now.first
has_list before now start trail progress lit last next l way literal within =
    let same : trail.vars ≡ start.vars = ap (λ (t : TrailState). t.vars) way.grown.grown in
    subst (λ n. index_of l < n) (sym (way.fits.lists ∙ ap (λ n. 2 * n) same)) (index_within l start.vars literal within)

-- a literal within the variables is one
pub literal_within : (trail : TrailState) (l : ℤ) → IsTrail trail → is_literal_of trail.vars l ≡ true → IsLiteral l
literal_within trail l kept is =
    let bounds = variable_bounds trail.vars (variable_of l) is in
    (bounds.0, omega (arith, bounds.1, kept.vars_fit))

pub within_at : (vars : ℕ) (lits : List ℤ) (k : ℕ) → is_within vars lits ≡ true → k < length lits → is_literal_of vars (slice_index_or lits k (pos 0)) ≡ true
within_at vars [] k within inside = absurd (omega (arith, inside))
within_at vars (l ∷ ls) zero within inside = (and_parts (is_literal_of vars l) (is_within vars ls) within).0
within_at vars (l ∷ ls) (suc k) within inside = within_at vars ls k (and_parts (is_literal_of vars l) (is_within vars ls) within).1 (omega (arith, inside))

-- a literal that is forced is true
pub forced_true : (es : List Entry) (e : Entry) → Has (es ++ e ∷ []) e.lit
forced_true [] e = or_true (int_eq e.lit e.lit) ((Decides-int_eq e.lit e.lit).1 refl)
  where
    or_true : (b : Bool) → b ≡ true → (b || false) ≡ true
    or_true b is = ap (λ a. a || false) is
forced_true (x ∷ es) e = later (int_eq x.lit e.lit) (forced_true es e)
  where
    later : (a : Bool) {b : Bool} → b ≡ true → (a || b) ≡ true
    later true is = refl
    later false is = is

-- and offsets a false one of the current level, and one whose place is marked
pub offset_forced : (es : List Entry) (e : Entry) (mark : Option ℕ) (place level : ℕ) → (e.level ≤ level) ⊎ IsMarked mark place → IsOffset (es ++ e ∷ []) mark place level e.lit
offset_forced es e mark place level in_time = record { at = length es; entry = e; found = at_end es; is_true = refl; in_time = in_time }
  where
    at_end : (xs : List Entry) → slice_get (xs ++ e ∷ []) (length xs) ≡ Some e
    at_end [] = refl
    at_end (x ∷ xs) = at_end xs

-- the clause is kept, where its other watched literal is true in time
pub turn_keeps : (before now : WatchState) (start trail : TrailState) (progress : Progress) (lit : ℤ) (last : Option ℕ) (c : ℕ) (w : Bool) (next : Option ℕ)
    → (way : IsOnItsWay before now start trail progress lit last (Some c)) → (come : HasCome now trail.vars lit c w next)
    → IsOffset trail.entries progress.mark progress.passed way.entry.level (watched (not w) come.leads.head)
    → IsOnItsWay before now start trail progress lit (Some c) next
turn_keeps before now start trail progress lit last c w next way come offset =
    way_keeps before now start trail progress lit last c next way come.leads
    (visited_one now.arena.heads trail.entries progress way.entry.level lit c come.leads.head w come.leads.is_head come.watches offset)

-- the clause forces its other watched literal
pub turn_forces : (before now : WatchState) (start trail : TrailState) (progress : Progress) (lit : ℤ) (last : Option ℕ) (c : ℕ) (w : Bool) (next : Option ℕ) (other : ℤ)
    → IsOnItsWay before now start trail progress lit last (Some c) → (come : HasCome now trail.vars lit c w next) → HasNegated trail.entries lit
    → come.leads.head.live ≡ true → other ≡ watched (not w) come.leads.head → AreRestFalse trail.entries come.leads.head.lits other
    → IsOnItsWay before now start (forced trail other c) progress lit last (Some c)
turn_forces before now start trail progress lit last c w next other way come is_false live is rest =
    let h = come.leads.head in
    let by = forced_by now.arena.heads trail.entries c h w come.leads.is_head live come.leads.watching (subst (HasNegated trail.entries) (sym come.watches) is_false) (subst (AreRestFalse trail.entries h.lits) is rest) in
    way_forces before now start trail progress lit last (Some c) other c (subst (λ l. IsForced (live_from 0 now.arena.heads) trail.entries l c) (sym is) by) way

-- the literal whose list it is stays false
pub way_false : (before now : WatchState) (start trail : TrailState) (progress : Progress) (lit : ℤ) (last next : Option ℕ) → IsOnItsWay before now start trail progress lit last next → HasNegated trail.entries lit
way_false before now start trail progress lit last next way = subst (Has trail.entries) way.is_false (has_at trail.entries progress.passed way.entry way.found)

-- the clause moves
pub turn_moves : (before now : WatchState) (start trail : TrailState) (progress : Progress) (lit : ℤ) (last : Option ℕ) (c : ℕ) (w : Bool) (next : Option ℕ) (n : ℕ) → IsTrail trail → IsLiteral lit
    → IsOnItsWay before now start trail progress lit last (Some c) → (come : HasCome now trail.vars lit c w next) → come.leads.head.live ≡ true → CanBeWatched trail.entries come.leads.head.lits (watched (not w) come.leads.head) n
    → IsMoving now trail.entries lit c next w n
turn_moves before now start trail progress lit last c w next n kept literal way come live can =
    let h = come.leads.head in
    let new = within_at trail.vars h.lits n come.within can.inside in
    let new_literal = literal_within trail (slice_index_or h.lits n (pos 0)) kept new in
    record {
      leads = come.leads;
      side = come.side;
      live = live;
      can = can;
      literal = literal;
      other_literal = literal_within trail (watched (not w) h) kept (within_at trail.vars h.lits (place_of (not w)) come.within (place_inside (not w)));
      new_literal = new_literal;
      new_within =
          subst (λ k. index_of (slice_index_or h.lits n (pos 0)) < k) (sym way.fits.lists)
          (index_within (slice_index_or h.lits n (pos 0)) trail.vars new_literal (variable_bounds trail.vars (variable_of (slice_index_or h.lits n (pos 0))) new).1);
      is_false = way_false before now start trail progress lit last (Some c) way;
    }
  where
    place_inside : (b : Bool) → place_of b < length come.leads.head.lits
    place_inside true = come.leads.watching.long
    place_inside false = omega (arith, come.leads.watching.long)

-- it is live where one leads on behind it
pub moving_live : (now : WatchState) (es : List Entry) (lit : ℤ) (last : Option ℕ) (c : ℕ) (next : Option ℕ) (w : Bool) (n : ℕ) → IsMoving now es lit c next w n → IsLive (leading_on last lit next now).arena.heads c
moving_live now es lit last c next w n it =
    let now_is = relinked_led last lit next now c it.leads.head it.leads.is_head it.leads.watching in
    slice_get-map (λ (h : HeadState). h.live) (leading_on last lit next now).arena.heads c ∙ ap (option_map (λ (h : HeadState). h.live)) now_is.found ∙ ap Some (now_is.live ∙ it.live)
