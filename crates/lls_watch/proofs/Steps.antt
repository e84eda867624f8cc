-- The steps of a walk along a literal's list.
use Rattle.std.proofs.Common.{◌≡◌, ◌≤◌, ◌<◌, ◌+◌, ℕ, ℤ, List, [], ◌∷◌, ◌++◌, Option, Some, None, refl, ap, subst, arith, length}
use Rattle.std.specs.Prelude.{slice_get, slice_index_or}
use Rattle.std.proofs.lemmas.Option.{slice_get_within}
use Rattle.lls_lit.specs.Literal.{IsLiteral, index_of, negation}
use Rattle.lls_store.specs.Trail.{Entry, TrailState}
use Rattle.lls_store.specs.Changes.{forced}
use Rattle.lls_store.specs.Sound.{IsForced}
use Rattle.lls_store.proofs.Passes.{GoesOn-same, GoesOn-forced}
use Rattle.lls_store.proofs.SoundChanges.{IsSound-forced}
use Rattle.lls_watch.specs.declared.progress.Progress.{Progress}
use Rattle.lls_watch.specs.Watches.{WatchState, Lists, LeadsOn}
use Rattle.lls_watch.specs.Passed.{IsMarked, live_from}
use Rattle.lls_watch.specs.Visiting.{AreVisited, IsWalk}
use Rattle.lls_watch.specs.Propagating.{ArePropagating, IsOnItsWay}
use Rattle.lls_watch.proofs.Chains.{leads_to_one}
use Rattle.lls_watch.proofs.Kept.{get_in_front}
use Rattle.lls_watch.proofs.Visiting.{walk_begins, walk_ends, walk_goes_on}
use Rattle.lls_watch.proofs.Walks.{walk_grows, walk_marked}

-- a clause comes next
pub record IsAhead (state : WatchState) (lists : Lists) (entries : List Entry) (progress : Progress) (level : ℕ) (lit : ℤ) (kept rest : List ℕ) (c : ℕ) : Type 0 where
  pub behind : List ℕ
  pub rest_is : rest ≡ c ∷ behind
  pub walk : IsWalk state lists entries progress level lit kept (c ∷ behind) (Some c)

pub ahead : (state : WatchState) (lists : Lists) (entries : List Entry) (progress : Progress) (level : ℕ) (lit : ℤ) (kept rest : List ℕ) (c : ℕ)
    → IsWalk state lists entries progress level lit kept rest (Some c) → IsAhead state lists entries progress level lit kept rest c
ahead state lists entries progress level lit kept [] c walk = absurd (no_start c walk.leads)
  where
    no_start : (k : ℕ) → Some k ≡ None → ⊥
    no_start k eq = absurd cc
ahead state lists entries progress level lit kept (d ∷ ds) c walk =
    let same : d ≡ c = one c d walk.leads.0 in
    record { behind = ds; rest_is = ap (λ k. k ∷ ds) same; walk = subst (λ k. IsWalk state lists entries progress level lit kept (k ∷ ds) (Some c)) same walk }
  where
    one : (k m : ℕ) → Some k ≡ Some m → m ≡ k
    one k m eq = cc

-- what a clause's edge with the literal has, and where it leads
pub leads_here : (before now : WatchState) (start trail : TrailState) (progress : Progress) (lit : ℤ) (last : Option ℕ) (c : ℕ) → IsOnItsWay before now start trail progress lit last (Some c)
    → (next : Option ℕ) × LeadsOn now.arena.heads lit c next
leads_here before now start trail progress lit last c way =
    let it = ahead now way.lists trail.entries progress way.entry.level lit way.kept way.rest c way.walk in
    (it.walk.leads.1.0, it.walk.leads.1.1.0)

-- the clause is kept
pub way_keeps : (before now : WatchState) (start trail : TrailState) (progress : Progress) (lit : ℤ) (last : Option ℕ) (c : ℕ) (next : Option ℕ)
    → (way : IsOnItsWay before now start trail progress lit last (Some c)) → LeadsOn now.arena.heads lit c next
    → AreVisited now.arena.heads trail.entries progress way.entry.level lit (c ∷ [])
    → IsOnItsWay before now start trail progress lit (Some c) next
way_keeps before now start trail progress lit last c next way leads visited =
    let it = ahead now way.lists trail.entries progress way.entry.level lit way.kept way.rest c way.walk in
    let on = walk_goes_on now way.lists trail.entries progress way.entry.level lit way.kept it.behind c (Some c) it.walk visited in
    record {
      lists = way.lists;
      kept = way.kept ++ c ∷ [];
      rest = it.behind;
      entry = way.entry;
      found = way.found;
      is_false = way.is_false;
      walk = subst (IsWalk now way.lists trail.entries progress way.entry.level lit (way.kept ++ c ∷ []) it.behind) (leads_to_one now.arena.heads lit c it.walk.leads.1.0 next it.walk.leads.1.1.0 leads) on;
      is_last = (way.kept, refl);
      fits = way.fits;
      sound = way.sound;
      alike = way.alike;
      grown = way.grown;
    }

-- the walk begins
pub way_begins : (state : WatchState) (trail : TrailState) (progress : Progress) (lit : ℤ) (e : Entry) → ArePropagating state trail progress → IsLiteral lit → index_of lit < length state.first
    → slice_get trail.entries progress.passed ≡ Some e → e.lit ≡ negation lit
    → IsOnItsWay state state trail trail progress lit None (slice_index_or state.first (index_of lit) None)
way_begins state trail progress lit e ready literal within found is = record {
  lists = ready.lists;
  kept = [];
  rest = ready.lists (index_of lit);
  entry = e;
  found = found;
  is_false = is;
  walk = walk_begins state ready.lists trail.entries progress e.level lit literal within ready.threaded ready.passed ready.listed;
  is_last = refl;
  fits = ready.fits;
  sound = ready.sound;
  alike = record { live = refl; count = refl; tail = refl; spare_heads = refl; spare_lits = refl; watching = λ _ watching. watching };
  grown = GoesOn-same trail;
}

-- the mark is lowered
pub way_marked : (before now : WatchState) (start trail : TrailState) (progress : Progress) (lit : ℤ) (last next : Option ℕ) (mark : Option ℕ) → ((place : ℕ) → IsMarked progress.mark place → IsMarked mark place)
    → IsOnItsWay before now start trail progress lit last next → IsOnItsWay before now start trail (record progress { mark = mark }) lit last next
way_marked before now start trail progress lit last next mark lower way = record {
  lists = way.lists;
  kept = way.kept;
  rest = way.rest;
  entry = way.entry;
  found = way.found;
  is_false = way.is_false;
  walk = walk_marked now way.lists trail.entries progress mark way.entry.level lit way.kept way.rest next lower way.walk;
  is_last = way.is_last;
  fits = way.fits;
  sound = way.sound;
  alike = way.alike;
  grown = way.grown;
}

-- a clause forces a literal
pub way_forces : (before now : WatchState) (start trail : TrailState) (progress : Progress) (lit : ℤ) (last next : Option ℕ) (other : ℤ) (c : ℕ) → IsForced (live_from 0 now.arena.heads) trail.entries other c
    → IsOnItsWay before now start trail progress lit last next → IsOnItsWay before now start (forced trail other c) progress lit last next
way_forces before now start trail progress lit last next other c by way =
    let more : List Entry = record { lit = other; level = trail.current; reason = Some c } ∷ [] in
    record {
      lists = way.lists;
      kept = way.kept;
      rest = way.rest;
      entry = way.entry;
      found = get_in_front trail.entries more progress.passed way.entry way.found;
      is_false = way.is_false;
      walk = walk_grows now way.lists trail.entries more progress way.entry.level lit way.kept way.rest next (within (slice_get_within trail.entries progress.passed way.entry way.found)) way.walk;
      is_last = way.is_last;
      fits = record { lists = way.fits.lists; within = way.fits.within };
      sound = IsSound-forced (live_from 0 now.arena.heads) trail other c way.sound by;
      alike = way.alike;
      grown = GoesOn-forced start trail other c way.grown;
    }
  where
    within : {n m : ℕ} → n < m → n ≤ m
    within less = omega (arith, less)

-- at the end one literal more is passed
pub way_ends : (before now : WatchState) (start trail : TrailState) (progress : Progress) (lit : ℤ) (last : Option ℕ) → IsOnItsWay before now start trail progress lit last None
    → ArePropagating now trail (record progress { passed = progress.passed + 1 })
way_ends before now start trail progress lit last way = record {
  lists = way.lists;
  threaded = way.walk.threaded;
  listed = way.walk.listed;
  passed = walk_ends now way.lists trail.entries progress lit way.kept way.rest way.entry way.found way.is_false way.walk;
  fits = way.fits;
  sound = way.sound;
}

-- where it stops before, nothing more is passed
pub way_stops : (before now : WatchState) (start trail : TrailState) (progress : Progress) (lit : ℤ) (last next : Option ℕ) → IsOnItsWay before now start trail progress lit last next → ArePropagating now trail progress
way_stops before now start trail progress lit last next way =
    record { lists = way.lists; threaded = way.walk.threaded; listed = way.walk.listed; passed = way.walk.passed; fits = way.fits; sound = way.sound }
