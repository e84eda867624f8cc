-- A walk along a literal's list where its clauses and the trail change on the way.
use Rattle.std.proofs.Common.{◌≡◌, ◌≤◌, ◌<◌, ℕ, ℤ, pos, Bool, true, false, not, List, [], ◌∷◌, ◌++◌, Option, None, sym, ap, ◌∙◌, subst, length, inl, inr, ⊎_elim}
use Rattle.std.specs.Prelude.{slice_index_or}
use Rattle.lls_lit.specs.Literal.{IsLiteral, index_of}
use Rattle.lls_lit.specs.Indices.{literal_at-index_of}
use Rattle.lls_store.specs.Trail.{Entry}
use Rattle.lls_arena.specs.Arena.{HeadState, changed_at, place_of}
use Rattle.lls_watch.specs.Watches.{WatchState, Lists, IsSegment, IsThreaded, IsWatching, has, watched}
use Rattle.lls_watch.specs.declared.progress.Progress.{Progress}
use Rattle.lls_watch.specs.Passed.{IsMarked, IsOffset, ArePassed, AreListed}
use Rattle.lls_watch.specs.Visiting.{AreVisited, IsWalk}
use Rattle.lls_watch.proofs.Chains.{segment_split}
use Rattle.lls_watch.proofs.Changed.{IsChanged, KeepsWatched, changed_found}
use Rattle.lls_watch.proofs.Kept.{offset_grown, passed_grown, passed_marked}

-- a link to the same clauses is the same link
same_start : (heads new : List HeadState) (lit : ℤ) (a b : Option ℕ) (cs : List ℕ) → IsSegment heads lit a cs None → IsSegment new lit b cs None → a ≡ b
same_start heads new lit a b [] one other = one ∙ sym other
same_start heads new lit a b (c ∷ cs) one other = one.0 ∙ sym other.0

-- a clause is taken out of the list
pub walk_drops : (state new : WatchState) (lists others : Lists) (entries : List Entry) (progress : Progress) (level : ℕ) (lit : ℤ) (kept rest : List ℕ) (c : ℕ) (start : Option ℕ)
    → IsLiteral lit → index_of lit < length new.first
    → (walk : IsWalk state lists entries progress level lit kept (c ∷ rest) start)
    → IsThreaded new others → others (index_of lit) ≡ kept ++ rest
    → ArePassed new.arena.heads entries progress → AreListed new.arena.heads others → AreVisited new.arena.heads entries progress level lit kept
    → IsWalk new others entries progress level lit kept rest walk.leads.1.0
walk_drops state new lists others entries progress level lit kept rest c start literal within walk threaded list_is passed listed visited =
    let whole : IsSegment new.arena.heads lit (slice_index_or new.first (index_of lit) None) (kept ++ rest) None =
    subst (λ cs. IsSegment new.arena.heads lit (slice_index_or new.first (index_of lit) None) cs None) list_is
    (subst (λ l. IsSegment new.arena.heads l (slice_index_or new.first (index_of lit) None) (others (index_of lit)) None) (literal_at-index_of lit literal) (threaded.chained (index_of lit) within)) in
    let parts = segment_split new.arena.heads lit (slice_index_or new.first (index_of lit) None) None kept rest whole in
    record {
      threaded = threaded;
      list_is = list_is;
      leads = subst (λ s. IsSegment new.arena.heads lit s rest None) (same_start new.arena.heads state.arena.heads lit parts.0 walk.leads.1.0 rest parts.1.1 walk.leads.1.1.1) parts.1.1;
      passed = passed;
      listed = listed;
      visited = visited;
    }

-- the trail grows
pub walk_grows : (state : WatchState) (lists : Lists) (entries more : List Entry) (progress : Progress) (level : ℕ) (lit : ℤ) (kept rest : List ℕ) (start : Option ℕ)
    → progress.passed ≤ length entries → IsWalk state lists entries progress level lit kept rest start → IsWalk state lists (entries ++ more) progress level lit kept rest start
walk_grows state lists entries more progress level lit kept rest start within walk = record {
  threaded = walk.threaded;
  list_is = walk.list_is;
  leads = walk.leads;
  passed = passed_grown state.arena.heads entries more progress within walk.passed;
  listed = walk.listed;
  visited = λ c head w among found live watching watches.
      offset_grown entries more progress.mark progress.passed level (watched (not w) head) (walk.visited c head w among found live watching watches);
}

-- the mark is lowered
pub walk_marked : (state : WatchState) (lists : Lists) (entries : List Entry) (progress : Progress) (mark : Option ℕ) (level : ℕ) (lit : ℤ) (kept rest : List ℕ) (start : Option ℕ)
    → ((place : ℕ) → IsMarked progress.mark place → IsMarked mark place)
    → IsWalk state lists entries progress level lit kept rest start → IsWalk state lists entries (record progress { mark = mark }) level lit kept rest start
walk_marked state lists entries progress mark level lit kept rest start lower walk = record {
  threaded = walk.threaded;
  list_is = walk.list_is;
  leads = walk.leads;
  passed = passed_marked state.arena.heads entries progress mark lower walk.passed;
  listed = walk.listed;
  visited = λ c head w among found live watching watches.
      let it = walk.visited c head w among found live watching watches in
      record { at = it.at; entry = it.entry; found = it.found; is_true = it.is_true; in_time = ⊎_elim inl (λ marked. inr (lower progress.passed marked)) it.in_time };
}

-- what was visited stays so where a change keeps literals and makes nothing live
pub visited_changed : (f : HeadState → HeadState) (c : ℕ) (heads : List HeadState) (entries : List Entry) (progress : Progress) (level : ℕ) (lit : ℤ) (cs : List ℕ) → KeepsWatched f
    → AreVisited heads entries progress level lit cs → AreVisited (changed_at f c heads) entries progress level lit cs
visited_changed f c heads entries progress level lit cs keeps visited k new w among found live watching watches = by_clause (changed_found f c heads k new found)
  where
    by_clause : IsChanged f c heads k new → IsOffset entries progress.mark progress.passed level (watched (not w) new)
    by_clause (IsChanged.same h e was to) =
        let seen : (b : Bool) → watched b new ≡ watched b h = λ b. ap (watched b) (sym to) ∙ ap (λ ls. slice_index_or ls (place_of b) (pos 0)) (keeps.lits h) in
        subst (IsOffset entries progress.mark progress.passed level) (sym (seen (not w)))
        (visited k h w among was (keeps.live h (ap (λ (g : HeadState). g.live) to ∙ live)) (keeps.watching h (subst IsWatching (sym to) watching)) (sym (seen w) ∙ watches))
    by_clause (IsChanged.other differ was) = visited k new w among was live watching watches

-- or where the clause that is changed isn't among them
pub visited_apart : (f : HeadState → HeadState) (c : ℕ) (heads : List HeadState) (entries : List Entry) (progress : Progress) (level : ℕ) (lit : ℤ) (cs : List ℕ) → has cs c ≡ false
    → AreVisited heads entries progress level lit cs → AreVisited (changed_at f c heads) entries progress level lit cs
visited_apart f c heads entries progress level lit cs absent visited k new w among found live watching watches = by_clause (changed_found f c heads k new found)
  where
    by_clause : IsChanged f c heads k new → IsOffset entries progress.mark progress.passed level (watched (not w) new)
    by_clause (IsChanged.same h e was to) =
        let both : true ≡ false = sym among ∙ ap (has cs) e ∙ absent in
        absurd cc
    by_clause (IsChanged.other differ was) = visited k new w among was live watching watches
