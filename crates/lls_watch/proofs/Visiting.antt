-- A walk along a literal's list begins, goes on and ends.
use Rattle.std.proofs.Common.{◌≡◌, ◌<◌, ◌+◌, ℕ, ℤ, Bool, true, false, not, ◌||◌, List, [], ◌∷◌, ◌++◌, Option, Some, None, refl, sym, ap, ◌∙◌, subst, length}
use Rattle.std.specs.Prelude.{slice_get, slice_index_or}
use Rattle.std.proofs.lemmas.List.{append-nil}
use Rattle.lls_lit.specs.Literal.{IsLiteral, index_of, negation}
use Rattle.lls_lit.specs.Indices.{literal_at-index_of}
use Rattle.lls_lit.proofs.Flipped.{negation_twice}
use Rattle.lls_store.specs.Trail.{Entry}
use Rattle.lls_arena.specs.Arena.{HeadState}
use Rattle.lls_watch.specs.Watches.{WatchState, Lists, IsSegment, IsThreaded, IsWatching, has, watched}
use Rattle.lls_watch.specs.declared.progress.Progress.{Progress}
use Rattle.lls_watch.specs.Passed.{IsOffset, ArePassed, AreListed}
use Rattle.lls_watch.specs.Visiting.{AreVisited, IsWalk}
use Rattle.lls_watch.proofs.Chains.{has_append}
use Rattle.lls_watch.proofs.Kept.{passed_one}

-- at the first clause
pub walk_begins : (state : WatchState) (lists : Lists) (entries : List Entry) (progress : Progress) (level : ℕ) (lit : ℤ) → IsLiteral lit → index_of lit < length state.first
    → IsThreaded state lists → ArePassed state.arena.heads entries progress → AreListed state.arena.heads lists
    → IsWalk state lists entries progress level lit [] (lists (index_of lit)) (slice_index_or state.first (index_of lit) None)
walk_begins state lists entries progress level lit literal within threaded passed listed = record {
  threaded = threaded;
  list_is = refl;
  leads = subst (λ l. IsSegment state.arena.heads l (slice_index_or state.first (index_of lit) None) (lists (index_of lit)) None) (literal_at-index_of lit literal) (threaded.chained (index_of lit) within);
  passed = passed;
  listed = listed;
  visited = λ c head w among _ _ _ _. absurd cc;
}

-- a clause is kept
pub walk_goes_on : (state : WatchState) (lists : Lists) (entries : List Entry) (progress : Progress) (level : ℕ) (lit : ℤ) (kept rest : List ℕ) (c : ℕ) (start : Option ℕ)
    → (walk : IsWalk state lists entries progress level lit kept (c ∷ rest) start)
    → AreVisited state.arena.heads entries progress level lit (c ∷ [])
    → IsWalk state lists entries progress level lit (kept ++ c ∷ []) rest walk.leads.1.0
walk_goes_on state lists entries progress level lit kept rest c start walk here = record {
  threaded = walk.threaded;
  list_is = walk.list_is ∙ shifted kept;
  leads = walk.leads.1.1.1;
  passed = walk.passed;
  listed = walk.listed;
  visited = λ k head w among. by_part k head w (has kept k) refl (sym (has_append kept (c ∷ []) k) ∙ among);
}
  where
    shifted : (xs : List ℕ) → xs ++ c ∷ rest ≡ (xs ++ c ∷ []) ++ rest
    shifted [] = refl
    shifted (x ∷ xs) = ap (λ ys. x ∷ ys) (shifted xs)

    by_part : (k : ℕ) (head : HeadState) (w : Bool) (b : Bool) → has kept k ≡ b → (b || has (c ∷ []) k) ≡ true → slice_get state.arena.heads k ≡ Some head → head.live ≡ true → IsWatching head
        → watched w head ≡ lit → IsOffset entries progress.mark progress.passed level (watched (not w) head)
    by_part k head w true before _ = walk.visited k head w before
    by_part k head w false _ last = here k head w last

-- at the end one literal more is passed
pub walk_ends : (state : WatchState) (lists : Lists) (entries : List Entry) (progress : Progress) (lit : ℤ) (kept rest : List ℕ) (e : Entry)
    → slice_get entries progress.passed ≡ Some e → e.lit ≡ negation lit → IsWalk state lists entries progress e.level lit kept rest None
    → ArePassed state.arena.heads entries (record progress { passed = progress.passed + 1 })
walk_ends state lists entries progress lit kept rest e found is walk =
    passed_one state.arena.heads entries progress walk.passed
    (λ c head w entry at live watching there false_.
    let same : entry ≡ e = some_same entry e (sym there ∙ found) in
    let watches : watched w head ≡ lit =
    sym (negation_twice (watched w head)) ∙ ap negation (sym false_ ∙ ap (λ (x : Entry). x.lit) same ∙ is) ∙ negation_twice lit in
    let among : has kept c ≡ true =
    ap (λ cs. has cs c) (sym whole) ∙ ap (λ l. has (lists (index_of l)) c) (sym watches) ∙ walk.listed c head w at live watching in
    subst (λ (x : Entry). IsOffset entries progress.mark progress.passed x.level (watched (not w) head)) (sym same)
    (walk.visited c head w among at live watching watches))
  where
    some_same : (a b : Entry) → Some a ≡ Some b → a ≡ b
    some_same a b eq = cc

    none_left : (cs : List ℕ) → IsSegment state.arena.heads lit None cs None → cs ≡ []
    none_left [] leads = refl
    none_left (c ∷ cs) leads = absurd (no_start c leads.0)
      where
        no_start : (k : ℕ) → None ≡ Some k → ⊥
        no_start k eq = absurd cc

    whole : lists (index_of lit) ≡ kept
    whole = walk.list_is ∙ ap (λ cs. kept ++ cs) (none_left rest walk.leads) ∙ append-nil kept
