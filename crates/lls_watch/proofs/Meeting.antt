-- The clause that a walk meets next, and that a walk ends.
use Rattle.std.proofs.Common.{◌≡◌, ◌<◌, ℕ, ℤ, Bool, true, false, ◌||◌, List, [], ◌∷◌, ◌++◌, Option, Some, None, refl, sym, ap, ◌∙◌, subst, arith, length, map}
use Rattle.std.specs.Prelude.{slice_get, slice_index_or, ◌==◌}
use Rattle.std.specs.Option.{option_map}
use Rattle.std.proofs.lemmas.Bool.{eqb-true}
use Rattle.std.proofs.lemmas.Option.{slice_get_within, slice_get-map}
use Rattle.lls_lit.specs.Literal.{IsLiteral, index_of}
use Rattle.lls_lit.specs.Indices.{literal_at-index_of}
use Rattle.lls_lit.specs.Formula.{is_within}
use Rattle.lls_store.specs.Trail.{TrailState}
use Rattle.lls_arena.specs.Arena.{HeadState, link_of}
use Rattle.lls_watch.specs.declared.progress.Progress.{Progress}
use Rattle.lls_watch.specs.Watches.{WatchState, HasEdgeOf, IsOnce, IsSegment, LeadsOn, has, side_of, watched}
use Rattle.lls_watch.specs.Visit.{CanBeVisited}
use Rattle.lls_watch.specs.Visiting.{HasEdge, IsLast}
use Rattle.lls_watch.specs.Propagating.{IsOnItsWay}
use Rattle.lls_watch.proofs.Chains.{has_append, has_first, leads_to_one}
use Rattle.lls_watch.proofs.Changed.{some_same}
use Rattle.lls_watch.proofs.Changes.{mapped_some}
use Rattle.lls_watch.proofs.Followed.{followed, followed_is, led_few}
use Rattle.lls_watch.proofs.Steps.{ahead, leads_here}

-- a clause that comes next
pub record IsMet (now : WatchState) (vars : ℕ) (lit : ℤ) (c : ℕ) : Type 0 where
  pub next : Option ℕ
  pub leads : LeadsOn now.arena.heads lit c next
  pub within : is_within vars leads.head.lits ≡ true

pub meets : (before now : WatchState) (start trail : TrailState) (progress : Progress) (lit : ℤ) (last : Option ℕ) (c : ℕ) → IsOnItsWay before now start trail progress lit last (Some c) → IsMet now trail.vars lit c
meets before now start trail progress lit last c way =
    let it = leads_here before now start trail progress lit last c way in
    record {
      next = it.0;
      leads = it.1;
      within = way.fits.within c it.1.head.lits (slice_get-map (λ (h : HeadState). h.lits) now.arena.heads c ∙ ap (option_map (λ (h : HeadState). h.lits)) it.1.is_head);
    }

pub met_within : (now : WatchState) (vars : ℕ) (lit : ℤ) (c : ℕ) → IsMet now vars lit c → c < length now.arena.heads
met_within now vars lit c it = slice_get_within now.arena.heads c it.leads.head it.leads.is_head

pub met_long : (now : WatchState) (vars : ℕ) (lit : ℤ) (c : ℕ) → IsMet now vars lit c → (x : HeadState) → slice_get now.arena.heads c ≡ Some x → 1 < length x.lits
met_long now vars lit c it x found =
    subst (λ (h : HeadState). 1 < length h.lits) (some_same it.leads.head x (sym it.leads.is_head ∙ found)) it.leads.watching.long

pub met_visitable : (now : WatchState) (vars : ℕ) (lit : ℤ) (c : ℕ) → IsMet now vars lit c → CanBeVisited now.arena.heads vars c
met_visitable now vars lit c it = record { head = it.leads.head; is_head = it.leads.is_head; watching = it.leads.watching; within = it.within }

-- it watches the literal
pub met_edge : (now : WatchState) (vars : ℕ) (lit : ℤ) (c : ℕ) → IsMet now vars lit c → HasEdgeOf now.arena.heads lit c
met_edge now vars lit c it = record { head = it.leads.head; is_head = it.leads.is_head; watching = it.leads.watching; has = it.leads.has }

pub met_watches : (now : WatchState) (vars : ℕ) (lit : ℤ) (c : ℕ) (w : Bool) → (it : IsMet now vars lit c) → side_of it.leads.head lit ≡ w → watched w it.leads.head ≡ lit
met_watches now vars lit c w it side = ap (λ b. watched b it.leads.head) (sym side) ∙ it.leads.has

-- where that edge leads
pub met_leads : (now : WatchState) (vars : ℕ) (lit : ℤ) (c : ℕ) (w : Bool) (next : Option ℕ) → (it : IsMet now vars lit c) → side_of it.leads.head lit ≡ w → slice_get (map (link_of w) now.arena.heads) c ≡ Some next
    → it.next ≡ next
met_leads now vars lit c w next it side read =
    let got = mapped_some (link_of w) now.arena.heads c next read in
    let same : it.leads.head ≡ got.0 = some_same it.leads.head got.0 (sym it.leads.is_head ∙ got.1.0) in
    sym it.leads.next_is ∙ ap (λ b. link_of b it.leads.head) side ∙ ap (link_of w) same ∙ got.1.1

-- a clause that came next, by the edge that has the literal
pub record HasCome (now : WatchState) (vars : ℕ) (lit : ℤ) (c : ℕ) (w : Bool) (next : Option ℕ) : Type 0 where
  pub leads : LeadsOn now.arena.heads lit c next
  pub side : side_of leads.head lit ≡ w
  pub watches : watched w leads.head ≡ lit
  pub within : is_within vars leads.head.lits ≡ true

pub comes : (now : WatchState) (vars : ℕ) (lit : ℤ) (c : ℕ) (w : Bool) (next : Option ℕ) → IsMet now vars lit c → ((head : HeadState) → slice_get now.arena.heads c ≡ Some head → w ≡ side_of head lit)
    → slice_get (map (link_of w) now.arena.heads) c ≡ Some next → HasCome now vars lit c w next
comes now vars lit c w next it is link =
    let side : side_of it.leads.head lit ≡ w = sym (is it.leads.head it.leads.is_head) in
    record {
      leads = record { head = it.leads.head; is_head = it.leads.is_head; watching = it.leads.watching; has = it.leads.has; next_is = it.leads.next_is ∙ met_leads now vars lit c w next it side link };
      side = side;
      watches = met_watches now vars lit c w it side;
      within = it.within;
    }

-- the clauses of a segment lead on
pub leads_among : (heads : List HeadState) (lit : ℤ) (start : Option ℕ) (cs : List ℕ) (end : Option ℕ) → IsSegment heads lit start cs end → (p : ℕ) → has cs p ≡ true → (next : Option ℕ) × LeadsOn heads lit p next
leads_among heads lit start [] end leads p among = absurd cc
leads_among heads lit start (c ∷ cs) end leads p among = by_test (leads_among heads lit leads.1.0 cs end leads.1.1.1 p) (c == p) refl among
  where
    by_test : (has cs p ≡ true → (next : Option ℕ) × LeadsOn heads lit p next) → (b : Bool) → (c == p) ≡ b → (b || has cs p) ≡ true → (next : Option ℕ) × LeadsOn heads lit p next
    by_test later true is _ = (leads.1.0, subst (λ k. LeadsOn heads lit k leads.1.0) (eqb-true c p is) leads.1.1.0)
    by_test later false _ rest = later rest

-- the last clause that was kept has an edge with the literal
pub way_edge : (before now : WatchState) (start trail : TrailState) (progress : Progress) (lit : ℤ) (last next : Option ℕ) → IsLiteral lit → index_of lit < length now.first
    → IsOnItsWay before now start trail progress lit last next → HasEdge now lit last
way_edge before now start trail progress lit last next literal within way = by_last last way.is_last
  where
    start_of : Option ℕ
    start_of = slice_index_or now.first (index_of lit) None

    whole : IsSegment now.arena.heads lit start_of (way.kept ++ way.rest) None
    whole =
        let chained = way.walk.threaded.chained (index_of lit) within in
        let of_lit : IsSegment now.arena.heads lit start_of (way.lists (index_of lit)) None =
        subst (λ l. IsSegment now.arena.heads l start_of (way.lists (index_of lit)) None) (literal_at-index_of lit literal) chained in
        subst (λ cs. IsSegment now.arena.heads lit start_of cs None) way.walk.list_is of_lit

    or_true : (a b : Bool) → b ≡ true → (a || b) ≡ true
    or_true true b is = refl
    or_true false b is = is

    true_or : (a b : Bool) → a ≡ true → (a || b) ≡ true
    true_or true b is = refl
    true_or false b is = absurd cc

    by_last : (last : Option ℕ) → IsLast way.kept last → HasEdge now lit last
    by_last None none = tt
    by_last (Some p) at =
        let among : has way.kept p ≡ true =
        ap (λ cs. has cs p) at.1 ∙ has_append at.0 (p ∷ []) p ∙ or_true (has at.0 p) (has (p ∷ []) p) (has_first p []) in
        leads_among now.arena.heads lit start_of (way.kept ++ way.rest) None whole p (has_append way.kept way.rest p ∙ true_or (has way.kept p) (has way.rest p) among)

once_behind : (xs ys : List ℕ) → IsOnce (xs ++ ys) → IsOnce ys
once_behind [] ys once = once
once_behind (x ∷ xs) ys once = once_behind xs ys once.1

-- followed link by link, what is left of the list
pub way_followed : (before now : WatchState) (start trail : TrailState) (progress : Progress) (lit : ℤ) (last next : Option ℕ) → index_of lit < length now.first → (way : IsOnItsWay before now start trail progress lit last next)
    → followed (length now.arena.heads) now.arena.heads lit next ≡ way.rest
way_followed before now start trail progress lit last next within way =
    let once = once_behind way.kept way.rest (subst IsOnce way.walk.list_is (way.walk.threaded.once (index_of lit) within)) in
    followed_is (length now.arena.heads) now.arena.heads lit next way.rest way.walk.leads (led_few now.arena.heads lit next way.rest way.walk.leads once)

-- behind a clause that was kept less is left
pub kept_shorter : (before now : WatchState) (start trail : TrailState) (progress : Progress) (lit : ℤ) (last : Option ℕ) (c : ℕ) (next : Option ℕ) → index_of lit < length now.first
    → IsOnItsWay before now start trail progress lit last (Some c) → LeadsOn now.arena.heads lit c next
    → length (followed (length now.arena.heads) now.arena.heads lit next) < length (followed (length now.arena.heads) now.arena.heads lit (Some c))
kept_shorter before now start trail progress lit last c next within way leads =
    let heads = now.arena.heads in
    let it = ahead now way.lists trail.entries progress way.entry.level lit way.kept way.rest c way.walk in
    let once = once_behind way.kept way.rest (subst IsOnce way.walk.list_is (way.walk.threaded.once (index_of lit) within)) in
    let once_more = subst IsOnce it.rest_is once in
    let behind : IsSegment heads lit next it.behind None =
    subst (λ o. IsSegment heads lit o it.behind None) (leads_to_one heads lit c it.walk.leads.1.0 next it.walk.leads.1.1.0 leads) it.walk.leads.1.1.1 in
    let later = followed_is (length heads) heads lit next it.behind behind (led_few heads lit next it.behind behind once_more.1) in
    let now_is = way_followed before now start trail progress lit last (Some c) within way ∙ it.rest_is in
    one_less (followed (length heads) heads lit next) (followed (length heads) heads lit (Some c)) it.behind c later now_is
  where
    one_less : (xs ys zs : List ℕ) (z : ℕ) → xs ≡ zs → ys ≡ z ∷ zs → length xs < length ys
    one_less xs ys zs z first second = omega (arith, ap length first, ap length second)

-- behind a clause that was left out less is left
pub dropped_shorter : (before now new : WatchState) (start trail : TrailState) (progress : Progress) (lit : ℤ) (last : Option ℕ) (c : ℕ) (next : Option ℕ) → index_of lit < length now.first → index_of lit < length new.first
    → (way : IsOnItsWay before now start trail progress lit last (Some c)) → (on : IsOnItsWay before new start trail progress lit last next) × (way.rest ≡ c ∷ on.rest)
    → length (followed (length new.arena.heads) new.arena.heads lit next) < length (followed (length now.arena.heads) now.arena.heads lit (Some c))
dropped_shorter before now new start trail progress lit last c next within within_new way on =
    one_less (followed (length new.arena.heads) new.arena.heads lit next) (followed (length now.arena.heads) now.arena.heads lit (Some c)) on.0.rest c
    (way_followed before new start trail progress lit last next within_new on.0)
    (way_followed before now start trail progress lit last (Some c) within way ∙ on.1)
  where
    one_less : (xs ys zs : List ℕ) (z : ℕ) → xs ≡ zs → ys ≡ z ∷ zs → length xs < length ys
    one_less xs ys zs z first second = omega (arith, ap length first, ap length second)
