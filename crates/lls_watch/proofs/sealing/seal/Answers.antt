use Rattle.std.proofs.Common.{◌≡◌, ℕ, ℤ, Bool, true, false, List, [], ◌∷◌, ◌++◌, Some, length, sym, ap, ◌∙◌, subst, arith}
use Rattle.std.specs.Prelude.{◌≢◌, ◌<◌, IfSome, slice_get}
use Rattle.lls_lit.specs.Literal.{negation}
use Rattle.std.specs.FinSet as set
use Rattle.lls_store.specs.Trail.{Entry}
use Rattle.lls_store.specs.Clauses.{IsIn}
use Rattle.lls_arena.specs.Arena.{HeadState}
use Rattle.lls_watch.specs.Watches.{CanBegin, IsThreaded, WatchState, begun, watched}
use Rattle.lls_watch.specs.Propagating.{ArePropagating}
use Rattle.lls_watch.specs.Sealed.{HasSealed}
use Rattle.lls_watch.proofs.Beginning.{begun_propagating, begun_sealed, last_head, short_propagating, short_sealed, with_sealed}
use Rattle.lls_watch.proofs.Begun.{begun_threaded}
use Rattle.lls_watch.proofs.Newest.{SeesTwo, begun_long, begun_is, begun_read, begun_variable, begun_within, sealed_lits, seen_begins}
use Rattle.lls_watch.proofs.sealing.seal.Goals as goal

pub begin-requires-clause-clause : goal.begin-requires-clause-clause
begin-requires-clause-clause c =
    let seen : SeesTwo c.lits.result.now c.in-Some.n = record { behind = c.in-Some.ensures.behind; inside = c.in-Some.ensures.inside; differ = c.in-Some.ensures.differ } in
    let can = seen_begins c.args.watches.now c.seal-c.new.self c.arena.result.now c.args.id c.args.trail.now.vars c.seal-c.result c.in-Some.n c.lits.result.now c.seal-c.ensures.state c.arena.ensures c.seal-c.ensures.number c.lits.ensures
    c.requires.vars c.requires.ready.fits c.requires.within seen in
    subst (λ (w : WatchState). CanBegin w c.seal-c.result c.in-Some.n) (sym c.seal-c.ensures.state) (subst (λ k. CanBegin (with_sealed c.args.watches.now c.args.id) k c.in-Some.n) (sym c.seal-c.ensures.number) can.0)

pub watched-requires-clause-count : goal.watched-requires-clause-count
watched-requires-clause-count c =
    let whole = begun_is c.args.watches.now c.seal-c.new.self c.begin.new.self c.args.id c.seal-c.result c.in-Some.n c.seal-c.ensures.state c.seal-c.ensures.number c.begin.ensures.state in
    let same : c.arena-in-Some.result.now ≡ (begun (length c.args.watches.now.arena.heads) c.in-Some.n (with_sealed c.args.watches.now c.args.id)).arena = c.arena-in-Some.ensures ∙ ap (λ (w : WatchState). w.arena) whole in
    subst (λ k. k < length c.arena-in-Some.result.now.heads) (sym c.seal-c.ensures.number) (begun_within c.args.watches.now c.arena-in-Some.result.now c.args.id c.in-Some.n same)

pub watched-requires-clause-long : goal.watched-requires-clause-long
watched-requires-clause-long c = λ x found.
    let seen : SeesTwo c.lits.result.now c.in-Some.n = record { behind = c.in-Some.ensures.behind; inside = c.in-Some.ensures.inside; differ = c.in-Some.ensures.differ } in
    let can = seen_begins c.args.watches.now c.seal-c.new.self c.arena.result.now c.args.id c.args.trail.now.vars c.seal-c.result c.in-Some.n c.lits.result.now c.seal-c.ensures.state c.arena.ensures c.seal-c.ensures.number c.lits.ensures
    c.requires.vars c.requires.ready.fits c.requires.within seen in
    let whole = begun_is c.args.watches.now c.seal-c.new.self c.begin.new.self c.args.id c.seal-c.result c.in-Some.n c.seal-c.ensures.state c.seal-c.ensures.number c.begin.ensures.state in
    let same : c.arena-in-Some.result.now ≡ (begun (length c.args.watches.now.arena.heads) c.in-Some.n (with_sealed c.args.watches.now c.args.id)).arena = c.arena-in-Some.ensures ∙ ap (λ (w : WatchState). w.arena) whole in
    let long = begun_long c.args.watches.now c.arena-in-Some.result.now c.args.id c.in-Some.n same can.1 x (ap (slice_get c.arena-in-Some.result.now.heads) (sym c.seal-c.ensures.number) ∙ found) in
    omega (arith, long)

pub take_back-requires : goal.take_back-requires
take_back-requires c =
    let seen : SeesTwo c.lits.result.now c.in-Some.n = record { behind = c.in-Some.ensures.behind; inside = c.in-Some.ensures.inside; differ = c.in-Some.ensures.differ } in
    let can = seen_begins c.args.watches.now c.seal-c.new.self c.arena.result.now c.args.id c.args.trail.now.vars c.seal-c.result c.in-Some.n c.lits.result.now c.seal-c.ensures.state c.arena.ensures c.seal-c.ensures.number c.lits.ensures
    c.requires.vars c.requires.ready.fits c.requires.within seen in
    let whole = begun_is c.args.watches.now c.seal-c.new.self c.begin.new.self c.args.id c.seal-c.result c.in-Some.n c.seal-c.ensures.state c.seal-c.ensures.number c.begin.ensures.state in
    let same : c.arena-in-Some.result.now ≡ (begun (length c.args.watches.now.arena.heads) c.in-Some.n (with_sealed c.args.watches.now c.args.id)).arena = c.arena-in-Some.ensures ∙ ap (λ (w : WatchState). w.arena) whole in
    begun_variable c.args.watches.now c.arena-in-Some.result.now c.args.id c.args.trail.now.vars c.in-Some.n false c.watched.result same c.requires.within can.1
    (subst (λ k. IfSome (slice_get c.arena-in-Some.result.now.heads k) (λ (x : HeadState). slice_get x.lits 0 ≡ Some c.watched.result)) c.seal-c.ensures.number c.watched.ensures)

pub watched-requires-in-Some-clause-count : goal.watched-requires-in-Some-clause-count
watched-requires-in-Some-clause-count c =
    let whole = begun_is c.args.watches.now c.seal-c.new.self c.begin.new.self c.args.id c.seal-c.result c.in-Some.n c.seal-c.ensures.state c.seal-c.ensures.number c.begin.ensures.state in
    let same : c.arena-in-Some-2.result.now ≡ (begun (length c.args.watches.now.arena.heads) c.in-Some.n (with_sealed c.args.watches.now c.args.id)).arena = c.arena-in-Some-2.ensures ∙ ap (λ (w : WatchState). w.arena) whole in
    subst (λ k. k < length c.arena-in-Some-2.result.now.heads) (sym c.seal-c.ensures.number) (begun_within c.args.watches.now c.arena-in-Some-2.result.now c.args.id c.in-Some.n same)

pub watched-requires-in-Some-clause-long : goal.watched-requires-in-Some-clause-long
watched-requires-in-Some-clause-long c = λ x found.
    let seen : SeesTwo c.lits.result.now c.in-Some.n = record { behind = c.in-Some.ensures.behind; inside = c.in-Some.ensures.inside; differ = c.in-Some.ensures.differ } in
    let can = seen_begins c.args.watches.now c.seal-c.new.self c.arena.result.now c.args.id c.args.trail.now.vars c.seal-c.result c.in-Some.n c.lits.result.now c.seal-c.ensures.state c.arena.ensures c.seal-c.ensures.number c.lits.ensures
    c.requires.vars c.requires.ready.fits c.requires.within seen in
    let whole = begun_is c.args.watches.now c.seal-c.new.self c.begin.new.self c.args.id c.seal-c.result c.in-Some.n c.seal-c.ensures.state c.seal-c.ensures.number c.begin.ensures.state in
    let same : c.arena-in-Some-2.result.now ≡ (begun (length c.args.watches.now.arena.heads) c.in-Some.n (with_sealed c.args.watches.now c.args.id)).arena = c.arena-in-Some-2.ensures ∙ ap (λ (w : WatchState). w.arena) whole in
    let long = begun_long c.args.watches.now c.arena-in-Some-2.result.now c.args.id c.in-Some.n same can.1 x (ap (slice_get c.arena-in-Some-2.result.now.heads) (sym c.seal-c.ensures.number) ∙ found) in
    omega (arith, long)

pub take_back-requires-in-Some : goal.take_back-requires-in-Some
take_back-requires-in-Some c =
    let seen : SeesTwo c.lits.result.now c.in-Some.n = record { behind = c.in-Some.ensures.behind; inside = c.in-Some.ensures.inside; differ = c.in-Some.ensures.differ } in
    let can = seen_begins c.args.watches.now c.seal-c.new.self c.arena.result.now c.args.id c.args.trail.now.vars c.seal-c.result c.in-Some.n c.lits.result.now c.seal-c.ensures.state c.arena.ensures c.seal-c.ensures.number c.lits.ensures
    c.requires.vars c.requires.ready.fits c.requires.within seen in
    let whole = begun_is c.args.watches.now c.seal-c.new.self c.begin.new.self c.args.id c.seal-c.result c.in-Some.n c.seal-c.ensures.state c.seal-c.ensures.number c.begin.ensures.state in
    let same : c.arena-in-Some-2.result.now ≡ (begun (length c.args.watches.now.arena.heads) c.in-Some.n (with_sealed c.args.watches.now c.args.id)).arena = c.arena-in-Some-2.ensures ∙ ap (λ (w : WatchState). w.arena) whole in
    begun_variable c.args.watches.now c.arena-in-Some-2.result.now c.args.id c.args.trail.now.vars c.in-Some.n true c.watched-in-Some.result same c.requires.within can.1
    (subst (λ k. IfSome (slice_get c.arena-in-Some-2.result.now.heads k) (λ (x : HeadState). slice_get x.lits 1 ≡ Some c.watched-in-Some.result)) c.seal-c.ensures.number c.watched-in-Some.ensures)

pub returns-in-Some-clause-sealed : goal.returns-in-Some-clause-sealed
returns-in-Some-clause-sealed c =
    let seen : SeesTwo c.lits.result.now c.in-Some.n = record { behind = c.in-Some.ensures.behind; inside = c.in-Some.ensures.inside; differ = c.in-Some.ensures.differ } in
    let can = seen_begins c.args.watches.now c.seal-c.new.self c.arena.result.now c.args.id c.args.trail.now.vars c.seal-c.result c.in-Some.n c.lits.result.now c.seal-c.ensures.state c.arena.ensures c.seal-c.ensures.number c.lits.ensures
    c.requires.vars c.requires.ready.fits c.requires.within seen in
    let whole = begun_is c.args.watches.now c.seal-c.new.self c.begin.new.self c.args.id c.seal-c.result c.in-Some.n c.seal-c.ensures.state c.seal-c.ensures.number c.begin.ensures.state in
    subst (λ w. HasSealed c.args.trail.now.vars c.args.watches.now c.args.short.now.items c.args.id w c.args.short.now.items) (sym whole)
    (begun_sealed c.args.trail.now.vars c.args.watches.now c.args.short.now.items c.args.id c.in-Some.n can.0 (omega (arith, can.1.behind, can.1.inside)) can.1.inside)

pub returns-in-Some-clause-kept : goal.returns-in-Some-clause-kept
returns-in-Some-clause-kept c =
    let seen : SeesTwo c.lits.result.now c.in-Some.n = record { behind = c.in-Some.ensures.behind; inside = c.in-Some.ensures.inside; differ = c.in-Some.ensures.differ } in
    let can = seen_begins c.args.watches.now c.seal-c.new.self c.arena.result.now c.args.id c.args.trail.now.vars c.seal-c.result c.in-Some.n c.lits.result.now c.seal-c.ensures.state c.arena.ensures c.seal-c.ensures.number c.lits.ensures
    c.requires.vars c.requires.ready.fits c.requires.within seen in
    let whole = begun_is c.args.watches.now c.seal-c.new.self c.begin.new.self c.args.id c.seal-c.result c.in-Some.n c.seal-c.ensures.state c.seal-c.ensures.number c.begin.ensures.state in
    let last = last_head c.args.watches.now c.args.id (length c.args.watches.now.arena.heads) c.in-Some.n in
    let first : c.watched.result ≡ watched false last =
    begun_read c.args.watches.now c.arena-in-Some.result.now c.args.id c.in-Some.n false c.watched.result (c.arena-in-Some.ensures ∙ ap (λ (w : WatchState). w.arena) whole)
    (subst (λ k. IfSome (slice_get c.arena-in-Some.result.now.heads k) (λ (x : HeadState). slice_get x.lits 0 ≡ Some c.watched.result)) c.seal-c.ensures.number c.watched.ensures) in
    let second : c.watched-in-Some.result ≡ watched true last =
    begun_read c.args.watches.now c.arena-in-Some-2.result.now c.args.id c.in-Some.n true c.watched-in-Some.result (c.arena-in-Some-2.ensures ∙ ap (λ (w : WatchState). w.arena) whole)
    (subst (λ k. IfSome (slice_get c.arena-in-Some-2.result.now.heads k) (λ (x : HeadState). slice_get x.lits 1 ≡ Some c.watched-in-Some.result)) c.seal-c.ensures.number c.watched-in-Some.ensures) in
    let apart : (w : Bool) (place : ℕ) (entry : Entry) → place < c.take_back-in-Some.new.self.passed → slice_get c.args.trail.now.entries place ≡ Some entry → entry.lit ≢ negation (watched w last) =
    λ w place entry before found. by_edge w last entry.lit first second
    (c.take_back.ensures.apart place entry (omega (arith, before, c.take_back-in-Some.ensures.less)) found) (c.take_back-in-Some.ensures.apart place entry before found) in
    subst (λ w. ArePropagating w c.args.trail.now c.take_back-in-Some.new.self) (sym whole)
    (begun_propagating c.args.watches.now c.args.id c.in-Some.n c.args.trail.now c.args.progress.now c.take_back-in-Some.new.self c.requires.ready c.requires.within can.0 (omega (arith, can.1.behind, can.1.inside)) can.1.inside
    (omega (arith, c.take_back.ensures.less, c.take_back-in-Some.ensures.less)) (c.take_back-in-Some.ensures.mark ∙ c.take_back.ensures.mark) apart
    (λ lists. begun_threaded (with_sealed c.args.watches.now c.args.id) lists (length c.args.watches.now.arena.heads) c.in-Some.n can.0)
    (λ lists threaded. subst (λ w. IsThreaded w lists) c.seal-c.ensures.state (c.seal-c.ensures.threaded lists threaded)))
  where
    by_edge : (w : Bool) (h : HeadState) (l : ℤ) {a b : ℤ} → a ≡ watched false h → b ≡ watched true h → l ≢ negation a → l ≢ negation b → l ≢ negation (watched w h)
    by_edge false h l first second one other e = one (e ∙ ap negation (sym first))
    by_edge true h l first second one other e = other (e ∙ ap negation (sym second))

pub returns-in-None-clause-sealed : goal.returns-in-None-clause-sealed
returns-in-None-clause-sealed c =
    let tail = sealed_lits c.args.watches.now c.seal-c.new.self c.arena.result.now c.args.id c.seal-c.result c.lits.result.now c.seal-c.ensures.state c.arena.ensures c.seal-c.ensures.number c.lits.ensures in
    let alone = subst (λ (ls : List ℤ). (l m : ℤ) → IsIn (set.from_list ls) l → IsIn (set.from_list ls) m → l ≡ m) tail c.in-None.ensures.none in
    let longer = c.push_reserved.ensures.items ∙ ap (λ (k : ℕ). c.args.short.now.items ++ k ∷ []) c.seal-c.ensures.number in
    subst (λ w. HasSealed c.args.trail.now.vars c.args.watches.now c.args.short.now.items c.args.id w c.push_reserved.new.self.items) (sym c.seal-c.ensures.state)
    (subst (λ cs. HasSealed c.args.trail.now.vars c.args.watches.now c.args.short.now.items c.args.id (with_sealed c.args.watches.now c.args.id) cs) (sym longer)
    (short_sealed c.args.trail.now.vars c.args.watches.now c.args.short.now.items c.args.id c.requires.within alone))

pub returns-in-None-clause-kept : goal.returns-in-None-clause-kept
returns-in-None-clause-kept c =
    let tail = sealed_lits c.args.watches.now c.seal-c.new.self c.arena.result.now c.args.id c.seal-c.result c.lits.result.now c.seal-c.ensures.state c.arena.ensures c.seal-c.ensures.number c.lits.ensures in
    let alone = subst (λ (ls : List ℤ). (l m : ℤ) → IsIn (set.from_list ls) l → IsIn (set.from_list ls) m → l ≡ m) tail c.in-None.ensures.none in
    subst (λ w. ArePropagating w c.args.trail.now c.args.progress.now) (sym c.seal-c.ensures.state)
    (short_propagating c.args.watches.now c.args.id c.args.trail.now c.args.progress.now c.requires.ready c.requires.within alone
    (λ lists threaded. subst (λ w. IsThreaded w lists) c.seal-c.ensures.state (c.seal-c.ensures.threaded lists threaded)))
