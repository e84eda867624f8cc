use Rattle.std.proofs.Common.{◌≡◌, ap, ◌∙◌, sym, subst, arith}
use Rattle.std.specs.Prelude.{IsSome, IfSome}
use Rattle.std.specs.FinSet as set
use Rattle.lls_lit.specs.Literal.{variable_of}
use Rattle.lls_store.specs.Clauses.{LiveClause, Literals, clause_numbered}
use Rattle.lls_store.proofs.Live.{AreWithin-read}
use Rattle.lls_store.proofs.Sets.{IsIn-from_Contains}
use Rattle.lls_store.proofs.Standings.{Contains-read}
use Rattle.lls_store.proofs.Tabled.{variable_bounds}
use Rattle.lls_analyse.proofs.LiveClauses.{IsSome-from, number_given}
use Rattle.lls_engine_tests.proofs.analyse.is_current.Goals as goal

pub lits-lit-items-requires : goal.lits-lit-items-requires
lits-lit-items-requires g c =
    let store = g.S.Store.state c.args.store.now in
    number_given store c.args.conflict c.count-count.ensures.live (IsSome-from (clause_numbered store.live c.args.conflict) c.requires.conflict.clause c.requires.conflict.is_live)

pub is_of_current-requires : goal.is_of_current-requires
is_of_current-requires g c =
    let store = g.S.Store.state c.args.store.now in
    let lits = c.lits-lit-items.result.now in
    let l = c.lit-item.result in
    let some : IsSome (clause_numbered store.live c.args.conflict) = IsSome-from (clause_numbered store.live c.args.conflict) c.requires.conflict.clause c.requires.conflict.is_live in
    let within = AreWithin-read store c.args.conflict lits c.count-count.ensures.live some c.lits-lit-items.ensures in
    let inside = IsIn-from_Contains lits l (Contains-read lits c.loop-lit.lit-index l c.loop-lit-test.true c.lit-item.is) in
    let vars = g.met.S.Store.tracks_vars c.args.store.now c.args.trail.now c.requires.tracked in
    omega (arith, (variable_bounds store.vars (variable_of l) (within l inside)).1, vars)

pub returns-then-is_of_current : goal.returns-then-is_of_current
returns-then-is_of_current g c = λ _.
    let store = g.S.Store.state c.args.store.now in
    let lits = c.lits-lit-items.result.now in
    let l = c.lit-item.result in
    let clause = c.requires.conflict.clause in
    let spelled : set.from_list lits ≡ clause.lits = subst (λ o. IfSome o (λ (x : LiveClause). set.from_list lits ≡ x.lits)) c.requires.conflict.is_live c.lits-lit-items.ensures in
    record {
      conflict = c.requires.conflict;
      literal = l;
      is_current = record {
        is_in = ap (λ (ls : Literals). set.contains ls l) (sym spelled) ∙ IsIn-from_Contains lits l (Contains-read lits c.loop-lit.lit-index l c.loop-lit-test.true c.lit-item.is);
        of_level = c.is_of_current.ensures c.if-is_of_current.true;
      };
    }
