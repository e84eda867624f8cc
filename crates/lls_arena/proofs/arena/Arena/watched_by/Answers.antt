use Rattle.std.proofs.Common.{◌≡◌, ◌<◌, Bool, true, false, cond, length, get_or, ap, ◌∙◌, refl, arith}
use Rattle.std.proofs.lemmas.List.{get_or_default}
use Rattle.lls_arena.specs.declared.edges.Edge.{Edge}
use Rattle.lls_arena.specs.declared.edges.Edges.{Edges}
use Rattle.lls_arena.specs.Links.{no_pair, side_in}
use Rattle.lls_arena.specs.Arena.{ArenaState}
use Rattle.lls_arena.specs.Parts.{spans_in}
use Rattle.lls_arena.proofs.Heads.{inside, same_length, watched_literal}
use Rattle.lls_arena.proofs.arena.Arena.watched_by.Goals as goal

pub named-requires-clause-within : goal.named-requires-clause-within
named-requires-clause-within c = λ k is.
    let a = c.self.inside in
    let spans = spans_in a.spans.items a.lives.items a.ids.items in
    omega (arith, inside c.args.self.now a.lits.items a.edges.pairs spans k (ap (λ (x : ArenaState). x.heads) c.self.view_is) c.self.invariant.0.watched (c.requires.within k is), same_length a.lits.items a.edges.pairs spans c.self.invariant.0.watched)

pub returns : goal.returns
returns c = λ k is.
    let a = c.self.inside in
    let spans = spans_in a.spans.items a.lives.items a.ids.items in
    let lt : k < length spans = inside c.args.self.now a.lits.items a.edges.pairs spans k (ap (λ (x : ArenaState). x.heads) c.self.view_is) c.self.invariant.0.watched (c.requires.within k is) in
    let e = get_or a.edges.pairs k no_pair in
    let at : e ≡ get_or a.edges.pairs k e = get_or_default a.edges.pairs k no_pair e (omega (arith, lt, same_length a.lits.items a.edges.pairs spans c.self.invariant.0.watched)) in
    rw (← c.self.view_is)
    (watched_literal a.lits.items a.edges.pairs spans k (side_in c.args.link) e c.named.result.lit c.self.invariant.0.watched lt at (ap (λ (x : Edge). x.lit) (c.named.ensures k is) ∙ lit_of (side_in c.args.link) e) (rw (← c.self.view_is) at c.requires.long k is))
  where
    lit_of : (v : Bool) (both : Edges) → (cond v both.second both.first).lit ≡ cond v both.second.lit both.first.lit
    lit_of true both = refl
    lit_of false both = refl
