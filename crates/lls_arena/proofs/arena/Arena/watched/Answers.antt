use Rattle.std.proofs.Common.{◌≡◌, ◌<◌, Bool, true, false, cond, length, get_or, ap, ◌∙◌, refl, arith}
use Rattle.lls_arena.specs.declared.edges.Edge.{Edge}
use Rattle.lls_arena.specs.declared.edges.Edges.{Edges}
use Rattle.std.proofs.lemmas.List.{get_or_default}
use Rattle.lls_arena.specs.Links.{no_pair}
use Rattle.lls_arena.specs.Arena.{ArenaState}
use Rattle.lls_arena.specs.Parts.{spans_in}
use Rattle.lls_arena.proofs.Heads.{inside, same_length, watched_literal}
use Rattle.lls_arena.proofs.arena.Arena.watched.Goals as goal

pub edge-requires-clause-within : goal.edge-requires-clause-within
edge-requires-clause-within c =
    let a = c.self.inside in
    let spans = spans_in a.spans.items a.lives.items a.ids.items in
    let lt : c.args.c < length spans = inside c.args.self.now a.lits.items a.edges.pairs spans c.args.c (ap (λ (x : ArenaState). x.heads) c.self.view_is) c.self.invariant.0.watched c.requires.count in
    omega (arith, lt, same_length a.lits.items a.edges.pairs spans c.self.invariant.0.watched)

pub edge-requires-clause-few : goal.edge-requires-clause-few
edge-requires-clause-few c =
    let a = c.self.inside in
    let spans = spans_in a.spans.items a.lives.items a.ids.items in
    omega (arith, inside c.args.self.now a.lits.items a.edges.pairs spans c.args.c (ap (λ (x : ArenaState). x.heads) c.self.view_is) c.self.invariant.0.watched c.requires.count, c.self.invariant.0.few)

pub returns : goal.returns
returns c =
    let a = c.self.inside in
    let spans = spans_in a.spans.items a.lives.items a.ids.items in
    let lt : c.args.c < length spans = inside c.args.self.now a.lits.items a.edges.pairs spans c.args.c (ap (λ (x : ArenaState). x.heads) c.self.view_is) c.self.invariant.0.watched c.requires.count in
    let e = get_or a.edges.pairs c.args.c no_pair in
    let at : e ≡ get_or a.edges.pairs c.args.c e = get_or_default a.edges.pairs c.args.c no_pair e (omega (arith, lt, same_length a.lits.items a.edges.pairs spans c.self.invariant.0.watched)) in
    rw (← c.self.view_is)
    (watched_literal a.lits.items a.edges.pairs spans c.args.c c.args.w e c.edge.result.lit c.self.invariant.0.watched lt at (ap (λ (x : Edge). x.lit) c.edge.ensures ∙ lit_of c.args.w e) (rw (← c.self.view_is) at c.requires.long))
  where
    lit_of : (v : Bool) (both : Edges) → (cond v both.second both.first).lit ≡ cond v both.second.lit both.first.lit
    lit_of true both = refl
    lit_of false both = refl
