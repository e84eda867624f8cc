use Rattle.std.proofs.Common.{◌≡◌, ◌<◌, true, length, get_or, ap, ◌∙◌, arith}
use Rattle.std.proofs.lemmas.List.{get_or_default}
use Rattle.lls_arena.specs.declared.edges.Edge.{Edge}
use Rattle.lls_arena.specs.Links.{link_in, no_pair}
use Rattle.std.specs.Prelude.{unwrap_or, Option, ℕ}
use Rattle.lls_arena.specs.Arena.{ArenaState}
use Rattle.lls_arena.specs.Parts.{spans_in}
use Rattle.lls_arena.proofs.Heads.{live_inside, same_length}
use Rattle.lls_arena.proofs.Told.{told_at}
use Rattle.lls_arena.proofs.Rows.{lives-spans_in}
use Rattle.lls_arena.proofs.arena.Arena.moved_to.Goals as goal

pub edge-requires-clause-within : goal.edge-requires-clause-within
edge-requires-clause-within c =
    let a = c.self.inside in
    let spans = spans_in a.spans.items a.lives.items a.ids.items in
    let lt : c.args.c < length spans = live_inside c.args.self.now a.lits.items a.edges.pairs spans c.args.c (ap (λ (x : ArenaState). x.heads) c.self.view_is) c.self.invariant.0.watched c.requires.live in
    omega (arith, lt, same_length a.lits.items a.edges.pairs spans c.self.invariant.0.watched)

pub edge-requires-clause-few : goal.edge-requires-clause-few
edge-requires-clause-few c =
    let a = c.self.inside in
    let spans = spans_in a.spans.items a.lives.items a.ids.items in
    omega (arith, live_inside c.args.self.now a.lits.items a.edges.pairs spans c.args.c (ap (λ (x : ArenaState). x.heads) c.self.view_is) c.self.invariant.0.watched c.requires.live, c.self.invariant.0.few)

pub returns : goal.returns
returns c =
    let a = c.self.inside in
    let spans = spans_in a.spans.items a.lives.items a.ids.items in
    let lt : c.args.c < length spans = live_inside c.args.self.now a.lits.items a.edges.pairs spans c.args.c (ap (λ (x : ArenaState). x.heads) c.self.view_is) c.self.invariant.0.watched c.requires.live in
    let planned : a.planned ≡ true = ap (λ (x : ArenaState). x.planned) c.self.view_is ∙ c.requires.planned in
    let e = get_or a.edges.pairs c.args.c no_pair in
    let at : e ≡ get_or a.edges.pairs c.args.c e = get_or_default a.edges.pairs c.args.c no_pair e (omega (arith, lt, same_length a.lits.items a.edges.pairs spans c.self.invariant.0.watched)) in
    rw (← c.self.view_is)
    (told_at a.lits.items a.edges.pairs spans a.lives.items c.args.c c.unwrap_or.result e c.self.invariant.0.watched (lives-spans_in a.spans.items a.lives.items a.ids.items c.self.invariant.3) lt (rw (← c.self.view_is) at c.requires.live) (c.self.invariant.2 planned) at
    (c.unwrap_or.ensures ∙ ap (λ (o : Option ℕ). unwrap_or o c.args.c) c.clause.ensures ∙ ap (λ (x : Edge). unwrap_or (link_in x.next) c.args.c) c.edge.ensures))
