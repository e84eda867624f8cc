use Rattle.std.proofs.Common.{◌<◌, List, drop, false, length, ap, arith}
use Rattle.lls_arena.specs.Arena.{ArenaState, HeadState}
use Rattle.lls_arena.specs.Parts.{spans_in}
use Rattle.lls_arena.proofs.Heads.{live_inside}
use Rattle.lls_arena.proofs.Changed.{AreParts-life, heads_in-killed}
use Rattle.lls_arena.proofs.Told.{no_plan}
use Rattle.lls_arena.proofs.Rows.{HaveRows-life, length-spans_in}
use Rattle.lls_arena.proofs.arena.Arena.kill.Goals as goal

pub index_mut-requires : goal.index_mut-requires
index_mut-requires c =
    let a = c.self.inside in
    let spans = spans_in a.spans.items a.lives.items a.ids.items in
    let lt : c.args.c < length spans = live_inside c.args.self.now a.lits.items a.edges.pairs spans c.args.c (ap (λ (x : ArenaState). x.heads) c.self.view_is) c.self.invariant.0.watched c.requires in
    omega (arith, lt, length-spans_in a.spans.items a.lives.items a.ids.items c.self.invariant.3, c.self.invariant.3.lives_each)

pub invariant_of-self : goal.invariant_of-self
invariant_of-self c =
    let a = c.self.inside in
    let spans = spans_in a.spans.items a.lives.items a.ids.items in
    let lt : c.args.c < length spans = live_inside c.args.self.now a.lits.items a.edges.pairs spans c.args.c (ap (λ (x : ArenaState). x.heads) c.self.view_is) c.self.invariant.0.watched c.requires in (
      AreParts-life a.lits.items a.edges.pairs a.spans.items a.lives.items a.ids.items a.tail c.args.c _ lt c.self.invariant.0,
      c.self.invariant.1,
      no_plan _,
      HaveRows-life a.spans.items a.lives.items a.ids.items c.args.c _ c.self.invariant.3,
    )

pub returns : goal.returns
returns c =
    let a = c.self.inside in
    let spans = spans_in a.spans.items a.lives.items a.ids.items in
    let lt : c.args.c < length spans = live_inside c.args.self.now a.lits.items a.edges.pairs spans c.args.c (ap (λ (x : ArenaState). x.heads) c.self.view_is) c.self.invariant.0.watched c.requires in
    rw (← c.self.view_is)
    (ap (λ (heads : List HeadState). record { heads = heads; tail = drop a.tail a.lits.items; spare_heads = a.spare_heads; spare_lits = a.spare_lits; planned = false }) (heads_in-killed a.lits.items a.edges.pairs a.spans.items a.lives.items a.ids.items c.args.c lt))
