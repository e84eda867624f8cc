use Rattle.std.proofs.Common.{◌≡◌, take, ap, ◌∙◌, arith, subst, sym}
use Rattle.lls_lit.specs.Literal.{variable_of}
use Rattle.std.specs.Prelude.{max, IsSome}
use Rattle.std.specs.Option.{unwrap_or}
use Rattle.std.proofs.lemmas.List.Elements.{All-contains}
use Rattle.lls_store.specs.Trail.{entry_of, level_of}
use Rattle.lls_store.proofs.Standings.{take-read}
use Rattle.lls_solver.proofs.Conflicts.{highest_next, worth_most, ord_max-nat}
use Rattle.lls_solver.proofs.conflict.highest_level.Goals as goal

pub known_level-requires : goal.known_level-requires
known_level-requires c =
    let entries = c.args.trail.now.entries in
    let l = c.lit-item.result in
    let known = All-contains (λ m. IsSome (entry_of entries (variable_of m))) c.args.lits.now l c.requires.have_values (c.loop-lit.lit-index, c.loop-lit-test.true, sym c.lit-item.is) in
    subst (λ v. IsSome (entry_of entries v)) (sym c.var.ensures.var) known

pub loop-lit-preserved : goal.loop-lit-preserved
loop-lit-preserved c =
    let t = c.args.trail.now in
    let l = c.lit-item.result in
    let level : unwrap_or (level_of t.entries (variable_of l)) 0 ≡ c.known_level.result =
    ap (λ v. unwrap_or (level_of t.entries v) 0) (sym c.var.ensures.var) ∙ ap (λ o. unwrap_or o 0) c.known_level.ensures
    in
    let greater : c.max-highest.result ≡ max c.loop-lit.highest (unwrap_or (level_of t.entries (variable_of l)) 0) =
    c.max-highest.ensures ∙ ord_max-nat c.loop-lit.highest c.known_level.result ∙ ap (λ n. max c.loop-lit.highest n) (sym level)
    in
    record {
      highest = rw (take-read c.args.lits.now c.loop-lit.lit-index l c.loop-lit-test.true c.lit-item.is) (highest_next t (take c.loop-lit.lit-index c.args.lits.now) l c.loop-lit.highest c.max-highest.result c.loop-lit.invariant.highest greater);
      most = omega (arith, greater, c.loop-lit.invariant.most, worth_most t (variable_of l) c.requires.trail);
    }
