use Rattle.std.proofs.Common.{◌≡◌, ap, sym, ◌∙◌, arith, w64, Some}
use Rattle.std.specs.Prelude.{ℤ, pos, negsuc, ◌<◌, ◌^◌}
use Rattle.std.proofs.lemmas.Int.{to_z-of_z, to_z_pos, ints}
use mir.Val.{to_z, of_z}
use lib.Signed.{mag}
use Rattle.lls_store.specs.Trail.{entry_of, reason_of}
use Rattle.lls_store.specs.Clauses.{clause_numbered}
use Rattle.lls_analyse.specs.Hinted.{hint_of}
use Rattle.lls_analyse.proofs.LiveClauses.{forced_known, IsSome-from}
use Rattle.lls_analyse.proofs.HintLists.{reason_at, hint_at-forced}
use Rattle.lls_analyse.proofs.hints.hint.Goals as goal

told : {X : Type 0} → {a b : X} → Some a ≡ Some b → a ≡ b
told is = cc

passed : (r : ℤ) → mag r < 2 ^ 63 → to_z w64 (of_z w64 r) ≡ r
passed (pos n) fits = to_z_pos w64 n (omega (arith, fits))
passed (negsuc n) fits = to_z-of_z w64 (negsuc n) (omega (arith, ints, fits))

pub known_reason-requires : goal.known_reason-requires
known_reason-requires g c =
    let live = (g.S.Store.state c.args.store.now).live in
    let t = c.args.trail.now in
    let f = c.requires.forced in
    forced_known (entry_of t.entries c.var-var.result) (IsSome-from (reason_of t.entries c.var-var.result) f.reason (reason_at live t c.args.place c.var-var.result c.lit.result c.requires.kept f c.lit.ensures c.var-var.ensures.var))

pub unwrap-reason-requires : goal.unwrap-reason-requires
unwrap-reason-requires g c =
    let live = (g.S.Store.state c.args.store.now).live in
    IsSome-from c.known_reason.result c.requires.forced.reason (c.known_reason.ensures ∙ reason_at live c.args.trail.now c.args.place c.var-var.result c.lit.result c.requires.kept c.requires.forced c.lit.ensures c.var-var.ensures.var)

pub clause_hint-requires-clause-is_live : goal.clause_hint-requires-clause-is_live
clause_hint-requires-clause-is_live g c =
    let live = (g.S.Store.state c.args.store.now).live in
    let f = c.requires.forced in
    let same : f.reason ≡ c.unwrap-reason.result = told (sym (reason_at live c.args.trail.now c.args.place c.var-var.result c.lit.result c.requires.kept f c.lit.ensures c.var-var.ensures.var) ∙ sym c.known_reason.ensures ∙ c.unwrap-reason.ensures) in
    IsSome-from (clause_numbered live c.unwrap-reason.result) f.clause (ap (clause_numbered live) (sym same) ∙ f.is_live)

pub returns : goal.returns
returns g c =
    let live = (g.S.Store.state c.args.store.now).live in
    let f = c.requires.forced in
    let same : f.reason ≡ c.unwrap-reason.result = told (sym (reason_at live c.args.trail.now c.args.place c.var-var.result c.lit.result c.requires.kept f c.lit.ensures c.var-var.ensures.var) ∙ sym c.known_reason.ensures ∙ c.unwrap-reason.ensures) in
    passed c.clause_hint.result c.clause_hint.type_inv ∙ c.clause_hint.ensures ∙ ap (hint_of live) (sym same) ∙ sym (hint_at-forced live c.args.trail.now.entries c.args.place f)
