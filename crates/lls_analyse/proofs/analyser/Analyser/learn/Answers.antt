use Rattle.std.proofs.Common.{ap, sym, subst, ◌∙◌, ◌++◌, ◌∷◌, [], length, arith}
use Rattle.std.specs.Prelude.{ℤ, List}
use Rattle.lls_lit.specs.Formula.{is_within}
use Rattle.lls_prooflog.specs.Log.{Logged}
use Rattle.lls_prooflog.specs.Spent.{has_variables_once}
use Rattle.lls_prooflog.specs.declared.step.Step.TheVariants.{Add}
use Rattle.lls_store.specs.Store.{IsLearnt, sealed}
use Rattle.lls_analyse.specs.Gathered.{back_of}
use Rattle.lls_analyse.specs.Valued.{HaveValues}
use Rattle.lls_analyse.proofs.Valued.{all_have_values}
use Rattle.lls_analyse.proofs.Steps.{learns}
use Rattle.lls_analyse.proofs.Learned.{false_member, within_clause, once_clause, learnt_clause, few_clause}
use Rattle.lls_analyse.proofs.Traces.{resolved_given}
use Rattle.lls_analyse.proofs.analyser.Analyser.learn.Goals as goal

pub push_add-requires-clause-spare : goal.push_add-requires-clause-spare
push_add-requires-clause-spare g c =
    let a = c.analyse.ensures.analysis in
    let few = few_clause c.args.trail.now a.seen c.analyse.new.clause.items c.len.ensures.kept a.visited a.resolved.analysed.marked a.resolved.opens a.gathered in
    record {
      steps_fit = c.requires.spare.steps_fit;
      lits_fit = omega (arith, few, ap (λ (ls : List ℤ). length ls) c.as_slice.ensures.value, c.requires.spare.lits_fit, c.requires.vars);
      hints_fit = omega (arith, a.hinted.few, a.resolved.analysed.marked.same_vars, ap (λ (hs : List ℤ). length hs) c.as_slice-2.ensures.value, c.requires.spare.hints_fit, c.requires.vars);
    }

pub store_clause-requires-clause-within : goal.store_clause-requires-clause-within
store_clause-requires-clause-within g c =
    let a = c.analyse.ensures.analysis in
    ap (is_within (g.S.Store.state c.args.store.now).vars) c.as_slice-3.ensures.value
    ∙ ap (λ n. is_within n c.analyse.new.clause.items) (sym (g.met.S.Store.tracks_vars c.args.store.now c.args.trail.now c.requires.tracked))
    ∙ within_clause c.args.trail.now a.seen c.analyse.new.clause.items c.len.ensures.kept a.visited a.resolved.analysed.marked a.resolved.opens a.gathered

pub store_clause-requires-clause-once : goal.store_clause-requires-clause-once
store_clause-requires-clause-once g c =
    let a = c.analyse.ensures.analysis in
    ap has_variables_once c.as_slice-3.ensures.value ∙ once_clause c.args.trail.now a.seen c.analyse.new.clause.items c.len.ensures.kept a.visited a.resolved.analysed.marked a.resolved.opens a.gathered

pub store_clause-requires-clause-learnt : goal.store_clause-requires-clause-learnt
store_clause-requires-clause-learnt g c =
    let a = c.analyse.ensures.analysis in
    let P : List ℤ → Type 0 = λ ls. IsLearnt c.args.trail.now ls in
    subst P (sym c.as_slice-3.ensures.value) (learnt_clause c.args.trail.now a.seen c.analyse.new.clause.items c.len.ensures.kept a.visited a.resolved.analysed.marked a.resolved.opens a.gathered)

pub back_of-requires : goal.back_of-requires
back_of-requires g c =
    let a = c.analyse.ensures.analysis in
    subst (HaveValues c.args.trail.now.entries) (sym c.as_slice-4.ensures.value) (all_have_values c.args.trail.now.entries c.analyse.new.clause.items (false_member c.args.trail.now a.seen c.analyse.new.clause.items c.len.ensures.kept a.visited a.resolved.analysed.marked a.resolved.opens a.gathered))

pub returns-clause-learns : goal.returns-clause-learns
returns-clause-learns g c =
    let store = g.S.Store.state c.args.store.now in
    let lits = c.analyse.new.clause.items in
    let hints = c.analyse.new.hints.items in
    learns store (g.S.Store.state c.store_clause.new.store) c.args.trail.now c.args.conflict c.args.id c.back_of.result lits hints c.args.log.now.steps c.push_add.new.self.steps c.len.ensures.kept c.count.ensures.live c.requires.sound c.requires.conflict.conflict c.requires.id c.requires.level c.analyse.ensures.analysis
    (c.back_of.ensures ∙ ap (back_of c.args.trail.now.entries) c.as_slice-4.ensures.value)
    (ap (λ (l : Logged). l.steps) c.push_add.ensures ∙ ap (λ (ls : List ℤ). c.args.log.now.steps ++ Add c.args.id ls c.as_slice-2.result.now ∷ []) c.as_slice.ensures.value ∙ ap (λ (hs : List ℤ). c.args.log.now.steps ++ Add c.args.id lits hs ∷ []) c.as_slice-2.ensures.value)
    (c.store_clause.ensures.state ∙ ap (λ (ls : List ℤ). sealed (record store { tail = ls }) c.args.id) c.as_slice-3.ensures.value)

pub returns-clause-resolved : goal.returns-clause-resolved
returns-clause-resolved g c =
    resolved_given (g.S.Store.state c.args.store.now) c.args.trail.now c.args.conflict c.trace.new.met.items c.trace.new.resolved.items c.count.ensures.live c.trace.ensures.comes_by
