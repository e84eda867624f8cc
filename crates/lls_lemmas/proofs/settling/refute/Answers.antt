use Rattle.std.proofs.Common.{◌≡◌, ◌+◌, ◌++◌, ◌∷◌, [], true, List, length, refl, sym, ap, ◌∙◌, subst, arith}
use Rattle.std.specs.Prelude.{ℤ}
use Rattle.std.specs.List.{list_all}
use Rattle.lls_prooflog.specs.Log.{Logged}
use Rattle.lls_prooflog.specs.declared.step.Step.{Step}
use Rattle.lls_prooflog.specs.declared.step.Step.TheVariants.{Add}
use Rattle.lls_prooflog.specs.Spent.{live_after}
use Rattle.lls_prooflog.proofs.Soundness.{unsatisfiable_at_empty}
use Rattle.lls_lemmas.specs.Behind.{GivesClause, Grows}
use Rattle.lls_lemmas.specs.Closing.{is_id_hint}
use Rattle.lls_lemmas.specs.Lemmas.{AreRising}
use Rattle.lls_lemmas.proofs.AtZero.{gives_empty}
use Rattle.lls_lemmas.proofs.Logs.{adds_by_propagation, adds_good, adds_in_range, adds_keeps, adds_no_fault, grows-one, id_hints, rising-push}
use Rattle.lls_lemmas.proofs.settling.refute.Goals as goal

pub push_add-requires-clause-in_range : goal.push_add-requires-clause-in_range
push_add-requires-clause-in_range g c =
    let P : List ℤ → Type 0 = λ hs. list_all is_id_hint hs ≡ true in
    adds_in_range (c.args.last + 1) [] c.as_slice-hints.result.now (omega arith) (omega (arith, c.if-last-ge-MOST_ID.false)) (id_hints c.as_slice-hints.result.now (subst P (sym c.as_slice-hints.ensures.value) c.gather.ensures.in_range)).0

pub returns-clause-grows : goal.returns-clause-grows
returns-clause-grows g c =
    let formula = c.args.formula.now in
    let s = g.S.Store.state c.args.store.now in
    let t = c.args.trail.now in
    let u = c.requires.rest.has_units in
    let last = c.args.last in
    let hints = c.as_slice-hints.result.now in
    let more : List Step = Add (last + 1) [] hints ∷ [] in
    let is : c.push_add.new.self.steps ≡ c.args.log.now.steps ++ more = ap (λ (l : Logged). l.steps) c.push_add.ensures ∙ ap (λ (ss : List Step). ss ++ more) c.in_ok-reserve.ensures.widens.steps_stay in
    let P : List Step → Type 0 = λ steps. Grows formula c.args.log.now.steps steps in
    let Q : List ℤ → Type 0 = λ hs. list_all is_id_hint hs ≡ true in
    let R : List ℤ → Type 0 = λ hs. GivesClause s.live [] hs in
    let gives = subst R (sym c.as_slice-hints.ensures.value) (gives_empty s.live t c.len-end.result c.args.conflict c.gather.new.gathering.hints.items u.is_trail u.level (omega (arith, c.len-end.ensures.len)) c.requires.conflict c.in_ok-gather.ensures.gives) in
    let adds = adds_by_propagation s.live [] hints gives in
    let good = adds_good formula c.args.log.now.steps s last [] hints c.requires.rest.holds adds gives (subst Q (sym c.as_slice-hints.ensures.value) c.gather.ensures.in_range) in
    subst P (sym is) (grows-one formula c.args.log.now.steps (c.args.log.now.steps ++ more) (last + 1) [] hints refl tt good (adds_keeps formula c.args.log.now.steps s last [] hints c.requires.rest.holds adds))

pub returns-clause-unsatisfiable : goal.returns-clause-unsatisfiable
returns-clause-unsatisfiable g c =
    let formula = c.args.formula.now in
    let s = g.S.Store.state c.args.store.now in
    let t = c.args.trail.now in
    let u = c.requires.rest.has_units in
    let hints = c.gather.new.gathering.hints.items in
    let steps = c.args.log.now.steps in
    let gives = gives_empty s.live t c.len-end.result c.args.conflict hints u.is_trail u.level (omega (arith, c.len-end.ensures.len)) c.requires.conflict c.in_ok-gather.ensures.gives in
    unsatisfiable_at_empty formula (live_after formula steps) (Add (c.args.last + 1) [] hints) c.requires.rest.holds.kept
    (adds_no_fault formula steps s c.args.last [] hints c.requires.rest.holds (adds_by_propagation s.live [] hints gives)) refl

pub returns-clause-rising : goal.returns-clause-rising
returns-clause-rising g c =
    let formula = c.args.formula.now in
    let steps = c.args.log.now.steps in
    let hints = c.as_slice-hints.result.now in
    let more : List Step = Add (c.args.last + 1) [] hints ∷ [] in
    let is : c.push_add.new.self.steps ≡ steps ++ more = ap (λ (l : Logged). l.steps) c.push_add.ensures ∙ ap (λ (ss : List Step). ss ++ more) c.in_ok-reserve.ensures.widens.steps_stay in
    let holds = c.requires.rest.holds in
    subst (λ (ss : List Step). AreRising (length formula.clauses) ss) (sym is) (rising-push (length formula.clauses) steps (c.args.last + 1) [] hints holds.rising (omega (arith, holds.most)))
