use Rattle.std.proofs.Common.{◌≡◌, ◌+◌, ◌++◌, ◌∷◌, [], List, Some, sym, ap, ◌∙◌, subst, arith}
use Rattle.lls_prooflog.specs.UnitWalk.{find_clause}
use Rattle.lls_prooflog.specs.Spent.{IsGood, live_after}
use Rattle.lls_prooflog.specs.Log.{Logged}
use Rattle.lls_prooflog.specs.declared.step.Step.{Step}
use Rattle.lls_prooflog.specs.declared.step.Step.TheVariants.{Add}
use Rattle.lls_store.specs.Store.{StoreState}
use Rattle.lls_lemmas.specs.Behind.{HoldsLive}
use Rattle.lls_lemmas.specs.Lemmas.{GoesOnBy, GoesOnWell, KeepsLive}
use Rattle.lls_lemmas.proofs.Kept.{kept_push, literals_within}
use Rattle.lls_lemmas.proofs.Logs.{adds_found, adds_good, adds_holds, adds_in_range, adds_keeps, adds_no_fault, adds_well}
use Rattle.lls_lemmas.proofs.logging.push_step.Goals as goal

pub push_add-requires-clause-in_range : goal.push_add-requires-clause-in_range
push_add-requires-clause-in_range g c = adds_in_range (c.args.last.now + 1) c.args.lits.now c.args.hints.now (omega arith) (omega (arith, c.if-last-ge-MOST_ID.false)) c.requires.in_range

pub returns-clause-found : goal.returns-clause-found
returns-clause-found g c =
    let formula = c.args.formula.now in
    let lits = c.args.lits.now in
    let last = c.args.last.now in
    let more : List Step = Add (last + 1) lits c.args.hints.now ∷ [] in
    let is : c.push_add.new.self.steps ≡ c.args.log.now.steps ++ more = ap (λ (l : Logged). l.steps) c.push_add.ensures ∙ ap (λ (ss : List Step). ss ++ more) c.in_ok-reserve.ensures.widens.steps_stay in
    let P : List Step → Type 0 = λ steps. find_clause (live_after formula steps) (last + 1) ≡ Some lits in
    subst P (sym is) (adds_found formula c.args.log.now.steps (g.S.Store.state c.args.store.now) last lits c.args.hints.now c.requires.holds c.requires.adds)

pub returns-clause-holds : goal.returns-clause-holds
returns-clause-holds g c =
    let formula = c.args.formula.now in
    let lits = c.args.lits.now in
    let last = c.args.last.now in
    let s = g.S.Store.state c.args.store.now in
    let hints = c.args.hints.now in
    let more : List Step = Add (last + 1) lits hints ∷ [] in
    let is : c.push_add.new.self.steps ≡ c.args.log.now.steps ++ more = ap (λ (l : Logged). l.steps) c.push_add.ensures ∙ ap (λ (ss : List Step). ss ++ more) c.in_ok-reserve.ensures.widens.steps_stay in
    let kept = kept_push formula c.args.log.now.steps s last (Add (last + 1) lits hints) c.requires.holds c.count.ensures.live (literals_within s.vars lits c.requires.within) (adds_no_fault formula c.args.log.now.steps s last lits hints c.requires.holds c.requires.adds) in
    let P : List Step → Type 0 = λ steps. HoldsLive formula steps (g.S.Store.state c.add.new.self) (last + 1) in
    let Q : StoreState → Type 0 = λ x. HoldsLive formula (c.args.log.now.steps ++ more) x (last + 1) in
    subst P (sym is) (subst Q (sym c.in_ok-add.ensures.ok) (adds_holds formula c.args.log.now.steps s last lits hints c.requires.holds c.requires.adds kept))

pub returns-clause-well : goal.returns-clause-well
returns-clause-well g c =
    let formula = c.args.formula.now in
    let lits = c.args.lits.now in
    let last = c.args.last.now in
    let more : List Step = Add (last + 1) lits c.args.hints.now ∷ [] in
    let is : c.push_add.new.self.steps ≡ c.args.log.now.steps ++ more = ap (λ (l : Logged). l.steps) c.push_add.ensures ∙ ap (λ (ss : List Step). ss ++ more) c.in_ok-reserve.ensures.widens.steps_stay in
    let P : List Step → Type 0 = λ steps. GoesOnWell formula c.args.log.now.steps steps in
    subst P (sym is) (adds_well formula c.args.log.now.steps (g.S.Store.state c.args.store.now) last lits c.args.hints.now c.requires.holds c.requires.adds)

pub returns-clause-keeps : goal.returns-clause-keeps
returns-clause-keeps g c =
    let formula = c.args.formula.now in
    let lits = c.args.lits.now in
    let last = c.args.last.now in
    let more : List Step = Add (last + 1) lits c.args.hints.now ∷ [] in
    let is : c.push_add.new.self.steps ≡ c.args.log.now.steps ++ more = ap (λ (l : Logged). l.steps) c.push_add.ensures ∙ ap (λ (ss : List Step). ss ++ more) c.in_ok-reserve.ensures.widens.steps_stay in
    let P : List Step → Type 0 = λ steps. KeepsLive formula c.args.log.now.steps steps in
    subst P (sym is) (adds_keeps formula c.args.log.now.steps (g.S.Store.state c.args.store.now) last lits c.args.hints.now c.requires.holds c.requires.adds)

pub returns-clause-good : goal.returns-clause-good
returns-clause-good g c = λ gives all.
    let formula = c.args.formula.now in
    let lits = c.args.lits.now in
    let last = c.args.last.now in
    let more : List Step = Add (last + 1) lits c.args.hints.now ∷ [] in
    let is : c.push_add.new.self.steps ≡ c.args.log.now.steps ++ more = ap (λ (l : Logged). l.steps) c.push_add.ensures ∙ ap (λ (ss : List Step). ss ++ more) c.in_ok-reserve.ensures.widens.steps_stay in
    let P : List Step → Type 0 = λ steps. GoesOnBy IsGood formula c.args.log.now.steps steps in
    subst P (sym is) (adds_good formula c.args.log.now.steps (g.S.Store.state c.args.store.now) last lits c.args.hints.now c.requires.holds c.requires.adds gives all)
