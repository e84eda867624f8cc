use Rattle.std.proofs.Common.{◌≡◌, ◌++◌, ◌∷◌, [], ℕ, List, Option, Some, refl, sym, ap, ◌∙◌, subst}
use Rattle.std.specs.Prelude.{IfSome}
use Rattle.std.specs.Cmp.Derive.{both_true}
use Rattle.std.proofs.lemmas.Option.{same_Some}
use Rattle.lls_prooflog.specs.Log.{Logged}
use Rattle.lls_prooflog.specs.declared.step.Step.{Step}
use Rattle.lls_prooflog.specs.declared.step.Step.TheVariants.{Del}
use Rattle.lls_store.specs.Clauses.{LiveClause, clause_numbered}
use Rattle.lls_store.specs.Store.{StoreState}
use Rattle.lls_analyse.proofs.LiveClauses.{number_given, some_of}
use Rattle.lls_analyse.proofs.HintLists.{id_in_range}
use Rattle.lls_lemmas.specs.Lemmas.{DeletesOne}
use Rattle.lls_lemmas.specs.Units.{HasSettled, IsAtRest}
use Rattle.lls_lemmas.proofs.Logs.{id_within}
use Rattle.lls_lemmas.proofs.Without.{without_deletes, without_rest, without_settled}
use Rattle.lls_lemmas.proofs.deleting.delete_clause.Goals as goal

-- the id that was read is the clause's
read_id : (o : Option LiveClause) (clause : LiveClause) (id : ℕ) → o ≡ Some clause → IfSome o (λ c. id ≡ c.id) → id ≡ clause.id
read_id o clause id is read =
    let P : Option LiveClause → Type 0 = λ x. IfSome x (λ (c : LiveClause). id ≡ c.id) in
    subst P is read

pub id-id-requires : goal.id-id-requires
id-id-requires g c =
    number_given (g.S.Store.state c.args.store.now) c.args.number c.requires.live c.requires.is_live

pub push_del-requires-clause-in_range : goal.push_del-requires-clause-in_range
push_del-requires-clause-in_range g c =
    let s = g.S.Store.state c.args.store.now in
    let range = id_in_range s c.args.number c.id-id.result c.requires.live c.requires.is_live c.id-id.ensures in
    both_true (id_within c.id-id.result range.0 range.1.0) refl

pub returns-clause-deletes : goal.returns-clause-deletes
returns-clause-deletes g c =
    let s = g.S.Store.state c.args.store.now in
    let found = some_of (clause_numbered s.live c.args.number) c.requires.is_live in
    let clause = found.0 in
    let id = read_id (clause_numbered s.live c.args.number) clause c.id-id.result found.1 c.id-id.ensures in
    let is : c.push_del.new.self.steps ≡ c.args.log.now.steps ++ Del (clause.id ∷ []) ∷ [] =
    ap (λ (l : Logged). l.steps) c.push_del.ensures ∙ ap (λ (ss : List Step). ss ++ Del (c.id-id.result ∷ []) ∷ []) c.in_ok-reserve.ensures.widens.steps_stay ∙ ap (λ n. c.args.log.now.steps ++ Del (n ∷ []) ∷ []) id
    in
    λ lits has.
    subst (λ (steps : List Step). DeletesOne c.args.formula.now c.args.log.now.steps steps lits) (sym is)
    (without_deletes c.args.formula.now c.args.log.now.steps s c.args.trail.now c.args.units.now c.args.done c.args.last c.args.number c.requires.rest c.requires.live clause found.1 c.requires.free lits (has.same ∙ ap (λ (x : LiveClause). x.lits) (same_Some has.clause clause (sym has.is_live ∙ found.1))))

pub returns-clause-rest : goal.returns-clause-rest
returns-clause-rest g c =
    let s = g.S.Store.state c.args.store.now in
    let found = some_of (clause_numbered s.live c.args.number) c.requires.is_live in
    let clause = found.0 in
    let id = read_id (clause_numbered s.live c.args.number) clause c.id-id.result found.1 c.id-id.ensures in
    let is : c.push_del.new.self.steps ≡ c.args.log.now.steps ++ Del (clause.id ∷ []) ∷ [] =
    ap (λ (l : Logged). l.steps) c.push_del.ensures ∙ ap (λ (ss : List Step). ss ++ Del (c.id-id.result ∷ []) ∷ []) c.in_ok-reserve.ensures.widens.steps_stay ∙ ap (λ n. c.args.log.now.steps ++ Del (n ∷ []) ∷ []) id
    in
    let P : List Step → Type 0 = λ steps. IsAtRest c.args.formula.now steps (g.S.Store.state c.remove.new.self) c.args.trail.now c.args.units.now c.args.done c.args.last in
    let Q : StoreState → Type 0 = λ x. IsAtRest c.args.formula.now (c.args.log.now.steps ++ Del (clause.id ∷ []) ∷ []) x c.args.trail.now c.args.units.now c.args.done c.args.last in
    subst P (sym is) (subst Q (sym c.remove.ensures.state)
    (without_rest c.args.formula.now c.args.log.now.steps s c.args.trail.now c.args.units.now c.args.done c.args.last c.args.number c.requires.rest c.requires.live clause found.1 c.requires.free))

pub returns-clause-settled : goal.returns-clause-settled
returns-clause-settled g c =
    let s = g.S.Store.state c.args.store.now in
    let found = some_of (clause_numbered s.live c.args.number) c.requires.is_live in
    let clause = found.0 in
    λ settled. subst (λ (x : StoreState). HasSettled x c.args.trail.now c.args.done) (sym c.remove.ensures.state)
    (without_settled c.args.formula.now c.args.log.now.steps s c.args.trail.now c.args.units.now c.args.done c.args.last c.args.number c.requires.rest c.requires.live clause found.1 c.requires.free settled)
