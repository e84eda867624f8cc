use Rattle.std.proofs.Common.{◌≡◌, ◌∷◌, ◌++◌, [], ℕ, true, List, Some, sym, ap, ◌∙◌, subst, take, refl, ◌≤◌, arith}
use Rattle.std.specs.Prelude.{ℤ, slice_get}
use Rattle.std.specs.List.{list_all}
use Rattle.std.specs.FinSet as set
use Rattle.std.proofs.lemmas.Bool.Decides.{nat_tests}
use Rattle.std.specs.Cmp.Derive.{both_true}
use Rattle.std.proofs.lemmas.Option.{same_Some}
use Rattle.lls_lit.specs.Literal.{variable_of}
use Rattle.lls_lit.specs.Formula.{is_literal_of}
use Rattle.lls_prooflog.specs.Spent.{live_after}
use Rattle.lls_prooflog.specs.declared.step.Step.{Step}
use Rattle.lls_prooflog.specs.declared.step.Step.TheVariants.{Add}
use Rattle.lls_store.specs.Trail.{entry_of, has, literals_of, reason_of}
use Rattle.lls_store.specs.Clauses.{clause_numbered}
use Rattle.lls_store.specs.Sound.{IsForced}
use Rattle.lls_store.specs.Store.{StoreState, with_clause}
use Rattle.lls_analyse.proofs.LiveClauses.{IsSome-from, number_given}
use Rattle.lls_analyse.proofs.Trails.{has_here}
use Rattle.lls_lemmas.specs.Behind.{GivesClause, Grows}
use Rattle.lls_lemmas.specs.Closing.{is_id_hint}
use Rattle.lls_lemmas.specs.Indexed.{set_hash, IsFound}
use Rattle.lls_lemmas.specs.Lemmas.{LacksUnit}
use Rattle.lls_lemmas.specs.Units.{HasUnits, IsUnit, StoreGrows}
use Rattle.lls_lemmas.proofs.Found.{in_store}
use Rattle.lls_lemmas.proofs.Indexing.{found_kept, found_more, single_plain}
use Rattle.lls_lemmas.proofs.Logs.{adds_by_propagation, grows-none, grows-one, id_hints}
use Rattle.lls_lemmas.proofs.Reading.{either, either_store_by, if_ok_weaker}
use Rattle.lls_lemmas.proofs.UnitTables.{forced_place, gives_unit, store_more, store_stays, unit_added, unit_found, units_more}
use Rattle.lls_lemmas.proofs.units.unit_id.Goals as goal

pub known_reason-requires : goal.known_reason-requires
known_reason-requires g c =
    let t = c.args.trail.now in
    let u = c.requires.rest.has_units in
    let f = forced_place (g.S.Store.state c.args.store.now).live t c.args.place c.lit-lit.result u.is_trail u.level u.sound c.lit-lit.ensures in
    IsSome-from (entry_of t.entries c.var.result) f.read.entry (ap (entry_of t.entries) c.var.ensures.var ∙ f.read.is_entry)

pub unwrap-reason-requires : goal.unwrap-reason-requires
unwrap-reason-requires g c =
    let t = c.args.trail.now in
    let u = c.requires.rest.has_units in
    let f = forced_place (g.S.Store.state c.args.store.now).live t c.args.place c.lit-lit.result u.is_trail u.level u.sound c.lit-lit.ensures in
    IsSome-from c.known_reason.result f.reason (c.known_reason.ensures ∙ ap (reason_of t.entries) c.var.ensures.var ∙ f.is_reason)

pub hash_of-hash-requires : goal.hash_of-hash-requires
hash_of-hash-requires g c =
    let t = c.args.trail.now in
    let u = c.requires.rest.has_units in
    let f = forced_place (g.S.Store.state c.args.store.now).live t c.args.place c.lit-lit.result u.is_trail u.level u.sound c.lit-lit.ensures in
    both_true (ap (λ n. is_literal_of n c.lit-lit.result) c.requires.vars ∙ f.read.within) refl

pub find-requires-clause-within : goal.find-requires-clause-within
find-requires-clause-within g c =
    let t = c.args.trail.now in
    let u = c.requires.rest.has_units in
    let f = forced_place (g.S.Store.state c.args.store.now).live t c.args.place c.lit-lit.result u.is_trail u.level u.sound c.lit-lit.ensures in
    both_true (ap (λ n. is_literal_of n c.lit-lit.result) (c.hash_of-hash.ensures.vars ∙ c.requires.vars) ∙ f.read.within) refl

pub id-requires : goal.id-requires
id-requires g c =
    let s = g.S.Store.state c.args.store.now in
    let h = c.in-Some.ensures.has in
    number_given s c.in-Some.number c.count-count.ensures.live (IsSome-from (clause_numbered s.live c.in-Some.number) h.clause h.is_live)

pub returns-in-Some-clause-unit : goal.returns-in-Some-clause-unit
returns-in-Some-clause-unit g c = λ l at.
    let s = g.S.Store.state c.args.store.now in
    let t = c.args.trail.now in
    let u = c.requires.rest.has_units in
    let f = forced_place s.live t c.args.place c.lit-lit.result u.is_trail u.level u.sound c.lit-lit.ensures in
    let same : c.lit-lit.result ≡ l = same_Some c.lit-lit.result l (sym c.lit-lit.ensures ∙ at) in
    let Q : ℤ → Type 0 = λ m. IsUnit s.live t.entries (variable_of m) c.id.result in
    subst Q same (unit_found s t c.args.place c.in-Some.number c.id.result c.lit-lit.result f.read c.in-Some.ensures.has c.id.ensures)

pub gather-requires-clause-closing : goal.gather-requires-clause-closing
gather-requires-clause-closing g c =
    let s = g.S.Store.state c.args.store.now in
    let t = c.args.trail.now in
    let u = c.requires.rest.has_units in
    let f = forced_place s.live t c.args.place c.lit-lit.result u.is_trail u.level u.sound c.lit-lit.ensures in
    let reason : f.reason ≡ c.unwrap-reason.result = same_Some f.reason c.unwrap-reason.result (sym (c.known_reason.ensures ∙ ap (reason_of t.entries) c.var.ensures.var ∙ f.is_reason) ∙ c.unwrap-reason.ensures) in
    IsSome-from (clause_numbered s.live c.unwrap-reason.result) f.forced.clause (ap (clause_numbered s.live) (sym reason) ∙ f.forced.is_live)

pub push_step-requires-clause-within : goal.push_step-requires-clause-within
push_step-requires-clause-within g c =
    let s = g.S.Store.state c.args.store.now in
    let t = c.args.trail.now in
    let u = c.requires.rest.has_units in
    let f = forced_place s.live t c.args.place c.lit-lit.result u.is_trail u.level u.sound c.lit-lit.ensures in
    both_true (ap (λ n. is_literal_of n c.lit-lit.result) u.same_vars ∙ f.read.within) refl

pub push_step-requires-clause-adds : goal.push_step-requires-clause-adds
push_step-requires-clause-adds g c =
    let s = g.S.Store.state c.args.store.now in
    let t = c.args.trail.now in
    let u = c.requires.rest.has_units in
    let f = forced_place s.live t c.args.place c.lit-lit.result u.is_trail u.level u.sound c.lit-lit.ensures in
    let reason : f.reason ≡ c.unwrap-reason.result = same_Some f.reason c.unwrap-reason.result (sym (c.known_reason.ensures ∙ ap (reason_of t.entries) c.var.ensures.var ∙ f.is_reason) ∙ c.unwrap-reason.ensures) in
    let P : ℕ → Type 0 = λ n. IsForced s.live (take c.args.place t.entries) c.lit-lit.result n in
    let Q : List ℤ → Type 0 = λ hs. GivesClause s.live (c.lit-lit.result ∷ []) hs in
    adds_by_propagation s.live (c.lit-lit.result ∷ []) c.as_slice-hints.result.now (
    subst Q (sym c.as_slice-hints.ensures.value) (gives_unit s.live t c.args.place c.unwrap-reason.result c.lit-lit.result c.gather.new.gathering.hints.items u.is_trail u.level (subst P reason f.forced) c.in_ok-gather.ensures.gives))

pub push_step-requires-clause-in_range : goal.push_step-requires-clause-in_range
push_step-requires-clause-in_range g c =
    let P : List ℤ → Type 0 = λ hs. list_all is_id_hint hs ≡ true in
    (id_hints c.as_slice-hints.result.now (subst P (sym c.as_slice-hints.ensures.value) c.gather.ensures.in_range)).0

pub returns-clause-unit : goal.returns-clause-unit
returns-clause-unit g c =
    let s = g.S.Store.state c.args.store.now in
    let new = g.S.Store.state c.push_step.new.store in
    let t = c.args.trail.now in
    let u = c.requires.rest.has_units in
    let lit = c.lit-lit.result in
    let f = forced_place s.live t c.args.place lit u.is_trail u.level u.sound c.lit-lit.ensures in
    if_ok_weaker {P = λ id. new ≡ with_clause s id (lit ∷ [])} {Q = λ id. (l : ℤ) → slice_get (literals_of t.entries) c.args.place ≡ Some l → IsUnit new.live t.entries (variable_of l) id} c.push_step.result (λ id is l at.
    let same : lit ≡ l = same_Some lit l (sym c.lit-lit.ensures ∙ at) in
    let P : ℤ → Type 0 = λ m. IsUnit new.live t.entries (variable_of m) id in
    let Q : StoreState → Type 0 = λ x. IsUnit x.live t.entries (variable_of lit) id in
    subst P same (subst Q (sym is) (unit_added s t c.args.place id lit f.read)))
    c.push_step.ensures.state

pub returns-clause-rest : goal.returns-clause-rest
returns-clause-rest g c =
    let s = g.S.Store.state c.args.store.now in
    let t = c.args.trail.now in
    record {
      holds = c.push_step.ensures.holds;
      has_units = either_store_by c.push_step.result (λ x. HasUnits x t c.args.units.now c.args.place) s (g.S.Store.state c.push_step.new.store) (λ id. with_clause s id (c.lit-lit.result ∷ [])) c.push_step.ensures.state c.push_step.ensures.err
          (λ id. units_more s t c.args.units.now c.args.place id (c.lit-lit.result ∷ []) c.requires.rest.has_units) c.requires.rest.has_units;
    }

pub returns-clause-store : goal.returns-clause-store
returns-clause-store g c =
    let s = g.S.Store.state c.args.store.now in
    let t = c.args.trail.now in
    let u = c.requires.rest.has_units in
    let f = forced_place s.live t c.args.place c.lit-lit.result u.is_trail u.level u.sound c.lit-lit.ensures in
    either_store_by c.push_step.result (λ x. StoreGrows t s x) s (g.S.Store.state c.push_step.new.store) (λ id. with_clause s id (c.lit-lit.result ∷ [])) c.push_step.ensures.state c.push_step.ensures.err
    (λ id. store_more t s id c.lit-lit.result (ap (has t.entries) (sym f.read.same) ∙ has_here t.entries c.args.place f.read.entry f.read.at)) (store_stays t s)

pub returns-clause-grows : goal.returns-clause-grows
returns-clause-grows g c =
    let s = g.S.Store.state c.args.store.now in
    let t = c.args.trail.now in
    let u = c.requires.rest.has_units in
    let f = forced_place s.live t c.args.place c.lit-lit.result u.is_trail u.level u.sound c.lit-lit.ensures in
    let reason : f.reason ≡ c.unwrap-reason.result = same_Some f.reason c.unwrap-reason.result (sym (c.known_reason.ensures ∙ ap (reason_of t.entries) c.var.ensures.var ∙ f.is_reason) ∙ c.unwrap-reason.ensures) in
    let P : ℕ → Type 0 = λ n. IsForced s.live (take c.args.place t.entries) c.lit-lit.result n in
    let Q : List ℤ → Type 0 = λ hs. GivesClause s.live (c.lit-lit.result ∷ []) hs in
    let formula = c.args.formula.now in
    let old = c.args.log.now.steps in
    let new = c.push_step.new.log.steps in
    let hints = c.as_slice-hints.result.now in
    let R : List ℤ → Type 0 = λ hs. list_all is_id_hint hs ≡ true in
    let gives = subst Q (sym c.as_slice-hints.ensures.value) (gives_unit s.live t c.args.place c.unwrap-reason.result c.lit-lit.result c.gather.new.gathering.hints.items u.is_trail u.level (subst P reason f.forced) c.in_ok-gather.ensures.gives) in
    let good = c.push_step.ensures.good gives (subst R (sym c.as_slice-hints.ensures.value) c.gather.ensures.in_range) in
    let lacks : LacksUnit (live_after formula old) c.lit-lit.result = λ id clause found same.
    let there = in_store formula old s c.args.last.now (c.lit-lit.result ∷ []) c.requires.rest.holds c.count-count.ensures.live (record { id = id; clause = clause; found = found; same_literals = same }) in
    c.in_default.ensures.none there.0 there.1
    in
    either c.push_step.result (Grows formula old new) (λ id. new ≡ old ++ Add id (c.lit-lit.result ∷ []) hints ∷ []) (new ≡ old) c.push_step.ensures.pushed c.push_step.ensures.err_steps
    (λ id follows. grows-one formula old new id (c.lit-lit.result ∷ []) hints follows lacks good c.push_step.ensures.keeps)
    (λ same. subst (λ (steps : List Step). Grows formula old steps) (sym same) (grows-none formula old))

pub returns-in_err-put-clause-found : goal.returns-in_err-put-clause-found
returns-in_err-put-clause-found g c =
    let t = c.args.trail.now in
    found_kept t.vars c.args.index.now c.put.new.self (g.S.Store.state c.args.store.now).live c.requires.found c.put.ensures.linked (λ clause inside. c.put.ensures.keeps t.vars clause)

pub returns-clause-found : goal.returns-clause-found
returns-clause-found g c =
    let s = g.S.Store.state c.args.store.now in
    let t = c.args.trail.now in
    let u = c.requires.rest.has_units in
    let f = forced_place s.live t c.args.place c.lit-lit.result u.is_trail u.level u.sound c.lit-lit.ensures in
    let old = c.args.index.now in
    let new = c.put.new.self in
    let low : 1 ≤ variable_of c.lit-lit.result = grind (arith, nat_tests, f.read.within) in
    let hashed = c.hash_of-hash.ensures.hash ∙ ap (λ n. set_hash n (set.from_list (c.lit-lit.result ∷ []))) c.requires.vars in
    either_store_by c.push_step.result (λ x. IsFound t.vars new x.live) s (g.S.Store.state c.push_step.new.store) (λ id. with_clause s id (c.lit-lit.result ∷ [])) c.push_step.ensures.state c.push_step.ensures.err
    (λ id. found_more t.vars old new s id c.hash_of-hash.result c.count.result (c.lit-lit.result ∷ []) c.requires.found c.put.ensures.linked c.put.ensures.keeps c.in_ok-put.ensures.puts c.count.ensures.count hashed (single_plain c.lit-lit.result low))
    (found_kept t.vars old new s.live c.requires.found c.put.ensures.linked (λ clause inside. c.put.ensures.keeps t.vars clause))
