use Rattle.std.proofs.Common.{◌≡◌, ◌<◌, ◌≤◌, ◌+◌, ℕ, List, [], ◌∷◌, ◌++◌, length, take, get_or, ◌∙◌, ap, sym, subst, arith, append_assoc}
use Rattle.std.specs.Prelude.{All}
use Rattle.std.specs.List.{flat_map}
use Rattle.std.proofs.lemmas.List.{append-nil, take_more, take_all, length-take-le}
use Rattle.std.proofs.lemmas.List.Elements.{All-get_or}
use Rattle.std.proofs.lemmas.Grind.{flat_map-append}
use Rattle.lls_lit.specs.Formula.{Clause, Cnf}
use Rattle.lls_transition.specs.Clause.{with_clauses}
use Rattle.lls_encode.specs.Place.{inputs_at}
use Rattle.lls_encode.specs.Room.{HasRoom}
use Rattle.lls_encode.proofs.Steps.{HasRoom-behind}
use Rattle.lls_open.specs.declared.target.Target.{Target}
use Rattle.lls_open.specs.Targets.{row_of, column_of, IsTarget}
use Rattle.lls_open.specs.Formula.{target_clauses, open_part}
use Rattle.lls_open.proofs.Few.{length-so_far, length-open_clauses}
use Rattle.lls_open.proofs.Framed.{All-targets_of, length-targets_of}
use Rattle.lls_open.proofs.transition.push_open.Goals as goal

-- the room for one place more
room_for : (formula now : Cnf) (f : Target → List Clause) (targets : List Target) (k : ℕ) → ((target : Target) → length (f target) ≤ 105472) → now ≡ with_clauses formula (flat_map f (take k targets))
    → k < length targets → length targets ≤ 6522 → HasRoom formula 687888384 → HasRoom now 105472
room_for formula now f targets k each is inside few has =
    let so_far = length-so_far f 105472 each (take k targets) in
    let taken = length-take-le k targets (omega (arith, inside)) in
    HasRoom-behind formula now (flat_map f (take k targets)) 687888384 105472 is (omega (arith, so_far, taken, inside, few)) has

-- one place more
pushed : (formula now next : Cnf) (f : Target → List Clause) (targets : List Target) (k : ℕ) (d : Target) → now ≡ with_clauses formula (flat_map f (take k targets)) → k < length targets
    → next ≡ with_clauses now (f (get_or targets k d)) → next ≡ with_clauses formula (flat_map f (take (k + 1) targets))
pushed formula now next f targets k d is inside step =
    let t : Target = get_or targets k d in
    step
    ∙ ap (λ (g : Cnf). with_clauses g (f t)) is
    ∙ ap (λ (clauses : List Clause). record formula { clauses = clauses })
    (append_assoc formula.clauses (flat_map f (take k targets)) (f t)
    ∙ ap (λ xs. formula.clauses ++ xs)
    (ap (λ xs. flat_map f (take k targets) ++ xs) (sym (append-nil (f t)))
    ∙ sym (flat_map-append f (take k targets) (t ∷ []))
    ∙ ap (flat_map f) (sym (take_more targets k d inside))))

pub push_target-requires-clause-target : goal.push_target-requires-clause-target
push_target-requires-clause-target c =
    let p = c.args.problem.now in
    let targets = c.in_ok-targets.targets.items in
    let all : All (IsTarget p) targets = subst (All (IsTarget p)) (sym c.in_ok-targets.ensures) (All-targets_of p c.posed-posed.ensures.kept) in
    subst (IsTarget p) (sym c.index.ensures) (All-get_or (IsTarget p) targets c.loop-k.k c.index.result.now (omega (arith, c.loop-k-test.true, c.len-k-end.ensures)) all)

pub push_target-requires-clause-room : goal.push_target-requires-clause-room
push_target-requires-clause-room c =
    let p = c.args.problem.now in
    room_for c.args.formula.now c.loop-k.formula (target_clauses p c.args.form c.args.classes.now) c.in_ok-targets.targets.items c.loop-k.k
    (λ target. length-open_clauses p c.args.form c.args.classes.now (inputs_at p target.t (row_of target) (column_of target)) c.requires.few)
    c.loop-k.invariant (omega (arith, c.loop-k-test.true, c.len-k-end.ensures))
    (omega (arith, ap length c.in_ok-targets.ensures, length-targets_of p c.posed-posed.ensures.kept c.requires.cells)) c.requires.room

pub loop-k-preserved : goal.loop-k-preserved
loop-k-preserved c =
    pushed c.args.formula.now c.loop-k.formula c.push_target.new.formula (target_clauses c.args.problem.now c.args.form c.args.classes.now) c.in_ok-targets.targets.items c.loop-k.k c.index.result.now
    c.loop-k.invariant (omega (arith, c.loop-k-test.true, c.len-k-end.ensures))
    (c.in_ok-push_target.ensures ∙ ap (λ target. with_clauses c.loop-k.formula (target_clauses c.args.problem.now c.args.form c.args.classes.now target)) c.index.ensures)

pub returns : goal.returns
unfolding open_part
returns c =
    c.loop-k.invariant
    ∙ ap (λ xs. with_clauses c.args.formula.now (flat_map (target_clauses c.args.problem.now c.args.form c.args.classes.now) xs))
    (take_all c.loop-k.k c.in_ok-targets.targets.items (omega (arith, c.loop-k-test.false, c.len-k-end.ensures)) ∙ c.in_ok-targets.ensures)
