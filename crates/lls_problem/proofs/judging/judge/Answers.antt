use Rattle.std.proofs.Common.{◌≡◌, lit<, w32, to_z, of_z, to_z-of_z, refl, sym, subst, rules, FitsSigned}
use Rattle.lls_problem.specs.declared.judgement.Judgement.TheVariants.{Meets, Cell, Name, Symmetry, Rule, Population, Same, Shorter, Listed}
use Rattle.lls_problem.specs.Judgement.{size, cell, name, symmetry, period, rule, population, same, exact, unlisted, KeepsBefore, judgement_of}
use Rattle.lls_problem.proofs.FirstOf.{nothing_first}
use Rattle.lls_problem.proofs.Populated.{IsPopulated-by_none}
use Rattle.lls_problem.proofs.Symmetric.{AreSymmetric-by_cells}
use Rattle.lls_problem.proofs.Returned.{Returns-by_losses}
use Rattle.lls_problem.proofs.Shorter.{IsExact-by_none}
use Rattle.lls_problem.proofs.OneJudgement.{Judged, judged, judgement_of-fits, KeepsBefore-size, KeepsBefore-next, IsSolution-by_demands}
use Rattle.lls_problem.proofs.judging.judge.Goals as goal
use Rattle.lls_problem.proofs.judging.judge.Goals.{Else-not-has_its_sizes, In_default, In_default-first_disagreement, In_default-first_unlike, In_default-first_loss, In_default-first_transition, In_default-first_outside, Else-not-differs, In_default-first_shorter}

-- the demands that are kept so far
sizes_kept : (c : Else-not-has_its_sizes) → KeepsBefore c.args.problem.now c.args.history.now cell
sizes_kept c =
    KeepsBefore-next c.args.problem.now c.args.history.now size cell refl (KeepsBefore-size c.args.problem.now c.args.history.now) (rw c.posed.ensures.value at (c.has_its_sizes.ensures.0 c.if-not-has_its_sizes.false))

cells_kept : (c : In_default) → KeepsBefore c.args.problem.now c.args.history.now cell → KeepsBefore c.args.problem.now c.args.history.now name
cells_kept c before = KeepsBefore-next c.args.problem.now c.args.history.now cell name refl before c.in_default.ensures

names_kept : (c : In_default-first_disagreement) → KeepsBefore c.args.problem.now c.args.history.now name → KeepsBefore c.args.problem.now c.args.history.now symmetry
names_kept c before = KeepsBefore-next c.args.problem.now c.args.history.now name symmetry refl before c.in_default-first_disagreement.ensures

symmetry_kept : (c : In_default-first_unlike) → KeepsBefore c.args.problem.now c.args.history.now symmetry → KeepsBefore c.args.problem.now c.args.history.now period
symmetry_kept c before =
    KeepsBefore-next c.args.problem.now c.args.history.now symmetry period refl before
    (AreSymmetric-by_cells c.args.problem.now c.args.history.now (before size (lit< tt)) c.demands-demands.ensures.kept (nothing_first _ c.in_default-first_unlike.ensures))

period_kept : (c : In_default-first_loss) → KeepsBefore c.args.problem.now c.args.history.now period → KeepsBefore c.args.problem.now c.args.history.now rule
period_kept c before =
    KeepsBefore-next c.args.problem.now c.args.history.now period rule refl before
    (Returns-by_losses c.args.problem.now c.args.history.now (before size (lit< tt)) (nothing_first _ c.in_default-first_loss.ensures))

rule_kept : (c : In_default-first_transition) → KeepsBefore c.args.problem.now c.args.history.now rule → KeepsBefore c.args.problem.now c.args.history.now population
rule_kept c before = KeepsBefore-next c.args.problem.now c.args.history.now rule population refl before c.in_default-first_transition.ensures

population_kept : (c : In_default-first_outside) → KeepsBefore c.args.problem.now c.args.history.now population → KeepsBefore c.args.problem.now c.args.history.now same
population_kept c before =
    KeepsBefore-next c.args.problem.now c.args.history.now population same refl before (IsPopulated-by_none c.args.problem.now c.args.history.now c.in_default-first_outside.ensures)

difference_kept : (c : Else-not-differs) → KeepsBefore c.args.problem.now c.args.history.now same → KeepsBefore c.args.problem.now c.args.history.now exact
difference_kept c before = KeepsBefore-next c.args.problem.now c.args.history.now same exact refl before c.if-not-differs.ensures

exact_kept : (c : In_default-first_shorter) → KeepsBefore c.args.problem.now c.args.history.now exact → KeepsBefore c.args.problem.now c.args.history.now unlisted
exact_kept c before =
    KeepsBefore-next c.args.problem.now c.args.history.now exact unlisted refl before
    (IsExact-by_none c.args.problem.now c.args.history.now (before size (lit< tt)) c.demands-demands.ensures.kept (nothing_first _ c.in_default-first_shorter.ensures))

pub returns-in-Some : goal.returns-in-Some
returns-in-Some c =
    let place = c.in-Some.place in
    let before = sizes_kept (goal.at.returns-in-Some c).Else-not-has_its_sizes in
    let it = judged c.args.problem.now c.args.history.now (Cell place.t place.y place.x) c.posed.ensures.kept c.demands-demands.ensures.kept (record { kept = before; first = c.in-Some.ensures }) in
    record { judgement = it.judgement; unique = it.unique; meets = it.meets; broken = it.broken; plane = it.plane }

pub returns-in-Some-first_disagreement : goal.returns-in-Some-first_disagreement
returns-in-Some-first_disagreement c =
    let place = c.in-Some-first_disagreement.place in
    let at = goal.at.returns-in-Some-first_disagreement c in
    let before = cells_kept at.In_default (sizes_kept at.Else-not-has_its_sizes) in
    let it = judged c.args.problem.now c.args.history.now (Name place.t place.y place.x) c.posed.ensures.kept c.demands-demands.ensures.kept (record { kept = before; first = c.in-Some-first_disagreement.ensures }) in
    record { judgement = it.judgement; unique = it.unique; meets = it.meets; broken = it.broken; plane = it.plane }

pub returns-in-Some-first_unlike : goal.returns-in-Some-first_unlike
returns-in-Some-first_unlike c =
    let place = c.in-Some-first_unlike.place in
    let at = goal.at.returns-in-Some-first_unlike c in
    let before = names_kept at.In_default-first_disagreement (cells_kept at.In_default (sizes_kept at.Else-not-has_its_sizes)) in
    let it = judged c.args.problem.now c.args.history.now (Symmetry place.t place.y place.x) c.posed.ensures.kept c.demands-demands.ensures.kept (record { kept = before; first = sym c.in-Some-first_unlike.ensures }) in
    record { judgement = it.judgement; unique = it.unique; meets = it.meets; broken = it.broken; plane = it.plane }

pub returns-in-Some-first_loss : goal.returns-in-Some-first_loss
returns-in-Some-first_loss c =
    let loss = c.in-Some-first_loss.loss in
    let at = goal.at.returns-in-Some-first_loss c in
    let before = symmetry_kept at.In_default-first_unlike (names_kept at.In_default-first_disagreement (cells_kept at.In_default (sizes_kept at.Else-not-has_its_sizes))) in
    let found = judged c.args.problem.now c.args.history.now (judgement_of loss) c.posed.ensures.kept c.demands-demands.ensures.kept (judgement_of-fits c.args.problem.now c.args.history.now loss before c.in-Some-first_loss.ensures) in
    let it = subst (Judged c.args.problem.now c.args.history.now) (sym c.judgement.ensures) found in
    record { judgement = it.judgement; unique = it.unique; meets = it.meets; broken = it.broken; plane = it.plane }

pub returns-in-Some-first_transition : goal.returns-in-Some-first_transition
returns-in-Some-first_transition c =
    let place = c.in-Some-first_transition.place in
    let fits_y : FitsSigned w32 place.y = search rules in
    let fits_x : FitsSigned w32 place.x = search rules in
    let row : to_z w32 (of_z w32 place.y) ≡ place.y = rw to_z-of_z in
    let column : to_z w32 (of_z w32 place.x) ≡ place.x = rw to_z-of_z in
    let at = goal.at.returns-in-Some-first_transition c in
    let before = period_kept at.In_default-first_loss (symmetry_kept at.In_default-first_unlike (names_kept at.In_default-first_disagreement (cells_kept at.In_default (sizes_kept at.Else-not-has_its_sizes)))) in
    let it = judged c.args.problem.now c.args.history.now (Rule place.t place.y place.x) c.posed.ensures.kept c.demands-demands.ensures.kept (record { kept = before; first = c.in-Some-first_transition.ensures }) in
    rw (row, column) (record { judgement = it.judgement; unique = it.unique; meets = it.meets; broken = it.broken; plane = it.plane })

pub returns-in-Some-first_outside : goal.returns-in-Some-first_outside
returns-in-Some-first_outside c =
    let count = c.in-Some-first_outside.count in
    let at = goal.at.returns-in-Some-first_outside c in
    let before = rule_kept at.In_default-first_transition (period_kept at.In_default-first_loss (symmetry_kept at.In_default-first_unlike (names_kept at.In_default-first_disagreement (cells_kept at.In_default (sizes_kept at.Else-not-has_its_sizes))))) in
    let it = judged c.args.problem.now c.args.history.now (Population count.t count.live) c.posed.ensures.kept c.demands-demands.ensures.kept (record { kept = before; first = sym c.in-Some-first_outside.ensures }) in
    record { judgement = it.judgement; unique = it.unique; meets = it.meets; broken = it.broken; plane = it.plane }

pub returns-then-not-differs : goal.returns-then-not-differs
returns-then-not-differs c =
    let at = goal.at.returns-then-not-differs c in
    let before = population_kept at.In_default-first_outside (rule_kept at.In_default-first_transition (period_kept at.In_default-first_loss (symmetry_kept at.In_default-first_unlike (names_kept at.In_default-first_disagreement (cells_kept at.In_default (sizes_kept at.Else-not-has_its_sizes)))))) in
    let it = judged c.args.problem.now c.args.history.now Same c.posed.ensures.kept c.demands-demands.ensures.kept (record { kept = before; first = c.if-not-differs.ensures }) in
    record { judgement = it.judgement; unique = it.unique; meets = it.meets; broken = it.broken; plane = it.plane }

pub returns-in-Some-first_shorter : goal.returns-in-Some-first_shorter
returns-in-Some-first_shorter c =
    let at = goal.at.returns-in-Some-first_shorter c in
    let before = difference_kept at.Else-not-differs (population_kept at.In_default-first_outside (rule_kept at.In_default-first_transition (period_kept at.In_default-first_loss (symmetry_kept at.In_default-first_unlike (names_kept at.In_default-first_disagreement (cells_kept at.In_default (sizes_kept at.Else-not-has_its_sizes))))))) in
    let it = judged c.args.problem.now c.args.history.now (Shorter c.in-Some-first_shorter.length) c.posed.ensures.kept c.demands-demands.ensures.kept (record { kept = before; first = sym c.in-Some-first_shorter.ensures }) in
    record { judgement = it.judgement; unique = it.unique; meets = it.meets; broken = it.broken; plane = it.plane }

pub returns-in-Some-first_listed : goal.returns-in-Some-first_listed
returns-in-Some-first_listed c =
    let at = goal.at.returns-in-Some-first_listed c in
    let before = exact_kept at.In_default-first_shorter (difference_kept at.Else-not-differs (population_kept at.In_default-first_outside (rule_kept at.In_default-first_transition (period_kept at.In_default-first_loss (symmetry_kept at.In_default-first_unlike (names_kept at.In_default-first_disagreement (cells_kept at.In_default (sizes_kept at.Else-not-has_its_sizes)))))))) in
    let it = judged c.args.problem.now c.args.history.now (Listed c.in-Some-first_listed.n) c.posed.ensures.kept c.demands-demands.ensures.kept (record { kept = before; first = c.in-Some-first_listed.ensures.found }) in
    record { judgement = it.judgement; unique = it.unique; meets = it.meets; broken = it.broken; plane = it.plane }

pub returns : goal.returns
returns c =
    let at = goal.at.returns c in
    let before = exact_kept at.In_default-first_shorter (difference_kept at.Else-not-differs (population_kept at.In_default-first_outside (rule_kept at.In_default-first_transition (period_kept at.In_default-first_loss (symmetry_kept at.In_default-first_unlike (names_kept at.In_default-first_disagreement (cells_kept at.In_default (sizes_kept at.Else-not-has_its_sizes)))))))) in
    let it = judged c.args.problem.now c.args.history.now Meets c.posed.ensures.kept c.demands-demands.ensures.kept
    (IsSolution-by_demands c.args.problem.now c.args.history.now before c.in_default-first_listed.ensures.none) in
    record { judgement = it.judgement; unique = it.unique; meets = it.meets; broken = it.broken; plane = it.plane }
