use Rattle.std.proofs.Common.{◌≡◌, List, Bool, [], ◌∷◌, ◌++◌, sym, ap, subst, ◌∙◌}
use Rattle.std.specs.Prelude.{All}
use Rattle.std.specs.Option.{ForSome}
use Rattle.lls_search_file.specs.Posed.{PosedFile}
use Rattle.lls_problem.specs.declared.demands.Demands.{Demands}
use Rattle.lls_problem.specs.Bounds.{HasEnds}
use Rattle.lls_problem.specs.Problem.{AreOfSize, IsPeriod, problem_made}
use Rattle.lls_least.specs.Bounded.{bounded, on_first}
use Rattle.lls_least.proofs.Made.{fitting-bounded, made-bounded}
use Rattle.lls_least.proofs.bounding.bounded.Goals as goal

pub returns-in_err-posed-clause-made : goal.returns-in_err-posed-clause-made
returns-in_err-posed-clause-made c = made-bounded c.args.problem.now (on_first c.args.low c.args.high) c.posed.ensures.kept c.demands-demands.ensures.kept c.requires.room c.requires.within

pub returns-in_err-demands-clause-made : goal.returns-in_err-demands-clause-made
returns-in_err-demands-clause-made c = made-bounded c.args.problem.now (on_first c.args.low c.args.high) c.posed.ensures.kept c.demands-demands.ensures.kept c.requires.room c.requires.within

pub make_problem-requires : goal.make_problem-requires
make_problem-requires c =
    let p = c.args.problem.now in
    let fitting = fitting-bounded p (on_first c.args.low c.args.high) c.posed.ensures.kept c.demands-demands.ensures.kept c.requires.room c.requires.within in
    let demands : c.in_ok-demands.demands ≡ (bounded p (on_first c.args.low c.args.high)).demands =
    c.in_ok-demands.ensures ∙ ap (λ (d : Demands). record d { bounds = d.bounds ++ (on_first c.args.low c.args.high) ∷ [] }) c.demands-demands.ensures.value in
    record {
      period = subst (λ (d : Demands). ForSome d.period IsPeriod) (sym demands) fitting.period;
      bounds = subst (λ (d : Demands). All HasEnds d.bounds) (sym demands) fitting.bounds;
      listed = subst (λ (d : Demands). AreOfSize c.in_ok-posed.posed d.listed) (sym demands)
          (subst (λ (f : PosedFile). AreOfSize f p.demands.listed) (sym (c.in_ok-posed.ensures ∙ c.posed.ensures.value)) fitting.listed);
    }

pub unreachable-requires : goal.unreachable-requires
unreachable-requires c =
    let p = c.args.problem.now in
    let made = made-bounded p (on_first c.args.low c.args.high) c.posed.ensures.kept c.demands-demands.ensures.kept c.requires.room c.requires.within in
    let posed = c.in_ok-posed.ensures ∙ c.posed.ensures.value in
    let demands : c.in_ok-demands.demands ≡ (bounded p (on_first c.args.low c.args.high)).demands =
    c.in_ok-demands.ensures ∙ ap (λ (d : Demands). record d { bounds = d.bounds ++ (on_first c.args.low c.args.high) ∷ [] }) c.demands-demands.ensures.value in
    let parts : problem_made c.in_ok-posed.posed c.rule.result.now c.in_ok-demands.demands ≡ problem_made p.posed p.rule (bounded p (on_first c.args.low c.args.high)).demands =
    ap (λ (f : PosedFile). problem_made f c.rule.result.now c.in_ok-demands.demands) posed
    ∙ ap (λ (r : List Bool). problem_made p.posed r c.in_ok-demands.demands) c.rule.ensures
    ∙ ap (λ (d : Demands). problem_made p.posed p.rule d) demands in
    let result = sym c.in_default.is ∙ c.make_problem.ensures ∙ parts ∙ made in
    cc result
