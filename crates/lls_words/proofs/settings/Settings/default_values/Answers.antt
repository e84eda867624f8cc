use Rattle.std.proofs.Common.{refl, sym, subst, arith}
use Rattle.std.proofs.lemmas.Option.{none-some}
use Rattle.lls_problem.specs.declared.demands.Edge.TheVariants.{Framed}
use Rattle.lls_problem.specs.Problem.{edge_alone}
use Rattle.lls_hensel.specs.Isotropy.{IsIsotropic}
use Rattle.lls_words.specs.Job.{AreWithinLimits}
use Rattle.lls_words.proofs.Counts.{IsIsotropic-by_counts}
use Rattle.lls_words.proofs.settings.Settings.default_values.Goals as goal

-- an edge alone has no period and no bounds
edge_alone-within : AreWithinLimits (edge_alone Framed)
edge_alone-within = record {
  period = λ period same. absurd (none-some period same);
  bounds = λ k d inside. absurd (omega (arith, inside));
  unlisted = refl;
}

pub returns-clause-allowed : goal.returns-clause-allowed
returns-clause-allowed c =
    let isotropic = subst IsIsotropic (sym c.from_counts-life.ensures) (IsIsotropic-by_counts 8 12) in
    record {
      allowed = record { demanded = subst AreWithinLimits (sym c.new.ensures) edge_alone-within; isotropic = isotropic; budgeted = omega arith };
      low = isotropic;
      high = isotropic;
      crew = λ searchers same. absurd (none-some searchers same);
    }
