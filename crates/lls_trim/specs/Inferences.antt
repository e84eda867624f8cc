-- The additions of a proof, each with what it comes from.
use Rattle.std.specs.Prelude.{ℕ, ◌+◌, ℤ, List, [], ◌∷◌, map, Option, if◌then◌else◌, ◌==◌}
use Rattle.std.specs.Option.{option_map}
use Rattle.lls_lit.specs.Literal.{variable_of}
use Rattle.lls_lit.specs.Formula.{Clause, Cnf}
use Rattle.lls_prooflog.specs.declared.step.Step.{Step}
use Rattle.lls_prooflog.specs.declared.step.Step.TheVariants.{Add, Del}
use Rattle.lls_prooflog.specs.Steps.{Live, numbered, after}
use Rattle.lls_lrat.specs.Looked.{looked_at}
use Rattle.lls_trim.specs.declared.source.Source.{Source}
use Rattle.lls_trim.specs.declared.source.Source.TheVariants.{Given, Added}
use Rattle.lls_trim.specs.Placed.{Placed}

-- an addition: its line, its clause, and what it comes from by unit propagation; None where it isn't by unit propagation
pub record Inference : Type 0 where
  pub line : ℕ
  pub clause : Clause
  pub by : Option (List Source)

-- what stands before a step: the live clauses, what each id names, and how many additions there were
pub record Before : Type 0 where
  pub live : Live
  pub names : ℕ → Source
  pub count : ℕ

-- an id names the formula's clause, until it is given to an addition
abbrev pub at_start : Cnf → Before
at_start formula = record { live = numbered formula.clauses; names = Given; count = 0 }

-- the id names the addition of that number from here on
abbrev pub with_name : (ℕ → Source) → ℕ → ℕ → ℕ → Source
with_name names id k = λ q. if id == q then Added k else names q

abbrev pub behind : Before → Step → Before
behind before (Add id lits hints) =
    record { live = after before.live (Add id lits hints); names = with_name before.names id before.count; count = before.count + 1 }
behind before (Del ids) = record before { live = after before.live (Del ids) }

-- what hints name
abbrev pub sources_of : (ℕ → Source) → List ℤ → List Source
sources_of names hints = map (λ hint. names (variable_of hint)) hints

abbrev pub inference_at : Before → ℕ → Clause → List ℤ → Inference
inference_at before line lits hints =
    record { line = line; clause = lits; by = option_map (sources_of before.names) (looked_at before.live lits hints) }

-- a step's addition, put before those behind it. None stands behind the empty clause
abbrev pub put_step : Before → ℕ → Step → List Inference → List Inference
put_step before line (Add id [] hints) more = inference_at before line [] hints ∷ []
put_step before line (Add id (l ∷ ls) hints) more = inference_at before line (l ∷ ls) hints ∷ more
put_step before line (Del ids) more = more

-- the additions of these steps, up to and with the first empty one
abbrev pub inferences_from : Before → Placed → List Inference
inferences_from before [] = []
inferences_from before (placed ∷ rest) = put_step before placed.0 placed.1 (inferences_from (behind before placed.1) rest)

abbrev pub inferences_of : Cnf → Placed → List Inference
inferences_of formula placed = inferences_from (at_start formula) placed
