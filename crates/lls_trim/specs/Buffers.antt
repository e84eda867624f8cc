-- For private contracts alone: additions whose literals and sources stand in buffers, and what ids name, by the places of ids.
use Rattle.std.specs.Prelude.{◌≡◌, ◌≤◌, ℕ, zero, suc, ℤ, List, [], ◌∷◌, length, Option, Some, None, if◌then◌else◌}
use Rattle.std.specs.List.{between}
use Rattle.std.specs.Option.{option_copied}
use Rattle.lls_lrat.specs.Placed.{place_of}
use Rattle.lls_trim.specs.declared.names.Names.{Names}
use Rattle.lls_trim.specs.declared.source.Source.{Source}
use Rattle.lls_trim.specs.declared.source.Source.TheVariants.{Given, Added}
use Rattle.lls_trim.specs.declared.inferences.Ends.{Ends}
use Rattle.lls_trim.specs.declared.inferences.Entry.{Entry}
use Rattle.lls_trim.specs.declared.inferences.InferenceRef.{InferenceRef}
use Rattle.lls_trim.specs.declared.inferences.TheConstants.Inferences.{MOST}
use Rattle.lls_trim.specs.Inferences.{Inference}

-- where the literals and the sources of the first addition begin
abbrev pub none_yet : Ends
none_yet = record { lits = 0; sources = 0 }

-- where those of the addition of that number begin, where those of the first do there
abbrev pub ends_before : Ends → List Entry → ℕ → Ends
ends_before from entries zero = from
ends_before from [] (suc k) = from
ends_before from (e ∷ es) (suc k) = ends_before e.ends es k

-- no end stands before the one before it, and the last ones are those of buffers of these lengths
abbrev pub AreEnds : Ends → List Entry → ℕ → ℕ → Type 0
AreEnds from [] lits sources = (from.lits ≡ lits) × (from.sources ≡ sources)
AreEnds from (e ∷ es) lits sources = (from.lits ≤ e.ends.lits) × ((from.sources ≤ e.ends.sources) × AreEnds e.ends es lits sources)

-- the entry of an addition in buffers of these lengths, where its literals and sources begin there
pub record IsEntry (lits sources : ℕ) (from : Ends) (entry : Entry) : Type 0 where
  pub lits_order : from.lits ≤ entry.ends.lits
  pub lits_within : entry.ends.lits ≤ lits
  pub sources_order : from.sources ≤ entry.ends.sources
  pub sources_within : entry.ends.sources ≤ sources

-- entries of buffers of these lengths
pub record AreFilled (lits sources : ℕ) (entries : List Entry) : Type 0 where
  pub ends : AreEnds none_yet entries lits sources
  pub few : length entries ≤ MOST

abbrev pub by_in : List Source → Ends → Entry → Option (List Source)
by_in sources from entry = if entry.is_by_propagation then Some (between from.sources entry.ends.sources sources) else None

abbrev pub inference_in : List ℤ → List Source → Ends → Entry → Inference
inference_in lits sources from entry = record { line = entry.line; clause = between from.lits entry.ends.lits lits; by = by_in sources from entry }

abbrev pub inferences_in : List ℤ → List Source → Ends → List Entry → List Inference
inferences_in lits sources from [] = []
inferences_in lits sources from (e ∷ es) = inference_in lits sources from e ∷ inferences_in lits sources e.ends es

-- a lent addition is this one
abbrev pub inference_of_ref : InferenceRef → Inference
inference_of_ref lent = record { line = lent.line; clause = lent.clause.now; by = option_copied lent.by }

-- what an id names, by the place that it has
abbrev pub source_of : ℕ → Option ℕ → Source
source_of id None = Given id
source_of id (Some k) = Added k

abbrev pub names_in : Names → ℕ → Source
names_in names id = source_of id (place_of names.places id)
