-- For private contracts alone: the literals, hints and ids of all steps in buffers, of which heads name pieces.
use Rattle.std.specs.Prelude.{◌≡◌, ℕ, ℤ, List, map, All, length, count_by}
use Rattle.std.specs.List.{between}
use Rattle.lls_prooflog.specs.declared.step.Step.{Step}
use Rattle.lls_prooflog.specs.declared.step.Step.TheVariants.{Add, Del}
use Rattle.lls_prooflog.specs.declared.log.Head.{Head}
use Rattle.lls_prooflog.specs.declared.log.Head.TheVariants as heads
use Rattle.lls_prooflog.specs.Range.{IsInRange}
use Rattle.lls_prooflog.specs.Spent.{is_addition}
use Rattle.lls_prooflog.specs.Pieces.{Hinted, Named, hints_at, ids_at, IsSpan, IsPlace}

-- the step of a head
abbrev pub step_at : List ℤ → Hinted → Named → Head → Step
step_at lits hints ids (heads.Add id clause chain) = Add id (between clause.from clause.to lits) (hints_at hints.narrow hints.wide chain)
step_at lits hints ids (heads.Del named) = Del (ids_at ids.narrow ids.wide named)

abbrev pub steps_in : List ℤ → Hinted → Named → List Head → List Step
steps_in lits hints ids heads = map (step_at lits hints ids) heads

-- pieces of these buffers
abbrev pub IsHead : ℕ → Hinted → Named → Head → Type 0
IsHead lits hints ids (heads.Add id clause chain) = IsSpan lits clause × IsPlace (length hints.narrow) (length hints.wide) chain
IsHead lits hints ids (heads.Del named) = IsPlace (length ids.narrow) (length ids.wide) named

-- what holds of the parts of a log
pub record IsLaid (lits : List ℤ) (hints : Hinted) (ids : Named) (heads : List Head) (additions : ℕ) : Type 0 where
  pub are_heads : All (IsHead (length lits) hints ids) heads
  pub in_range : All IsInRange (steps_in lits hints ids heads)
  pub counted : additions ≡ count_by is_addition (steps_in lits hints ids heads)
