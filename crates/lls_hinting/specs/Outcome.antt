-- What a proof comes to.
use Rattle.std.specs.Prelude.{◌≡◌, Option, None, Some, Result, Ok, Err}
use Rattle.lls_base.specs.Shelf.{Files}
use Rattle.lls_hinting.specs.declared.fault.Fault.{Fault}
use Rattle.lls_hinting.specs.declared.outcome.Outcome.{Outcome}
use Rattle.lls_hinting.specs.declared.outcome.Outcome.TheVariants.{Hinted, Refused}
use Rattle.lls_lit.specs.Formula.{Cnf}
use Rattle.lls_hinting.specs.declared.judging.Stand.{Stand}
use Rattle.lls_hinting.specs.declared.judging.Stand.TheVariants.{Going, NotImplied, Refuted}
use Rattle.lls_hinting.specs.declared.request.Request.{Request}
use Rattle.lls_hinting.specs.Asked.{Asked, asked_in}
use Rattle.lls_hinting.specs.Behind.{Progress}
use Rattle.lls_hinting.specs.Hinted.{AreHints, IsHinted}
use Rattle.lls_hinting.specs.Refusal.{IsRefusal, no_empty_text, not_implied_text}

-- what the lemmas of a formula's proof come to
abbrev pub ComesTo : Asked → Outcome → Type 0
ComesTo asked (Hinted hints) = IsHinted asked hints.bytes.items hints.text.items
ComesTo asked (Refused text) = IsRefusal asked text.items

-- what a request comes to over these files, where the shelf tells them
abbrev pub RequestComesTo : Request → Option Files → Result Outcome Fault → Type 0
RequestComesTo request None result = Unit {0}
RequestComesTo request (Some files) (Ok outcome) = (asked : Asked) × (asked_in request files ≡ Ok asked) × ComesTo asked outcome
RequestComesTo request (Some files) (Err fault) = asked_in request files ≡ Err fault

-- for private contracts alone: what is said where lemmas came to that, with what was taken of them
abbrev pub IsSaid : Cnf → Progress → Stand → Outcome → Type 0
IsSaid formula now Going (Refused text) = text.items ≡ no_empty_text
IsSaid formula now Going (Hinted hints) = ⊥
IsSaid formula now Refuted (Refused text) = ⊥
IsSaid formula now Refuted (Hinted hints) = AreHints formula now hints.bytes.items hints.text.items
IsSaid formula now (NotImplied number) (Refused text) = text.items ≡ not_implied_text number
IsSaid formula now (NotImplied number) (Hinted hints) = ⊥
