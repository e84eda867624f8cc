-- The texts of judgements and of demands that don't fit: a name, and then the numbers, each after one blank.
use Rattle.std.specs.Prelude.{ℕ, ◌++◌, List, codes, decimal}
use Rattle.std.specs.Fmt.{signed_decimal}
use Rattle.lls_problem.specs.declared.judgement.Judgement.{Judgement}
use Rattle.lls_problem.specs.declared.judgement.Judgement.TheVariants.{Meets, Size, Cell, Name, Symmetry, Background, Moved, Rule, Population, Same, Shorter, Listed}
use Rattle.lls_problem.specs.declared.demands.DemandError.{DemandError}
use Rattle.lls_problem.specs.declared.demands.DemandError.TheVariants.{NotSquare, NoGeneration, BoundsCross, PeriodTooLong, Counters}

abbrev pub judgement_text : Judgement → List ℕ
judgement_text Meets = codes "Meets"
judgement_text Size = codes "Size"
judgement_text (Cell t y x) = codes "Cell " ++ decimal t ++ codes " " ++ decimal y ++ codes " " ++ decimal x
judgement_text (Name t y x) = codes "Name " ++ decimal t ++ codes " " ++ decimal y ++ codes " " ++ decimal x
judgement_text (Symmetry t y x) = codes "Symmetry " ++ decimal t ++ codes " " ++ decimal y ++ codes " " ++ decimal x
judgement_text (Background t) = codes "Background " ++ decimal t
judgement_text (Moved t y x) = codes "Moved " ++ decimal t ++ codes " " ++ signed_decimal y ++ codes " " ++ signed_decimal x
judgement_text (Rule t y x) = codes "Rule " ++ decimal t ++ codes " " ++ signed_decimal y ++ codes " " ++ signed_decimal x
judgement_text (Population t n) = codes "Population " ++ decimal t ++ codes " " ++ decimal n
judgement_text Same = codes "Same"
judgement_text (Shorter d) = codes "Shorter " ++ decimal d
judgement_text (Listed n) = codes "Listed " ++ decimal n

abbrev pub demand_error_text : DemandError → List ℕ
demand_error_text (NotSquare height width) = codes "NotSquare " ++ decimal height ++ codes " " ++ decimal width
demand_error_text (NoGeneration t) = codes "NoGeneration " ++ decimal t
demand_error_text (BoundsCross t) = codes "BoundsCross " ++ decimal t
demand_error_text (PeriodTooLong length) = codes "PeriodTooLong " ++ decimal length
demand_error_text (Counters n) = codes "Counters " ++ decimal n
