-- For private contracts alone: what the first line or lemma of those that wait came to.
use Rattle.std.specs.Prelude.{◌≡◌, ◌<◌, false, length}
use Rattle.lls_drat.specs.declared.reader.Taken.{Taken}
use Rattle.lls_drat.specs.declared.reader.Taken.TheVariants.{Nothing, Blank, Lemma}
use Rattle.lls_drat.specs.Reading.{Reading, TakesLemma, Keeps, has_end}

pub record FindsNothing (reading reading' : Reading) : Type 0 where
  pub same : reading' ≡ reading
  pub none : has_end reading.form reading.rest ≡ false

pub record TakesBlank (reading reading' : Reading) : Type 0 where
  pub keeps : Keeps reading reading'
  pub shorter : length reading'.rest < length reading.rest

abbrev pub Came : Taken → Reading → Reading → Type 0
Came Nothing reading reading' = FindsNothing reading reading'
Came Blank reading reading' = TakesBlank reading reading'
Came (Lemma kind) reading reading' = TakesLemma kind reading reading'
