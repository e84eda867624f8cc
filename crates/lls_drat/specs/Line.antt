-- The lemma that a line of a text writes, by its words.
use Rattle.std.specs.Prelude.{ℕ, List, [], ◌∷◌, Option, Some, None, Result, Ok, Err, codes, if◌then◌else◌}
use Rattle.std.specs.Str.{bytes_eq}
use Rattle.lls_base.specs.Results.{and_then}
use Rattle.lls_text.specs.Words.{PlacedWord, words_of}
use Rattle.lls_prooflog.specs.declared.line_fault.LineFault.{LineFault}
use Rattle.lls_prooflog.specs.declared.line_fault.LineFault.TheVariants.{Extra}
use Rattle.lls_prooflog.specs.Number.{literal_in, item}
use Rattle.lls_prooflog.specs.Line.{behind_end, listed}
use Rattle.lls_drat.specs.declared.kind.Kind.{Kind}
use Rattle.lls_drat.specs.declared.kind.Kind.TheVariants.{Addition, Deletion}
use Rattle.lls_drat.specs.Lemma.{Lemma}

-- no word stands behind a lemma
abbrev pub lemma_alone : Lemma → List PlacedWord → Result (Option Lemma) LineFault
lemma_alone lemma [] = Ok (Some lemma)
lemma_alone lemma (word ∷ words) = Err (Extra word.column)

-- literals and the 0 that ends them
abbrev pub lemma_in : Kind → List PlacedWord → Result (Option Lemma) LineFault
lemma_in kind words =
    and_then (listed (item literal_in) words) (λ lits. lemma_alone (record { kind = kind; lits = lits }) (behind_end words))

-- the word c before others makes a comment, and the word d a deletion
abbrev pub lemma_of_words : List PlacedWord → Result (Option Lemma) LineFault
lemma_of_words [] = Ok None
lemma_of_words (first ∷ words) =
    if bytes_eq first.text (codes "c") then Ok None else
    if bytes_eq first.text (codes "d") then lemma_in Deletion words else lemma_in Addition (first ∷ words)

-- the lemma that a line writes, None at a comment and where there is no word, or the leftmost fault
abbrev pub lemma_of_line : List ℕ → Result (Option Lemma) LineFault
lemma_of_line line = lemma_of_words (words_of line)
