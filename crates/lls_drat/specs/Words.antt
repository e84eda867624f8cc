-- For private contracts alone: a line by its first word and what stands behind.
use Rattle.std.specs.Prelude.{List, [], ◌∷◌, Option, Some, None, codes, if◌then◌else◌}
use Rattle.std.specs.Str.{bytes_eq}
use Rattle.lls_text.specs.Words.{PlacedWord}
use Rattle.lls_drat.specs.declared.kind.Kind.{Kind}
use Rattle.lls_drat.specs.declared.kind.Kind.TheVariants.{Addition, Deletion}

-- the kind of the lemma that a line writes, None where it writes none
abbrev pub line_kind : List PlacedWord → Option Kind
line_kind [] = None
line_kind (first ∷ words) =
    if bytes_eq first.text (codes "c") then None else
    if bytes_eq first.text (codes "d") then Some Deletion else Some Addition

-- the words of its literals
abbrev pub behind_kind : List PlacedWord → List PlacedWord
behind_kind [] = []
behind_kind (first ∷ words) = if bytes_eq first.text (codes "d") then words else first ∷ words
