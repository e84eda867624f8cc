-- A text that is read from its begin.
use Rattle.std.proofs.Common.{◌≡◌, ℕ, Bool, false, List, [], get_or, replicate, Some, sym, ap, ◌∙◌, inl, inr, arith}
use Rattle.std.specs.Prelude.{Result}
use Rattle.std.proofs.lemmas.Bool.{cases_lt}
use Rattle.std.proofs.lemmas.List.{get_or-replicate, get_or_past, length-replicate}
use Rattle.lls_grid.specs.History.{History}
use Rattle.lls_text.specs.Lines.{lines_of}
use Rattle.lls_rle.specs.declared.rle_fault.RleFault.{RleFault}
use Rattle.lls_rle.specs.Tokens.{PlacedToken}
use Rattle.lls_rle.specs.Items.{Items}
use Rattle.lls_rle.specs.Picture.{runs_from, first_misfit, unless_misfit, at_ending, pictured}
use Rattle.lls_rle.specs.Reading.{body_of, read_body, rle_of}
use Rattle.lls_rle.specs.declared.reader.Reader.{Reader}
use Rattle.lls_rle.specs.Reader.{painted_items, answer_from}
use Rattle.lls_rle.specs.Album.{HasRead}
use Rattle.lls_rle.proofs.Painting.{painted-dead}

dead_cell : (n k : ℕ) → get_or (replicate n false) k false ≡ false
dead_cell n k = elim (cases_lt k n) [
  | inl within ↦ get_or-replicate n k false false within
  | inr past ↦ get_or_past (replicate n false) k false (omega (arith, past, length-replicate n false))
]

pub painted-first : (height width n : ℕ) (cells : List Bool) (all : Items) → cells ≡ replicate n false → painted_items height width cells 0 0 all ≡ pictured height width all
painted-first height width n cells all dead =
    let runs = runs_from 0 0 all.items in
    ap (λ p. unless_misfit (first_misfit height width runs) (at_ending p all.ending)) (painted-dead height width cells runs (λ k. ap (λ cs. get_or cs k false) dead ∙ dead_cell n k))

pub read_whole : (height width : ℕ) (bytes : List ℕ) (tokens : List PlacedToken) (reader : Reader) (answer : Result History RleFault) → HasRead height width [] reader
    → body_of 1 (lines_of bytes) ≡ Some tokens → answer ≡ answer_from reader tokens → rle_of height width bytes ≡ answer
read_whole height width bytes tokens reader answer none body is = ap (read_body height width) body ∙ sym (is ∙ none.says tokens)
