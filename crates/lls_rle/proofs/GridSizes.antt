-- A picture has the sizes of its grid.
use Rattle.std.proofs.Common.{◌≡◌, ◌<◌, ℕ, List, Option, None, Some, Result, Ok, refl, ap, subst, ◌∙◌}
use Rattle.std.specs.Prelude.{length, [], map}
use Rattle.std.specs.List.{list_any, range_with_len}
use Rattle.std.proofs.lemmas.List.FromFn.{length-map-range_with_len, get_or-map-range_with_len}
use Rattle.lls_text.specs.Lines.{lines_of}
use Rattle.lls_grid.specs.History.{History, height_of, width_of}
use Rattle.lls_rle.specs.declared.rle_fault.RleFault.{RleFault}
use Rattle.lls_rle.specs.Tokens.{PlacedToken}
use Rattle.lls_rle.specs.Items.{Ending, ended, unended, stray, items_of}
use Rattle.lls_rle.specs.Picture.{Run, picture, covers, at_ending, unless_misfit, first_misfit, runs_from}
use Rattle.lls_rle.specs.Reading.{body_of, read_body, rle_of}

-- a history of one generation of these sizes
pub record HasGrid (height width : ℕ) (history : History) : Type 0 where
  pub high : height_of history ≡ height
  pub wide : width_of history ≡ width

HasGrid-picture : (height width : ℕ) (runs : List Run) → 0 < height → HasGrid height width (picture height width runs)
HasGrid-picture height width runs some =
    let row = λ (y : ℕ). map (λ x. list_any (covers y x) runs) (range_with_len 0 width) in
    record {
      high = length-map-range_with_len row 0 height;
      wide = ap length (get_or-map-range_with_len row 0 height 0 0 [] some refl) ∙ length-map-range_with_len (λ x. list_any (covers 0 x) runs) 0 width;
    }

of_ending : (made history : History) (ending : Ending) → at_ending made ending ≡ Ok history → made ≡ history
of_ending made history ended is = cc
of_ending made history unended is = absurd cc
of_ending made history (stray line column) is = absurd cc

unless-ok : (fault : Option RleFault) (answer : Result History RleFault) (history : History) → unless_misfit fault answer ≡ Ok history → answer ≡ Ok history
unless-ok None answer history is = is
unless-ok (Some fault) answer history is = absurd cc

of_body : (height width : ℕ) (tokens : Option (List PlacedToken)) (history : History) → 0 < height → read_body height width tokens ≡ Ok history → HasGrid height width history
of_body height width None history some is = absurd cc
of_body height width (Some tokens) history some is =
    let runs = runs_from 0 0 (items_of tokens).items in
    let made : at_ending (picture height width runs) (items_of tokens).ending ≡ Ok history = unless-ok (first_misfit height width runs) _ history is in
    subst (HasGrid height width) (of_ending (picture height width runs) history (items_of tokens).ending made) (HasGrid-picture height width runs some)

pub has_grid : (height width : ℕ) (bytes : List ℕ) (history : History) → 0 < height → rle_of height width bytes ≡ Ok history → HasGrid height width history
has_grid height width bytes history some is = of_body height width (body_of 1 (lines_of bytes)) history some is
