-- For private contracts alone: what the reader of pictures has, as the lines so far have given it.
use Rattle.std.specs.Prelude.{◌≡◌, ◌≤◌, ◌<◌, ℕ, ◌*◌, ◌++◌, Bool, List, length, All, Option, None, Some, Result, Ok, Err, IfSome}
use Rattle.lls_grid.specs.declared.patterns.TheConstants.Patterns.{MOST}
use Rattle.lls_rle.specs.declared.pictures.Album.{Album}
use Rattle.lls_rle.specs.declared.pictures_fault.PicturesFault.{PicturesFault}
use Rattle.lls_rle.specs.declared.pictures_error.PicturesError.{PicturesError}
use Rattle.lls_rle.specs.declared.pictures_error.PicturesError.TheVariants.{Fault, Memory}
use Rattle.lls_rle.specs.declared.reader.Reader.{Reader}
use Rattle.lls_rle.specs.Tokens.{PlacedToken}
use Rattle.lls_rle.specs.Items.{items_of}
use Rattle.lls_rle.specs.Picture.{pictured}
use Rattle.lls_rle.specs.Reader.{IsReader, answer_from}
use Rattle.lls_rle.specs.Pictures.{Pictures}

-- a reader of that size has read these tokens
pub record HasRead (height width : ℕ) (tokens : List PlacedToken) (reader : Reader) : Type 0 where
  pub kept : IsReader reader
  pub sizes : (reader.height ≡ height) × (reader.width ≡ width)
  pub says : (rest : List PlacedToken) → answer_from reader rest ≡ pictured height width (items_of (tokens ++ rest))

-- the reader of the picture that goes on
abbrev pub IsBegun : ℕ → ℕ → Option Reader → Option (List PlacedToken) → Type 0
IsBegun height width None None = Unit {0}
IsBegun height width None (Some tokens) = ⊥
IsBegun height width (Some reader) None = ⊥
IsBegun height width (Some reader) (Some tokens) = HasRead height width tokens reader

-- the pictures that have ended, where there was room for them
pub record AreEnded (height width : ℕ) (ended : List (List Bool)) (pictures : Pictures) : Type 0 where
  pub same : ended ≡ pictures.ended
  pub sized : All (λ pattern. length pattern ≡ width * height) ended
  pub few : length ended ≤ MOST

pub record IsAlbum (album : Album) (pictures : Pictures) : Type 0 where
  pub ended : AreEnded album.height album.width album.ended.items pictures
  pub begun : IsBegun album.height album.width album.begun pictures.begun
  pub room : IfSome album.begun (λ reader. length album.ended.items < MOST)

-- what a step leads to: memory was refused, or it is as lines say
abbrev pub Takes : {X : Type 0} → Result X PicturesError → Album → Result Pictures PicturesFault → Type 0
Takes (Ok done) album (Ok pictures) = IsAlbum album pictures
Takes (Ok done) album (Err fault) = ⊥
Takes (Err Memory) album told = Unit {0}
Takes (Err (Fault fault)) album (Ok pictures) = ⊥
Takes (Err (Fault fault)) album (Err told) = fault ≡ told

-- where the picture that goes on stands, if any does
abbrev pub row_in : Option Reader → ℕ
row_in None = 0
row_in (Some reader) = reader.row

abbrev pub column_in : Option Reader → ℕ
column_in None = 0
column_in (Some reader) = reader.column
