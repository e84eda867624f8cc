-- Files by name in a list. Where a name stands twice, the first counts.
use Rattle.std.specs.Prelude.{◌≡◌, ◌≢◌, ◌<◌, ℕ, suc, zero, List, [], ◌∷◌, length, Vec}
use Rattle.std.specs.declared.alloc.Global.{Global}
use Rattle.std.specs.FinMap as map
use Rattle.lls_base.specs.Shelf.{Files}

-- names, each with bytes
abbrev pub NamedBytes : Type 0
NamedBytes = List (List ℕ × Vec ℕ Global)

abbrev pub files_of : NamedBytes → Files
files_of [] = map.empty
files_of (file ∷ files) = map.insert (files_of files) file.0 file.1.items

-- the name at a place, and the bytes
abbrev pub name_at : NamedBytes → ℕ → List ℕ
name_at [] place = []
name_at (file ∷ files) zero = file.0
name_at (file ∷ files) (suc place) = name_at files place

abbrev pub bytes_at : NamedBytes → ℕ → List ℕ
bytes_at [] place = []
bytes_at (file ∷ files) zero = file.1.items
bytes_at (file ∷ files) (suc place) = bytes_at files place

-- the first place of a name
pub record IsFirst (name : List ℕ) (files : NamedBytes) (place : ℕ) : Type 0 where
  pub within : place < length files
  pub named : name_at files place ≡ name
  pub before : (earlier : ℕ) → earlier < place → name_at files earlier ≢ name

-- no place has the name
abbrev pub IsNowhere : List ℕ → NamedBytes → Type 0
IsNowhere name files = (place : ℕ) → place < length files → name_at files place ≢ name
