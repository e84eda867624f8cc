-- Lists of patterns, by the words of their rows and by their lines.
use Rattle.std.proofs.Common.{◌≡◌, ◌+◌, ◌*◌, ℕ, Bool, true, false, not, cond, List, [], ◌∷◌, ◌++◌, map, length, Option, None, Some, Ok, refl, sym, ap, ◌∙◌, arith}
use Rattle.std.specs.Prelude.{◌==◌}
use Rattle.std.specs.Option.{option_map}
use Rattle.std.proofs.lemmas.Bool.Decides.{nat_tests}
use Rattle.std.specs.List.{position, position_from}
use Rattle.std.proofs.lemmas.List.Elements.{All-nil}
use Rattle.std.proofs.lemmas.Iterator.Adapters.{position_from-zero}
use Rattle.lls_text.specs.Lines.{lines_of}
use Rattle.lls_search_file.specs.declared.list_fault.ListFault.{ListFault}
use Rattle.lls_search_file.specs.declared.list_fault.ListFault.TheVariants.{NotPlain}
use Rattle.lls_search_file.specs.Words.{Word}
use Rattle.lls_search_file.specs.Listing.{Listing, no_patterns, is_plain_word, first_wrong, row_wrongs, too_many, is_live_word, row_listed, unless_wrong, with_cells, lines_listed, list_of, IsListing}

-- the first of what words stand for that passes a test
from_mapped : {A B : Type 0} (test : B → Bool) (f : A → B) (n : ℕ) (xs : List A) → position_from (λ x. test (f x)) n xs ≡ position_from test n (map f xs)
from_mapped test f n [] = refl
from_mapped test f n (x ∷ xs) = ap (λ rest. cond (test (f x)) (Some n) rest) (from_mapped test f (n + 1) xs)

pub position_mapped : {A B : Type 0} (test : B → Bool) (f : A → B) (xs : List A) → position (λ x. test (f x)) xs ≡ position test (map f xs)
position_mapped test f xs = position_from-zero (λ x. test (f x)) xs ∙ from_mapped test f 0 xs ∙ sym (position_from-zero test (map f xs))

pub map_mapped : {A B C : Type 0} (g : B → C) (f : A → B) (xs : List A) → map (λ x. g (f x)) xs ≡ map g (map f xs)
map_mapped g f [] = refl
map_mapped g f (x ∷ xs) = ap (λ rest. g (f x) ∷ rest) (map_mapped g f xs)

-- nothing has been read
pub nothing_listed : (height width : ℕ) → IsListing height width no_patterns
nothing_listed height width = record { sized = All-nil (λ pattern. length pattern ≡ width * height); begun = grind arith; rows = omega arith; few = omega arith; room = λ some. omega arith }

pub list_of-none : (height width : ℕ) (bytes : List ℕ) → list_of height width bytes ≡ lines_listed height width 1 (lines_of bytes) no_patterns
unfolding list_of
list_of-none height width bytes = refl

-- the faults of a row of the width for which there is room, by where its first cell stands that isn't plain
last_wrong : (fault : Option ListFault) → first_wrong (fault ∷ []) ≡ fault
last_wrong None = refl
last_wrong (Some fault) = refl

behind_sizes : (height width line : ℕ) (listing : Listing) (row : List Word) → length row ≡ width → (listing.rows ≡ height → ⊥)
    → first_wrong (row_wrongs height width line listing row) ≡ first_wrong (option_map (NotPlain line) (position (λ word. not (is_plain_word word)) row) ∷ too_many listing ∷ [])
behind_sizes height width line listing row wide room =
    let same : (length row == width) ≡ true = grind (arith, nat_tests, wide) in
    let other : (listing.rows == height) ≡ false = grind (arith, nat_tests, room) in
    rw (same, other) refl

pub wrong_cell : (height width line cell : ℕ) (listing : Listing) (row : List Word) → length row ≡ width → (listing.rows ≡ height → ⊥) → Some cell ≡ position (λ word. not (is_plain_word word)) row
    → Some (NotPlain line cell) ≡ first_wrong (row_wrongs height width line listing row)
wrong_cell height width line cell listing row wide room found =
    ap (λ at. first_wrong (option_map (NotPlain line) at ∷ too_many listing ∷ [])) found ∙ sym (behind_sizes height width line listing row wide room)

pub wrong_count : (height width line : ℕ) (listing : Listing) (row : List Word) (fault : Option ListFault) → length row ≡ width → (listing.rows ≡ height → ⊥) → None ≡ position (λ word. not (is_plain_word word)) row
    → fault ≡ too_many listing → fault ≡ first_wrong (row_wrongs height width line listing row)
wrong_count height width line listing row fault wide room found is =
    is ∙ sym (last_wrong (too_many listing)) ∙ ap (λ at. first_wrong (option_map (NotPlain line) at ∷ too_many listing ∷ [])) found ∙ sym (behind_sizes height width line listing row wide room)

-- a row that has no fault is taken
pub row_taken : (height width line : ℕ) (listing : Listing) (row : List Word) (begun : List Bool) → None ≡ first_wrong (row_wrongs height width line listing row) → begun ≡ listing.begun ++ map is_live_word row
    → row_listed height width line listing row ≡ Ok (record { ended = listing.ended; begun = begun; rows = listing.rows + 1 })
row_taken height width line listing row begun none is =
    ap (λ fault. unless_wrong fault (with_cells listing row)) (sym none) ∙ ap (λ cells. Ok (record { ended = listing.ended; begun = cells; rows = listing.rows + 1 })) (sym is)
