-- The items of an RLE text: runs of dead cells, of live cells and of row ends, up to the end or the first byte that can't stand there.
use Rattle.std.specs.Prelude.{ℕ, ◌+◌, List, [], ◌∷◌, Option, None, Some, unwrap_or}
use Rattle.lls_rle.specs.declared.item.Item.{Item}
use Rattle.lls_rle.specs.declared.parts.Part.{Part}
use Rattle.lls_rle.specs.declared.parts.Part.TheVariants as part
use Rattle.lls_rle.specs.Tokens.{PlacedToken}
use Rattle.lls_rle.specs.Parts.{part_of}

-- what stands behind the last item: `!`, nothing, or a byte that can't stand there, at its line and column
pub data Ending : Type 0 where
  ended : Ending
  unended : Ending
  stray : ℕ → ℕ → Ending

pub record Items : Type 0 where
  pub items : List Item
  pub ending : Ending

abbrev pub none_but : Ending → Items
none_but ending = record { items = []; ending = ending }

abbrev pub before_items : Item → Items → Items
before_items item rest = record rest { items = item ∷ rest.items }

-- a token before the items behind it, which depend on whether a count stands before them. Behind a count comes a tag and
-- nothing else
abbrev pub with_part : PlacedToken → Part → Option ℕ → (Option ℕ → Items) → Items
with_part token (part.Run tag) count rest = before_items (record { count = unwrap_or count 1; tag = tag }) (rest None)
with_part token (part.Count n) None rest = rest (Some n)
with_part token (part.Count n) (Some count) rest = none_but (stray token.line token.column)
with_part token part.End None rest = none_but ended
with_part token part.End (Some count) rest = none_but (stray token.line token.column)
with_part token (part.Bad k) None rest = none_but (stray token.line (token.column + k))
with_part token (part.Bad k) (Some count) rest = none_but (stray token.line token.column)

-- the items of tokens behind a count, or behind none
abbrev pub items_behind : Option ℕ → List PlacedToken → Items
items_behind count [] = none_but unended
items_behind count (token ∷ tokens) = with_part token (part_of token.text) count (λ c. items_behind c tokens)

abbrev pub items_of : List PlacedToken → Items
items_of tokens = items_behind None tokens
