-- For private contracts alone: items, operands and options as contracts see them, without where their bytes lie in memory.
use Rattle.std.specs.Prelude.{ℕ, ◌+◌, List, map, take, drop, string_bytes, Result, Ok, Err}
use Rattle.std.specs.Borrow.{Bor}
use Rattle.std.specs.Option.{option_copied}
use Rattle.lls_words.specs.declared.item.Item as items
use Rattle.lls_words.specs.declared.item.Item.TheVariants as variants
use Rattle.lls_words.specs.declared.items.Items as left
use Rattle.lls_words.specs.declared.item.Operand as operands
use Rattle.lls_words.specs.declared.scan.Given as givens
use Rattle.lls_words.specs.declared.scan.Scan as code
use Rattle.lls_words.specs.declared.error.WordsError.{WordsError}
use Rattle.lls_words.specs.Items.{Item, plain, named, odd, items_of}
use Rattle.lls_words.specs.Scan.{Operand, Given, Scanned}

abbrev pub seen_operand : operands.Operand → Operand
seen_operand operand = record { place = operand.place; word = operand.word.now }

abbrev pub seen_item : items.Item → Item
seen_item (variants.Operand operand) = plain operand.place operand.word.now
seen_item (variants.Named place name value) = named place name.now (option_copied value)
seen_item (variants.Odd place) = odd place

-- two parts of a text
abbrev pub seen_pair : Bor (List ℕ) × Bor (List ℕ) → List ℕ × List ℕ
seen_pair parts = (parts.0.now, parts.1.now)

-- what stands before a place of a text, and behind it
abbrev pub cut : List ℕ → ℕ → List ℕ × List ℕ
cut text at = (take at text, drop (at + 1) text)

-- the items that are left
abbrev pub items_left : left.Items → List Item
items_left left = items_of left.place (map string_bytes left.words.now)

abbrev pub seen_given : givens.Given → Given
seen_given given = record { place = given.place; setting = given.setting; value = given.value.now }

abbrev pub seen_scan : code.Scan → Scanned
seen_scan scan = record { operands = map seen_operand scan.operands.items; givens = map seen_given scan.givens.items }

abbrev pub seen_value : Result (Bor (List ℕ)) WordsError → Result (List ℕ) WordsError
seen_value (Ok value) = Ok value.now
seen_value (Err error) = Err error
