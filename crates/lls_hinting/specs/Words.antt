-- What words ask: three files, and at most one option.
use Rattle.std.specs.Prelude.{ℕ, ◌+◌, ◌==◌, Bool, true, false, not, ◌||◌, List, [], ◌∷◌, ◌++◌, length, Option, None, Some, is_some, Result, Ok, Err, codes, if◌then◌else◌}
use Rattle.std.specs.Str.{bytes_eq}
use Rattle.lls_base.specs.Results.{and_then}
use Rattle.lls_drat.specs.declared.form.Form.{Form}
use Rattle.lls_drat.specs.declared.form.Form.TheVariants.{Text, Binary}
use Rattle.lls_hinting.specs.declared.request.Request.{Request}
use Rattle.lls_hinting.specs.declared.request.Operand.{Operand}
use Rattle.lls_hinting.specs.declared.words_error.WordsError.{WordsError}
use Rattle.lls_hinting.specs.declared.words_error.WordsError.TheVariants.{BadWord, RepeatedOption, MissingValue, BadValue, Operands, SameName}

-- the operands and the form so far, and whether the last word is the option
pub record Taken : Type 0 where
  pub operands : List Operand
  pub form : Option Form
  pub waits : Bool

abbrev pub nothing_taken : Taken
nothing_taken = record { operands = []; form = None; waits = false }

-- a word that isn't empty and doesn't begin with a dash
abbrev pub is_bare : List ℕ → Bool
is_bare [] = false
is_bare (b ∷ bs) = not (b == 45)

abbrev pub form_named : List ℕ → Option Form
form_named name = if bytes_eq name (codes "text") then Some Text else if bytes_eq name (codes "binary") then Some Binary else None

abbrev pub with_form : ℕ → Taken → Option Form → Result Taken WordsError
with_form place taken None = Err (BadValue place)
with_form place taken (Some form) = Ok (record taken { form = Some form; waits = false })

-- the value of the option
abbrev pub with_value : ℕ → Taken → List ℕ → Result Taken WordsError
with_value place taken word = with_form place taken (form_named word)

abbrev pub with_option : ℕ → Taken → Result Taken WordsError
with_option place taken = if is_some taken.form then Err (RepeatedOption place) else Ok (record taken { waits = true })

abbrev pub with_operand : ℕ → Taken → List ℕ → Result Taken WordsError
with_operand place taken word =
    if is_bare word then Ok (record taken { operands = taken.operands ++ record { place = place; name = word } ∷ [] }) else Err (BadWord place)

-- one word more, or its fault
abbrev pub with_word : ℕ → Taken → List ℕ → Result Taken WordsError
with_word place taken word =
    if taken.waits then with_value place taken word else
    if bytes_eq word (codes "--form") then with_option place taken else with_operand place taken word

-- these words more, of which the first has that place, up to the first at fault
abbrev pub words_taken : ℕ → Taken → List (List ℕ) → Result Taken WordsError
words_taken place taken [] = Ok taken
words_taken place taken (word ∷ words) = and_then (with_word place taken word) (λ more. words_taken (place + 1) more words)

-- the files of three operands; the one that is written is neither of the others
abbrev pub request_by : List Operand → Option Form → Result Request WordsError
request_by (formula ∷ proof ∷ output ∷ []) form =
    if bytes_eq output.name formula.name || bytes_eq output.name proof.name then Err (SameName output.place)
    else Ok (record { formula = formula.name; proof = proof.name; output = output.name; form = form })
request_by operands form = Err (Operands 3 (length operands))

-- what so many words ask
abbrev pub request_of : ℕ → Taken → Result Request WordsError
request_of count taken = if taken.waits then Err (MissingValue count) else request_by taken.operands taken.form

-- what a command line asks
abbrev pub request_in : List (List ℕ) → Result Request WordsError
request_in words = and_then (words_taken 1 nothing_taken words) (request_of (length words))
