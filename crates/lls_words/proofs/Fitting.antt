-- What the scan takes fits into canonical words.
use Rattle.std.proofs.Common.{◌≡◌, ℕ, zero, suc, ◌+◌, true, false, cond, ◌||◌, List, [], ◌∷◌, ◌++◌, All, get_or, position, Option, Some, None, Result, Ok, Err, refl, sym, ap, subst, arith}
use Rattle.std.specs.Prelude.{find}
use Rattle.std.specs.List.{list_any}
use Rattle.std.specs.Option.{option_map}
use Rattle.std.specs.Result.{is_ok}
use Rattle.std.proofs.lemmas.Option.{none-some}
use Rattle.std.proofs.lemmas.List.Elements.{All-append}
use Rattle.lls_base.specs.Results.{and_then}
use Rattle.lls_words.specs.declared.command.Command.{Command}
use Rattle.lls_words.specs.declared.command.Setting.{Setting}
use Rattle.lls_words.specs.declared.error.WordsError.TheVariants.{RepeatedOption, UnknownOption}
use Rattle.lls_words.specs.Command.{same_setting, setting_of, takes}
use Rattle.lls_words.specs.Items.{Item, plain, named, odd, operand, is_bare, option_shape, option_text, named_shape, shaped, is_equals_sign, item_of, items_of, takes_next}
use Rattle.lls_words.specs.Scan.{Operand, Given, Scanned, nothing_scanned, setting_at, value_at, with_item, with_items, scan}
use Rattle.lls_words.specs.Canonical.{FitsCanonical, value_of}
use Rattle.lls_words.proofs.Rows.{true_false}
use Rattle.lls_words.proofs.Table.{by_table}

-- an operand of the items is plain
abbrev IsFine : Item → Type 0
IsFine (plain place word) = is_bare word ≡ true
IsFine (named place name value) = Unit {0}
IsFine (odd place) = Unit {0}

abbrev AreFine : List Item → Type 0
AreFine [] = Unit {0}
AreFine (item ∷ items) = IsFine item × AreFine items

fine_cut : (place : ℕ) (word : List ℕ) (next : Option (List ℕ)) (text : List ℕ) (at : Option ℕ) → IsFine (shaped place word next (named_shape text at))
fine_cut place word next text None = tt
fine_cut place word next text (Some at) = tt

fine_option : (place : ℕ) (word : List ℕ) (next text : Option (List ℕ)) → IsFine (shaped place word next (option_shape text))
fine_option place word next None = tt
fine_option place word next (Some text) = fine_cut place word next text (position is_equals_sign text)

fine_item : (place : ℕ) (word : List ℕ) (next : Option (List ℕ)) → IsFine (item_of place word next)
fine_item place word next =
    elim (is_bare word) as (λ b. is_bare word ≡ b → IsFine (shaped place word next (cond b operand (option_shape (option_text word))))) [
      | true ↦ λ e. e
      | false ↦ λ e. fine_option place word next (option_text word)
    ] refl

fine_items : (place : ℕ) (words : List (List ℕ)) → AreFine (items_of place words)
fine_items place [] = tt
fine_items place (word ∷ []) = (fine_item place word None, tt)
fine_items place (word ∷ next ∷ words) = (
  fine_item place word (Some next),
  elim (takes_next word) as (λ b. AreFine (cond b (items_of (place + 2) words) (items_of (place + 1) (next ∷ words)))) [
    | true ↦ fine_items (place + 2) words
    | false ↦ fine_items (place + 1) (next ∷ words)
  ],
)

-- what stands behind a part that is right
pub record Passes {A B E : Type 0} (part : Result A E) (more : A → Result B E) (value : B) : Type 0 where
  pub between : A
  pub part_is : part ≡ Ok between
  pub more_is : more between ≡ Ok value

abbrev value_or : {A E : Type 0} → A → Result A E → A
value_or a (Ok value) = value
value_or a (Err fault) = a

err_ok : {A E : Type 0} {P : Type 0} (fault : E) (value : A) → Err fault ≡ Ok value → P
err_ok fault value e = true_false (sym (ap is_ok e))

ok_ok : {A E : Type 0} (a b : A) → ◌≡◌ {A = Result A E} (Ok a) (Ok b) → a ≡ b
ok_ok a b e = ap (value_or a) e

passes : {A B E : Type 0} (part : Result A E) (more : A → Result B E) (value : B) → and_then part more ≡ Ok value → Passes part more value
passes (Ok a) more value e = record { between = a; part_is = refl; more_is = e }
passes (Err fault) more value e = err_ok fault value e

-- an option behind others changes none of their values
value_of-kept : (givens : List Given) (new : Given) (s : Setting) (value : List ℕ) → value_of givens s ≡ Some value → value_of (givens ++ new ∷ []) s ≡ Some value
value_of-kept [] new s value is = absurd (none-some value is)
value_of-kept (g ∷ givens) new s value is =
    elim (same_setting g.setting s) as (λ b. option_map (λ (x : Given). x.value) (cond b (Some g) (find (λ x. same_setting x.setting s) givens)) ≡ Some value
    → option_map (λ (x : Given). x.value) (cond b (Some g) (find (λ x. same_setting x.setting s) (givens ++ new ∷ []))) ≡ Some value) [
      | true ↦ λ e. e
      | false ↦ λ e. value_of-kept givens new s value e
    ] is

same_itself : (s : Setting) → same_setting s s ≡ true
same_itself = by_table _ _ refl

-- the value of an option that wasn't given before
value_of-new : (givens : List Given) (new : Given) → list_any (λ given. same_setting given.setting new.setting) givens ≡ false → value_of (givens ++ new ∷ []) new.setting ≡ Some new.value
value_of-new [] new none = rw (same_itself new.setting) refl
value_of-new (g ∷ givens) new none =
    elim (same_setting g.setting new.setting) as (λ b. (b || list_any (λ given. same_setting given.setting new.setting) givens) ≡ false
    → option_map (λ (x : Given). x.value) (cond b (Some g) (find (λ x. same_setting x.setting new.setting) (givens ++ new ∷ []))) ≡ Some new.value) [
      | true ↦ λ e. true_false e
      | false ↦ λ e. value_of-new givens new e
    ] none

all_one : {X : Type 0} (P : X → Type 0) (x : X) → P x → All P (x ∷ [])
all_one P x holds zero d inside = holds
all_one P x holds (suc k) d inside = absurd (omega (arith, inside))

-- a setting that is taken, and that wasn't given before
record IsNew (command : Command) (givens : List Given) (s : Setting) : Type 0 where
  taken : takes command s ≡ true
  new : list_any (λ given. same_setting given.setting s) givens ≡ false

is_new : (command : Command) (givens : List Given) (place : ℕ) (found : Option Setting) (s : Setting) → setting_at command givens place found ≡ Ok s → IsNew command givens s
is_new command givens place None s e = err_ok _ s e
is_new command givens place (Some setting) s e =
    let before = list_any (λ given. same_setting given.setting setting) givens in
    elim (takes command setting) as (λ b. takes command setting ≡ b → cond b (cond before (Err (RepeatedOption place)) (Ok setting)) (Err (UnknownOption place)) ≡ Ok s → IsNew command givens s) [
      | true ↦ λ taken e.
          elim before as (λ b. before ≡ b → cond b (Err (RepeatedOption place)) (Ok setting) ≡ Ok s → IsNew command givens s) [
            | true ↦ λ again e. err_ok _ s e
            | false ↦ λ new e. subst (IsNew command givens) (ok_ok setting s e) (record { taken = taken; new = new })
          ] refl e
      | false ↦ λ taken e. err_ok _ s e
    ] refl e

fits_operand : (command : Command) (s : Scanned) (o : Operand) → is_bare o.word ≡ true → FitsCanonical command s → FitsCanonical command (record s { operands = s.operands ++ o ∷ [] })
fits_operand command s o holds fits = record {
  taken = fits.taken;
  once = fits.once;
  plain = All-append (λ o. is_bare o.word ≡ true) s.operands (o ∷ []) fits.plain (all_one (λ o. is_bare o.word ≡ true) o holds);
}

fits_given : (command : Command) (s : Scanned) (g : Given) → IsNew command s.givens g.setting → FitsCanonical command s → FitsCanonical command (record s { givens = s.givens ++ g ∷ [] })
fits_given command s g is fits = record {
  taken = All-append (λ given. takes command given.setting ≡ true) s.givens (g ∷ []) fits.taken (all_one (λ given. takes command given.setting ≡ true) g is.taken);
  once = All-append (λ given. value_of (s.givens ++ g ∷ []) given.setting ≡ Some given.value) s.givens (g ∷ [])
      (λ k d inside. value_of-kept s.givens g (get_or s.givens k d).setting (get_or s.givens k d).value (fits.once k d inside))
      (all_one (λ given. value_of (s.givens ++ g ∷ []) given.setting ≡ Some given.value) g (value_of-new s.givens g is.new));
  plain = fits.plain;
}

fits_item : (command : Command) (s more : Scanned) (item : Item) → IsFine item → FitsCanonical command s → with_item command s item ≡ Ok more → FitsCanonical command more
fits_item command s more (plain place word) fine fits e = subst (FitsCanonical command) (ok_ok _ more e) (fits_operand command s (record { place = place; word = word }) fine fits)
fits_item command s more (odd place) fine fits e = err_ok _ more e
fits_item command s more (named place name value) fine fits e =
    let one = passes (setting_at command s.givens place (setting_of name)) _ more e in
    let two = passes (value_at place value) _ more one.more_is in
    let given : Given = record { place = place; setting = one.between; value = two.between } in
    subst (FitsCanonical command) (ok_ok _ more two.more_is) (fits_given command s given (is_new command s.givens place (setting_of name) one.between one.part_is) fits)

fits_items : (command : Command) (s more : Scanned) (items : List Item) → AreFine items → FitsCanonical command s → with_items command s items ≡ Ok more → FitsCanonical command more
fits_items command s more [] fine fits e = subst (FitsCanonical command) (ok_ok s more e) fits
fits_items command s more (item ∷ items) fine fits e =
    let step = passes (with_item command s item) _ more e in
    fits_items command step.between more items fine.1 (fits_item command s step.between item fine.0 fits step.part_is) step.more_is

fits_nothing : (command : Command) → FitsCanonical command nothing_scanned
fits_nothing command = record {
  taken = λ k d inside. absurd (omega (arith, inside));
  once = λ k d inside. absurd (omega (arith, inside));
  plain = λ k d inside. absurd (omega (arith, inside));
}

pub FitsCanonical-scan : (command : Command) (words : List (List ℕ)) (s : Scanned) → scan command words ≡ Ok s → FitsCanonical command s
FitsCanonical-scan command words s e = fits_items command nothing_scanned s (items_of 2 words) (fine_items 2 words) (fits_nothing command) e
