-- Files by name in a list: what is found, and what a change of one leaves.
use Rattle.std.proofs.Common.{◌≡◌, ◌≢◌, ◌<◌, ℕ, suc, zero, Bool, true, false, cond, List, [], ◌∷◌, ◌++◌, length, Some, None, Result, Ok, Err, is_ok, OnOk, OnErr, unwrap_or, Vec, get_or, refl, sym, ap, subst, ◌∙◌, arith, length-append}
use Rattle.std.specs.declared.alloc.Global.{Global}
use Rattle.std.specs.Ordering.{nat_cmp}
use Rattle.std.specs.Cmp.Lexicographic.{slice_cmp}
use Rattle.std.proofs.Math.ListN.{set, length-set}
use Rattle.std.proofs.lemmas.Cmp.{nat_list_cmp_total}
use Rattle.std.specs.FinMap.{get-insert, get-empty}
use Rattle.std.specs.FinMap as map
use Rattle.lls_base.specs.Shelf.{append_file}
use Rattle.lls_base.specs.Files.{NamedBytes, files_of, name_at, bytes_at, IsFirst, IsNowhere}
use Rattle.lls_base.proofs.FileMaps.{same_name, same_name-refl, same_name-true, same_name-false, same_files, insert-found, cond-cond}

cond-swap : {A : Type 0} (a b : Bool) (x y z : A) → (a ≡ true → b ≡ true → ⊥) → cond a x (cond b y z) ≡ cond b y (cond a x z)
cond-swap true true x y z apart = absurd (apart refl refl)
cond-swap true false x y z apart = refl
cond-swap false b x y z apart = refl

-- a name that was asked for can't be two that differ
names_apart : (asked one two : List ℕ) → one ≢ two → same_name asked one ≡ true → same_name asked two ≡ true → ⊥
names_apart asked one two apart is_one is_two = apart (sym (same_name-true asked one is_one) ∙ same_name-true asked two is_two)

pub IsFirst-tail : (name : List ℕ) (file : List ℕ × Vec ℕ Global) (files : NamedBytes) (place : ℕ) → IsFirst name (file ∷ files) (suc place) → IsFirst name files place
IsFirst-tail name file files place first = record {
  within = omega (arith, first.within);
  named = first.named;
  before = λ earlier below. first.before (suc earlier) (omega arith);
}

IsNowhere-tail : (name : List ℕ) (file : List ℕ × Vec ℕ Global) (files : NamedBytes) → IsNowhere name (file ∷ files) → IsNowhere name files
IsNowhere-tail name file files nowhere = λ place within. nowhere (suc place) (omega arith)

-- what is read at a place
pub name_at-get_or : (files : NamedBytes) (place : ℕ) (other : List ℕ × Vec ℕ Global) → place < length files → (get_or files place other).0 ≡ name_at files place
name_at-get_or [] place other within = absurd (omega arith)
name_at-get_or (file ∷ files) zero other within = refl
name_at-get_or (file ∷ files) (suc place) other within = name_at-get_or files place other (omega arith)

pub bytes_at-get_or : (files : NamedBytes) (place : ℕ) (other : List ℕ × Vec ℕ Global) → place < length files → (get_or files place other).1.items ≡ bytes_at files place
bytes_at-get_or [] place other within = absurd (omega arith)
bytes_at-get_or (file ∷ files) zero other within = refl
bytes_at-get_or (file ∷ files) (suc place) other within = bytes_at-get_or files place other (omega arith)

-- what is found
pub get-first : (name : List ℕ) (files : NamedBytes) (place : ℕ) → IsFirst name files place → map.get (files_of files) name ≡ Some (bytes_at files place)
get-first name [] place first = absurd (omega (arith, first.within))
get-first name (file ∷ files) zero first =
    get-insert nat_list_cmp_total (files_of files) file.0 file.1.items name
    ∙ ap (λ same. cond same (Some file.1.items) (map.get (files_of files) name)) (ap (same_name name) first.named ∙ same_name-refl name)
get-first name (file ∷ files) (suc place) first =
    get-insert nat_list_cmp_total (files_of files) file.0 file.1.items name
    ∙ ap (λ same. cond same (Some file.1.items) (map.get (files_of files) name)) (same_name-false name file.0 (λ same. first.before 0 (omega arith) (sym same)))
    ∙ get-first name files place (IsFirst-tail name file files place first)

pub get-nowhere : (name : List ℕ) (files : NamedBytes) → IsNowhere name files → map.get (files_of files) name ≡ None
get-nowhere name [] nowhere = get-empty (slice_cmp nat_cmp) name
get-nowhere name (file ∷ files) nowhere =
    get-insert nat_list_cmp_total (files_of files) file.0 file.1.items name
    ∙ ap (λ same. cond same (Some file.1.items) (map.get (files_of files) name)) (same_name-false name file.0 (λ same. nowhere 0 (omega arith) (sym same)))
    ∙ get-nowhere name files (IsNowhere-tail name file files nowhere)

-- other bytes at the first place of a name
get-set : (name : List ℕ) (files : NamedBytes) (place : ℕ) (file : List ℕ × Vec ℕ Global) (asked : List ℕ) → IsFirst name files place → file.0 ≡ name
    → map.get (files_of (set files place file)) asked ≡ cond (same_name asked name) (Some file.1.items) (map.get (files_of files) asked)
get-set name [] place file asked first same = absurd (omega (arith, first.within))
get-set name (old ∷ files) zero file asked first same =
    get-insert nat_list_cmp_total (files_of files) file.0 file.1.items asked
    ∙ ap (λ key. cond (same_name asked key) (Some file.1.items) (map.get (files_of files) asked)) same
    ∙ sym (cond-cond (same_name asked name) (Some file.1.items) (Some old.1.items) (map.get (files_of files) asked))
    ∙ ap (λ key. cond (same_name asked name) (Some file.1.items) (cond (same_name asked key) (Some old.1.items) (map.get (files_of files) asked))) (sym first.named)
    ∙ ap (cond (same_name asked name) (Some file.1.items)) (sym (get-insert nat_list_cmp_total (files_of files) old.0 old.1.items asked))
get-set name (old ∷ files) (suc place) file asked first same =
    get-insert nat_list_cmp_total (files_of (set files place file)) old.0 old.1.items asked
    ∙ ap (cond (same_name asked old.0) (Some old.1.items)) (get-set name files place file asked (IsFirst-tail name old files place first) same)
    ∙ cond-swap (same_name asked old.0) (same_name asked name) (Some old.1.items) (Some file.1.items) (map.get (files_of files) asked)
    (names_apart asked old.0 name (first.before 0 (omega arith)))
    ∙ ap (cond (same_name asked name) (Some file.1.items)) (sym (get-insert nat_list_cmp_total (files_of files) old.0 old.1.items asked))

pub files_of-set : (name : List ℕ) (files : NamedBytes) (place : ℕ) (file : List ℕ × Vec ℕ Global) → IsFirst name files place → file.0 ≡ name
    → files_of (set files place file) ≡ map.insert (files_of files) name file.1.items
files_of-set name files place file first same =
    same_files _ _ (λ asked. get-set name files place file asked first same ∙ sym (get-insert nat_list_cmp_total (files_of files) name file.1.items asked))

-- a new name at the end
get-push : (files : NamedBytes) (file : List ℕ × Vec ℕ Global) (asked : List ℕ) → IsNowhere file.0 files
    → map.get (files_of (files ++ file ∷ [])) asked ≡ cond (same_name asked file.0) (Some file.1.items) (map.get (files_of files) asked)
get-push [] file asked nowhere = get-insert nat_list_cmp_total map.empty file.0 file.1.items asked
get-push (old ∷ files) file asked nowhere =
    get-insert nat_list_cmp_total (files_of (files ++ file ∷ [])) old.0 old.1.items asked
    ∙ ap (cond (same_name asked old.0) (Some old.1.items)) (get-push files file asked (IsNowhere-tail file.0 old files nowhere))
    ∙ cond-swap (same_name asked old.0) (same_name asked file.0) (Some old.1.items) (Some file.1.items) (map.get (files_of files) asked)
    (names_apart asked old.0 file.0 (nowhere 0 (omega arith)))
    ∙ ap (cond (same_name asked file.0) (Some file.1.items)) (sym (get-insert nat_list_cmp_total (files_of files) old.0 old.1.items asked))

pub files_of-push : (files : NamedBytes) (file : List ℕ × Vec ℕ Global) → IsNowhere file.0 files → files_of (files ++ file ∷ []) ≡ map.insert (files_of files) file.0 file.1.items
files_of-push files file nowhere =
    same_files _ _ (λ asked. get-push files file asked nowhere ∙ sym (get-insert nat_list_cmp_total (files_of files) file.0 file.1.items asked))

-- the names after such a change
pub name_at-set : (files : NamedBytes) (place : ℕ) (file : List ℕ × Vec ℕ Global) → file.0 ≡ name_at files place → (asked : ℕ) → name_at (set files place file) asked ≡ name_at files asked
name_at-set [] place file same asked = refl
name_at-set (old ∷ files) zero file same zero = same
name_at-set (old ∷ files) zero file same (suc asked) = refl
name_at-set (old ∷ files) (suc place) file same zero = refl
name_at-set (old ∷ files) (suc place) file same (suc asked) = name_at-set files place file same asked

pub IsFirst-set : (name : List ℕ) (files : NamedBytes) (place : ℕ) (file : List ℕ × Vec ℕ Global) → IsFirst name files place → file.0 ≡ name → IsFirst name (set files place file) place
IsFirst-set name files place file first same = record {
  within = rw length-set first.within;
  named = name_at-set files place file (same ∙ sym first.named) place ∙ first.named;
  before = λ earlier below is_name. first.before earlier below (sym (name_at-set files place file (same ∙ sym first.named) earlier) ∙ is_name);
}

name_at-push_below : (files : NamedBytes) (file : List ℕ × Vec ℕ Global) (asked : ℕ) → asked < length files → name_at (files ++ file ∷ []) asked ≡ name_at files asked
name_at-push_below [] file asked within = absurd (omega arith)
name_at-push_below (old ∷ files) file zero within = refl
name_at-push_below (old ∷ files) file (suc asked) within = name_at-push_below files file asked (omega arith)

name_at-push : (files : NamedBytes) (file : List ℕ × Vec ℕ Global) → name_at (files ++ file ∷ []) (length files) ≡ file.0
name_at-push [] file = refl
name_at-push (old ∷ files) file = name_at-push files file

IsFirst-push : (files : NamedBytes) (file : List ℕ × Vec ℕ Global) → IsNowhere file.0 files → IsFirst file.0 (files ++ file ∷ []) (length files)
IsFirst-push files file nowhere = record {
  within = omega (arith, length-append files (file ∷ []));
  named = name_at-push files file;
  before = λ earlier below is_name. nowhere earlier below (sym (name_at-push_below files file earlier below) ∙ is_name);
}

-- a push of an empty file under a new name
pub files_of-pushed : (name : List ℕ) (files new : NamedBytes) (file : List ℕ × Vec ℕ Global) → IsNowhere name files → new ≡ files ++ file ∷ [] → file.0 ≡ name → file.1.items ≡ []
    → files_of new ≡ map.insert (files_of files) name []
files_of-pushed name files new file nowhere pushed same empty =
    ap files_of pushed
    ∙ files_of-push files file (subst (λ (key : List ℕ). IsNowhere key files) (sym same) nowhere)
    ∙ ap (λ key. map.insert (files_of files) key file.1.items) same
    ∙ ap (map.insert (files_of files) name) empty

pub IsFirst-pushed : (name : List ℕ) (files new : NamedBytes) (file : List ℕ × Vec ℕ Global) (place : ℕ) → IsNowhere name files → new ≡ files ++ file ∷ [] → file.0 ≡ name → place ≡ length files
    → IsFirst name new place
IsFirst-pushed name files new file place nowhere pushed same end =
    let first = IsFirst-push files file (subst (λ (key : List ℕ). IsNowhere key files) (sym same) nowhere) in
    rw (pushed, end) (subst (λ (key : List ℕ). IsFirst key (files ++ file ∷ []) (length files)) same first)

-- the place's own entry, with other bytes
module _ (files : NamedBytes) (place : ℕ) (old : List ℕ × Vec ℕ Global) (is_old : old ≡ get_or files place old) where
  same_name_at : place < length files → old.0 ≡ name_at files place
  same_name_at within = ap (λ file. file.0) is_old ∙ name_at-get_or files place old within

  same_bytes_at : place < length files → old.1.items ≡ bytes_at files place
  same_bytes_at within = ap (λ file. file.1.items) is_old ∙ bytes_at-get_or files place old within

  pub files_of-written : (name : List ℕ) (new : Vec ℕ Global) → IsFirst name files place → files_of (set files place (old.0, new)) ≡ map.insert (files_of files) name new.items
  files_of-written name new first = files_of-set name files place (old.0, new) first (same_name_at first.within ∙ first.named)

  pub IsFirst-written : (name : List ℕ) (new : Vec ℕ Global) → IsFirst name files place → IsFirst name (set files place (old.0, new)) place
  IsFirst-written name new first = IsFirst-set name files place (old.0, new) first (same_name_at first.within ∙ first.named)

  pub files_of-appended : {E : Type 0} (answer : Result (Unit {0}) E) (name bytes : List ℕ) (new : Vec ℕ Global) → IsFirst name files place
      → new.items ≡ cond (is_ok answer) (old.1.items ++ bytes) old.1.items → OnOk answer (files_of (set files place (old.0, new)) ≡ append_file (files_of files) name bytes)
  files_of-appended (Err e) name bytes new first items = tt
  files_of-appended (Ok done) name bytes new first items =
      files_of-written name new first
      ∙ ap (map.insert (files_of files) name) (items ∙ ap (λ front. front ++ bytes) (same_bytes_at first.within ∙ sym (ap (λ found. unwrap_or found []) (get-first name files place first))))

  pub files_of-kept : {E : Type 0} (answer : Result (Unit {0}) E) (name bytes : List ℕ) (new : Vec ℕ Global) → IsFirst name files place
      → new.items ≡ cond (is_ok answer) (old.1.items ++ bytes) old.1.items → OnErr answer (files_of (set files place (old.0, new)) ≡ files_of files)
  files_of-kept (Ok done) name bytes new first items = tt
  files_of-kept (Err e) name bytes new first items =
      files_of-written name new first
      ∙ ap (map.insert (files_of files) name) (items ∙ same_bytes_at first.within)
      ∙ insert-found (files_of files) name (bytes_at files place) (get-first name files place first)
