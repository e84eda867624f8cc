-- Files by name: what is found, and what is put in another's place.
use Rattle.std.proofs.Common.{◌≡◌, ◌≢◌, ℕ, Bool, true, false, cond, List, [], ◌++◌, Some, refl, sym, ap, ◌∙◌, unwrap_or}
use Rattle.std.specs.Ordering.{nat_cmp, eq_by_cmp}
use Rattle.std.specs.Cmp.Lexicographic.{slice_cmp}
use Rattle.std.specs.Cmp.{eq_by_cmp_equiv}
use Rattle.std.proofs.lemmas.Cmp.{nat_list_cmp_total}
use Rattle.std.proofs.lemmas.Slice.Eq.{bytes_eq-Decides}
use Rattle.std.proofs.lemmas.Map.Text.{is_eq-slice_cmp}
use Rattle.std.specs.FinMap.{get-insert, same_map, slice_cmp-IsAntisymmetric, nat_cmp-IsAntisymmetric}
use Rattle.std.specs.FinMap as map
use Rattle.lls_base.specs.Shelf.{Files, append_file}

-- two names are one
abbrev pub same_name : List ℕ → List ℕ → Bool
same_name = eq_by_cmp (slice_cmp nat_cmp)

pub same_files : (old new : Files) → ((name : List ℕ) → map.get old name ≡ map.get new name) → old ≡ new
same_files old new alike = same_map nat_list_cmp_total (slice_cmp-IsAntisymmetric nat_cmp-IsAntisymmetric) old new alike

pub same_name-refl : (name : List ℕ) → same_name name name ≡ true
same_name-refl name = (eq_by_cmp_equiv nat_list_cmp_total).refl name

pub same_name-true : (name other : List ℕ) → same_name name other ≡ true → name ≡ other
same_name-true name other same = (bytes_eq-Decides name other).0 (sym (is_eq-slice_cmp name other) ∙ same)

pub same_name-false : (name other : List ℕ) → name ≢ other → same_name name other ≡ false
same_name-false name other apart =
    elim (same_name name other) as (λ test. same_name name other ≡ test → test ≡ false) [
      | true ↦ λ same. absurd (apart (same_name-true name other same))
      | false ↦ λ same. refl
    ] refl

pub cond-cond : {A : Type 0} (b : Bool) (x y z : A) → cond b x (cond b y z) ≡ cond b x z
cond-cond true x y z = refl
cond-cond false x y z = refl

pub get-insert_same : (files : Files) (name bytes : List ℕ) → map.get (map.insert files name bytes) name ≡ Some bytes
get-insert_same files name bytes =
    get-insert nat_list_cmp_total files name bytes name ∙ ap (λ same. cond same (Some bytes) (map.get files name)) (same_name-refl name)

pub insert-insert : (files : Files) (name first next : List ℕ) → map.insert (map.insert files name first) name next ≡ map.insert files name next
insert-insert files name first next =
    same_files _ _ (λ other.
    get-insert nat_list_cmp_total (map.insert files name first) name next other
    ∙ ap (cond (same_name other name) (Some next)) (get-insert nat_list_cmp_total files name first other)
    ∙ cond-cond (same_name other name) (Some next) (Some first) (map.get files other)
    ∙ sym (get-insert nat_list_cmp_total files name next other))

pub append_file-insert : (files : Files) (name bytes more : List ℕ) → append_file (map.insert files name bytes) name more ≡ map.insert files name (bytes ++ more)
append_file-insert files name bytes more =
    ap (λ found. map.insert (map.insert files name bytes) name (unwrap_or found [] ++ more)) (get-insert_same files name bytes)
    ∙ insert-insert files name bytes (bytes ++ more)

-- what stands there already is put there
pub insert-found : (files : Files) (name bytes : List ℕ) → map.get files name ≡ Some bytes → map.insert files name bytes ≡ files
insert-found files name bytes found = same_files _ _ (λ other. get-insert nat_list_cmp_total files name bytes other ∙ unchanged other)
  where
    unchanged : (other : List ℕ) → cond (same_name other name) (Some bytes) (map.get files other) ≡ map.get files other
    unchanged other =
        elim (same_name other name) as (λ test. same_name other name ≡ test → cond test (Some bytes) (map.get files other) ≡ map.get files other) [
          | true ↦ λ same. sym found ∙ ap (map.get files) (sym (same_name-true other name same))
          | false ↦ λ same. refl
        ] refl
