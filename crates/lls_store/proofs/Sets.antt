-- A list of literals and the set of them.
use Rattle.std.proofs.Common.{◌≡◌, ℕ, List, get_or, true, sym, ◌∙◌}
use Rattle.std.specs.Prelude.{ℤ, Contains}
use Rattle.std.specs.FinSet as set
use Rattle.std.specs.Ordering.{int_cmp, eq_by_cmp}
use Rattle.std.proofs.lemmas.Cmp.{int_cmp_total, eq_by_cmp_equiv}
use Rattle.std.proofs.lemmas.Map.Lookups.{exact_signed}
use Rattle.std.proofs.lemmas.Map.Views.{tells_apart, Contains-from_any, list_any-from_Contains}
use Rattle.std.proofs.lemmas.List.{get_or_default}
use Rattle.std.proofs.lemmas.List.Sums.{AllPass-from_list_all, list_all-from_AllPass}
use Rattle.std.proofs.lemmas.List.Elements.{All-contains}
use Rattle.lls_lit.specs.Formula.{is_literal_of, is_within}
use Rattle.lls_store.specs.Clauses.{IsIn}
use Rattle.lls_store.specs.Store.{AreWithin}

pub Contains-from_IsIn : (ls : List ℤ) (l : ℤ) → IsIn (set.from_list ls) l → Contains ls l
Contains-from_IsIn ls l inside =
    Contains-from_any {eq = eq_by_cmp int_cmp} (tells_apart exact_signed) l ls (sym (set.contains-from_list int_cmp_total ls l) ∙ inside)

pub IsIn-from_Contains : (ls : List ℤ) (l : ℤ) → Contains ls l → IsIn (set.from_list ls) l
IsIn-from_Contains ls l contains =
    set.contains-from_list int_cmp_total ls l
    ∙ list_any-from_Contains (eq_by_cmp_equiv int_cmp_total) l ls contains

pub AreWithin-from_list : (vars : ℕ) (ls : List ℤ) → is_within vars ls ≡ true → AreWithin vars (set.from_list ls)
AreWithin-from_list vars ls within = λ l inside. All-contains (λ m. is_literal_of vars m ≡ true) ls l (AllPass-from_list_all (is_literal_of vars) ls within) (Contains-from_IsIn ls l inside)

pub is_within-from_AreWithin : (vars : ℕ) (ls : List ℤ) → AreWithin vars (set.from_list ls) → is_within vars ls ≡ true
is_within-from_AreWithin vars ls within = list_all-from_AllPass (is_literal_of vars) ls
    (λ k d lt. within (get_or ls k d) (IsIn-from_Contains ls (get_or ls k d) (k, lt, get_or_default ls k (get_or ls k d) d lt)))
