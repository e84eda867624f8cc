-- What is read of a trail and of a store.
use Rattle.std.proofs.Common.{◌≡◌, ℕ, suc, ◌<◌, ◌≤◌, true, List, ◌∷◌, ◌++◌, length, take, drop, get_or, Some, None, sym, ap, subst, ◌∙◌, arith}
use Rattle.std.specs.Prelude.{ℤ, Contains, IfOk, OnErr, OnOk, Result, Ok, Err, slice_get, option_and_then}
use Rattle.std.specs.FinSet as set
use Rattle.std.proofs.lemmas.Option.{slice_get_within, slice_get-get_or, get_or_from_slice_get, same_Some}
use Rattle.std.proofs.lemmas.List.{get_or-map, length-map}
use Rattle.std.proofs.lemmas.Bool.Decides.{nat_tests}
use Rattle.std.proofs.Math.Seq.{split_at}
use Rattle.lls_lit.specs.Literal.{variable_of}
use Rattle.lls_lit.specs.Formula.{is_literal_of}
use Rattle.lls_store.specs.Trail.{Entry, TrailState, HasNegated, IsTrail, entry_of, literals_of, reason_of}
use Rattle.lls_store.specs.Clauses.{LiveClause, Literals, IsIn}
use Rattle.lls_store.specs.Sound.{IsForced, IsSound}
use Rattle.lls_store.specs.Store.{StoreState}
use Rattle.lls_store.proofs.Sets.{Contains-from_IsIn}
use Rattle.lls_analyse.proofs.Trails.{entry_of_here}
use Rattle.lls_analyse.proofs.LiveClauses.{IsTold}
use Rattle.lls_lemmas.specs.Closing.{MarksFalse}
use Rattle.lls_lemmas.proofs.Listing.{all_pass}

-- the entry of a literal that was read
pub record IsRead (t : TrailState) (k : ℕ) (l : ℤ) : Type 0 where
  pub entry : Entry
  pub at : slice_get t.entries k ≡ Some entry
  pub same : entry.lit ≡ l
  pub is_entry : entry_of t.entries (variable_of l) ≡ Some entry
  pub is_reason : reason_of t.entries (variable_of l) ≡ entry.reason
  pub within : is_literal_of t.vars l ≡ true
  pub most : variable_of l ≤ t.vars
  pub contained : Contains t.entries entry

most_of : (vars : ℕ) (l : ℤ) → is_literal_of vars l ≡ true → variable_of l ≤ vars
most_of vars l is = grind (arith, nat_tests)

pub is_read : (t : TrailState) (k : ℕ) (l : ℤ) → IsTrail t → slice_get (literals_of t.entries) k ≡ Some l → IsRead t k l
is_read t k l h is =
    let d : Entry = record { lit = l; level = 0; reason = None } in
    let lit_of : Entry → ℤ = λ e. e.lit in
    let lt = slice_get_within (literals_of t.entries) k l is in
    let within : k < length t.entries = omega (arith, lt, length-map t.entries lit_of) in
    let e = get_or t.entries k d in
    let at = slice_get-get_or t.entries k d within in
    let same : e.lit ≡ l = sym (get_or-map lit_of t.entries k d l within) ∙ get_or_from_slice_get (literals_of t.entries) k l l is in
    let inside = all_pass (is_literal_of t.vars) (literals_of t.entries) l h.within (k, lt, get_or_from_slice_get (literals_of t.entries) k l l is) in
    let found : entry_of t.entries (variable_of l) ≡ Some e = ap (λ m. entry_of t.entries (variable_of m)) (sym same) ∙ entry_of_here t.entries k e h.once at in
    record {
      entry = e;
      at = at;
      same = same;
      is_entry = found;
      is_reason = ap (option_and_then (λ (x : Entry). x.reason)) found;
      within = inside;
      most = most_of t.vars l inside;
      contained = (k, within, get_or_from_slice_get t.entries k e e at);
    }

-- a clause whose literals were marked where they are false
pub marks_false : (store : StoreState) (es : List Entry) (number : ℕ) (lits : List ℤ) (marked : Literals) → IsTold store number lits → ((l : ℤ) → Contains lits l → HasNegated es l → IsIn marked l) → MarksFalse store.live es number marked
marks_false store es number lits marked told each clause found l inside false_ =
    let same : told.clause ≡ clause = same_Some told.clause clause (sym told.is_live ∙ found) in
    each l (Contains-from_IsIn lits l (ap (λ (ls : Literals). set.contains ls l) (told.spelled ∙ ap (λ (c : LiveClause). c.lits) same) ∙ inside)) false_

-- the clause that forced an entry's literal
pub forced_at : (live : List LiveClause) (t : TrailState) (k : ℕ) (e : Entry) (reason : ℕ) → IsSound live t → slice_get t.entries k ≡ Some e → e.reason ≡ Some reason → IsForced live (take k t.entries) e.lit reason
forced_at live t k e reason sound at is =
    let splits : t.entries ≡ take k t.entries ++ e ∷ drop (suc k) t.entries =
    split_at t.entries k e (slice_get_within t.entries k e at) ∙ ap (λ (x : Entry). take k t.entries ++ x ∷ drop (suc k) t.entries) (get_or_from_slice_get t.entries k e e at) in
    sound (take k t.entries) (drop (suc k) t.entries) e reason splits is

-- what follows from two facts of a call that went well
pub on_ok_both : {T E P Q R : Type 0} (r : Result T E) → (P → Q → R) → OnOk r P → OnOk r Q → OnOk r R
on_ok_both (Ok value) f p q = f p q
on_ok_both (Err error) f p q = tt

-- what follows of the value of a call that went well
pub if_ok_weaker : {T E : Type 0} {P Q : T → Type 0} (r : Result T E) → ((value : T) → P value → Q value) → IfOk r P → IfOk r Q
if_ok_weaker (Ok value) f p = f value p
if_ok_weaker (Err error) f p = tt

-- what follows both where a call succeeds and where it fails
pub either : {T E : Type 0} (r : Result T E) (G : Type 0) (P : T → Type 0) (Q : Type 0) → IfOk r P → OnErr r Q → ((value : T) → P value → G) → (Q → G) → G
either (Ok value) G P Q ok err after_ok after_err = after_ok value ok
either (Err error) G P Q ok err after_ok after_err = after_err err

-- what holds of a store after a call that adds a clause or fails
pub either_store_by : {T E : Type 0} (r : Result T E) (P : StoreState → Type 0) (old new : StoreState) (more : T → StoreState) → IfOk r (λ value. new ≡ more value) → OnErr r (new ≡ old) → ((value : T) → P (more value)) → P old → P new
either_store_by (Ok value) P old new more ok err added stayed = subst P (sym ok) (added value)
either_store_by (Err error) P old new more ok err added stayed = subst P (sym err) stayed
