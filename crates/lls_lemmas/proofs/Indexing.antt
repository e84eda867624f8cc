-- Entries of an index that lead back, and what is met on the way.
use Rattle.std.proofs.Common.{◌≡◌, ◌≢◌, ℕ, ◌+◌, ◌<◌, true, false, List, [], ◌∷◌, ◌++◌, length, cond, get_or, Option, Some, None, refl, sym, ap, subst, ◌∙◌, inl, inr, ◌≤◌, arith}
use Rattle.std.specs.Prelude.{ℤ, ◌==◌, Contains, slice_get}
use Rattle.std.specs.FinSet as set
use Rattle.std.proofs.lemmas.Bool.Decides.{Decides-eqb}
use Rattle.std.proofs.lemmas.List.Elements.{Contains-append_left, Contains-push, Contains-push_cases}
use Rattle.std.proofs.lemmas.Option.{get_or_from_slice_get, same_Some, slice_get_within, slice_get-get_or}
use Rattle.std.proofs.lemmas.List.{get_or_append_left, get_or_push, length_push}
use Rattle.lls_lit.specs.Literal.{negation, variable_of}
use Rattle.lls_store.specs.Clauses.{LiveClause}
use Rattle.lls_store.specs.Store.{StoreState, with_clause}
use Rattle.lls_analyse.proofs.Gathering.{first_or_later, nothing_there}
use Rattle.lls_lemmas.specs.declared.index.Entry.{Entry}
use Rattle.lls_lemmas.specs.declared.index.Index.{Index}
use Rattle.lls_lemmas.specs.Indexed.{newest_in, set_hash, IsFound, IsIndexed, IsLinked, IsMet, IsPlain}
use Rattle.lls_lemmas.specs.Indexed.IsMet.{here, before}
use Rattle.lls_lemmas.specs.Lemmas.{is_tautology}
use Rattle.lls_lemmas.proofs.Tautologies.{none_beside, plain_set, unlike}

-- an entry of a list is one of a longer list
pub get_more : {X : Type 0} (xs : List X) (x : X) (k : ℕ) (y : X) → slice_get xs k ≡ Some y → slice_get (xs ++ x ∷ []) k ≡ Some y
get_more xs x k y at =
    let lt = slice_get_within xs k y at in
    slice_get-get_or (xs ++ x ∷ []) k y (omega (arith, lt, length_push xs x)) ∙ ap (λ (z : _). Some z) (get_or_append_left xs (x ∷ []) y k lt ∙ get_or_from_slice_get xs k y y at)

pub get_last : {X : Type 0} (xs : List X) (x : X) → slice_get (xs ++ x ∷ []) (length xs) ≡ Some x
get_last xs x = slice_get-get_or (xs ++ x ∷ []) (length xs) x (omega (arith, length_push xs x)) ∙ ap (λ (z : _). Some z) (get_or_push xs x x (length xs) refl)

-- what is met stays so where an entry comes behind
pub met_more : (entries : List Entry) (e : Entry) (number : ℕ) (from : Option ℕ) → IsMet entries number from → IsMet (entries ++ e ∷ []) number from
met_more entries e number from (here _ place entry is at same) = here from place entry is (get_more entries e place entry at) same
met_more entries e number from (before _ place entry is at rest) = before from place entry is (get_more entries e place entry at) (met_more entries e number entry.before rest)

-- from nowhere nothing is met
pub met_none : (entries : List Entry) (number : ℕ) (from : Option ℕ) → from ≡ None → IsMet entries number from → ⊥
met_none entries number from none (here _ place entry is at same) = let clash : None ≡ Some place = sym none ∙ is in absurd cc
met_none entries number from none (before _ place entry is at rest) = let clash : None ≡ Some place = sym none ∙ is in absurd cc

-- from an entry of another number it is met only from the one before
pub met_before : (entries : List Entry) (number place : ℕ) (from : Option ℕ) (e : Entry) → from ≡ Some place → slice_get entries place ≡ Some e → e.number ≢ number → IsMet entries number from → IsMet entries number e.before
met_before entries number place from e start at other (here _ p entry is at' same) =
    let places = same_Some p place (sym is ∙ start) in
    let entries_same = same_Some entry e (sym at' ∙ ap (slice_get entries) places ∙ at) in
    absurd (other (ap (λ (x : Entry). x.number) (sym entries_same) ∙ same))
met_before entries number place from e start at other (before _ p entry is at' rest) =
    let places = same_Some p place (sym is ∙ start) in
    let entries_same = same_Some entry e (sym at' ∙ ap (slice_get entries) places ∙ at) in
    subst (λ (x : Entry). IsMet entries number x.before) entries_same rest

-- one entry more, which becomes the newest with its hash
module _ (old new : Index) (hash place : ℕ) (e : Entry) (entries_are : new.entries.items ≡ old.entries.items ++ e ∷ []) (numbers_are : new.numbers.items ≡ old.numbers.items ++ e.number ∷ []) where
  -- where it isn't the newest yet
  pub indexed_more : ((q : ℕ) → newest_in new q ≡ newest_in old q) → (vars : ℕ) (clause : LiveClause) → IsIndexed vars old clause → IsIndexed vars new clause
  indexed_more same vars clause i =
      let h = set_hash vars clause.lits in
      let P : List Entry → Type 0 = λ es. IsMet es clause.number (newest_in new h) in
      let Q : Option ℕ → Type 0 = λ o. IsMet (old.entries.items ++ e ∷ []) clause.number o in
      let T : List ℕ → Type 0 = λ ns. Contains ns clause.number in
      record {
        met = subst P (sym entries_are) (subst Q (sym (same h)) (met_more old.entries.items e clause.number (newest_in old h) i.met));
        listed = subst T (sym numbers_are) (Contains-append_left old.numbers.items (e.number ∷ []) clause.number i.listed);
      }

  module _ (newest_are : (q : ℕ) → newest_in new q ≡ cond (hash == q) (Some place) (newest_in old q)) (at_end : place ≡ length old.entries.items) where
    last_entry : slice_get new.entries.items place ≡ Some e
    last_entry = ap (λ (es : List Entry). slice_get es place) entries_are ∙ ap (slice_get (old.entries.items ++ e ∷ [])) at_end ∙ get_last old.entries.items e

    longer : length new.entries.items ≡ place + 1
    longer = ap (λ (es : List Entry). length es) entries_are ∙ length_push old.entries.items e ∙ ap (λ n. n + 1) (sym at_end)

    pub linked_put : e.before ≡ newest_in old hash → IsLinked old → IsLinked new
    linked_put leads l = record {
      back = λ p b x at is. elim (p == place) as (λ t. (p == place) ≡ t → b < p) [
        | true ↦ λ same.
            let equal = (Decides-eqb p place).0 same in
            let entries_same = same_Some e x (sym last_entry ∙ ap (slice_get new.entries.items) (sym equal) ∙ at) in
            let lt = l.within hash b (sym leads ∙ ap (λ (y : Entry). y.before) entries_same ∙ is) in
            omega (arith, lt, equal, at_end)
        | false ↦ λ other.
            let apart : p ≢ place = λ same. (let clash : false ≡ true = sym other ∙ (Decides-eqb p place).1 same in absurd cc) in
            let lt = slice_get_within new.entries.items p x at in
            l.back p b x (earlier p x (omega (arith, lt, longer, apart, at_end)) at) is
      ] refl;
      within = λ h p is. elim (hash == h) as (λ t. cond t (Some place) (newest_in old h) ≡ Some p → p < length new.entries.items) [
        | true ↦ λ at. omega (arith, same_Some place p at, longer)
        | false ↦ λ at. omega (arith, l.within h p at, longer, at_end)
      ] (sym (newest_are h) ∙ is);
    }
      where
        earlier : (p : ℕ) (x : Entry) → p < length old.entries.items → slice_get new.entries.items p ≡ Some x → slice_get old.entries.items p ≡ Some x
        earlier p x lt at =
            slice_get-get_or old.entries.items p x lt
            ∙ ap (λ (z : Entry). Some z) (sym (get_or_append_left old.entries.items (e ∷ []) x p lt) ∙ ap (λ (es : List Entry). get_or es p x) (sym entries_are) ∙ get_or_from_slice_get new.entries.items p x x at)

    pub indexed_put : e.before ≡ newest_in old hash → (vars : ℕ) (clause : LiveClause) → IsIndexed vars old clause → IsIndexed vars new clause
    indexed_put leads vars clause i =
        let h = set_hash vars clause.lits in
        let P : List Entry → Type 0 = λ es. IsMet es clause.number (newest_in old h) in
        let met = subst P (sym entries_are) (met_more old.entries.items e clause.number (newest_in old h) i.met) in
        let T : List ℕ → Type 0 = λ ns. Contains ns clause.number in
        let Q : Option ℕ → Type 0 = λ o. IsMet new.entries.items clause.number o in
        record {
          met = elim (hash == h) as (λ t. (hash == h) ≡ t → newest_in new h ≡ cond t (Some place) (newest_in old h) → IsMet new.entries.items clause.number (newest_in new h)) [
            | true ↦ λ same is. before (newest_in new h) place e is last_entry (subst Q (ap (newest_in old) (sym ((Decides-eqb hash h).0 same)) ∙ sym leads) met)
            | false ↦ λ _ is. subst Q (sym is) met
          ] refl (newest_are h);
          listed = subst T (sym numbers_are) (Contains-append_left old.numbers.items (e.number ∷ []) clause.number i.listed);
        }

    pub indexed_new : (vars : ℕ) (clause : LiveClause) → clause.number ≡ e.number → set_hash vars clause.lits ≡ hash → IsIndexed vars new clause
    indexed_new vars clause same is =
        let h = set_hash vars clause.lits in
        let T : List ℕ → Type 0 = λ ns. Contains ns clause.number in
        let N : ℕ → Type 0 = λ n. Contains (old.numbers.items ++ e.number ∷ []) n in
        record {
          met = here (newest_in new h) place e (newest_are h ∙ ap (λ t. cond t (Some place) (newest_in old h)) ((Decides-eqb hash h).1 (sym is))) last_entry (sym same);
          listed = subst T (sym numbers_are) (subst N (sym same) (Contains-push old.numbers.items e.number));
        }

-- the newest entry with a hash is passed over from here on
module _ (old new : Index) (hash place : ℕ) (e : Entry) (entries_are : new.entries.items ≡ old.entries.items) (numbers_are : new.numbers.items ≡ old.numbers.items) (newest_are : (q : ℕ) → newest_in new q ≡ cond (hash == q) e.before (newest_in old q))
    (was : newest_in old hash ≡ Some place) (at : slice_get old.entries.items place ≡ Some e) where
  pub linked_taken : IsLinked old → IsLinked new
  linked_taken l = record {
    back = λ p b x found is. l.back p b x (ap (λ (es : List Entry). slice_get es p) (sym entries_are) ∙ found) is;
    within = λ h p is.
        let longer : length new.entries.items ≡ length old.entries.items = ap (λ (es : List Entry). length es) entries_are in
        elim (hash == h) as (λ t. cond t e.before (newest_in old h) ≡ Some p → p < length new.entries.items) [
          | true ↦ λ found. omega (arith, l.back place p e at found, l.within hash place was, longer)
          | false ↦ λ found. omega (arith, l.within h p found, longer)
        ] (sym (newest_are h) ∙ is);
  }

  pub indexed_taken : (vars : ℕ) (clause : LiveClause) → clause.number ≢ e.number → IsIndexed vars old clause → IsIndexed vars new clause
  indexed_taken vars clause other i =
      let h = set_hash vars clause.lits in
      let P : List Entry → Type 0 = λ es. IsMet es clause.number (newest_in new h) in
      let Q : Option ℕ → Type 0 = λ o. IsMet old.entries.items clause.number o in
      let T : List ℕ → Type 0 = λ ns. Contains ns clause.number in
      record {
        met = subst P (sym entries_are) (elim (hash == h) as (λ t. (hash == h) ≡ t → newest_in new h ≡ cond t e.before (newest_in old h) → IsMet old.entries.items clause.number (newest_in new h)) [
          | true ↦ λ same is. subst Q (sym is) (met_before old.entries.items clause.number place (newest_in old h) e (ap (newest_in old) (sym ((Decides-eqb hash h).0 same)) ∙ was) at (λ equal. other (sym equal)) i.met)
          | false ↦ λ _ is. subst Q (sym is) i.met
        ] refl (newest_are h));
        listed = subst T (sym numbers_are) i.listed;
      }

-- an index that has all it had
pub found_kept : (vars : ℕ) (old new : Index) (live : List LiveClause) → IsFound vars old live → IsLinked new → ((clause : LiveClause) → Contains live clause → IsIndexed vars old clause → IsIndexed vars new clause) → IsFound vars new live
found_kept vars old new live f linked keeps = record { indexes = record { linked = linked; each = λ clause inside. keeps clause inside (f.indexes.each clause inside) }; plain = f.plain }

-- and one that has a clause more
pub found_more : (vars : ℕ) (old new : Index) (store : StoreState) (id hash number : ℕ) (lits : List ℤ) → IsFound vars old store.live → IsLinked new → ((v : ℕ) (clause : LiveClause) → IsIndexed v old clause → IsIndexed v new clause)
    → ((v : ℕ) (clause : LiveClause) → clause.number ≡ number → set_hash v clause.lits ≡ hash → IsIndexed v new clause) → number ≡ store.count → hash ≡ set_hash vars (set.from_list lits) → is_tautology lits ≡ false → IsFound vars new (with_clause store id lits).live
found_more vars old new store id hash number lits f linked keeps puts counted hashed plain =
    let clause : LiveClause = record { number = store.count; id = id; lits = set.from_list lits } in
    record {
      indexes = record {
        linked = linked;
        each = λ c inside. elim (Contains-push_cases store.live clause c inside) [
          | inl old_one ↦ keeps vars c (f.indexes.each c old_one)
          | inr same ↦ puts vars c (ap (λ (x : LiveClause). x.number) (sym same) ∙ sym counted) (ap (λ (x : LiveClause). set_hash vars x.lits) (sym same) ∙ sym hashed)
        ];
      };
      plain = λ c inside. elim (Contains-push_cases store.live clause c inside) [
        | inl old_one ↦ f.plain c old_one
        | inr same ↦ subst (λ (x : LiveClause). IsPlain x.lits) same (plain_set lits (set.from_list lits) refl plain)
      ];
    }

-- a clause of one literal
pub single_plain : (l : ℤ) → 1 ≤ variable_of l → is_tautology (l ∷ []) ≡ false
single_plain l low = none_beside (l ∷ []) (λ m inside negated. unlike l low (negated_of m (only m inside) (only (negation m) negated))) where
  only : (m : ℤ) → Contains (l ∷ []) m → l ≡ m
  only m inside = elim (first_or_later l [] m inside) [ inl same ↦ same | inr there ↦ absurd (nothing_there m there) ]

  negated_of : (m : ℤ) → l ≡ m → l ≡ negation m → negation l ≡ l
  negated_of m same other = ap negation same ∙ sym other

-- a number below the next one is that one or below it
pub below : {P : Type 0} (n k : ℕ) → n < k + 1 → (n < k → P) → (n ≡ k → P) → P
below {P} n k lt less same = elim (n == k) as (λ b. (n == k) ≡ b → P) [
  | true ↦ λ is. same ((Decides-eqb n k).0 is)
  | false ↦ λ is. (let apart : n ≢ k = λ equal. (let clash : false ≡ true = sym is ∙ (Decides-eqb n k).1 equal in absurd cc) in less (omega (arith, lt, apart)))
] refl

-- so has it behind a call that left the clauses alone, and a push
pub pushed_found : (vars : ℕ) (old new : Index) (store middle pushed : StoreState) (id hash number : ℕ) (lits : List ℤ) → IsFound vars old store.live → IsLinked new → ((v : ℕ) (clause : LiveClause) → IsIndexed v old clause → IsIndexed v new clause)
    → ((v : ℕ) (clause : LiveClause) → clause.number ≡ number → set_hash v clause.lits ≡ hash → IsIndexed v new clause) → middle ≡ store → pushed ≡ with_clause middle id lits → number ≡ middle.count → hash ≡ set_hash vars (set.from_list lits) → is_tautology lits ≡ false → IsFound vars new pushed.live
pushed_found vars old new store middle pushed id hash number lits f linked keeps puts same is counted hashed plain =
    let P : StoreState → Type 0 = λ s. IsFound vars new s.live in
    let Q : StoreState → Type 0 = λ s. IsFound vars old s.live in
    subst P (sym is) (found_more vars old new middle id hash number lits (subst Q (sym same) f) linked keeps puts counted hashed plain)
