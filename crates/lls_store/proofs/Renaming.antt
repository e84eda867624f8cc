-- Reasons renamed entry by entry, from the front.
use Rattle.std.proofs.Common.{◌≡◌, ◌≢◌, ℕ, ◌+◌, ◌<◌, ◌≤◌, true, cond, List, [], ◌∷◌, ◌++◌, length, get_or, take, drop, Option, Some, None, refl, sym, ap, ◌∙◌, arith, append_assoc, length-append}
use Rattle.std.specs.Prelude.{ℤ, pos, map, is_none, option_map, option_and_then, slice_get, ◌==◌}
use Rattle.std.specs.Option.{option_or}
use Rattle.std.proofs.lemmas.Bool.{and_parts, eq-eqb, ne_eqb}
use Rattle.std.proofs.lemmas.List.{append-nil, drop_all, drop_more, get_or-map, get_or_at, get_or_default, length-drop, length-map, length-take, map-append, map_more, take-append-drop, take_all}
use Rattle.std.proofs.lemmas.List.Folds.{find-append}
use Rattle.std.proofs.lemmas.List.Sums.{AllPass-from_list_all}
use Rattle.std.proofs.lemmas.Option.{same_Some, slice_get-get_or, slice_get-map}
use Rattle.lls_lit.specs.Literal.{variable_of}
use Rattle.lls_lit.specs.Formula.{is_literal_of}
use Rattle.lls_store.specs.Trail.{Entry, TrailState, literals_of, entry_of, reason_of, has_variables_once, IsTrail}
use Rattle.lls_store.specs.Changes.{with_reason, with_reason_at}
use Rattle.lls_store.specs.Clauses.{LiveClause, clause_numbered}
use Rattle.lls_store.specs.Sound.{IsSound}
use Rattle.lls_store.specs.Removal.{new_number, renamed, renamed_entry}
use Rattle.lls_store.specs.Flat.{KeptClause}
use Rattle.lls_store.specs.Scan.{AreRising, live_in}
use Rattle.lls_store.proofs.Numbered.{HoldsAt}
use Rattle.lls_store.proofs.Compacting.{new_number-place}
use Rattle.lls_store.proofs.Tabled.{variable_bounds}
use Rattle.lls_store.proofs.Entries.{entry_of-cons_other, entry_of-cons_same, entry_of-none}

-- an entry of its variable alone: none before it and none behind it is of that variable
record IsAlone (front rest : List Entry) (v : ℕ) : Type 0 where
  before : entry_of front v ≡ None
  behind : entry_of rest v ≡ None

is_none-none : (o : Option Entry) → is_none o ≡ true → o ≡ None
is_none-none None is = refl
is_none-none (Some e) is = absurd cc

apart : (front rest : List Entry) (x e : Entry) → entry_of (front ++ e ∷ rest) (variable_of x.lit) ≡ None → variable_of x.lit ≢ variable_of e.lit
apart [] rest x e none = λ same. (entry_of-none e rest (variable_of x.lit) none).0 (sym same)
apart (y ∷ ys) rest x e none = apart ys rest x e (entry_of-none y (ys ++ e ∷ rest) (variable_of x.lit) none).1

alone : (front rest : List Entry) (e : Entry) → has_variables_once (front ++ e ∷ rest) ≡ true → IsAlone front rest (variable_of e.lit)
alone [] rest e once = record { before = refl; behind = is_none-none (entry_of rest (variable_of e.lit)) (and_parts (is_none (entry_of rest (variable_of e.lit))) (has_variables_once rest) once).0 }
alone (x ∷ xs) rest e once =
    let parts = and_parts (is_none (entry_of (xs ++ e ∷ rest) (variable_of x.lit))) (has_variables_once (xs ++ e ∷ rest)) once in
    let others = alone xs rest e parts.1 in
    let other = apart xs rest x e (is_none-none (entry_of (xs ++ e ∷ rest) (variable_of x.lit)) parts.0) in
    record { before = entry_of-cons_other x xs (variable_of e.lit) other ∙ others.before; behind = others.behind }

-- where a variable has no entry, none gets another reason
with_reason_at-none : (es : List Entry) (v reason : ℕ) → entry_of es v ≡ None → map (with_reason_at v reason) es ≡ es
with_reason_at-none [] v reason none = refl
with_reason_at-none (x ∷ xs) v reason none =
    let parts = entry_of-none x xs v none in
    ap (λ b. cond b (record x { reason = Some reason }) x ∷ map (with_reason_at v reason) xs) (ne_eqb (variable_of x.lit) v parts.0)
    ∙ ap (λ (rest : List Entry). x ∷ rest) (with_reason_at-none xs v reason parts.1)

entry_of-renamed : (live : List LiveClause) (es : List Entry) (v : ℕ) → entry_of es v ≡ None → entry_of (map (renamed_entry live) es) v ≡ None
entry_of-renamed live [] v none = refl
entry_of-renamed live (x ∷ xs) v none =
    let parts = entry_of-none x xs v none in
    entry_of-cons_other (renamed_entry live x) (map (renamed_entry live) xs) v parts.0 ∙ entry_of-renamed live xs v parts.1

-- the reasons of the first entries are renamed
abbrev pub renamed_front : List LiveClause → TrailState → ℕ → TrailState
renamed_front live t k = record t { entries = map (renamed_entry live) (take k t.entries) ++ drop k t.entries }

abbrev blank : Entry
blank = record { lit = pos 0; level = 0; reason = None }

pub length-renamed_front : (live : List LiveClause) (t : TrailState) (k : ℕ) → length (renamed_front live t k).entries ≡ length t.entries
length-renamed_front live t k =
    let f = renamed_entry live in
    omega (arith, length-append (map f (take k t.entries)) (drop k t.entries), length-map (take k t.entries) f, length-take k t.entries, length-drop k t.entries)

pub renamed_front-all : (live : List LiveClause) (t : TrailState) (k : ℕ) → length t.entries ≤ k → renamed_front live t k ≡ renamed live t
renamed_front-all live t k all =
    ap (λ (es : List Entry). record t { entries = es })
    (rw (take_all k t.entries all, drop_all k t.entries all, append-nil (map (renamed_entry live) t.entries)) refl)

-- an entry that is to be renamed
pub record IsNext (live : List LiveClause) (t : TrailState) (k : ℕ) : Type 0 where
  pub entry : Entry
  pub is_at : (d : Entry) → get_or t.entries k d ≡ entry
  pub lit_read : slice_get (literals_of (renamed_front live t k).entries) k ≡ Some entry.lit
  pub found : entry_of (renamed_front live t k).entries (variable_of entry.lit) ≡ Some entry
  pub stands : t.entries ≡ take k t.entries ++ entry ∷ drop (k + 1) t.entries
  pub next : renamed_front live t (k + 1) ≡ record t { entries = map (renamed_entry live) (take k t.entries) ++ renamed_entry live entry ∷ drop (k + 1) t.entries }
  pub changed : (reason : ℕ) → with_reason (renamed_front live t k) (variable_of entry.lit) reason ≡ record t { entries = map (renamed_entry live) (take k t.entries) ++ record entry { reason = Some reason } ∷ drop (k + 1) t.entries }
  pub same : renamed_front live t k ≡ record t { entries = map (renamed_entry live) (take k t.entries) ++ entry ∷ drop (k + 1) t.entries }

pub is_next : (live : List LiveClause) (t : TrailState) (k : ℕ) → has_variables_once t.entries ≡ true → k < length t.entries → IsNext live t k
is_next live t k once lt =
    let f = renamed_entry live in
    let es = t.entries in
    let e = get_or es k blank in
    let front = take k es in
    let rest = drop (k + 1) es in
    let dropped : drop k es ≡ e ∷ rest = drop_more es k blank lt in
    let splits : es ≡ front ++ e ∷ rest = sym (take-append-drop k es) ∙ ap (λ (ys : List Entry). front ++ ys) dropped in
    let v = variable_of e.lit in
    let only = alone front rest e (ap has_variables_once (sym splits) ∙ once) in
    let with_entries : List Entry → TrailState = λ ys. record t { entries = ys } in
    let halves : map f front ++ drop k es ≡ map f front ++ e ∷ rest = ap (λ (ys : List Entry). map f front ++ ys) dropped in
    let at : length (map f front) ≡ k = omega (arith, length-map front f, length-take k es) in
    record {
      entry = e;
      is_at = λ d. get_or_default es k d blank lt;
      lit_read =
          ap (λ (ys : List Entry). slice_get (literals_of ys) k) halves
          ∙ slice_get-map (λ (x : Entry). x.lit) (map f front ++ e ∷ rest) k
          ∙ ap (option_map (λ (x : Entry). x.lit)) (slice_get-get_or (map f front ++ e ∷ rest) k blank (omega (arith, at, length-append (map f front) (e ∷ rest))))
          ∙ ap (λ (x : Entry). Some x.lit) (get_or_at (map f front) e rest blank k at);
      found =
          ap (λ (ys : List Entry). entry_of ys v) halves
          ∙ find-append (λ (x : Entry). variable_of x.lit == v) (map f front) (e ∷ rest)
          ∙ ap (λ (o : Option Entry). option_or o (entry_of (e ∷ rest) v)) (entry_of-renamed live front v only.before)
          ∙ entry_of-cons_same e rest v refl;
      stands = splits;
      next =
          ap with_entries
          (ap (λ (ys : List Entry). ys ++ rest) (map_more f es k blank lt) ∙ append_assoc (map f front) (f e ∷ []) rest);
      changed = λ reason.
          let w = with_reason_at v reason in
          ap (λ (ys : List Entry). with_entries (map w ys)) halves
          ∙ ap with_entries (map-append w (map f front) (e ∷ rest))
          ∙ ap (λ (ys : List Entry). with_entries (ys ++ map w (e ∷ rest))) (with_reason_at-none (map f front) v reason (entry_of-renamed live front v only.before))
          ∙ ap (λ b. with_entries (map f front ++ cond b (record e { reason = Some reason }) e ∷ map w rest)) (eq-eqb v v refl)
          ∙ ap (λ (ys : List Entry). with_entries (map f front ++ record e { reason = Some reason } ∷ ys)) (with_reason_at-none rest v reason only.behind);
      same = ap with_entries halves;
    }

-- an entry that has no reason stays
pub renamed_front-decided : (live : List LiveClause) (t : TrailState) (k : ℕ) (at : IsNext live t k) → at.entry.reason ≡ None → renamed_front live t k ≡ renamed_front live t (k + 1)
renamed_front-decided live t k at none =
    let same : at.entry ≡ renamed_entry live at.entry = ap (λ (o : Option ℕ). record at.entry { reason = o }) (none ∙ ap (option_map (new_number live)) (sym none)) in
    at.same
    ∙ ap (λ x. record t { entries = map (renamed_entry live) (take k t.entries) ++ x ∷ drop (k + 1) t.entries }) same
    ∙ sym at.next

-- an entry that has one gets its clause's new number
pub renamed_front-forced : (live : List LiveClause) (t : TrailState) (k old new : ℕ) (at : IsNext live t k) → at.entry.reason ≡ Some old → new_number live old ≡ new → with_reason (renamed_front live t k) (variable_of at.entry.lit) new ≡ renamed_front live t (k + 1)
renamed_front-forced live t k old new at is named =
    let same : Some new ≡ option_map (new_number live) at.entry.reason = ap Some (sym named) ∙ ap (option_map (new_number live)) (sym is) in
    at.changed new
    ∙ ap (λ (o : Option ℕ). record t { entries = map (renamed_entry live) (take k t.entries) ++ record at.entry { reason = o } ∷ drop (k + 1) t.entries }) same
    ∙ sym at.next

-- the literal that was read there is that entry's
pub record IsRead (live : List LiveClause) (t now : TrailState) (k v : ℕ) : Type 0 where
  pub at : IsNext live t k
  pub variable : v ≡ variable_of at.entry.lit
  pub found : entry_of now.entries v ≡ Some at.entry
  pub within : v ≤ now.vars

pub is_read : (live : List LiveClause) (t now : TrailState) (k v : ℕ) (l : ℤ) → IsTrail t → now ≡ renamed_front live t k → k < length now.entries → slice_get (literals_of now.entries) k ≡ Some l → v ≡ variable_of l → IsRead live t now k v
is_read live t now k v l is_trail renamed_so_far lt read of_lit =
    let inside : k < length t.entries = omega (arith, ap (λ (x : TrailState). length x.entries) renamed_so_far, length-renamed_front live t k) in
    let at = is_next live t k is_trail.once inside in
    let same_lit : l ≡ at.entry.lit = same_Some l at.entry.lit (sym read ∙ ap (λ (x : TrailState). slice_get (literals_of x.entries) k) renamed_so_far ∙ at.lit_read) in
    let variable : v ≡ variable_of at.entry.lit = of_lit ∙ ap variable_of same_lit in
    let literal : is_literal_of t.vars at.entry.lit ≡ true =
    ap (is_literal_of t.vars) (sym (get_or-map (λ (x : Entry). x.lit) t.entries k blank (pos 0) inside ∙ ap (λ (x : Entry). x.lit) (at.is_at blank)))
    ∙ AllPass-from_list_all (is_literal_of t.vars) (literals_of t.entries) is_trail.within k (pos 0) (omega (arith, length-map t.entries (λ (x : Entry). x.lit)))
    in
    record {
      at = at;
      variable = variable;
      found = ap (λ (x : TrailState). entry_of x.entries v) renamed_so_far ∙ ap (entry_of (renamed_front live t k).entries) variable ∙ at.found;
      within = omega (arith, (variable_bounds t.vars (variable_of at.entry.lit) literal).1, variable, ap (λ (x : TrailState). x.vars) renamed_so_far);
    }

reason_read : (live : List LiveClause) (t now : TrailState) (k v : ℕ) (answer : Option ℕ) (read : IsRead live t now k v) → answer ≡ reason_of now.entries v → read.at.entry.reason ≡ answer
reason_read live t now k v answer read is = sym (is ∙ ap (option_and_then (λ (e : Entry). e.reason)) read.found)

-- the reason gets its clause's place as its number
pub renamed_more : (clauses : List KeptClause) (t now : TrailState) (k v reason place : ℕ) (answer : Option ℕ)
    → AreRising (live_in clauses)
    → now ≡ renamed_front (live_in clauses) t k
    → IsRead (live_in clauses) t now k v
    → answer ≡ reason_of now.entries v
    → answer ≡ Some reason
    → HoldsAt clauses place reason
    → with_reason now v place ≡ renamed_front (live_in clauses) t (k + 1)
renamed_more clauses t now k v reason place answer rising so_far read is some at =
    ap (λ (x : TrailState). with_reason x v place) so_far
    ∙ ap (λ n. with_reason (renamed_front (live_in clauses) t k) n place) read.variable
    ∙ renamed_front-forced (live_in clauses) t k reason place read.at (reason_read (live_in clauses) t now k v answer read is ∙ some) (new_number-place clauses place reason rising at)

-- a decision has no reason
pub decided_more : (live : List LiveClause) (t now : TrailState) (k v : ℕ) (answer : Option ℕ) → now ≡ renamed_front live t k → IsRead live t now k v → answer ≡ reason_of now.entries v → answer ≡ None → now ≡ renamed_front live t (k + 1)
decided_more live t now k v answer so_far read is none = so_far ∙ renamed_front-decided live t k read.at (reason_read live t now k v answer read is ∙ none)

-- a reason of a sound trail is live
pub reason_numbered : (live : List LiveClause) (t now : TrailState) (k v reason : ℕ) (answer : Option ℕ) → IsSound live t → IsRead live t now k v → answer ≡ reason_of now.entries v → answer ≡ Some reason → clause_numbered live reason ≡ None → ⊥
reason_numbered live t now k v reason answer sound read is some none =
    let forced = sound (take k t.entries) (drop (k + 1) t.entries) read.at.entry reason read.at.stands (reason_read live t now k v answer read is ∙ some) in
    differ forced.clause (sym forced.is_live ∙ none) where
      differ : (clause : LiveClause) → Some clause ≡ None → ⊥
      differ clause is = cc
