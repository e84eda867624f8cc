-- Lists of entries, grown by one at the end and without their last.
use Rattle.std.proofs.Common.{◌≡◌, ◌≢◌, ℕ, zero, suc, ◌+◌, ◌<◌, Bool, true, false, cond, eqb, eq-eqb, List, [], ◌∷◌, ◌++◌, length, get_or, map, Some, None, refl, sym, ap, ◌∙◌, inl, inr, arith, zero-add}
use Rattle.std.specs.Prelude.{ℤ, Option, is_none, option_map, slice_get}
use Rattle.std.specs.Option.{option_or}
use Rattle.std.specs.Cmp.Derive.{both_true}
use Rattle.std.proofs.lemmas.List.{map_push, length_push, same_from_push}
use Rattle.std.proofs.lemmas.List.Folds.{find-append, list_all-append}
use Rattle.std.proofs.lemmas.List.Sums.{sum_by_push, sum_by-append}
use Rattle.std.proofs.lemmas.Option.{same_Some, slice_get-get_or, slice_get-map}
use Rattle.std.proofs.lemmas.Bool.{and_parts}
use Rattle.std.proofs.lemmas.Bool.Decides.{eqb_tells}
use Rattle.lls_lit.specs.Literal.{variable_of}
use Rattle.lls_lit.specs.Formula.{is_literal_of, is_within}
use Rattle.lls_store.specs.Trail.{Entry, TrailState, literals_of, entry_of, is_decision, decisions, levels_after, has_variables_once, IsTrail}

some_is_none : (e : Entry) → Some e ≡ None → ⊥
some_is_none e h = cc

none_beside : (o : Option Entry) → option_or o None ≡ o
none_beside None = refl
none_beside (Some e) = refl

-- what is found behind an entry of another variable
pub entry_of-cons_other : (x : Entry) (es : List Entry) (v : ℕ) → variable_of x.lit ≢ v → entry_of (x ∷ es) v ≡ entry_of es v
entry_of-cons_other x es v other = elim (eqb_tells (variable_of x.lit) v) [
  | inl t ↦ absurd (other t.1)
  | inr t ↦ ap (λ b. cond b (Some x) (entry_of es v)) t.0
]

pub entry_of-cons_same : (x : Entry) (es : List Entry) (v : ℕ) → variable_of x.lit ≡ v → entry_of (x ∷ es) v ≡ Some x
entry_of-cons_same x es v same = ap (λ b. cond b (Some x) (entry_of es v)) (eq-eqb (variable_of x.lit) v same)

-- where nothing is found, neither the first nor the others are of the variable
pub entry_of-none : (x : Entry) (es : List Entry) (v : ℕ) → entry_of (x ∷ es) v ≡ None → (variable_of x.lit ≢ v) × (entry_of es v ≡ None)
entry_of-none x es v none =
    let other : variable_of x.lit ≢ v = λ same. some_is_none x (sym (entry_of-cons_same x es v same) ∙ none) in
    (other, sym (entry_of-cons_other x es v other) ∙ none)

pub entry_of-push_other : (es : List Entry) (e : Entry) (v : ℕ) → variable_of e.lit ≢ v → entry_of (es ++ e ∷ []) v ≡ entry_of es v
entry_of-push_other es e v other =
    find-append (λ x. eqb (variable_of x.lit) v) es (e ∷ []) ∙ ap (option_or (entry_of es v)) (entry_of-cons_other e [] v other) ∙ none_beside (entry_of es v)

pub entry_of-push_same : (es : List Entry) (e : Entry) (v : ℕ) → entry_of es v ≡ None → variable_of e.lit ≡ v → entry_of (es ++ e ∷ []) v ≡ Some e
entry_of-push_same es e v none same =
    find-append (λ x. eqb (variable_of x.lit) v) es (e ∷ []) ∙ ap (λ o. option_or o (entry_of (e ∷ []) v)) none ∙ entry_of-cons_same e [] v same

-- an entry that is found is the variable's
pub variable-entry_of : (es : List Entry) (v : ℕ) (e : Entry) → entry_of es v ≡ Some e → variable_of e.lit ≡ v
variable-entry_of [] v e found = absurd (some_is_none e (sym found))
variable-entry_of (x ∷ es) v e found = elim (eqb_tells (variable_of x.lit) v) [
  | inl t ↦ ap variable_of (ap (λ (y : Entry). y.lit) (same_found x e (sym (entry_of-cons_same x es v t.1) ∙ found))) ∙ t.1
  | inr t ↦ variable-entry_of es v e (sym (entry_of-cons_other x es v t.1) ∙ found)
] where
  same_found : (x e : Entry) → Some x ≡ Some e → e ≡ x
  same_found x e h = cc

once_push : (es : List Entry) (e : Entry) → has_variables_once es ≡ true → entry_of es (variable_of e.lit) ≡ None → has_variables_once (es ++ e ∷ []) ≡ true
once_push [] e once none = refl
once_push (x ∷ es) e once none =
    let parts = and_parts (is_none (entry_of es (variable_of x.lit))) (has_variables_once es) once in
    let nones = entry_of-none x es (variable_of e.lit) none in
    both_true (ap is_none (entry_of-push_other es e (variable_of x.lit) (λ same. nones.0 (sym same))) ∙ parts.0) (once_push es e parts.1 nones.1)

apart : (es : List Entry) (x e : Entry) → is_none (entry_of (es ++ e ∷ []) (variable_of x.lit)) ≡ true → entry_of es (variable_of e.lit) ≡ None → variable_of x.lit ≢ variable_of e.lit
apart es x e none before same =
    let found : entry_of (es ++ e ∷ []) (variable_of x.lit) ≡ Some e = entry_of-push_same es e (variable_of x.lit) (ap (entry_of es) same ∙ before) (sym same) in
    let both : false ≡ true = sym (ap is_none found) ∙ none in
    absurd cc

-- without its last the list has no variable twice, and that one's not at all
pub once_popped : (es : List Entry) (e : Entry) → has_variables_once (es ++ e ∷ []) ≡ true → (has_variables_once es ≡ true) × (entry_of es (variable_of e.lit) ≡ None)
once_popped [] e once = (refl, refl)
once_popped (x ∷ es) e once =
    let parts = and_parts (is_none (entry_of (es ++ e ∷ []) (variable_of x.lit))) (has_variables_once (es ++ e ∷ [])) once in
    let rest = once_popped es e parts.1 in
    let other = apart es x e parts.0 rest.1 in (
      both_true (ap is_none (sym (entry_of-push_other es e (variable_of x.lit) (λ same. other (sym same)))) ∙ parts.0) rest.0,
      entry_of-cons_other x es (variable_of e.lit) other ∙ rest.1,
    )

level_step : (b : Bool) (n k : ℕ) → cond b (n + 1) n + k ≡ n + (cond b 1 0 + k)
level_step true n k = omega arith
level_step false n k = omega arith

level_last : (b : Bool) (n : ℕ) → cond b (n + 1) n ≡ n + (0 + cond b 1 0)
level_last true n = omega arith
level_last false n = omega arith

pub decisions_cons : (x : Entry) (es : List Entry) → decisions (x ∷ es) ≡ cond (is_decision x) 1 0 + decisions es
decisions_cons x es = sum_by-append (λ y. cond (is_decision y) 1 0) (x ∷ []) es ∙ ap (λ n. n + decisions es) (zero-add (cond (is_decision x) 1 0))

levels_push : (n : ℕ) (es : List Entry) (e : Entry) → levels_after n (es ++ e ∷ []) ≡ levels_after n es ++ (n + decisions (es ++ e ∷ [])) ∷ []
levels_push n [] e = ap (λ level. level ∷ []) (level_last (is_decision e) n)
levels_push n (x ∷ es) e =
    let level = cond (is_decision x) (n + 1) n in
    ap (λ levels. level ∷ levels) (levels_push level es e ∙ ap (λ last. levels_after level es ++ last ∷ []) (level_step (is_decision x) n (decisions (es ++ e ∷ [])) ∙ ap (λ k. n + k) (sym (decisions_cons x (es ++ e ∷ [])))))

pub decisions_push : (es : List Entry) (e : Entry) → decisions (es ++ e ∷ []) ≡ decisions es + cond (is_decision e) 1 0
decisions_push es e = sum_by_push (λ x. cond (is_decision x) 1 0) es e

within_push : (vars : ℕ) (es : List Entry) (e : Entry) → is_within vars (literals_of es) ≡ true → is_literal_of vars e.lit ≡ true → is_within vars (literals_of (es ++ e ∷ [])) ≡ true
within_push vars es e all last =
    ap (is_within vars) (map_push (λ (x : Entry). x.lit) es e) ∙ list_all-append (is_literal_of vars) (literals_of es) (e.lit ∷ []) ∙ both_true all (both_true last refl)

within_popped : (vars : ℕ) (es : List Entry) (e : Entry) → is_within vars (literals_of (es ++ e ∷ [])) ≡ true → is_within vars (literals_of es) ≡ true
within_popped vars es e all =
    (and_parts (is_within vars (literals_of es)) (is_within vars (e.lit ∷ [])) (sym (list_all-append (is_literal_of vars) (literals_of es) (e.lit ∷ [])) ∙ ap (is_within vars) (sym (map_push (λ (x : Entry). x.lit) es e)) ∙ all)).0

-- an entry more
pub IsTrail-push : (t : TrailState) (current : ℕ) (e : Entry) → IsTrail t → is_literal_of t.vars e.lit ≡ true → entry_of t.entries (variable_of e.lit) ≡ None → length t.entries < t.vars
    → current ≡ t.current + cond (is_decision e) 1 0 → e.level ≡ current → IsTrail (record { vars = t.vars; current = current; entries = t.entries ++ e ∷ [] })
IsTrail-push t current e h literal none room now level =
    let count : current ≡ decisions (t.entries ++ e ∷ []) = now ∙ ap (λ n. n + cond (is_decision e) 1 0) h.current ∙ sym (decisions_push t.entries e) in
    record {
      vars_fit = h.vars_fit;
      within = within_push t.vars t.entries e h.within literal;
      once = once_push t.entries e h.once none;
      most = omega (arith, length_push t.entries e, room);
      levels = map_push (λ (x : Entry). x.level) t.entries e
          ∙ ap (λ levels. levels ++ e.level ∷ []) h.levels
          ∙ ap (λ n. levels_after 0 t.entries ++ n ∷ []) (level ∙ count ∙ sym (zero-add (decisions (t.entries ++ e ∷ []))))
          ∙ sym (levels_push 0 t.entries e);
      current = count;
    }

-- an entry less
pub IsTrail-popped : (vars current : ℕ) (es : List Entry) (e : Entry) → IsTrail (record { vars = vars; current = current; entries = es ++ e ∷ [] }) → IsTrail (record { vars = vars; current = decisions es; entries = es })
IsTrail-popped vars current es e h = record {
  vars_fit = h.vars_fit;
  within = within_popped vars es e h.within;
  once = (once_popped es e h.once).0;
  most = omega (arith, length_push es e, h.most);
  levels = (same_from_push (map (λ (x : Entry). x.level) es) (levels_after 0 es) e.level (0 + decisions (es ++ e ∷ [])) (sym (map_push (λ (x : Entry). x.level) es e) ∙ h.levels ∙ levels_push 0 es e)).0;
  current = refl;
}

-- the last entry is of the current level
pub level_of_last : (vars current : ℕ) (es : List Entry) (e : Entry) → IsTrail (record { vars = vars; current = current; entries = es ++ e ∷ [] }) → e.level ≡ current
level_of_last vars current es e h =
    (same_from_push (map (λ (x : Entry). x.level) es) (levels_after 0 es) e.level (0 + decisions (es ++ e ∷ [])) (sym (map_push (λ (x : Entry). x.level) es e) ∙ h.levels ∙ levels_push 0 es e)).1
    ∙ zero-add (decisions (es ++ e ∷ []))
    ∙ sym h.current

-- an entry is that of its variable
pub entry_of-at : (es : List Entry) (k : ℕ) (d : Entry) → has_variables_once es ≡ true → k < length es → entry_of es (variable_of (get_or es k d).lit) ≡ Some (get_or es k d)
entry_of-at [] k d once lt = absurd (omega arith)
entry_of-at (x ∷ xs) zero d once lt = entry_of-cons_same x xs (variable_of x.lit) refl
entry_of-at (x ∷ xs) (suc k) d once lt =
    let parts = and_parts (is_none (entry_of xs (variable_of x.lit))) (has_variables_once xs) once in
    let e = get_or xs k d in
    let rest : entry_of xs (variable_of e.lit) ≡ Some e = entry_of-at xs k d parts.1 (omega arith) in
    let other : variable_of x.lit ≢ variable_of e.lit = λ same. found_none (entry_of xs (variable_of x.lit)) e parts.0 (ap (entry_of xs) same ∙ rest) in
    entry_of-cons_other x xs (variable_of e.lit) other ∙ rest where
      found_none : (o : Option Entry) (e : Entry) → is_none o ≡ true → o ≡ Some e → ⊥
      found_none None e none some = cc
      found_none (Some y) e none some = absurd cc

-- a literal that was read has its entry there
pub entry_read : (es : List Entry) (k v : ℕ) (l : ℤ) (d : Entry) → has_variables_once es ≡ true → k < length es → slice_get (literals_of es) k ≡ Some l → v ≡ variable_of l → entry_of es v ≡ Some (get_or es k d)
entry_read es k v l d once lt read of_lit =
    let e = get_or es k d in
    let same : e.lit ≡ l = same_Some e.lit l (ap (option_map (λ (x : Entry). x.lit)) (sym (slice_get-get_or es k d lt)) ∙ sym (slice_get-map (λ (x : Entry). x.lit) es k) ∙ read) in
    ap (entry_of es) (of_lit ∙ ap variable_of (sym same)) ∙ entry_of-at es k d once lt
