-- Additions in buffers: how many they are, the one at a place, and one more. What a table says ids name.
use Rattle.std.proofs.Common.{◌≡◌, ℕ, zero, suc, ◌+◌, ◌-◌, ◌<◌, ◌≤◌, Bool, true, false, cond, List, [], ◌∷◌, ◌++◌, length, get_or, take, drop, Option, Some, None, refl, sym, ap, ◌∙◌, arith, eqb, length-append}
use Rattle.std.specs.Prelude.{ℤ, slice_get, is_some, if◌then◌else◌}
use Rattle.std.specs.List.{between}
use Rattle.std.specs.Option.{unwrap_or}
use Rattle.std.proofs.lemmas.List.{take_more, map-append, take-append-le, drop-append-le, length-drop}
use Rattle.std.proofs.lemmas.Option.{slice_get_within, get_or_from_slice_get}
use Rattle.lls_lit.specs.Literal.{variable_of}
use Rattle.lls_prooflog.proofs.Pieces.{last_piece}
use Rattle.lls_lrat.specs.Placed.{place_of}
use Rattle.lls_trim.specs.declared.names.Names.{Names}
use Rattle.lls_trim.specs.declared.source.Source.{Source}
use Rattle.lls_trim.specs.declared.source.Source.TheVariants.{Added}
use Rattle.lls_trim.specs.declared.inferences.Ends.{Ends}
use Rattle.lls_trim.specs.declared.inferences.Entry.{Entry}
use Rattle.lls_trim.specs.Inferences.{Inference, with_name, sources_of}
use Rattle.lls_trim.specs.Buffers.{AreEnds, IsEntry, ends_before, inference_in, inferences_in, source_of, names_in}

-- an id gets its place
pub names_in-put : (old new : Names) (id k : ℕ) → ((q : ℕ) → place_of new.places q ≡ cond (eqb id q) (Some k) (place_of old.places q)) → names_in new ≡ with_name (names_in old) id k
names_in-put old new id k puts = λ i q. at q i where
  at : (q : ℕ) → names_in new q ≡ with_name (names_in old) id k q
  at q = ap (source_of q) (puts q) ∙ elim (eqb id q) as (λ b. source_of q (cond b (Some k) (place_of old.places q)) ≡ cond b (Added k) (source_of q (place_of old.places q))) [ true ↦ refl | false ↦ refl ]

pub take-next : {X : Type 0} (xs : List X) (k : ℕ) (x : X) → slice_get xs k ≡ Some x → take (k + 1) xs ≡ take k xs ++ x ∷ []
take-next xs k x e = take_more xs k x (slice_get_within xs k x e) ∙ ap (λ y. take k xs ++ y ∷ []) (get_or_from_slice_get xs k x x e)

-- there is an element below the length
pub slice_get_from_lt : {X : Type 0} (xs : List X) (k : ℕ) → k < length xs → (x : X) × (slice_get xs k ≡ Some x)
slice_get_from_lt [] k lt = absurd (omega arith)
slice_get_from_lt (x ∷ xs) zero lt = (x, refl)
slice_get_from_lt (x ∷ xs) (suc k) lt = slice_get_from_lt xs k (omega arith)

-- one more hint
pub sources_of-next : (names : ℕ → Source) (hints : List ℤ) (k : ℕ) (hint : ℤ) → slice_get hints k ≡ Some hint → sources_of names (take (k + 1) hints) ≡ sources_of names (take k hints) ++ names (variable_of hint) ∷ []
sources_of-next names hints k hint e = ap (sources_of names) (take-next hints k hint e) ∙ map-append (λ h. names (variable_of h)) (take k hints) (hint ∷ [])

pub length-inferences_in : (lits : List ℤ) (sources : List Source) (from : Ends) (entries : List Entry) → length (inferences_in lits sources from entries) ≡ length entries
length-inferences_in lits sources from [] = refl
length-inferences_in lits sources from (e ∷ es) = ap suc (length-inferences_in lits sources e.ends es)

-- the last ends are no less than the first ones
ends_least : (from : Ends) (entries : List Entry) (lits sources : ℕ) → AreEnds from entries lits sources → (from.lits ≤ lits) × (from.sources ≤ sources)
ends_least from [] lits sources h = (omega (arith, h.0), omega (arith, h.1))
ends_least from (e ∷ es) lits sources h = let more = ends_least e.ends es lits sources h.1.1 in (omega (arith, h.0, more.0), omega (arith, h.1.0, more.1))

-- each addition begins at or before its ends, which are within the buffers
pub entry_at : (from : Ends) (entries : List Entry) (lits sources k : ℕ) (d : Entry) → AreEnds from entries lits sources → k < length entries → IsEntry lits sources (ends_before from entries k) (get_or entries k d)
entry_at from [] lits sources k d h lt = absurd (omega arith)
entry_at from (e ∷ es) lits sources zero d h lt =
    let more = ends_least e.ends es lits sources h.1.1 in
    record { lits_order = h.0; lits_within = more.0; sources_order = h.1.0; sources_within = more.1 }
entry_at from (e ∷ es) lits sources (suc k) d h lt = entry_at e.ends es lits sources k d h.1.1 (omega arith)

pub ends_before-next : (from : Ends) (entries : List Entry) (k : ℕ) (d : Entry) → k < length entries → ends_before from entries (suc k) ≡ (get_or entries k d).ends
ends_before-next from [] k d lt = absurd (omega arith)
ends_before-next from (e ∷ es) zero d lt = refl
ends_before-next from (e ∷ es) (suc k) d lt = ends_before-next e.ends es k d (omega arith)

pub slice_get-inferences_in : (lits : List ℤ) (sources : List Source) (from : Ends) (entries : List Entry) (k : ℕ) (d : Entry) → k < length entries → slice_get (inferences_in lits sources from entries) k ≡ Some (inference_in lits sources (ends_before from entries k) (get_or entries k d))
slice_get-inferences_in lits sources from [] k d lt = absurd (omega arith)
slice_get-inferences_in lits sources from (e ∷ es) zero d lt = refl
slice_get-inferences_in lits sources from (e ∷ es) (suc k) d lt = slice_get-inferences_in lits sources e.ends es k d (omega arith)

kept_piece : {X : Type 0} (from to : ℕ) (old more : List X) → from ≤ to → to ≤ length old → between from to (old ++ more) ≡ between from to old
kept_piece from to old more order within =
    rw (drop-append-le from old more (omega (arith, order, within)), take-append-le (to - from) (drop from old) more (omega (arith, length-drop from old, order, within))) refl

-- what the last addition is cut from
abbrev pub entry_behind : List ℤ → List Source → Inference → Entry
entry_behind lits sources i = record {
  line = i.line;
  is_by_propagation = is_some i.by;
  ends = record { lits = length lits + length i.clause; sources = length sources + length (unwrap_or i.by []) };
}

module _ (lits : List ℤ) (sources : List Source) (i : Inference) where
  last_by : (from : ℕ) (by : Option (List Source)) → from ≡ length sources → (if is_some by then Some (between from (length sources + length (unwrap_or by [])) (sources ++ unwrap_or by [])) else None) ≡ by
  last_by from None e = refl
  last_by from (Some more) e = rw e (ap (λ (ss : List Source). Some ss) (last_piece sources more))

  last_one : (from : Ends) → from.lits ≡ length lits → from.sources ≡ length sources → inference_in (lits ++ i.clause) (sources ++ unwrap_or i.by []) from (entry_behind lits sources i) ≡ i
  last_one from e e2 = λ t. record { line = i.line; clause = clause t; by = last_by from.sources i.by e2 t } where
    clause : between from.lits (length lits + length i.clause) (lits ++ i.clause) ≡ i.clause
    clause = rw e (last_piece lits i.clause)

  kept_by : (from to : ℕ) (b : Bool) → from ≤ to → to ≤ length sources → (if b then Some (between from to (sources ++ unwrap_or i.by [])) else None) ≡ (if b then Some (between from to sources) else None)
  kept_by from to true order within = ap (λ (ss : List Source). Some ss) (kept_piece from to sources (unwrap_or i.by []) order within)
  kept_by from to false order within = refl

  -- one addition more
  pub inferences_in-push : (from : Ends) (entries : List Entry) → AreEnds from entries (length lits) (length sources)
      → inferences_in (lits ++ i.clause) (sources ++ unwrap_or i.by []) from (entries ++ entry_behind lits sources i ∷ []) ≡ inferences_in lits sources from entries ++ i ∷ []
  inferences_in-push from [] h = ap (λ (j : Inference). j ∷ []) (last_one from h.0 h.1)
  inferences_in-push from (e ∷ es) h =
      let more = ends_least e.ends es (length lits) (length sources) h.1.1 in
      rw (kept_piece from.lits e.ends.lits lits i.clause h.0 more.0, kept_by from.sources e.ends.sources e.is_by_propagation h.1.0 more.1, inferences_in-push e.ends es h.1.1) refl

  pub AreEnds-push : (from : Ends) (entries : List Entry) → AreEnds from entries (length lits) (length sources) → AreEnds from (entries ++ entry_behind lits sources i ∷ []) (length (lits ++ i.clause)) (length (sources ++ unwrap_or i.by []))
  AreEnds-push from [] h = (omega (arith, h.0), (omega (arith, h.1), (sym (length-append lits i.clause), sym (length-append sources (unwrap_or i.by [])))))
  AreEnds-push from (e ∷ es) h = (h.0, (h.1.0, AreEnds-push e.ends es h.1.1))
