-- Which ids the live clauses of a store have.
use Rattle.std.proofs.Common.{◌≡◌, ◌≢◌, ℕ, ◌<◌, Bool, true, false, List, get_or, Option, Some, None, refl, sym, ap, subst, ◌∙◌}
use Rattle.std.specs.Prelude.{AllPairs, Contains, ◌==◌}
use Rattle.std.specs.List.{list_any}
use Rattle.std.specs.Option.{option_map_or}
use Rattle.std.proofs.lemmas.Bool.{eq-eqb, ne_eqb}
use Rattle.std.proofs.lemmas.List.{get_or_default}
use Rattle.std.proofs.lemmas.List.Folds.{list_any_at, list_any_none}
use Rattle.lls_store.specs.Clauses.{LiveClause, clause_numbered}
use Rattle.lls_store.specs.Store.{StoreState, AreLive}
use Rattle.lls_store.proofs.Live.{clause_numbered-contained, found}

-- the live clause of a number has the id
abbrev pub is_id_at : List LiveClause → ℕ → ℕ → Bool
is_id_at live number id = option_map_or (λ clause. clause.id == id) (clause_numbered live number) false

pub id_found : (live : List LiveClause) (number id : ℕ) → is_id_at live number id ≡ true → true ≡ list_any (λ (clause : LiveClause). clause.id == id) live
id_found live number id is = at (clause_numbered live number) refl is where
  at : (o : Option LiveClause) → clause_numbered live number ≡ o → option_map_or (λ clause. clause.id == id) o false ≡ true → true ≡ list_any (λ (clause : LiveClause). clause.id == id) live
  at None none is_so = absurd cc
  at (Some clause) some is_so =
      let here = (found live number clause some).contained in
      sym (list_any_at (λ (c : LiveClause). c.id == id) live here.0 clause here.1 (ap (λ (c : LiveClause). c.id == id) here.2 ∙ is_so))

-- where the clause of a number hasn't the id, no clause of that number has
pub id_not_at : (live : List LiveClause) (number id : ℕ) (clause : LiveClause) → AllPairs (λ (a b : LiveClause). a.number < b.number) live → is_id_at live number id ≡ false → Contains live clause → clause.number ≡ number → clause.id ≢ id
id_not_at live number id clause rising misses contains is same =
    let at : clause_numbered live number ≡ Some clause = subst (λ n. clause_numbered live n ≡ Some clause) is (clause_numbered-contained live clause rising contains) in
    let there : is_id_at live number id ≡ true = ap (λ (o : Option LiveClause). option_map_or (λ c. c.id == id) o false) at ∙ eq-eqb clause.id id same in
    let clash : true ≡ false = sym there ∙ misses in
    absurd cc

pub id_missing : (store : StoreState) (id : ℕ) → AreLive store → ((x : LiveClause) → Contains store.live x → x.number < store.count → x.id ≢ id) → false ≡ list_any (λ (clause : LiveClause). clause.id == id) store.live
id_missing store id live others =
    sym (list_any_none (λ (c : LiveClause). c.id == id) store.live (λ k d lt. ne_eqb (at k d).id id (others (at k d) (k, lt, get_or_default store.live k (at k d) d lt) (live.given k d lt)))) where
      at : ℕ → LiveClause → LiveClause
      at k d = get_or store.live k d
