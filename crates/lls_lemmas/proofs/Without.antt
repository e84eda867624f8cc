-- A store and a log from which a clause was taken out.
use Rattle.std.proofs.Common.{◌≡◌, ◌≢◌, ℕ, suc, ◌-◌, ◌<◌, Bool, true, false, not, ◌||◌, cond, List, [], ◌∷◌, ◌++◌, length, get_or, Option, Some, None, refl, sym, ap, subst, ◌∙◌, inl, inr, arith}
use Rattle.std.specs.Prelude.{ℤ, ◌⊎◌, ◌==◌, AllPairs, Contains, option_and_then, slice_index_or}
use Rattle.std.specs.Ordering.{int_cmp}
use Rattle.std.specs.FinSet as set
use Rattle.std.proofs.lemmas.Cmp.{int_cmp_total}
use Rattle.std.proofs.lemmas.Bool.Decides.{Decides-eqb}
use Rattle.std.proofs.lemmas.Option.{same_Some, slice_get-get_or}
use Rattle.lls_lit.specs.Literal.{variable_of}
use Rattle.lls_lit.specs.Formula.{Cnf}
use Rattle.lls_prooflog.specs.UnitWalk.{Live}
use Rattle.lls_prooflog.specs.Steps.{after}
use Rattle.lls_prooflog.specs.Spent.{live_after}
use Rattle.lls_prooflog.specs.declared.step.Step.{Step}
use Rattle.lls_prooflog.specs.declared.step.Step.TheVariants.{Del}
use Rattle.lls_store.specs.Trail.{Entry, TrailState, IsTrail, reason_of}
use Rattle.lls_store.specs.Clauses.{LiveClause, Literals, IsIn, clause_numbered}
use Rattle.lls_store.specs.Sound.{IsSound}
use Rattle.lls_store.specs.Removal.{all_but, without_clause}
use Rattle.lls_store.specs.Store.{StoreState, AreLive}
use Rattle.lls_store.proofs.Live.{clause_numbered-contained}
use Rattle.lls_store.proofs.Removing.{IsSound-without}
use Rattle.lls_store.proofs.Sets.{Contains-from_IsIn, IsIn-from_Contains}
use Rattle.lls_analyse.specs.Spelled.{Spells}
use Rattle.lls_analyse.proofs.Gathering.{first_or_later, later, nothing_there}
use Rattle.lls_analyse.proofs.LiveClauses.{IsTold, numbered}
use Rattle.lls_analyse.proofs.Trails.{entry_of_here}
use Rattle.lls_analyse.proofs.Walk.{spelled}
use Rattle.lls_lemmas.specs.Finding.{IsFree}
use Rattle.lls_lemmas.specs.Lemmas.{DeletesOne}
use Rattle.lls_lemmas.specs.Units.{AreUnits, HasSettled, IsAtRest, unit_of}
use Rattle.lls_lemmas.proofs.Kept.{kept_push}
use Rattle.lls_lemmas.proofs.Logs.{last-deletion, live_after-push, rising-deletion}
use Rattle.lls_lemmas.proofs.Reading.{forced_at}

-- sets of the same literals are the same
pub sets_same : (a b : List ℤ) → ((l : ℤ) → Contains a l → Contains b l) → ((l : ℤ) → Contains b l → Contains a l) → set.from_list {R = int_cmp} a ≡ set.from_list b
sets_same a b there back = set.same_set int_cmp_total set.int_cmp-IsAntisymmetric (set.from_list a) (set.from_list b)
    (λ q. both (set.contains (set.from_list a) q) (set.contains (set.from_list b) q)
    (λ is. IsIn-from_Contains b q (there q (Contains-from_IsIn a q is)))
    (λ is. IsIn-from_Contains a q (back q (Contains-from_IsIn b q is))))
  where
    both : (x y : Bool) → (x ≡ true → y ≡ true) → (y ≡ true → x ≡ true) → x ≡ y
    both true y f g = sym (f refl)
    both false true f g = g refl
    both false false f g = refl

-- the clause of a number, and no other, has its id
pub same_number : (live : List LiveClause) (number : ℕ) (clause c : LiveClause) → AllPairs (λ (a b : LiveClause). a.number < b.number) live → clause_numbered live number ≡ Some clause → Contains live c → c.number ≡ number → c ≡ clause
same_number live number clause c rising found inside same =
    same_Some c clause (sym (clause_numbered-contained live c rising inside) ∙ ap (clause_numbered live) same ∙ found)

pub same_id : (live : List LiveClause) (a b : LiveClause) → AllPairs (λ (x y : LiveClause). x.id ≢ y.id) live → Contains live a → Contains live b → a.id ≡ b.id → a ≡ b
same_id [] a b apart inside inside' same = absurd (nothing_there a inside)
same_id (c ∷ cs) a b apart inside inside' same = by (first_or_later c cs a inside) (first_or_later c cs b inside') (λ t t'. same_id cs a b (λ i j d lt within. apart (suc i) (suc j) d (omega (arith, lt)) (omega (arith, within))) t t' same) where
  differs : (x : LiveClause) → Contains cs x → c.id ≡ x.id → ⊥
  differs x (k, lt, at) equal = apart 0 (suc k) x (omega arith) (omega (arith, lt)) (equal ∙ ap (λ (y : LiveClause). y.id) (sym at))

  by : (c ≡ a) ⊎ Contains cs a → (c ≡ b) ⊎ Contains cs b → (Contains cs a → Contains cs b → a ≡ b) → a ≡ b
  by (inl t) (inl t') rest = sym t ∙ t'
  by (inl t) (inr t') rest = absurd (differs b t' (ap (λ (y : LiveClause). y.id) t ∙ same))
  by (inr t) (inl t') rest = absurd (differs a t (ap (λ (y : LiveClause). y.id) t' ∙ sym same))
  by (inr t) (inr t') rest = rest t t'

-- to leave out the number or the id is the same
same_tests : (store : StoreState) (number : ℕ) (clause c : LiveClause) → AreLive store → clause_numbered store.live number ≡ Some clause → Contains store.live c → (c.number == number) ≡ (clause.id == c.id)
same_tests store number clause c live found inside = elim (c.number == number) as (λ b. (c.number == number) ≡ b → b ≡ (clause.id == c.id)) [
  | true ↦ λ is.
      let same = same_number store.live number clause c live.numbers found inside ((Decides-eqb c.number number).0 is) in
      sym ((Decides-eqb clause.id c.id).1 (ap (λ (y : LiveClause). y.id) (sym same)))
  | false ↦ λ is. elim (clause.id == c.id) as (λ b. (clause.id == c.id) ≡ b → false ≡ b) [
    | true ↦ λ is'.
        let n = numbered store.live number clause found in
        let same = same_id store.live c clause live.ids inside n.contains (sym ((Decides-eqb clause.id c.id).0 is')) in
        let clash : false ≡ true = sym is ∙ (Decides-eqb c.number number).1 (ap (λ (y : LiveClause). y.number) same ∙ n.same) in
        absurd cc
    | false ↦ λ _. refl
  ] refl
] refl

spells_kept : (number id : ℕ) (live : List LiveClause) (pairs : Live) → Spells live pairs → ((c : LiveClause) → Contains live c → (c.number == number) ≡ (id == c.id)) → Spells (all_but live number) (after pairs (Del (id ∷ [])))
spells_kept number id [] [] spells each = tt
spells_kept number id [] (p ∷ ps) spells each = absurd spells
spells_kept number id (c ∷ cs) [] spells each = absurd spells
spells_kept number id (c ∷ cs) (p ∷ ps) spells each =
    let test : (id == p.0) ≡ (c.number == number) = ap (λ n. id == n) spells.0 ∙ sym (each c (0, omega arith, refl)) in
    by_test (c.number == number) (id == p.0) test (spells_kept number id cs ps spells.1.1 (λ x inside. each x (later c cs x inside))) where
      by_test : (a b : Bool) → b ≡ a → Spells (all_but cs number) (after ps (Del (id ∷ []))) → Spells (cond (not a) (c ∷ all_but cs number) (all_but cs number)) (cond (not (b || false)) (p ∷ after ps (Del (id ∷ []))) (after ps (Del (id ∷ []))))
      by_test true true same rest = rest
      by_test true false same rest = absurd cc
      by_test false true same rest = absurd cc
      by_test false false same rest = (spells.0, (spells.1.0, rest))

pub in_all_but : (live : List LiveClause) (number : ℕ) (c : LiveClause) → Contains live c → c.number ≢ number → Contains (all_but live number) c
in_all_but [] number c inside other = absurd (nothing_there c inside)
in_all_but (x ∷ xs) number c inside other = by_test (x.number == number) refl (first_or_later x xs c inside) (λ there. in_all_but xs number c there other) where
  by_test : (b : Bool) → (x.number == number) ≡ b → (x ≡ c) ⊎ Contains xs c → (Contains xs c → Contains (all_but xs number) c) → Contains (cond (not b) (x ∷ all_but xs number) (all_but xs number)) c
  by_test true is (inl same) rest = absurd (other (ap (λ (y : LiveClause). y.number) (sym same) ∙ (Decides-eqb x.number number).0 is))
  by_test true is (inr there) rest = rest there
  by_test false is (inl same) rest = (0, omega arith, same)
  by_test false is (inr there) rest = later x (all_but xs number) c (rest there)

pub of_all_but : (live : List LiveClause) (number : ℕ) (c : LiveClause) → Contains (all_but live number) c → Contains live c
of_all_but [] number c inside = inside
of_all_but (x ∷ xs) number c inside = by_test (x.number == number) inside (of_all_but xs number c) where
  by_test : (b : Bool) → Contains (cond (not b) (x ∷ all_but xs number) (all_but xs number)) c → (Contains (all_but xs number) c → Contains xs c) → Contains (x ∷ xs) c
  by_test true there rest = later x xs c (rest there)
  by_test false there rest = elim (first_or_later x (all_but xs number) c there) [ inl same ↦ (0, omega arith, same) | inr on ↦ later x xs c (rest on) ]

module _ (formula : Cnf) (steps : List Step) (store : StoreState) (trail : TrailState) (units : List (Option ℕ)) (done last number : ℕ) (rest : IsAtRest formula steps store trail units done last) (live : AreLive store) (clause : LiveClause)
    (found : clause_numbered store.live number ≡ Some clause) (free : IsFree store.live trail.entries units number) where
  without_spells : Spells (all_but store.live number) (live_after formula (steps ++ Del (clause.id ∷ []) ∷ []))
  without_spells =
      let P : Live → Type 0 = λ pairs. Spells (all_but store.live number) pairs in
      subst P (sym (live_after-push formula steps (Del (clause.id ∷ [])))) (spells_kept number clause.id store.live (live_after formula steps) rest.holds.spelled (λ c inside. same_tests store number clause c live found inside))

  pub without_rest : IsAtRest formula (steps ++ Del (clause.id ∷ []) ∷ []) (without_clause store number) trail units done last
  without_rest =
      let u = rest.has_units in
      record {
        holds = record {
          no_tail = rest.holds.no_tail;
          spelled = without_spells;
          ids = λ c inside. rest.holds.ids c (of_all_but store.live number c inside);
          rising = rising-deletion (length formula.clauses) steps (clause.id ∷ []) rest.holds.rising;
          most = omega (arith, last-deletion (length formula.clauses) steps (clause.id ∷ []), rest.holds.most);
          kept = kept_push formula steps store last (Del (clause.id ∷ [])) rest.holds live refl refl;
        };
        has_units = record {
          level = u.level;
          is_trail = u.is_trail;
          sound = IsSound-without store.live number trail free.no_reason u.sound;
          same_vars = u.same_vars;
          unit_each = u.unit_each;
          are_units = λ i id is. (let one = u.are_units i id is in record {
            clause = one.clause;
            lit = one.lit;
            is_live = in_all_but store.live number one.clause one.is_live (λ same.
                let equal = same_number store.live number clause one.clause live.numbers found one.is_live same in
                free.no_unit clause found i id is (ap (λ (c : LiveClause). c.id) (sym equal) ∙ one.same_id));
            same_id = one.same_id;
            single = one.single;
            is_true = one.is_true;
            of_variable = one.of_variable;
          });
          complete = u.complete;
          done_within = u.done_within;
        };
      }

  pub without_settled : HasSettled store trail done → HasSettled (without_clause store number) trail done
  without_settled s = record { closed = λ c inside. s.closed c (of_all_but store.live number c inside); all_done = s.all_done }

  pub without_deletes : (lits : List ℤ) → set.from_list lits ≡ clause.lits → DeletesOne formula steps (steps ++ Del (clause.id ∷ []) ∷ []) lits
  without_deletes lits same =
      let s = spelled store.live (live_after formula steps) number clause rest.holds.spelled live.ids found in
      record { was_live = record { id = clause.id; clause = s.lits; found = s.found; same_literals = s.same ∙ sym same }; deleted = refl }

-- a clause none of whose literals it forced or stands for may go
pub is_free : (store : StoreState) (t : TrailState) (units : List (Option ℕ)) (number id : ℕ) (lits : List ℤ) → AreLive store → IsTrail t → IsSound store.live t → AreUnits store.live t.entries units → (told : IsTold store number lits) → told.clause.id ≡ id
    → ((l : ℤ) → Contains lits l → (reason_of t.entries (variable_of l) ≢ Some number) × (unit_of units l ≢ Some id)) → IsFree store.live t.entries units number
is_free store t units number id lits live kept sound are told is_id none = record {
  no_reason = λ k d lt forced.
      let e = get_or t.entries k d in
      let at = slice_get-get_or t.entries k d lt in
      let f = forced_at store.live t k e number sound at forced in
      let same = same_Some f.clause told.clause (sym f.is_live ∙ told.is_live) in
      let inside = Contains-from_IsIn lits e.lit (ap (λ (ls : Literals). set.contains ls e.lit) (told.spelled ∙ ap (λ (c : LiveClause). c.lits) (sym same)) ∙ f.stands) in
      (none e.lit inside).0 (ap (option_and_then (λ (x : Entry). x.reason)) (entry_of_here t.entries k e kept.once at) ∙ forced);
  no_unit = λ clause found i n is same.
      let u = are i n is in
      let equal = same_Some told.clause clause (sym told.is_live ∙ found) in
      let one = same_id store.live u.clause told.clause live.ids u.is_live (numbered store.live number told.clause told.is_live).contains (u.same_id ∙ sym same ∙ ap (λ (c : LiveClause). c.id) (sym equal)) in
      let stands : IsIn told.clause.lits u.lit = ap (λ (c : LiveClause). set.contains c.lits u.lit) (sym one) ∙ ap (λ (ls : Literals). set.contains ls u.lit) u.single ∙ IsIn-from_Contains (u.lit ∷ []) u.lit (0, omega arith, refl) in
      let inside = Contains-from_IsIn lits u.lit (ap (λ (ls : Literals). set.contains ls u.lit) told.spelled ∙ stands) in
      let index : variable_of u.lit - 1 ≡ i = omega (arith, u.of_variable) in
      (none u.lit inside).1 (ap (λ j. slice_index_or units j None) index ∙ is ∙ ap (λ m. Some m) (sym same ∙ ap (λ (c : LiveClause). c.id) (sym equal) ∙ is_id));
}
