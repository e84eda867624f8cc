-- A live clause, found by its number.
use Rattle.std.proofs.Common.{◌≡◌, ℕ, suc, ◌<◌, true, false, Bool, cond, List, [], ◌∷◌, Option, Some, None, refl, sym, ap, subst, ◌∙◌, arith}
use Rattle.std.specs.Prelude.{ℤ, Contains, IsSome, IfSome, option_and_then, ◌==◌}
use Rattle.std.specs.FinSet as set
use Rattle.std.proofs.lemmas.List.Elements.{All-contains}
use Rattle.std.proofs.lemmas.Bool.Decides.{Decides-eqb}
use Rattle.lls_lit.specs.Formula.{is_within}
use Rattle.lls_store.specs.Trail.{Entry}
use Rattle.lls_store.specs.Clauses.{LiveClause, Literals, clause_numbered}
use Rattle.lls_store.specs.Store.{StoreState, AreLive, AreWithin}
use Rattle.lls_store.proofs.Sets.{is_within-from_AreWithin}

pub record IsNumbered (live : List LiveClause) (number : ℕ) (clause : LiveClause) : Type 0 where
  pub contains : Contains live clause
  pub same : clause.number ≡ number

pub numbered : (live : List LiveClause) (number : ℕ) (clause : LiveClause) → clause_numbered live number ≡ Some clause → IsNumbered live number clause
numbered [] number clause found = absurd cc
numbered (c ∷ cs) number clause found = by_test (c.number == number) refl found (numbered cs number clause) where
  by_test : (b : Bool) → (c.number == number) ≡ b → cond b (Some c) (clause_numbered cs number) ≡ Some clause → (clause_numbered cs number ≡ Some clause → IsNumbered cs number clause) → IsNumbered (c ∷ cs) number clause
  by_test true test is rest =
      let same : c ≡ clause = cc in
      record { contains = (0, omega arith, same); same = ap (λ (x : LiveClause). x.number) (sym same) ∙ (Decides-eqb c.number number).0 test }
  by_test false test is rest =
      let later = rest is in
      let (k, lt, at) = later.contains in
      record { contains = (suc k, omega (arith, lt), at); same = later.same }

pub some_of : {X : Type 0} → (o : Option X) → IsSome o → (x : X) × (o ≡ Some x)
some_of None some = absurd cc
some_of (Some x) some = (x, refl)

pub number_given : (store : StoreState) (number : ℕ) → AreLive store → IsSome (clause_numbered store.live number) → number < store.count
number_given store number live some =
    let found = some_of (clause_numbered store.live number) some in
    let at = numbered store.live number found.0 found.1 in
    omega (arith, All-contains (λ (c : LiveClause). c.number < store.count) store.live found.0 live.given at.contains, at.same)

pub clause_within : (store : StoreState) (number : ℕ) (clause : LiveClause) → AreLive store → clause_numbered store.live number ≡ Some clause → AreWithin store.vars clause.lits
clause_within store number clause live found =
    All-contains (λ (c : LiveClause). AreWithin store.vars c.lits) store.live clause live.within (numbered store.live number clause found).contains

-- the literals of a live clause, as they are told
pub record IsTold (store : StoreState) (number : ℕ) (lits : List ℤ) : Type 0 where
  pub clause : LiveClause
  pub is_live : clause_numbered store.live number ≡ Some clause
  pub spelled : set.from_list lits ≡ clause.lits
  pub within : is_within store.vars lits ≡ true

pub told : (store : StoreState) (number : ℕ) (lits : List ℤ) → AreLive store → IsSome (clause_numbered store.live number) → IfSome (clause_numbered store.live number) (λ clause. set.from_list lits ≡ clause.lits) → IsTold store number lits
told store number lits live some is =
    let found = some_of (clause_numbered store.live number) some in
    let Q : Option LiveClause → Type 0 = λ o. IfSome o (λ (clause : LiveClause). set.from_list lits ≡ clause.lits) in
    let spelled : set.from_list lits ≡ (found.0).lits = subst Q found.1 is in
    let P : Literals → Type 0 = λ ls. AreWithin store.vars ls in
    record { clause = found.0; is_live = found.1; spelled = spelled; within = is_within-from_AreWithin store.vars lits (subst P (sym spelled) (clause_within store number found.0 live found.1)) }

pub IsSome-from : {X : Type 0} → (o : Option X) (x : X) → o ≡ Some x → IsSome o
IsSome-from None x is = absurd cc
IsSome-from (Some y) x is = refl

-- a variable whose value was forced has one
pub forced_known : (o : Option Entry) → IsSome (option_and_then (λ (e : Entry). e.reason) o) → IsSome o
forced_known None some = some
forced_known (Some e) some = refl
