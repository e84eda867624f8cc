-- Where unit propagation has nothing to do: it goes no further, and no hints lead to a conflict.
use Rattle.std.proofs.Common.{◌≡◌, ◌≢◌, ℕ, Bool, true, false, not, ◌||◌, cond, List, [], ◌∷◌, ◌++◌, length, take, drop, Option, Some, None, refl, sym, ap, subst, ◌∙◌, inl, inr, arith}
use Rattle.std.specs.Prelude.{ℤ, pos, negsuc, ◌⊎◌, Contains, IsSome, ◌==◌}
use Rattle.std.specs.List.{list_all}
use Rattle.std.specs.Ordering.{int_eq}
use Rattle.std.specs.FinSet as set
use Rattle.std.proofs.lemmas.Bool.{and_parts}
use Rattle.std.proofs.lemmas.Bool.Decides.{Decides-int_eq}
use Rattle.std.proofs.lemmas.List.{append-nil}
use Rattle.std.proofs.lemmas.List.Elements.{All-contains, Contains-push_cases}
use Rattle.std.proofs.lemmas.Option.{same_Some}
use Rattle.lls_lit.specs.Literal.{negation}
use Rattle.lls_lit.specs.Formula.{Clause}
use Rattle.lls_lit.proofs.Flipped.{negation_twice}
use Rattle.lls_prooflog.specs.UnitWalk.{Live, find_clause, is_among, remaining, at_clause, at_hint, unit_walk, walk_on}
use Rattle.lls_prooflog.specs.declared.step_fault.StepFault.{StepFault}
use Rattle.lls_prooflog.specs.declared.step_fault.StepFault.TheVariants.{NotUnit, NoConflict}
use Rattle.lls_store.specs.Trail.{Entry, TrailState, has, Has, HasNegated, IsConsistent, IsTrail}
use Rattle.lls_store.specs.Clauses.{LiveClause, Literals, IsIn}
use Rattle.lls_store.specs.Closed.{AreSettled, IsClosed, IsSettled}
use Rattle.lls_store.specs.Closed.IsSettled.{satisfied, two_left}
use Rattle.lls_store.specs.Sound.{IsSound}
use Rattle.lls_store.specs.Store.{GoesOn, IsConflict}
use Rattle.lls_store.proofs.Sets.{Contains-from_IsIn}
use Rattle.lls_analyse.specs.Spelled.{Spells}
use Rattle.lls_analyse.proofs.Gathering.{later, first_or_later, nothing_there}
use Rattle.lls_analyse.proofs.LiveClauses.{numbered}
use Rattle.lls_analyse.proofs.Trails.{apart, consistent_trail}
use Rattle.lls_lemmas.proofs.Listing.{among-from_Contains, Contains-from_among}

-- a clause that was found is one of the store's
pub record IsOfStore (live : List LiveClause) (lits : Clause) : Type 0 where
  pub clause : LiveClause
  pub is_live : Contains live clause
  pub same : set.from_list lits ≡ clause.lits

pub found_of : (live : List LiveClause) (pairs : Live) (id : ℕ) (lits : Clause) → Spells live pairs → find_clause pairs id ≡ Some lits → IsOfStore live lits
found_of [] [] id lits spells found = absurd cc
found_of [] (p ∷ ps) id lits spells found = absurd spells
found_of (c ∷ cs) [] id lits spells found = absurd spells
found_of (c ∷ cs) (p ∷ ps) id lits spells found = by_test (p.0 == id) found (found_of cs ps id lits spells.1.1) where
  by_test : (b : Bool) → cond b (Some p.1) (find_clause ps id) ≡ Some lits → (find_clause ps id ≡ Some lits → IsOfStore cs lits) → IsOfStore (c ∷ cs) lits
  by_test true is rest =
      let same : p.1 ≡ lits = same_Some p.1 lits is in
      record { clause = c; is_live = (0, omega arith, refl); same = ap (λ (ls : Clause). set.from_list ls) (sym same) ∙ spells.1.0 }
  by_test false is rest = (let r = rest is in record { clause = r.clause; is_live = later c cs r.clause r.is_live; same = r.same })

-- a literal that isn't assumed remains
remains : (assumed : List ℤ) (lits : Clause) (l : ℤ) → Contains lits l → (is_among assumed l ≡ true → ⊥) → Contains (remaining assumed lits) l
remains assumed [] l inside none = absurd (nothing_there l inside)
remains assumed (x ∷ xs) l inside none = by_among (is_among assumed x) refl (first_or_later x xs l inside) (λ there. remains assumed xs l there none) where
  by_among : (b : Bool) → is_among assumed x ≡ b → (x ≡ l) ⊎ Contains xs l → (Contains xs l → Contains (remaining assumed xs) l) → Contains (cond (not b) (x ∷ remaining assumed xs) (remaining assumed xs)) l
  by_among true is (inl same) rest = absurd (none (ap (is_among assumed) (sym same) ∙ is))
  by_among true is (inr there) rest = rest there
  by_among false is (inl same) rest = (0, omega arith, same)
  by_among false is (inr there) rest = later x (remaining assumed xs) l (rest there)

all_same : (x : ℤ) (xs : List ℤ) (l : ℤ) → list_all (int_eq x) xs ≡ true → Contains (x ∷ xs) l → l ≡ x
all_same x xs l all inside = elim (first_or_later x xs l inside) [
  | inl same ↦ sym same
  | inr there ↦ rest xs all there
] where
  rest : (ys : List ℤ) → list_all (int_eq x) ys ≡ true → Contains ys l → l ≡ x
  rest [] every there = absurd (nothing_there l there)
  rest (y ∷ ys) every there =
      let parts = and_parts (int_eq x y) (list_all (int_eq x) ys) every in
      elim (first_or_later y ys l there) [
        | inl same ↦ sym same ∙ sym ((Decides-int_eq x y).0 parts.0)
        | inr on ↦ rest ys parts.1 on
      ]

-- where a walk ends well: what it took as false is false
pub record EndsFalse (es : List Entry) (at_end : List ℤ → Option StepFault) : Type 0 where
  pub assumed : List ℤ
  pub all_false : (m : ℤ) → is_among assumed m ≡ true → HasNegated es m
  pub ends : at_end assumed ≡ None

module _ (live : List LiveClause) (es : List Entry) (pairs : Live) (spells : Spells live pairs) (consistent : IsConsistent es) (settled : AreSettled live es) where
  AllFalse : List ℤ → Type 0
  AllFalse assumed = (m : ℤ) → is_among assumed m ≡ true → HasNegated es m

  -- of a settled clause some literal remains, and where it is one alone, it is true
  left_true : (assumed : List ℤ) (lits : Clause) → AllFalse assumed → IsSettled es (set.from_list lits) → (hint : ℤ) (goes_on : ℤ → Option StepFault) (left : List ℤ) → remaining assumed lits ≡ left → at_clause hint left goes_on ≡ None → (x : ℤ) × (Has es x × (goes_on x ≡ None))
  unfolding AllFalse
  left_true assumed lits all_false (satisfied l inside true_) hint goes_on [] is closes =
      let P : List ℤ → Type 0 = λ ls. Contains ls l in
      absurd (nothing_there l (subst P is (remains assumed lits l (Contains-from_IsIn lits l inside) (λ among. consistent l true_ (all_false l among)))))
  left_true assumed lits all_false (satisfied l inside true_) hint goes_on (x ∷ xs) is closes =
      let P : List ℤ → Type 0 = λ ls. Contains ls l in
      let there = subst P is (remains assumed lits l (Contains-from_IsIn lits l inside) (λ among. consistent l true_ (all_false l among))) in
      elim (list_all (int_eq x) xs) as (λ b. list_all (int_eq x) xs ≡ b → cond b (goes_on x) (Some (NotUnit hint)) ≡ None → (y : ℤ) × (Has es y × (goes_on y ≡ None))) [
        | true ↦ λ all on. (x, (ap (has es) (sym (all_same x xs l all there)) ∙ true_, on))
        | false ↦ λ _ on. absurd cc
      ] refl closes
  left_true assumed lits all_false (two_left l m inside inside' other open_ open_') hint goes_on [] is closes =
      let P : List ℤ → Type 0 = λ ls. Contains ls l in
      absurd (nothing_there l (subst P is (remains assumed lits l (Contains-from_IsIn lits l inside) (λ among. open_ (all_false l among)))))
  left_true assumed lits all_false (two_left l m inside inside' other open_ open_') hint goes_on (x ∷ xs) is closes =
      let P : List ℤ → Type 0 = λ ls. Contains ls l in
      let Q : List ℤ → Type 0 = λ ls. Contains ls m in
      let there = subst P is (remains assumed lits l (Contains-from_IsIn lits l inside) (λ among. open_ (all_false l among))) in
      let there' = subst Q is (remains assumed lits m (Contains-from_IsIn lits m inside') (λ among. open_' (all_false m among))) in
      elim (list_all (int_eq x) xs) as (λ b. list_all (int_eq x) xs ≡ b → cond b (goes_on x) (Some (NotUnit hint)) ≡ None → (y : ℤ) × (Has es y × (goes_on y ≡ None))) [
        | true ↦ λ all on. absurd (other (all_same x xs l all there ∙ sym (all_same x xs m all there')))
        | false ↦ λ _ on. absurd cc
      ] refl closes

  more_false : (assumed : List ℤ) (x : ℤ) → AllFalse assumed → Has es x → AllFalse (assumed ++ negation x ∷ [])
  unfolding AllFalse
  more_false assumed x all_false true_ = λ m among.
      elim (Contains-push_cases assumed (negation x) m (Contains-from_among (assumed ++ negation x ∷ []) m among)) [
        | inl old ↦ all_false m (among-from_Contains assumed m old)
        | inr same ↦ ap (has es) (ap negation (sym same) ∙ negation_twice x) ∙ true_
      ]

  walk_ends : (at_end : List ℤ → Option StepFault) (hints assumed : List ℤ) → AllFalse assumed → walk_on pairs at_end assumed hints ≡ None → EndsFalse es at_end
  unfolding AllFalse
  walk_ends at_end [] assumed all_false closes = record { assumed = assumed; all_false = all_false; ends = closes }
  walk_ends at_end (pos id ∷ hints) assumed all_false closes =
      let next : ℤ → Option StepFault = λ l. walk_on pairs at_end (assumed ++ negation l ∷ []) hints in
      elim (find_clause pairs id) as (λ o. find_clause pairs id ≡ o → at_hint (pos id) assumed o next ≡ None → EndsFalse es at_end) [
        | None ↦ λ _ h. absurd cc
        | Some lits ↦ λ found h.
            let of = found_of live pairs id lits spells found in
            let P : Literals → Type 0 = λ ls. IsSettled es ls in
            let on = left_true assumed lits all_false (subst P (sym of.same) (settled of.clause of.is_live)) (pos id) next (remaining assumed lits) refl h in
            walk_ends at_end hints (assumed ++ negation on.0 ∷ []) (more_false assumed on.0 all_false on.1.0) on.1.1
      ] refl closes
  walk_ends at_end (negsuc n ∷ hints) assumed all_false closes = record { assumed = assumed; all_false = all_false; ends = closes }

-- a walk from a clause that is false there takes nothing as false but what is
pub ends_false : (live : List LiveClause) (t : TrailState) (lits : List ℤ) → IsTrail t → IsClosed live t → ((l : ℤ) → Contains lits l → HasNegated t.entries l) → (pairs : Live) → Spells live pairs → (at_end : List ℤ → Option StepFault) (hints : List ℤ) → walk_on pairs at_end lits hints ≡ None → EndsFalse t.entries at_end
unfolding AllFalse
ends_false live t lits kept closed all_false pairs spells at_end hints ends =
    walk_ends live t.entries pairs spells (consistent_trail t kept) closed at_end hints lits (λ m among. all_false m (Contains-from_among lits m among)) ends

-- so no hints lead to it
pub no_hints : (live : List LiveClause) (t : TrailState) (lits : List ℤ) → IsTrail t → IsClosed live t → ((l : ℤ) → Contains lits l → HasNegated t.entries l) → (pairs : Live) → Spells live pairs → (hints : List ℤ) → unit_walk pairs lits hints ≡ None → ⊥
no_hints live t lits kept closed all_false pairs spells hints closes =
    let end = ends_false live t lits kept closed all_false pairs spells (λ _. Some NoConflict) hints closes in
    let clash : Some NoConflict ≡ None = end.ends in
    cc

-- a settled clause isn't false
not_false : (es : List Entry) (lits : Literals) → IsConsistent es → IsSettled es lits → ((l : ℤ) → IsIn lits l → HasNegated es l) → ⊥
not_false es lits consistent (satisfied l inside true_) all_false = consistent l true_ (all_false l inside)
not_false es lits consistent (two_left l m inside inside' other open_ open_') all_false = open_ (all_false l inside)

-- nor does it force a literal that has no value
not_forcing : (es : List Entry) (lits : Literals) (x : ℤ) → IsConsistent es → IsSettled es lits → (Has es x → ⊥) → ((m : ℤ) → IsIn lits m → m ≢ x → HasNegated es m) → ⊥
not_forcing es lits x consistent (satisfied l inside true_) none others =
    elim (int_eq l x) as (λ b. int_eq l x ≡ b → ⊥) [
      | true ↦ λ same. none (ap (has es) (sym ((Decides-int_eq l x).0 same)) ∙ true_)
      | false ↦ λ other. consistent l true_ (others l inside (λ same. let clash : false ≡ true = sym other ∙ (Decides-int_eq l x).1 same in absurd cc))
    ] refl
not_forcing es lits x consistent (two_left l m inside inside' other open_ open_') none others =
    elim (int_eq l x) as (λ b. int_eq l x ≡ b → ⊥) [
      | true ↦ λ same. open_' (others m inside' (λ same'. other ((Decides-int_eq l x).0 same ∙ sym same')))
      | false ↦ λ apart'. open_ (others l inside (λ same. let clash : false ≡ true = sym apart' ∙ (Decides-int_eq l x).1 same in absurd cc))
    ] refl

some_is : {X : Type 0} → (o : Option X) → IsSome o → (x : X) × (o ≡ Some x)
some_is None some = absurd cc
some_is (Some x) some = (x, refl)

no_more : (live : List LiveClause) (old new : TrailState) (added : List Entry) → IsTrail new → IsClosed live old → IsConsistent old.entries → IsSound live new → new.entries ≡ old.entries ++ added → ((e : Entry) → Contains added e → IsSome e.reason) → added ≡ []
no_more live old new [] kept closed consistent sound grown forced = refl
no_more live old new (e ∷ es) kept closed consistent sound grown forced =
    let reason = some_is e.reason (forced e (0, omega arith, refl)) in
    let f = sound old.entries es e reason.0 grown reason.1 in
    let inside = (numbered live reason.0 f.clause f.is_live).contains in
    let n = length old.entries in
    let P : List Entry → Type 0 = λ xs. has (take n xs) e.lit ≡ true in
    let Q : List Entry → Type 0 = λ xs. has (drop n xs) e.lit ≡ true in
    absurd (not_forcing old.entries f.clause.lits e.lit consistent (closed f.clause inside)
    (λ there. apart new.entries n e.lit kept.once
    (subst P (sym grown) (ap (λ (xs : List Entry). has xs e.lit) (take-append_all old.entries (e ∷ es)) ∙ there))
    (subst Q (sym grown) (ap (λ (xs : List Entry). has xs e.lit) (drop-append_all old.entries (e ∷ es)) ∙ ap (λ b. b || has es e.lit) ((Decides-int_eq e.lit e.lit).1 refl))))
    f.others_false)
  where
    take-append_all : (xs ys : List Entry) → take (length xs) (xs ++ ys) ≡ xs
    take-append_all [] [] = refl
    take-append_all [] (y ∷ ys) = refl
    take-append_all (x ∷ xs) ys = ap (λ (zs : List Entry). x ∷ zs) (take-append_all xs ys)

    drop-append_all : (xs ys : List Entry) → drop (length xs) (xs ++ ys) ≡ ys
    drop-append_all [] ys = refl
    drop-append_all (x ∷ xs) ys = drop-append_all xs ys

-- unit propagation goes no further
pub goes_no_further : (live : List LiveClause) (old new : TrailState) → IsTrail old → IsTrail new → IsClosed live old → IsSound live new → GoesOn old new → new ≡ old
goes_no_further live old new kept kept' closed sound g =
    let none = no_more live old new g.added kept' closed (consistent_trail old kept) sound (ap (λ (t : TrailState). t.entries) g.grown) (λ e inside. All-contains (λ (x : Entry). IsSome x.reason) g.added e g.are_forced inside) in
    g.grown ∙ ap (λ (xs : List Entry). record { vars = old.vars; current = old.current; entries = xs }) (ap (λ (xs : List Entry). old.entries ++ xs) none ∙ append-nil old.entries)

-- and comes to no conflict
pub no_conflict : (live : List LiveClause) (old new : TrailState) (number : ℕ) → IsTrail old → IsTrail new → IsClosed live old → IsSound live new → GoesOn old new → IsConflict live new number → ⊥
no_conflict live old new number kept kept' closed sound g conflict =
    let same = goes_no_further live old new kept kept' closed sound g in
    let P : TrailState → Type 0 = λ t. (l : ℤ) → IsIn conflict.clause.lits l → HasNegated t.entries l in
    not_false old.entries conflict.clause.lits (consistent_trail old kept) (closed conflict.clause (numbered live number conflict.clause conflict.is_live).contains) (subst P same conflict.all_false)
