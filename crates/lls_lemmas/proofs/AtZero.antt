-- Level 0, where unit propagation goes on.
use Rattle.std.proofs.Common.{◌≡◌, ℕ, zero, suc, ◌<◌, ◌≤◌, ◌||◌, List, [], ◌∷◌, ◌++◌, length, Option, Some, sym, ap, subst, ◌∙◌, inr, arith}
use Rattle.std.specs.Prelude.{ℤ, slice_get}
use Rattle.std.specs.Ordering.{int_eq}
use Rattle.std.proofs.lemmas.List.{length-append, take_all}
use Rattle.std.proofs.lemmas.List.Folds.{list_any-append}
use Rattle.lls_store.specs.Trail.{Entry, TrailState, has, HasNegated, IsTrail}
use Rattle.lls_store.specs.Clauses.{LiveClause}
use Rattle.lls_store.specs.Sound.{IsSound}
use Rattle.lls_store.specs.Store.{StoreState, GoesOn, IsConflict}
use Rattle.lls_lemmas.specs.Behind.{GivesClause}
use Rattle.lls_lemmas.specs.Closing.{GivesEach}
use Rattle.lls_lemmas.specs.Units.{HasUnits, StoreGrows}
use Rattle.lls_lemmas.proofs.UnitTables.{none_for}

pub in_front : (xs ys : List Entry) (k : ℕ) (e : Entry) → k < length xs → slice_get (xs ++ ys) k ≡ Some e → slice_get xs k ≡ Some e
in_front [] ys k e lt is = absurd (omega (arith, lt))
in_front (x ∷ xs) ys zero e lt is = is
in_front (x ∷ xs) ys (suc k) e lt is = in_front xs ys k e (omega (arith, lt)) is

-- the units of a trail that goes on
pub units_on : (store : StoreState) (old new : TrailState) (units : List (Option ℕ)) (done : ℕ) → HasUnits store old units done → GoesOn old new → IsTrail new → IsSound store.live new → HasUnits store new units done
units_on store old new units done h g kept sound =
    let entries : new.entries ≡ old.entries ++ g.added = ap (λ (t : TrailState). t.entries) g.grown in
    let vars : new.vars ≡ old.vars = ap (λ (t : TrailState). t.vars) g.grown in
    record {
      level = ap (λ (t : TrailState). t.current) g.grown ∙ h.level;
      is_trail = kept;
      sound = sound;
      same_vars = h.same_vars ∙ sym vars;
      unit_each = h.unit_each ∙ sym vars;
      are_units = λ i id is. (let u = h.are_units i id is in record {
        clause = u.clause;
        lit = u.lit;
        is_live = u.is_live;
        same_id = u.same_id;
        single = u.single;
        is_true = ap (λ (xs : List Entry). has xs u.lit) entries ∙ list_any-append (λ (e : Entry). int_eq e.lit u.lit) old.entries g.added ∙ ap (λ b. b || has g.added u.lit) u.is_true;
        of_variable = u.of_variable;
      });
      complete = λ k e lt at. h.complete k e lt (in_front old.entries g.added k e (omega (arith, lt, h.done_within)) (ap (λ (xs : List Entry). slice_get xs k) (sym entries) ∙ at));
      done_within = omega (arith, h.done_within, ap length entries, length-append old.entries g.added);
    }

-- a conflict of a store that grew
pub conflict_on : (t : TrailState) (old new : StoreState) (number : ℕ) → StoreGrows t old new → IsConflict old.live t number → IsConflict new.live t number
conflict_on t old new number grows c = record { clause = c.clause; is_live = grows.kept number c.clause c.is_live; all_false = c.all_false }

-- at a conflict the hints lead to the empty clause
pub gives_empty : (live : List LiveClause) (t : TrailState) (top number : ℕ) (hints : List ℤ) → IsTrail t → t.current ≡ 0 → length t.entries ≤ top → IsConflict live t number → GivesEach live t.entries top number hints → GivesClause live [] hints
gives_empty live t top number hints kept level all c gives =
    gives [] (none_for t [] kept level) (record {
      clause = c.clause;
      is_live = c.is_live;
      each = λ m inside.
          let P : List Entry → Type 0 = λ es. HasNegated es m in
          inr (subst P (sym (take_all top t.entries all)) (c.all_false m inside));
    })
