use Rattle.std.proofs.Common.{◌≡◌, ℕ, ◌+◌, ◌<◌, ◌≤◌, Bool, true, false, cond, List, [], ◌∷◌, ◌++◌, map, take, length, get_or, ◌∙◌, ap, ap₂, sym, append_assoc, arith}
use Rattle.std.specs.Prelude.{filter}
use Rattle.std.proofs.lemmas.List.{append-nil, length-map, get_or-map, take_all}
use Rattle.std.proofs.lemmas.List.Elements.{filter_more}
use Rattle.std.specs.List.{take-map}
use Rattle.lls_hensel.specs.declared.class.Class.{Class}
use Rattle.lls_hensel.specs.Class.{classes}
use Rattle.lls_open.specs.declared.class.SideClass.{SideClass}
use Rattle.lls_open.specs.Classes.{is_open, side_classes}
use Rattle.lls_open.proofs.class.push_side.Invariants.{on_side}
use Rattle.lls_open.proofs.class.push_side.Goals as goal
use Rattle.lls_open.proofs.class.push_side.Goals.{then-is_open+in_ok-push, else-is_open}

-- one class more
filtered : (test : SideClass → Bool) (survival : Bool) (xs : List Class) (i : ℕ) (d : Class) (passes : Bool) → i < length xs → test (on_side survival (get_or xs i d)) ≡ passes
    → filter test (map (on_side survival) (take (i + 1) xs)) ≡ filter test (map (on_side survival) (take i xs)) ++ cond passes (on_side survival (get_or xs i d) ∷ []) []
filtered test survival xs i d passes inside is =
    let side : SideClass = on_side survival d in
    let mapped : List SideClass = map (on_side survival) xs in
    let at : get_or mapped i side ≡ on_side survival (get_or xs i d) = get_or-map (on_side survival) xs i d side inside in
    ap (filter test) (sym (take-map (on_side survival) (i + 1) xs))
    ∙ filter_more test mapped i side (omega (arith, inside, length-map xs (on_side survival)))
    ∙ ap₂ (λ (a b : List SideClass). a ++ b) (ap (filter test) (take-map (on_side survival) i xs))
    (ap (λ x. cond (test x) (x ∷ []) []) at ∙ ap (λ b. cond b (on_side survival (get_or xs i d) ∷ []) []) is)

all_of : (survival : Bool) (xs : List Class) (n : ℕ) → xs ≡ classes → length xs ≤ n → map (on_side survival) (take n xs) ≡ side_classes survival
unfolding side_classes
all_of survival xs n is all = ap (map (on_side survival)) (take_all n xs all ∙ is)

pub loop-class-init : goal.loop-class-init
loop-class-init c = sym (append-nil _)

abbrev so_far : (SideClass → Bool) → Bool → List Class → ℕ → List SideClass → List SideClass
so_far test survival xs i before = before ++ filter test (map (on_side survival) (take i xs))

pushed : (test : SideClass → Bool) (survival : Bool) (xs : List Class) (i : ℕ) (d : Class) (before now next : List SideClass) → i < length xs → now ≡ so_far test survival xs i before
    → test (on_side survival (get_or xs i d)) ≡ true → next ≡ now ++ on_side survival (get_or xs i d) ∷ [] → next ≡ so_far test survival xs (i + 1) before
pushed test survival xs i d before now next inside is passes step =
    step
    ∙ ap (λ ys. ys ++ on_side survival (get_or xs i d) ∷ []) is
    ∙ append_assoc before (filter test (map (on_side survival) (take i xs))) (on_side survival (get_or xs i d) ∷ [])
    ∙ ap (λ ys. before ++ ys) (sym (filtered test survival xs i d true inside passes))

passed : (test : SideClass → Bool) (survival : Bool) (xs : List Class) (i : ℕ) (d : Class) (before now : List SideClass) → i < length xs → now ≡ so_far test survival xs i before
    → test (on_side survival (get_or xs i d)) ≡ false → now ≡ so_far test survival xs (i + 1) before
passed test survival xs i d before now inside is fails =
    is ∙ ap (λ ys. before ++ ys) (sym (filtered test survival xs i d false inside fails ∙ append-nil (filter test (map (on_side survival) (take i xs)))))

pub loop-class-preserved : goal.loop-class-preserved
loop-class-preserved c =
    let test = is_open c.args.low.now c.args.high.now in
    elim c.if-is_open.branch [
      | then-is_open+in_ok-push w ↦
          rw w.classes-is (pushed test c.args.survival c.all_classes-class-items.result.now c.loop-class.class-index _ c.args.classes.now.items c.loop-class.classes.items w.push.new.self.items
          c.loop-class-test.true c.loop-class.invariant (sym c.is_open.ensures ∙ w.if-is_open.true) w.in_ok-push.ensures.items)
      | else-is_open w ↦
          rw w.classes-is (passed test c.args.survival c.all_classes-class-items.result.now c.loop-class.class-index _ c.args.classes.now.items c.loop-class.classes.items
          c.loop-class-test.true c.loop-class.invariant (sym c.is_open.ensures ∙ w.if-is_open.false))
    ]

pub returns : goal.returns
returns c =
    c.loop-class.invariant
    ∙ ap (λ xs. c.args.classes.now.items ++ filter (is_open c.args.low.now c.args.high.now) xs)
    (all_of c.args.survival c.all_classes-class-items.result.now c.loop-class.class-index c.all_classes-class-items.ensures c.loop-class-test.false)
