use Rattle.std.proofs.Common.{Vec, Global, ◌≡◌, ℕ, ◌+◌, ◌<◌, List, [], ◌∷◌, ◌++◌, map, take, length, get_or, ap, ap₂, ◌∙◌, sym}
use Rattle.std.proofs.lemmas.List.{map-append, take_more, take_all}
use Rattle.lls_cube.specs.declared.cube.Cube.{Cube}
use Rattle.lls_encode.specs.Formula.{cubes_in}
use Rattle.lls_problem.specs.declared.form.Form.{Form}
use Rattle.lls_open.specs.declared.class.SideClass.{SideClass}
use Rattle.lls_open.specs.Cubes.{class_cubes}
use Rattle.lls_open.proofs.cubes.cubes_by_class.Goals as goal

-- one class more
pushed : (form : Form) (classes : List SideClass) (i : ℕ) (d : SideClass) (before after : List (Vec Cube Global)) (some : Vec Cube Global) → i < length classes
    → map (λ some. some.items) before ≡ map (class_cubes form) (take i classes) → some.items ≡ class_cubes form (get_or classes i d) → after ≡ before ++ some ∷ []
    → map (λ some. some.items) after ≡ map (class_cubes form) (take (i + 1) classes)
pushed form classes i d before after some inside so_far is step =
    ap (map (λ (v : Vec Cube Global). v.items)) step
    ∙ map-append (λ (v : Vec Cube Global). v.items) before (some ∷ [])
    ∙ ap₂ (λ (xs ys : List (List Cube)). xs ++ ys) so_far (ap (λ c. c ∷ []) is)
    ∙ sym (map-append (class_cubes form) (take i classes) (get_or classes i d ∷ []))
    ∙ ap (map (class_cubes form)) (sym (take_more classes i d inside))

pub loop-class-preserved : goal.loop-class-preserved
loop-class-preserved c =
    pushed c.args.form c.args.classes.now c.loop-class.class-index _ c.loop-class.cubes.items c.push.new.self.items c.in_ok-cubes_in.field-0 c.loop-class-test.true c.loop-class.invariant
    (c.in_ok-cubes_in.ensures.cubes ∙ ap (cubes_in c.args.form 11) c.class_table.ensures) c.in_ok-push.ensures.items

pub returns : goal.returns
returns c = c.loop-class.invariant ∙ ap (map (class_cubes c.args.form)) (take_all c.loop-class.class-index c.args.classes.now c.loop-class-test.false)
