use Rattle.std.proofs.Common.{◌∙◌, sym, ap, ◌&&◌}
use Rattle.std.proofs.lemmas.Bool.{eq-eqb, ne_eqb}
use Rattle.lls_hensel.specs.Groups.{seen_group}
use Rattle.lls_hensel.specs.Entries.{stands_for}
use Rattle.lls_hensel.proofs.Tells.{next_of-other_side, next_of-same_side}
use Rattle.lls_hensel.proofs.group.Group.tells.Goals as goal

pub returns-then-nine-survival : goal.returns-then-nine-survival
returns-then-nine-survival c =
    sym (next_of-other_side c.args.survival (seen_group c.args.self.now) c.args.nine c.requires c.if-nine-survival.true)

pub returns-then-class-self : goal.returns-then-class-self
returns-then-class-self c =
    let group = seen_group c.args.self.now in
    let class = c.class_of-class.result in
    c.stands_for.ensures ∙
    sym (next_of-same_side c.args.survival group c.args.nine c.around.result class c.requires c.if-nine-survival.false c.around.ensures c.class_of-class.ensures ∙
    ap (λ b. b && stands_for group class.letter) (eq-eqb group.count class.count (sym c.if-class-self.true)))

pub returns-else-class-self : goal.returns-else-class-self
returns-else-class-self c =
    let group = seen_group c.args.self.now in
    let class = c.class_of-class.result in
    ne_eqb class.count group.count c.if-class-self.false ∙
    sym (next_of-same_side c.args.survival group c.args.nine c.around.result class c.requires c.if-nine-survival.false c.around.ensures c.class_of-class.ensures ∙
    ap (λ b. b && stands_for group class.letter) (ne_eqb group.count class.count (λ e. c.if-class-self.false (sym e))))
