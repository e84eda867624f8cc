use Rattle.std.proofs.Common.{◌++◌, true, false, ◌∙◌, ap, sym}
use Rattle.std.specs.Prelude.{filter}
use Rattle.std.proofs.lemmas.List.Elements.{filter-append}
use Rattle.lls_open.specs.Classes.{is_open, side_classes, open_classes}
use Rattle.lls_open.proofs.class.open_classes.Goals as goal

pub returns : goal.returns
unfolding open_classes
returns c =
    c.in_ok-push_side-2.ensures
    ∙ ap (λ xs. xs ++ filter (is_open c.args.low.now c.args.high.now) (side_classes true)) (c.in_ok-push_side.ensures ∙ ap (λ xs. xs ++ filter (is_open c.args.low.now c.args.high.now) (side_classes false)) c.new-classes.ensures.items)
    ∙ sym (filter-append (is_open c.args.low.now c.args.high.now) (side_classes false) (side_classes true))
