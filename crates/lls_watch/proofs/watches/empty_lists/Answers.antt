use Rattle.std.proofs.Common.{◌≡◌, ◌++◌, List, get_or, map, take, ap, ◌∙◌, arith}
use Rattle.std.proofs.lemmas.List.{append-nil, drop_all, get_or_default, take_all}
use Rattle.std.proofs.lemmas.List.Edits.{map_over_more}
use Rattle.lls_arena.specs.declared.edges.Link.{Link}
use Rattle.lls_arena.specs.Links.{link_in}
use Rattle.lls_watch.proofs.Starts.{none_begin}
use Rattle.lls_watch.proofs.watches.empty_lists.Goals as goal

pub loop-start-preserved : goal.loop-start-preserved
loop-start-preserved c =
    let nowhere = c.nowhere-nowhere.result in
    let start : Link = get_or c.loop-start.first c.loop-start.start-index nowhere in
    map_over_more (λ _. nowhere) c.args.first.now c.loop-start.first c.loop-start.start-index start (omega arith) c.loop-start.invariant (get_or_default c.loop-start.first c.loop-start.start-index nowhere start (omega arith))

pub returns : goal.returns
returns c =
    let nowhere = c.nowhere-nowhere.result in
    let old = c.args.first.now in
    let k = c.loop-start.start-index in
    let all : c.loop-start.first ≡ map (λ _. nowhere) old =
    c.loop-start.invariant
    ∙ ap (λ (rest : List Link). map (λ _. nowhere) (take k old) ++ rest) (drop_all k old c.loop-start-test.false)
    ∙ append-nil (map (λ _. nowhere) (take k old))
    ∙ ap (map (λ _. nowhere)) (take_all k old c.loop-start-test.false) in
    ap (map link_in) all ∙ none_begin nowhere old c.nowhere-nowhere.ensures
