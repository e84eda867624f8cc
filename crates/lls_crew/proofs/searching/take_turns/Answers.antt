use Rattle.std.proofs.Common.{refl, sym, ap, ◌∙◌}
use Rattle.std.specs.Prelude.{Ok}
use Rattle.lls_crew.specs.Crew.{unplayed}
use Rattle.lls_crew.specs.Turns.{TurnsState}
use Rattle.lls_crew.proofs.TurnsTaken.{goes_if, played_on, turn_is}
use Rattle.lls_crew.proofs.searching.take_turns.Goals as goal

pub turns-init : goal.turns-init
turns-init c = record { going = c.requires.going; searchers = c.requires.searchers; stays = refl; played = unplayed; formula = refl; budget = refl; keep_all = refl }

pub turns-preserved : goal.turns-preserved
turns-preserved c =
    let i = c.turns.invariant in
    let does = c.turn.ensures in
    let drawn = c.next.ensures.drawn in
    let same = ap (λ (t : TurnsState). t.searchers) drawn in
    let learns = does.going (c.in-Ok-Going.is ∙ ap Ok c.in-Ok-Going.field-0-is) in
    record {
      going = goes_if c.turn.new.self.stage (sym does.answers ∙ (c.in-Ok-Going.is ∙ ap Ok c.in-Ok-Going.field-0-is));
      searchers = does.searchers ∙ i.searchers ∙ sym same;
      stays = same ∙ i.stays;
      played =
          played_on c.args.crew.now c.args.turns.now.last c.args.turns.now.searchers c.turns.crew c.turn.new.self c.turns.turns c.next.new.self c.next.result i.played i.stays drawn c.next.ensures.turn
          (turn_is c.turns.crew c.turn.new.self c.next.result c.turn.result does.answers i.going does.going does.stops);
      formula = ap (λ crew. crew.formula) learns.learnt ∙ i.formula;
      budget = ap (λ crew. crew.budget) learns.learnt ∙ i.budget;
      keep_all = ap (λ crew. crew.keep_all) learns.learnt ∙ i.keep_all;
    }

pub returns-in-Ok-Ended-clause-played : goal.returns-in-Ok-Ended-clause-played
returns-in-Ok-Ended-clause-played c =
    let i = c.turns.invariant in
    let does = c.turn.ensures in
    played_on c.args.crew.now c.args.turns.now.last c.args.turns.now.searchers c.turns.crew c.turn.new.self c.turns.turns c.next.new.self c.next.result i.played i.stays c.next.ensures.drawn c.next.ensures.turn
    (turn_is c.turns.crew c.turn.new.self c.next.result c.turn.result does.answers i.going does.going does.stops)

pub returns-in-Err-clause-played : goal.returns-in-Err-clause-played
returns-in-Err-clause-played c =
    let i = c.turns.invariant in
    let does = c.turn.ensures in
    played_on c.args.crew.now c.args.turns.now.last c.args.turns.now.searchers c.turns.crew c.turn.new.self c.turns.turns c.next.new.self c.next.result i.played i.stays c.next.ensures.drawn c.next.ensures.turn
    (turn_is c.turns.crew c.turn.new.self c.next.result c.turn.result does.answers i.going does.going does.stops)
