use Rattle.lls_store.proofs.Compacting.{compacting_says_the_same}
use Rattle.lls_store.proofs.Points.{has_one_point}
use Rattle.lls_engine_tests.proofs.WorkedTrail as worked
use Rattle.lls_engine_tests.proofs.store_worked.worked_facts.Goals as goal

pub returns-clause-closed_below : goal.returns-clause-closed_below
returns-clause-closed_below c = worked.closed_below

pub returns-clause-closed_at_one : goal.returns-clause-closed_at_one
returns-clause-closed_at_one c = worked.closed_at_one

pub returns-clause-not_closed : goal.returns-clause-not_closed
returns-clause-not_closed c = worked.not_closed

pub returns-clause-sound : goal.returns-clause-sound
returns-clause-sound c = worked.sound

pub returns-clause-not_sound : goal.returns-clause-not_sound
returns-clause-not_sound c = worked.not_sound

pub returns-clause-uip : goal.returns-clause-uip
returns-clause-uip c = worked.uip

pub returns-clause-not_decisions : goal.returns-clause-not_decisions
returns-clause-not_decisions c = worked.not_decisions

pub returns-clause-one_point : goal.returns-clause-one_point
returns-clause-one_point c = has_one_point

pub returns-clause-compacting : goal.returns-clause-compacting
returns-clause-compacting c = compacting_says_the_same
