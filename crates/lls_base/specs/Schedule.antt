-- Which call of a double in memory is to fail.
use Rattle.std.specs.Prelude.{◌+◌, ◌-◌, ◌^◌, ◌==◌, min, Bool}
use Rattle.std.specs.List.{list_any}
use Rattle.lls_base.specs.declared.schedule.Schedule.{Schedule}

-- one call more; a count of 64 bits stays at its end
abbrev pub after_call : Schedule → Schedule
after_call schedule = record schedule { calls = min (schedule.calls + 1) (2 ^ 64 - 1) }

-- the call after these is to fail
abbrev pub is_due : Schedule → Bool
is_due schedule = list_any (λ call. call == (after_call schedule).calls) schedule.listed.items
