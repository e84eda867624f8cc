-- What a sink in memory shows.
use Rattle.std.specs.Prelude.{ℕ, List}
use Rattle.lls_base.specs.declared.mem_sink.MemSink.{MemSink}
use Rattle.lls_base.specs.declared.schedule.Schedule.{Schedule}

-- the bytes taken so far
abbrev pub sink_bytes : MemSink → List ℕ
sink_bytes sink = sink.bytes.items

-- which calls are to fail, and how many there have been
abbrev pub sink_schedule : MemSink → Schedule
sink_schedule sink = sink.schedule

-- the most bytes that a call takes
abbrev pub sink_most : MemSink → ℕ
sink_most sink = sink.most

-- how often a call has failed, and how often for want of memory
abbrev pub sink_faults : MemSink → ℕ
sink_faults sink = sink.tally.faults

abbrev pub sink_lacked : MemSink → ℕ
sink_lacked sink = sink.tally.lacked
