-- What a shelf in memory shows.
use Rattle.std.specs.Prelude.{ℕ, List, drop}
use Rattle.std.specs.Option.{option_map}
use Rattle.lls_base.specs.declared.mem_shelf.MemShelf.{MemShelf}
use Rattle.lls_base.specs.declared.mem_shelf.Input.{Input}
use Rattle.lls_base.specs.declared.mem_shelf.Schedules.{Schedules}
use Rattle.lls_base.specs.Schedule.{after_call}
use Rattle.lls_base.specs.Shelf.{Contents}
use Rattle.lls_base.specs.Files.{files_of, name_at}

-- what is left of an input
abbrev pub input_rest : Input → List ℕ
input_rest input = drop input.at input.bytes.items

-- the files, what is left of the input, and the output's name
abbrev pub shelf_contents : MemShelf → Contents
shelf_contents shelf = record { files = files_of shelf.files.items; rest = option_map input_rest shelf.input; target = option_map (name_at shelf.files.items) shelf.output }

-- which calls are to fail, and how many there have been
abbrev pub shelf_schedules : MemShelf → Schedules
shelf_schedules shelf = shelf.schedules

-- one call more of a kind
abbrev pub after_open_call : Schedules → Schedules
after_open_call schedules = record schedules { opens = after_call schedules.opens }

abbrev pub after_read_call : Schedules → Schedules
after_read_call schedules = record schedules { reads = after_call schedules.reads }

abbrev pub after_create_call : Schedules → Schedules
after_create_call schedules = record schedules { creates = after_call schedules.creates }

abbrev pub after_write_call : Schedules → Schedules
after_write_call schedules = record schedules { writes = after_call schedules.writes }

-- the most bytes that a call reads or writes
abbrev pub shelf_most : MemShelf → ℕ
shelf_most shelf = shelf.most

-- how often a call has failed, and how often for want of memory
abbrev pub shelf_faults : MemShelf → ℕ
shelf_faults shelf = shelf.tally.faults

abbrev pub shelf_lacked : MemShelf → ℕ
shelf_lacked shelf = shelf.tally.lacked
