-- For private contracts alone: words without where they lie in memory.
use Rattle.lls_search_file.specs.declared.word.Said as code
use Rattle.lls_search_file.specs.declared.word.Said.TheVariants as says
use Rattle.lls_search_file.specs.declared.word.Word as read
use Rattle.lls_search_file.specs.Words.{Said, Word, dead, live, free, named, negated}

abbrev pub seen_said : code.Said → Said
seen_said says.Dead = dead
seen_said says.Live = live
seen_said says.Free = free
seen_said (says.Named name) = named name.now
seen_said (says.Negated name) = negated name.now

abbrev pub seen_word : read.Word → Word
seen_word w = record { mark = w.mark; says = seen_said w.says }
