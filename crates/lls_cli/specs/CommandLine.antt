-- The words of a command line.
use Rattle.std.specs.Prelude.{List, map, Result, String, string_bytes}
use Rattle.lls_words.specs.declared.error.WordsError.{WordsError}
use Rattle.lls_words.specs.Job.{job_of}
use Rattle.lls_cli.specs.declared.task.Task.{Task}
use Rattle.lls_cli.specs.Task.{tasked}

-- the task that they ask for, or their first fault
abbrev pub task_in : {Z : Type 0} → List (String Z) → Result Task WordsError
task_in words = tasked (job_of (map string_bytes words))
