-- What an answer says: a text, an absence, or a text that a checked formula stands behind.
use Rattle.std.specs.Prelude.{ℕ, List}
use Rattle.lls_answers.specs.declared.text.Said.{Said}
use Rattle.lls_answers.specs.declared.text.Said.TheVariants as said
use Rattle.lls_answers.specs.Subject.{none_text}

abbrev pub said_text : Said → List ℕ
said_text (said.Plain bytes) = bytes.items
said_text (said.Absence subject) = none_text subject
said_text (said.Certified proof bytes) = bytes.items
