-- One item more of a scan, or its fault.
use Rattle.std.proofs.Common.{◌≡◌, List, ◌∷◌, Result, ap, ◌∙◌}
use Rattle.lls_base.specs.Results.{and_then}
use Rattle.lls_words.specs.declared.command.Command.{Command}
use Rattle.lls_words.specs.declared.error.WordsError.{WordsError}
use Rattle.lls_words.specs.Items.{Item}
use Rattle.lls_words.specs.Scan.{Scanned, with_item, with_items}

pub with_items-first : (command : Command) (s : Scanned) (items rest : List Item) (item : Item) (taken : Result Scanned WordsError)
    → items ≡ item ∷ rest → with_item command s item ≡ taken → with_items command s items ≡ and_then taken (λ more. with_items command more rest)
with_items-first command s items rest item taken first one =
    ap (with_items command s) first ∙ ap (λ t. and_then t (λ more. with_items command more rest)) one
