-- What an absence says.
use Rattle.std.specs.Prelude.{ℕ, List, codes}

-- the words of an absence
abbrev pub no_pattern : List ℕ
no_pattern = codes "no pattern\n"
