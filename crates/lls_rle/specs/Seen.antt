-- A token as a contract sees it: without where it lies in memory.
use Rattle.lls_rle.specs.declared.tokens.Token.{Token}
use Rattle.lls_rle.specs.Tokens.{PlacedToken}

abbrev pub seen_token : Token → PlacedToken
seen_token token = record { line = token.line; column = token.column; text = token.text.now }
