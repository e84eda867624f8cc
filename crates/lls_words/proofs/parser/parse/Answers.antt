use Rattle.std.proofs.Common.{◌≡◌, ◌∙◌, ap, ap₂}
use Rattle.std.proofs.lemmas.Result.{IfErr-weaker, IfOk-weaker}
use Rattle.clap.specs.Words.{app_of, found_of, is_simple, matches_of, takes}
use Rattle.lls_words.specs.Parser.{parser_of}
use Rattle.lls_words.proofs.Table.{is_simple-parser}
use Rattle.lls_words.proofs.Parsers.{reads}
use Rattle.lls_words.proofs.Readings.{ReadsBack-found}
use Rattle.lls_words.proofs.parser.parse.Goals as goal

pub returns-clause-found : goal.returns-clause-found
returns-clause-found c =
    let app_is : app_of c.in_ok-parser.field-0 ≡ parser_of c.args.command = c.in_ok-parser.ensures in
    IfOk-weaker c.try_get_matches_from.result _ _
    (λ m found s canonical. ReadsBack-found c.args.command s (found_of m) canonical.count canonical.fits
    ((found (ap is_simple app_is ∙ is_simple-parser c.args.command)).0 ∙ ap₂ matches_of app_is canonical.said))
    c.try_get_matches_from.ensures.matches

pub returns-clause-memory : goal.returns-clause-memory
returns-clause-memory c =
    let app_is : app_of c.in_ok-parser.field-0 ≡ parser_of c.args.command = c.in_ok-parser.ensures in
    IfErr-weaker c.try_get_matches_from.result _ _ (λ error passes s canonical. passes (ap₂ takes app_is canonical.said ∙ (reads c.args.command s canonical.count canonical.fits.plain).taken)) c.try_get_matches_from.ensures.passes
