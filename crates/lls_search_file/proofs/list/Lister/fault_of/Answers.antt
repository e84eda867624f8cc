use Rattle.std.proofs.Common.{◌≡◌, ◌∙◌, length, map, not}
use Rattle.std.proofs.lemmas.List.{length-map}
use Rattle.lls_search_file.specs.Listing.{is_plain_word}
use Rattle.lls_search_file.specs.Lister.{listing_of}
use Rattle.lls_search_file.specs.Seen.{seen_word}
use Rattle.lls_search_file.proofs.Listings.{position_mapped, wrong_cell, wrong_count}
use Rattle.lls_search_file.proofs.list.Lister.fault_of.Goals as goal

pub returns-in-Some : goal.returns-in-Some
returns-in-Some c =
    let words = c.args.words.now in
    let wide : length (map seen_word words) ≡ c.args.self.now.width = length-map words seen_word ∙ c.if-found-width.false ∙ c.from-width.ensures in
    wrong_cell c.args.self.now.height c.args.self.now.width c.args.number c.in-Some.cell (listing_of c.args.self.now) (map seen_word words) wide c.if-self.false
    (c.in-Some.ensures ∙ position_mapped (λ word. not (is_plain_word word)) seen_word words)

pub returns : goal.returns
returns c =
    let words = c.args.words.now in
    let wide : length (map seen_word words) ≡ c.args.self.now.width = length-map words seen_word ∙ c.if-found-width.false ∙ c.from-width.ensures in
    wrong_count c.args.self.now.height c.args.self.now.width c.args.number (listing_of c.args.self.now) (map seen_word words) c.too_many.result wide c.if-self.false
    (c.in_default.ensures ∙ position_mapped (λ word. not (is_plain_word word)) seen_word words) c.too_many.ensures
