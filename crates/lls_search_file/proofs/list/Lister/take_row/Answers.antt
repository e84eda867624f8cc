use Rattle.std.proofs.Common.{◌∙◌, ◌++◌, map, ap}
use Rattle.lls_search_file.specs.Listing.{is_live_word}
use Rattle.lls_search_file.specs.Lister.{listing_of}
use Rattle.lls_search_file.specs.Seen.{seen_word}
use Rattle.lls_search_file.proofs.Listings.{map_mapped, row_taken}
use Rattle.lls_search_file.proofs.list.Lister.take_row.Goals as goal

pub returns-clause-listing : goal.returns-clause-listing
returns-clause-listing c =
    row_taken c.args.self.now.height c.args.self.now.width c.args.number (listing_of c.args.self.now) (map seen_word c.args.words.now) c.extend_from_slice.new.self.items
    (c.in_default.ensures)
    (c.in_ok-extend_from_slice.ensures.items ∙ ap (λ cells. c.args.self.now.begun.items ++ cells) (c.deref.ensures.value ∙ c.in_ok-cells.ensures ∙ map_mapped is_live_word seen_word c.args.words.now))
