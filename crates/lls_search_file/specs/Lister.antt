-- For private contracts alone: what the reader of a list has, as the lines so far have given it.
use Rattle.lls_search_file.specs.declared.list.Lister as code
use Rattle.lls_search_file.specs.Listing.{Listing}

abbrev pub listing_of : code.Lister → Listing
listing_of lister = record { ended = lister.ended.items; begun = lister.begun.items; rows = lister.rows }
