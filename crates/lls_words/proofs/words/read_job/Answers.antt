use Rattle.std.proofs.Common.{map, string_bytes}
use Rattle.lls_words.specs.Seen.{seen_scan}
use Rattle.lls_words.proofs.Fitting.{FitsCanonical-scan}
use Rattle.lls_words.proofs.words.read_job.Goals as goal

pub scanned_job-requires : goal.scanned_job-requires
scanned_job-requires c = FitsCanonical-scan c.in-Some-from_name.command (map string_bytes c.in-Some.behind.now) (seen_scan c.in_ok-scan.scan) c.in_ok-scan.ensures
