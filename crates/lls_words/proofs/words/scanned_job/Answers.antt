use Rattle.std.proofs.Common.{◌∙◌, map, string_bytes, ap, length, sym}
use Rattle.std.proofs.lemmas.List.{length-map}
use Rattle.lls_words.specs.Seen.{seen_operand}
use Rattle.lls_words.proofs.words.scanned_job.Goals as goal

pub read_words-requires : goal.read_words-requires
read_words-requires c = record {
  fits = c.requires;
  count = length-map c.args.scan.now.operands.items seen_operand ∙ (ap length (sym c.as_slice.ensures.value) ∙ (c.if-found-operand_count.false ∙ c.operand_count.ensures));
  said = ap (map string_bytes) c.deref.ensures.value ∙ c.in_ok-canonical.ensures;
}
