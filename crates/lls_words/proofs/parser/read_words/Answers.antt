use Rattle.std.proofs.Common.{◌≡◌, ◌∙◌, map, All, Some, ap, subst, sym}
use Rattle.std.proofs.lemmas.Simd.{map-map}
use Rattle.clap.specs.Words.{first_value, found_of}
use Rattle.lls_words.specs.Command.{option_name}
use Rattle.lls_words.specs.Seen.{seen_given, seen_operand, seen_scan}
use Rattle.lls_words.proofs.Pairs.{all-unmapped}
use Rattle.lls_words.proofs.parser.read_words.Goals as goal

pub read_operands-requires : goal.read_operands-requires
read_operands-requires c =
    let read = c.in-Ok.ensures.found (seen_scan c.args.scan.now) c.requires in
    ap (map (first_value (found_of c.in-Ok.matches))) c.operand_names.ensures
    ∙ (read.operands ∙ (map-map (λ operand. Some operand.word) seen_operand c.args.scan.now.operands.items ∙ ap (map (λ operand. Some operand.word.now)) (sym c.deref.ensures.value)))

pub read_givens-requires : goal.read_givens-requires
read_givens-requires c =
    let read = c.in-Ok.ensures.found (seen_scan c.args.scan.now) c.requires in
    subst (All (λ given. first_value (found_of c.in-Ok.matches) (option_name given.setting) ≡ Some given.value.now)) (sym c.deref-2.ensures.value)
    (all-unmapped (λ given. first_value (found_of c.in-Ok.matches) (option_name given.setting) ≡ Some given.value) seen_given c.args.scan.now.givens.items read.options)
