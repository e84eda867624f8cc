use Rattle.std.proofs.Common.{◌∙◌, sym, subst, List}
use Rattle.lls_rle.specs.Tokens.{PlacedToken}
use Rattle.lls_rle.specs.Seen.{seen_token}
use Rattle.lls_rle.proofs.Steps.{IsTaking, IsTaking-none, IsTaking-more}
use Rattle.lls_rle.proofs.reader.Reader.take_tokens.Goals as goal

pub loop-token-init : goal.loop-token-init
loop-token-init c =
    let P : List PlacedToken → Type 0 = λ rest. IsTaking c.args.self.now c.args.number c.args.line.now c.args.self.now rest in
    subst P (sym (c.into_iter-token-iterator.ensures.into_iter_gives ∙ c.new-token-items.ensures)) (IsTaking-none c.args.self.now c.args.number c.args.line.now c.requires.kept c.requires.line)

pub loop-token-preserved : goal.loop-token-preserved
loop-token-preserved c =
    let P : List PlacedToken → Type 0 = λ rest. IsTaking c.args.self.now c.args.number c.args.line.now c.loop-token.self rest in
    let told = rw c.if-branch.false at c.in_ok-take.ensures in
    IsTaking-more c.args.self.now c.args.number c.args.line.now c.loop-token.self c.take.new.self (seen_token c.in-Some.token) c.next.new.self (subst P c.in-Some.ensures.steps c.loop-token.invariant) told.answer told.kept told.row told.column told.sizes
