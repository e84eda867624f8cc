use Rattle.std.proofs.Common.{refl, ◌≡◌, ◌∷◌, [], sym, ap, ◌∙◌, arith, length}
use Rattle.std.specs.Prelude.{ℤ, List}
use Rattle.std.proofs.lemmas.Bool.Decides.{Decides-eqb}
use Rattle.lls_analyse.specs.Marked.{nothing_seen}
use Rattle.lls_analyse.proofs.Opens.{nothing_left}
use Rattle.lls_analyse.proofs.analysis.clear.Goals as goal

none : (ls : List ℤ) → length ls ≡ 0 → ls ≡ []
none [] is = refl
none (l ∷ ls) is = absurd (omega (arith, is))

pub returns : goal.returns
returns c =
    let empty : length c.lits.result.now ≡ 0 = (Decides-eqb (length c.lits.result.now) 0).0 (sym c.is_empty.ensures ∙ c.loop-visited-test.false) in
    nothing_left c.loop-visited.visited c.lits.ensures.visited (sym c.lits.ensures.lits ∙ none c.lits.result.now empty) ∙ ap nothing_seen c.loop-visited.invariant
