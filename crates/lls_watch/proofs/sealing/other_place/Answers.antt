use Rattle.std.proofs.Common.{◌≡◌, ◌<◌, ℕ, ℤ, pos, zero, suc, List, [], ◌∷◌, refl, sym, ◌∙◌, arith, length}
use Rattle.std.specs.Prelude.{slice_index_or}
use Rattle.std.specs.FinSet as set
use Rattle.lls_store.specs.Clauses.{IsIn}
use Rattle.lls_store.proofs.Sets.{Contains-from_IsIn}
use Rattle.lls_watch.proofs.sealing.other_place.Goals as goal

-- an element that is there is so whatever is read where none is
defaults : (ls : List ℤ) (k : ℕ) → k < length ls → (a b : ℤ) → slice_index_or ls k a ≡ slice_index_or ls k b
defaults [] k within a b = absurd (omega (arith, within))
defaults (l ∷ ls) zero within a b = refl
defaults (l ∷ ls) (suc k) within a b = defaults ls k (omega (arith, within)) a b

-- where each place has the first literal, it is the only one
all_first : (ls : List ℤ) → ((k : ℕ) → k < length ls → slice_index_or ls k (pos 0) ≡ slice_index_or ls 0 (pos 0)) → (l : ℤ) → IsIn (set.from_list ls) l → l ≡ slice_index_or ls 0 (pos 0)
all_first ls each l among =
    let at = Contains-from_IsIn ls l among in
    sym at.2 ∙ defaults ls at.0 at.1 l (pos 0) ∙ each at.0 at.1

pub returns-clause-none : goal.returns-clause-none
returns-clause-none c = λ l m first second.
    let each : (k : ℕ) → k < length c.args.lits.now → slice_index_or c.args.lits.now k (pos 0) ≡ slice_index_or c.args.lits.now 0 (pos 0) =
    λ k within. c.loop-n.invariant k (omega (arith, within, c.loop-n-test.false)) in
    all_first c.args.lits.now each l first ∙ sym (all_first c.args.lits.now each m second)
