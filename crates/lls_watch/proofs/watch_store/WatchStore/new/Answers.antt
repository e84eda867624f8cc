use Rattle.std.proofs.Common.{◌≡◌, ℕ, ◌*◌, List, [], ◌∷◌, ◌++◌, Some, None, refl, ap, ◌∙◌, arith, length}
use Rattle.std.proofs.lemmas.List.{length-replicate}
use Rattle.std.specs.Prelude.{slice_get}
use Rattle.lls_arena.specs.Arena.{HeadState}
use Rattle.lls_store.specs.Trail.{Entry}
use Rattle.lls_watch.proofs.Changes.{mapped_some}
use Rattle.lls_watch.proofs.watch_store.WatchStore.new.Goals as goal

pub returns-clause-tracks : goal.returns-clause-tracks
returns-clause-tracks c =
    let it = c.in_ok-new.ensures in
    let no_heads : c.in_ok-new.field-0.arena.heads ≡ [] = ap (λ a. a.heads) it.arena in
    record {
      vars = refl;
      propagating = record {
        lists = λ _. [];
        threaded = it.threaded;
        listed = λ k head w found. absurd (none_there c.in_ok-new.field-0.arena.heads no_heads k head found);
        passed = λ k head w place entry found. absurd (none_there c.in_ok-new.field-0.arena.heads no_heads k head found);
        fits = record { lists = ap length it.first ∙ length-replicate (2 * c.args.vars) None; within = λ k lits found. let at = mapped_some (λ (h : HeadState). h.lits) c.in_ok-new.field-0.arena.heads k lits found in absurd (none_there c.in_ok-new.field-0.arena.heads no_heads k at.0 at.1.0) };
        sound = λ before after e reason there. absurd (nothing before e after there);
      };
      reach = omega arith;
      for_good = λ k d below. absurd (omega (arith, below));
    }
  where
    none_there : (heads : List HeadState) → heads ≡ [] → (k : ℕ) (head : HeadState) → slice_get heads k ≡ Some head → ⊥
    none_there [] none k head found = absurd cc
    none_there (h ∷ hs) none k head found = absurd cc

    nothing : (before : List Entry) (e : Entry) (after : List Entry) → [] ≡ before ++ e ∷ after → ⊥
    nothing [] e after there = absurd cc
    nothing (x ∷ xs) e after there = absurd cc
