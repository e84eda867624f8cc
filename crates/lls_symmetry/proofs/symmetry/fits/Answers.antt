use Rattle.std.proofs.Common.{◌≡◌, nat_eq, ap, sym, inl, inr}
use Rattle.lls_symmetry.specs.declared.symmetry.Symmetry.{Symmetry}
use Rattle.lls_symmetry.specs.Symmetry.{fits}
use Rattle.lls_symmetry.proofs.Grids.{KeepsGrid-by_test}
use Rattle.lls_symmetry.proofs.symmetry.fits.Goals as goal
use Rattle.lls_symmetry.proofs.symmetry.fits.Goals.{In-C4}

-- the test of a symmetry that needs a square is that of the sizes
by_sizes : (c : In-C4) → nat_eq c.args.height c.args.width ≡ fits c.args.symmetry c.args.height c.args.width
by_sizes c =
    let test = λ (symmetry : Symmetry). fits symmetry c.args.height c.args.width in
    elim c.in-C4.is [
      | inl is ↦ sym (ap test is)
      | inr (inl is) ↦ sym (ap test is)
      | inr (inr (inl is)) ↦ sym (ap test is)
      | inr (inr (inr (inl is))) ↦ sym (ap test is)
      | inr (inr (inr (inr is))) ↦ sym (ap test is)
    ]

pub returns-in-C4-clause-grid : goal.returns-in-C4-clause-grid
returns-in-C4-clause-grid c = KeepsGrid-by_test c.args.symmetry c.args.height c.args.width _ (by_sizes c)
