use Rattle.lls_images.proofs.cells.is_tie_kept.Goals as goal

pub returns : goal.returns
returns c = cc
