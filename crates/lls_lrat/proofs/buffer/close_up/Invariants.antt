use Rattle.std.proofs.Common.{◌≡◌, ◌≤◌, length, get_or, take, drop, ◌∷◌}
use Rattle.std.specs.List.{zip}
use Rattle.lls_cnf.specs.Pieces.{pieces, AreEnds}
use Rattle.lls_lrat.specs.Placed.{place_of}
use Rattle.lls_lrat.specs.Stored.{emptied}
use Rattle.lls_lrat.proofs.buffer.close_up.Given as goal

abbrev pub invariant-loop-place : goal.invariant-loop-place
invariant-loop-place l =
    let ends = l.initial.ends.items in
    let lits = l.initial.lits.items in
    record {
      size : length l.lits.items ≡ length lits;
      many : length l.ends.items ≡ length ends;
      down : l.to ≤ l.from;
      from : l.from ≡ get_or (0 ∷ ends) l.place 0;
      rest : drop l.from l.lits.items ≡ drop l.from lits;
      later : drop l.place l.ends.items ≡ drop l.place ends;
      are_ends : AreEnds 0 (take l.place l.ends.items) l.to;
      done : pieces 0 (take l.place l.ends.items) (take l.to l.lits.items) ≡ take l.place (emptied (place_of l.places) 0 (zip l.ids (pieces 0 ends lits)));
    }
