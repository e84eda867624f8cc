use Rattle.lls_order.proofs.luby_numbers.+luby.Given as goal

abbrev pub decreases-luby : goal.decreases-luby
decreases-luby l = l.n
