use Rattle.lls_answers.proofs.Makings.{two_generations}
use Rattle.lls_answers.proofs.making.make_file.Goals as goal

pub returns-clause-two : goal.returns-clause-two
returns-clause-two c =
    two_generations c.args.seed c.args.size c.in_ok-made.made c.in_ok-made.ensures.value c.in_ok-made.ensures.solution
