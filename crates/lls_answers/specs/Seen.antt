-- For private contracts alone: what is seen of a subject's value, and what its type keeps.
use Rattle.std.specs.Prelude.{◌≡◌}
use Rattle.lls_lit.specs.Formula.{Cnf, IsUnsatisfiable}
use Rattle.lls_open.specs.Between.{AreEnds}
use Rattle.lls_answers.specs.declared.subject.About.{About}
use Rattle.lls_answers.specs.declared.subject.About.TheVariants as about
use Rattle.lls_answers.specs.Subject.{Subject, subject_formula, HasNone}
use Rattle.lls_answers.specs.Subject as subjects

abbrev pub seen : About → Cnf → Subject
seen (about.Problem asked) formula = subjects.Problem asked
seen (about.Rules asked) formula = subjects.Rules asked
seen about.Formula formula = subjects.Formula formula

-- rules that leave a question open
abbrev pub HasEnds : Subject → Type 0
HasEnds (subjects.Rules asked) = AreEnds asked.problem.rule asked.high
HasEnds subject = Unit {0}

-- the formula is the subject's, and where no assignment satisfies it there is nothing to find
pub record IsEncoded (subject : Subject) (formula : Cnf) : Type 0 where
  pub formula_is : formula ≡ subject_formula subject
  pub none : IsUnsatisfiable formula → HasNone subject
  pub ends : HasEnds subject
