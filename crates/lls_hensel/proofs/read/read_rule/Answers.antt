use Rattle.lls_hensel.proofs.EntriesIsotropy.{IsIsotropic-read}
use Rattle.lls_hensel.proofs.Sources.{reads_texts_alone}
use Rattle.lls_hensel.proofs.Written.{reads_each_text}
use Rattle.lls_hensel.proofs.read.read_rule.Goals as goal

pub returns-in-empty-clause-texts : goal.returns-in-empty-clause-texts
returns-in-empty-clause-texts c = reads_each_text

pub returns-in-empty-clause-texts_alone : goal.returns-in-empty-clause-texts_alone
returns-in-empty-clause-texts_alone c = reads_texts_alone

pub returns-in-66-clause-texts : goal.returns-in-66-clause-texts
returns-in-66-clause-texts c = reads_each_text

pub returns-in-66-clause-texts_alone : goal.returns-in-66-clause-texts_alone
returns-in-66-clause-texts_alone c = reads_texts_alone

pub returns-in-66-clause-isotropic : goal.returns-in-66-clause-isotropic
returns-in-66-clause-isotropic c = IsIsotropic-read c.read_birth_first.result _ c.read_birth_first.ensures

pub returns-in_default-clause-texts : goal.returns-in_default-clause-texts
returns-in_default-clause-texts c = reads_each_text

pub returns-in_default-clause-texts_alone : goal.returns-in_default-clause-texts_alone
returns-in_default-clause-texts_alone c = reads_texts_alone

pub returns-in_default-clause-isotropic : goal.returns-in_default-clause-isotropic
returns-in_default-clause-isotropic c = IsIsotropic-read c.read_survival_first.result _ c.read_survival_first.ensures
