use Rattle.lls_base.proofs.NamedBytes.{files_of-appended, files_of-kept, IsFirst-written}
use Rattle.lls_base.proofs.files.append_at.Goals as goal

pub returns-clause-appended : goal.returns-clause-appended
returns-clause-appended c = files_of-appended _ _ _ c.index_mut-file.ensures.value _ _ _ _ c.requires c.extend_from_slice.ensures.items

pub returns-clause-err : goal.returns-clause-err
returns-clause-err c = files_of-kept _ _ _ c.index_mut-file.ensures.value _ _ _ _ c.requires c.extend_from_slice.ensures.items

pub returns-clause-first : goal.returns-clause-first
returns-clause-first c = IsFirst-written _ _ _ c.index_mut-file.ensures.value _ _ c.requires
