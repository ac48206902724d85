use Rattle.verifactu.proofs.Appended.{copy_appended}
use Rattle.verifactu.proofs.laws.a_copy_is_append_only.Goals as goal

pub returns : goal.returns
returns c = copy_appended c.a_file_has_one_meaning.ensures.history
