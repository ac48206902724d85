use Rattle.verifactu.proofs.Promised.{damaged_not_own, foreign_not_own}
use Rattle.verifactu.proofs.laws.a_strange_file_is_not_own.Goals as goal

pub returns-clause-damaged : goal.returns-clause-damaged
returns-clause-damaged c = damaged_not_own c.a_file_has_one_meaning.ensures.not_begun c.a_file_has_one_meaning.ensures.sound

pub returns-clause-foreign : goal.returns-clause-foreign
returns-clause-foreign c = foreign_not_own c.a_file_has_one_meaning.ensures.history c.a_file_has_one_meaning.ensures.not_begun
