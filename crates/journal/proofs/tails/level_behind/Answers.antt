use Rattle.std.proofs.Common.{refl}
use Rattle.journal.proofs.Behind.{same_gate}
use Rattle.journal.proofs.tails.level_behind.Goals as goal

pub returns-in_default-clause-first : goal.returns-in_default-clause-first
returns-in_default-clause-first g c = λ tells. same_gate c.args.gate _ _ refl (c.requires.first tells).nothing_pending

pub returns-in_default-clause-second : goal.returns-in_default-clause-second
returns-in_default-clause-second g c = λ tells. same_gate c.args.gate _ _ c.len.ensures.same
    (c.requires.second tells).nothing_pending

pub returns-in_default-lengthen-clause-second : goal.returns-in_default-lengthen-clause-second
returns-in_default-lengthen-clause-second g c = λ tells. same_gate c.args.gate _ _ c.len.ensures.same
    (c.requires.second tells).nothing_pending
