use Rattle.recovery.proofs.OneCauses.{no_cause, one_cause}
use Rattle.recovery.proofs.moving.a_migration_has_one_cause.Goals as goal

pub returns-clause-one : goal.returns-clause-one
returns-clause-one c =
    let m = c.a_file_has_one_meaning.ensures in
    one_cause (record { history = m.history; damage = m.damage; sound = m.sound; not_begun = m.not_begun })

pub returns-clause-none : goal.returns-clause-none
returns-clause-none c =
    let m = c.a_file_has_one_meaning.ensures in
    no_cause (record { history = m.history; damage = m.damage; sound = m.sound; not_begun = m.not_begun })
