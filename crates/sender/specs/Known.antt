-- What is known of every shop and agency that agree.
use Rattle.once_world.specs.Laws.{RecordsKeepAgreement, RecordsKeepNextLines, SendingKeepsAgreement, DeliveriesKeepAgreement}
use Rattle.once_world.specs.Laws.{NotingKeepsAgreement}
use Rattle.once_world.specs.Laws.{FirstLinesAreNext, WaitingHaveNoHole, LookedLinesAreNext, DeliveriesOnlyAdd, DeliveredAreSeen}
use Rattle.once_world.specs.Laws.{SeenStays}
use Rattle.once_world.specs.Laws.{CameQuietly, CameBesideOwn}

pub record Known : Type 0 where
  pub records : RecordsKeepAgreement
  pub next_lines : RecordsKeepNextLines
  pub sending : SendingKeepsAgreement
  pub deliveries : DeliveriesKeepAgreement
  pub noting : NotingKeepsAgreement
  pub first : FirstLinesAreNext
  pub whole : WaitingHaveNoHole
  pub looked : LookedLinesAreNext
  pub adds : DeliveriesOnlyAdd
  pub delivered_seen : DeliveredAreSeen
  pub stays : SeenStays
  pub quiet : CameQuietly
  pub own : CameBesideOwn
