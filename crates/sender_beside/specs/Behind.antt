-- What a sender does once the tills have ended.
use Rattle.std.specs.Prelude.{◌≡◌, ◌≤◌, ℕ, Bool, true, false, IsTrue, OnErr, OnOk, Result}
use Rattle.chain_disk.specs.declared.disk.Disk as disk
use Rattle.ports.specs.declared.Clock as clock
use Rattle.sender.specs.Draining.{Scene, scene_of}
use Rattle.sender.specs.Lines.{SaysCalls}
use Rattle.sender.specs.Turning.{AgencyKind, AgencyState}
use Rattle.sender.specs.declared.answers.DrainFault.{DrainFault}
use Rattle.sender_session.specs.Session.{DrainsTo, IsUndelivered}
use Rattle.till_calls.specs.Mark.{sight_by}
use Rattle.till_calls.specs.Shop.{seat_knows}
use Rattle.sender_beside.specs.declared.sending.Sent.{Sent}

-- all that a sender has, by what its agency's type and its sleeper's tell of them
abbrev pub scene_in : {D C G Z : Type 0} {d : disk.Ghosts D} {c : clock.Ghosts C} → (G → AgencyState) → (Z → ℕ) → Sent D C G Z d c →
    Scene
scene_in state moment sent = scene_of (state sent.agency) (sight_by (seat_knows sent.seat)) sent.sender (moment sent.sleeper)

-- From an opened session to the end, by the scene at the tills' end. The turns while the tills ran led there and ended so; they gave
-- up on no link. A fault that had ended them is the answer, and nothing more was done. Else, where a drain follows, one drain led
-- from there to the end, so that the faults of the link met while the tills ran don't count towards its eight, and nothing
-- comes after the eighth. Where none follows nothing more was done: not a turn, not a message, not a rest.
pub record SendsBehind (kind : AgencyKind) (exact drains : Bool) (opened after : AgencyState) (met left : Scene)
    (beside answer : Result (Unit {0}) DrainFault) : Type 0 where
  pub says : IsTrue kind.tells → SaysCalls opened.ledger.messages met.agency_state.ledger.messages
  pub later : opened.faults ≤ met.agency_state.faults
  --= The turns beside the tills gave up on no fault of the link.
  --= No body: it is of `sender_session/send_until.never`
  pub never : IsUndelivered beside → ⊥
  --= A fault that ended the turns beside the tills is the answer, and nothing more was done.
  --= No body: it is of `sender_beside/drain_rest.failed`
  pub failed : OnErr beside ((answer ≡ beside) × (left ≡ met))
  --= Unless a fault had ended the sender, one drain led from the tills' end to the end, and nothing comes after its
  --= eighth fault of the link.
  pub drains_to : drains ≡ true → OnOk beside (DrainsTo kind exact met left answer)
  --= Where no drain follows, not a turn, a message or a rest was made after the tills.
  pub ends : drains ≡ false → (answer ≡ beside) × (left ≡ met)
  pub agency_state : left.agency_state ≡ after

-- the same, by some scene at the tills' end, with a sleeper that tells its moment or doesn't
pub record DrainsBehind (kind : AgencyKind) (drains : Bool) (opened after : AgencyState) (answer : Result (Unit {0}) DrainFault) :
    Type 0 where
  pub exact : Bool
  pub met : Scene
  pub left : Scene
  pub beside : Result (Unit {0}) DrainFault
  pub sends : SendsBehind kind exact drains opened after met left beside answer
