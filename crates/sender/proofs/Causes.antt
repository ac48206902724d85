-- The agency's count of faults over a turn.
use Rattle.std.proofs.Common.{inl, inr, ℕ, ◌≤◌, ap, subst, arith, Result, Ok, Err}
use Rattle.std.specs.Prelude.{IsErrOf}
use Rattle.ports.specs.Causes.{Rose}
use Rattle.shop_core.specs.declared.waiting.Waiting.{Waiting}
use Rattle.agency_port.specs.declared.answers.AgencyFault.TheVariants as agency
use Rattle.once_world.specs.Outbox.{Sight}
use Rattle.sender.specs.declared.answers.Turn.{Turn}
use Rattle.sender.specs.declared.answers.SendFault.{SendFault}
use Rattle.sender.specs.declared.answers.SendFault.TheVariants.{LinkFault}
use Rattle.sender.specs.Sending.{Sending}
use Rattle.sender.specs.Turning.{Deed, Nothing, Asked, Handed, AgencyKind, AgencyState, Dealt, Ends, Turned, turn_call}

later : (kind : AgencyKind) (agency_state agency_state_then : AgencyState) (shown : Waiting) (deed : Deed) → Dealt kind agency_state agency_state_then shown deed →
    agency_state.faults ≤ agency_state_then.faults
later kind agency_state agency_state_then shown Nothing dealt = let e = ap (λ (d : AgencyState). d.faults) dealt in omega arith
later kind agency_state agency_state_then shown (Asked answer) dealt = dealt.0.later
later kind agency_state agency_state_then shown (Handed answer) dealt = dealt.0.later

pub turn_later : (kind : AgencyKind) (agency_state agency_state_then : AgencyState) (before after : Sight) (old new : Sending) (now : ℕ)
    (result : Result Turn SendFault) → Turned (turn_call kind agency_state agency_state_then before after old new now result) → agency_state.faults ≤ agency_state_then.faults
turn_later kind agency_state agency_state_then before after old new now result t = later kind agency_state agency_state_then t.shown t.deals.deed t.deals.dealt

link : (kind : AgencyKind) (agency_state agency_state_then : AgencyState) (look after : Sight) (shown : Waiting) (old new : Sending) (now : ℕ) (deed : Deed) →
    Dealt kind agency_state agency_state_then shown deed → Ends old now shown look after deed (Err LinkFault) new →
    Rose agency_state.faults agency_state_then.faults
link kind agency_state agency_state_then look after shown old new now Nothing dealt ends = absurd ends.0
link kind agency_state agency_state_then look after shown old new now (Asked (Ok seen)) dealt ends = absurd ends.2.3
link kind agency_state agency_state_then look after shown old new now (Asked (Err agency.Failed)) dealt ends = dealt.0.failed
link kind agency_state agency_state_then look after shown old new now (Asked (Err agency.NoMemory)) dealt ends = (let e = ends.2.0 in absurd cc)
link kind agency_state agency_state_then look after shown old new now (Handed (Ok reply)) dealt ends = elim ends.3 [
  | inl r ↦ absurd r.ends
  | inr r ↦ dealt.1 r.names_not
]
link kind agency_state agency_state_then look after shown old new now (Handed (Err agency.Failed)) dealt ends = dealt.0.failed
link kind agency_state agency_state_then look after shown old new now (Handed (Err agency.NoMemory)) dealt ends = (let e = ends.3.0 in absurd cc)

pub turn_link : (kind : AgencyKind) (agency_state agency_state_then : AgencyState) (before after : Sight) (old new : Sending) (now : ℕ)
    (result : Result Turn SendFault) → Turned (turn_call kind agency_state agency_state_then before after old new now result) → IsErrOf result LinkFault →
    Rose agency_state.faults agency_state_then.faults
turn_link kind agency_state agency_state_then before after old new now result t is =
    link kind agency_state agency_state_then t.look after t.shown old new now t.deals.deed t.deals.dealt
    (subst (λ (r : Result Turn SendFault). Ends old now t.shown t.look after t.deals.deed r new) is t.deals.ends)
