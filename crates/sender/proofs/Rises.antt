-- The agency's count of faults over a drain.
use Rattle.std.proofs.Common.{ℕ, ◌+◌, ◌-◌, ◌^◌, ◌<◌, ◌≤◌, List, refl, subst, inl, inr, arith, Bool, Result, Ok, Err}
use Rattle.std.specs.Prelude.{IsErrOf}
use Rattle.agency_port.specs.declared.turns.Told.{Told}
use Rattle.sender.specs.declared.answers.Turn.{Turn}
use Rattle.sender.specs.declared.answers.SendFault.{SendFault}
use Rattle.sender.specs.declared.answers.SendFault.TheVariants.{LinkFault, Contradiction, Store, NoMemory}
use Rattle.sender.specs.declared.answers.DrainFault.{DrainFault}
use Rattle.sender.specs.declared.answers.DrainFault.TheVariants as drain
use Rattle.sender.specs.declared.draining.TheConstants.{MAX_LINK_FAULTS}
use Rattle.sender.specs.Turning.{AgencyKind}
use Rattle.sender.specs.Draining.{Scene, Turns, none, more, IsTurn, Drained, EndsWith, links_with}
use Rattle.sender.proofs.Causes.{turn_later, turn_link}

-- one turn
rises : (kind : AgencyKind) (exact : Bool) (mid then : Scene) (answer : Result Turn SendFault) (links : ℕ) → IsTurn kind exact mid then
    answer → then.agency_state.faults < 2 ^ 64 - 1 → links_with links answer + mid.agency_state.faults ≤ links + then.agency_state.faults
rises kind exact mid then (Ok turn) links t below = let l = turn_later kind mid.agency_state then.agency_state mid.sight then.sight mid.sending
    then.sending t.now (Ok turn) t.turned in omega arith
rises kind exact mid then (Err LinkFault) links t below = let r = turn_link kind mid.agency_state then.agency_state mid.sight then.sight
    mid.sending then.sending t.now (Err LinkFault) t.turned refl below in omega arith
rises kind exact mid then (Err (Contradiction evidence)) links t below = let l = turn_later kind mid.agency_state then.agency_state mid.sight
    then.sight mid.sending then.sending t.now (Err (Contradiction evidence)) t.turned in omega arith
rises kind exact mid then (Err (Store fault)) links t below = let l = turn_later kind mid.agency_state then.agency_state mid.sight then.sight
    mid.sending then.sending t.now (Err (Store fault)) t.turned in omega arith
rises kind exact mid then (Err NoMemory) links t below = let l = turn_later kind mid.agency_state then.agency_state mid.sight then.sight
    mid.sending then.sending t.now (Err NoMemory) t.turned in omega arith

turns_rise : (kind : AgencyKind) (exact : Bool) (begin : Scene) (answers : List (Result Turn SendFault)) (links : ℕ) (scene : Scene) →
    Turns kind exact begin answers links scene → scene.agency_state.faults < 2 ^ 64 - 1 → links + begin.agency_state.faults ≤ scene.agency_state.faults
turns_rise kind exact begin answers links scene none below = omega arith
turns_rise kind exact begin answers links scene (more before_answers before_links mid answer then t turn on few) below =
    let l = turn_later kind mid.agency_state then.agency_state mid.sight then.sight mid.sending then.sending turn.now answer turn.turned in
    let a = turns_rise kind exact begin before_answers before_links mid t (omega arith) in
    let b = rises kind exact mid then answer before_links turn below in
    omega arith

-- eight link faults are eight of the agency's
pub undelivered_rises : (kind : AgencyKind) (exact : Bool) (begin then : Scene) (old new : List Told)
    (result : Result (Unit {0}) DrainFault) → Drained kind exact begin then old new result →
    (noted_count records_count : ℕ) → IsErrOf result (drain.Undelivered noted_count records_count) → then.agency_state.faults < 2 ^ 64 - 1
    → begin.agency_state.faults + MAX_LINK_FAULTS ≤ then.agency_state.faults
undelivered_rises kind exact begin then old new result d noted_count records_count is below = elim d.ends [
  | inl p ↦ (let e = subst (λ (r : Result (Unit {0}) DrainFault). EndsWith d.links then.sight d.answer r) is p.1 in
      let l = turn_later kind d.scene.agency_state then.agency_state d.scene.sight then.sight d.scene.sending then.sending d.turn.now d.answer
      d.turn.turned in
      let r = turn_link kind d.scene.agency_state then.agency_state d.scene.sight then.sight d.scene.sending then.sending d.turn.now d.answer
      d.turn.turned e.0 below in
      let a = turns_rise kind exact begin d.answers d.links d.scene d.made (omega arith) in
      let eight = e.1 in
      omega arith)
  | inr p ↦ (let a = p.0 in let b = is in absurd cc)
]
