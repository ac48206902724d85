-- What is said where a sender's answer is a fault, and where it is none; and what a sender did after its tills, said of values that
-- snapshots show.
use Rattle.std.proofs.Common.{◌≡◌, ◌≤◌, Bool, IsTrue, true, false, Result, Ok, Err, ap, subst, sym}
use Rattle.std.specs.Prelude.{OnErr, OnOk, is_err}
use Rattle.sender.specs.Draining.{Scene}
use Rattle.sender.specs.Lines.{SaysCalls}
use Rattle.sender.specs.Turning.{AgencyKind, AgencyState}
use Rattle.sender.specs.declared.answers.DrainFault.{DrainFault}
use Rattle.sender_session.specs.Session.{DrainsTo, IsUndelivered}
use Rattle.sender_beside.specs.Behind.{SendsBehind}

pub on_error : {P : Type 0} (answer : Result (Unit {0}) DrainFault) → P → OnErr answer P
on_error (Ok done) p = tt
on_error (Err fault) p = p

pub off_error : (P : Type 0) (answer : Result (Unit {0}) DrainFault) → is_err answer ≡ false → OnErr answer P
off_error P (Ok done) e = tt
off_error P (Err fault) e = absurd (let x = e in cc)

error_then : {P Q : Type 0} (answer : Result (Unit {0}) DrainFault) → (P → Q) → OnErr answer P → OnErr answer Q
error_then (Ok done) f h = tt
error_then (Err fault) f h = f h

-- the sender as the tills left it, and as the drain did, and what a snapshot shows of each
module _ {S : Type 0} (scene : S → Scene) (told : S → Result (Unit {0}) DrainFault) (kind : AgencyKind)
    (exact drains : Bool) (opened after : AgencyState) (sent rest : S) where
  abbrev Behind : S → S → Type 0
  Behind met left = SendsBehind kind exact drains opened after (scene met) (scene left) (told met) (told rest)

  pub behind : (IsTrue kind.tells → SaysCalls opened.ledger.messages (scene sent).agency_state.ledger.messages) →
      opened.faults ≤ (scene sent).agency_state.faults → (IsUndelivered (told sent) → ⊥) → OnErr (told sent) (rest ≡ sent) →
      (drains ≡ true → OnOk (told sent) (DrainsTo kind exact (scene sent) (scene rest) (told rest))) →
      (drains ≡ false → rest ≡ sent) → (scene rest).agency_state ≡ after → Behind sent rest
  behind says later never failed turns ends same = record {
    says = says;
    later = later;
    never = never;
    failed = error_then (told sent) (λ (e : rest ≡ sent). (ap told e, ap scene e)) failed;
    drains_to = turns;
    ends = λ none. let e : rest ≡ sent = ends none in (ap told e, ap scene e);
    agency_state = same;
  }

  pub shown_behind : (met left : S) → met ≡ sent → left ≡ rest →
      (IsTrue kind.tells → SaysCalls opened.ledger.messages (scene sent).agency_state.ledger.messages) →
      opened.faults ≤ (scene sent).agency_state.faults → (IsUndelivered (told sent) → ⊥) → OnErr (told sent) (rest ≡ sent) →
      (drains ≡ true → OnOk (told sent) (DrainsTo kind exact (scene sent) (scene rest) (told rest))) →
      (drains ≡ false → rest ≡ sent) → (scene rest).agency_state ≡ after → Behind met left
  shown_behind met left is_met is_left says later never failed turns ends same =
      subst (λ (x : S). Behind x left) (sym is_met)
      (subst (λ (y : S). Behind sent y) (sym is_left) (behind says later never failed turns ends same))
