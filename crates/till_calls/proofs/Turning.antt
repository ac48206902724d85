-- Records that are stamped in turn, and one more.
use Rattle.std.proofs.Common.{◌≡◌, ℕ, ◌+◌, ◌≤◌, List, [], ◌∷◌, ◌++◌, append_assoc, sym, ◌∙◌, ap, subst, refl, arith, max}
use Rattle.std.proofs.Common.{Option, Some, None}
use Rattle.std.specs.Option.{option_map_or}
use Rattle.std.proofs.lemmas.List.{append-nil}
use Rattle.ports.specs.Readings.{IsTold}
use Rattle.record_fields.specs.declared.versions.Version.{Version}
use Rattle.record_fields.specs.Records.{moment_of}
use Rattle.record_codec.specs.declared.entry.Entry.{Entry}
use Rattle.record_codec.specs.declared.entry.Entry.TheVariants.{Rec, Notes}
use Rattle.shop_core.specs.Answer.Making.{made_sealed, record_at}
use Rattle.shop_core.specs.Answer.Plans.{answer, kept}
use Rattle.shop_core.specs.Answer.Refusals.{refusal}
use Rattle.shop_core.specs.Answer.Replies.{Tells}
use Rattle.shop_core.specs.Answer.Requests.{Asked}
use Rattle.shop_core.specs.History.{last_seconds}
use Rattle.shop_core.specs.declared.answer.Planned.{Planned}
use Rattle.shop_core.specs.declared.answer.Planned.TheVariants.{Again, Refused, Made}
use Rattle.shop_core.specs.declared.answer.receipts.Receipt.{Receipt}
use Rattle.shop_core.specs.declared.answer.refusals.Refusal.{Refusal}
use Rattle.shop_core.specs.declared.answer.Reply.{Reply}
use Rattle.shop_core.specs.declared.answer.requests.Request.{Request}
use Rattle.shop_core.specs.declared.answer.requests.Request.TheVariants.{Sale, Fix, Cancel}
use Rattle.till_calls.specs.InTurn.{StampedBy, ReadInTurn}

-- fewer may have been read before the first
earlier : (coming : ℕ → Option ℕ) (low first next : ℕ) (before es : List Entry) → low ≤ first →
    ReadInTurn coming first next before es → ReadInTurn coming low next before es
earlier coming low first next before [] le h = omega (arith, le, h)
earlier coming low first next before (Rec till serial sealed ∷ es) le h =
    (h.0, (let a = h.1 in omega (arith, le, a)), h.2, h.3)
earlier coming low first next before (Notes from lines ∷ es) le h =
    earlier coming low first next (before ++ Notes from lines ∷ []) es le h

-- entries that are stamped in turn, and those behind them
pub in_turn_more : (coming : ℕ → Option ℕ) (first middle next : ℕ) (before es more : List Entry) →
    ReadInTurn coming first middle before es → ReadInTurn coming middle next (before ++ es) more →
    ReadInTurn coming first next before (es ++ more)
in_turn_more coming first middle next before [] more h m = earlier coming first middle next before more h
    (subst (λ (l : List Entry). ReadInTurn coming middle next l more) (append-nil before) m)
in_turn_more coming first middle next before (Rec till serial sealed ∷ es) more h m = (
  h.0,
  h.1,
  h.2,
  in_turn_more coming (h.0 + 1) middle next (before ++ Rec till serial sealed ∷ []) es more h.3
      (subst (λ (l : List Entry). ReadInTurn coming middle next l more)
      (sym (append_assoc before (Rec till serial sealed ∷ []) es)) m),
)
in_turn_more coming first middle next before (Notes from lines ∷ es) more h m =
    in_turn_more coming first middle next (before ++ Notes from lines ∷ []) es more h
    (subst (λ (l : List Entry). ReadInTurn coming middle next l more)
    (sym (append_assoc before (Notes from lines ∷ []) es)) m)

seconds_back : (issuer : List ℕ) (entries : List Entry) (request : Request) (at : ℕ) →
    (moment_of (record_at issuer entries request at)).seconds ≡ at
seconds_back issuer entries (Sale series draft) at = refl
seconds_back issuer entries (Fix num draft) at = refl
seconds_back issuer entries (Cancel num) at = refl

made_only : (k : Option Receipt) (f : Option Refusal) (e entry : Entry) →
    option_map_or Again k (option_map_or Refused f (Made e)) ≡ Made entry → e ≡ entry
made_only (Some receipt) f e entry h = absurd cc
made_only None (Some why) e entry h = absurd cc
made_only None None e entry h = cc

-- what an answer adds was stamped by the reading that it was given
module _ (coming : ℕ → Option ℕ) (number : ℕ) (version : Version) (issuer : List ℕ) (entries : List Entry) (ask : Asked) (seconds : ℕ)
    (told : IsTold (coming number) seconds) where
  none_in_turn : (gained : List Entry) → gained ≡ [] → ReadInTurn coming number (number + 1) entries gained
  none_in_turn gained e = subst (λ (es : List Entry). ReadInTurn coming number (number + 1) entries es) (sym e) (omega arith)

  made_in_turn : ReadInTurn coming number (number + 1) entries
      (Rec ask.till ask.serial (made_sealed issuer entries ask.request seconds) ∷ [])
  made_in_turn = (
    number,
    omega arith,
    record {
      seconds = seconds;
      told = told;
      moment = seconds_back issuer entries ask.request (max seconds (last_seconds entries));
    },
    omega arith,
  )

  planned_in_turn : (planned : Planned) (reply : Reply) (gained : List Entry) →
      answer version issuer entries ask seconds ≡ planned → Tells entries planned reply gained →
      ReadInTurn coming number (number + 1) entries gained
  planned_in_turn (Again receipt) reply gained e t = none_in_turn gained t.1
  planned_in_turn (Refused why) reply gained e t = none_in_turn gained t.1
  planned_in_turn (Made entry) reply gained e t =
      let is = made_only (kept entries ask.till ask.serial) (refusal version issuer entries ask seconds)
      (Rec ask.till ask.serial (made_sealed issuer entries ask.request seconds)) entry e in
      subst (λ (es : List Entry). ReadInTurn coming number (number + 1) entries es)
      (ap (λ (x : Entry). x ∷ []) is ∙ sym t.1) made_in_turn

pub gained_in_turn : (coming : ℕ → Option ℕ) (number : ℕ) (version : Version) (issuer : List ℕ) (entries : List Entry) (ask : Asked)
    (seconds : ℕ) (reply : Reply) (gained : List Entry) → IsTold (coming number) seconds →
    Tells entries (answer version issuer entries ask seconds) reply gained →
    ReadInTurn coming number (number + 1) entries gained
gained_in_turn coming number version issuer entries ask seconds reply gained told t =
    planned_in_turn coming number version issuer entries ask seconds told (answer version issuer entries ask seconds) reply
    gained refl t
