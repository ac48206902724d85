-- What a run of one thread notes: nothing.
use Rattle.std.proofs.Common.{◌≡◌, ℕ, List, [], ◌++◌, append-nil, refl, ap, ◌∙◌, Option, Some, None, Result, Ok, Err}
use Rattle.std.specs.Option.{option_map_or}
use Rattle.record_fields.specs.declared.versions.Version.{Version}
use Rattle.record_fields.specs.declared.lines.Line.{Line}
use Rattle.record_fields.specs.declared.records.Sealed.{Sealed}
use Rattle.journal.specs.declared.faults.StoreFault.{StoreFault}
use Rattle.record_codec.specs.declared.entry.Entry.{Entry}
use Rattle.record_codec.specs.declared.entry.Entry.TheVariants.{Rec}
use Rattle.shop_core.specs.History.{noted}
use Rattle.shop_core.specs.Answer.Making.{made_sealed}
use Rattle.shop_core.specs.Answer.Plans.{kept}
use Rattle.shop_core.specs.Answer.Refusals.{refusal}
use Rattle.shop_core.specs.Answer.Replies.{ChainRun, IsReply, Tells}
use Rattle.shop_core.specs.Answer.Replies.ChainRun.{begun, replied}
use Rattle.shop_core.specs.Answer.Requests.{Asked}
use Rattle.shop_core.specs.declared.answer.Planned.TheVariants.{Again, Refused, Made}
use Rattle.shop_core.specs.declared.answer.refusals.Refusal.{Refusal}
use Rattle.shop_core.specs.declared.answer.Reply.{Reply}
use Rattle.shop_core.specs.declared.answer.receipts.Receipt.{Receipt}
use Rattle.chain_store.specs.Replies.{Replies}
use Rattle.shop_drain.proofs.Saying.{noted_both}

-- an answer makes no notes
no_lines : (entries : List Entry) (ask : Asked) (sealed : Sealed) (k : Option Receipt) (r : Option Refusal) (told : Reply)
    (gained : List Entry) →
    Tells entries (option_map_or Again k (option_map_or Refused r (Made (Rec ask.till ask.serial sealed)))) told gained →
    noted gained ≡ []
no_lines entries ask sealed (Some old) r told gained h = ap (λ (es : List Entry). noted es) h.1
no_lines entries ask sealed None (Some why) told gained h = ap (λ (es : List Entry). noted es) h.1
no_lines entries ask sealed None None told gained h = ap (λ (es : List Entry). noted es) h.1

none_noted : (version : Version) (issuer : List ℕ) (entries : List Entry) (ask : Asked) (seconds : ℕ) (told : Result Reply StoreFault)
    (gained : List Entry) → IsReply version issuer entries ask seconds told gained → noted gained ≡ []
none_noted version issuer entries ask seconds (Ok told) gained h =
    no_lines entries ask (made_sealed issuer entries ask.request seconds) (kept entries ask.till ask.serial)
    (refusal version issuer entries ask seconds) told gained h
none_noted version issuer entries ask seconds (Err why) gained h = ap (λ (es : List Entry). noted es) h

module _ (version : Version) (issuer : List ℕ) (R : Replies → ℕ → Type 0) (start : List Entry) where
  -- nor does a run of one thread
  pub notes_nothing : {asks : List Asked} {replies : Replies} {end : List Entry} →
      ChainRun version issuer R start asks replies end → noted end ≡ noted start
  notes_nothing begun = refl
  notes_nothing (replied asks replies entries ask told gained run seconds reading h) =
      noted_both entries gained
      ∙ ap (λ (l : List Line). noted entries ++ l) (none_noted version issuer entries ask seconds told gained h)
      ∙ append-nil (noted entries) ∙ notes_nothing run
