-- The promise's part on the tills: which commands they asked, and that each one that was answered as taken is a record, once.
use Rattle.std.specs.Prelude.{◌≡◌, ◌⊎◌, ℕ, List, [], ◌∷◌, ◌++◌, drop, length, map, false, Ok, Err}
use Rattle.std.specs.List.{AllByRecursion}
use Rattle.ports.specs.Sources.{Sources}
use Rattle.record_fields.specs.declared.records.Sealed.{Sealed}
use Rattle.record_codec.specs.declared.entry.Entry.{Entry}
use Rattle.record_codec.specs.declared.entry.Entry.TheVariants.{Rec}
use Rattle.shop_core.specs.Answer.Requests.{Asked}
use Rattle.shop_core.specs.History.{receipt}
use Rattle.shop_core.specs.Prefix.{IsPrefix}
use Rattle.shop_core.specs.declared.answer.Reply.TheVariants.{Again, Refused, Taken}
use Rattle.script.specs.declared.forms.Form.TheVariants.{Full}
use Rattle.script.specs.declared.scripts.Script.{Script}
use Rattle.chain_store.specs.Replies.{Replies}
use Rattle.issuers.specs.declared.parts.Part.{Part}
use Rattle.dialogue.specs.Protocol.{Dialogue, Transcript}
use Rattle.dialogue_loop.specs.Speech.{IsRead}
use Rattle.dialogue_loop.specs.declared.speaking.SpeechEnd.{SpeechEnd}
use Rattle.sender_beside.specs.Tills.{asks_of, has_asks, own_of, tills_of}
use Rattle.command_ends.specs.Scripts.{IsGoodScript}
use Rattle.many_issuers.specs.Scripts.{AreGoodParts}

-- These records are those of the commands that were answered as taken, each once and in this order: each has its command's till
-- and serial, and the receipt that was told. Each command has one answer.
abbrev pub AreAccepted : List Asked → Replies → List Entry → Type 0
AreAccepted [] [] gained = gained ≡ []
AreAccepted (ask ∷ asks) (Ok (Taken given) ∷ replies) gained = (sealed : Sealed) × (place : ℕ) × (rest : List Entry) ×
    (gained ≡ Rec ask.till ask.serial sealed ∷ rest) × (given ≡ receipt place sealed) × AreAccepted asks replies rest
AreAccepted (ask ∷ asks) (Ok (Again given) ∷ replies) gained = AreAccepted asks replies gained
AreAccepted (ask ∷ asks) (Ok (Refused why) ∷ replies) gained = AreAccepted asks replies gained
AreAccepted (ask ∷ asks) (Err fault ∷ replies) gained = AreAccepted asks replies gained
AreAccepted _ _ gained = ⊥

-- the commands among lines that were read of the source, each after those before it
pub record AreAskedByLine (s : Sources) (asks : List Asked) : Type 0 where
  pub said : Transcript
  pub how : SpeechEnd
  pub dialogue : Dialogue said
  pub asks_are : asks ≡ said.asks
  pub read : IsRead how s.left s.left_after said.lines

-- the commands of an issuer's part of the script for several that the source gave, or the first of them
pub record AreAskedOfPart (s : Sources) (asks : List Asked) : Type 0 where
  pub issuers : List (List ℕ)
  pub parts : List Part
  pub good : AreGoodParts issuers s parts
  pub before : List Part
  pub part : Part
  pub after : List Part
  pub among : parts ≡ before ++ part ∷ after
  pub front : IsPrefix asks part.script.asks

-- the commands that the tills asked: none, those of the script that the source gave, those among its lines, or those of a part
abbrev pub AreAskedIn : Sources → List Asked → Type 0
AreAskedIn s asks = (asks ≡ []) ⊎ ((script : Script) × IsGoodScript Full s script × (asks ≡ script.asks)) ⊎ AreAskedByLine s asks
    ⊎ AreAskedOfPart s asks

-- Each till. The records that the history gained are, till by till, those of its commands that were answered as taken, each
-- once, in its order; no other till gained one.
pub record TillsGain (s : Sources) (start end : List Entry) : Type 0 where
  pub asks : List Asked
  --= What the tills asked is what the source gave: the script's commands, the commands among the lines, or those of an
  --= issuer's part.
  --= No body: it is of `read_source` and of `answer_lines`: `dialogue_loop/Spoken.dialogue`
  pub asked : AreAskedIn s asks
  pub told : List (ℕ × Replies)
  pub tills : map (λ (t : ℕ × Replies). t.0) told ≡ tills_of asks
  --= Each till gained the records of its commands that were answered as taken, each once, in its order, under its
  --= serial, with the receipt that it was told.
  --= No body: an answer is made by `shop_core/plan.answer`, and each till's records are told apart by
  --= `till_calls/Shop::ask.asks`
  pub own : AllByRecursion (λ (t : ℕ × Replies). AreAccepted (asks_of t.0 asks) t.1
      (own_of t.0 (drop (length start) end))) told
  --= No till gained a record that asked nothing.
  --= No body: as for each till's own records
  pub others : (till : ℕ) → has_asks asks till ≡ false → own_of till (drop (length start) end) ≡ []
