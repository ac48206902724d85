-- How `generate` ends.
use Rattle.std.specs.Prelude.{◌≡◌, ℕ, List, [], codes, Some}
use Rattle.record_fields.specs.declared.versions.Version.TheVariants.{Two}
use Rattle.ports.specs.Counting.{counting}
use Rattle.ports.specs.Sinks.{Sinks, WroteNothing}
use Rattle.record_codec.specs.declared.entry.Entry.{Entry}
use Rattle.shop_core.specs.Answer.Requests.{Asked}
use Rattle.shop_core.specs.Answer.Replies.{ChainRun}
use Rattle.report.specs.Summary.{summary_text}
use Rattle.report.specs.declared.status.Detail.{Detail}
use Rattle.report.specs.declared.status.Detail.TheVariants as detail
use Rattle.file_commands.specs.Output.{PrintEnds}
use Rattle.file_commands.specs.Generated.{AreCommands}
use Rattle.chain_store.specs.Readings.{IsComing}
use Rattle.chain_store.specs.Replies.{Replies, AllReplied}
use Rattle.file_commands.specs.declared.generate.TheConstants.{START, STEP}

-- the issuer of the generated chain
abbrev pub issuer : List ℕ
issuer = codes "89890001K"

-- the chain run of the first n commands from the empty history, with a reading of the clock for each
pub record Generated (n : ℕ) (entries : List Entry) : Type 0 where
  pub asks : List Asked
  pub are : AreCommands n asks
  pub replies : Replies
  pub run : ChainRun Two issuer (IsComing (λ k. Some (counting START STEP k))) [] asks replies entries
  pub replied : AllReplied replies

-- the summary of that run's chain
pub record IsSummary (n : ℕ) (text : List ℕ) : Type 0 where
  pub entries : List Entry
  pub generated : Generated n entries
  pub is : text ≡ summary_text entries

-- the summary was printed, or the sink failed in it; or there was no memory, and nothing was printed
pub data GenerateEnds (n : ℕ) (s : Sinks) : Detail → Type 0 where
  ran : (text : List ℕ) (end : Detail) → IsSummary n text → PrintEnds text detail.Done s end → GenerateEnds n s end
  no_memory : WroteNothing s → GenerateEnds n s detail.NoMemory
