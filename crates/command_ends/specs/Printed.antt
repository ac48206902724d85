-- What a run prints: the texts of its answers, of its listing and of its chain line.
use Rattle.std.specs.Prelude.{ℕ, List, ◌++◌, map, zip, Result}
use Rattle.journal.specs.declared.faults.StoreFault.{StoreFault}
use Rattle.record_codec.specs.declared.entry.Entry.{Entry}
use Rattle.shop_core.specs.Answer.Requests.{Asked}
use Rattle.shop_core.specs.declared.answer.Reply.{Reply}
use Rattle.report.specs.Answers.{answers_text}
use Rattle.report.specs.Listing.{listing_text}
use Rattle.report.specs.declared.answers.AnswerLine.{AnswerLine}
use Rattle.report.specs.declared.answers.AnswerLine.TheVariants.{Answered}
use Rattle.chain_store.specs.Replies.{Replies}

-- an ask's answer
abbrev pub answered : Asked × Result Reply StoreFault → AnswerLine
answered a = Answered a.0.till a.0.serial a.1

-- the answers to these asks, in line order
abbrev pub answers : List Asked → Replies → List AnswerLine
answers asks replies = map answered (zip asks replies)

-- the answers in line order, the listing and the chain line
abbrev pub printed : List Asked → Replies → List Entry → List ℕ
printed asks replies entries = answers_text (answers asks replies) ++ listing_text entries
