-- The lines of answers. The texts are this project's own; a Huella is written as in the field text.
use Rattle.std.specs.Prelude.{ℕ, List, ◌++◌, codes, decimal, flat_map, Result, Ok, Err}
use Rattle.std.specs.Fmt.{signed_decimal}
use Rattle.journal.specs.declared.faults.StoreFault.{StoreFault}
use Rattle.journal.specs.declared.faults.StoreFault.TheVariants.{DiskFault, Stopped, NoMemory}
use Rattle.record_fields.specs.declared.checks.DraftFault.{DraftFault}
use Rattle.record_fields.specs.declared.checks.DraftFault.TheVariants.{CustomerMissing, CustomerUnwanted, RectMissing}
use Rattle.record_fields.specs.declared.checks.DraftFault.TheVariants.{RectUnwanted, RefsMissing, RefsUnwanted, TooManyRefs}
use Rattle.record_fields.specs.declared.checks.DraftFault.TheVariants.{OverSimplified}
use Rattle.huella.specs.Texts.{huella_text}
use Rattle.shop_core.specs.declared.answer.receipts.Receipt.{Receipt}
use Rattle.shop_core.specs.declared.answer.refusals.Refusal.{Refusal}
use Rattle.shop_core.specs.declared.answer.refusals.Refusal.TheVariants.{Passed, BadDraft, OldFile, Unknown, Cancelled}
use Rattle.shop_core.specs.declared.answer.refusals.Refusal.TheVariants.{RefNotSimplified, ChainFull, ClockRange, HuellaTwice}
use Rattle.shop_core.specs.declared.answer.Reply.{Reply}
use Rattle.shop_core.specs.declared.answer.Reply.TheVariants.{Taken, Again, Refused}
use Rattle.report.specs.declared.answers.AnswerLine.{AnswerLine}
use Rattle.report.specs.declared.answers.AnswerLine.TheVariants.{Answered, Saw}

-- PLACE NUM HUELLA
abbrev pub receipt_text : Receipt → List ℕ
receipt_text r = decimal r.place ++ codes " " ++ r.id.num ++ codes " " ++ huella_text r.huella

abbrev pub draft_fault_text : DraftFault → List ℕ
draft_fault_text CustomerMissing = codes "customer-missing"
draft_fault_text CustomerUnwanted = codes "customer-unwanted"
draft_fault_text RectMissing = codes "rect-missing"
draft_fault_text RectUnwanted = codes "rect-unwanted"
draft_fault_text RefsMissing = codes "refs-missing"
draft_fault_text RefsUnwanted = codes "refs-unwanted"
draft_fault_text (TooManyRefs n) = codes "too-many-refs " ++ decimal n
draft_fault_text (OverSimplified cents) = codes "over-simplified " ++ signed_decimal cents

abbrev pub refusal_text : Refusal → List ℕ
refusal_text (Passed last) = codes "passed " ++ decimal last
refusal_text (BadDraft fault) = codes "draft " ++ draft_fault_text fault
refusal_text (OldFile index) = codes "old-file " ++ decimal index
refusal_text Unknown = codes "unknown"
refusal_text (Cancelled place) = codes "cancelled " ++ decimal place
refusal_text (RefNotSimplified index) = codes "ref " ++ decimal index
refusal_text ChainFull = codes "full"
refusal_text (ClockRange now) = codes "clock " ++ decimal now
refusal_text (HuellaTwice place) = codes "twice " ++ decimal place

abbrev pub reply_text : Reply → List ℕ
reply_text (Taken r) = codes "taken " ++ receipt_text r
reply_text (Again r) = codes "again " ++ receipt_text r
reply_text (Refused why) = codes "refused " ++ refusal_text why

abbrev pub store_fault_text : StoreFault → List ℕ
store_fault_text DiskFault = codes "disk"
store_fault_text (Stopped faults) = codes "stopped " ++ decimal faults
store_fault_text NoMemory = codes "memory"

abbrev pub told_text : Result Reply StoreFault → List ℕ
told_text (Ok reply) = reply_text reply
told_text (Err fault) = codes "fault " ++ store_fault_text fault

-- till T serial S ANSWER, or till T saw N
abbrev pub answer_line : AnswerLine → List ℕ
answer_line (Answered till serial replied) =
    codes "till " ++ decimal till ++ codes " serial " ++ decimal serial ++ codes " " ++ told_text replied ++ codes "\n"
answer_line (Saw till count) = codes "till " ++ decimal till ++ codes " saw " ++ decimal count ++ codes "\n"

-- a line for each answer, in order
abbrev pub answers_text : List AnswerLine → List ℕ
answers_text answers = flat_map answer_line answers
