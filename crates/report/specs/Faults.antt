-- What is said on standard error of each end. The texts are this project's own.
use Rattle.std.specs.Prelude.{ℕ, List, [], ◌++◌, codes, decimal}
use Rattle.agency_port.specs.declared.turns.Evidence.{Evidence}
use Rattle.agency_port.specs.declared.turns.Evidence.TheVariants.{Hole, Forgotten}
use Rattle.shop_core.specs.declared.words.Word.{Word}
use Rattle.shop_core.specs.declared.words.Word.TheVariants as word
use Rattle.shop_core.specs.declared.file.audits.What.{What}
use Rattle.report.specs.Verdicts.{what_text}
use Rattle.report.specs.declared.status.Detail.{Detail}
use Rattle.report.specs.declared.status.Detail.TheVariants as detail

abbrev pub word_text : Word → List ℕ
word_text word.Utf8 = codes "Utf8"
word_text word.Verb = codes "Verb"
word_text word.Command = codes "Command"
word_text word.Fields = codes "Fields"
word_text word.Number = codes "Number"
word_text word.Till = codes "Till"
word_text word.Series = codes "Series"
word_text word.Num = codes "Num"
word_text word.Kind = codes "Kind"
word_text word.Nif = codes "Nif"
word_text word.Name = codes "Name"
word_text word.Class = codes "Class"
word_text word.Fate = codes "Fate"
word_text word.Option = codes "Option"
word_text word.Customer = codes "Customer"
word_text word.Date = codes "Date"
word_text word.Lines = codes "Lines"
word_text word.Twice = codes "Twice"
word_text word.TooMany = codes "TooMany"

-- LINE WORD
abbrev pub bad_line_text : ℕ → Word → List ℕ
bad_line_text line fault = decimal line ++ codes " " ++ word_text fault ++ codes "\n"

-- damaged at BYTE
abbrev pub damage_text : ℕ → List ℕ
damage_text at = codes "verifactu: damaged at " ++ decimal at ++ codes "\n"

-- NOTED of RECORDS
abbrev pub counts_text : ℕ → ℕ → List ℕ
counts_text noted records = decimal noted ++ codes " of " ++ decimal records ++ codes "\n"

-- the place of the record that the agency says it hasn't seen
abbrev pub unseen_place : Evidence → ℕ
unseen_place (Hole unseen seen) = unseen
unseen_place (Forgotten place said) = place

-- PLACE
abbrev pub place_text : ℕ → List ℕ
place_text place = decimal place ++ codes "\n"

-- PLACE WHAT
abbrev pub break_text : ℕ → What → List ℕ
break_text place what = decimal place ++ codes " " ++ what_text what ++ codes "\n"

-- NIF
abbrev pub nif_line : List ℕ → List ℕ
nif_line nif = nif ++ codes "\n"

-- not old HELD
abbrev pub held_text : ℕ → List ℕ
held_text held = codes "verifactu: not old " ++ decimal held ++ codes "\n"

-- parted at ENTRY
abbrev pub parting_text : ℕ → List ℕ
parting_text entry = codes "verifactu: parted at " ++ decimal entry ++ codes "\n"

-- line LINE
abbrev pub difference_text : ℕ → List ℕ
difference_text line = codes "line " ++ decimal line ++ codes "\n"

-- issuer INDEX
abbrev pub index_text : ℕ → List ℕ
index_text index = codes "verifactu: issuer " ++ decimal index ++ codes "\n"

-- what went wrong; nothing at Done
abbrev pub fault_text : Detail → List ℕ
fault_text detail.Done = []
fault_text detail.Usage = codes "verifactu: usage\n"
fault_text (detail.Script line fault) = codes "verifactu: script line " ++ bad_line_text line fault
fault_text detail.ReadFault = codes "verifactu: read fault\n"
fault_text detail.WriteFault = codes "verifactu: write fault\n"
fault_text detail.DiskFault = codes "verifactu: disk fault\n"
fault_text (detail.Damaged at) = damage_text at
fault_text (detail.Undelivered noted records) = codes "verifactu: undelivered " ++ counts_text noted records
fault_text (detail.Broken place what) = codes "verifactu: broken " ++ break_text place what
fault_text detail.NoMemory = codes "verifactu: no memory\n"
fault_text (detail.Contradiction evidence) = codes "verifactu: contradiction at " ++ place_text (unseen_place evidence)
fault_text detail.TooBig = codes "verifactu: input too big\n"
fault_text (detail.OtherIssuer held) = codes "verifactu: file of " ++ nif_line held
fault_text detail.Unknown = codes "verifactu: no such invoice\n"
fault_text (detail.Occupied size) = codes "verifactu: occupied\n"
fault_text (detail.NotOld held) = held_text held
fault_text (detail.Parted entry) = parting_text entry
fault_text (detail.Differs line) = codes "verifactu: differs at " ++ difference_text line
fault_text (detail.Issuer index status) = index_text index
