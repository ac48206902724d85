-- What the words of the command line ask for. The commands are this project's own.
use Rattle.std.specs.Prelude.{◌*◌, ◌≡◌, if◌then◌else◌, ℕ, ◌<◌, ◌≤◌, ◌/◌, ◌-◌, nat_lt, List, [], ◌∷◌, length, bytes_eq, codes, decimal, IsTrue, Option, Some, None}
use Rattle.std.specs.Prelude.{◌*◌, ◌⊎◌, ◌||◌, Bool, true, false}
use Rattle.std.specs.List.{list_any}
use Rattle.std.specs.Int.{IsInRange}
use Rattle.parties.specs.Nif.{IsNif}
use Rattle.verifactu.specs.Pairs.{IsPairs}
use Rattle.series.specs.Numbers.{is_num_serie}
use Rattle.statements.specs.Periods.{IsPeriod, period_text}
use Rattle.statements.specs.declared.periods.Period.{Period}
use Rattle.verify_link.specs.declared.parts.Host.{Host}
use Rattle.verify_link.specs.declared.parts.Host.TheVariants.{Real, Practice}
use Rattle.link_check.specs.declared.all.TheConstants.{MAX_WORKERS}
use Rattle.report.specs.declared.chosen.Choice.{Choice}
use Rattle.report.specs.declared.chosen.Choice.TheVariants.{All, Waiting, Refused}
use Rattle.verifactu.specs.declared.command_line.Command.{Command}
use Rattle.verifactu.specs.declared.command_line.Command.TheVariants.{Chain, Day, Drain, Serve, Audit, Link, Check, Migrate, Follow, Guard, Many}
use Rattle.verifactu.specs.declared.command_line.Command.TheVariants.{Listing, Statement, Export, Matches, Generate, Help, HelpOn, Version}
use Rattle.verifactu.specs.declared.topics.Topic.{Topic}
use Rattle.verifactu.specs.Topics.{topic_name}
use Rattle.file_commands.specs.declared.generated.TheConstants.{MAX_GENERATED}
use Rattle.parties.specs.declared.limits.TheConstants.{MAX_ISSUERS}

-- `chain FILE NIF`: a file's name, which isn't empty, and a tax number
pub record IsChain (words : List (List ℕ)) (issuer : List ℕ) : Type 0 where
  pub file : List ℕ
  pub words_are : words ≡ codes "chain" ∷ (file ∷ (issuer ∷ []))
  pub named : 0 < length file
  pub nif : IsNif issuer

-- `day FILE NIF`, the same
pub record IsDay (words : List (List ℕ)) (issuer : List ℕ) : Type 0 where
  pub file : List ℕ
  pub words_are : words ≡ codes "day" ∷ (file ∷ (issuer ∷ []))
  pub named : 0 < length file
  pub nif : IsNif issuer

-- `drain FILE NIF`, the same
pub record IsDrain (words : List (List ℕ)) (issuer : List ℕ) : Type 0 where
  pub file : List ℕ
  pub words_are : words ≡ codes "drain" ∷ (file ∷ (issuer ∷ []))
  pub named : 0 < length file
  pub nif : IsNif issuer

-- `serve FILE NIF`, the same
pub record IsServe (words : List (List ℕ)) (issuer : List ℕ) : Type 0 where
  pub file : List ℕ
  pub words_are : words ≡ codes "serve" ∷ (file ∷ (issuer ∷ []))
  pub named : 0 < length file
  pub nif : IsNif issuer

-- `audit FILE`
pub record IsAudit (words : List (List ℕ)) : Type 0 where
  pub file : List ℕ
  pub words_are : words ≡ codes "audit" ∷ (file ∷ [])
  pub named : 0 < length file

abbrev pub host_word : Host → List ℕ
host_word Real = codes "real"
host_word Practice = codes "test"

-- the host that a word names; none where it names none
abbrev pub IsHost : List ℕ → Option Host → Type 0
IsHost word None = (host : Host) → word ≡ host_word host → ⊥
IsHost word (Some host) = word ≡ host_word host

-- `link FILE NUM HOST`: a number of an invoice, and `real` or `test`
pub record IsLink (words : List (List ℕ)) (num : List ℕ) (host : Host) : Type 0 where
  pub file : List ℕ
  pub words_are : words ≡ codes "link" ∷ (file ∷ (num ∷ (host_word host ∷ [])))
  pub named : 0 < length file
  pub number : IsTrue (is_num_serie num)

abbrev pub choice_word : Choice → List ℕ
choice_word All = codes "all"
choice_word Waiting = codes "waiting"
choice_word Refused = codes "refused"

-- the records that a word names; none where it names none
abbrev pub IsChoice : List ℕ → Option Choice → Type 0
IsChoice word None = (choice : Choice) → word ≡ choice_word choice → ⊥
IsChoice word (Some choice) = word ≡ choice_word choice

-- `list FILE WHICH`: a file's name, and `all`, `waiting` or `refused`
pub record IsList (words : List (List ℕ)) (choice : Choice) : Type 0 where
  pub file : List ℕ
  pub words_are : words ≡ codes "list" ∷ (file ∷ (choice_word choice ∷ []))
  pub named : 0 < length file

-- a number of commands, from 1 to the most, in decimal without leading zeros
pub record IsCountOf (word : List ℕ) (n : ℕ) : Type 0 where
  pub range : IsInRange 1 MAX_GENERATED n
  pub written : word ≡ decimal n

-- the number of commands that a word says; none where it says none
abbrev pub IsCount : List ℕ → Option ℕ → Type 0
IsCount word None = (n : ℕ) → IsCountOf word n → ⊥
IsCount word (Some n) = IsCountOf word n

-- a number of workers, from 1 to the most, in decimal without leading zeros
pub record IsWorkersOf (word : List ℕ) (n : ℕ) : Type 0 where
  pub count : IsCountOf word n
  pub few : n ≤ MAX_WORKERS

-- the number of workers that a word says; none where it says none
abbrev pub IsWorkers : List ℕ → Option ℕ → Type 0
IsWorkers word None = (n : ℕ) → IsWorkersOf word n → ⊥
IsWorkers word (Some n) = IsWorkersOf word n

-- `check FILE WORKERS`
pub record IsCheck (words : List (List ℕ)) (workers : ℕ) : Type 0 where
  pub file : List ℕ
  pub count : List ℕ
  pub words_are : words ≡ codes "check" ∷ (file ∷ (count ∷ []))
  pub named : 0 < length file
  pub number : IsWorkersOf count workers

-- `generate N`
pub record IsGenerate (words : List (List ℕ)) (n : ℕ) : Type 0 where
  pub count : List ℕ
  pub words_are : words ≡ codes "generate" ∷ (count ∷ [])
  pub number : IsCountOf count n

-- `migrate FILE NEW`: the names of two files
pub record IsMigrate (words : List (List ℕ)) : Type 0 where
  pub file : List ℕ
  pub new : List ℕ
  pub words_are : words ≡ codes "migrate" ∷ (file ∷ (new ∷ []))
  pub named : 0 < length file
  pub new_named : 0 < length new

-- `follow FILE NEW`: the names of two files, which differ
pub record IsFollow (words : List (List ℕ)) : Type 0 where
  pub file : List ℕ
  pub new : List ℕ
  pub words_are : words ≡ codes "follow" ∷ (file ∷ (new ∷ []))
  pub named : 0 < length file
  pub new_named : 0 < length new
  pub apart : new ≡ file → ⊥

-- `guard FILE NIF NEW`: the names of two files, which differ, and an issuer
pub record IsGuard (words : List (List ℕ)) (issuer : List ℕ) : Type 0 where
  pub file : List ℕ
  pub new : List ℕ
  pub words_are : words ≡ codes "guard" ∷ (file ∷ (issuer ∷ (new ∷ [])))
  pub named : 0 < length file
  pub nif : IsNif issuer
  pub new_named : 0 < length new
  pub apart : new ≡ file → ⊥

-- `many FILE NIF FILE NIF ..`: two to eight pairs of a file and its issuer
pub record IsMany (words issuers : List (List ℕ)) : Type 0 where
  pub pairs : List (List ℕ)
  pub words_are : words ≡ codes "many" ∷ pairs
  pub are : IsPairs pairs issuers

-- `statement FILE MM-YYYY` or `statement FILE DD-MM-YYYY`: a file's name, and a month or a day
pub record IsStatement (words : List (List ℕ)) (period : Period) : Type 0 where
  pub file : List ℕ
  pub words_are : words ≡ codes "statement" ∷ (file ∷ (period_text period ∷ []))
  pub named : 0 < length file
  pub is_period : IsPeriod period

-- `export FILE`
pub record IsExport (words : List (List ℕ)) : Type 0 where
  pub file : List ℕ
  pub words_are : words ≡ codes "export" ∷ (file ∷ [])
  pub named : 0 < length file

-- `matches FILE`
pub record IsMatches (words : List (List ℕ)) : Type 0 where
  pub file : List ℕ
  pub words_are : words ≡ codes "matches" ∷ (file ∷ [])
  pub named : 0 < length file

-- the words of this command, whatever its file is called
abbrev pub Says : List (List ℕ) → Command → Type 0
Says words (Chain issuer) = IsChain words issuer
Says words (Day issuer) = IsDay words issuer
Says words (Drain issuer) = IsDrain words issuer
Says words (Serve issuer) = IsServe words issuer
Says words Audit = IsAudit words
Says words (Link num host) = IsLink words num host
Says words (Listing choice) = IsList words choice
Says words (Check workers) = IsCheck words workers
Says words Migrate = IsMigrate words
Says words Follow = IsFollow words
Says words (Guard issuer) = IsGuard words issuer
Says words (Many issuers) = IsMany words issuers
Says words (Statement period) = IsStatement words period
Says words Export = IsExport words
Says words Matches = IsMatches words
Says words (Generate n) = IsGenerate words n
Says words Version = words ≡ codes "--version" ∷ []
Says words Help = ⊥
Says words (HelpOn topic) = ⊥

-- the command that the words say so; none where they say none
abbrev pub IsSaid : List (List ℕ) → Option Command → Type 0
IsSaid words None = (command : Command) → Says words command → ⊥
IsSaid words (Some command) = Says words command

-- `--help` or `-h`, which ask for help and name no file
abbrev pub asks_help : List ℕ → Bool
asks_help word = bytes_eq word (codes "--help") || bytes_eq word (codes "-h")

-- the one word `--help`, `-h` or `help`
abbrev pub IsHelp : List (List ℕ) → Type 0
IsHelp words = (words ≡ codes "--help" ∷ []) ⊎ (words ≡ codes "-h" ∷ []) ⊎ (words ≡ codes "help" ∷ [])

-- `COMMAND --help`, `COMMAND -h` or `help COMMAND`
abbrev pub IsHelpOn : List (List ℕ) → Topic → Type 0
IsHelpOn words topic =
    (words ≡ topic_name topic ∷ (codes "--help" ∷ [])) ⊎ (words ≡ topic_name topic ∷ (codes "-h" ∷ []))
    ⊎ (words ≡ codes "help" ∷ (topic_name topic ∷ []))

-- the help that the words ask for; none where they ask for none
abbrev pub IsHelpAsked : List (List ℕ) → Option Command → Type 0
IsHelpAsked words None = (IsHelp words → ⊥) × ((topic : Topic) → IsHelpOn words topic → ⊥)
IsHelpAsked words (Some Help) = IsHelp words
IsHelpAsked words (Some (HelpOn topic)) = IsHelpOn words topic
IsHelpAsked words _ = ⊥

-- the words of this command; only those of a help ask for help
abbrev pub AsksFor : List (List ℕ) → Command → Type 0
AsksFor words Help = IsHelp words
AsksFor words (HelpOn topic) = IsHelpOn words topic
AsksFor words command = Says words command × (list_any asks_help words ≡ false)

-- the command that the words ask for; none where they ask for no command
abbrev pub IsAskedFor : List (List ℕ) → Option Command → Type 0
IsAskedFor words None = (command : Command) → AsksFor words command → ⊥
IsAskedFor words (Some command) = AsksFor words command

-- words ask for one command at most
abbrev pub OneCommand : Type 0
OneCommand = (words : List (List ℕ)) (one other : Option Command) → IsAskedFor words one → IsAskedFor words other → one ≡ other

-- how many pairs stand after the first one of `many`, where they aren't more than there may be
abbrev pub further_pairs : List ℕ → List (List ℕ) → ℕ
further_pairs name pairs =
    if bytes_eq name (codes "many") then (if nat_lt (2 * MAX_ISSUERS) (length pairs) then 0 else length pairs / 2 - 1) else 0

-- how many files these words name besides the first one
abbrev pub posts_needed : List (List ℕ) → ℕ
posts_needed (name ∷ (file ∷ (new ∷ []))) =
    if bytes_eq name (codes "migrate") then 1 else (if bytes_eq name (codes "follow") then 1 else 0)
posts_needed (name ∷ (file ∷ (nif ∷ (new ∷ [])))) = if bytes_eq name (codes "guard") then 1 else 0
posts_needed (name ∷ (a ∷ (b ∷ (c ∷ (d ∷ more))))) = further_pairs name (a ∷ (b ∷ (c ∷ (d ∷ more))))
posts_needed _ = 0

-- a command that works on one file
abbrev pub IsOfOneFile : Command → Type 0
IsOfOneFile Migrate = ⊥
IsOfOneFile Follow = ⊥
IsOfOneFile (Guard issuer) = ⊥
IsOfOneFile (Many issuers) = ⊥
IsOfOneFile _ = Unit {0}

-- a command that isn't `migrate`, `follow` or `many`
abbrev pub IsForIssuerOrOneFile : Command → Type 0
IsForIssuerOrOneFile Migrate = ⊥
IsForIssuerOrOneFile Follow = ⊥
IsForIssuerOrOneFile (Many issuers) = ⊥
IsForIssuerOrOneFile _ = Unit {0}

-- `guard`
abbrev pub IsGuarding : Command → Type 0
IsGuarding (Guard issuer) = Unit {0}
IsGuarding _ = ⊥

-- a command that words can ask for
abbrev pub IsWithin : Command → Type 0
IsWithin (Check workers) = IsInRange 1 MAX_WORKERS workers
IsWithin (Generate n) = IsInRange 1 MAX_GENERATED n
IsWithin _ = Unit {0}

-- a command that hands what waits to its agency
abbrev pub is_sending : Option Command → Bool
is_sending (Some (Day issuer)) = true
is_sending (Some (Drain issuer)) = true
is_sending (Some (Serve issuer)) = true
is_sending (Some (Guard issuer)) = true
is_sending (Some (Many issuers)) = true
is_sending _ = false

-- whether the words ask for such a command
pub record AsksToSend (words : List (List ℕ)) (sends : Bool) : Type 0 where
  pub command : Option Command
  pub asked : IsAskedFor words command
  pub is : sends ≡ is_sending command
