-- A script: what its lines say, or the first line that says nothing.
use Rattle.std.specs.Prelude.{◌≡◌, ℕ, ◌+◌, List, [], ◌∷◌, ◌++◌, length, map, filter_map, unwrap_or, Result, Ok, Err}
use Rattle.agency_rules.specs.declared.plans.Plan.{Plan}
use Rattle.pacing.specs.declared.pace.TheConstants.{FIRST_WAIT}
use Rattle.record_fields.specs.Picks.{first_of}
use Rattle.shop_core.specs.declared.words.Word.{Word}
use Rattle.script.specs.Cuts.{lines_of}
use Rattle.script.specs.Lines.{said, clock_in, ask_in, verdict_in, wait_in, fate_in}
use Rattle.script.specs.declared.forms.Form.{Form}
use Rattle.script.specs.declared.lines.Meaning.{Meaning}
use Rattle.script.specs.declared.scripts.Script.{Script}
use Rattle.script.specs.declared.scripts.ScriptFault.{ScriptFault}
use Rattle.script.specs.declared.scripts.ScriptFault.TheVariants.{BadLine, NoMemory}

-- each of these lines says its meaning, after those before it
abbrev pub EachSays : Form → List Meaning → List (List ℕ) → List Meaning → Type 0
EachSays form before [] [] = Unit {0}
EachSays form before (line ∷ lines) (meaning ∷ meanings) =
    (said form before line ≡ Ok meaning) × EachSays form (before ++ meaning ∷ []) lines meanings
EachSays form before lines meanings = ⊥

-- what these lines plan: their verdicts and fates in order, and the pause of the line that says one, else the
-- agency's first waiting time
abbrev pub plan_of : List Meaning → Plan
plan_of meanings = record {
  verdicts = filter_map verdict_in meanings;
  wait = unwrap_or (first_of (map wait_in meanings)) FIRST_WAIT;
  fates = filter_map fate_in meanings;
}

-- every line says something; the clock is that of the line that says one, the asks are those of the lines, in order, and the
-- plan is what they plan
pub record IsWhole (form : Form) (lines : List (List ℕ)) (script : Script) : Type 0 where
  pub meanings : List Meaning
  pub each : EachSays form [] lines meanings
  pub clock : script.clock ≡ first_of (map clock_in meanings)
  pub asks : script.asks ≡ filter_map ask_in meanings
  pub plan : script.plan ≡ plan_of meanings

-- the first line that says nothing, by its number from 1, and its word
pub record IsFirstBad (form : Form) (lines : List (List ℕ)) (number : ℕ) (word : Word) : Type 0 where
  pub before : List (List ℕ)
  pub line : List ℕ
  pub after : List (List ℕ)
  pub there : lines ≡ before ++ line ∷ after
  pub meanings : List Meaning
  pub each : EachSays form [] before meanings
  pub wrong : said form meanings line ≡ Err word
  pub place : number ≡ length before + 1

-- the script of these bytes, its first bad line, or lack of memory
abbrev pub IsScript : Form → List ℕ → Result Script ScriptFault → Type 0
IsScript form bytes (Ok script) = IsWhole form (lines_of bytes) script
IsScript form bytes (Err (BadLine number word)) = IsFirstBad form (lines_of bytes) number word
IsScript form bytes (Err NoMemory) = Unit {0}
