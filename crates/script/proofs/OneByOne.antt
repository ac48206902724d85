-- Lines that are said one by one.
use Rattle.std.proofs.Common.{◌≡◌, ◌∙◌, ℕ, List, [], ◌∷◌, ◌++◌, length, filter_map, count_by, refl, sym, ap, arith}
use Rattle.std.proofs.Common.{true, false, cond, Result, Ok, Err, IfOk, OnOk, append-nil}
use Rattle.std.proofs.lemmas.List.Sums.{sum_by-append}
use Rattle.ports.specs.declared.faults.NoMemory.{NoMemory as NoRoom}
use Rattle.script.specs.Heard.{IsIn, kept_in}
use Rattle.script.specs.Lines.{Above, above_of, ask_in, is_command, line_said}
use Rattle.script.specs.SoFar.{IsNew, IsSaid, IsSoFar, Reads, known}
use Rattle.script.specs.declared.faults.Fault.{Fault}
use Rattle.script.specs.declared.forms.Form.{Form}
use Rattle.script.specs.declared.lines.Meaning.{Meaning}
use Rattle.script.specs.declared.lines.Meaning.TheVariants as line
use Rattle.script.specs.declared.scripts.SoFar.{SoFar}
use Rattle.script.proofs.Reading.{said_is_in, said_is_new}

pub is_new : (form : Form) (above : Above) (text : List ℕ) (r : Result Meaning Fault) → IsSaid (line_said form above text) r →
    IfOk r (λ meaning. IsNew above meaning)
is_new form above text (Ok meaning) h = said_is_new form above text meaning h
is_new form above text (Err fault) h = tt

pub is_in : (form : Form) (above : Above) (text : List ℕ) (r : Result Meaning Fault) → IsSaid (line_said form above text) r →
    IfOk r (λ meaning. IsIn form meaning)
is_in form above text (Ok meaning) h = said_is_in form above text meaning h
is_in form above text (Err fault) h = tt

-- lines of which none asks
no_asks_in : (before : List Meaning) → count_by is_command before ≡ 0 → filter_map ask_in before ≡ []
no_asks_in [] e = refl
no_asks_in (line.Command ask ∷ before) e =
    let more = sum_by-append (λ m. cond (is_command m) 1 0) (line.Command ask ∷ []) before in absurd (omega (arith, e, more))
no_asks_in (line.Skip ∷ before) e = no_asks_in before (omega (arith, e))
no_asks_in (line.Clock start step ∷ before) e = no_asks_in before (omega (arith, e))
no_asks_in (line.Customer key party ∷ before) e = no_asks_in before (omega (arith, e))
no_asks_in (line.Verdict verdict ∷ before) e = no_asks_in before (omega (arith, e))
no_asks_in (line.Wait seconds ∷ before) e = no_asks_in before (omega (arith, e))
no_asks_in (line.Link fate ∷ before) e = no_asks_in before (omega (arith, e))

so_far : (before : List Meaning) (read : SoFar) → known read ≡ above_of before → read.asks.items ≡ [] → IsSoFar before read
so_far before read e none =
    let count : count_by is_command before ≡ 0 = sym (ap (λ (above : Above). above.commands) e) ∙ ap (λ l. length l) none in
    record {
      above = e;
      asks = none ∙ sym (no_asks_in before count);
      few = rw none (omega arith);
    }

kept_one : (meaning : Meaning) → is_command meaning ≡ false → kept_in meaning ≡ meaning ∷ []
kept_one meaning e = rw e refl

heard_more : (before : List Meaning) (meaning : Meaning) (new : SoFar) (r : Result (Unit {0}) NoRoom) →
    kept_in meaning ≡ meaning ∷ [] → Reads (before ++ meaning ∷ []) new r → OnOk r (known new ≡ above_of (before ++ kept_in meaning))
heard_more before meaning new (Ok u) e h = h.above ∙ ap (λ m. above_of (before ++ m)) (sym e)
heard_more before meaning new (Err e') e h = tt

pub kept_more : (before : List Meaning) (meaning : Meaning) (old new : SoFar) (r : Result (Unit {0}) NoRoom) →
    is_command meaning ≡ false → known old ≡ above_of before → old.asks.items ≡ [] →
    ((lines : List Meaning) → IsSoFar lines old → Reads (lines ++ meaning ∷ []) new r) →
    OnOk r (known new ≡ above_of (before ++ kept_in meaning))
kept_more before meaning old new r no_ask e none reads =
    heard_more before meaning new r (kept_one meaning no_ask) (reads before (so_far before old e none))

pub kept_none : (before : List Meaning) (meaning : Meaning) (above : Above) → is_command meaning ≡ true → above ≡ above_of before →
    above ≡ above_of (before ++ kept_in meaning)
kept_none before meaning above is e = rw is (e ∙ ap above_of (sym (append-nil before)))
