-- What a call writes to a sink.
use Rattle.std.specs.Prelude.{ℕ, List, [], take, Option, Result, Ok, Err}
use Rattle.std.specs.Io.KnownBytes.{Appends}
use Rattle.ports.specs.Causes.{Rose}
use Rattle.ports.specs.declared.faults.Failed.{Failed}

-- what a sink had taken and its count of faults, before the call and after it
pub record Sinks : Type 0 where
  pub taken : Option (List ℕ)
  pub taken_after : Option (List ℕ)
  pub faults : ℕ
  pub faults_after : ℕ

-- this sink in this call: of its kind, before and after
abbrev pub this_sink : {K : Type 0} → (K → Option (List ℕ)) → (K → ℕ) → K → K → Sinks
this_sink taken faults old new = record {
  taken = taken old;
  taken_after = taken new;
  faults = faults old;
  faults_after = faults new;
}

abbrev pub WroteNothing : Sinks → Type 0
WroteNothing s = Appends s.taken s.taken_after []

-- the sink took this text
abbrev pub Wrote : Sinks → List ℕ → Type 0
Wrote s text = Appends s.taken s.taken_after text

-- the sink took a front of this text
abbrev pub WrotePart : Sinks → List ℕ → Type 0
WrotePart s text = (n : ℕ) × Appends s.taken s.taken_after (take n text)

-- the sink failed, and took a front of this text
pub record FailedIn (s : Sinks) (text : List ℕ) : Type 0 where
  pub risen : Rose s.faults s.faults_after
  pub part : WrotePart s text

-- the sink took the whole text, or a front of it and failed
abbrev pub OutputIs : Sinks → List ℕ → Result (Unit {0}) Failed → Type 0
OutputIs s text (Ok u) = Wrote s text
OutputIs s text (Err e) = FailedIn s text
