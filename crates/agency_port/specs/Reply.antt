-- A reply as definitions see it.
use Rattle.std.specs.Prelude.{ℕ, List}
use Rattle.agency_port.specs.declared.answers.ReplyLine.{ReplyLine}

pub record Replied : Type 0 where
  pub huellas : List (List ℕ)
  pub lines : List ReplyLine
  pub wait : ℕ
