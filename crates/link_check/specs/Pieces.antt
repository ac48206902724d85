-- The answers of one piece of the lines.
use Rattle.std.specs.Prelude.{List, [], Result, Ok, Err, Vec}
use Rattle.std.specs.declared.alloc.Global.{Global}
use Rattle.ports.specs.declared.faults.NoMemory.{NoMemory}
use Rattle.link_check.specs.declared.checked.Checked.{Checked}

abbrev pub answers_in : Result (Vec Checked Global) NoMemory → List Checked
answers_in (Ok answers) = answers.items
answers_in (Err fault) = []
