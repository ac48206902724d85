-- What a line is read as.
use Rattle.std.proofs.Common.{ℕ, List, Result, Ok, Err, inr}
use Rattle.serde_json.specs.declared.value.Value.{Value}
use Rattle.agency_pipe.specs.Hearing.{IsHeard}
use Rattle.agency_pipe.specs.Steps.{Meets}
use Rattle.agency_pipe.specs.declared.faults.Unheard.{Unheard}
use Rattle.agency_pipe.specs.declared.faults.Unheard.TheVariants.{Json, Earlier, Fault, Hello, Shape, NoMemory}

pub heard : (number : ℕ) (line : List ℕ) (result : Result Value Unheard) → Meets number line result → IsHeard number line result
heard number line (Ok value) is = is
heard number line (Err Json) is = is
heard number line (Err Earlier) is = inr is
heard number line (Err Fault) is = is
heard number line (Err Hello) is = is
heard number line (Err Shape) is = is
heard number line (Err NoMemory) is = is
