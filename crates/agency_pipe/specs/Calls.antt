-- The two calls.
use Rattle.std.specs.Prelude.{ℕ, List}
use Rattle.ports.specs.Memory.{counted_up}
use Rattle.batches.specs.Batches.{Named}
use Rattle.record_fields.specs.declared.records.Sealed.{Sealed}
use Rattle.verify_link.specs.declared.parts.Host.{Host}
use Rattle.agency_pipe.specs.Messages.{consult_object, line_of, opening_of, submit_object}
use Rattle.agency_pipe.specs.Speaking.{Call, call_of}

-- a submission, whose begin has the number n
abbrev pub submit_call : List ℕ → ℕ → ℕ → Host → List Sealed → Call
submit_call issuer n noted host batch =
    call_of (opening_of issuer n noted) n (line_of (submit_object (counted_up n) host batch))

-- a consultation
abbrev pub consult_call : List ℕ → ℕ → ℕ → Named → Call
consult_call issuer n noted asked = call_of (opening_of issuer n noted) n (line_of (consult_object (counted_up n) asked))
