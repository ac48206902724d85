use Rattle.std.proofs.Common.{◌≡◌, IsOk, All, take, flat_map}
use Rattle.file_commands.specs.Answering.{text_in}
use Rattle.file_commands.proofs.answering.joined.Given as goal

abbrev pub invariant-loop-text : goal.invariant-loop-text
invariant-loop-text l = record {
  each : All (λ t. IsOk t) (take l.text-index l.texts);
  all : l.all.items ≡ flat_map text_in (take l.text-index l.texts);
}
