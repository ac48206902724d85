-- What is read of a file, and what a scan says of a gate.
use Rattle.std.proofs.Common.{◌≡◌, ℕ, ◌+◌, List, length, subst}
use Rattle.frames.specs.Frames.{IsCounted, IsDamaged}
use Rattle.journal.specs.Step.{IsStep, IsNext}
use Rattle.journal.specs.declared.reading.Step.{Step}
use Rattle.journal.specs.declared.reading.Step.TheVariants.{Counted, Damaged}
use Rattle.record_codec.specs.declared.faults.BadEntry.{BadEntry}
use Rattle.shop_core.specs.File.Files.IsDamagedFile.{in_header as damaged_header, no_frame as damaged_frame, no_entry as damaged_body}
use Rattle.shop_core.specs.File.Files.IsDamagedFile.{not_next as damaged_entry}
use Rattle.shop_core.specs.File.Reading.{BrokenIsDamaged}
use Rattle.shop_core.specs.File.Reading.IsRead.{in_header, no_frame, no_entry, not_next}

pub counted_step : (bytes body : List ℕ) (step : Step) (next : ℕ) → step ≡ Counted next → IsStep bytes step body →
    IsCounted bytes body
counted_step bytes body step next e h = subst (λ (s : Step). IsStep bytes s body) e h

pub damaged_step : (bytes body : List ℕ) (step : Step) → step ≡ Damaged → IsStep bytes step body → IsDamaged bytes
damaged_step bytes body step e h = subst (λ (s : Step). IsStep bytes s body) e h

pub next_step : (at next : ℕ) (body : List ℕ) (step : Step) → step ≡ Counted next → IsNext at step body →
    next ≡ at + 5 + length body
next_step at next body step e h = (subst (λ (s : Step). IsNext at s body) e h).1

-- a fault of the bytes is no lack of memory
pub unread : (fault : BadEntry) (at : ℕ) → fault ≡ BadEntry.At at → fault ≡ BadEntry.NoMemory → ⊥
unread fault at e h = absurd cc

pub broken_is_damaged : BrokenIsDamaged
broken_is_damaged file place at what (in_header _ damage) = damaged_header at damage
broken_is_damaged file place at what (no_frame version issuer entries _ sound shape) =
    damaged_frame version issuer entries at sound shape
broken_is_damaged file place at what (no_entry version issuer entries _ body sound counted none) =
    damaged_body version issuer entries at body sound counted none
broken_is_damaged file place at what (not_next version issuer entries _ body entry why sound counted encoding never broken) =
    damaged_entry version issuer entries at body entry sound counted encoding never
