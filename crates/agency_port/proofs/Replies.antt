-- Whether a reply names a batch.
use Rattle.std.proofs.Common.{◌≡◌, ℕ, List, refl, sym, Bool, true, false, bytes_eq}
use Rattle.std.specs.Bool.{Decides}
use Rattle.std.proofs.lemmas.Slice.Eq.{bytes_eq-Decides, slice_eq-Decides}
use Rattle.record_fields.specs.declared.records.Sealed.{Sealed}
use Rattle.batches.specs.Batches.{huellas_of}
use Rattle.agency_port.specs.Reply.{Replied}
use Rattle.agency_port.specs.Ledger.{Names}
use Rattle.agency_port.specs.Practice.{is_reply_to}

pub decides : (reply : Replied) (batch : List Sealed) → Decides (is_reply_to reply batch) (Names reply batch)
decides reply batch = slice_eq-Decides {A = List ℕ} {E = bytes_eq} bytes_eq-Decides reply.huellas (huellas_of batch)
    (is_reply_to reply batch) refl

pub named : (reply : Replied) (batch : List Sealed) → Names reply batch → is_reply_to reply batch ≡ true
named reply batch e = (decides reply batch).1 e

pub same_test : (r b : Bool) (P : Type 0) → Decides b P → (r ≡ true → P) → (P → r ≡ true) → r ≡ b
same_test true true P d f g = refl
same_test false false P d f g = refl
same_test true false P d f g = sym (d.1 (f refl))
same_test false true P d f g = g (d.0 refl)
