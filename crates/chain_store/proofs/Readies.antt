-- A journal is ready at the history that its file was found to stand for.
use Rattle.std.proofs.Common.{◌≡◌, ℕ, ◌≤◌, List, [], sym, subst, arith, Bool, IsTrue, Option, None}
use Rattle.record_fields.specs.declared.versions.Version.{Version}
use Rattle.chain_disk.specs.OnDisk.{OnDisk, IsSettled}
use Rattle.journal.specs.File.{IsAt, closing_gate}
use Rattle.shop_core.specs.File.Files.{StandsFor, bodies_of, furthest_gate}
use Rattle.shop_core.specs.History.{History}
use Rattle.chain_store.specs.Ready.{IsReady}

-- of a file that was begun
pub ready_empty : (tells : Bool) (created : Version) (issuer : List ℕ) (history : History) (stopped : Option ℕ) (gate : ℕ)
    (t : OnDisk) → history ≡ record { issuer = issuer; version = created; entries = []; room = None } →
    gate ≡ 19 → (IsTrue tells → IsAt created issuer [] gate t) → IsReady tells history stopped gate t
ready_empty tells created issuer history stopped gate t made at file =
    subst (λ (h : History). IsReady tells h stopped gate t) (sym made)
    (record {
      place = omega arith;
      holds = λ going told. record { file = file told; encoded = tt };
    })

-- of a file that was read
pub ready_held : (tells : Bool) (history : History) (stopped : Option ℕ) (gate : ℕ) (t : OnDisk) →
    gate ≤ furthest_gate history.entries →
    (IsTrue tells → (StandsFor history.version history.issuer history.entries t.content
    × (gate ≡ closing_gate (bodies_of history.version history.entries))) ×
    IsSettled t) → IsReady tells history stopped gate t
ready_held tells history stopped gate t place found = record {
  place = place;
  holds = λ going told.
      let h = found told in
      record { file = record { file = h.0.0.frames; place = h.0.1; nothing_pending = h.1 }; encoded = h.0.0.encoded };
}
