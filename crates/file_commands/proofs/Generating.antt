-- One command more of the generator, and the run of its commands from an empty file.
use Rattle.std.proofs.Common.{◌≡◌, ◌⊎◌, inl, inr, ℕ, zero, suc, ◌+◌, ◌<◌, List, [], ◌∷◌, ◌++◌, length, length-append, refl, ◌∙◌}
use Rattle.std.proofs.Common.{ap, subst, sym, arith, Option, Some, None, Err, IsTrue, true, slice_get}
use Rattle.record_fields.specs.declared.versions.Version.{Version}
use Rattle.record_fields.specs.declared.versions.Version.TheVariants.{Two}
use Rattle.chain_disk.specs.OnDisk.{OnDisk}
use Rattle.chain_store.specs.Ready.{IsReady}
use Rattle.journal.specs.File.{IsAt}
use Rattle.shop_core.specs.History.{History}
use Rattle.std.proofs.Math.Path.{fun_ext}
use Rattle.parties.specs.Nif.{person_letter}
use Rattle.parties.specs.NifReading.{IsNifReading}
use Rattle.parties.specs.declared.nif.NifFault.{NifFault}
use Rattle.parties.specs.declared.nif.NifFault.TheVariants.{Length, Shape, Control}
use Rattle.ports.specs.Counting.{counting}
use Rattle.record_codec.specs.declared.entry.Entry.{Entry}
use Rattle.shop_core.specs.Answer.Requests.{Asked}
use Rattle.shop_core.specs.Answer.Replies.{ChainRun}
use Rattle.file_commands.specs.Generate.{Generated, issuer}
use Rattle.file_commands.specs.Generated.{AreCommands, command}
use Rattle.chain_store.specs.Readings.{IsComing}
use Rattle.chain_store.specs.Replies.{Replies, AllReplied}
use Rattle.file_commands.specs.declared.generate.TheConstants.{START, STEP}

at_end : (xs : List Asked) (x : Asked) → slice_get (xs ++ x ∷ []) (length xs) ≡ Some x
at_end [] x = refl
at_end (y ∷ xs) x = at_end xs x

in_front : (xs : List Asked) (x : Asked) (i : ℕ) → i < length xs → slice_get (xs ++ x ∷ []) i ≡ slice_get xs i
in_front [] x i h = absurd (omega arith)
in_front (y ∷ xs) x zero h = refl
in_front (y ∷ xs) x (suc i) h = in_front xs x i (omega (arith, h))

below_or_at : (i n : ℕ) → i < n + 1 → (i < n) ⊎ (i ≡ n)
below_or_at i n h = grind arith

pub commands_more : (xs : List Asked) (n : ℕ) (x : Asked) → AreCommands n xs → x ≡ command (n + 1) →
    AreCommands (n + 1) (xs ++ x ∷ [])
commands_more xs n x are is = record {
  count = length-append xs (x ∷ []) ∙ ap (λ k. k + 1) are.count;
  each = λ i h. elim (below_or_at i n h) [
    | inl front ↦ in_front xs x i (let c = are.count in omega (arith, front, c)) ∙ are.each i front
    | inr end ↦ rw end (subst (λ k. slice_get (xs ++ x ∷ []) k ≡ Some (command (n + 1))) are.count (at_end xs x ∙ ap Some is))
  ];
}

-- the generated chain's issuer is a tax number
pub not_refused : (fault : NifFault) → IsNifReading issuer (Err fault) → ⊥
unfolding person_letter
not_refused Length h = h refl
not_refused Shape h = let shaped = h.1 in cc
not_refused (Control wanted) h = let controlled = h.2 in cc

pub ran : (n : ℕ) (asks : List Asked) (replies : Replies) (start entries : List Entry) (version : Version) (own : List ℕ)
    (coming : ℕ → Option ℕ) → AreCommands n asks → version ≡ Two → own ≡ issuer → start ≡ [] → ((k : ℕ) → coming k ≡ Some (counting START STEP k)) →
    ChainRun version own (IsComing coming) start asks replies entries → AllReplied replies → Generated n entries
ran n asks replies start entries version own coming are is_one whose nothing told run replied =
    let at_one = subst (λ (v : Version). ChainRun v own (IsComing coming) start asks replies entries) is_one run in
    let told_now = subst (λ (c : ℕ → Option ℕ). ChainRun Two own (IsComing c) start asks replies entries) (fun_ext told) at_one in
    let of_issuer = subst (λ (o : List ℕ). ChainRun Two o (IsComing (λ k. Some (counting START STEP k))) start asks replies
    entries)
    whose told_now in
    record {
      asks = asks;
      are = are;
      replies = replies;
      run = subst (λ (s : List Entry). ChainRun Two issuer (IsComing (λ k. Some (counting START STEP k))) s asks replies entries)
          nothing of_issuer;
      replied = replied;
    }

-- of a file that was begun, whose disk tells what it holds
pub ready_empty : (own : List ℕ) (history : History) (stopped : Option ℕ) (gate : ℕ) (t : OnDisk) →
    history ≡ record { issuer = own; version = Two; entries = []; room = None } →
    gate ≡ 19 → (IsTrue true → IsAt Two own [] gate t) → IsReady true history stopped gate t
ready_empty own history stopped gate t made at file = subst (λ (h : History). IsReady true h stopped gate t) (sym made)
    (record {
      place = omega (arith, at);
      holds = λ going told. record { file = file told; encoded = tt };
    })
