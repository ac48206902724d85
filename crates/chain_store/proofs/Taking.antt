-- What one ask leaves.
use Rattle.std.proofs.Common.{◌≡◌, ℕ, List, [], ◌∷◌, ◌++◌, length, length-append, arith, refl, sym, ◌∙◌, ap, subst, append-nil, inl}
use Rattle.std.proofs.Common.{Bool, Option, Result, Ok, Err}
use Rattle.std.specs.Prelude.{IsTrue, IfOk, OnErr, OnOk}
use Rattle.record_fields.specs.declared.versions.Version.{Version}
use Rattle.chain_disk.specs.OnDisk.{OnDisk, LeavesOnly}
use Rattle.chain_disk.specs.Runs.{weaker}
use Rattle.journal.specs.declared.faults.StoreFault.{StoreFault}
use Rattle.ports.specs.Readings.{IsTold, MovedBy}
use Rattle.record_codec.specs.declared.entry.Entry.{Entry}
use Rattle.shop_core.specs.Answer.Plans.{answer}
use Rattle.shop_core.specs.Answer.Requests.{Asked}
use Rattle.shop_core.specs.History.{History}
use Rattle.shop_core.specs.Answer.Replies.{IsReply, IsTaken, Tells}
use Rattle.shop_core.specs.declared.answer.Planned.{Planned}
use Rattle.shop_core.specs.declared.answer.Planned.TheVariants.{Again, Refused, Made}
use Rattle.shop_core.specs.declared.answer.Reply.{Reply}
use Rattle.shop_core.specs.declared.answer.Reply.TheVariants as reply_of
use Rattle.shop_core.specs.declared.answer.refusals.Refusal.{Refusal}
use Rattle.shop_core.specs.declared.answer.receipts.Receipt.{Receipt}
use Rattle.chain_store.specs.Ready.{Takes}
use Rattle.shop_core.specs.File.Files.{StandsFor, StandsAround, StandsBeforeOrWith}

stands_around : (version : Version) (issuer : List ℕ) (entries : List Entry) (planned : Planned) (file : List ℕ) →
    StandsFor version issuer entries file → StandsAround version issuer entries planned file
stands_around version issuer entries (Again receipt) file s = s
stands_around version issuer entries (Refused why) file s = s
stands_around version issuer entries (Made entry) file s = inl s

pub none_gained : (entries : List Entry) (gained : Entry) → entries ≡ entries ++ gained ∷ [] → ⊥
none_gained entries gained is = omega (arith, ap length is, length-append entries (gained ∷ []))

last_same : (entries : List Entry) (a b : Entry) → entries ++ a ∷ [] ≡ entries ++ b ∷ [] → a ≡ b
last_same [] a b is = cc
last_same (e ∷ entries) a b is =
    let rest : entries ++ a ∷ [] ≡ entries ++ b ∷ [] = cc in
    last_same entries a b rest

-- an entry that the history gained is the one that was added
pub of_gained : {X : Type 0} (P : Entry → Type 0) (old new : List Entry) (r : Result X StoreFault) (added gained : Entry) →
    OnOk r (new ≡ old ++ added ∷ []) → OnErr r (new ≡ old) → OnOk r (P added) → new ≡ old ++ gained ∷ [] → P gained
of_gained P old new (Ok x) added gained more same wrote is = subst P (last_same old added gained (sym more ∙ is)) wrote
of_gained P old new (Err fault) added gained more same wrote is = absurd (none_gained old gained (sym same ∙ is))

-- where nothing is added and no call of the disk is made
pub not_made : (old : History) (ask : Asked) (coming coming_after : ℕ → Option ℕ) (tells : Bool) (t : OnDisk)
    (told : Result Reply StoreFault) (seconds : ℕ) →
    IsTold (coming 0) seconds → MovedBy 1 coming coming_after → IsReply old.version old.issuer old.entries ask seconds told [] →
    (IsTrue tells → LeavesOnly t t (StandsFor old.version old.issuer old.entries)) → Takes (record {
      old = old;
      new = old;
      coming = coming;
      coming_after = coming_after;
      tells = tells;
      disk = t;
      disk_after = t;
    }) ask told
not_made old ask coming coming_after tells t told seconds reading moved reply only = record {
  seconds = seconds;
  reading = reading;
  moved = moved;
  issuer = refl;
  version = refl;
  gained = [];
  entries = sym (append-nil old.entries);
  reply = reply;
  any_moment = λ says. weaker t t (StandsFor old.version old.issuer old.entries) (StandsAround old.version old.issuer old.entries
      (answer old.version old.issuer old.entries ask seconds)) (only says)
      (λ c s. stands_around old.version old.issuer old.entries (answer old.version old.issuer old.entries ask seconds) c s);
}

-- the reply of an answer that makes nothing
pub told_again : (issuer : List ℕ) (entries : List Entry) (planned : Planned) (r : Receipt) → planned ≡ Again r →
    Tells entries planned (reply_of.Again r) []
told_again issuer entries planned r e = subst (λ (p : Planned). Tells entries p (reply_of.Again r) []) (sym e) (refl, refl)

pub told_refused : (issuer : List ℕ) (entries : List Entry) (planned : Planned) (why : Refusal) → planned ≡ Refused why →
    Tells entries planned (reply_of.Refused why) []
told_refused issuer entries planned why e = subst (λ (p : Planned). Tells entries p (reply_of.Refused why) []) (sym e)
    (refl, refl)

abbrev gained_by : Result Reply StoreFault → Entry → List Entry
gained_by (Ok reply) entry = entry ∷ []
gained_by (Err fault) entry = []

entries_by : (old new : History) (entry : Entry) (told : Result Reply StoreFault) →
    IfOk told (λ _. new.entries ≡ old.entries ++ entry ∷ []) → OnErr told (new.entries ≡ old.entries) →
    new.entries ≡ old.entries ++ gained_by told entry
entries_by old new entry (Ok reply) ok err = ok
entries_by old new entry (Err fault) ok err = err ∙ sym (append-nil old.entries)

reply_by : (version : Version) (issuer : List ℕ) (entries : List Entry) (ask : Asked) (seconds : ℕ) (entry : Entry)
    (told : Result Reply StoreFault) →
    answer version issuer entries ask seconds ≡ Made entry →
    IfOk told (λ reply. IsTaken entries entry reply) → IsReply version issuer entries ask seconds told (gained_by told entry)
reply_by version issuer entries ask seconds entry (Ok reply) made taken =
    subst (λ (p : Planned). Tells entries p reply (entry ∷ []))
    (sym made) (taken, refl)
reply_by version issuer entries ask seconds entry (Err fault) made taken = refl

-- where a record was made
pub made : (old new : History) (ask : Asked) (coming coming_after : ℕ → Option ℕ) (tells : Bool) (t u : OnDisk)
    (told : Result Reply StoreFault) (seconds : ℕ) (entry : Entry) →
    IsTold (coming 0) seconds → MovedBy 1 coming coming_after → new.issuer ≡ old.issuer → new.version ≡ old.version →
    answer old.version old.issuer old.entries ask
    seconds ≡ Made entry →
    IfOk told (λ reply. IsTaken old.entries entry reply) → IfOk told (λ _. new.entries ≡ old.entries ++ entry ∷ []) →
    OnErr told (new.entries ≡ old.entries) →
    (IsTrue tells → LeavesOnly t u (StandsBeforeOrWith old.version old.issuer old.entries entry)) → Takes (record {
      old = old;
      new = new;
      coming = coming;
      coming_after = coming_after;
      tells = tells;
      disk = t;
      disk_after = u;
    }) ask told
made old new ask coming coming_after tells t u told seconds entry reading moved issuer version planned taken ok err only =
    record {
      seconds = seconds;
      reading = reading;
      moved = moved;
      issuer = issuer;
      version = version;
      gained = gained_by told entry;
      entries = entries_by old new entry told ok err;
      reply = reply_by old.version old.issuer old.entries ask seconds entry told planned taken;
      any_moment = λ says.
          subst (λ (p : Planned). LeavesOnly t u (StandsAround old.version old.issuer old.entries p)) (sym planned) (only says);
    }
