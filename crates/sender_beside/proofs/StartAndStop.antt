-- What a shop's items say at its start, and where it has stopped.
use Rattle.std.proofs.Common.{◌≡◌, ℕ, List, [], ◌++◌, map, Option, Some, None, refl, ap, sym, ◌∙◌, subst, append-nil}
use Rattle.record_fields.specs.declared.records.Sealed.{Sealed}
use Rattle.record_fields.specs.declared.lines.Line.{Line}
use Rattle.record_codec.specs.declared.entry.Entry.{Entry}
use Rattle.chain_lock.specs.Known.{Known, IsNew}
use Rattle.shop_core.specs.Items.{entries_of}
use Rattle.shop_core.specs.declared.items.Item.{Item}
use Rattle.shop_core.specs.declared.items.Item.TheVariants as item
use Rattle.once_world.specs.Agreement.{Agree}
use Rattle.once_world.specs.Outbox.{history_of, plain_sight}
use Rattle.till_calls.specs.Mark.{sight_by}
use Rattle.till_calls.specs.Root.{Root, stop_in, with_torn}
use Rattle.sender_session.proofs.Entries.{entries_both, entries_back}
use Rattle.sender_beside.specs.Days.{stop_of, torn_of}

no_entry : (stopped : Option ℕ) (torn : Option Entry) → entries_of (stop_in stopped torn) ≡ []
no_entry (Some n) (Some t) = refl
no_entry (Some n) None = refl
no_entry None torn = refl

pub entries_in : (es : List Entry) (stopped : Option ℕ) (torn : Option Entry) →
    entries_of (map item.Entry es ++ stop_in stopped torn) ≡ es
entries_in es stopped torn =
    entries_both (map item.Entry es) (stop_in stopped torn) ∙ ap (λ (l : List Entry). l ++ entries_of (stop_in stopped torn))
    (entries_back es)
    ∙ ap (λ (l : List Entry). es ++ l) (no_entry stopped torn) ∙ append-nil es

-- a history with its torn entry, by the stop of its store
pub with_stop : (es : List Entry) (stopped : Option ℕ) (torn : Option Entry) → with_torn es stopped torn ≡ es ++ torn_of
    (stop_of stopped torn)
with_stop es (Some n) (Some t) = refl
with_stop es (Some n) None = sym (append-nil es)
with_stop es None torn = sym (append-nil es)

-- a new seat sees the history at the start
pub sight_new : {C : Type 0} (base : List Item) (root : Root C) (k : Known Item (Root C)) → IsNew base root k →
    base ≡ map item.Entry root.history → sight_by k ≡ plain_sight root.version root.issuer root.history []
sight_new base root k new is = rw (new.root_is, new.seen, new.own, is) refl

-- a new seat agrees where the history at the start does
pub agree_new : {C : Type 0} (base : List Item) (root : Root C) (k : Known Item (Root C)) (processed : List (Sealed × Line))
    (sent : List (List Sealed)) → IsNew base root k → base ≡ map item.Entry root.history →
    Agree root.history processed sent → Agree (history_of (sight_by k)) processed sent
agree_new base root k processed sent new is agree =
    let e : history_of (sight_by k) ≡ root.history = ap history_of (sight_new base root k new is) ∙ entries_back root.history in
    subst (λ (l : List Entry). Agree l processed sent) (sym e) agree
