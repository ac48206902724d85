-- What the sender sees of a shop: the items that it has seen so far, and which of them its own notes added.
use Rattle.std.specs.Prelude.{◌≡◌, ℕ, ◌+◌, ◌<◌, ◌≤◌, List, [], ◌∷◌, ◌++◌, length, take, drop, map, Result, Ok, Err, ⊤, All}
use Rattle.std.specs.Prelude.{Contains}
use Rattle.std.specs.List.{AllByRecursion}
use Rattle.record_fields.specs.declared.versions.Version.{Version}
use Rattle.record_fields.specs.declared.lines.Line.{Line}
use Rattle.record_codec.specs.declared.entry.Entry.{Entry}
use Rattle.record_codec.specs.declared.entry.Entry.TheVariants.{Rec, Notes}
use Rattle.journal.specs.declared.faults.StoreFault.{StoreFault}
use Rattle.journal.specs.declared.faults.StoreFault.TheVariants.{DiskFault, Stopped, NoMemory}
use Rattle.shop_core.specs.History.{History, recs, noted, waiting}
use Rattle.shop_core.specs.Items.{entries_of}
use Rattle.shop_core.specs.declared.items.Item.{Item}
use Rattle.shop_core.specs.declared.items.Item.TheVariants as recorded
use Rattle.shop_core.specs.Legal.{Legal}
use Rattle.shop_core.specs.declared.waiting.Waiting.{Waiting}
use Rattle.shop_core.specs.Prefix.{IsPrefix}

-- the shop's issuer, the version of its history, the items that were seen, and the places, from 0, of those that its own notes
-- added
pub record Sight : Type 0 where
  pub issuer : List ℕ
  pub version : Version
  pub items : List Item
  pub own : List ℕ

abbrev pub history_of : Sight → List Entry
history_of s = entries_of s.items

-- each place of its own is that of an item which was seen
abbrev pub OwnWithin : Sight → Type 0
OwnWithin s = All (λ (place : ℕ). place < length s.items) s.own

-- what is seen grows, and is a legal history of the one issuer
pub record Grows (old new : Sight) : Type 0 where
  pub issuer : new.issuer ≡ old.issuer
  pub version : new.version ≡ old.version
  pub items : IsPrefix old.items new.items
  pub legal : Legal new.version new.issuer (history_of new)

-- the two counts, and the first waiting records
pub record ShowsWaiting (seen : Sight) (max : ℕ) (shown : Waiting) : Type 0 where
  pub noted_count : shown.noted ≡ length (noted (history_of seen))
  pub records_count : shown.records ≡ length (recs (history_of seen))
  pub first : shown.list ≡ take max (waiting (history_of seen))

-- these lines as the next ones after these items
abbrev pub notes_behind : List Item → List Line → Entry
notes_behind items lines = Notes (length (noted (entries_of items))) lines

-- nothing has stopped the shop
abbrev pub IsEntry : Item → Type 0
IsEntry (recorded.Entry e) = ⊤
IsEntry (recorded.Stop faults torn) = ⊥

abbrev pub HasNoStop : List Item → Type 0
HasNoStop items = AllByRecursion IsEntry items

-- one item more, its own, after those that others added; nothing had stopped the shop before
pub record AddsOwn (old new : Sight) (item : List Item → Item) : Type 0 where
  pub others : List Item
  pub going_on : HasNoStop (old.items ++ others)
  pub items : new.items ≡ (old.items ++ others) ++ item (old.items ++ others) ∷ []
  pub own : new.own ≡ old.own ++ length (old.items ++ others) ∷ []

-- The stop that this call recorded, with the notes that may be in the file. The lines are no more than wait in the history in
-- front of it
pub record StopsHere (old new : Sight) (lines : List Line) : Type 0 where
  pub faults : ℕ
  pub adds : AddsOwn old new (λ items. recorded.Stop faults (notes_behind items lines))
  pub fits : length (noted (history_of new)) + length lines ≤ length (recs (history_of new))

-- the last item is a stop with this count, which an earlier call recorded: this one added nothing
pub record HasStopped (old new : Sight) (faults : ℕ) : Type 0 where
  pub before : List Item
  pub torn : Entry
  pub items : new.items ≡ before ++ recorded.Stop faults torn ∷ []
  pub own : new.own ≡ old.own

-- what a note of these lines adds
abbrev pub NotedBy : Sight → Sight → List Line → Result (Unit {0}) StoreFault → Type 0
NotedBy old new lines (Ok done) = AddsOwn old new (λ items. recorded.Entry (notes_behind items lines))
NotedBy old new lines (Err DiskFault) = StopsHere old new lines
NotedBy old new lines (Err (Stopped faults)) = HasStopped old new faults
NotedBy old new lines (Err NoMemory) = new.own ≡ old.own

-- what is seen of a history without a stop
abbrev pub plain_sight : Version → List ℕ → List Entry → List ℕ → Sight
plain_sight version issuer entries own = record {
  issuer = issuer;
  version = version;
  items = map recorded.Entry
      entries;
  own = own;
}

-- the same, by the history and the places of its own notes
abbrev pub seen_of : History → List ℕ → Sight
seen_of history own = plain_sight history.version history.issuer history.entries own

-- the notes among these items, the first of which stands at this place, stand at places of its own
abbrev pub AreOwnNotes : List ℕ → ℕ → List Item → Type 0
AreOwnNotes own at [] = ⊤
AreOwnNotes own at (recorded.Entry (Rec till serial sealed) ∷ items) = AreOwnNotes own (at + 1) items
AreOwnNotes own at (recorded.Entry (Notes first lines) ∷ items) = Contains own at × AreOwnNotes own (at + 1) items
AreOwnNotes own at (recorded.Stop faults torn ∷ items) = AreOwnNotes own (at + 1) items

-- the shop gained no notes but its outbox's own
abbrev pub GainsOwnNotes : Sight → Sight → Type 0
GainsOwnNotes before after = AreOwnNotes (drop (length before.own) after.own) (length before.items)
    (drop (length before.items) after.items)
