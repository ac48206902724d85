-- What is seen of a history in memory.
use Rattle.std.proofs.Common.{◌≡◌, ℕ, List, [], ◌∷◌, ◌++◌, refl, sym, ◌∙◌, ap, subst, length, map, take, ◌≤◌, ◌<◌, All}
use Rattle.std.proofs.Common.{arith, append-nil, length-append, slice_index_or}
use Rattle.std.proofs.lemmas.List.{map-append, length-drop, length-map}
use Rattle.std.proofs.lemmas.List.Elements.{All-append}
use Rattle.record_fields.specs.declared.versions.Version.{Version}
use Rattle.record_fields.specs.declared.lines.Line.{Line}
use Rattle.record_codec.specs.declared.entry.Entry.{Entry}
use Rattle.record_codec.specs.declared.entry.Entry.TheVariants.{Notes}
use Rattle.shop_core.specs.History.{recs, noted, waiting}
use Rattle.shop_core.specs.Items.{entries_of}
use Rattle.shop_core.specs.declared.items.Item.{Item}
use Rattle.shop_core.specs.declared.items.Item.TheVariants as recorded
use Rattle.shop_core.specs.Legal.{Legal, AreNext}
use Rattle.shop_core.specs.declared.waiting.Waiting.{Waiting}
use Rattle.once_world.specs.Outbox.{Sight, Grows, OwnWithin, HasNoStop, AddsOwn, HasStopped, ShowsWaiting, notes_behind}
use Rattle.once_world.specs.Outbox.{plain_sight}

-- the entries of the items are the history
pub entries_plain : (entries : List Entry) → entries_of (map recorded.Entry entries) ≡ entries
entries_plain [] = refl
entries_plain (e ∷ entries) = ap (λ (es : List Entry). e ∷ es) (entries_plain entries)

legal_plain : (version : Version) (issuer : List ℕ) (entries : List Entry) → Legal version issuer entries →
    Legal version issuer (entries_of (map recorded.Entry entries))
legal_plain version issuer entries legal = subst (λ (es : List Entry). Legal version issuer es)
    (sym (entries_plain entries)) legal

-- more entries are more items
pub grows_by : (version version_then : Version) (issuer issuer_then : List ℕ) (entries entries_then more : List Entry)
    (own own_then : List ℕ) →
    version_then ≡ version → issuer_then ≡ issuer → entries_then ≡ entries ++ more → Legal version_then issuer_then entries_then →
    Grows (plain_sight version issuer entries own) (plain_sight version_then issuer_then entries_then own_then)
grows_by version version_then issuer issuer_then entries entries_then more own own_then kept same e legal = record {
  issuer = same;
  version = kept;
  items = record {
    rest = map recorded.Entry more;
    is = ap (λ (es : List Entry). map recorded.Entry es) e ∙
        map-append recorded.Entry entries more;
  };
  legal = legal_plain version_then issuer_then entries_then legal;
}

-- nothing was added
pub grows_same : (version version_then : Version) (issuer issuer_then : List ℕ) (entries entries_then : List Entry)
    (own own_then : List ℕ) →
    version_then ≡ version → issuer_then ≡ issuer → entries_then ≡ entries → Legal version_then issuer_then entries_then →
    Grows (plain_sight version issuer entries own) (plain_sight version_then issuer_then entries_then own_then)
grows_same version version_then issuer issuer_then entries entries_then own own_then kept same e legal =
    grows_by version version_then issuer issuer_then entries entries_then [] own own_then kept same
    (e ∙ sym (append-nil entries)) legal

-- the places of its own notes are below the count of entries
pub within_plain : (version : Version) (issuer : List ℕ) (entries : List Entry) (own : List ℕ) →
    All (λ (p : ℕ). p < length entries) own →
    OwnWithin (plain_sight version issuer entries own)
within_plain version issuer entries own h = subst (λ (n : ℕ). All (λ (p : ℕ). p < n) own)
    (sym (length-map entries recorded.Entry)) h

all_below : (n m : ℕ) (own : List ℕ) → n ≤ m → All (λ (p : ℕ). p < n) own → All (λ (p : ℕ). p < m) own
all_below n m own le h = λ k d lt. let one = h k d lt in omega (arith, one, le)

alone : (n m : ℕ) → n < m → All (λ (p : ℕ). p < m) (n ∷ [])
alone n m lt = λ k d within. let z : k ≡ 0 = omega arith in subst (λ (j : ℕ). slice_index_or (n ∷ []) j d < m) (sym z) lt

-- one place more
pub within_more : (entries : List Entry) (e : Entry) (own : List ℕ) → All (λ (p : ℕ). p < length entries) own →
    All (λ (p : ℕ). p < length (entries ++ e ∷ [])) (own ++ length entries ∷ [])
within_more entries e own h =
    let n = length (entries ++ e ∷ []) in
    let more : length entries < n = let sum = length-append entries (e ∷ []) in omega (arith, sum) in
    All-append (λ (p : ℕ). p < n) own (length entries ∷ []) (all_below (length entries) n own (omega (arith, more)) h)
    (alone (length entries) n more)

-- nothing has stopped it, and no stop is its last item
no_stop : (entries : List Entry) → HasNoStop (map recorded.Entry entries)
no_stop [] = tt
no_stop (e ∷ entries) = (tt, no_stop entries)

ends_in_none : (entries : List Entry) (before : List Item) (faults : ℕ) (torn : Entry) → map recorded.Entry entries ≡ before ++
    recorded.Stop faults torn ∷ [] → ⊥
ends_in_none [] [] faults torn e = absurd cc
ends_in_none [] (x ∷ before) faults torn e = absurd cc
ends_in_none (x ∷ entries) [] faults torn e = absurd cc
ends_in_none (x ∷ entries) (y ∷ before) faults torn e = let rest : map recorded.Entry entries ≡ before ++ recorded.Stop faults
    torn ∷ [] = cc in ends_in_none entries before faults torn rest

pub never_stopped : (old : Sight) (version : Version) (issuer : List ℕ) (entries : List Entry) (own : List ℕ) (faults : ℕ) →
    HasStopped old (plain_sight version issuer entries own) faults → ⊥
never_stopped old version issuer entries own faults h = ends_in_none entries h.before faults h.torn h.items

-- notes of these lines were
pub adds_notes : (version version_then : Version) (issuer issuer_then : List ℕ) (entries entries_then : List Entry)
    (own own_then : List ℕ) (lines : List Line) →
    entries_then ≡ entries ++ Notes (length (noted entries)) lines ∷ [] → own_then ≡ own ++ length entries ∷ [] →
    AddsOwn (plain_sight version issuer entries own) (plain_sight version_then issuer_then entries_then own_then)
    (λ items. recorded.Entry (notes_behind items lines))
adds_notes version version_then issuer issuer_then entries entries_then own own_then lines is own_is =
    let items : List Item = map recorded.Entry entries in
    let e : Entry = Notes (length (noted entries)) lines in
    let same : e ≡ notes_behind items lines = ap (λ (es : List Entry). Notes (length (noted es)) lines)
    (sym (entries_plain entries)) in
    let alone : map recorded.Entry entries_then ≡ items ++ recorded.Entry (notes_behind items lines) ∷ [] =
    ap (λ (es : List Entry). map recorded.Entry es) is ∙ map-append recorded.Entry entries (e ∷ []) ∙
    ap (λ (x : Entry). items ++ recorded.Entry x ∷ []) same in
    let none : items ≡ items ++ [] = sym (append-nil items) in
    let at : length entries ≡ length (items ++ []) = sym (length-map entries recorded.Entry) ∙ ap length none in
    record {
      others = [];
      going_on = subst HasNoStop none (no_stop entries);
      items = subst (λ (xs : List Item). map recorded.Entry entries_then ≡ xs ++ recorded.Entry (notes_behind xs lines) ∷ []) none
          alone;
      own = own_is ∙ ap (λ (k : ℕ). own ++ k ∷ []) at;
    }

pub shows_plain : (version : Version) (issuer : List ℕ) (entries : List Entry) (own : List ℕ) (max : ℕ) (shown : Waiting) →
    shown.noted ≡ length (noted entries) → shown.records ≡ length (recs entries) → shown.list ≡ take max (waiting entries) →
    ShowsWaiting (plain_sight version issuer entries own) max shown
shows_plain version issuer entries own max shown a b c =
    let same : entries ≡ entries_of (map recorded.Entry entries) = sym (entries_plain entries) in
    record {
      noted_count = a ∙ ap (λ (es : List Entry). length (noted es)) same;
      records_count = b ∙ ap (λ (es : List Entry). length (recs es)) same;
      first = c ∙ ap (λ (es : List Entry). take max (waiting es)) same;
    }

-- lines that no more wait than wait for can be noted
pub next_plain : (entries : List Entry) (lines : List Line) → 1 ≤ length lines → length lines ≤ 1000 →
    length lines ≤ length (waiting (entries_of (map recorded.Entry entries))) → AreNext entries (length (noted entries)) lines
next_plain entries lines some few fits =
    let here : length lines ≤ length (waiting entries) = subst (λ (es : List Entry). length lines ≤ length (waiting es))
    (entries_plain entries) fits in
    record {
      next = refl;
      some = some;
      few = few;
      within = omega (
        arith,
        here,
        length-drop (length (noted entries))
            (recs entries),
      );
    }
