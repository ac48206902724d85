-- What a shop gained, where it gained no notes but its outbox's own.
use Rattle.std.proofs.Common.{◌≡◌, ℕ, ◌+◌, List, [], ◌∷◌, ◌++◌, refl, ◌∙◌, ap, subst, length, length-append, drop}
use Rattle.std.proofs.Common.{arith, append_assoc, true, get_or}
use Rattle.std.proofs.Math.Seq.{drop-append_seam, drop-length}
use Rattle.std.proofs.lemmas.List.Elements.{filter_map-append}
use Rattle.std.specs.Prelude.{Contains}
use Rattle.record_codec.specs.declared.entry.Entry.{Entry}
use Rattle.record_codec.specs.declared.entry.Entry.TheVariants.{Rec, Notes}
use Rattle.shop_core.specs.History.{is_record}
use Rattle.shop_core.specs.Items.{entry_in, entries_of}
use Rattle.shop_core.specs.declared.items.Item.{Item}
use Rattle.shop_core.specs.declared.items.Item.TheVariants as recorded
use Rattle.once_world.specs.Laws.{AreRecords, CameQuietly, CameBesideOwn}
use Rattle.once_world.specs.Outbox.{AreOwnNotes}
use Rattle.once_world.proofs.Lists.{all_front, all_back}

entries_both : (xs ys : List Item) → entries_of (xs ++ ys) ≡ entries_of xs ++ entries_of ys
entries_both xs ys = filter_map-append entry_in xs ys

-- no places, no notes
own_none : (at : ℕ) (items : List Item) → AreOwnNotes [] at items → AreRecords (entries_of items)
own_none at [] own = tt
own_none at (recorded.Entry (Rec till serial sealed) ∷ items) own = (refl, own_none (at + 1) items own)
own_none at (recorded.Entry (Notes first lines) ∷ items) own = absurd (let lt = own.0.1 in omega arith)
own_none at (recorded.Stop faults torn ∷ items) own = own_none (at + 1) items own

one_place : (p at : ℕ) → Contains (p ∷ []) at → p ≡ at
one_place p at (k, lt, is) = let z : k ≡ 0 = omega arith in subst (λ (j : ℕ). get_or (p ∷ []) j at ≡ at) z is

-- one place after them
own_before : (p at : ℕ) (items last : List Item) → p ≡ at + length items → AreOwnNotes (p ∷ []) at (items ++ last) →
    AreRecords (entries_of items)
own_before p at [] last e own = tt
own_before p at (recorded.Entry (Rec till serial sealed) ∷ items) last e own =
    (refl, own_before p (at + 1) items last (omega arith) own)
own_before p at (recorded.Entry (Notes first lines) ∷ items) last e own = absurd (let same = one_place p at own.0 in omega arith)
own_before p at (recorded.Stop faults torn ∷ items) last e own = own_before p (at + 1) items last (omega arith) own

past_none : (own : List ℕ) → drop (length own) own ≡ []
past_none own = drop-length own

-- what came before the look and after it, where nothing of its own was added
pub came_quietly : CameQuietly
came_quietly before look after g own h then gains =
    let items : after.items ≡ before.items ++ (g.items.rest ++ h.items.rest) =
    h.items.is ∙ ap (λ (xs : List Item). xs ++ h.items.rest) g.items.is ∙ append_assoc before.items g.items.rest h.items.rest in
    let gained : drop (length before.items) after.items ≡ g.items.rest ++ h.items.rest =
    ap (λ (xs : List Item). drop (length before.items) xs) items ∙ drop-append_seam before.items (g.items.rest ++ h.items.rest) in
    let places : drop (length before.own) after.own ≡ [] = ap (λ (xs : List ℕ). drop (length before.own) xs) (then ∙ own) ∙
    past_none before.own in
    let all : AreRecords (entries_of (g.items.rest ++ h.items.rest)) =
    own_none (length before.items) (g.items.rest ++ h.items.rest)
    (subst (λ (xs : List Item). AreOwnNotes [] (length before.items) xs) gained
    (subst (λ (ps : List ℕ). AreOwnNotes ps (length before.items) (drop (length before.items) after.items)) places gains)) in
    let both = subst (λ (es : List Entry). AreRecords es) (entries_both g.items.rest h.items.rest) all in (
      all_front (λ (e : Entry). is_record e ≡ true) (entries_of g.items.rest) (entries_of h.items.rest) both,
      all_back (λ (e : Entry). is_record e ≡ true) (entries_of g.items.rest) (entries_of h.items.rest) both,
    )

-- the same, where one item of its own was
pub came_by_own : CameBesideOwn
came_by_own before look after item g own a gains =
    let last : List Item = item (look.items ++ a.others) ∷ [] in
    let came : List Item = g.items.rest ++ a.others in
    let there : look.items ++ a.others ≡ before.items ++ came = ap (λ (xs : List Item). xs ++ a.others) g.items.is ∙
    append_assoc before.items g.items.rest a.others in
    let items : after.items ≡ before.items ++ (came ++ last) =
    a.items ∙ ap (λ (xs : List Item). xs ++ last) there ∙ append_assoc before.items came last in
    let gained : drop (length before.items) after.items ≡ came ++ last =
    ap (λ (xs : List Item). drop (length before.items) xs) items ∙ drop-append_seam before.items (came ++ last) in
    let p : ℕ = length (look.items ++ a.others) in
    let place : p ≡ length before.items + length came = ap length there ∙ length-append before.items came in
    let places : drop (length before.own) after.own ≡ p ∷ [] =
    ap (λ (xs : List ℕ). drop (length before.own) xs) (a.own ∙ ap (λ (xs : List ℕ). xs ++ p ∷ []) own) ∙ drop-append_seam
    before.own (p ∷ []) in
    let all : AreRecords (entries_of came) =
    own_before p (length before.items) came last place
    (subst (λ (xs : List Item). AreOwnNotes (p ∷ []) (length before.items) xs) gained
    (subst (λ (ps : List ℕ). AreOwnNotes ps (length before.items) (drop (length before.items) after.items)) places gains)) in
    let both = subst (λ (es : List Entry). AreRecords es) (entries_both g.items.rest a.others) all in (
      all_front (λ (e : Entry). is_record e ≡ true) (entries_of g.items.rest) (entries_of a.others) both,
      all_back (λ (e : Entry). is_record e ≡ true) (entries_of g.items.rest) (entries_of a.others) both,
    )
