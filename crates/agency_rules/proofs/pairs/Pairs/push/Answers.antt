use Rattle.std.proofs.Common.{◌∙◌, ◌++◌, ◌∷◌, [], ◌<◌, ◌-◌, ◌^◌, List, refl, sym, ap, length, arith}
use Rattle.record_fields.specs.declared.lines.Line.{Line}
use Rattle.record_fields.specs.declared.records.Sealed.{Sealed}
use Rattle.agency_rules.specs.Indexes.{place_at, past_at}
use Rattle.agency_rules.proofs.Indexing.{first_noted, past_noted, places_still, indexed_still, indexed_more}
use Rattle.agency_rules.proofs.pairs.Pairs.push.Goals as goal

pub invariant_of-self-in_err-note_first : goal.invariant_of-self-in_err-note_first
invariant_of-self-in_err-note_first c =
    let s = c.self.inside in
    indexed_still s.list.items c.reserve.new.self.items s.places c.note_first.new.self s.pasts s.pasts
    c.in_ok-reserve.ensures.items c.self.invariant
    (λ h within. c.in_err-note_first.ensures.err h ∙ c.self.invariant.places_are h within) (λ id. refl)

pub invariant_of-self-in_err-note : goal.invariant_of-self-in_err-note
invariant_of-self-in_err-note c =
    let s = c.self.inside in
    let before = place_at s.places in
    let now = place_at c.note_first.new.self in
    indexed_still s.list.items c.reserve.new.self.items s.places c.note_first.new.self s.pasts c.note.new.self
    c.in_ok-reserve.ensures.items c.self.invariant
    (places_still s.list.items c.args.sealed before now c.self.invariant.places_are
    (first_noted s.list.items c.args.self.now c.args.sealed c.line_of.result c.is_some-known.result c.len-place.result before now
    c.self.view_is
    c.line_of.ensures c.is_some-known.ensures (c.len-place.ensures ∙ sym (ap length c.self.view_is))
    c.in_ok-note_first.ensures.ok))
    c.in_err-note.ensures.err

pub invariant_of-self-2 : goal.invariant_of-self-2
invariant_of-self-2 c =
    let s = c.self.inside in
    let few : length s.list.items < 2 ^ 32 - 2 = omega (
      arith,
      c.if-place-ge-MAX_PAIRS.false,
      c.len-place.ensures,
      ap length c.self.view_is,
    ) in
    indexed_more s.list.items c.push.new.self.items s.places c.note_first.new.self s.pasts c.note.new.self c.args.sealed
    c.args.line
    (c.in-Ok.ensures.items ∙ ap (λ (xs : List (Sealed × Line)). xs ++ (c.args.sealed, c.args.line) ∷ [])
    c.in_ok-reserve.ensures.items)
    few c.self.invariant
    (first_noted s.list.items c.args.self.now c.args.sealed c.line_of.result c.is_some-known.result c.len-place.result
    (place_at s.places) (place_at c.note_first.new.self)
    c.self.view_is c.line_of.ensures c.is_some-known.ensures (c.len-place.ensures ∙ sym (ap length c.self.view_is))
    c.in_ok-note_first.ensures.ok)
    (past_noted s.list.items c.args.self.now c.args.sealed c.args.line c.id-id.result c.past_of.result c.after-past.result
    (past_at s.pasts) (past_at c.note.new.self)
    c.self.view_is c.id-id.ensures c.past_of.ensures.value c.after-past.ensures.value c.in_ok-note.ensures.ok)

pub returns-clause-ok : goal.returns-clause-ok
returns-clause-ok c =
    c.in-Ok.ensures.items
    ∙ ap (λ (xs : List (Sealed × Line)). xs ++ (c.args.sealed, c.args.line) ∷ []) (c.in_ok-reserve.ensures.items ∙ c.self.view_is)
