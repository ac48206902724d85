use Rattle.std.proofs.Common.{◌≡◌, ◌∙◌, ◌++◌, ◌∷◌, [], ◌<◌, List, sym, ap, subst, length, length-append, arith}
use Rattle.series.specs.declared.numbers.InvoiceId.{InvoiceId}
use Rattle.record_fields.specs.Records.{id_of}
use Rattle.record_fields.specs.declared.lines.Line.{Line}
use Rattle.record_fields.specs.declared.records.Sealed.{Sealed}
use Rattle.agency_rules.specs.Judging.{past_of}
use Rattle.agency_rules.specs.Indexes.{place_at, past_at}
use Rattle.agency_rules.proofs.Indexing.{ArePlaces, ArePasts, some_past, places_fewer, pasts_fewer, notes_as}
use Rattle.agency_rules.proofs.pairs.Pairs.pop.Goals as goal

pub put_back-requires : goal.put_back-requires
put_back-requires c =
    let at = past_at c.self.inside.pasts in
    let rest = c.pop.new.self.items in
    let pair = c.in-Some.pair in
    let are : ArePasts (rest ++ pair ∷ []) at = subst (λ (xs : List (Sealed × Line)). ArePasts xs at) c.in-Some.ensures.items
    c.self.invariant.pasts_are in
    subst (λ (d : InvoiceId). 0 < (at d).count) (sym c.id-id.ensures) (some_past rest pair at are)

pub invariant_of-self : goal.invariant_of-self
invariant_of-self c =
    let was = c.self.invariant in
    let rest = c.pop.new.self.items in
    let pair = c.in-Some.pair in
    let id = id_of pair.0.body in
    let place = place_at c.self.inside.places in
    let before = past_at c.self.inside.pasts in
    let now = past_at c.put_back.new.self in
    let places : ArePlaces (rest ++ pair ∷ []) place = subst (λ (xs : List (Sealed × Line)). ArePlaces xs place)
    c.in-Some.ensures.items was.places_are in
    let pasts : ArePasts (rest ++ pair ∷ []) before = subst (λ (xs : List (Sealed × Line)). ArePasts xs before)
    c.in-Some.ensures.items was.pasts_are in
    let past : c.past_in-past.result ≡ past_of rest id =
    c.past_in-past.ensures.value ∙ ap (λ (xs : List (Sealed × Line)). past_of xs c.id-id.result) c.deref.ensures.value ∙
    ap (λ (d : InvoiceId). past_of rest d) c.id-id.ensures in
    record {
      few = omega (arith, was.few, ap length c.in-Some.ensures.items, length-append rest (pair ∷ []));
      places_are = places_fewer rest pair place places;
      pasts_are = pasts_fewer rest pair before now pasts (notes_as c.id-id.result id c.past_in-past.result (past_of rest id)
          before now c.id-id.ensures past c.put_back.ensures);
    }
