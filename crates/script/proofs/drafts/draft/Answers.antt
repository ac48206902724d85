use Rattle.std.proofs.Common.{[], ◌∷◌, ◌++◌, refl}
use Rattle.script.specs.SoFar.{party_of}
use Rattle.script.proofs.Drafting.{next_field, bad_answer, all_read}
use Rattle.script.proofs.drafts.draft.Goals as goal

pub loop-field-init : goal.loop-field-init
loop-field-init c = record {
  front = [];
  items = [];
  halfway = record { split = refl; said = refl; shown = c.nothing-seen.ensures; together = c.nothing-gathered.ensures };
}

pub returns-in-Err : goal.returns-in-Err
returns-in-Err c =
    let inv = c.loop-field.invariant in
    bad_answer (party_of c.args.customers.now) c.args.kind _ inv.front c.loop-field.fields c.next.new.self c.in-Some.field.now
    inv.items c.in-Err.fault c.loop-field.seen c.loop-field.gathered
    inv.halfway c.in-Some.ensures c.in-Err.ensures

pub loop-field-preserved : goal.loop-field-preserved
loop-field-preserved c =
    let inv = c.loop-field.invariant in
    record {
      front = inv.front ++ c.in-Some.field.now ∷ [];
      items = inv.items ++ c.in-Ok.item ∷ [];
      halfway = next_field (party_of c.args.customers.now) c.args.fields.now inv.front c.loop-field.fields c.next.new.self
          c.in-Some.field.now inv.items c.in-Ok.item c.loop-field.seen c.with-seen.result c.loop-field.gathered c.add.new.self
          inv.halfway c.in-Some.ensures c.in-Ok.ensures c.with-seen.ensures (c.in_ok-add-in-Ok.ensures inv.items
          inv.halfway.together);
    }

pub returns : goal.returns
returns c =
    let inv = c.loop-field.invariant in
    rw (all_read (party_of c.args.customers.now) c.args.kind _ inv.front c.loop-field.fields inv.items c.loop-field.seen
    c.loop-field.gathered inv.halfway c.in_default.ensures)
    (c.draft_of.ensures inv.items inv.halfway.together)
