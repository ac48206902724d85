use Rattle.std.proofs.Common.{List, ℕ, length}
use Rattle.script.specs.SoFar.{party_of}
use Rattle.script.specs.declared.options.Item.{Item}
use Rattle.script.proofs.Drafting.{IsHalfway}
use Rattle.script.proofs.drafts.draft.Given as goal

abbrev pub invariant-loop-field : goal.invariant-loop-field
invariant-loop-field l = record {
  front : List (List ℕ);
  items : List Item;
  halfway : IsHalfway (party_of l.customers) l.initial.fields front l.fields items l.seen l.gathered;
}

abbrev pub decreases-loop-field : goal.decreases-loop-field
decreases-loop-field l = length l.fields
