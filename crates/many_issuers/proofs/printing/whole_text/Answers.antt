use Rattle.std.proofs.Common.{◌≡◌, ◌∙◌, ◌++◌, ◌∷◌, [], ◌+◌, List, ap, sym, map, take}
use Rattle.std.proofs.lemmas.List.{map_push, take_more}
use Rattle.many_issuers.specs.declared.working.Done.{Done}
use Rattle.many_issuers.proofs.Dones.{puts_more}
use Rattle.many_issuers.proofs.printing.whole_text.Goals as goal

pub loop-done-preserved : goal.loop-done-preserved
loop-done-preserved g c =
    let Finished : Type 0 = Done g.row.D.Denot g.row.C.Denot g.row.Z.Denot g.row.G.Denot in
    let dones = c.args.dones.now in
    let i = c.loop-done.done-index in
    let done = c.done-item.result in
    let is : map (λ (d : Finished). d.block) (take (i + 1) dones) ≡ map (λ (d : Finished). d.block) (take i dones) ++ done.block ∷ [] =
    ap (λ (l : List Finished). map (λ (d : Finished). d.block) l) (take_more dones i done c.loop-done-test.true ∙
    ap (λ (d : Finished). take i dones ++ d ∷ []) (sym c.done-item.is)) ∙ map_push (λ (d : Finished). d.block) (take i dones) done in
    puts_more (map (λ (d : Finished). d.block) (take i dones)) (map (λ (d : Finished). d.block) (take (i + 1) dones)) done.block
    c.loop-done.text.items c.put_block.new.text.items c.in_ok-put_block.field-0 is c.in_ok-put_block.ensures c.loop-done.invariant
