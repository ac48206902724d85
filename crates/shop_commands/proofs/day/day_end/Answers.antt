use Rattle.std.proofs.Common.{◌≡◌, ◌∙◌, map, sym, inl, subst, OnOk, Result}
use Rattle.report.specs.declared.status.Detail.{Detail}
use Rattle.sender.specs.declared.answers.DrainFault.{DrainFault}
use Rattle.shop_commands.specs.SenderEnds.{DayRunEnds}
use Rattle.shop_commands.specs.SenderEnds.DayRunEnds.{done, write_fault, disk_fault, no_memory}
use Rattle.chain_store.specs.Replies.{is_disk_fault, is_no_memory}
use Rattle.sender_beside.specs.Days.{all_replies}
use Rattle.shop_day.specs.TillJobs.{told_in}
use Rattle.command_ends.proofs.Bytewise.{part_of_output}
use Rattle.shop_commands.proofs.DayTexts.{any_reply, sender_ends}
use Rattle.command_ends.proofs.RunEnding.{all_replied, written_either, written_whole, written_part}
use Rattle.shop_commands.proofs.day.day_end.Goals as goal

pub returns-then-one_lacks_memory : goal.returns-then-one_lacks_memory
returns-then-one_lacks_memory c = λ text s h. no_memory (part_of_output s text c.args.written h)

pub returns-then-sender_lacks_memory : goal.returns-then-sender_lacks_memory
returns-then-sender_lacks_memory c = λ text s h. no_memory (part_of_output s text c.args.written h)

pub returns-then-one_lacks_disk : goal.returns-then-one_lacks_disk
returns-then-one_lacks_disk c =
    let days = c.args.days.now in
    λ text s h. disk_fault (any_reply is_no_memory days ∙ sym c.one_lacks_memory.ensures ∙ c.if-one_lacks_memory.false)
    (sym c.sender_lacks_memory.ensures ∙ c.if-sender_lacks_memory.false)
    (inl (any_reply is_disk_fault days ∙ sym c.one_lacks_disk.ensures ∙ c.if-one_lacks_disk.true))
    (written_either text s c.args.written h)

pub returns-in-Err : goal.returns-in-Err
returns-in-Err c =
    let days = c.args.days.now in
    let memory = any_reply is_no_memory days ∙ sym c.one_lacks_memory.ensures ∙ c.if-one_lacks_memory.false in
    λ text s h. subst (λ (d : Detail). DayRunEnds (all_replies (map told_in days)) c.args.answer.now c.args.noted c.args.records
    text s d) (sym c.sender_end.ensures)
    (sender_ends (all_replies (map told_in days)) c.args.answer.now _ c.args.noted c.args.records text s c.in-Err.is
    (all_replied (all_replies (map told_in days)) memory (any_reply is_disk_fault days ∙ sym c.one_lacks_disk.ensures ∙
    c.if-one_lacks_disk.false)) memory
    (sym c.sender_lacks_memory.ensures ∙ c.if-sender_lacks_memory.false) (written_either text s c.args.written h))

pub returns-in-Ok : goal.returns-in-Ok
returns-in-Ok c =
    let days = c.args.days.now in
    λ text s h. done
    (all_replied (all_replies (map told_in days)) (any_reply is_no_memory days ∙ sym c.one_lacks_memory.ensures ∙
    c.if-one_lacks_memory.false)
    (any_reply is_disk_fault days ∙ sym c.one_lacks_disk.ensures ∙ c.if-one_lacks_disk.false))
    c.in_default.is
    (subst (λ (r : Result (Unit {0}) DrainFault). OnOk r (c.args.noted ≡ c.args.records)) c.in_default.is c.requires.counts)
    (written_whole text s c.args.written _ c.in-Ok.is h)

pub returns-in-Err-written : goal.returns-in-Err-written
returns-in-Err-written c =
    let days = c.args.days.now in
    λ text s h. write_fault
    (all_replied (all_replies (map told_in days)) (any_reply is_no_memory days ∙ sym c.one_lacks_memory.ensures ∙
    c.if-one_lacks_memory.false)
    (any_reply is_disk_fault days ∙ sym c.one_lacks_disk.ensures ∙ c.if-one_lacks_disk.false))
    c.in_default.is
    (subst (λ (r : Result (Unit {0}) DrainFault). OnOk r (c.args.noted ≡ c.args.records)) c.in_default.is c.requires.counts)
    (written_part text s c.args.written _ c.in-Err-written.is h)
