use Rattle.std.proofs.Common.{◌∙◌, sym, ap}
use Rattle.batches.specs.Batches.{huellas_of}
use Rattle.agency_port.specs.Ledger.{Names}
use Rattle.agency_port.specs.Practice.{is_reply_to}
use Rattle.agency_port.proofs.Replies.{decides, same_test}
use Rattle.agency_port.proofs.fates.is_reply_to.Goals as goal

pub returns : goal.returns
returns c =
    let reply = c.args.reply.now in
    let batch = c.args.batch.now in
    same_test c.are_of.result (is_reply_to reply batch) (Names reply batch) (decides reply batch)
    (λ yes. sym c.huellas.ensures ∙ c.are_of.ensures.0 yes ∙ ap huellas_of c.as_slice.ensures.value)
    (λ names. c.are_of.ensures.1 (c.huellas.ensures ∙ names ∙ ap huellas_of (sym c.as_slice.ensures.value)))
