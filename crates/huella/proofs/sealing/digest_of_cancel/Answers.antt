use Rattle.std.proofs.Common.{◌∙◌, ap}
use Rattle.sha2.specs.Sha256.{sha256}
use Rattle.huella.specs.Texts.{previous_text}
use Rattle.huella.proofs.Fed.{fed_cancel}
use Rattle.huella.proofs.sealing.digest_of_cancel.Goals as goal

pub returns : goal.returns
returns c =
    let h1 = c.feed.ensures _ c.new-hasher.ensures in
    let h2 = c.feed-2.ensures _ h1 in
    let h3 = c.feed-3.ensures _ h2 in
    let h4 = c.feed_link.ensures _ h3 in
    let h5 = c.feed-4.ensures _ h4 in
    let a = c.args in
    c.finalize.ensures _ h5 ∙ ap sha256 (fed_cancel a.issuer.now a.num.now a.date.now (previous_text a.link.now) a.moment.now)
