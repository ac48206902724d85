use Rattle.std.proofs.Common.{◌∙◌, ap}
use Rattle.sha2.specs.Sha256.{sha256}
use Rattle.huella.specs.Texts.{previous_text}
use Rattle.huella.proofs.Fed.{fed_joined}
use Rattle.huella.proofs.sealing.digest_of_fields.Goals as goal

pub returns : goal.returns
returns c =
    let h1 = c.feed.ensures _ c.new-hasher.ensures in
    let h2 = c.feed-2.ensures _ h1 in
    let h3 = c.feed-3.ensures _ h2 in
    let h4 = c.feed-4.ensures _ h3 in
    let h5 = c.feed-5.ensures _ h4 in
    let h6 = c.feed-6.ensures _ h5 in
    let h8 = c.feed_link.ensures _ h6 in
    let h9 = c.feed-7.ensures _ h8 in
    let a = c.args in
    c.finalize.ensures _ h9 ∙ ap sha256 (fed_joined a.issuer.now a.num.now a.date.now a.kind.now a.cuota.now a.total.now
    (previous_text a.link.now) a.moment.now)
