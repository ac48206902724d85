use Rattle.std.proofs.Common.{◌≡◌, ◌∙◌, sym, ap, ℕ, List, [], length, get_or, bytes_eq, ◌<◌, arith}
use Rattle.sender.proofs.Saids.{said_more}
use Rattle.sender.proofs.evidence.said_of.Goals as goal

pub loop-i-preserved : goal.loop-i-preserved
loop-i-preserved c =
    let there : c.as_slice-huellas.result.now ≡ c.args.reply.now.huellas = c.as_slice-huellas.ensures ∙ c.huellas.ensures in
    let lt : c.loop-i.i < length c.args.reply.now.huellas = (let h = ap length there in let k = c.loop-i-test.true in omega arith)
    in
    said_more c.args.reply.now.huellas c.args.reply.now.lines c.args.huella.now c.loop-i.i lt
    (ap length (sym c.lines.ensures.value) ∙ c.lines.ensures.matched)
    (ap (λ (hs : List (List ℕ)). bytes_eq (get_or hs c.loop-i.i []) c.args.huella.now) (sym there) ∙ sym c.if-eq.ensures)
    c.loop-i.invariant
