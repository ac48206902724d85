use Rattle.std.proofs.Common.{◌≡◌, ℕ, List, sym, ap, subst, length, arith}
use Rattle.std.proofs.lemmas.Result.{err_from_is_err_and}
use Rattle.stamps.specs.Text.{date_text_of}
use Rattle.verify_link.specs.declared.parts.Host.{Host}
use Rattle.verify_link.specs.declared.parts.LinkParts.{LinkParts}
use Rattle.verify_link.specs.Parts.{beginning, link_text}
use Rattle.verify_link.specs.Reading.{Begins, HasPlace, after_beginning, IsFieldAt}
use Rattle.verify_link.proofs.CapitalLemmas.{agree_from}
use Rattle.verify_link.proofs.PlaceLemmas.{place_next, fault_reading, whole_link}
use Rattle.verify_link.proofs.reading.read_fields.Goals as goal

placed : (host : Host) (text front : List ℕ) → front ≡ beginning host → Begins (beginning host) text →
    HasPlace text 0 (length front)
placed host text front is begins = subst (λ (n : ℕ). HasPlace text 0 n) (ap length (sym is)) (after_beginning host begins)

pub returns-in_err-nif : goal.returns-in_err-nif
returns-in_err-nif c =
    let p = err_from_is_err_and c.from_residual.result c.from_residual.ensures.1 in
    rw (p.1, p.2) (fault_reading 0 _ c.args.text.now _ (omega arith)
    (placed c.args.host c.args.text.now c.beginning.result.now c.beginning.ensures c.requires) c.in_err-nif.ensures.err)

pub returns-in_err-num : goal.returns-in_err-num
returns-in_err-num c =
    let text = c.args.text.now in
    let first = placed c.args.host text c.beginning.result.now c.beginning.ensures c.requires in
    let second = place_next 0 (length c.beginning.result.now) c.in_ok-nif.at text c.in_ok-nif.nif first c.in_ok-nif.ensures.ok in
    let p = err_from_is_err_and c.from_residual-in_err-num.result c.from_residual-in_err-num.ensures.1 in
    rw (p.1, p.2) (fault_reading 1 _ text _ (omega arith) second c.in_err-num.ensures.err)

pub returns-in_err-day : goal.returns-in_err-day
returns-in_err-day c =
    let text = c.args.text.now in
    let first = placed c.args.host text c.beginning.result.now c.beginning.ensures c.requires in
    let second = place_next 0 (length c.beginning.result.now) c.in_ok-nif.at text c.in_ok-nif.nif first c.in_ok-nif.ensures.ok in
    let third = place_next 1 c.in_ok-nif.at c.in_ok-num.at text c.in_ok-num.num second c.in_ok-num.ensures.ok in
    let p = err_from_is_err_and c.from_residual-in_err-day.result c.from_residual-in_err-day.ensures.1 in
    rw (p.1, p.2) (fault_reading 2 _ text _ (omega arith) third c.in_err-day.ensures.err)

pub returns-in_err-total : goal.returns-in_err-total
returns-in_err-total c =
    let text = c.args.text.now in
    let first = placed c.args.host text c.beginning.result.now c.beginning.ensures c.requires in
    let second = place_next 0 (length c.beginning.result.now) c.in_ok-nif.at text c.in_ok-nif.nif first c.in_ok-nif.ensures.ok in
    let third = place_next 1 c.in_ok-nif.at c.in_ok-num.at text c.in_ok-num.num second c.in_ok-num.ensures.ok in
    let fourth = place_next 2 c.in_ok-num.at c.in_ok-day.at text (date_text_of c.in_ok-day.day) third c.in_ok-day.ensures.ok in
    let p = err_from_is_err_and c.from_residual-in_err-total.result c.from_residual-in_err-total.ensures.1 in
    rw (p.1, p.2) (fault_reading 3 _ text _ (omega arith) fourth c.in_err-total.ensures.err)

pub returns : goal.returns
returns c =
    let text = c.args.text.now in
    let parts : LinkParts = record {
      host = c.args.host;
      nif = c.in_ok-nif.nif;
      num = c.in_ok-num.num;
      day = c.in_ok-day.day;
      total = c.in_ok-total.total;
    } in
    let nif = subst (λ (n : ℕ). IsFieldAt 0 text n c.in_ok-nif.nif c.in_ok-nif.at) (ap length c.beginning.ensures)
    c.in_ok-nif.ensures.ok in (
      record {
        nif = nif.valid;
        num = c.in_ok-num.ensures.ok.valid;
        day = c.in_ok-day.ensures.day;
        total = c.in_ok-total.ensures.total;
      },
      agree_from text (link_text parts) (whole_link text parts c.in_ok-nif.at c.in_ok-num.at c.in_ok-day.at c.requires nif
          c.in_ok-num.ensures.ok c.in_ok-day.ensures.ok c.in_ok-total.ensures.ok),
    )
