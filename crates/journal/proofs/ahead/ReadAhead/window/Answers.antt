use Rattle.std.proofs.Common.{◌≡◌, ◌-◌, ◌∙◌, min, ap, arith, length, take, drop}
use Rattle.std.proofs.lemmas.List.{length-drop, take_all, take_min}
use Rattle.frames.specs.declared.TheConstants.{WINDOW}
use Rattle.journal.specs.Ahead.{Ahead}
use Rattle.journal.proofs.ahead.ReadAhead.window.Goals as goal

pub returns : goal.returns
returns c =
    let held = take c.self.inside.len c.self.inside.room in
    let behind = drop (c.args.at - c.self.inside.start) held in
    let whole : take (length held - (c.args.at - c.self.inside.start)) behind ≡ behind =
    take_all (length held - (c.args.at - c.self.inside.start)) behind (omega (arith, length-drop (c.args.at - c.self.inside.start) held)) in
    let count : c.min.result ≡ min WINDOW (length behind) = omega (arith, c.min.ensures, ap length whole) in
    ap (λ l. take c.min.result l) whole ∙ ap (λ n. take n behind) count ∙ take_min WINDOW behind ∙
    ap (λ (a : Ahead). take WINDOW (drop (c.args.at - a.start) a.bytes)) c.self.view_is
