use Rattle.std.proofs.Common.{◌∙◌, ◌∷◌, [], List, ℕ, ap, sym, ◌-◌, ◌+◌, take, drop, length}
use Rattle.file_commands.specs.Lines.{lines_of}
use Rattle.file_commands.proofs.Cutting.{behind_shorter, line_there, line_whole, some_length}
use Rattle.file_commands.proofs.lines.first_line.Goals as goal

pub returns-in-Some : goal.returns-in-Some
returns-in-Some c =
    let text = c.args.text.now in
    let end = c.in-Some.end in
    let at = sym c.place_of_lf.ensures ∙ c.in-Some.is in
    record {
      line = line_there text end at ∙ ap (λ (l : List ℕ). l ∷ lines_of (take (length text - (end + 1)) (drop (end + 1) text)))
          (sym c.without_return.ensures);
      shorter = behind_shorter text end at;
    }

pub returns-in-None : goal.returns-in-None
returns-in-None c =
    let text = c.args.text.now in
    record {
      line = line_whole text c.requires (sym c.place_of_lf.ensures ∙ c.in-None.is)
          ∙ ap (λ (l : List ℕ). l ∷ lines_of []) (sym c.without_return-in-None.ensures);
      shorter = some_length text c.requires;
    }
