-- Which records of a batch are answered as new.
use Rattle.std.proofs.Common.{◌≡◌, ℕ, zero, suc, List, [], ◌∷◌, ◌++◌, refl, sym, ◌∙◌, ap, Option, Some, None, Bool, length, map}
use Rattle.std.proofs.Common.{slice_get, option_map}
use Rattle.std.proofs.lemmas.List.{map-append}
use Rattle.record_fields.specs.declared.lines.Line.{Line}
use Rattle.agency_rules.specs.declared.pairs.Delivered.{Delivered}
use Rattle.agency_rules.specs.declared.pairs.Delivered.TheVariants as delivered_as
use Rattle.agency_rules.specs.Pairs.{delivered, meetings, is_again}
use Rattle.agency_rules.specs.Laws.{MeetingsJoin, AgainWhereItCame, AllNewWhereNoneCame}
use Rattle.agency_port.specs.Answers.{reply_line, is_duplicado}
use Rattle.agency_port.specs.Laws.{AnswersJoin, DuplicadoWhereItCame, AllFirstWhereNoneCame}
use Rattle.agency_port.specs.declared.answers.ReplyLine.{ReplyLine}
use Rattle.agency_port.specs.declared.answers.ReplyLine.TheVariants.{First}

pub answers_join : MeetingsJoin → AnswersJoin
answers_join join verdicts processed a b =
    ap (map reply_line) (join verdicts processed a b) ∙ map-append reply_line (meetings verdicts processed a)
    (meetings verdicts (delivered verdicts processed a) b)

duplicado_is : (met : Delivered) → is_duplicado (reply_line met) ≡ is_again met
duplicado_is (delivered_as.First line) = refl
duplicado_is (delivered_as.Again line) = refl

duplicado_at : (meetings : List Delivered) (i : ℕ) → option_map is_duplicado (slice_get (map reply_line meetings) i) ≡ option_map
    is_again (slice_get meetings i)
duplicado_at [] i = refl
duplicado_at (m ∷ meetings) zero = ap (λ (b : Bool). Some b) (duplicado_is m)
duplicado_at (m ∷ meetings) (suc i) = duplicado_at meetings i

pub duplicado_where : AgainWhereItCame → DuplicadoWhereItCame
duplicado_where again verdicts processed before after s = duplicado_at (meetings verdicts processed (before ++ s ∷ after))
    (length before) ∙ again verdicts processed before after s

first_lines : (lines : List Line) → map reply_line (map delivered_as.First lines) ≡ map First lines
first_lines [] = refl
first_lines (line ∷ lines) = ap (λ (ls : List ReplyLine). First line ∷ ls) (first_lines lines)

pub all_first : AllNewWhereNoneCame → AllFirstWhereNoneCame
all_first new verdicts processed batch none distinct =
    let n = new verdicts processed batch none distinct in (n.0, ap (map reply_line) n.1 ∙ first_lines n.0)
