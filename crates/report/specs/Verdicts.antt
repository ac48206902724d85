-- The verdict on a file. The texts are this project's own; a Huella is written as in the field text.
use Rattle.std.specs.Prelude.{ℕ, List, ◌++◌, codes, decimal, Option, Some, None}
use Rattle.huella.specs.Texts.{huella_text}
use Rattle.shop_core.specs.declared.file.audits.AuditEnd.{AuditEnd}
use Rattle.shop_core.specs.declared.file.audits.AuditEnd.TheVariants.{Sound, Broken}
use Rattle.shop_core.specs.declared.file.audits.What.{What}
use Rattle.shop_core.specs.declared.file.audits.What.TheVariants.{Header, Frame, Body, Notes, Link, Seal, Rule}

abbrev pub what_text : What → List ℕ
what_text Header = codes "header"
what_text Frame = codes "frame"
what_text Body = codes "body"
what_text Notes = codes "notes"
what_text Link = codes "link"
what_text Seal = codes "seal"
what_text Rule = codes "rule"

-- the last Huella, or a dash
abbrev pub last_text : Option (List ℕ) → List ℕ
last_text None = codes "-"
last_text (Some huella) = huella_text huella

-- sound RECORDS noted NOTED last HUELLA, or broken PLACE at BYTE WHAT
abbrev pub verdict_text : AuditEnd → List ℕ
verdict_text (Sound records noted last) =
    codes "sound " ++ decimal records ++ codes " noted " ++ decimal noted ++ codes " last " ++ last_text last ++ codes "\n"
verdict_text (Broken place at what) =
    codes "broken " ++ decimal place ++ codes " at " ++ decimal at ++ codes " " ++ what_text what ++ codes "\n"
