-- The answers as they are printed. The texts are this project's own.
use Rattle.std.specs.Prelude.{ℕ, List, ◌++◌, codes, decimal, flat_map}
use Rattle.verify_link.specs.declared.parts.LinkFault.{LinkFault}
use Rattle.verify_link.specs.declared.parts.LinkFault.TheVariants.{Prefix, Field, Escape, NoMemory}
use Rattle.link_check.specs.declared.checked.Checked.{Checked}
use Rattle.link_check.specs.declared.checked.Checked.TheVariants.{Found, Differs, Cancelled, Refused, Unknown, OtherIssuer}
use Rattle.link_check.specs.declared.checked.Checked.TheVariants.{BadLink, NotText}

-- why a text is no link; the last one is no answer of a line
abbrev pub fault_text : LinkFault → List ℕ
fault_text Prefix = codes "prefix"
fault_text (Field i) = codes "field " ++ decimal i
fault_text (Escape at) = codes "escape " ++ decimal at
fault_text NoMemory = codes "memory"

abbrev pub check_text : Checked → List ℕ
check_text (Found place) = codes "found " ++ decimal place
check_text (Differs place) = codes "differs " ++ decimal place
check_text (Cancelled place) = codes "cancelled " ++ decimal place
check_text Refused = codes "refused"
check_text Unknown = codes "unknown"
check_text OtherIssuer = codes "other-issuer"
check_text (BadLink fault) = codes "bad " ++ fault_text fault
check_text NotText = codes "bad text"

-- a line for each answer, in order
abbrev pub checks_text : List Checked → List ℕ
checks_text answers = flat_map (λ (c : Checked). check_text c ++ codes "\n") answers
