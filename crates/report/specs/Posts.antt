-- The lines round what is printed of each issuer of an installation. The texts are this project's own.
use Rattle.std.specs.Prelude.{ℕ, List, ◌++◌, codes, decimal}
use Rattle.report.specs.declared.posts.Closed.{Closed}
use Rattle.report.specs.declared.posts.Closed.TheVariants.{Damaged, FileOf, Disk, Memory}

-- issuer NIF
abbrev pub issuer_text : List ℕ → List ℕ
issuer_text issuer = codes "issuer " ++ issuer ++ codes "\n"

-- closed file-of NIF
abbrev pub owner_text : List ℕ → List ℕ
owner_text held = codes "closed file-of " ++ held

-- why a file didn't open
abbrev pub cause_text : Closed → List ℕ
cause_text (Damaged at) = codes "closed damaged " ++ decimal at
cause_text (FileOf held) = owner_text held
cause_text Disk = codes "closed disk"
cause_text Memory = codes "closed memory"

-- the same as a line
abbrev pub closed_text : Closed → List ℕ
closed_text closed = cause_text closed ++ codes "\n"

-- ended STATUS
abbrev pub ended_text : ℕ → List ℕ
ended_text status = codes "ended " ++ decimal status ++ codes "\n"
