use Rattle.std.proofs.Common.{rules, ◌≡◌, List, ℕ, [], ◌∷◌, take, ap, ◌∙◌}
use Rattle.std.proofs.lemmas.List.{take_at}
use Rattle.journal.specs.File.{header}
use Rattle.journal.proofs.Shut.{length-header}
use Rattle.journal.proofs.whole.is_header.Goals as goal

pub returns : goal.returns
returns c =
    let issuer = c.args.issuer.now in
    let version = c.args.version in
    let wanted = c.header_bytes-wanted.ensures in
    let front : take 18 c.header_bytes-wanted.result ≡ header version issuer =
    ap (λ (l : List ℕ). take 18 l) wanted.bytes ∙ take_at (header version issuer) (0 ∷ []) 18 (length-header version issuer wanted.nif) in
    let is = rw front at c.eq.ensures in
    search rules
