-- The bytes before the closing gate of a file that stands for a front of a history.
use Rattle.std.proofs.Common.{◌≡◌, ℕ, List, ◌++◌, ◌∙◌, ap, subst}
use Rattle.std.proofs.lemmas.List.{map-append}
use Rattle.journal.proofs.Fronts.{front_of_more}
use Rattle.journal.specs.File.{IsFile, closing_gate}
use Rattle.journal.specs.Written.{KeepsFront}
use Rattle.record_codec.specs.Writing.{entry_bytes}
use Rattle.record_codec.specs.declared.entry.Entry.{Entry}
use Rattle.record_fields.specs.declared.versions.Version.{Version}
use Rattle.shop_core.specs.File.Files.{bodies_of}
use Rattle.shop_core.specs.Prefix.{IsPrefix}

-- a file of the whole history has them
pub front_of_whole : (version : Version) (issuer : List ℕ) (start end : List Entry) (held file : List ℕ) → IsPrefix start end →
    IsFile version issuer (bodies_of version start) held → IsFile version issuer (bodies_of version end) file →
    KeepsFront (closing_gate (bodies_of version start)) held file
front_of_whole version issuer start end held file begins from to =
    let more : List (List ℕ) = bodies_of version begins.rest in
    let split : bodies_of version end ≡ bodies_of version start ++ more =
    ap (λ (es : List Entry). bodies_of version es) begins.is ∙ map-append (entry_bytes version) start begins.rest in
    front_of_more version issuer (bodies_of version start) more held file from
    (subst (λ (bodies : List (List ℕ)). IsFile version issuer bodies file) split to)
