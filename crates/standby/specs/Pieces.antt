-- Pieces of a history.
use Rattle.std.specs.Prelude.{◌≡◌, ℕ, List, ◌∷◌, ◌++◌, length}
use Rattle.std.specs.List.{AllByRecursion}
use Rattle.record_fields.specs.declared.versions.Version.{Version}
use Rattle.record_codec.specs.Validity.{IsEncoding}
use Rattle.record_codec.specs.declared.entry.Entry.{Entry}
use Rattle.standby.specs.declared.pieces.Piece.{Piece}

-- The piece is of this history: its body is the encoding, in this version, of the entry at its index.
pub record IsPieceOf (version : Version) (issuer : List ℕ) (entries : List Entry) (piece : Piece) : Type 0 where
  pub before : List Entry
  pub entry : Entry
  pub after : List Entry
  pub stands : entries ≡ before ++ entry ∷ after
  pub index : piece.index ≡ length before
  pub encoding : IsEncoding version issuer entry piece.body

-- so is each of these
abbrev pub ArePiecesOf : Version → List ℕ → List Entry → List Piece → Type 0
ArePiecesOf version issuer entries pieces = AllByRecursion (IsPieceOf version issuer entries) pieces
