-- The listing of chosen records, and the chain line of the whole chain.
use Rattle.std.specs.Prelude.{ℕ, List, ◌++◌, length, drop, filter, flat_map, not, ◌&&◌, is_some, Bool, true}
use Rattle.std.specs.List.{enumerate_from, list_any}
use Rattle.record_fields.specs.Records.{num_of}
use Rattle.record_fields.specs.declared.records.Sealed.{Sealed}
use Rattle.record_codec.specs.declared.entry.Entry.{Entry}
use Rattle.shop_core.specs.History.{recs, noted, line_at}
use Rattle.shop_core.specs.Standing.{has_num, is_refused}
use Rattle.report.specs.Listing.{record_line}
use Rattle.report.specs.Pieces.{chain_line}
use Rattle.report.specs.declared.chosen.Choice.{Choice}
use Rattle.report.specs.declared.chosen.Choice.TheVariants.{All, Waiting, Refused}

-- none of the records after this one is of its invoice
abbrev pub ends_its_invoice : List Entry → ℕ × Sealed → Bool
ends_its_invoice entries p = not (list_any (has_num (num_of p.1.body)) (drop p.0 (recs entries)))

-- a record, with its place, is listed: each one, one that has no line yet, or a refused one that ends its invoice
abbrev pub is_chosen : Choice → List Entry → ℕ × Sealed → Bool
is_chosen All entries p = true
is_chosen Waiting entries p = not (is_some (line_at entries p.0))
is_chosen Refused entries p = is_refused entries p.0 && ends_its_invoice entries p

-- the listing's lines of those of these records that are listed, in their order
abbrev pub lines_among : Choice → List Entry → List (ℕ × Sealed) → List ℕ
lines_among choice entries records =
    flat_map (λ (p : ℕ × Sealed). record_line p.0 p.1 (line_at entries p.0)) (filter (is_chosen choice entries) records)

-- those of the whole history
abbrev pub chosen_lines : Choice → List Entry → List ℕ
chosen_lines choice entries = lines_among choice entries (enumerate_from 1 (recs entries))

-- these, and the chain line
abbrev pub chosen_text : Choice → List Entry → List ℕ
chosen_text choice entries = chosen_lines choice entries ++ chain_line (length (recs entries)) (length (noted entries))
