-- What the loops over a reply and over a consultation's answers keep.
use Rattle.std.proofs.Common.{◌≡◌, ℕ, zero, suc, ◌+◌, List, [], ◌∷◌, refl, sym, ◌∙◌, ap, length, drop, ◌<◌, arith, get_or}
use Rattle.std.proofs.Common.{add-one, bytes_eq, false, None}
use Rattle.record_fields.specs.declared.records.Sealed.{Sealed}
use Rattle.record_fields.specs.declared.lines.Line.{Line}
use Rattle.batches.specs.Batches.{huellas_of}
use Rattle.agency_port.specs.Reply.{Replied}
use Rattle.agency_port.specs.declared.answers.ReplyLine.{ReplyLine}
use Rattle.agency_port.specs.declared.answers.Seen.{Seen}
use Rattle.agency_port.specs.declared.answers.Seen.TheVariants.{NotSeen, Was}
use Rattle.sender.specs.Evidence.{said_in, forgotten_in}

said_suc : (huellas : List (List ℕ)) (lines : List ReplyLine) (huella : List ℕ) (i : ℕ) → i < length huellas →
    length lines ≡ length huellas → bytes_eq (get_or huellas i []) huella ≡ false →
    said_in (drop i huellas) (drop i lines) huella ≡ said_in (drop (suc i) huellas) (drop (suc i) lines) huella
said_suc [] lines huella i lt matched e = absurd (omega arith)
said_suc (h ∷ huellas) [] huella i lt matched e = absurd (omega arith)
said_suc (h ∷ huellas) (line ∷ lines) huella zero lt matched e = rw e refl
said_suc (h ∷ huellas) (line ∷ lines) huella (suc i) lt matched e = said_suc huellas lines huella i (omega arith) (omega arith) e

pub said_more : (huellas : List (List ℕ)) (lines : List ReplyLine) (huella : List ℕ) (i : ℕ) → i < length huellas →
    length lines ≡ length huellas → bytes_eq (get_or huellas i []) huella ≡ false →
    said_in huellas lines huella ≡ said_in (drop i huellas) (drop i lines) huella → said_in huellas lines huella ≡ said_in
    (drop (i + 1) huellas) (drop (i + 1) lines) huella
said_more huellas lines huella i lt matched e so_far =
    so_far ∙ said_suc huellas lines huella i lt matched e ∙ ap (λ (k : ℕ). said_in (drop k huellas) (drop k lines) huella)
    (sym (add-one i))

-- the record was seen, or nothing was said of it
abbrev pub IsPassed : Replied → Seen → Sealed → Type 0
IsPassed reply NotSeen s = said_in reply.huellas reply.lines s.huella ≡ None
IsPassed reply (Was line) s = Unit {0}

-- what is left from the next record on
forgotten_suc : (reply : Replied) (place : ℕ) (records : List Sealed) (answers : List Seen) (i : ℕ) (d : Sealed) (a : Seen) →
    i < length records → length answers ≡ length records →
    get_or answers i NotSeen ≡ a → IsPassed reply a (get_or records i d) →
    forgotten_in reply place (huellas_of (drop i records)) (drop i answers) ≡ forgotten_in reply (place + 1)
    (huellas_of (drop (suc i) records)) (drop (suc i) answers)
forgotten_suc reply place [] answers i d a lt matched e passed = absurd (omega arith)
forgotten_suc reply place (s ∷ records) [] i d a lt matched e passed = absurd (omega arith)
forgotten_suc reply place (s ∷ records) (NotSeen ∷ answers) zero d NotSeen lt matched e passed = rw passed refl
forgotten_suc reply place (s ∷ records) (NotSeen ∷ answers) zero d (Was line) lt matched e passed = absurd cc
forgotten_suc reply place (s ∷ records) (Was line ∷ answers) zero d a lt matched e passed = refl
forgotten_suc reply place (s ∷ records) (x ∷ answers) (suc i) d a lt matched e passed = forgotten_suc reply place records answers
    i d a (omega arith) (omega arith) e passed

pub forgotten_more : (reply : Replied) (first : ℕ) (records : List Sealed) (answers : List Seen) (i : ℕ) (d : Sealed) (a : Seen) →
    i < length records → length answers ≡ length records →
    get_or answers i NotSeen ≡ a → IsPassed reply a (get_or records i d) →
    forgotten_in reply first (huellas_of records) answers ≡ forgotten_in reply (first + i) (huellas_of (drop i records))
    (drop i answers) →
    forgotten_in reply first (huellas_of records) answers ≡ forgotten_in reply (first + (i + 1))
    (huellas_of (drop (i + 1) records)) (drop (i + 1) answers)
forgotten_more reply first records answers i d a lt matched e passed so_far =
    let place : first + i + 1 ≡ first + (i + 1) = omega arith in
    so_far ∙ forgotten_suc reply (first + i) records answers i d a lt matched e passed
    ∙ ap (λ (k : ℕ). forgotten_in reply (first + i + 1) (huellas_of (drop k records)) (drop k answers)) (sym (add-one i))
    ∙ ap (λ (p : ℕ). forgotten_in reply p (huellas_of (drop (i + 1) records)) (drop (i + 1) answers)) place

pub forgotten_past : (reply : Replied) (first : ℕ) (records : List Sealed) (answers : List Seen) (i : ℕ) (line : Line) →
    i < length records → length answers ≡ length records →
    get_or answers i NotSeen ≡ Was line →
    forgotten_in reply first (huellas_of records) answers ≡ forgotten_in reply (first + i) (huellas_of (drop i records))
    (drop i answers) →
    forgotten_in reply first (huellas_of records) answers ≡ forgotten_in reply (first + (i + 1))
    (huellas_of (drop (i + 1) records)) (drop (i + 1) answers)
forgotten_past reply first [] answers i line lt matched e so_far = absurd (omega arith)
forgotten_past reply first (s ∷ records) answers i line lt matched e so_far = forgotten_more reply first (s ∷ records) answers i s
    (Was line) lt matched e tt so_far
