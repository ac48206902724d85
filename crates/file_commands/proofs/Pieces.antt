-- The answers of pieces of the lines, one after the other.
use Rattle.std.proofs.Common.{◌≡◌, ◌∙◌, ℕ, suc, ◌+◌, ◌<◌, List, [], ◌∷◌, ◌++◌, length, take, get_or, refl, sym, ap, subst, arith}
use Rattle.std.proofs.Common.{append-nil, flat_map, Result, Ok, Err, IfOk, IsOk, is_ok, All, Bor}
use Rattle.std.proofs.lemmas.Grind.{flat_map-append}
use Rattle.std.proofs.lemmas.List.{append_assoc, take_more}
use Rattle.std.proofs.lemmas.List.Elements.{All-push}
use Rattle.std.specs.Prelude.{codes}
use Rattle.ports.specs.declared.faults.NoMemory.{NoMemory}
use Rattle.link_check.specs.Checking.{Chain, IsChecked, AreChecked}
use Rattle.link_check.specs.Texts.{check_text, checks_text}
use Rattle.link_check.specs.declared.checked.Checked.{Checked}
use Rattle.file_commands.specs.Answering.{AreAnswered, text_in}
use Rattle.file_commands.specs.Lines.{lines_of}

-- ---- the lines of one piece

-- These are the answers of the lines so far: with those of the lines that are left they are the answers of all.
abbrev pub AreSoFar : Chain → List (List ℕ) → List (List ℕ) → List Checked → Type 0
AreSoFar chain all left answers = (more : List Checked) → AreChecked chain left more → AreChecked chain all (answers ++ more)

pub next_so_far : (chain : Chain) (all rest left : List (List ℕ)) (answers longer : List Checked) (line : List ℕ)
    (answer : Checked) → AreSoFar chain all rest answers → rest ≡ line ∷ left → IsChecked chain line answer →
    longer ≡ answers ++ answer ∷ [] → AreSoFar chain all left longer
next_so_far chain all rest left answers longer line answer so e is f more h =
    let both : AreChecked chain rest (answer ∷ more) =
    subst (λ (ls : List (List ℕ)). AreChecked chain ls (answer ∷ more)) (sym e) (is, h) in
    let same : answers ++ answer ∷ more ≡ longer ++ more =
    sym (append_assoc answers (answer ∷ []) more) ∙ ap (λ (xs : List Checked). xs ++ more) (sym f) in
    subst (λ (xs : List Checked). AreChecked chain all xs) same (so (answer ∷ more) both)

pub all_answered : (chain : Chain) (all rest : List (List ℕ)) (answers : List Checked) (r : Result (List ℕ) NoMemory) →
    AreSoFar chain all rest answers → rest ≡ [] → IfOk r (λ text. text ≡ checks_text answers) → IfOk r (AreAnswered chain all)
all_answered chain all rest answers (Err fault) so e is = tt
all_answered chain all rest answers (Ok text) so e is =
    let whole : AreChecked chain all (answers ++ []) =
    so [] (subst (λ (ls : List (List ℕ)). AreChecked chain ls []) (sym e) tt) in
    (answers, subst (λ (xs : List Checked). AreChecked chain all xs) (append-nil answers) whole, is)

-- ---- the texts of pieces

-- the answers of lines and then of more
checked_on : (chain : Chain) (lines more : List (List ℕ)) (answers others : List Checked) → AreChecked chain lines answers →
    AreChecked chain more others → AreChecked chain (lines ++ more) (answers ++ others)
checked_on chain [] more [] others h k = k
checked_on chain [] more (a ∷ answers) others h k = absurd h
checked_on chain (l ∷ lines) more [] others h k = absurd h
checked_on chain (l ∷ lines) more (a ∷ answers) others h k = (h.0, checked_on chain lines more answers others h.1 k)

answered_on : (chain : Chain) (lines more : List (List ℕ)) (text other : List ℕ) → AreAnswered chain lines text →
    AreAnswered chain more other → AreAnswered chain (lines ++ more) (text ++ other)
answered_on chain lines more text other h k = (
  h.0 ++ k.0,
  checked_on chain lines more h.0 k.0 h.1 k.1,
  ap (λ (t : List ℕ). t ++ other) h.2 ∙ ap (λ (t : List ℕ). checks_text h.0 ++ t) k.2
      ∙ sym (flat_map-append (λ (c : Checked). check_text c ++ codes "\n") h.0 k.0),
)

abbrev Piece : Type 0
Piece = Result (List ℕ) NoMemory

-- the text of each piece, and these are all of them
pub record AreJoined (texts : List Piece) (joined : List ℕ) : Type 0 where
  pub each : All (λ (t : Piece). IsOk t) texts
  pub all : joined ≡ flat_map text_in texts

-- one text more was joined
pub join_more : (texts : List Piece) (i : ℕ) (all longer : List ℕ) (text : Piece) (more : List ℕ) →
    AreJoined (take i texts) all → i < length texts → text ≡ get_or texts i text → text ≡ Ok more →
    longer ≡ all ++ more → AreJoined (take (i + 1) texts) longer
join_more texts i all longer text more h lt at is e =
    let next : take (i + 1) texts ≡ take i texts ++ text ∷ [] =
    take_more texts i text lt ∙ ap (λ (t : Piece). take i texts ++ t ∷ []) (sym at) in
    let joined : flat_map text_in (take i texts ++ text ∷ []) ≡ all ++ more =
    flat_map-append text_in (take i texts) (text ∷ [])
    ∙ ap (λ (t : Piece). flat_map text_in (take i texts) ++ (text_in t ++ [])) is
    ∙ ap (λ (bytes : List ℕ). flat_map text_in (take i texts) ++ bytes) (append-nil more)
    ∙ ap (λ (bytes : List ℕ). bytes ++ more) (sym h.all) in
    record {
      each = subst (λ (ts : List Piece). All (λ (t : Piece). IsOk t) ts) (sym next)
          (All-push (λ (t : Piece). IsOk t) (take i texts) text h.each (ap (λ (t : Piece). is_ok t) is));
      all = e ∙ sym joined ∙ ap (λ (ts : List Piece). flat_map text_in ts) (sym next);
    }

one_text : (chain : Chain) (lines : List (List ℕ)) (text : Piece) → IsOk text → IfOk text (AreAnswered chain lines) →
    AreAnswered chain lines (text_in text)
one_text chain lines (Ok text) is h = h
one_text chain lines (Err fault) is h = absurd cc

abbrev pub lines_in : Bor (List ℕ) → List (List ℕ)
lines_in piece = lines_of piece.now

of_texts : (chain : Chain) (pieces : List (Bor (List ℕ))) (texts : List Piece) → length texts ≡ length pieces →
    ((k : ℕ) (p : Bor (List ℕ)) (d : Piece) → k < length pieces →
    AreAnswered chain (lines_in (get_or pieces k p)) (text_in (get_or texts k d))) →
    AreAnswered chain (flat_map lines_in pieces) (flat_map text_in texts)
of_texts chain [] [] e each = ([], tt, refl)
of_texts chain [] (t ∷ texts) e each = absurd (omega arith)
of_texts chain (p ∷ pieces) [] e each = absurd (omega arith)
of_texts chain (p ∷ pieces) (t ∷ texts) e each =
    answered_on chain (lines_in p) (flat_map lines_in pieces) (text_in t) (flat_map text_in texts) (each 0 p t (omega arith))
    (of_texts chain pieces texts (omega arith) (λ k q d lt. each (suc k) q d (omega arith)))

-- what was made of the joined texts
pub of_joined : (chain : Chain) (pieces : List (Bor (List ℕ))) (texts : List Piece) (r : Piece) → length texts ≡ length pieces →
    ((k : ℕ) (p : Bor (List ℕ)) (d : Piece) → k < length pieces →
    IfOk (get_or texts k d) (AreAnswered chain (lines_in (get_or pieces k p)))) →
    IfOk r (λ text. All (λ (t : Piece). IsOk t) texts) → IfOk r (λ text. text ≡ flat_map text_in texts) →
    IfOk r (AreAnswered chain (flat_map lines_in pieces))
of_joined chain pieces texts (Err fault) count each oks all = tt
of_joined chain pieces texts (Ok text) count each oks all =
    subst (λ (t : List ℕ). AreAnswered chain (flat_map lines_in pieces) t) (sym all)
    (of_texts chain pieces texts count (λ k p d lt.
    one_text chain (lines_in (get_or pieces k p)) (get_or texts k d) (oks k d (omega arith)) (each k p d lt)))
