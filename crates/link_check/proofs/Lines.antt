-- The answers of lines, piece by piece.
use Rattle.std.proofs.Common.{◌≡◌, ℕ, suc, ◌+◌, ◌*◌, ◌/◌, ◌%◌, ◌<◌, ◌≤◌, min, List, [], ◌∷◌, ◌++◌, length, sym, ◌∙◌, ap}
use Rattle.std.proofs.Common.{subst, arith, take, drop, get_or, take-append-drop, flat_map, Result, Ok, Err, IfOk, Vec}
use Rattle.std.proofs.Common.{All, IsOk, append-nil, is_ok}
use Rattle.std.proofs.lemmas.Grind.{flat_map-append}
use Rattle.std.proofs.lemmas.List.Elements.{All-push}
use Rattle.std.proofs.lemmas.List.{drop_all, drop-drop, take_more}
use Rattle.std.specs.declared.alloc.Global.{Global}
use Rattle.ports.specs.declared.faults.NoMemory.{NoMemory}
use Rattle.link_check.specs.Checking.{Chain, IsChecked, AreChecked}
use Rattle.link_check.specs.Pieces.{answers_in}
use Rattle.link_check.specs.declared.checked.Checked.{Checked}

-- the answers of lines and then of more
pub checked_on : (chain : Chain) (lines more : List (List ℕ)) (answers others : List Checked) → AreChecked chain lines answers →
    AreChecked chain more others → AreChecked chain (lines ++ more) (answers ++ others)
checked_on chain [] more [] others h k = k
checked_on chain [] more (a ∷ answers) others h k = absurd h
checked_on chain (l ∷ lines) more [] others h k = absurd h
checked_on chain (l ∷ lines) more (a ∷ answers) others h k = (h.0, checked_on chain lines more answers others h.1 k)

pub checked_more : (chain : Chain) (lines : List (List ℕ)) (answers : List Checked) (line : List ℕ) (answer : Checked) →
    AreChecked chain lines answers → IsChecked chain line answer → AreChecked chain (lines ++ line ∷ []) (answers ++ answer ∷ [])
checked_more chain lines answers line answer h c = checked_on chain lines (line ∷ []) answers (answer ∷ []) h (c, tt)

abbrev Piece : Type 0
Piece = Result (Vec Checked Global) NoMemory

-- the answers of these lines are those of the piece
abbrev pub IsPiece : Chain → List (List ℕ) → Piece → Type 0
IsPiece chain lines (Ok answers) = AreChecked chain lines answers.items
IsPiece chain lines (Err fault) = ⊥

one_piece : (chain : Chain) (lines : List (List ℕ)) (piece : Piece) → IsPiece chain lines piece → AreChecked chain lines
    (answers_in piece)
one_piece chain lines (Ok answers) h = h
one_piece chain lines (Err fault) h = absurd h

next_drop : (size n : ℕ) (lines : List (List ℕ)) → drop size (drop (n * size) lines) ≡ drop ((n + 1) * size) lines
next_drop size n lines =
    let e : n * size + size ≡ (n + 1) * size = grind arith in
    drop-drop size (n * size) lines ∙ ap (λ (k : ℕ). drop k lines) e

-- pieces of this size, from the n-th on
from_pieces : (chain : Chain) (lines : List (List ℕ)) (size n : ℕ) (pieces : List Piece) →
    length lines ≤ (n + length pieces) * size →
    ((k : ℕ) (d : Piece) → k < length pieces → IsPiece chain (take size (drop ((n + k) * size) lines)) (get_or pieces k d)) →
    AreChecked chain (drop (n * size) lines) (flat_map answers_in pieces)
from_pieces chain lines size n [] le each =
    let e : n + 0 ≡ n = omega arith in
    let past : length lines ≤ n * size = subst (λ (k : ℕ). length lines ≤ k * size) e le in
    subst (λ (xs : List (List ℕ)). AreChecked chain xs []) (sym (drop_all (n * size) lines past)) tt
from_pieces chain lines size n (piece ∷ pieces) le each =
    let s : n + suc (length pieces) ≡ n + 1 + length pieces = omega arith in
    let z : n + 0 ≡ n = omega arith in
    let rest = from_pieces chain lines size (n + 1) pieces (subst (λ (k : ℕ). length lines ≤ k * size) s le)
    (λ k d lt.
    let m : n + suc k ≡ n + 1 + k = omega arith in
    subst (λ (j : ℕ). IsPiece chain (take size (drop (j * size) lines)) (get_or pieces k d)) m (each (suc k) d (omega arith))) in
    let first : IsPiece chain (take size (drop (n * size) lines)) piece =
    subst (λ (j : ℕ). IsPiece chain (take size (drop (j * size) lines)) piece) z (each 0 piece (omega arith)) in
    let joined = checked_on chain (take size (drop (n * size) lines)) (drop ((n + 1) * size) lines) (answers_in piece)
    (flat_map answers_in pieces) (one_piece chain (take size (drop (n * size) lines)) piece first) rest in
    let whole : take size (drop (n * size) lines) ++ drop ((n + 1) * size) lines ≡ drop (n * size) lines =
    ap (λ (xs : List (List ℕ)). take size (drop (n * size) lines) ++ xs) (sym (next_drop size n lines))
    ∙ take-append-drop size (drop (n * size) lines) in
    subst (λ (xs : List (List ℕ)). AreChecked chain xs (answers_in piece ++ flat_map answers_in pieces)) whole joined

-- this many pieces of this size are all of it
covers : (len size : ℕ) → 0 < size → len ≤ (len / size + min 1 (len % size)) * size
covers len size some = grind arith

pub of_pieces : (chain : Chain) (lines : List (List ℕ)) (size : ℕ) (pieces : List Piece) → 0 < size →
    length pieces ≡ length lines / size + min 1 (length lines % size) →
    ((k : ℕ) (d : Piece) → k < length pieces → IsPiece chain (take size (drop (k * size) lines)) (get_or pieces k d)) →
    AreChecked chain lines (flat_map answers_in pieces)
of_pieces chain lines size pieces some count each =
    let z : 0 * size ≡ 0 = grind arith in
    let c : 0 + length pieces ≡ length lines / size + min 1 (length lines % size) = omega (arith, count) in
    let le : length lines ≤ (0 + length pieces) * size = subst (λ (k : ℕ). length lines ≤ k * size) (sym c)
    (covers (length lines) size some) in
    subst (λ (k : ℕ). AreChecked chain (drop k lines) (flat_map answers_in pieces)) z
    (from_pieces chain lines size 0 pieces le (λ k d lt.
    let e : k ≡ 0 + k = omega arith in
    subst (λ (j : ℕ). IsPiece chain (take size (drop (j * size) lines)) (get_or pieces k d)) e (each k d lt)))

-- one line more was answered
pub next_checked : (chain : Chain) (lines : List (List ℕ)) (i : ℕ) (answers all : List Checked) (line : List ℕ)
    (answer : Checked) →
    AreChecked chain (take i lines) answers → i < length lines → line ≡ get_or lines i line → IsChecked chain line answer →
    all ≡ answers ++ answer ∷ [] → AreChecked chain (take (i + 1) lines) all
next_checked chain lines i answers all line answer h lt at c e =
    let more : take (i + 1) lines ≡ take i lines ++ line ∷ [] =
    take_more lines i line lt ∙ ap (λ (l : List ℕ). take i lines ++ l ∷ []) (sym at) in
    subst (λ (xs : List (List ℕ)). AreChecked chain xs all) (sym more)
    (subst (λ (xs : List Checked). AreChecked chain (take i lines ++ line ∷ []) xs) (sym e)
    (checked_more chain (take i lines) answers line answer h c))

-- each piece has its answers, and these are all of them
pub record AreJoined (pieces : List Piece) (answers : List Checked) : Type 0 where
  pub each : All (λ (p : Piece). IsOk p) pieces
  pub all : answers ≡ flat_map answers_in pieces

-- one piece more was joined
pub join_more : (pieces : List Piece) (i : ℕ) (answers all : List Checked) (piece : Piece) (more : Vec Checked Global) →
    AreJoined (take i pieces) answers → i < length pieces → piece ≡ get_or pieces i piece → piece ≡ Ok more →
    all ≡ answers ++ more.items → AreJoined (take (i + 1) pieces) all
join_more pieces i answers all piece more h lt at is e =
    let next : take (i + 1) pieces ≡ take i pieces ++ piece ∷ [] =
    take_more pieces i piece lt ∙ ap (λ (p : Piece). take i pieces ++ p ∷ []) (sym at) in
    let joined : flat_map answers_in (take i pieces ++ piece ∷ []) ≡ answers ++ more.items =
    flat_map-append answers_in (take i pieces) (piece ∷ [])
    ∙ ap (λ (p : Piece). flat_map answers_in (take i pieces) ++ (answers_in p ++ [])) is
    ∙ ap (λ (xs : List Checked). flat_map answers_in (take i pieces) ++ xs) (append-nil more.items)
    ∙ ap (λ (xs : List Checked). xs ++ more.items) (sym h.all) in
    record {
      each = subst (λ (xs : List Piece). All (λ (p : Piece). IsOk p) xs) (sym next)
          (All-push (λ (p : Piece). IsOk p) (take i pieces) piece h.each (ap (λ (p : Piece). is_ok p) is));
      all = e ∙ sym joined ∙ ap (λ (xs : List Piece). flat_map answers_in xs) (sym next);
    }

ok_piece : (chain : Chain) (lines : List (List ℕ)) (piece : Piece) → IsOk piece →
    IfOk piece (λ (answers : Vec Checked Global). AreChecked chain lines answers.items) → IsPiece chain lines piece
ok_piece chain lines (Ok answers) is h = h
ok_piece chain lines (Err fault) is h = absurd cc

-- what was made of the joined pieces
pub of_joined : (chain : Chain) (lines : List (List ℕ)) (size : ℕ) (pieces : List Piece) (r : Result (List Checked) NoMemory) →
    0 < size → length pieces ≡ length lines / size + min 1 (length lines % size) →
    ((k : ℕ) (d : Piece) → k < length pieces →
    IfOk (get_or pieces k d)
    (λ (answers : Vec Checked Global). AreChecked chain (take size (drop (k * size) lines)) answers.items)) →
    IfOk r (λ answers. All (λ (p : Piece). IsOk p) pieces) → IfOk r (λ answers. answers ≡ flat_map answers_in pieces) →
    IfOk r (AreChecked chain lines)
of_joined chain lines size pieces (Err fault) some count each oks all = tt
of_joined chain lines size pieces (Ok answers) some count each oks all =
    subst (λ (xs : List Checked). AreChecked chain lines xs) (sym all)
    (of_pieces chain lines size pieces some count (λ k d lt.
    ok_piece chain (take size (drop (k * size) lines)) (get_or pieces k d) (oks k d lt) (each k d lt)))
