-- A copy is brought up to the history that it is a front of.
use Rattle.std.proofs.Common.{◌≡◌, ℕ, zero, suc, ◌≤◌, List, [], ◌∷◌, ◌++◌, length, take, drop, refl, sym, ◌∙◌, ap, subst, subst₂, arith}
use Rattle.std.proofs.Common.{Bool, Option, Some, None, Ok, Err, length-append, take-append-drop}
use Rattle.std.proofs.lemmas.List.{append-nil}
use Rattle.std.specs.Prelude.{IsSome, slice_get}
use Rattle.chain_disk.specs.OnDisk.{OnDisk}
use Rattle.chain_disk.specs.Runs.{follows}
use Rattle.chain_store.specs.Crashes.{StandsBetween}
use Rattle.chain_store.specs.Losing.{none_lost_in_both}
use Rattle.journal.specs.declared.faults.StoreFault.{StoreFault}
use Rattle.journal.specs.declared.faults.StoreFault.TheVariants.{DiskFault, Stopped, NoMemory}
use Rattle.record_fields.specs.declared.versions.Version.{Version}
use Rattle.record_codec.specs.Laws.{EncodingsAreApart}
use Rattle.record_codec.specs.Validity.{IsEncoding}
use Rattle.record_codec.specs.Writing.{entry_bytes}
use Rattle.record_codec.specs.declared.entry.Entry.{Entry}
use Rattle.record_codec.specs.declared.faults.BadEntry.TheVariants as bad
use Rattle.shop_core.specs.Legal.{Continues, Legal}
use Rattle.shop_core.specs.Prefix.{IsPrefix}
use Rattle.standby.specs.Arriving.{Arrives}
use Rattle.standby.specs.Catching.{CatchesOne, CatchesUp}
use Rattle.ports.specs.Causes.{Rose}
use Rattle.standby.specs.Chains.{ChainOnDisk, GoesTo}
use Rattle.standby.specs.Following.{Follows, IsFollowing}
use Rattle.standby.specs.Pieces.{IsPieceOf}
use Rattle.standby.specs.declared.arriving.Arrived.{Arrived}
use Rattle.standby.specs.declared.arriving.Arrived.TheVariants.{Kept, Old, Gap, Bad, Foreign}
use Rattle.standby.specs.declared.pieces.Piece.{Piece}
use Rattle.shop_core.specs.File.Laws.{OneHistory}
use Rattle.standby.specs.Chains.{IsSoundChain}
use Rattle.standby.proofs.Chained.{between_wider}
use Rattle.standby.proofs.Followed.{follows_same}
use Rattle.standby.proofs.Fronts.{front_on, front_same, same_front}
use Rattle.standby.proofs.Splitting.{cut_at}
use Rattle.std.proofs.Math.Seq.{take-length}
use Rattle.std.specs.Prelude.{MatchBool, true, false}

-- what a list has at an index after a front of this length
pub at_cut : {A : Type 0} (before after : List A) (x : A) → slice_get (before ++ x ∷ after) (length before) ≡ Some x
at_cut [] after x = refl
at_cut (y ∷ before) after x = at_cut before after x

pub piece_at : (version : Version) (issuer : List ℕ) (entries : List Entry) (piece : Piece) →
    (p : IsPieceOf version issuer entries piece) → slice_get entries piece.index ≡ Some p.entry
piece_at version issuer entries piece p =
    subst₂ (λ (es : List Entry) (i : ℕ). slice_get es i ≡ Some p.entry) (sym p.stands) (sym p.index)
    (at_cut p.before p.after p.entry)

pub past_end : {A : Type 0} (xs : List A) (i : ℕ) → length xs ≤ i → slice_get xs i ≡ None
past_end [] i le = refl
past_end (x ∷ xs) zero le = absurd (omega (arith, le))
past_end (x ∷ xs) (suc i) le = past_end xs i (omega (arith, le))

-- pieces of two histories with one body bring one entry
pub one_entry : EncodingsAreApart → (version : Version) (issuer : List ℕ) (a b : Entry) (body : List ℕ) →
    IsEncoding version issuer a body → IsEncoding version issuer b body → a ≡ b
one_entry apart version issuer a b body x y =
    let bytes : entry_bytes version a ≡ entry_bytes version b = sym x.bytes ∙ y.bytes in
    (apart version issuer a b [] [] x.issuer y.issuer x.fields y.fields (ap (λ (l : List ℕ). l ++ []) bytes)).0

-- an entry at an index makes a piece of its encoding
pub piece_by : (version : Version) (issuer : List ℕ) (entries : List Entry) (piece : Piece) (entry : Entry) →
    slice_get entries piece.index ≡ Some entry → IsEncoding version issuer entry piece.body →
    IsPieceOf version issuer entries piece
piece_by version issuer entries piece entry found encoding =
    let t = cut_at entries piece.index entry found in
    record { before = t.before; entry = entry; after = t.after; stands = t.is; index = t.place; encoding = encoding }

same_some : {A : Type 0} (x y : A) → ◌≡◌ {A = Option A} (Some x) (Some y) → x ≡ y
same_some x y e = cc

-- a piece of the same index is of the same history exactly where its body is the same
pub of_own : (version : Version) (issuer : List ℕ) (entries : List Entry) (own piece : Piece) (is : Bool) →
    own.index ≡ piece.index → IsPieceOf version issuer entries own →
    MatchBool is (own.body ≡ piece.body) (own.body ≡ piece.body → ⊥) →
    MatchBool is (IsPieceOf version issuer entries piece) (IsPieceOf version issuer entries piece → ⊥)
of_own version issuer entries own piece true place o same = record {
  before = o.before;
  entry = o.entry;
  after = o.after;
  stands = o.stands;
  index = sym place ∙ o.index;
  encoding = subst (λ (b : List ℕ). IsEncoding version issuer o.entry b) same o.encoding;
}
of_own version issuer entries own piece false place o differs = λ p.
    let mine = piece_at version issuer entries own o in
    let theirs = piece_at version issuer entries piece p in
    let one : o.entry ≡ p.entry = same_some o.entry p.entry
    (sym mine ∙ ap (λ (i : ℕ). slice_get entries i) place ∙ theirs) in
    differs (o.encoding.bytes ∙ ap (λ (e : Entry). entry_bytes version e) one ∙ sym p.encoding.bytes)

-- no piece stands past the end
pub none_of : (version : Version) (issuer : List ℕ) (entries : List Entry) (piece : Piece) → length entries ≤ piece.index →
    IsPieceOf version issuer entries piece → ⊥
none_of version issuer entries piece le p =
    let n = ap (λ (es : List Entry). length es) p.stands in
    let m = length-append p.before (p.entry ∷ p.after) in
    let i = p.index in
    omega (arith, le, n, m, i)

-- a copy's piece is of the history exactly where both have the same entry there
pub shared : EncodingsAreApart → (version : Version) (issuer : List ℕ) (entries copy : List Entry) (piece : Piece) (is : Bool) →
    IsPieceOf version issuer copy piece →
    MatchBool is (IsPieceOf version issuer entries piece) (IsPieceOf version issuer entries piece → ⊥) →
    MatchBool is (slice_get copy piece.index ≡ slice_get entries piece.index)
    (slice_get copy piece.index ≡ slice_get entries piece.index → ⊥)
shared apart version issuer entries copy piece true q p =
    let one = one_entry apart version issuer q.entry p.entry piece.body q.encoding p.encoding in
    piece_at version issuer copy piece q ∙ ap (λ (e : Entry). Some e) one ∙ sym (piece_at version issuer entries piece p)
shared apart version issuer entries copy piece false q isnt = λ same.
    isnt (piece_by version issuer entries piece q.entry (sym same ∙ piece_at version issuer copy piece q) q.encoding)

-- fronts that go on by the same element
pub take_next : {A : Type 0} (xs ys : List A) (i : ℕ) → take i xs ≡ take i ys → slice_get xs i ≡ slice_get ys i →
    take (suc i) xs ≡ take (suc i) ys
take_next [] [] i t s = refl
take_next [] (y ∷ ys) zero t s = absurd cc
take_next [] (y ∷ ys) (suc i) t s = absurd cc
take_next (x ∷ xs) [] zero t s = absurd cc
take_next (x ∷ xs) [] (suc i) t s = absurd cc
take_next (x ∷ xs) (y ∷ ys) zero t s = ap (λ (z : _). z ∷ []) (same_some x y s)
take_next (x ∷ xs) (y ∷ ys) (suc i) t s =
    let head : x ≡ y = cc in
    let rest : take i xs ≡ take i ys = cc in
    let more = take_next xs ys i rest s in
    ap (λ (z : _). z ∷ take (suc i) xs) head ∙ ap (λ (l : List _). y ∷ l) more

-- a list that is the front of its length of another
pub front_of_length : {A : Type 0} (xs ys : List A) (i : ℕ) → i ≡ length xs → take i xs ≡ take i ys → IsPrefix xs ys
front_of_length xs ys i n same =
    let whole : take i xs ≡ xs = ap (λ (k : ℕ). take k xs) n ∙ take-length xs in
    record {
      rest = drop i ys;
      is = sym (take-append-drop i ys) ∙ ap (λ (l : List _). l ++ drop i ys) (sym same ∙ whole);
    }

-- a front of the same length is the whole
pub whole : {A : Type 0} (xs ys : List A) → IsPrefix xs ys → length xs ≡ length ys → xs ≡ ys
whole xs ys front n = (same_front xs ys front.rest [] (sym front.is ∙ sym (append-nil ys)) n).0

pub no_longer : {A : Type 0} (xs ys : List A) → IsPrefix xs ys → length xs ≤ length ys
no_longer xs ys front =
    let n = ap (λ (l : List _). length l) front.is in
    let m = length-append xs front.rest in
    omega (arith, n, m)

rose_from : (a b c : ℕ) → a ≤ b → Rose b c → Rose a c
rose_from a b c le rose = λ small. let strict = rose small in omega (arith, le, strict)

module _ {D : Type 0} (tells : Bool) (on_disk : D → OnDisk) (faults : D → ℕ) where
  -- no call was made
  pub following_same : OneHistory → (chain : ChainOnDisk D) (version : Version) (issuer : List ℕ) (entries : List Entry) →
      IsSoundChain tells on_disk faults chain → chain.history.issuer ≡ issuer → chain.history.version ≡ version →
      chain.stopped ≡ None → Legal version issuer entries → IsPrefix chain.history.entries entries →
      IsFollowing tells on_disk chain chain entries
  following_same one chain version issuer entries sound i v going legal front =
      follows_same tells on_disk faults one chain sound [] entries
      (subst₂ (λ (w : Version) (n : List ℕ). Legal w n entries) (sym v) (sym i) legal) front
      (λ some. absurd (let none = subst (λ (o : Option ℕ). IsSome o) going some in cc)) tt

  -- the one after the other
  pub following_on : (a b c : ChainOnDisk D) (entries : List Entry) → IsFollowing tells on_disk a b entries →
      IsFollowing tells on_disk b c entries → IsFollowing tells on_disk a c entries
  following_on a b c entries f g = record {
    issuer = g.issuer ∙ f.issuer;
    version = g.version ∙ f.version;
    within = g.within;
    begins = front_on a.history.entries b.history.entries c.history.entries f.begins g.begins;
    images = λ says. follows (on_disk a.disk) (on_disk b.disk) (on_disk c.disk) _ _ _ (f.images says) (g.images says) (λ file h. h)
        (λ file h. between_wider a.history.version a.history.issuer a.history.entries b.history.entries entries entries file
        f.begins (front_same entries)
        (subst₂ (λ (v : Version) (n : List ℕ). StandsBetween v n b.history.entries entries file) f.version f.issuer h));
    never_loses = λ says. none_lost_in_both (on_disk a.disk) (on_disk b.disk) (on_disk c.disk) (f.never_loses says)
        (g.never_loses says);
  }

  -- what follows of one that goes on
  pub following_by : (old new : ChainOnDisk D) (piece : Piece) (version : Version) (issuer : List ℕ) (entries : List Entry) →
      old.history.issuer ≡ issuer → old.history.version ≡ version → old.stopped ≡ None → Legal version issuer entries →
      IsPrefix old.history.entries entries → IsPieceOf version issuer entries piece →
      Follows tells on_disk old new (piece ∷ []) → IsFollowing tells on_disk old new entries
  following_by old new piece version issuer entries i v going legal front p f =
      f entries (subst₂ (λ (w : Version) (n : List ℕ). Legal w n entries) (sym v) (sym i) legal) front
      (λ some. absurd (let none = subst (λ (o : Option ℕ). IsSome o) going some in cc))
      (subst₂ (λ (w : Version) (n : List ℕ). IsPieceOf w n entries piece) (sym v) (sym i) p, tt)

  module _ (apart : EncodingsAreApart) (old new : ChainOnDisk D) (piece : Piece) (entries : List Entry)
      (legal : Legal old.history.version old.history.issuer entries) (front : IsPrefix old.history.entries entries)
      (p : IsPieceOf old.history.version old.history.issuer entries piece)
      (here : piece.index ≡ length old.history.entries) where
    before_is : p.before ≡ old.history.entries
    before_is = sym (same_front old.history.entries p.before front.rest (p.entry ∷ p.after) (sym front.is ∙ p.stands)
        (sym here ∙ p.index)).0

    continues : Continues old.history.version old.history.issuer old.history.entries p.entry
    continues = subst (λ (es : List Entry). Continues old.history.version old.history.issuer es p.entry) before_is
        (legal p.before p.after p.entry p.stands)

    -- the next piece of a legal history is kept
    pub caught_ok : (answer : Arrived) → Arrives tells on_disk faults old new piece (Ok answer) →
        CatchesOne {D = D} faults old new (Ok tt)
    caught_ok Old a = absurd (let lt = a.0 in omega (arith, here, lt))
    caught_ok (Gap next) a = absurd (let lt = a.0 in omega (arith, here, lt))
    caught_ok (Bad (bad.At at)) a = absurd (a.0.none p.entry p.encoding)
    caught_ok (Bad bad.NoMemory) a = absurd a
    caught_ok (Foreign why) a =
        let f = a.0 in
        let same = one_entry apart old.history.version old.history.issuer p.entry f.entry piece.body p.encoding f.encoding in
        absurd (f.apart (subst (λ (e : Entry). Continues old.history.version old.history.issuer old.history.entries e) same
        continues))
    caught_ok Kept k =
        let n = ap (λ (es : List Entry). length es) k.entries in
        let m = length-append old.history.entries (k.entry ∷ []) in
        (k.going_on, omega (arith, n, m))

  pub caught_err : (old new : ChainOnDisk D) (piece : Piece) (fault : StoreFault) → old.stopped ≡ None →
      Arrives tells on_disk faults old new piece (Err fault) → CatchesOne faults old new (Err fault)
  caught_err old new piece DiskFault going t = (t.rose, t.stopped)
  caught_err old new piece (Stopped count) going a = absurd a
  caught_err old new piece NoMemory going a = ap (λ (c : ChainOnDisk D). c.stopped) a ∙ going

  -- what ended the last one ends the whole
  pub caught_up_err : (start old new : ChainOnDisk D) (entries : List Entry) (fault : StoreFault) →
      GoesTo tells on_disk faults start old → CatchesOne faults old new (Err fault) → CatchesUp faults start new entries (Err fault)
  caught_up_err start old new entries DiskFault goes c =
      (rose_from (faults start.disk) (faults old.disk) (faults new.disk) goes.later c.0, c.1)
  caught_up_err start old new entries (Stopped count) goes c = absurd c
  caught_up_err start old new entries NoMemory goes c = c
