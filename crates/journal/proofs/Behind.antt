-- Writes from a place on leave what stands before it.
use Rattle.std.proofs.Common.{◌≡◌, ◌<◌, ◌≤◌, ◌+◌, inl, inr, ℕ, max, List, [], ◌∷◌, length, take, drop, ◌++◌, refl, sym, ◌∙◌, ap, subst, arith}
use Rattle.std.proofs.Common.{append_assoc, length-append, take-append-drop, true, Result, Ok, Err}
use Rattle.std.specs.Prelude.{OnErr, OnOk}
use Rattle.std.proofs.Math.Logic.{∥∥₁_elim}
use Rattle.std.proofs.Math.Seq.{take-append-add}
use Rattle.std.proofs.Props.{props}
use Rattle.std.proofs.lemmas.List.{ext_get_or, get_or-take, length-take, length-drop, take-append-le, take-take, take_all, take_at, take_more_same}
use Rattle.std.proofs.lemmas.Bool.{cases_lt}
use Rattle.std.proofs.lemmas.Option.{get_or_from_slice_get, slice_get_within}
use Rattle.chain_disk.specs.OnDisk.{OnDisk, Pending, IsCovered, IsImage, IsSettled, IsLeftOf, IsSyncFailed, IsTorn, IsWriteFailed, LeavesOnly, MayLeave}
use Rattle.chain_disk.specs.OnDisk.{moved, pasted, ranged, settled, synced, wider, written}
use Rattle.chain_disk.specs.Runs.{started_settled, weaker}
use Rattle.chain_disk.specs.Runs.{goes_on as moment_more}
use Rattle.chain_disk.specs.Stays.{still_by, synced_image}
use Rattle.record_fields.specs.declared.versions.Version.{Version}
use Rattle.journal.specs.File.{FileOn, IsAt, IsAtSome, IsFile}
use Rattle.journal.specs.Tails.{HasGate, HaveOneByte, KeepsGate, StaysAt, WritesFrom}
use Rattle.journal.specs.Written.{AppendsFrom, KeepsFront}
use Rattle.journal.proofs.Appends.{appends_none}
use Rattle.journal.proofs.Files.{same_front, within}
use Rattle.journal.proofs.Losing.{goes_on}

-- what is before the ranges stays in each image
front_of_image : (place : ℕ) (p : Pending) (c : List ℕ) → place ≤ length p.synced →
    ((i : ℕ) → i < place → IsCovered p.ranges i → ⊥) → IsImage p c → KeepsFront place p.synced c
front_of_image place p c long behind image =
    ext_get_or 0 (take place c) (take place p.synced)
    (omega (arith, length-take place c, length-take place p.synced, image.no_shorter, long)) (λ i low.
    let below : i < place = omega (arith, low, length-take place c) in
    get_or-take place c i 0 below ∙ image.kept i (omega (arith, below, long)) (λ covered. behind i below covered)
    ∙ sym (get_or-take place p.synced i 0 below))

front_of_torn : (place at n : ℕ) (old new : List ℕ) → place ≤ at → place ≤ length old → IsTorn at n old new → KeepsFront place old new
front_of_torn place at n old new before long torn =
    ext_get_or 0 (take place new) (take place old)
    (omega (arith, length-take place new, length-take place old, torn.no_shorter, long)) (λ i low.
    let below : i < place = omega (arith, low, length-take place new) in
    get_or-take place new i 0 below ∙ torn.kept i (omega (arith, below, long)) (inl (omega (arith, below, before)))
    ∙ sym (get_or-take place old i 0 below))

pub length-pasted : (at : ℕ) (bytes content : List ℕ) → at ≤ length content →
    length (pasted at bytes content) ≡ max (length content) (at + length bytes)
length-pasted at bytes content within = omega (
  arith,
  length-append (take at content ++ bytes) (drop (at + length bytes) content),
  length-append (take at content) bytes,
  length-take at content,
  length-drop (at + length bytes) content,
  within,
)

front_of_pasted : (place at : ℕ) (bytes content : List ℕ) → place ≤ at → at ≤ length content →
    KeepsFront place content (pasted at bytes content)
front_of_pasted place at bytes content before within =
    let first = take at content in
    let rest = drop (at + length bytes) content in
    let long : place ≤ length first = omega (arith, length-take at content, before, within) in
    ap (λ (l : List ℕ). take place l) (append_assoc first bytes rest) ∙ take-append-le place first (bytes ++ rest) long
    ∙ take-take place at content before

-- before the first write
pub begins : (place : ℕ) (t : OnDisk) → place ≤ length t.content → IsSettled t → WritesFrom place t t
begins place t within quiet = record {
  inside = within;
  long = subst (λ (p : Pending). place ≤ length p.synced) (sym quiet) within;
  file = refl;
  sure = ap (λ (p : Pending). take place p.synced) quiet;
  behind = subst (λ (p : Pending). (i : ℕ) → i < place → IsCovered p.ranges i → ⊥) (sym quiet) (λ i low none. none);
  each_crash = started_settled t (KeepsFront place t.content) quiet refl;
}

-- a moment more
go_on : (place : ℕ) (t u : OnDisk) (content : List ℕ) (now : Pending) → WritesFrom place t u → place ≤ length content →
    place ≤ length now.synced → KeepsFront place t.content content → KeepsFront place t.content now.synced →
    ((i : ℕ) → i < place → IsCovered now.ranges i → ⊥) → WritesFrom place t (moved content now u)
go_on place t u content now w inside long file sure behind = record {
  inside = inside;
  long = long;
  file = file;
  sure = sure;
  behind = behind;
  each_crash = moment_more t u content now (KeepsFront place t.content) w.each_crash
      (λ c image. front_of_image place now c long behind image ∙ sure);
}

wider_behind : (place at n : ℕ) (p : Pending) → place ≤ at → ((i : ℕ) → i < place → IsCovered p.ranges i → ⊥) → (i : ℕ) →
    i < place → IsCovered (wider at n p).ranges i → ⊥
wider_behind place at n p before behind i low (inl it) = omega (arith, it.0, low, before)
wider_behind place at n p before behind i low (inr others) = behind i low others

range_more : (place at n : ℕ) (t u : OnDisk) (content : List ℕ) → place ≤ at → WritesFrom place t u → place ≤ length content →
    KeepsFront place t.content content → WritesFrom place t (ranged at n content u)
range_more place at n t u content before w inside file = go_on place t u content (wider at n u.now) w inside w.long file w.sure
    (wider_behind place at n u.now before w.behind)

pub on_write : (place at : ℕ) (bytes : List ℕ) (t u v : OnDisk) → place ≤ at → at ≤ length u.content → WritesFrom place t u →
    v ≡ written at bytes u → WritesFrom place t v
on_write place at bytes t u v before within w ok = subst (λ (x : OnDisk). WritesFrom place t x) (sym ok)
    (range_more place at (length bytes) t u (pasted at bytes u.content) before w
    (omega (arith, length-pasted at bytes u.content within, within, before))
    (front_of_pasted place at bytes u.content before within ∙ w.file))

pub on_write_failed : (place at n : ℕ) (t u v : OnDisk) → place ≤ at → WritesFrom place t u → IsWriteFailed at n u v →
    WritesFrom place t v
on_write_failed place at n t u v before w (inl same) = subst (λ (x : OnDisk). WritesFrom place t x) (sym same) w
on_write_failed place at n t u v before w (inr torn) = subst (λ (x : OnDisk). WritesFrom place t x) (sym torn.2)
    (range_more place at n t u torn.0 before w (omega (arith, torn.1.no_shorter, w.inside))
    (front_of_torn place at n u.content torn.0 before w.inside torn.1 ∙ w.file))

pub on_sync : (place : ℕ) (t u v : OnDisk) → WritesFrom place t u → v ≡ synced u → WritesFrom place t v
on_sync place t u v w ok = subst (λ (x : OnDisk). WritesFrom place t x) (sym ok)
    (go_on place t u u.content (settled u.content) w w.inside w.inside w.file w.file (λ i low none. none))

pub on_sync_failed : (place : ℕ) (t u v : OnDisk) → WritesFrom place t u → IsSyncFailed u v → WritesFrom place t v
on_sync_failed place t u v w (inl same) = subst (λ (x : OnDisk). WritesFrom place t x) (sym same) w
on_sync_failed place t u v w (inr later) = subst (λ (x : OnDisk). WritesFrom place t x) (sym later)
    (go_on place t u u.content u.now w w.inside w.long w.file w.sure w.behind)

pub appends_from : (place : ℕ) (t u : OnDisk) → WritesFrom place t u → AppendsFrom place t u
appends_from place t u w = record { file = w.file; each_crash = w.each_crash }

-- what was synced is what a read gives
pub settles : (u v : OnDisk) → v ≡ synced u → IsSettled v
settles u v ok = subst IsSettled (sym ok) refl

-- at each moment a crash may leave something
some_left : (pending : Pending) (past : List Pending) (m : ℕ) → m ≤ length past → (c : List ℕ) × IsLeftOf (pending ∷ past) m c
some_left pending [] m within = (pending.synced, inl (omega (arith, within), synced_image pending))
some_left pending (p ∷ past) m within = elim (cases_lt m (length (p ∷ past))) [
  | inl before ↦ (let there = some_left p past m (omega (arith, before)) in (there.0, inr there.1))
  | inr last ↦ (pending.synced, inl (omega (arith, last, within), synced_image pending))
]

-- where each crash leaves what has W, some may leave it at each moment
seen_all : (t u : OnDisk) (W : List ℕ → Type 0) → LeavesOnly t u W → MayLeave t u W
seen_all t u W only m since before =
    let there = some_left u.now u.past m (omega (arith, before)) in
    (there.0, there.1, only.each m there.0 since there.1)

-- the bytes up to the gate, and the gate, stand for the bodies
pub keeps_gate : (gate : ℕ) (t u : OnDisk) → AppendsFrom (gate + 1) t u → KeepsGate gate t u
keeps_gate gate t u front = record {
  front = front;
  any_moment = any_moment;
  never_loses = λ version issuer bodies at another other begins bytes.
      let only = any_moment version issuer bodies at in
      still_by t u (FileOn another other begins bytes) (IsFile version issuer bodies) (IsFile version issuer bodies) only
      (seen_all t u (IsFile version issuer bodies) only)
      (λ c d is on then. goes_on version another issuer other bodies begins [] bytes c d is on (inl then));
}
  where
    any_moment : (version : Version) (issuer : List ℕ) (bodies : List (List ℕ)) → IsAt version issuer bodies gate t →
        LeavesOnly t u (IsFile version issuer bodies)
    any_moment version issuer bodies at = weaker t u (KeepsFront (gate + 1) t.content) (IsFile version issuer bodies)
        front.each_crash (λ c same. same_front version issuer bodies t.content at.file c
        (subst (λ (g : ℕ). take (g + 1) c ≡ take (g + 1) t.content) at.place same))

pub stays_at : (gate : ℕ) (t u : OnDisk) → AppendsFrom (gate + 1) t u → IsSettled u → StaysAt gate t u
stays_at gate t u front quiet version issuer bodies at = record {
  file = same_front version issuer bodies t.content at.file u.content
      (subst (λ (g : ℕ). take (g + 1) u.content ≡ take (g + 1) t.content) at.place front.file);
  place = at.place;
  nothing_pending = quiet;
}

-- a piece more of the one content in the other
pub copied_more : (at size : ℕ) (bytes from to : List ℕ) → at ≤ length to → at + size ≤ length from → length bytes ≡ size →
    bytes ≡ take size (drop at from) → KeepsFront at from to → KeepsFront (at + size) from (pasted at bytes to)
copied_more at size bytes from to within held count are so_far =
    let front = take at to in
    let rest = drop (at + length bytes) to in
    let long : length (front ++ bytes) ≡ at + size =
    omega (arith, length-append front bytes, length-take at to, within, count) in
    let first : length (take at from) ≡ at = omega (arith, length-take at from, held) in
    let whole : take (length (take at from) + size) from ≡ take at from ++ take size (drop at from) =
    ap (λ (l : List ℕ). take (length (take at from) + size) l) (sym (take-append-drop at from))
    ∙ take-append-add (take at from) (drop at from) size in
    take_at (front ++ bytes) rest (at + size) long ∙ ap (λ (l : List ℕ). l ++ bytes) so_far
    ∙ ap (λ (l : List ℕ). take at from ++ l) are ∙ sym whole ∙ ap (λ (n : ℕ). take (n + size) from) first

-- a content that has all of another, and is no longer, is it
pub copied_all : (end : ℕ) (from to : List ℕ) → length from ≤ end → length to ≤ length from → KeepsFront end from to → to ≡ from
copied_all end from to all no_longer same = sym (take_all end to (omega (arith, all, no_longer))) ∙ same ∙ take_all end from all

-- a fact where it is Ok
pub on_ok : {T E A B : Type 0} (r : Result T E) → OnOk r A → (A → B) → OnOk r B
on_ok (Ok v) done then = then done
on_ok (Err e) done then = tt

-- a fact of both answers
pub by_answer : {T E A B C : Type 0} (r : Result T E) → OnOk r A → OnErr r B → (A → C) → (B → C) → C
by_answer (Ok v) done failed ok err = ok done
by_answer (Err e) done failed ok err = err failed

-- a write from this place on reaches past what it wrote
pub reaches : (at : ℕ) (bytes : List ℕ) (u v : OnDisk) → at ≤ length u.content → v ≡ written at bytes u →
    at + length bytes ≤ length v.content
reaches at bytes u v within ok =
    omega (arith, length-pasted at bytes u.content within, ap (λ (x : OnDisk). length x.content) ok)

-- a closing gate lies in its file, with nothing pending
pub has_gate : (gate : ℕ) (t : OnDisk) → IsAtSome gate t → HasGate gate t
has_gate gate t some = ∥∥₁_elim some (hlevel props) (λ at. record {
  within = within t gate some;
  nothing_pending = at.3.nothing_pending;
})

-- no call wrote it
pub same_gate : (gate : ℕ) (t u : OnDisk) → u ≡ t → IsSettled t → AppendsFrom (gate + 1) t u
same_gate gate t u same quiet = subst (λ (x : OnDisk). AppendsFrom (gate + 1) t x) (sym same) (appends_none (gate + 1) t quiet)

pub keeps_same : (gate : ℕ) (t u : OnDisk) → IsAtSome gate t → u ≡ t → KeepsGate gate t u
keeps_same gate t u some same = keeps_gate gate t u (same_gate gate t u same (has_gate gate t some).nothing_pending)

-- two files with one front and one gate
pub fronts_with_gates : (gate : ℕ) (from to : List ℕ) → KeepsFront gate from to → HaveOneByte from to gate true →
    KeepsFront (gate + 1) from to
fronts_with_gates gate from to front one = take_more_same to from gate 0 (slice_get_within to gate one.0 one.2)
    (slice_get_within from gate one.0 one.1) front
    (get_or_from_slice_get to gate one.0 0 one.2 ∙ sym (get_or_from_slice_get from gate one.0 0 one.1))
