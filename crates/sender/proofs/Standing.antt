-- How many turns a drain may still take.
use Rattle.std.proofs.Common.{◌≡◌, inl, inr, ℕ, zero, suc, ◌+◌, ◌*◌, ◌<◌, ◌≤◌, List, [], ◌∷◌, ◌++◌, refl, sym, ◌∙◌, ap, subst}
use Rattle.std.proofs.Common.{length, length-append, map, take, drop, arith, append-nil, Option, Some, None, true, false, Bool}
use Rattle.std.proofs.Common.{nat_le, ◌||◌}
use Rattle.std.specs.Prelude.{IsSome}
use Rattle.std.specs.List.{AllByRecursion}
use Rattle.std.proofs.lemmas.Bool.{cases_Bool, le-leb, leb-false}
use Rattle.std.proofs.lemmas.List.{length-drop, length-map}
use Rattle.record_fields.specs.declared.records.Sealed.{Sealed}
use Rattle.record_fields.specs.declared.lines.Line.{Line}
use Rattle.record_codec.specs.declared.entry.Entry.{Entry}
use Rattle.shop_core.specs.History.{recs, noted, waiting}
use Rattle.shop_core.specs.Items.{entries_of}
use Rattle.shop_core.specs.declared.waiting.Waiting.{Waiting}
use Rattle.pacing.specs.declared.pace.Pace.{Pace}
use Rattle.pacing.specs.Pace.{is_due, due_at}
use Rattle.batches.specs.Batches.{huellas_of}
use Rattle.agency_rules.specs.Pairs.{line_of}
use Rattle.agency_port.specs.Reply.{Replied}
use Rattle.agency_port.specs.Answers.{seen_of, looked}
use Rattle.agency_port.specs.declared.answers.Seen.{Seen}
use Rattle.agency_port.specs.declared.answers.Seen.TheVariants.{Was}
use Rattle.consultation.specs.Sorting.{unseen_ones, IsFront}
use Rattle.once_world.specs.Laws.{AreRecords}
use Rattle.once_world.specs.Outbox.{Sight, Grows, ShowsWaiting, history_of, GainsOwnNotes}
use Rattle.sender.specs.Sending.{Sending}
use Rattle.sender.specs.Turning.{count_waiting}
use Rattle.sender.specs.Agreeing.{AreSeen}
use Rattle.sender.specs.Known.{Known}
use Rattle.sender.proofs.Histories.{grown, entries_both, stays}
use Rattle.sender.proofs.Careful.{recs_both}
use Rattle.sender.proofs.Keeping.{noted_same}
use Rattle.sender.proofs.Growing.{Growth, quiet_growth, gains_each}

-- The sender keeps a reply that names all that would be shown, so that the agency has processed all of it.
pub record IsSure (entries : List Entry) (sending : Sending) : Type 0 where
  pub reply : Replied
  pub said : sending.said ≡ Some reply
  pub names : reply.huellas ≡ huellas_of (take 1000 (waiting entries))

-- where a drain stands, with this many turns that it may still take: b batches hold the records that wait
pub data Stand (entries : List Entry) (sending : Sending) (moment left : ℕ) : Type 0 where
  over : length (waiting entries) ≡ 0 → 1 ≤ left → Stand entries sending moment left
  rested : (b : ℕ) → length (waiting entries) ≤ 1000 * b → sending.doubt ≡ false → 2 * b + 2 ≤ left → Stand entries sending moment
      left
  waited : (b : ℕ) → length (waiting entries) ≤ 1000 * b → length (waiting entries) < 1000 → sending.doubt ≡ false →
      due_at sending.pace ≤ moment → 2 * b + 1 ≤ left → Stand entries sending moment left
  unsure : (b : ℕ) → length (waiting entries) ≤ 1000 * b → sending.doubt ≡ true → 2 * b + 3 ≤ left → Stand entries sending moment
      left
  sure : (b : ℕ) → length (waiting entries) ≤ 1000 * b → sending.doubt ≡ true → IsSure entries sending → 2 * b + 1 ≤ left →
      Stand entries sending moment left
  sure_last : length (waiting entries) ≤ 1000 → sending.doubt ≡ true → IsSure entries sending → 2 ≤ left →
      Stand entries sending moment left

pub some_left : (entries : List Entry) (sending : Sending) (moment left : ℕ) → Stand entries sending moment left → 1 ≤ left
some_left entries sending moment left (over w l) = l
some_left entries sending moment left (rested b w d l) = omega arith
some_left entries sending moment left (waited b w f d t l) = omega arith
some_left entries sending moment left (unsure b w d l) = omega arith
some_left entries sending moment left (sure b w d s l) = omega arith
some_left entries sending moment left (sure_last w d s l) = omega arith

-- a drain begins
pub stand_first : (entries : List Entry) (sending : Sending) (moment batches : ℕ) → length (waiting entries) ≤ 1000 * batches →
    Stand entries sending moment (2 * batches + 3)
stand_first entries sending moment batches le = elim (cases_Bool sending.doubt) [
  | inl d ↦ unsure batches le d (omega arith)
  | inr d ↦ rested batches le d (omega arith)
]

-- What stays where no record came: what waits at the look is what waited before the turn.
pub record SameShop (before look after : Sight) (shown : Waiting) (g : Grows before look) : Type 0 where
  pub are : AreRecords (entries_of g.items.rest)
  pub waiting_is : waiting (history_of look) ≡ waiting (history_of before)
  pub first : shown.list ≡ take 1000 (waiting (history_of before))
  pub count : count_waiting shown ≡ length (waiting (history_of before))
  pub as_many : length (recs (history_of after)) ≡ length (recs (history_of look))

none_more : {A : Type 0} (xs ys : List A) → length (xs ++ ys) ≤ length xs → ys ≡ []
none_more xs [] le = refl
none_more xs (y ∷ ys) le = absurd (omega (arith, length-append xs (y ∷ ys)))

pub recs_grow : (before after : Sight) → Growth before after → length (recs (history_of before)) ≤ length
    (recs (history_of after))
recs_grow before after g =
    let is : history_of after ≡ history_of before ++ entries_of g.items = ap entries_of g.items_is ∙ entries_both before.items
    g.items in
    let e = ap (λ (es : List Entry). length (recs es)) is ∙ ap length (recs_both (history_of before) (entries_of g.items)) in
    omega (arith, e, length-append (recs (history_of before)) (recs (entries_of g.items)))

pub same_shop : Known → (before look after : Sight) (shown : Waiting) (g : Grows before look) → look.own ≡ before.own →
    Growth look after → ShowsWaiting look 1000 shown → GainsOwnNotes before after → length (recs (history_of after)) ≤ length
    (recs (history_of before)) →
    SameShop before look after shown g
same_shop known before look after shown g own growth shows gains few =
    let each = gains_each before look after (quiet_growth before look g own) growth gains in
    let are = (known.quiet before look look g own (stays look look g.legal refl) refl each.0).0 in
    let rest = entries_of g.items.rest in
    let is : history_of look ≡ history_of before ++ rest = grown before look g in
    let r : recs (history_of look) ≡ recs (history_of before) ++ recs rest = ap recs is ∙ recs_both (history_of before) rest in
    let len = ap length r in
    let later = recs_grow look after growth in
    let empty : recs rest ≡ [] = none_more (recs (history_of before)) (recs rest) (omega arith) in
    let records : recs (history_of look) ≡ recs (history_of before) = r ∙ ap (λ (xs : List Sealed). recs (history_of before) ++
    xs) empty ∙ append-nil (recs (history_of before)) in
    let lines : noted (history_of look) ≡ noted (history_of before) = ap noted is ∙ noted_same (history_of before) rest are in
    let w : waiting (history_of look) ≡ waiting (history_of before) =
    ap (λ (xs : List Sealed). drop (length (noted (history_of look))) xs) records ∙
    ap (λ (ls : List Line). drop (length ls) (recs (history_of before))) lines in
    let n = shows.noted_count in
    let c = shows.records_count in
    let a = ap length records in
    let b = ap length lines in
    record {
      are = are;
      waiting_is = w;
      first = shows.first ∙ ap (λ (xs : List Sealed). take 1000 xs) w;
      count = omega (arith, n, c, a, b, length-drop (length (noted (history_of before))) (recs (history_of before)));
      as_many = omega arith;
    }

-- where the waiting time has passed a submission is due
pub never_waits : (pace : Pace) (now waiting_count : ℕ) → due_at pace ≤ now → is_due pace now waiting_count ≡ false → ⊥
never_waits pace now waiting_count le e = (let t : is_due pace now waiting_count ≡ true = or_true (nat_le 1000 waiting_count)
    (nat_le (due_at pace) now) (le-leb (due_at pace) now le) in in_both (is_due pace now waiting_count) t e)
  where
    or_true : (a b : Bool) → b ≡ true → (a || b) ≡ true
    or_true true b h = refl
    or_true false b h = h

    in_both : (b : Bool) → b ≡ true → b ≡ false → ⊥
    in_both b t f = absurd (let q : true ≡ false = sym t ∙ f in cc)

-- fewer than 1000 wait where none is due
pub few_wait : (pace : Pace) (now waiting_count : ℕ) → is_due pace now waiting_count ≡ false → waiting_count < 1000
few_wait pace now waiting_count e = (let f : nat_le 1000 waiting_count ≡ false = first_false (nat_le 1000 waiting_count)
    (nat_le (due_at pace) now) e in leb-false 1000 waiting_count f)
  where
    first_false : (a b : Bool) → (a || b) ≡ false → a ≡ false
    first_false true b h = absurd cc
    first_false false b h = refl

-- a consultation of what the agency has processed shows all of it
all_was : (processed : List (Sealed × Line)) (huellas : List (List ℕ)) (lines : List Line) (rest : ℕ) →
    AllByRecursion (λ (h : List ℕ). IsSome (line_of processed h)) huellas → looked processed huellas ≡ map Was lines ++
    unseen_ones rest →
    length lines ≡ length huellas
all_was processed [] [] rest all e = refl
all_was processed [] (line ∷ lines) rest all e = absurd cc
all_was processed (h ∷ huellas) lines rest all e = here (line_of processed h) refl all.0 lines e
    (λ ls f. all_was processed huellas ls rest all.1 f)
  where
    here : (o : Option Line) → line_of processed h ≡ o → IsSome o → (lines : List Line) → looked processed (h ∷ huellas) ≡ map Was
        lines ++ unseen_ones rest →
        ((ls : List Line) → looked processed huellas ≡ map Was ls ++ unseen_ones rest → length ls ≡ length huellas) →
        length lines ≡ length (h ∷ huellas)
    here None is some lines e later = absurd (let q : false ≡ true = some in cc)
    here (Some line) is some [] e later = absurd (not_unseen rest (ap (λ (o : Option Line). seen_of o ∷ looked processed huellas)
        (sym is) ∙ e))
      where
        not_unseen : (rest : ℕ) → Was line ∷ looked processed huellas ≡ unseen_ones rest → ⊥
        not_unseen zero e = absurd cc
        not_unseen (suc rest) e = absurd cc
    here (Some line) is some (x ∷ lines) e later = (let f : looked processed huellas ≡ map Was lines ++ unseen_ones rest = cc in
        let l = later lines f in omega arith)

pub sure_all : (processed : List (Sealed × Line)) (entries : List Entry) (sending : Sending) (seen : List Seen)
    (lines : List Line) → IsSure entries sending → AreSeen processed sending.said →
    seen ≡ looked processed (huellas_of (take 1000 (waiting entries))) → IsFront seen lines →
    length lines ≡ length (take 1000 (waiting entries))
sure_all processed entries sending seen lines s there is front =
    let all : AreSeen processed (Some s.reply) = subst (λ (o : Option Replied). AreSeen processed o) s.said there in
    let named : AllByRecursion (λ (h : List ℕ). IsSome (line_of processed h)) (huellas_of (take 1000 (waiting entries))) =
    subst (λ (hs : List (List ℕ)). AllByRecursion (λ (h : List ℕ). IsSome (line_of processed h)) hs) s.names all in
    all_was processed (huellas_of (take 1000 (waiting entries))) lines front.rest named (sym is ∙ front.is) ∙
    length-map (take 1000 (waiting entries)) (λ (t : Sealed). t.huella)
