-- A dialogue's asks as one run, one ask or look further.
use Rattle.std.proofs.Common.{◌≡◌, ◌∙◌, ◌⊎◌, inl, inr, ℕ, zero, suc, ◌+◌, ◌<◌, ◌≤◌, List, [], ◌∷◌, ◌++◌, length, map, refl, ap, sym, subst, arith}
use Rattle.std.proofs.Common.{cond, Option, Some, Result, Ok, append-nil, append_assoc, length-append, take, drop}
use Rattle.std.proofs.Common.{slice_get}
use Rattle.std.proofs.Math.Seq.{drop-append-add, take-append_seam}
use Rattle.std.proofs.lemmas.List.{drop-append-le, map-append, take-append-drop, take-append-le}
use Rattle.std.proofs.lemmas.List.Elements.{filter_map-append}
use Rattle.std.proofs.lemmas.List.Sums.{sum_by-append, sum_by-cons}
use Rattle.std.proofs.lemmas.Option.{slice_get_within}
use Rattle.std.specs.List.{AllByRecursion}
use Rattle.chain_lock.specs.Lists.{StartsWith}
use Rattle.chain_store.specs.Replies.{Replies}
use Rattle.dialogue.specs.Protocol.{Look}
use Rattle.journal.specs.declared.faults.StoreFault.{StoreFault}
use Rattle.record_codec.specs.declared.entry.Entry.{Entry}
use Rattle.record_codec.specs.declared.entry.Entry.TheVariants.{Rec, Notes}
use Rattle.record_fields.specs.declared.records.Sealed.{Sealed}
use Rattle.record_fields.specs.declared.versions.Version.{Version}
use Rattle.shop_core.specs.Answer.Requests.{Asked}
use Rattle.shop_core.specs.Answer.Plans.{answer}
use Rattle.shop_core.specs.Answer.Replies.{Tells}
use Rattle.shop_core.specs.History.{Row, recs, row_in, rows}
use Rattle.shop_core.specs.declared.answer.Planned.{Planned}
use Rattle.shop_core.specs.declared.answer.Planned.TheVariants as planned
use Rattle.shop_core.specs.declared.answer.Reply.{Reply}
use Rattle.dialogue_loop.specs.OneRun.{AnswersAfter, AnswersAmong, IsAfter, IsOneRun, LooksAmong, RunsAmong, StandsAmong, is_taken}
use Rattle.dialogue_loop.specs.OneRun.{taken_in}

-- what is in a list with one more at its end stands in the list, or is that one
front_or_last : {A : Type 0} (xs : List A) (x : A) (n : ℕ) (y : A) → slice_get (xs ++ x ∷ []) n ≡ Some y →
    ((slice_get xs n ≡ Some y) × (n < length xs)) ⊎ ((n ≡ length xs) × (x ≡ y))
front_or_last [] x zero y at = inr (refl, (let e = at in cc))
front_or_last [] x (suc n) y at = absurd (let e = at in cc)
front_or_last (z ∷ xs) x zero y at = inl (at, omega arith)
front_or_last (z ∷ xs) x (suc n) y at = elim (front_or_last xs x n y at) [
  | inl h ↦ inl (h.0, (let l = h.1 in omega (arith, l)))
  | inr h ↦ inr ((let e = h.0 in omega (arith, e)), h.1)
]

pub taken_both : (xs ys : Replies) → taken_in (xs ++ ys) ≡ taken_in xs + taken_in ys
taken_both xs ys = sum_by-append (λ (r : Result Reply StoreFault). cond (is_taken r) 1 0) xs ys

pub taken_cons : (told : Result Reply StoreFault) (replies : Replies) →
    taken_in (told ∷ replies) ≡ cond (is_taken told) 1 0 + taken_in replies
taken_cons told replies = sum_by-cons (λ (r : Result Reply StoreFault). cond (is_taken r) 1 0) told replies

push_each : {A : Type 0} (P : A → Type 0) (xs : List A) (x : A) → AllByRecursion P xs → P x → AllByRecursion P (xs ++ x ∷ [])
push_each P [] x h p = (p, tt)
push_each P (y ∷ xs) x h p = (h.0, push_each P xs x h.1 p)

pub recs_both : (a b : List Entry) → recs (a ++ b) ≡ recs a ++ recs b
recs_both a b = ap (λ (l : List Row). map (λ (r : Row). r.sealed) l) (filter_map-append row_in a b) ∙
    map-append (λ (r : Row). r.sealed) (rows a) (rows b)

pub records_start : (a b : List Entry) → StartsWith a b → length (recs b) ≤ length (recs a)
records_start a b h =
    let e : length (recs a) ≡ length (recs b ++ recs h.0) = ap (λ (l : List Entry). length (recs l)) h.1 ∙ ap length (recs_both b h.0) in
    let f = length-append (recs b) (recs h.0) in
    omega (arith, e, f)

-- a record that was taken is one more
pub reply_gains : (entries gained : List Entry) (p : Planned) (told : Reply) → Tells entries p told gained →
    length (recs entries) + cond (is_taken (Ok told)) 1 0 ≤ length (recs (entries ++ gained))
reply_gains entries gained (planned.Again r) told h =
    subst (λ (t : Reply). length (recs entries) + cond (is_taken (Ok t)) 1 0 ≤ length (recs (entries ++ gained))) (sym h.0)
    (let more = records_start (entries ++ gained) entries (gained, refl) in omega (arith, more))
reply_gains entries gained (planned.Refused why) told h =
    subst (λ (t : Reply). length (recs entries) + cond (is_taken (Ok t)) 1 0 ≤ length (recs (entries ++ gained))) (sym h.0)
    (let more = records_start (entries ++ gained) entries (gained, refl) in omega (arith, more))
reply_gains entries gained (planned.Made (Rec till serial sealed)) told h =
    subst (λ (t : Reply). length (recs entries) + cond (is_taken (Ok t)) 1 0 ≤ length (recs (entries ++ gained))) (sym h.0)
    (let e : length (recs (entries ++ gained)) ≡ length (recs entries ++ sealed ∷ []) =
    ap (λ (l : List Entry). length (recs (entries ++ l))) h.1 ∙ ap length (recs_both entries (Rec till serial sealed ∷ [])) in
    let f = length-append (recs entries) (sealed ∷ []) in omega (arith, e, f))
reply_gains entries gained (planned.Made (Notes first lines)) told h = absurd h.0

-- more replies, and more records
stands_on : (start end : List Entry) (before since more : Replies) (top then : ℕ) (history gained : List Entry) →
    top + taken_in more ≤ then → StandsAmong start end before since top history gained →
    StandsAmong start end before (since ++ more) then history gained
stands_on start end before since more top then history gained up s = record {
  starts = s.starts;
  ends = s.ends;
  no_fewer = s.no_fewer;
  no_more = (let a = s.no_more in let e = taken_both since more in omega (arith, a, e, up));
}

module _ (version : Version) (issuer : List ℕ) (coming : ℕ → Option ℕ) (start end : List Entry) where
  answers_on : (before since more : Replies) (top then : ℕ) (ask : Asked) (reply : Reply) → top + taken_in more ≤ then →
      AnswersAmong version issuer coming start end before since top ask reply →
      AnswersAmong version issuer coming start end before (since ++ more) then ask reply
  answers_on before since more top then ask reply up a = record {
    history = a.history;
    gained = a.gained;
    stands = stands_on start end before since more top then a.history a.gained up a.stands;
    seconds = a.seconds;
    reading = a.reading;
    tells = a.tells;
  }

  looks_on : (replies more : Replies) (top then : ℕ) (looks : List Look) → top + taken_in more ≤ then →
      AllByRecursion (LooksAmong start end replies top) looks → AllByRecursion (LooksAmong start end (replies ++ more) then) looks
  looks_on replies more top then [] up h = tt
  looks_on replies more top then (look ∷ looks) up h = (
    record {
      before = (let b = h.0.before in let e = length-append replies more in omega (arith, b, e));
      stands = subst (λ (rs : Replies). StandsAmong start end rs (drop look.after (replies ++ more)) then look.history [])
          (sym (take-append-le look.after replies more h.0.before))
          (subst (λ (rs : Replies). StandsAmong start end (take look.after replies) rs then look.history [])
          (sym (drop-append-le look.after replies more h.0.before))
          (stands_on start end (take look.after replies) (drop look.after replies) more top then look.history [] up h.0.stands));
    },
    looks_on replies more top then looks up h.1,
  )

  -- nothing but more records
  pub runs_more : (asks : List Asked) (replies : Replies) (looks : List Look) (top then : ℕ) → top ≤ then →
      RunsAmong version issuer coming start end asks replies looks top → RunsAmong version issuer coming start end asks replies looks then
  runs_more asks replies looks top then up h =
      let none : top + taken_in [] ≤ then = omega (arith, up) in
      record {
        all = (let a = h.all in omega (arith, a, up));
        each = λ n ask reply asked told.
            subst (λ (rs : Replies). AnswersAmong version issuer coming start end (take n replies) rs then ask reply)
            (append-nil (drop (n + 1) replies))
            (answers_on (take n replies) (drop (n + 1) replies) [] top then ask reply none (h.each n ask reply asked told));
        looked = subst (λ (rs : Replies). AllByRecursion (LooksAmong start end rs then) looks) (append-nil replies)
            (looks_on replies [] top then looks none h.looked);
      }

  -- one ask more
  module _ (asks : List Asked) (replies : Replies) (looks : List Look) (top then : ℕ) (ask : Asked) (told : Result Reply StoreFault)
      (even : length replies ≡ length asks) (up : top + cond (is_taken told) 1 0 ≤ then)
      (answers : (reply : Reply) → told ≡ Ok reply → AnswersAmong version issuer coming start end replies [] then ask reply)
      (h : RunsAmong version issuer coming start end asks replies looks top) where
    one_more : top + taken_in (told ∷ []) ≤ then
    one_more = let e = taken_cons told [] in let z : taken_in [] ≡ 0 = refl in omega (arith, e, z, up)

    abbrev Answers : Asked → Reply → Replies → Replies → Type 0
    Answers a reply before since = AnswersAmong version issuer coming start end before since then a reply

    each_on : (n : ℕ) (a : Asked) (reply : Reply) → slice_get (asks ++ ask ∷ []) n ≡ Some a →
        slice_get (replies ++ told ∷ []) n ≡ Some (Ok reply) →
        AnswersAmong version issuer coming start end (take n (replies ++ told ∷ [])) (drop (n + 1) (replies ++ told ∷ [])) then a reply
    each_on n a reply asked is = by_place (front_or_last asks ask n a asked) (front_or_last replies told n (Ok reply) is)
      where
        by_place : ((slice_get asks n ≡ Some a) × (n < length asks)) ⊎ ((n ≡ length asks) × (ask ≡ a)) →
            ((slice_get replies n ≡ Some (Ok reply)) × (n < length replies)) ⊎ ((n ≡ length replies) × (told ≡ Ok reply)) →
            Answers a reply (take n (replies ++ told ∷ [])) (drop (n + 1) (replies ++ told ∷ []))
        by_place (inl x) (inr y) = absurd (let l = x.1 in let e = y.0 in omega (arith, l, e, even))
        by_place (inr x) (inl y) = absurd (let l = y.1 in let e = x.0 in omega (arith, l, e, even))
        by_place (inl x) (inl y) =
            let within : n < length replies = y.1 in
            let low : n ≤ length replies = omega (arith, within) in
            let next : n + 1 ≤ length replies = omega (arith, within) in
            subst (λ (rs : Replies). Answers a reply rs (drop (n + 1) (replies ++ told ∷ []))) (sym (take-append-le n replies (told ∷ []) low))
            (subst (λ (rs : Replies). Answers a reply (take n replies) rs) (sym (drop-append-le (n + 1) replies (told ∷ []) next))
            (answers_on (take n replies) (drop (n + 1) replies) (told ∷ []) top then a reply one_more (h.each n a reply x.0 y.0)))
        by_place (inr x) (inr y) =
            let here : Answers a reply replies [] =
            subst (λ (k : Asked). AnswersAmong version issuer coming start end replies [] then k reply) x.1 (answers reply y.1) in
            subst (λ (m : ℕ). Answers a reply (take m (replies ++ told ∷ [])) (drop (m + 1) (replies ++ told ∷ []))) (sym y.0)
            (subst (λ (rs : Replies). Answers a reply rs (drop (length replies + 1) (replies ++ told ∷ [])))
            (sym (take-append_seam replies (told ∷ [])))
            (subst (λ (rs : Replies). Answers a reply replies rs) (sym (drop-append-add replies (told ∷ []) 1)) here))

    pub runs_asked : RunsAmong version issuer coming start end (asks ++ ask ∷ []) (replies ++ told ∷ []) looks then
    runs_asked = record {
      all = (let a = h.all in let e = taken_both replies (told ∷ []) in let o = one_more in omega (arith, a, e, o));
      each = each_on;
      looked = looks_on replies (told ∷ []) top then looks one_more h.looked;
    }

  -- one look more
  pub runs_looked : (asks : List Asked) (replies : Replies) (looks : List Look) (top : ℕ) (look : Look) →
      LooksAmong start end replies top look → RunsAmong version issuer coming start end asks replies looks top →
      RunsAmong version issuer coming start end asks replies (looks ++ look ∷ []) top
  runs_looked asks replies looks top look l h = record {
    all = h.all;
    each = h.each;
    looked = push_each (LooksAmong start end replies top) looks look h.looked l;
  }

  pub none_runs : (top : ℕ) → length (recs start) ≤ top → RunsAmong version issuer coming start end [] [] [] top
  none_runs top up = record {
    all = omega (arith, up);
    each = λ n ask reply asked told. absurd (none n asked);
    looked = tt;
  }
    where
      none : {A : Type 0} {x : A} (n : ℕ) → slice_get [] n ≡ Some x → ⊥
      none n at = let l = slice_get_within [] n _ at in omega (arith, l)

-- a list around one of its elements
split_around : {A : Type 0} (xs : List A) (n : ℕ) (y : A) → slice_get xs n ≡ Some y → xs ≡ take n xs ++ y ∷ drop (suc n) xs
split_around [] n y at = absurd (let l = slice_get_within [] n y at in omega (arith, l))
split_around (x ∷ xs) zero y at = ap (λ (z : _). z ∷ xs) (let e = at in cc)
split_around (x ∷ xs) (suc n) y at = ap (λ (zs : List _). x ∷ zs) (split_around xs n y at)

-- Where all records at the end were taken, none stands between.
module _ (start end : List Entry) (replies : Replies) (all : length (recs end) ≡ length (recs start) + taken_in replies) where
  is_after : (before since : Replies) (own : ℕ) (history gained : List Entry) →
      taken_in replies ≡ taken_in before + own + taken_in since →
      length (recs history) + own ≤ length (recs (history ++ gained)) →
      StandsAmong start end before since (length (recs end)) history gained → IsAfter start end before history
  is_after before since own history gained parts more s =
      let count : length (recs start) + taken_in before ≡ length (recs history) =
      (let a = s.no_fewer in let b = s.no_more in omega (arith, a, b, all, parts, more)) in
      let rest : List Entry = gained ++ s.ends.0 in
      let is : end ≡ history ++ rest = s.ends.1 ∙ append_assoc history gained s.ends.0 in
      record {
        starts = s.starts;
        ends = (rest, is);
        records = sym (take-append_seam (recs history) (recs rest)) ∙
            ap (λ (n : ℕ). take n (recs history ++ recs rest)) (sym count) ∙
            ap (λ (l : List Sealed). take (length (recs start) + taken_in before) l)
            (sym (ap (λ (l : List Entry). recs l) is ∙ recs_both history rest));
      }

  answers_after : (version : Version) (issuer : List ℕ) (coming : ℕ → Option ℕ) (n : ℕ) (ask : Asked) (reply : Reply) →
      slice_get replies n ≡ Some (Ok reply) →
      AnswersAmong version issuer coming start end (take n replies) (drop (n + 1) replies) (length (recs end)) ask reply →
      AnswersAfter version issuer coming start end (take n replies) ask reply
  answers_after version issuer coming n ask reply at a =
      let next : n + 1 ≡ suc n = omega arith in
      let own : ℕ = cond (is_taken (Ok reply)) 1 0 in
      let parts : taken_in replies ≡ taken_in (take n replies) + own + taken_in (drop (n + 1) replies) =
      (let e = ap (λ (rs : Replies). taken_in rs) (split_around replies n (Ok reply) at) in
      let f = taken_both (take n replies) (Ok reply ∷ drop (suc n) replies) in
      let g = taken_cons (Ok reply) (drop (suc n) replies) in
      let d = ap (λ (k : ℕ). taken_in (drop k replies)) next in omega (arith, e, f, g, d)) in
      record {
        history = a.history;
        after = is_after (take n replies) (drop (n + 1) replies) own a.history a.gained parts
            (reply_gains a.history a.gained (answer version issuer a.history ask a.seconds) reply a.tells) a.stands;
        gained = a.gained;
        next = a.stands.ends;
        seconds = a.seconds;
        reading = a.reading;
        tells = a.tells;
      }

  looks_after : (looks : List Look) → AllByRecursion (LooksAmong start end replies (length (recs end))) looks →
      AllByRecursion (λ (look : Look). IsAfter start end (take look.after replies) look.history) looks
  looks_after [] h = tt
  looks_after (look ∷ looks) h = (
    (let parts : taken_in replies ≡ taken_in (take look.after replies) + 0 + taken_in (drop look.after replies) =
        (let e = ap (λ (rs : Replies). taken_in rs) (take-append-drop look.after replies) in
        let f = taken_both (take look.after replies) (drop look.after replies) in omega (arith, e, f)) in
        is_after (take look.after replies) (drop look.after replies) 0 look.history [] parts
        (let e : length (recs (look.history ++ [])) ≡ length (recs look.history) =
        ap (λ (l : List Entry). length (recs l)) (append-nil look.history) in omega (arith, e)) h.0.stands),
    looks_after looks h.1,
  )

  pub one_run : (version : Version) (issuer : List ℕ) (coming : ℕ → Option ℕ) (asks : List Asked) (looks : List Look) →
      RunsAmong version issuer coming start end asks replies looks (length (recs end)) →
      IsOneRun version issuer coming start end asks replies looks
  one_run version issuer coming asks looks h = record {
    all = all;
    each = λ n ask reply asked told. answers_after version issuer coming n ask reply told (h.each n ask reply asked told);
    looked = looks_after looks h.looked;
  }
