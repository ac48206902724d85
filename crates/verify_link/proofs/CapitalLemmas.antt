-- Texts with their escapes in capitals: how they join and part.
use Rattle.std.proofs.Common.{◌≡◌, ℕ, ◌+◌, ◌-◌, ◌/◌, ◌%◌, ◌<◌, ◌≤◌, Bool, true, false, not, ◌&&◌, cond, eqb, List, [], ◌∷◌, ◌++◌}
use Rattle.std.proofs.Common.{length, take, drop, get_or, zero, suc, ◌||◌, refl, sym, ap, ◌∙◌, arith, inl, inr, length-append}
use Rattle.std.proofs.Common.{take-append-drop}
use Rattle.std.specs.Char.{to_ascii_uppercase}
use Rattle.std.specs.Fmt.{digit_glyph}
use Rattle.std.specs.List.{list_all}
use Rattle.std.proofs.Math.Seq.{take-append_seam, drop-append_seam}
use Rattle.std.proofs.lemmas.List.{length-take-le}
use Rattle.std.proofs.lemmas.Bool.{and_parts, cases_Bool, le-leb, eqb-true, eq-eqb}
use Rattle.std.proofs.lemmas.Bool.Decides.{nat_tests}
use Rattle.std.proofs.lemmas.List.{ext_get_or}
use Rattle.verify_link.specs.Writing.{is_plain, encoded, is_behind_percent, agrees_at, AgreeButInCase}
use Rattle.verify_link.proofs.EncodingLemmas.{encoded-nil, encoded-plain, encoded-escaped}

-- the text with the two bytes after each `%` as capitals, and as many of its own first bytes as are still due
unfoldable pub capitals : ℕ → List ℕ → List ℕ
capitals due [] = []
capitals due (b ∷ rest) = cond (eqb due 0) b (to_ascii_uppercase b) ∷ capitals (cond (eqb b 37) 2 (due - 1)) rest

-- how many bytes are due after this one
abbrev pub due_past : ℕ → ℕ → ℕ
due_past due b = cond (eqb b 37) 2 (due - 1)

-- a byte where this many are due
abbrev pub shown : ℕ → ℕ → ℕ
shown due b = cond (eqb due 0) b (to_ascii_uppercase b)

pub capitals-nil : (due : ℕ) → capitals due [] ≡ []
unfolding capitals
capitals-nil due = refl

pub capitals-cons : (due b : ℕ) (rest : List ℕ) → capitals due (b ∷ rest) ≡ shown due b ∷ capitals (due_past due b) rest
unfolding capitals
capitals-cons due b rest = refl

-- how many bytes are due after these
unfoldable pub due_after : ℕ → List ℕ → ℕ
due_after due [] = due
due_after due (b ∷ rest) = due_after (due_past due b) rest

pub length-capitals : (due : ℕ) (text : List ℕ) → length (capitals due text) ≡ length text
unfolding capitals
length-capitals due [] = refl
length-capitals due (b ∷ rest) = omega (arith, length-capitals (due_past due b) rest)

pub capitals-append : (due : ℕ) (front rest : List ℕ) → capitals due (front ++ rest) ≡ capitals due front ++ capitals
    (due_after due front) rest
unfolding capitals due_after
capitals-append due [] rest = refl
capitals-append due (b ∷ front) rest = ap (λ x. shown due b ∷ x) (capitals-append (due_past due b) front rest)

-- a capital is `%` where the byte is
shown_percent : (due b : ℕ) → eqb (shown due b) 37 ≡ eqb b 37
shown_percent due b = grind (arith, nat_tests)

pub due_after-capitals : (from due : ℕ) (text : List ℕ) → due_after due (capitals from text) ≡ due_after due text
unfolding capitals due_after
due_after-capitals from due [] = refl
due_after-capitals from due (b ∷ rest) =
    ap (λ e. due_after (cond e 2 (due - 1)) (capitals (due_past from b) rest)) (shown_percent from b)
    ∙ due_after-capitals (due_past from b) (due_past due b) rest

-- a plain byte is no `%`
pub plain_percent : (b : ℕ) → is_plain b ≡ true → eqb b 37 ≡ false
plain_percent b plain = grind (arith, nat_tests)

pub glyph_percent : (d : ℕ) → d < 16 → eqb (digit_glyph true d) 37 ≡ false
glyph_percent d small = grind (arith, nat_tests)

pub glyph_capital : (d : ℕ) → d < 16 → to_ascii_uppercase (digit_glyph true d) ≡ digit_glyph true d
glyph_capital d small = grind (arith, nat_tests)

-- nothing is due after encoded bytes
pub due_after-encoded : (bs : List ℕ) → due_after 0 (encoded bs) ≡ 0
unfolding due_after
due_after-encoded [] = rw encoded-nil refl
due_after-encoded (b ∷ bs) =
    elim (cases_Bool (is_plain b)) [
      | inl plain ↦ rw (encoded-plain b bs plain) (ap (λ e. due_after (cond e 2 0) (encoded bs)) (plain_percent b plain) ∙
          due_after-encoded bs)
      | inr escaped ↦ (
          let high = digit_glyph true (b / 16 % 16) in
          let low = digit_glyph true (b % 16) in
          rw (encoded-escaped b bs escaped) (
          ap (λ e. due_after (cond (eqb low 37) 2 (cond e 2 1 - 1)) (encoded bs)) (glyph_percent (b / 16 % 16) (omega arith))
          ∙ ap (λ e. due_after (cond e 2 0) (encoded bs)) (glyph_percent (b % 16) (omega arith))
          ∙ due_after-encoded bs))
    ]

-- two bytes that are no `%`, after one
pub capitals-escape : (high low : ℕ) (rest : List ℕ) → eqb high 37 ≡ false → eqb low 37 ≡ false
    → capitals 0 (37 ∷ high ∷ low ∷ rest) ≡ 37 ∷ to_ascii_uppercase high ∷ to_ascii_uppercase low ∷ capitals 0 rest
unfolding capitals
capitals-escape high low rest first second = rw (first, second) refl

-- encoded bytes have their escapes in capitals
pub capitals-encoded : (bs : List ℕ) → capitals 0 (encoded bs) ≡ encoded bs
capitals-encoded [] = rw encoded-nil (capitals-nil 0)
capitals-encoded (b ∷ bs) =
    elim (cases_Bool (is_plain b)) [
      | inl plain ↦ rw (encoded-plain b bs plain) (
          capitals-cons 0 b (encoded bs)
          ∙ ap (λ e. b ∷ capitals (cond e 2 0) (encoded bs)) (plain_percent b plain) ∙ ap (λ x. b ∷ x) (capitals-encoded bs))
      | inr escaped ↦ (
          let high = digit_glyph true (b / 16 % 16) in
          let low = digit_glyph true (b % 16) in
          rw (encoded-escaped b bs escaped) (
          capitals-escape high low (encoded bs) (glyph_percent (b / 16 % 16) (omega arith)) (glyph_percent (b % 16) (omega arith))
          ∙ ap (λ x. 37 ∷ x ∷ to_ascii_uppercase low ∷ capitals 0 (encoded bs)) (glyph_capital (b / 16 % 16) (omega arith))
          ∙ ap (λ x. 37 ∷ high ∷ x ∷ capitals 0 (encoded bs)) (glyph_capital (b % 16) (omega arith))
          ∙ ap (λ x. 37 ∷ high ∷ low ∷ x) (capitals-encoded bs)))
    ]

-- texts of one length, each with a rest: where the wholes are equal the parts are
pub same_parts : (a b c d : List ℕ) → length a ≡ length b → a ++ c ≡ b ++ d → (a ≡ b) × (c ≡ d)
same_parts a b c d lengths whole =
    let front : a ≡ b =
    sym (take-append_seam a c) ∙ ap (take (length a)) whole ∙ ap (λ n. take n (b ++ d)) lengths ∙ take-append_seam b d in
    let back : c ≡ d =
    sym (drop-append_seam a c) ∙ ap (drop (length a)) whole ∙ ap (λ n. drop n (b ++ d)) lengths ∙ drop-append_seam b d in
    (front, back)

-- what becomes of a text's parts, where nothing is due between them
pub record Parts (text front rest : List ℕ) : Type 0 where
  pub front_is : capitals 0 (take (length front) text) ≡ front
  pub rest_is : capitals 0 (drop (length front) text) ≡ rest
  pub fits : length front ≤ length text

pub parts_of : (text front rest : List ℕ) → capitals 0 text ≡ front ++ rest → due_after 0 front ≡ 0 → Parts text front rest
parts_of text front rest whole none =
    let k = length front in
    let lengths : length text ≡ k + length rest = sym (length-capitals 0 text) ∙ ap length whole ∙ length-append front rest in
    let fits : k ≤ length text = omega arith in
    let halves = same_parts (capitals 0 (take k text)) front (capitals (due_after 0 (take k text)) (drop k text)) rest
    (length-capitals 0 (take k text) ∙ length-take-le k text fits)
    (sym (capitals-append 0 (take k text) (drop k text)) ∙ ap (capitals 0) (take-append-drop k text) ∙ whole) in
    let due : due_after 0 (take k text) ≡ 0 = sym (due_after-capitals 0 0 (take k text)) ∙ ap (due_after 0) halves.0 ∙ none in
    record {
      front_is = halves.0;
      rest_is = ap (λ n. capitals n (drop k text)) (sym due) ∙ halves.1;
      fits = fits;
    }

-- and of a text that is joined
pub joined : (front rest shown_front : List ℕ) → capitals 0 front ≡ shown_front → due_after 0 shown_front ≡ 0
    → capitals 0 (front ++ rest) ≡ shown_front ++ capitals 0 rest
joined front rest shown_front is none =
    let due : due_after 0 front ≡ 0 = sym (due_after-capitals 0 0 front) ∙ ap (due_after 0) is ∙ none in
    capitals-append 0 front rest ∙ ap (λ n. capitals 0 front ++ capitals n rest) due ∙ ap (λ x. x ++ capitals 0 rest) is

-- no `%` is among the bytes
abbrev pub has_no_percent : List ℕ → Bool
has_no_percent text = list_all (λ b. not (eqb b 37)) text

cons_from : (b c : ℕ) (bs cs : List ℕ) → b ∷ bs ≡ c ∷ cs → (b ≡ c) × (bs ≡ cs)
cons_from b c bs cs e = (cc, cc)

no_cons : (b : ℕ) (bs : List ℕ) → b ∷ bs ≡ [] → ⊥
no_cons b bs e = cc

not_true : (a : Bool) → not a ≡ true → a ≡ false
not_true true e = cc
not_true false e = refl

-- a text without `%` stays as it is
pub unchanged : (text shown_text : List ℕ) → capitals 0 text ≡ shown_text → has_no_percent shown_text ≡ true → text ≡ shown_text
unchanged [] shown_text is plain = sym (capitals-nil 0) ∙ is
unchanged (b ∷ rest) [] is plain = absurd (no_cons _ _ (sym (capitals-cons 0 b rest) ∙ is))
unchanged (b ∷ rest) (c ∷ cs) is plain =
    let heads = cons_from b c (capitals (due_past 0 b) rest) cs (sym (capitals-cons 0 b rest) ∙ is) in
    let tests = and_parts (not (eqb c 37)) (has_no_percent cs) plain in
    let none : eqb b 37 ≡ false = ap (λ x. eqb x 37) heads.0 ∙ not_true (eqb c 37) tests.0 in
    let tail : capitals 0 rest ≡ cs = ap (λ e. capitals (cond e 2 0) rest) (sym none) ∙ heads.1 in
    rw (heads.0, unchanged rest cs tail tests.1) refl

pub capitals-plain : (text : List ℕ) → has_no_percent text ≡ true → capitals 0 text ≡ text
capitals-plain [] plain = capitals-nil 0
capitals-plain (b ∷ rest) plain =
    let tests = and_parts (not (eqb b 37)) (has_no_percent rest) plain in
    capitals-cons 0 b rest ∙ ap (λ e. b ∷ capitals (cond e 2 0) rest) (not_true (eqb b 37) tests.0) ∙
    ap (λ x. b ∷ x) (capitals-plain rest tests.1)

-- ---- texts that agree but in the case of their escapes

capital_at : (due : ℕ) (text : List ℕ) (k : ℕ) → k < length text
    → get_or (capitals due text) k 0 ≡ shown (due_after due (take k text)) (get_or text k 0)
unfolding capitals due_after
capital_at due [] k within = absurd (omega arith)
capital_at due (b ∷ rest) zero within = refl
capital_at due (b ∷ rest) (suc k) within = capital_at (due_past due b) rest k (omega arith)

due_next : (due : ℕ) (text : List ℕ) (k : ℕ) → k < length text
    → due_after due (take (suc k) text) ≡ due_past (due_after due (take k text)) (get_or text k 0)
unfolding due_after
due_next due [] k within = absurd (omega arith)
due_next due (b ∷ rest) zero within = refl
due_next due (b ∷ rest) (suc k) within = due_next (due_past due b) rest k (omega arith)

few_past : (due b : ℕ) → due ≤ 2 → due_past due b ≤ 2
few_past due b few = grind (arith, nat_tests)

few_due : (due : ℕ) (text : List ℕ) → due ≤ 2 → due_after due text ≤ 2
unfolding due_after
few_due due [] few = few
few_due due (b ∷ rest) few = few_due (due_past due b) rest (few_past due b few)

one_step : (percent : Bool) → eqb (cond percent 2 0) 0 ≡ not (percent || false)
one_step true = refl
one_step false = refl

two_steps : (near far : Bool) (due : ℕ) → due ≤ 2 → eqb (cond near 2 (cond far 2 (due - 1) - 1)) 0 ≡ not (near || far)
two_steps true far due few = refl
two_steps false true due few = refl
two_steps false false due few = let none : due - 1 - 1 ≡ 0 = omega arith in rw none refl

behind_later : (text : List ℕ) (k : ℕ) → is_behind_percent text (suc (suc k)) ≡ (eqb (get_or text (suc k) 0) 37 || eqb
    (get_or text k 0) 37)
behind_later text k =
    let near : suc (suc k) - 1 ≡ suc k = omega arith in
    let far : suc (suc k) - 2 ≡ k = omega arith in
    rw (near, far, le-leb 1 (suc (suc k)) (omega arith), le-leb 2 (suc (suc k)) (omega arith)) refl

-- something is due exactly after a `%`
none_due : (text : List ℕ) (k : ℕ) → k < length text → eqb (due_after 0 (take k text)) 0 ≡ not (is_behind_percent text k)
unfolding due_after
none_due text zero within = refl
none_due text (suc zero) within =
    let e = due_next 0 text 0 (omega arith) in rw e (one_step (eqb (get_or text 0 0) 37))
none_due text (suc (suc k)) within =
    let due = due_after 0 (take k text) in
    let e = due_next 0 text (suc k) (omega arith) in
    let f = due_next 0 text k (omega arith) in
    rw (e, f, behind_later text k) (two_steps (eqb (get_or text (suc k) 0) 37) (eqb (get_or text k 0) 37) due
    (few_due 0 (take k text) (omega arith)))

-- what the text has there in capitals
abbrev capital_byte : List ℕ → ℕ → ℕ
capital_byte text k = cond (is_behind_percent text k) (to_ascii_uppercase (get_or text k 0)) (get_or text k 0)

turned : (b : Bool) (x y : ℕ) → cond (not b) x y ≡ cond b y x
turned true x y = refl
turned false x y = refl

capital_is : (text : List ℕ) (k : ℕ) → k < length text → get_or (capitals 0 text) k 0 ≡ capital_byte text k
capital_is text k within =
    let b = get_or text k 0 in
    capital_at 0 text k within ∙ ap (λ e. cond e b (to_ascii_uppercase b)) (none_due text k within)
    ∙ turned (is_behind_percent text k) b (to_ascii_uppercase b)

pub capitals_from : (text written : List ℕ) → AgreeButInCase text written → capitals 0 text ≡ written
capitals_from text written agree =
    ext_get_or 0 (capitals 0 text) written (length-capitals 0 text ∙ agree.long)
    (λ k within.
    let fits : k < length text = omega (arith, length-capitals 0 text, within) in
    capital_is text k fits ∙ eqb-true (capital_byte text k) (get_or written k 0) (agree.bytes k fits))

pub agree_from : (text written : List ℕ) → capitals 0 text ≡ written → AgreeButInCase text written
agree_from text written is = record {
  long = sym (length-capitals 0 text) ∙ ap length is;
  bytes = λ k within. eq-eqb (capital_byte text k) (get_or written k 0) (sym (capital_is text k within) ∙ ap (λ x. get_or x k 0)
      is);
}
