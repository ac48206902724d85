-- Sections of a script, line by line, and their bad lines.
use Rattle.std.proofs.Common.{All, IfOk}
use Rattle.std.proofs.Common.{◌≡◌, inl, inr, ℕ, zero, suc, ◌+◌, ◌-◌, ◌≤◌, List, [], ◌∷◌, ◌++◌, length, refl, ap, sym, ◌∙◌, subst, arith, add-zero}
use Rattle.std.proofs.Common.{Bool, true, false, not, ◌&&◌, ◌==◌, cond, ltb, Option, Some, None, Result, Ok, Err, append_assoc, length-append, filter_map}
use Rattle.std.proofs.Common.{is_some, slice_get}
use Rattle.std.specs.List.{AllByRecursion, enumerate_from, join_with_byte, onto_first}
use Rattle.std.specs.Option.{option_map_or}
use Rattle.std.proofs.lemmas.Bool.{cases_Bool, ltb-true, ltb-false}
use Rattle.std.proofs.lemmas.List.{append-nil}
use Rattle.std.proofs.lemmas.List.Elements.{All-push, Contains-push, Contains-append_left, filter_map-append}
use Rattle.std.proofs.lemmas.List.Splits.{join_with_byte-slice_split, length-slice_split, slice_split_at, slice_split_none}
use Rattle.record_fields.specs.Picks.{last_of}
use Rattle.script.specs.Cuts.{lines_of, parts_of}
use Rattle.script.specs.Numbered.{IsNumbered}
use Rattle.script.specs.declared.forms.Form.TheVariants.{Full}
use Rattle.script.specs.declared.scripts.ScriptFault.{ScriptFault}
use Rattle.script.specs.declared.scripts.ScriptFault.TheVariants as script_fault
use Rattle.issuers.specs.Reading.{Adds, AreFirstFaults, IsFirstFault, IsSoonest, PartIs, PartsAre, is_own, names, own_line, own_lines, part_of, section_of, sooner_fault}
use Rattle.issuers.specs.Parts.{HasLines}
use Rattle.issuers.specs.declared.parts.Part.{Part}
use Rattle.issuers.specs.declared.reading.BadLine.{BadLine}
use Rattle.issuers.proofs.EachElement.{each_snoc, each_weaker}

pub enumerate_push : {X : Type 0} (n : ℕ) (xs : List X) (x : X) →
    enumerate_from n (xs ++ x ∷ []) ≡ enumerate_from n xs ++ (n + length xs, x) ∷ []
enumerate_push {X} n [] x = let P : ℕ → List (ℕ × X) = λ k. (k, x) ∷ [] in ap P (sym (add-zero n))
enumerate_push {X} n (y ∷ xs) x =
    let P : ℕ → List (ℕ × X) = λ k. (n, y) ∷ (enumerate_from (n + 1) xs ++ (k, x) ∷ []) in
    let same : (n + 1) + length xs ≡ n + length (y ∷ xs) = omega arith in
    ap (λ (l : List (ℕ × X)). (n, y) ∷ l) (enumerate_push (n + 1) xs x) ∙ ap P same

abbrev pub one : {A : Type 0} → Option A → List A
one None = []
one (Some x) = x ∷ []

filter_one : {X Y : Type 0} (h : X → Option Y) (x : X) (o : Option Y) → h x ≡ o → filter_map h (x ∷ []) ≡ one o
filter_one h x None is = rw is refl
filter_one h x (Some y) is = rw is refl

pub filter_push : {X Y : Type 0} (h : X → Option Y) (xs : List X) (x : X) → filter_map h (xs ++ x ∷ []) ≡ filter_map h xs ++ one (h x)
filter_push {X} {Y} h xs x = filter_map-append h xs (x ∷ []) ∙ ap (λ (l : List Y). filter_map h xs ++ l) (filter_one h x (h x) refl)

-- one bad line more
pub soonest_push : (faults : List BadLine) (best other : Option BadLine) → IsSoonest faults best →
    IsSoonest (faults ++ one other) (sooner_fault best other)
soonest_push faults None None h = append-nil faults ∙ h
soonest_push faults None (Some other) h = (
  Contains-push faults other,
  subst (λ (l : List BadLine). AllByRecursion (λ (b : BadLine). other.line ≤ b.line) (l ++ other ∷ [])) (sym h) (omega arith, tt),
)
soonest_push faults (Some best) None h = subst (λ (l : List BadLine). IsSoonest l (Some best)) (sym (append-nil faults)) h
soonest_push faults (Some best) (Some other) h = elim (cases_Bool (ltb other.line best.line)) [
  | inl passes ↦ subst (λ (b : Bool). IsSoonest (faults ++ other ∷ []) (cond b (Some other) (Some best))) (sym passes)
      (let less = ltb-true other.line best.line passes in (
        Contains-push faults other,
        each_snoc (λ (b : BadLine). other.line ≤ b.line) faults other
            (each_weaker (λ (b : BadLine). best.line ≤ b.line) (λ (b : BadLine). other.line ≤ b.line) faults
            (λ b low. omega (arith, low, less)) h.1) (omega arith),
      ))
  | inr fails ↦ subst (λ (b : Bool). IsSoonest (faults ++ other ∷ []) (cond b (Some other) (Some best))) (sym fails)
      (let more = ltb-false other.line best.line fails in (
        Contains-append_left faults (other ∷ []) best h.0,
        each_snoc (λ (b : BadLine). best.line ≤ b.line) faults other h.1 more,
      ))
]

pub never_none : (best : Option BadLine) (other : BadLine) → sooner_fault best (Some other) ≡ None → ⊥
never_none None other is = absurd cc
never_none (Some best) other is = by_case (ltb other.line best.line) is
  where
    by_case : (b : Bool) → cond b (Some other) (Some best) ≡ None → ⊥
    by_case true e = absurd cc
    by_case false e = absurd cc

-- what joins the lines that are left to those before them, where there are any
abbrev pub glue : Bool → List (List ℕ) → List ℕ
glue false lines = join_with_byte 10 lines
glue true [] = []
glue true (line ∷ lines) = 10 ∷ join_with_byte 10 (line ∷ lines)

pub join_cons : (line : List ℕ) (lines : List (List ℕ)) → join_with_byte 10 (line ∷ lines) ≡ line ++ glue true lines
join_cons line [] = sym (append-nil line)
join_cons line (next ∷ lines) = refl

-- one line more of the part
pub glue_first : (part line : List ℕ) (lines : List (List ℕ)) → part ++ glue false (line ∷ lines) ≡ (part ++ line) ++ glue true lines
glue_first part line lines =
    ap (λ (l : List ℕ). part ++ l) (join_cons line lines) ∙ sym (append_assoc part line (glue true lines))

pub glue_next : (part line : List ℕ) (lines : List (List ℕ)) →
    part ++ glue true (line ∷ lines) ≡ ((part ++ 10 ∷ []) ++ line) ++ glue true lines
glue_next part line lines =
    ap (λ (l : List ℕ). part ++ 10 ∷ l) (join_cons line lines) ∙ sym (append_assoc part (10 ∷ []) (line ++ glue true lines)) ∙
    sym (append_assoc (part ++ 10 ∷ []) line (glue true lines))

-- what ends the line above
abbrev pub ending : Bool → List ℕ
ending begun = cond begun (10 ∷ []) []

pub glue_more : (begun : Bool) (part line : List ℕ) (lines : List (List ℕ)) →
    part ++ glue begun (line ∷ lines) ≡ ((part ++ ending begun) ++ line) ++ glue true lines
glue_more true part line lines = glue_next part line lines
glue_more false part line lines = glue_first part line lines ∙
    ap (λ (l : List ℕ). (l ++ line) ++ glue true lines) (sym (append-nil part))

-- the last of a list that has one more
last_one : {X : Type 0} (xs : List X) (x : X) → slice_get (xs ++ x ∷ []) (length xs) ≡ Some x
last_one [] x = refl
last_one (y ∷ xs) x = last_one xs x

last_push : {X : Type 0} (xs : List X) (x : X) → last_of (xs ++ x ∷ []) ≡ Some x
last_push {X} xs x =
    let more = length-append xs (x ∷ []) in
    let at : length (xs ++ x ∷ []) - 1 ≡ length xs = omega (arith, more) in
    ap (λ (k : ℕ). slice_get (xs ++ x ∷ []) k) at ∙ last_one xs x

-- whether the line below one more is an issuer's
own_push : (nif : List ℕ) (sections : List (List (List ℕ))) (o : Option (List (List ℕ))) →
    option_map_or (names nif) (last_of (sections ++ one o)) true ≡ option_map_or (names nif) o (option_map_or (names nif) (last_of sections) true)
own_push nif sections None = ap (λ (l : List (List (List ℕ))). option_map_or (names nif) (last_of l) true) (append-nil sections)
own_push nif sections (Some fields) = ap (λ (o : Option (List (List ℕ))). option_map_or (names nif) o true) (last_push sections fields)

pub own_next : (nif : List ℕ) (before : List (List ℕ)) (line : List ℕ) →
    is_own nif (before ++ line ∷ []) ≡ option_map_or (names nif) (section_of line) (is_own nif before)
own_next nif before line =
    ap (λ (l : List (List (List ℕ))). option_map_or (names nif) (last_of l) true) (filter_push section_of before line) ∙
    own_push nif (filter_map section_of before) (section_of line)

-- no text of the first is longer than that of the second
abbrev IsNoLonger : List (List ℕ) → List (List ℕ) → Type 0
IsNoLonger xs ys = (length (join_with_byte 10 xs) ≤ length (join_with_byte 10 ys)) × (length (glue true xs) ≤ length (glue true ys))

longer_head : (head line : List ℕ) (xs ys : List (List ℕ)) → length head ≤ length line → IsNoLonger xs ys →
    IsNoLonger (head ∷ xs) (line ∷ ys)
longer_head head line xs ys low rest =
    let more = rest.1 in
    let a = ap length (join_cons head xs) in
    let b = ap length (join_cons line ys) in
    let x = length-append head (glue true xs) in
    let y = length-append line (glue true ys) in
    let all : length (join_with_byte 10 (head ∷ xs)) ≤ length (join_with_byte 10 (line ∷ ys)) = omega (arith, more, a, b, x, y, low) in
    (all, omega (arith, all))

own_no_longer : (own : Bool) (line : List ℕ) → length (cond own line []) ≤ length line
own_no_longer true line = omega arith
own_no_longer false line = omega arith

-- a part is no longer than the whole
shorter : (nif : List ℕ) (before lines : List (List ℕ)) → IsNoLonger (own_lines nif before lines) lines
shorter nif before [] = (omega arith, omega arith)
shorter nif before (line ∷ lines) =
    longer_head (own_line nif before line) line (own_lines nif (before ++ line ∷ []) lines) lines
    (own_no_longer (not (is_some (section_of line)) && is_own nif before) line) (shorter nif (before ++ line ∷ []) lines)

pub part_is_no_longer : (nif bytes : List ℕ) → length (part_of nif bytes) ≤ length bytes
part_is_no_longer nif bytes =
    let low = (shorter nif [] (parts_of 10 bytes)).0 in
    let whole = ap length (join_with_byte-slice_split 10 bytes) in
    omega (arith, low, whole)

-- lines that were joined are cut as they were

-- a line has no line feed
abbrev IsLine : List ℕ → Type 0
IsLine line = AllByRecursion (λ (b : ℕ). (b == 10) ≡ false) line

all_of : {A : Type 0} (P : A → Type 0) (xs : List A) → AllByRecursion P xs → All P xs
all_of P [] h k d below = absurd (omega (arith, below))
all_of P (x ∷ xs) h zero d below = h.0
all_of P (x ∷ xs) h (suc k) d below = all_of P xs h.1 k d (omega (arith, below))

split_join : (line : List ℕ) (lines : List (List ℕ)) → AllByRecursion IsLine (line ∷ lines) →
    parts_of 10 (join_with_byte 10 (line ∷ lines)) ≡ line ∷ lines
split_join line [] h = slice_split_none (λ b. b == 10) line (all_of (λ (b : ℕ). (b == 10) ≡ false) line h.0)
split_join line (next ∷ lines) h =
    slice_split_at (λ b. b == 10) line 10 (join_with_byte 10 (next ∷ lines)) (all_of (λ (b : ℕ). (b == 10) ≡ false) line h.0) refl ∙
    ap (λ (l : List (List ℕ)). line ∷ l) (split_join next lines h.1)

onto_lines : (b : ℕ) (parts : List (List ℕ)) → (b == 10) ≡ false → AllByRecursion IsLine parts → AllByRecursion IsLine (onto_first b parts)
onto_lines b [] other h = ((other, tt), tt)
onto_lines b (part ∷ parts) other h = ((other, h.0), h.1)

-- what is cut at line feeds has none
are_lines : (bytes : List ℕ) → AllByRecursion IsLine (parts_of 10 bytes)
are_lines [] = (tt, tt)
are_lines (b ∷ bytes) = by_cut (b == 10) refl (are_lines bytes)
  where
    by_cut : (cut : Bool) → (b == 10) ≡ cut → AllByRecursion IsLine (parts_of 10 bytes) →
        AllByRecursion IsLine (cond cut ([] ∷ parts_of 10 bytes) (onto_first b (parts_of 10 bytes)))
    by_cut true is others = (tt, others)
    by_cut false is others = onto_lines b (parts_of 10 bytes) is others

own_is_line : (own : Bool) (line : List ℕ) → IsLine line → IsLine (cond own line [])
own_is_line true line h = h
own_is_line false line h = tt

own_are_lines : (nif : List ℕ) (before lines : List (List ℕ)) → AllByRecursion IsLine lines →
    AllByRecursion IsLine (own_lines nif before lines)
own_are_lines nif before [] h = tt
own_are_lines nif before (line ∷ lines) h = (
  own_is_line (not (is_some (section_of line)) && is_own nif before) line h.0,
  own_are_lines nif (before ++ line ∷ []) lines h.1,
)

stay_by : (nif : List ℕ) (lines : List (List ℕ)) → (length lines ≡ 0 → ⊥) → AllByRecursion IsLine lines →
    parts_of 10 (join_with_byte 10 (own_lines nif [] lines)) ≡ own_lines nif [] lines
stay_by nif [] some h = absurd (some refl)
stay_by nif (line ∷ lines) some h =
    split_join (own_line nif [] line) (own_lines nif (line ∷ []) lines) (own_are_lines nif [] (line ∷ lines) h)

-- a part, cut into lines, is the lines of the whole, with those that aren't its own made empty
pub lines_stay : (nif bytes : List ℕ) → parts_of 10 (part_of nif bytes) ≡ own_lines nif [] (parts_of 10 bytes)
lines_stay nif bytes =
    let some = length-slice_split (λ b. b == 10) bytes in
    stay_by nif (parts_of 10 bytes) (λ none. omega (arith, some, none)) (are_lines bytes)

pub first_faults_push : (bytes : List ℕ) (issuers : List (List ℕ)) (faults : List (Option BadLine)) (nif : List ℕ)
    (fault : Option BadLine) → AreFirstFaults bytes issuers faults → IsFirstFault bytes nif fault →
    AreFirstFaults bytes (issuers ++ nif ∷ []) (faults ++ fault ∷ [])
first_faults_push bytes [] [] nif fault h is = (is, tt)
first_faults_push bytes [] (f ∷ faults) nif fault h is = absurd h
first_faults_push bytes (i ∷ issuers) [] nif fault h is = absurd h
first_faults_push bytes (i ∷ issuers) (f ∷ faults) nif fault h is = (h.0, first_faults_push bytes issuers faults nif fault h.1 is)

pub parts_are_push : (bytes : List ℕ) (issuers : List (List ℕ)) (parts : List Part) (nif : List ℕ) (part : Part) →
    PartsAre bytes issuers parts → IsNumbered Full (lines_of (part_of nif bytes)) part.script part.lines →
    PartsAre bytes (issuers ++ nif ∷ []) (parts ++ part ∷ [])
parts_are_push bytes [] [] nif part h is = (is, tt)
parts_are_push bytes [] (p ∷ parts) nif part h is = absurd h
parts_are_push bytes (i ∷ issuers) [] nif part h is = absurd h
parts_are_push bytes (i ∷ issuers) (p ∷ parts) nif part h is = (h.0, parts_are_push bytes issuers parts nif part h.1 is)

sooner_none : (best : Option BadLine) → sooner_fault best None ≡ best
sooner_none None = refl
sooner_none (Some best) = refl

abbrev pub those : List (Option BadLine) → List BadLine
those faults = filter_map (λ (fault : Option BadLine). fault) faults

-- what was read of the first issuers, and the bad lines that begin sections
pub record Many (bytes : List ℕ) (issuers : List (List ℕ)) (sections : List BadLine) (bad : Option BadLine) (parts : List Part) :
    Type 0 where
  pub faults : List (Option BadLine)
  pub each : AreFirstFaults bytes issuers faults
  pub soonest : IsSoonest (sections ++ those faults) bad
  pub parts_are : bad ≡ None → PartsAre bytes issuers parts

-- one first bad line more
more_soonest : (sections : List BadLine) (faults : List (Option BadLine)) (bad fault : Option BadLine) →
    IsSoonest (sections ++ those faults) bad → IsSoonest (sections ++ those (faults ++ fault ∷ [])) (sooner_fault bad fault)
more_soonest sections faults bad fault h =
    subst (λ (l : List BadLine). IsSoonest l (sooner_fault bad fault))
    (append_assoc sections (those faults) (one fault) ∙
    ap (λ (l : List BadLine). sections ++ l) (sym (filter_push (λ (fault : Option BadLine). fault) faults fault)))
    (soonest_push (sections ++ those faults) bad fault h)

pub many_more : (bytes : List ℕ) (issuers : List (List ℕ)) (sections : List BadLine) (bad : Option BadLine) (parts : List Part)
    (nif : List ℕ) (read : Result Part ScriptFault) (now : Option BadLine) (more : List Part) → Many bytes issuers sections bad parts →
    PartIs bytes nif read → Adds read bad parts now more → Many bytes (issuers ++ nif ∷ []) sections now more
many_more bytes issuers sections bad parts nif (Ok part) now more h is a = record {
  faults = h.faults ++ None ∷ [];
  each = first_faults_push bytes issuers h.faults nif None h.each (part.script, is.whole);
  soonest = subst (λ (b : Option BadLine). IsSoonest (sections ++ those (h.faults ++ None ∷ [])) b)
      (sooner_none bad ∙ sym a.0) (more_soonest sections h.faults bad None h.soonest);
  parts_are = λ none. subst (λ (ps : List Part). PartsAre bytes (issuers ++ nif ∷ []) ps) (sym a.1)
      (parts_are_push bytes issuers parts nif part (h.parts_are (sym a.0 ∙ none)) is);
}
many_more bytes issuers sections bad parts nif (Err (script_fault.BadLine line fault)) now more h is a =
    let other : BadLine = record { line = line; fault = fault } in
    record {
      faults = h.faults ++ Some other ∷ [];
      each = first_faults_push bytes issuers h.faults nif (Some other) h.each is;
      soonest = subst (λ (b : Option BadLine). IsSoonest (sections ++ those (h.faults ++ Some other ∷ [])) b) (sym a.0)
          (more_soonest sections h.faults bad (Some other) h.soonest);
      parts_are = λ none. absurd (never_none bad other (sym a.0 ∙ none));
    }
many_more bytes issuers sections bad parts nif (Err script_fault.NoMemory) now more h is a = absurd a

-- with no line left a part is whole
pub at_end : (part : List ℕ) (begun : Bool) (nif : List ℕ) (before lines : List (List ℕ)) (whole : List ℕ) → lines ≡ [] →
    part ++ glue begun (own_lines nif before lines) ≡ whole → part ≡ whole
at_end part true nif before lines whole none is =
    sym (append-nil part) ∙ ap (λ (l : List (List ℕ)). part ++ glue true (own_lines nif before l)) (sym none) ∙ is
at_end part false nif before lines whole none is =
    sym (append-nil part) ∙ ap (λ (l : List (List ℕ)). part ++ glue false (own_lines nif before l)) (sym none) ∙ is

-- one line more is after the others
pub split_on : (all front left rest : List (List ℕ)) (line : List ℕ) → all ≡ front ++ left → left ≡ line ∷ rest →
    all ≡ (front ++ line ∷ []) ++ rest
split_on all front left rest line is next =
    is ∙ ap (λ (l : List (List ℕ)). front ++ l) next ∙ sym (append_assoc front (line ∷ []) rest)

-- what is found line by line
pub found_push : {Y : Type 0} (h : ℕ × List ℕ → Option Y) (front : List (List ℕ)) (line : List ℕ) (number : ℕ) →
    number ≡ length front → filter_map h (enumerate_from 1 (front ++ line ∷ []))
    ≡ filter_map h (enumerate_from 1 front) ++ one (h (number + 1, line))
found_push {Y} h front line number is =
    let same : 1 + length front ≡ number + 1 = omega (arith, is) in
    let P : ℕ → List (ℕ × List ℕ) = λ k. enumerate_from 1 front ++ (k, line) ∷ [] in
    ap (λ (l : List (ℕ × List ℕ)). filter_map h l) (enumerate_push 1 front line ∙ ap P same) ∙
    filter_push h (enumerate_from 1 front) (number + 1, line)

-- one part more that has its lines
pub lines_more : (read : Result Part ScriptFault) (bad : Option BadLine) (parts : List Part) (now : Option BadLine) (more : List Part) →
    IfOk read HasLines → All HasLines parts → Adds read bad parts now more → All HasLines more
lines_more (Ok part) bad parts now more one all a = subst (λ (ps : List Part). All HasLines ps) (sym a.1)
    (All-push HasLines parts part all one)
lines_more (Err (script_fault.BadLine line fault)) bad parts now more one all a = subst (λ (ps : List Part). All HasLines ps) (sym a.1)
    all
lines_more (Err script_fault.NoMemory) bad parts now more one all a = absurd a
