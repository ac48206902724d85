-- Words that are no command.
use Rattle.std.proofs.Common.{◌≡◌, ℕ, zero, suc, ◌==◌, false, ◌<◌, ◌≤◌, List, [], ◌∷◌, length, get_or, map, refl, sym, ◌∙◌, ap, subst, arith, Option, Some, None}
use Rattle.std.proofs.Common.{Bool, true, codes, bytes_eq, nat_lt, if◌then◌else◌, ◌+◌, ◌-◌, ◌/◌}
use Rattle.std.proofs.lemmas.Bool.Decides.{nat_tests}
use Rattle.std.proofs.lemmas.Slice.Eq.{bytes_eq-Decides}
use Rattle.parties.specs.Nif.{IsNif}
use Rattle.std.specs.List.{list_any}
use Rattle.verifactu.specs.CommandLine.{AsksFor, IsAskedFor, IsHelpAsked, IsSaid, Says, asks_help, IsChain, IsDay, IsDrain, IsServe, IsWithin, IsGuard, IsGuarding, IsMany, further_pairs, posts_needed}
use Rattle.verifactu.specs.Pairs.{ArePairs, AreApart, IsPairs}
use Rattle.issuers.specs.Office.{AreOwn}
use Rattle.verifactu.specs.declared.command_line.Command.{Command}
use Rattle.verifactu.specs.declared.command_line.Command.TheVariants.{Chain, Day, Drain, Serve, Audit, Link, Check, Migrate, Follow, Guard, Many}
use Rattle.verifactu.specs.declared.command_line.Command.TheVariants.{Listing, Statement, Export, Matches, Generate, Help, HelpOn, Version}

length_map : {A B : Type 0} (f : A → B) (xs : List A) → length (map f xs) ≡ length xs
length_map f [] = refl
length_map f (x ∷ xs) = ap suc (length_map f xs)

-- words of another count than those of every command
not_said : (words : List (List ℕ)) → (length words ≡ 1 → ⊥) → (length words ≡ 2 → ⊥) → (length words ≡ 3 → ⊥) →
    (length words ≡ 4 → ⊥) → ((issuers : List (List ℕ)) → IsMany words issuers → ⊥) → (command : Command) →
    Says words command → ⊥
not_said words one two three four many (Chain issuer) h = three (ap length h.words_are)
not_said words one two three four many (Day issuer) h = three (ap length h.words_are)
not_said words one two three four many (Drain issuer) h = three (ap length h.words_are)
not_said words one two three four many (Serve issuer) h = three (ap length h.words_are)
not_said words one two three four many Audit h = two (ap length h.words_are)
not_said words one two three four many (Link num host) h = four (ap length h.words_are)
not_said words one two three four many (Listing choice) h = three (ap length h.words_are)
not_said words one two three four many (Check workers) h = three (ap length h.words_are)
not_said words one two three four many Migrate h = three (ap length h.words_are)
not_said words one two three four many Follow h = three (ap length h.words_are)
not_said words one two three four many (Guard issuer) h = four (ap length h.words_are)
not_said words one two three four many (Many issuers) h = many issuers h
not_said words one two three four many (Statement period) h = three (ap length h.words_are)
not_said words one two three four many Export h = two (ap length h.words_are)
not_said words one two three four many Matches h = two (ap length h.words_are)
not_said words one two three four many (Generate n) h = two (ap length h.words_are)
not_said words one two three four many Help h = absurd h
not_said words one two three four many (HelpOn topic) h = absurd h
not_said words one two three four many Version h = one (ap length h)

-- pairs are two words each
pairs_long : (words issuers : List (List ℕ)) → ArePairs words issuers → length words ≡ length issuers + length issuers
pairs_long [] [] h = refl
pairs_long (file ∷ (nif ∷ words)) (issuer ∷ issuers) h = let e = pairs_long words issuers h.3 in omega (arith, e)
pairs_long [] (issuer ∷ issuers) h = absurd h
pairs_long (file ∷ []) [] h = absurd h
pairs_long (file ∷ []) (issuer ∷ issuers) h = absurd h
pairs_long (file ∷ (nif ∷ words)) [] h = absurd h

many_long : (words issuers : List (List ℕ)) → IsMany words issuers → 4 < length words
many_long words issuers h =
    let size = ap length h.words_are in
    let two = pairs_long h.pairs issuers h.are.pairs in
    let several = h.are.several in
    omega (arith, size, two, several)

pub none_said : {A : Type 0} (f : A → List ℕ) (words : List A) → (length words ≡ 1 → ⊥) → (length words ≡ 2 → ⊥) →
    (length words ≡ 3 → ⊥) → (length words ≡ 4 → ⊥) → length words ≤ 4 → IsSaid (map f words) None
none_said f words one two three four few =
    let same = length_map f words in
    not_said (map f words) (λ e. one (sym same ∙ e)) (λ e. two (sym same ∙ e)) (λ e. three (sym same ∙ e))
    (λ e. four (sym same ∙ e)) (λ issuers h. let long = many_long (map f words) issuers h in omega (arith, same, long, few))

-- words of another count than those of every command but `many`, which they aren't
pub not_many : {A : Type 0} (f : A → List ℕ) (words pairs : List A) (name : A) → words ≡ name ∷ pairs → 4 < length words →
    ((issuers : List (List ℕ)) → f name ≡ codes "many" → IsPairs (map f pairs) issuers → ⊥) → IsSaid (map f words) None
not_many {A} f words pairs name is long none =
    let same = length_map f words in
    not_said (map f words) (λ e. omega (arith, same, e, long)) (λ e. omega (arith, same, e, long)) (λ e. omega (arith, same, e, long))
    (λ e. omega (arith, same, e, long)) (λ issuers h. apart issuers h)
  where
    apart : (issuers : List (List ℕ)) → IsMany (map f words) issuers → ⊥
    apart issuers h =
        let both : f name ∷ map f pairs ≡ codes "many" ∷ h.pairs = ap (λ (l : List A). map f l) (sym is) ∙ h.words_are in
        let first : f name ≡ codes "many" = cc in
        let rest : map f pairs ≡ h.pairs = cc in
        none issuers first (subst (λ (l : List (List ℕ)). IsPairs l issuers) (sym rest) h.are)

pub is_many : {A : Type 0} (f : A → List ℕ) (words pairs : List A) (name : A) (issuers : List (List ℕ)) → words ≡ name ∷ pairs →
    f name ≡ codes "many" → IsPairs (map f pairs) issuers → IsMany (map f words) issuers
is_many {A} f words pairs name issuers is named are = record {
  pairs = map f pairs;
  words_are = ap (λ (l : List A). map f l) is ∙ ap (λ (n : List ℕ). n ∷ map f pairs) named;
  are = are;
}

-- five words or more
pub long_posts : (words pairs : List (List ℕ)) (name : List ℕ) → words ≡ name ∷ pairs → 4 < length words →
    posts_needed words ≡ further_pairs name pairs
long_posts words (a ∷ (b ∷ (c ∷ (d ∷ more)))) name is long = ap (λ (ws : List (List ℕ)). posts_needed ws) is
long_posts words [] name is long = absurd (let e = ap length is in omega (arith, e, long))
long_posts words (a ∷ []) name is long = absurd (let e = ap length is in omega (arith, e, long))
long_posts words (a ∷ (b ∷ [])) name is long = absurd (let e = ap length is in omega (arith, e, long))
long_posts words (a ∷ (b ∷ (c ∷ []))) name is long = absurd (let e = ap length is in omega (arith, e, long))

-- the words of `many` name a file more for each issuer but the first
pub many_posts : (words issuers : List (List ℕ)) → IsMany words issuers → posts_needed words + 1 ≡ length issuers
many_posts words issuers h =
    let needed = long_posts words h.pairs (codes "many") h.words_are (many_long words issuers h) in
    let two = pairs_long h.pairs issuers h.are.pairs in
    let few = h.are.few in
    let several = h.are.several in
    ap (λ (n : ℕ). n + 1) needed ∙ counted (nat_lt 16 (length h.pairs)) refl
  where
    counted : (b : Bool) → nat_lt 16 (length h.pairs) ≡ b →
        (if b then 0 else length h.pairs / 2 - 1) + 1 ≡ length issuers
    counted true past =
        let two = pairs_long h.pairs issuers h.are.pairs in
        let few = h.are.few in
        absurd (grind (arith, nat_tests, past, two, few))
    counted false within =
        let two = pairs_long h.pairs issuers h.are.pairs in
        let several = h.are.several in
        omega (arith, two, several)

-- a word that isn't this name
pub other_name : (word text : List ℕ) → word ≡ text → bytes_eq word (codes "many") ≡ false → text ≡ codes "many" → ⊥
other_name word text same differs named = let equal = (bytes_eq-Decides word (codes "many")).1 (same ∙ named) in cc

is_past : (n : ℕ) → 16 < n → nat_lt 16 n ≡ true
is_past n h = grind (arith, nat_tests, h)

isnt_past : (n : ℕ) → n ≤ 16 → nat_lt 16 n ≡ false
isnt_past n h = grind (arith, nat_tests, h)

module _ {A : Type 0} (f : A → List ℕ) (words pairs : List A) (name : A) (word : List ℕ) (is : words ≡ name ∷ pairs)
    (long : 4 < length words) (same : word ≡ f name) where
  counts : posts_needed (map f words) ≡ further_pairs word (map f pairs)
  counts = long_posts (map f words) (map f pairs) (f name) (ap (λ (l : List A). map f l) is)
      (let e = length_map f words in omega (arith, e, long)) ∙ ap (λ (n : List ℕ). further_pairs n (map f pairs)) (sym same)

  pub counts_none : bytes_eq word (codes "many") ≡ false → 0 ≡ posts_needed (map f words)
  counts_none differs = sym (counts ∙ ap (λ (b : Bool). if b then (if nat_lt 16 (length (map f pairs)) then 0 else length (map f pairs) / 2 - 1)
      else 0) differs)

  pub counts_past : bytes_eq word (codes "many") ≡ true → 16 < length pairs → 0 ≡ posts_needed (map f words)
  counts_past equal past = sym (counts ∙ ap (λ (b : Bool). if b then (if nat_lt 16 (length (map f pairs)) then 0 else length (map f pairs) / 2 - 1)
      else 0) equal ∙ ap (λ (b : Bool). if b then 0 else length (map f pairs) / 2 - 1)
      (is_past (length (map f pairs)) (let e = length_map f pairs in omega (arith, e, past))))

  pub counts_pairs : bytes_eq word (codes "many") ≡ true → length pairs ≤ 16 → length pairs / 2 - 1 ≡ posts_needed (map f words)
  counts_pairs equal few = ap (λ (n : ℕ). n / 2 - 1) (sym (length_map f pairs)) ∙
      sym (counts ∙ ap (λ (b : Bool). if b then (if nat_lt 16 (length (map f pairs)) then 0 else length (map f pairs) / 2 - 1)
      else 0) equal ∙ ap (λ (b : Bool). if b then 0 else length (map f pairs) / 2 - 1)
      (isnt_past (length (map f pairs)) (let e = length_map f pairs in omega (arith, e, few))))

-- none stands twice
pub own_of : (words : List (List ℕ)) → AreApart words → AreOwn words
own_of [] h = tt
own_of (word ∷ words) h = (h.0, own_of words h.1)

pub bytes_eq_is : (xs ys : List ℕ) → bytes_eq xs ys ≡ true → xs ≡ ys
bytes_eq_is xs ys h = (bytes_eq-Decides xs ys).0 h

pub is_chain : (name file nif issuer : List ℕ) → bytes_eq name (codes "chain") ≡ true → 0 < length file →
    IsNif nif × (issuer ≡ nif) → IsChain (name ∷ (file ∷ (nif ∷ []))) issuer
is_chain name file nif issuer named filed h = record {
  file = file;
  words_are = rw (bytes_eq_is name (codes "chain") named, h.1) refl;
  named = filed;
  nif = subst (λ (n : List ℕ). IsNif n) (sym h.1) h.0;
}

pub is_day : (name file nif issuer : List ℕ) → bytes_eq name (codes "day") ≡ true → 0 < length file →
    IsNif nif × (issuer ≡ nif) → IsDay (name ∷ (file ∷ (nif ∷ []))) issuer
is_day name file nif issuer named filed h = record {
  file = file;
  words_are = rw (bytes_eq_is name (codes "day") named, h.1) refl;
  named = filed;
  nif = subst (λ (n : List ℕ). IsNif n) (sym h.1) h.0;
}

pub is_drain : (name file nif issuer : List ℕ) → bytes_eq name (codes "drain") ≡ true → 0 < length file →
    IsNif nif × (issuer ≡ nif) → IsDrain (name ∷ (file ∷ (nif ∷ []))) issuer
is_drain name file nif issuer named filed h = record {
  file = file;
  words_are = rw (bytes_eq_is name (codes "drain") named, h.1) refl;
  named = filed;
  nif = subst (λ (n : List ℕ). IsNif n) (sym h.1) h.0;
}

pub is_serve : (name file nif issuer : List ℕ) → bytes_eq name (codes "serve") ≡ true → 0 < length file →
    IsNif nif × (issuer ≡ nif) → IsServe (name ∷ (file ∷ (nif ∷ []))) issuer
is_serve name file nif issuer named filed h = record {
  file = file;
  words_are = rw (bytes_eq_is name (codes "serve") named, h.1) refl;
  named = filed;
  nif = subst (λ (n : List ℕ). IsNif n) (sym h.1) h.0;
}

pub three_words : {A : Type 0} (xs : List A) (a b c : A) → 3 ≤ length xs → length xs < 4 → a ≡ get_or xs 0 a → b ≡ get_or xs 1 b →
    c ≡ get_or xs 2 c →
    xs ≡ a ∷ (b ∷ (c ∷ []))
three_words (w ∷ (x ∷ (y ∷ []))) a b c many few first second third = cc
three_words [] a b c many few first second third = absurd (omega arith)
three_words (w ∷ []) a b c many few first second third = absurd (omega arith)
three_words (w ∷ (x ∷ [])) a b c many few first second third = absurd (omega arith)
three_words (w ∷ (x ∷ (y ∷ (z ∷ xs)))) a b c many few first second third = absurd (omega arith)

pub four_words : {A : Type 0} (xs : List A) (a b c d : A) → 4 ≤ length xs → length xs < 5 → a ≡ get_or xs 0 a →
    b ≡ get_or xs 1 b → c ≡ get_or xs 2 c → d ≡ get_or xs 3 d →
    xs ≡ a ∷ (b ∷ (c ∷ (d ∷ [])))
four_words (w ∷ (x ∷ (y ∷ (z ∷ [])))) a b c d many few first second third fourth = cc
four_words [] a b c d many few first second third fourth = absurd (omega arith)
four_words (w ∷ []) a b c d many few first second third fourth = absurd (omega arith)
four_words (w ∷ (x ∷ [])) a b c d many few first second third fourth = absurd (omega arith)
four_words (w ∷ (x ∷ (y ∷ []))) a b c d many few first second third fourth = absurd (omega arith)
four_words (w ∷ (x ∷ (y ∷ (z ∷ (v ∷ xs))))) a b c d many few first second third fourth = absurd (omega arith)

pub some_byte : (n : ℕ) → (n == 0) ≡ false → 0 < n
some_byte zero e = absurd cc
some_byte (suc n) e = omega arith

pub is_guard : (file nif new issuer : List ℕ) → 0 < length file → 0 < length new → (new ≡ file → ⊥) →
    IsNif nif × (issuer ≡ nif) → IsGuard (codes "guard" ∷ (file ∷ (nif ∷ (new ∷ [])))) issuer
is_guard file nif new issuer named filed apart h = record {
  file = file;
  new = new;
  words_are = rw h.1 refl;
  named = named;
  nif = subst (λ (n : List ℕ). IsNif n) (sym h.1) h.0;
  new_named = filed;
  apart = apart;
}

-- the words of `guard` name one file more
pub guard_posts : (words : List (List ℕ)) (command : Command) → AsksFor words command → IsGuarding command →
    posts_needed words ≡ 1
guard_posts words (Guard issuer) h is = ap (λ (ws : List (List ℕ)). posts_needed ws) h.0.words_are
guard_posts words _ h is = absurd is

pub within : (words : List (List ℕ)) (command : Command) → AsksFor words command → IsWithin command
within words (Chain issuer) h = tt
within words (Day issuer) h = tt
within words (Drain issuer) h = tt
within words (Serve issuer) h = tt
within words Audit h = tt
within words (Link num host) h = tt
within words (Check workers) h = (h.0.number.count.range.0, h.0.number.few)
within words (Generate n) h = h.0.number.range
within words _ h = tt

asks_nothing : (words : List (List ℕ)) → IsHelpAsked words None → IsSaid words None → (command : Command) → AsksFor words command → ⊥
asks_nothing words none said Help h = none.0 h
asks_nothing words none said (HelpOn topic) h = none.1 topic h
asks_nothing words none said command h = said command h.0

asks_said : (words : List (List ℕ)) (command : Command) → list_any asks_help words ≡ false → Says words command → AsksFor words command
asks_said words Help without said = absurd said
asks_said words (HelpOn topic) without said = absurd said
asks_said words command without said = (said, without)

-- words that ask for no help ask for what they say
pub asked_as_said : (words : List (List ℕ)) (command : Option Command) → IsHelpAsked words None → list_any asks_help words ≡ false →
    IsSaid words command → IsAskedFor words command
asked_as_said words None none without said = λ command h. asks_nothing words none said command h
asked_as_said words (Some command) none without said = asks_said words command without said
