-- Words ask for one command at most.
use Rattle.std.proofs.Common.{◌≡◌, ◌∙◌, ◌<◌, ◌||◌, ◌/◌, ◌%◌, ℕ, List, [], ◌∷◌, length, get_or, Bool, true, false, codes, bytes_eq}
use Rattle.std.proofs.Common.{if◌then◌else◌, refl, sym, ap, arith, inl, inr, Some, None}
use Rattle.std.proofs.lemmas.Fmt.{decimal_injective}
use Rattle.std.specs.List.{list_any}
use Rattle.stamps.proofs.TextLemmas.{date_text_of-bytes, date_text_of_injective, digits_injective}
use Rattle.statements.specs.Months.{YearMonth, month_text}
use Rattle.statements.specs.Periods.{period_text}
use Rattle.statements.specs.declared.periods.Period.{Period}
use Rattle.statements.specs.declared.periods.Period.TheVariants as period
use Rattle.report.specs.declared.chosen.Choice.{Choice}
use Rattle.report.specs.declared.chosen.Choice.TheVariants.{All, Waiting, Refused}
use Rattle.verify_link.specs.declared.parts.Host.{Host}
use Rattle.verify_link.specs.declared.parts.Host.TheVariants.{Real, Practice}
use Rattle.verifactu.specs.CommandLine.{AsksFor, IsCountOf, IsHelp, IsHelpOn, OneCommand, Says, asks_help, choice_word, host_word}
use Rattle.verifactu.specs.Pairs.{ArePairs}
use Rattle.verifactu.specs.Topics.{topic_name}
use Rattle.verifactu.specs.declared.command_line.Command.{Command}
use Rattle.verifactu.specs.declared.command_line.Command.TheVariants.{Chain, Day, Drain, Serve, Audit, Link, Check, Migrate, Follow, Guard, Many}
use Rattle.verifactu.specs.declared.command_line.Command.TheVariants.{Listing, Statement, Export, Matches, Generate, Help, HelpOn, Version}
use Rattle.verifactu.specs.declared.topics.Topic.{Topic}
use Rattle.verifactu.specs.declared.topics.Topic.TheVariants as topic

-- a command by a number
abbrev tag : Command → ℕ
tag (Chain issuer) = 0
tag (Day issuer) = 1
tag (Serve issuer) = 2
tag (Drain issuer) = 3
tag Audit = 4
tag (Link num host) = 5
tag (Listing choice) = 6
tag (Check workers) = 7
tag (Statement of) = 8
tag Export = 9
tag Matches = 10
tag Migrate = 11
tag Follow = 12
tag (Guard issuer) = 13
tag (Many issuers) = 14
tag (Generate n) = 15
tag Version = 16
tag Help = 17
tag (HelpOn on) = 18

-- the number of the command that a word names
abbrev tag_of : List ℕ → ℕ
tag_of word =
    if bytes_eq word (codes "chain") then 0 else (if bytes_eq word (codes "day") then 1 else (
    if bytes_eq word (codes "serve") then 2 else (if bytes_eq word (codes "drain") then 3 else (
    if bytes_eq word (codes "audit") then 4 else (if bytes_eq word (codes "link") then 5 else (
    if bytes_eq word (codes "list") then 6 else (if bytes_eq word (codes "check") then 7 else (
    if bytes_eq word (codes "statement") then 8 else (if bytes_eq word (codes "export") then 9 else (
    if bytes_eq word (codes "matches") then 10 else (if bytes_eq word (codes "migrate") then 11 else (
    if bytes_eq word (codes "follow") then 12 else (if bytes_eq word (codes "guard") then 13 else (
    if bytes_eq word (codes "many") then 14 else (if bytes_eq word (codes "generate") then 15 else (
    if bytes_eq word (codes "--version") then 16 else 99))))))))))))))))

abbrev first_tag : List (List ℕ) → ℕ
first_tag words = tag_of (get_or words 0 [])

tagged : (words : List (List ℕ)) (c : Command) → Says words c → first_tag words ≡ tag c
tagged words (Chain issuer) h = ap first_tag h.words_are
tagged words (Day issuer) h = ap first_tag h.words_are
tagged words (Serve issuer) h = ap first_tag h.words_are
tagged words (Drain issuer) h = ap first_tag h.words_are
tagged words Audit h = ap first_tag h.words_are
tagged words (Link num host) h = ap first_tag h.words_are
tagged words (Listing choice) h = ap first_tag h.words_are
tagged words (Check workers) h = ap first_tag h.words_are
tagged words (Statement of) h = ap first_tag h.words_are
tagged words Export h = ap first_tag h.words_are
tagged words Matches h = ap first_tag h.words_are
tagged words Migrate h = ap first_tag h.words_are
tagged words Follow h = ap first_tag h.words_are
tagged words (Guard issuer) h = ap first_tag h.words_are
tagged words (Many issuers) h = ap first_tag h.words_are
tagged words (Generate n) h = ap first_tag h.words_are
tagged words Version h = ap first_tag h
tagged words Help h = absurd h
tagged words (HelpOn on) h = absurd h

-- a word of two lists that are the same
word_at : (n : ℕ) (words one other : List (List ℕ)) → words ≡ one → words ≡ other → get_or one n [] ≡ get_or other n []
word_at n words one other a b = ap (λ (ws : List (List ℕ)). get_or ws n []) (sym a ∙ b)

abbrev host_in : List ℕ → Host
host_in word = if bytes_eq word (codes "real") then Real else Practice

host_is : (host : Host) → host_in (host_word host) ≡ host
host_is Real = refl
host_is Practice = refl

abbrev choice_in : List ℕ → Choice
choice_in word = if bytes_eq word (codes "all") then All else (if bytes_eq word (codes "waiting") then Waiting else Refused)

choice_is : (choice : Choice) → choice_in (choice_word choice) ≡ choice
choice_is All = refl
choice_is Waiting = refl
choice_is Refused = refl

one_count : (a b : List ℕ) (n m : ℕ) → a ≡ b → IsCountOf a n → IsCountOf b m → n ≡ m
one_count a b n m same h k =
    let few = h.range.1 in
    let low = k.range.1 in
    decimal_injective n m (omega (arith, few)) (omega (arith, low)) (sym h.written ∙ same ∙ k.written)

same_month : (m n : YearMonth) → m.year ≡ n.year → m.month ≡ n.month → m ≡ n
same_month m n year month =
    let same : record { year = m.year; month = m.month } ≡ record { year = n.year; month = n.month } = rw (year, month) refl in same

one_month : (m n : YearMonth) → month_text m ≡ month_text n → m ≡ n
unfolding month_text
one_month m n e =
    let month = digits_injective m.month n.month (digit 0) (digit 1) in
    let century = digits_injective (m.year / 100) (n.year / 100) (digit 3) (digit 4) in
    let rest = digits_injective (m.year % 100) (n.year % 100) (digit 5) (digit 6) in
    let year : m.year ≡ n.year = omega (arith, century, rest) in
    same_month m n year month
  where
    digit : (i : ℕ) → get_or (month_text m) i 0 ≡ get_or (month_text n) i 0
    digit i = ap (λ (text : List ℕ). get_or text i 0) e

month_size : (m : YearMonth) → length (month_text m) ≡ 7
unfolding month_text
month_size m = refl

one_period : (a b : Period) → period_text a ≡ period_text b → a ≡ b
one_period (period.Month m) (period.Month n) e = ap period.Month (one_month m n e)
one_period (period.Day m) (period.Day n) e = ap period.Day (date_text_of_injective m n e)
one_period (period.Month m) (period.Day n) e =
    let seven = month_size m in
    let ten = (date_text_of-bytes (month_text m) n e).ten in
    absurd (omega (arith, seven, ten))
one_period (period.Day m) (period.Month n) e =
    let ten = (date_text_of-bytes (month_text n) m (sym e)).ten in
    let seven = month_size n in
    absurd (omega (arith, seven, ten))

one_of_pairs : (words one other : List (List ℕ)) → ArePairs words one → ArePairs words other → one ≡ other
one_of_pairs [] [] [] h k = refl
one_of_pairs (file ∷ (nif ∷ words)) (a ∷ one) (b ∷ other) h k =
    let first : a ≡ b = h.2 ∙ sym k.2 in
    let rest = one_of_pairs words one other h.3 k.3 in
    rw (first, rest) refl
one_of_pairs [] [] (b ∷ other) h k = absurd k
one_of_pairs [] (a ∷ one) other h k = absurd h
one_of_pairs (file ∷ []) one other h k = absurd h
one_of_pairs (file ∷ (nif ∷ words)) [] other h k = absurd h
one_of_pairs (file ∷ (nif ∷ words)) (a ∷ one) [] h k = absurd k

one_said : (words : List (List ℕ)) (a b : Command) → tag a ≡ tag b → Says words a → Says words b → a ≡ b
one_said words (Chain i) (Chain j) same h k = ap Chain (word_at 2 words _ _ h.words_are k.words_are)
one_said words (Day i) (Day j) same h k = ap Day (word_at 2 words _ _ h.words_are k.words_are)
one_said words (Serve i) (Serve j) same h k = ap Serve (word_at 2 words _ _ h.words_are k.words_are)
one_said words (Drain i) (Drain j) same h k = ap Drain (word_at 2 words _ _ h.words_are k.words_are)
one_said words Audit Audit same h k = refl
one_said words (Link n x) (Link m y) same h k =
    let num : n ≡ m = word_at 2 words _ _ h.words_are k.words_are in
    let host : x ≡ y = sym (host_is x) ∙ ap host_in (word_at 3 words _ _ h.words_are k.words_are) ∙ host_is y in
    rw (num, host) refl
one_said words (Listing x) (Listing y) same h k =
    ap Listing (sym (choice_is x) ∙ ap choice_in (word_at 2 words _ _ h.words_are k.words_are) ∙ choice_is y)
one_said words (Check n) (Check m) same h k =
    ap Check (one_count h.count k.count n m (word_at 2 words _ _ h.words_are k.words_are) h.number.count k.number.count)
one_said words (Statement a) (Statement b) same h k = ap Statement (one_period a b (word_at 2 words _ _ h.words_are k.words_are))
one_said words Export Export same h k = refl
one_said words Matches Matches same h k = refl
one_said words Migrate Migrate same h k = refl
one_said words Follow Follow same h k = refl
one_said words (Guard i) (Guard j) same h k = ap Guard (word_at 2 words _ _ h.words_are k.words_are)
one_said words (Many one) (Many other) same h k =
    let rest : h.pairs ≡ k.pairs = ap rest_of (sym h.words_are ∙ k.words_are) in
    let pairs : ArePairs k.pairs one = rw (← rest) h.are.pairs in
    ap Many (one_of_pairs k.pairs one other pairs k.are.pairs)
  where
    rest_of : List (List ℕ) → List (List ℕ)
    rest_of [] = []
    rest_of (word ∷ words) = words
one_said words (Generate n) (Generate m) same h k =
    ap Generate (one_count h.count k.count n m (word_at 1 words _ _ h.words_are k.words_are) h.number k.number)
one_said words Version Version same h k = refl
one_said words a b same h k = absurd (omega (arith, same))

few_tags : (c : Command) → tag c < 99
few_tags (Chain issuer) = omega arith
few_tags c = omega arith

or_true : (a : Bool) → (a || true) ≡ true
or_true true = refl
or_true false = refl

abbrev topic_in : List ℕ → Topic
topic_in word =
    if bytes_eq word (codes "chain") then topic.Chain else (if bytes_eq word (codes "day") then topic.Day else (
    if bytes_eq word (codes "serve") then topic.Serve else (if bytes_eq word (codes "drain") then topic.Drain else (
    if bytes_eq word (codes "audit") then topic.Audit else (if bytes_eq word (codes "link") then topic.Link else (
    if bytes_eq word (codes "list") then topic.Listing else (if bytes_eq word (codes "check") then topic.Check else (
    if bytes_eq word (codes "statement") then topic.Statement else (if bytes_eq word (codes "export") then topic.Export else (
    if bytes_eq word (codes "matches") then topic.Matches else (if bytes_eq word (codes "migrate") then topic.Migrate else (
    if bytes_eq word (codes "follow") then topic.Follow else (if bytes_eq word (codes "guard") then topic.Guard else (
    if bytes_eq word (codes "many") then topic.Many else topic.Generate))))))))))))))

topic_is : (on : Topic) → topic_in (topic_name on) ≡ on
topic_is topic.Chain = refl
topic_is topic.Day = refl
topic_is topic.Serve = refl
topic_is topic.Drain = refl
topic_is topic.Audit = refl
topic_is topic.Link = refl
topic_is topic.Listing = refl
topic_is topic.Check = refl
topic_is topic.Statement = refl
topic_is topic.Export = refl
topic_is topic.Matches = refl
topic_is topic.Migrate = refl
topic_is topic.Follow = refl
topic_is topic.Guard = refl
topic_is topic.Many = refl
topic_is topic.Generate = refl

-- no command is called `help`
not_help : (on : Topic) → topic_name on ≡ codes "help" → ⊥
not_help on e = apart on (ap tag_of e)
  where
    apart : (on : Topic) → tag_of (topic_name on) ≡ 99 → ⊥
    apart topic.Chain e = omega (arith, e)
    apart on e = omega (arith, e)

one_topic : (on other : Topic) → topic_name on ≡ topic_name other → on ≡ other
one_topic on other e = sym (topic_is on) ∙ ap topic_in e ∙ topic_is other

help_word_apart : codes "--help" ≡ codes "-h" → ⊥
help_word_apart e = let size = ap length e in omega (arith, size)

one_help_on : (words : List (List ℕ)) (on other : Topic) → IsHelpOn words on → IsHelpOn words other → on ≡ other
one_help_on words on other (inl h) (inl k) = one_topic on other (word_at 0 words _ _ h k)
one_help_on words on other (inl h) (inr (inl k)) = absurd (help_word_apart (word_at 1 words _ _ h k))
one_help_on words on other (inl h) (inr (inr k)) = absurd (not_help on (word_at 0 words _ _ h k))
one_help_on words on other (inr (inl h)) (inl k) = absurd (help_word_apart (sym (word_at 1 words _ _ h k)))
one_help_on words on other (inr (inl h)) (inr (inl k)) = one_topic on other (word_at 0 words _ _ h k)
one_help_on words on other (inr (inl h)) (inr (inr k)) = absurd (not_help on (word_at 0 words _ _ h k))
one_help_on words on other (inr (inr h)) (inl k) = absurd (not_help other (sym (word_at 0 words _ _ h k)))
one_help_on words on other (inr (inr h)) (inr (inl k)) = absurd (not_help other (sym (word_at 0 words _ _ h k)))
one_help_on words on other (inr (inr h)) (inr (inr k)) = one_topic on other (word_at 1 words _ _ h k)

-- words of a help say no command
help_asks : (words : List (List ℕ)) → IsHelp words → (c : Command) → Says words c → list_any asks_help words ≡ false → ⊥
help_asks words (inl h) c k none = let asks = ap (list_any asks_help) h in absurd cc
help_asks words (inr (inl h)) c k none = let asks = ap (list_any asks_help) h in absurd cc
help_asks words (inr (inr h)) c k none =
    let few = few_tags c in
    let own = tagged words c k in
    let named = ap first_tag h in
    omega (arith, few, own, named)

help_on_asks : (words : List (List ℕ)) (on : Topic) → IsHelpOn words on → (c : Command) → Says words c →
    list_any asks_help words ≡ false → ⊥
help_on_asks words on (inl h) c k none = let asks = ap (list_any asks_help) h ∙ or_true (asks_help (topic_name on)) in absurd cc
help_on_asks words on (inr (inl h)) c k none = let asks = ap (list_any asks_help) h ∙ or_true (asks_help (topic_name on)) in absurd cc
help_on_asks words on (inr (inr h)) c k none =
    let few = few_tags c in
    let own = tagged words c k in
    let named = ap first_tag h in
    omega (arith, few, own, named)

help_size : (words : List (List ℕ)) → IsHelp words → length words ≡ 1
help_size words (inl h) = ap length h
help_size words (inr (inl h)) = ap length h
help_size words (inr (inr h)) = ap length h

help_on_size : (words : List (List ℕ)) (on : Topic) → IsHelpOn words on → length words ≡ 2
help_on_size words on (inl h) = ap length h
help_on_size words on (inr (inl h)) = ap length h
help_on_size words on (inr (inr h)) = ap length h

one_asked : (words : List (List ℕ)) (a b : Command) → AsksFor words a → AsksFor words b → a ≡ b
one_asked words Help Help h k = refl
one_asked words (HelpOn on) (HelpOn other) h k = ap HelpOn (one_help_on words on other h k)
one_asked words Help (HelpOn on) h k =
    let one = help_size words h in let two = help_on_size words on k in absurd (omega (arith, one, two))
one_asked words (HelpOn on) Help h k =
    let two = help_on_size words on h in let one = help_size words k in absurd (omega (arith, one, two))
one_asked words Help b h k = absurd (help_asks words h b k.0 k.1)
one_asked words a Help h k = absurd (help_asks words k a h.0 h.1)
one_asked words (HelpOn on) b h k = absurd (help_on_asks words on h b k.0 k.1)
one_asked words a (HelpOn on) h k = absurd (help_on_asks words on k a h.0 h.1)
one_asked words a b h k = one_said words a b (sym (tagged words a h.0) ∙ tagged words b k.0) h.0 k.0

pub one_command : OneCommand
one_command words None None h k = refl
one_command words (Some a) (Some b) h k = ap Some (one_asked words a b h k)
one_command words None (Some b) h k = absurd (h b k)
one_command words (Some a) None h k = absurd (k a h)
