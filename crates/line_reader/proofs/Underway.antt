-- A line that is read part by part.
use Rattle.std.proofs.Common.{◌≡◌, ◌∙◌, ◌⊎◌, inl, inr, ℕ, ◌<◌, ◌==◌, ◌≤◌, List, [], ◌∷◌, ◌++◌, Bool, true, false, ◌||◌, refl, sym, ap}
use Rattle.std.proofs.Common.{arith, length, drop, append-nil, append_assoc, length-append, subst}
use Rattle.std.proofs.lemmas.Bool.{eqb-true}
use Rattle.std.proofs.lemmas.List.Folds.{list_any-append}
use Rattle.std.proofs.Math.Seq.{drop-append_seam}
use Rattle.std.specs.Io.KnownBytes.{Consumes, IsAtEnd}
use Rattle.ports.specs.Sources.{Sources}
use Rattle.line_reader.specs.Held.{Held, nothing, taken_from}
use Rattle.line_reader.specs.Reading.{Absorbs, Cuts, IsUnderway, has_lf}
use Rattle.line_reader.specs.Lines.{AtEnd, Came, Gave, IsAskedFor, IsLetGo, IsSpent, LastLine, Nothing, Paused, Turns, drops}
use Rattle.line_reader.specs.Lines.{front_of, is_dropping, is_over, kept_of, last_read}
use Rattle.line_reader.specs.declared.parts.Stage.{Stage}
use Rattle.line_reader.specs.declared.parts.Stage.TheVariants.{Whole, Part, Dropping}
use Rattle.line_reader.specs.declared.reader.LineReader.{LineReader}
use Rattle.line_reader.specs.declared.reader.Next.{Next}
use Rattle.line_reader.specs.declared.reader.Next.TheVariants.{Line, Unended, End}

pub clean_both : (a b : List ℕ) → has_lf a ≡ false → has_lf b ≡ false → has_lf (a ++ b) ≡ false
clean_both a b p q = list_any-append (λ x. x == 10) a b ∙ ap (λ v. v || has_lf b) p ∙ q

-- what was kept and taken is what was dropped, the front of the line that stands, and what no part took yet
pub record Underway (kept taken let_go : List ℕ) (dropping : Bool) (stage : Stage) (text chunk : List ℕ) : Type 0 where
  pub parts : kept ++ taken ≡ let_go ++ (front_of stage text ++ chunk)
  pub clean : has_lf let_go ≡ false
  pub going : IsUnderway stage
  pub fits : IsLetGo dropping (drops stage) let_go

-- the line just begins
pub begun : (kept : List ℕ) (dropping : Bool) (stage : Stage) (text chunk : List ℕ) → kept ≡ front_of stage text ++ chunk →
    IsUnderway stage → drops stage ≡ dropping → Underway kept [] [] dropping stage text chunk
begun kept dropping Whole text chunk e u d = absurd u
begun kept dropping Part text chunk e u d = record { parts = append-nil kept ∙ e; clean = refl; going = tt; fits = (sym d, refl) }
begun kept dropping Dropping text chunk e u d = record {
  parts = append-nil kept ∙ e;
  clean = refl;
  going = tt;
  fits = inl (sym d);
}

-- a part of it is taken
pub taken_on : (kept taken let_go : List ℕ) (dropping : Bool) (stage after : Stage) (text text_after chunk part rest : List ℕ) →
    Underway kept taken let_go dropping stage text chunk → has_lf text ≡ false → has_lf part ≡ false → chunk ≡ part ++ rest →
    Absorbs text part stage after text_after →
    (more : List ℕ) × Underway kept taken more dropping after text_after rest
taken_on kept taken let_go dropping Whole after text text_after chunk part rest u p q e a = absurd u.going
taken_on kept taken let_go dropping Part Whole text text_after chunk part rest u p q e a = absurd a
taken_on kept taken let_go dropping Part Part text text_after chunk part rest u p q e a = (
  let_go,
  record {
    parts = u.parts ∙ ap (λ c. let_go ++ (text ++ c)) e ∙ ap (λ t. let_go ++ t) (sym (append_assoc text part rest))
        ∙ ap (λ t. let_go ++ (t ++ rest)) (sym a);
    clean = u.clean;
    going = tt;
    fits = u.fits;
  },
)
taken_on kept taken let_go dropping Part Dropping text text_after chunk part rest u p q e a = (
  let_go ++ (text ++ part),
  record {
    parts = u.parts ∙ ap (λ c. let_go ++ (text ++ c)) e ∙ ap (λ t. let_go ++ t) (sym (append_assoc text part rest))
        ∙ sym (append_assoc let_go (text ++ part) rest);
    clean = clean_both let_go (text ++ part) u.clean (clean_both text part p q);
    going = tt;
    fits = inr (let long = a.0 in simp length-append (omega arith));
  },
)
taken_on kept taken let_go dropping Dropping Whole text text_after chunk part rest u p q e a = absurd a
taken_on kept taken let_go dropping Dropping Part text text_after chunk part rest u p q e a = absurd a
taken_on kept taken let_go dropping Dropping Dropping text text_after chunk part rest u p q e a = (
  let_go ++ part,
  record {
    parts = u.parts ∙ ap (λ c. let_go ++ c) e ∙ sym (append_assoc let_go part rest);
    clean = clean_both let_go part u.clean q;
    going = tt;
    fits = elim u.fits [ inl d ↦ inl d | inr long ↦ inr (let more = long in simp length-append (omega arith)) ];
  },
)

-- the source gave more
pub given_on : (kept taken let_go more : List ℕ) (dropping : Bool) (stage : Stage) (text : List ℕ) →
    Underway kept taken let_go dropping stage text [] → Underway kept (taken ++ more) let_go dropping stage text more
given_on kept taken let_go more dropping stage text u = record {
  parts = sym (append_assoc kept taken more) ∙ ap (λ t. t ++ more) u.parts ∙ append_assoc let_go (front_of stage text ++ []) more
      ∙ ap (λ t. let_go ++ (t ++ more)) (append-nil (front_of stage text));
  clean = u.clean;
  going = u.going;
  fits = u.fits;
}

-- what a call gives at its end
pub record Given (kept taken : List ℕ) (dropping : Bool) (stage : Stage) (text chunk : List ℕ) (same spent : Type 0)
    (told : Next) : Type 0 where
  pub given : List ℕ
  pub parts : kept ++ taken ≡ given ++ (front_of stage text ++ chunk)
  pub gave : Gave dropping text given same spent told
  pub going_on : drops stage ≡ false
  pub front_none : front_of stage text ≡ []

-- the line ends at an LF
pub at_an_lf : (kept taken let_go : List ℕ) (dropping : Bool) (stage after : Stage) (text text_after rest : List ℕ) (told : Next)
    (same spent : Type 0) → Underway kept taken let_go dropping stage text (10 ∷ rest) → has_lf text ≡ false → length text ≤ 65536 →
    Turns Line stage text after text_after told → same → Given kept taken dropping after text_after rest same spent told
at_an_lf kept taken let_go dropping Whole after text text_after rest told same spent u p w t s = absurd u.going
at_an_lf kept taken let_go dropping Part after text text_after rest told same spent u p w t s = rw (t.0, t.1, t.2) (record {
  given = text ++ 10 ∷ [];
  parts = u.parts ∙ ap (λ l. l ++ (text ++ 10 ∷ rest)) u.fits.1 ∙ sym (append_assoc text (10 ∷ []) rest);
  gave = record { fresh = u.fits.0; clean = p; within = w; ends = refl; same_is = s };
  going_on = refl;
  front_none = refl;
})
at_an_lf kept taken let_go dropping Dropping after text text_after rest told same spent u p w t s = rw (t.0, t.1, t.2) (record {
  given = let_go ++ 10 ∷ [];
  parts = u.parts ∙ sym (append_assoc let_go (10 ∷ []) rest);
  gave = record { long = let_go; clean = u.clean; past = u.fits; ends = inl (refl, s) };
  going_on = refl;
  front_none = refl;
})

-- it ends with the source
pub at_the_end : (kept taken let_go : List ℕ) (dropping : Bool) (stage after : Stage) (text text_after : List ℕ) (told : Next)
    (same spent : Type 0) → Underway kept taken let_go dropping stage text [] → has_lf text ≡ false → length text ≤ 65536 →
    Turns Unended stage text after text_after told → (0 < length text) ⊎ (stage ≡ Dropping) → spent →
    Given kept taken dropping after text_after [] same spent told
at_the_end kept taken let_go dropping Whole after text text_after told same spent u p w t some s = absurd u.going
at_the_end kept taken let_go dropping Part after text text_after told same spent u p w t some s = rw (t.0, t.1, t.2) (record {
  given = text;
  parts = u.parts ∙ ap (λ l. l ++ (text ++ [])) u.fits.1;
  gave = record {
    fresh = u.fits.0;
    clean = p;
    within = w;
    some = elim some [ inl more ↦ more | inr other ↦ absurd cc ];
    is = refl;
    spent_is = s;
  };
  going_on = refl;
  front_none = refl;
})
at_the_end kept taken let_go dropping Dropping after text text_after told same spent u p w t some s = rw (t.0, t.1, t.2) (record {
  given = let_go;
  parts = u.parts;
  gave = record { long = let_go; clean = u.clean; past = u.fits; ends = inr (refl, s) };
  going_on = refl;
  front_none = refl;
})

-- what a cut says where it found an LF, and where it found none
pub found_there : (bytes part : List ℕ) (found : Bool) → found ≡ true → Cuts bytes part found →
    (has_lf part ≡ false) × ((rest : List ℕ) × (bytes ≡ part ++ 10 ∷ rest))
found_there bytes part true e c = c
found_there bytes part false e c = absurd cc

pub found_nowhere : (bytes part : List ℕ) (found : Bool) → found ≡ false → Cuts bytes part found →
    (has_lf part ≡ false) × (bytes ≡ part)
found_nowhere bytes part true e c = absurd cc
found_nowhere bytes part false e c = c

-- an LF that is kept stands after the front of the line
pub lf_behind : (stage : Stage) (text chunk : List ℕ) → has_lf text ≡ false → has_lf (front_of stage text ++ chunk) ≡ true →
    has_lf chunk ≡ true
lf_behind Whole text chunk p h = h
lf_behind Part text chunk p h = ap (λ v. v || has_lf chunk) (sym p) ∙ sym (list_any-append (λ x. x == 10) text chunk) ∙ h
lf_behind Dropping text chunk p h = h

-- an LF stands where there is none
pub clash : (chunk part : List ℕ) → has_lf part ≡ false → chunk ≡ part → has_lf chunk ≡ true → ⊥
clash chunk part p e h = let same = ap has_lf e in absurd cc

-- no byte is left after a part that is all
pub all_of : (chunk part : List ℕ) → chunk ≡ part → chunk ≡ part ++ []
all_of chunk part e = e ∙ sym (append-nil part)

-- what is left after an LF that is taken
pub left_behind : (part rest : List ℕ) (chunk mid new : Held) → chunk.rest ≡ part ++ 10 ∷ rest → mid ≡ taken_from (length part) chunk →
    new ≡ taken_from 1 mid → new.rest ≡ rest
left_behind part rest chunk mid new e d f =
    ap (λ (h : Held). h.rest) f ∙ ap (λ (h : Held). drop 1 h.rest) d ∙ ap (λ ch. drop 1 (drop (length part) ch)) e
    ∙ ap (λ m. drop 1 m) (drop-append_seam part (10 ∷ rest))

-- the last read is that of before
pub same_given : (count : ℕ) (chunk mid : Held) → mid ≡ taken_from count chunk → mid.given ≡ chunk.given
same_given count chunk mid d = ap (λ (h : Held). h.given) d

-- the source gave nothing
pub spent_on : (kept taken let_go more : List ℕ) (dropping : Bool) (stage : Stage) (text : List ℕ) → more ≡ [] →
    Underway kept taken let_go dropping stage text [] → Underway kept (taken ++ more) let_go dropping stage text []
spent_on kept taken let_go more dropping stage text e u =
    subst (λ (ch : List ℕ). Underway kept (taken ++ more) let_go dropping stage text ch) e
    (given_on kept taken let_go more dropping stage text u)

-- there is no line at the end of the source
pub at_no_line : (kept taken let_go : List ℕ) (dropping : Bool) (stage : Stage) (text : List ℕ) (told : Next)
    (same spent : Type 0) → Underway kept taken let_go dropping stage text [] → stage ≡ Part → text ≡ [] → told ≡ End → spent →
    Given kept taken dropping stage text [] same spent told
at_no_line kept taken let_go dropping Whole text told same spent u p e t s = absurd cc
at_no_line kept taken let_go dropping Dropping text told same spent u p e t s = absurd cc
at_no_line kept taken let_go dropping Part text told same spent u p e t s = rw (e, t) (record {
  given = [];
  parts = u.parts ∙ ap (λ l. l ++ (text ++ [])) u.fits.1 ∙ ap (λ l. l ++ []) e;
  gave = record { fresh = u.fits.0; none = refl; spent_is = s };
  going_on = refl;
  front_none = refl;
})

-- no front of a line stands after one that was given
pub none_stands : (kind : Next) (stage after : Stage) (text text_after chunk : List ℕ) (told : Next) →
    Turns kind stage text after text_after told → chunk ≡ [] → front_of after text_after ++ chunk ≡ []
none_stands kind Whole after text text_after chunk told t e = absurd t
none_stands kind Part after text text_after chunk told t e = rw (t.0, e) refl
none_stands kind Dropping after text text_after chunk told t e = rw (t.0, t.1, e) refl

front_clean : (stage : Stage) (text : List ℕ) → has_lf text ≡ false → has_lf (front_of stage text) ≡ false
front_clean Whole text p = refl
front_clean Part text p = p
front_clean Dropping text p = refl

-- all that was kept and taken of a line that goes on holds no LF
pub all_clean : (kept taken let_go : List ℕ) (dropping : Bool) (stage : Stage) (text : List ℕ) →
    Underway kept taken let_go dropping stage text [] → has_lf text ≡ false → has_lf (kept ++ taken) ≡ false
all_clean kept taken let_go dropping stage text u p =
    ap has_lf u.parts ∙ clean_both let_go (front_of stage text ++ []) u.clean
    (ap has_lf (append-nil (front_of stage text)) ∙ front_clean stage text p)

pub with_chunk : (kept taken given front rest chunk : List ℕ) → kept ++ taken ≡ given ++ (front ++ rest) → chunk ≡ rest →
    kept ++ taken ≡ given ++ (front ++ chunk)
with_chunk kept taken given front rest chunk h e = h ∙ ap (λ r. given ++ (front ++ r)) (sym e)

-- no byte is left where all were taken
pub none_left : (part : List ℕ) (chunk mid : Held) → chunk.rest ≡ part → mid ≡ taken_from (length part) chunk → mid.rest ≡ []
none_left part chunk mid e d = ap (λ (h : Held). h.rest) d ∙ ap (λ ch. drop (length part) ch) (all_of chunk.rest part e)
    ∙ drop-append_seam part []

-- what came, by what was given
pub came : (s : Sources) (old new : LineReader) (taken rest : List ℕ) (told : Next) → Consumes s.left s.left_after taken →
    (is_over old ≡ true → taken ≡ []) → IsAskedFor (kept_of old) taken (last_read new) → Given (kept_of old) taken (is_dropping old) new.stage new.text.items rest
    (is_over new ≡ is_over old) (IsSpent s old new) told → new.chunk.rest ≡ rest → Came s old new told
came s old new taken rest told e rests asked end chunk = record {
  given = end.given;
  took = record {
    taken = taken;
    consumed = e;
    parts = with_chunk (kept_of old) taken end.given (front_of new.stage new.text.items) rest new.chunk.rest end.parts chunk;
    rests = rests;
    asked_for = asked;
  };
  gave = end.gave;
  going_on = end.going_on;
  few = (let same = ap (λ (f : List ℕ). length (f ++ new.chunk.rest)) end.front_none in let short = new.few in omega (arith, same, short));
}

-- the last read is as it was
pub asked_same : (kept taken : List ℕ) (mid new : LineReader) → IsAskedFor kept taken (last_read mid) → new.chunk ≡ mid.chunk →
    IsAskedFor kept taken (last_read new)
asked_same kept taken mid new asked same =
    subst (λ (h : Held). IsAskedFor kept taken h.given) (sym same) asked

pub came_at_lf : (s : Sources) (old mid new : LineReader) (taken let_go rest : List ℕ) (told : Next) →
    Consumes s.left s.left_after taken → (is_over old ≡ true → taken ≡ []) → IsAskedFor (kept_of old) taken (last_read new) →
    Underway (kept_of old) taken let_go (is_dropping old) mid.stage mid.text.items (10 ∷ rest) →
    has_lf mid.text.items ≡ false → length mid.text.items ≤ 65536 →
    Turns Line mid.stage mid.text.items new.stage new.text.items told → is_over new ≡ is_over old → new.chunk.rest ≡ rest →
    Came s old new told
came_at_lf s old mid new taken let_go rest told e rests asked u p w t same chunk = came s old new taken rest told e rests asked
    (at_an_lf (kept_of old) taken let_go (is_dropping old) mid.stage new.stage mid.text.items new.text.items rest told
    (is_over new ≡ is_over old) (IsSpent s old new) u p w t same) chunk

-- the source is at its end, or was found there before
abbrev Ends : Sources → LineReader → Type 0
Ends s old = is_over old ≡ false → IsAtEnd s.left_after

came_last : (s : Sources) (old mid new : LineReader) (taken let_go : List ℕ) (told : Next) →
    Consumes s.left s.left_after taken → (is_over old ≡ true → taken ≡ []) → IsAskedFor (kept_of old) taken (last_read new) →
    Ends s old →
    Underway (kept_of old) taken let_go (is_dropping old) mid.stage mid.text.items [] →
    has_lf mid.text.items ≡ false → length mid.text.items ≤ 65536 → mid.chunk.rest ≡ [] → LastLine mid new told →
    Came s old new told
came_last s old mid new taken let_go told e rests asked z u p w none last = came s old new taken [] told e rests asked
    (at_the_end (kept_of old) taken let_go (is_dropping old) mid.stage new.stage mid.text.items new.text.items told
    (is_over new ≡ is_over old) (IsSpent s old new) u p w last.turns last.some (record {
      none = none_stands Unended mid.stage new.stage mid.text.items new.text.items new.chunk.rest told last.turns
          (ap (λ (h : Held). h.rest) last.chunk ∙ none);
      over = last.over;
      at_end = z;
    })) (ap (λ (h : Held). h.rest) last.chunk ∙ none)

no_front : (stage : Stage) (text chunk : List ℕ) → stage ≡ Part → text ≡ [] → chunk ≡ [] → front_of stage text ++ chunk ≡ []
no_front stage text chunk p e n = rw (p, e, n) refl

came_none : (s : Sources) (old mid new : LineReader) (taken let_go : List ℕ) (told : Next) →
    Consumes s.left s.left_after taken → (is_over old ≡ true → taken ≡ []) → IsAskedFor (kept_of old) taken (last_read new) →
    Ends s old → Underway (kept_of old) taken let_go (is_dropping old) mid.stage mid.text.items [] → mid.chunk.rest ≡ [] →
    Nothing mid new told → Came s old new told
came_none s old mid new taken let_go told e rests asked z u none end =
    let stage = end.stage_after ∙ end.stage in
    let text = end.text_after ∙ end.text in
    let under : Underway (kept_of old) taken let_go (is_dropping old) new.stage new.text.items [] =
    subst (λ (t : List ℕ). Underway (kept_of old) taken let_go (is_dropping old) new.stage t []) (sym end.text_after)
    (subst (λ (t : Stage). Underway (kept_of old) taken let_go (is_dropping old) t mid.text.items []) (sym end.stage_after) u) in
    came s old new taken [] told e rests asked
    (at_no_line (kept_of old) taken let_go (is_dropping old) new.stage new.text.items told (is_over new ≡ is_over old)
    (IsSpent s old new) under stage text end.is (record {
      none = no_front new.stage new.text.items new.chunk.rest stage text (ap (λ (h : Held). h.rest) end.chunk ∙ none);
      over = end.over;
      at_end = z;
    })) (ap (λ (h : Held). h.rest) end.chunk ∙ none)

-- the source has no more to give
pub came_at_end : (s : Sources) (old mid new : LineReader) (taken let_go : List ℕ) (told : Next) →
    Consumes s.left s.left_after taken → (is_over old ≡ true → taken ≡ []) → IsAskedFor (kept_of old) taken (last_read mid) →
    Ends s old → Underway (kept_of old) taken let_go (is_dropping old) mid.stage mid.text.items [] →
    has_lf mid.text.items ≡ false → length mid.text.items ≤ 65536 → mid.chunk.rest ≡ [] → AtEnd mid new told → Came s old new told
came_at_end s old mid new taken let_go told e rests asked z u p w none (inl end) =
    came_none s old mid new taken let_go told e rests (asked_same (kept_of old) taken mid new asked end.chunk) z u none end
came_at_end s old mid new taken let_go told e rests asked z u p w none (inr last) =
    came_last s old mid new taken let_go told e rests (asked_same (kept_of old) taken mid new asked last.chunk) z u p w none last

pub other_way : (b : Bool) → b ≡ false → b ≡ true → ⊥
other_way true e f = absurd cc
other_way false e f = absurd cc

pub paused : (s : Sources) (old new : LineReader) (taken let_go : List ℕ) → Consumes s.left s.left_after taken →
    is_over old ≡ false → is_over new ≡ is_over old →
    Underway (kept_of old) taken let_go (is_dropping old) new.stage new.text.items [] → has_lf new.text.items ≡ false →
    new.chunk ≡ nothing → Paused s old new
paused s old new taken let_go e going same u clean none =
    let gone : new.chunk.rest ≡ [] = ap (λ (h : Held). h.rest) none in
    record {
      given = let_go;
      took = record {
        taken = taken;
        consumed = e;
        parts = with_chunk (kept_of old) taken let_go (front_of new.stage new.text.items) [] new.chunk.rest u.parts gone;
        rests = λ over. absurd (other_way (is_over old) going over);
        asked_for = inr (
          taken,
          sym (ap (λ (h : Held). taken ++ h.given) none ∙ append-nil taken),
          all_clean (kept_of old) taken let_go (is_dropping old) new.stage new.text.items u clean,
        );
      };
      clean = u.clean;
      kept_clean = ap (λ (r : List ℕ). has_lf (front_of new.stage new.text.items ++ r)) gone
          ∙ ap has_lf (append-nil (front_of new.stage new.text.items)) ∙ front_clean new.stage new.text.items clean;
      let_go = u.fits;
      over = (going, same ∙ going);
    }

no_items : (bytes : List ℕ) → (length bytes == 0) ≡ true → bytes ≡ []
no_items [] e = refl
no_items (b ∷ bytes) e = let none = eqb-true (length (b ∷ bytes)) 0 e in absurd (omega arith)

pub is_none : (bytes got : List ℕ) (b : Bool) → b ≡ true → b ≡ (length got == 0) → got ≡ bytes → bytes ≡ []
is_none bytes got b t e same = sym same ∙ no_items got (sym e ∙ t)
