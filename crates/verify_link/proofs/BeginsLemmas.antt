-- A text that begins with another.
use Rattle.std.proofs.Common.{◌≡◌, ℕ, Bool, true, false, eqb, List, length, drop, ap, ◌∙◌}
use Rattle.std.specs.List.{starts_with}
use Rattle.std.proofs.lemmas.Bool.{both_ways}
use Rattle.std.proofs.lemmas.Bool.Decides.{Decides-eqb}
use Rattle.std.proofs.lemmas.Slice.Eq.{starts_is}
use Rattle.verify_link.specs.Reading.{Begins}

pub begins_from : (front text needle : List ℕ) (r : Bool) → r ≡ starts_with eqb text needle → needle ≡ front → r ≡ true →
    Begins front text
begins_from front text needle r is same holds = (starts_is Decides-eqb text front r (is ∙ ap (starts_with eqb text) same)).0 holds

pub begins_not : (front text needle : List ℕ) (r : Bool) → r ≡ starts_with eqb text needle → needle ≡ front → r ≡ false →
    ¬ (Begins front text)
begins_not front text needle r is same fails begins =
    both_ways r fails ((starts_is Decides-eqb text front r (is ∙ ap (starts_with eqb text) same)).1 (drop (length front) text)
    begins)
