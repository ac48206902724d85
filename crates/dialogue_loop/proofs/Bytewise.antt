-- Texts written on from where they stand.
use Rattle.std.proofs.Common.{◌≡◌, ℕ, ◌+◌, ◌-◌, ◌≤◌, List, ◌++◌, length, take, drop, arith, length-drop, length-take}
use Rattle.std.proofs.lemmas.List.{take_all}
use Rattle.std.proofs.Math.Seq.{take-add}

pub take_on : (text : List ℕ) (done n : ℕ) → take (done + n) text ≡ take done text ++ take n
    (take (length text - done) (drop done text))
take_on text done n = rw (take_all (length text - done) (drop done text) (simp length-drop (omega arith))) (take-add done n text)

pub rest_le : (text : List ℕ) (done n : ℕ) → n ≤ length (take (length text - done) (drop done text)) → n ≤ length text - done
rest_le text done n h = omega (arith, length-take {A = ℕ}, length-drop {A = ℕ})
