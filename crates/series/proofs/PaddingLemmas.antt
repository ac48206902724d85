-- Bytes that are written over the first zeros.
use Rattle.std.proofs.Common.{◌≡◌, ℕ, ◌+◌, ◌-◌, ◌≤◌, List, length, drop, replicate, sym, ◌∙◌, ap, arith, length-append}
use Rattle.std.proofs.Common.{length-drop}
use Rattle.std.proofs.lemmas.List.{length-take-le, drop-drop, drop-replicate}
use Rattle.std.proofs.lemmas.Slice.{drop-put_mid}
use borrow.Rule.Slice.PartMut.{put_mid}
use Rattle.series.specs.Inline.{IsPadded}

pub IsPadded-put_mid : (size len k end : ℕ) (bytes more : List ℕ)
    → IsPadded size len bytes → k ≡ length more → end ≡ len + k → end ≤ size → IsPadded size end (put_mid len k bytes more)
IsPadded-put_mid size len k end bytes more p long e le =
    let inside : len ≤ length bytes = omega (arith, p.whole, p.fits) in
    record {
      fits = le;
      whole = simp (length-append, length-take-le len bytes inside, length-drop) (omega (arith, p.whole));
      zeros = drop-put_mid len k bytes more end (omega arith) inside (sym long)
          ∙ (ap (λ (n : ℕ). drop n bytes) e ∙ (sym (drop-drop k len bytes)
          ∙ (ap (drop k) p.zeros ∙ (drop-replicate k (size - len) 0
          ∙ ap (λ (n : ℕ). replicate n 0) (omega arith)))));
    }
