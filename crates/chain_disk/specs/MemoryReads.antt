-- A disk in memory, as it reads, is one of its images.
use Rattle.std.specs.Prelude.{◌≡◌, ◌⊎◌, ◌<◌, ◌≤◌, ◌+◌, ℕ, max, min, List, [], ◌∷◌, ◌++◌, length, get_or, take, drop, refl}
use Rattle.std.proofs.Common.{inl, inr, ◌∙◌, arith, length-append, length-drop}
use Rattle.std.proofs.lemmas.List.{places, length-take}
use Rattle.std.proofs.lemmas.Bool.{cases_lt}
use Rattle.chain_disk.specs.declared.range.Range.{Range}
use Rattle.chain_disk.specs.OnDisk.{OnDisk, IsImage, furthest, pasted, ranged}
use Rattle.chain_disk.specs.Memory.{after, replayed, fresh, on_disk_by}
use Rattle.chain_disk.specs.declared.event.Event.{Event}
use Rattle.chain_disk.specs.declared.event.Event.TheVariants.{Wrote, Tore, Synced, Unsynced}

length-pasted : (at : ℕ) (bytes content : List ℕ) → length (pasted at bytes content) ≡ max (length content)
    (min at (length content) + length bytes)
length-pasted at bytes content = omega (
  arith,
  length-append (take at content ++ bytes) (drop (at + length bytes) content),
  length-append (take at content) bytes,
  length-take at content,
  length-drop (at + length bytes) content,
)

pasted_below : (at : ℕ) (bytes content : List ℕ) (i : ℕ) → i < at → i < length content → get_or (pasted at bytes content) i 0 ≡
    get_or content i 0
pasted_below at bytes content i below within = grind (arith, places)

pasted_above : (at : ℕ) (bytes content : List ℕ) (i : ℕ) → at + length bytes ≤ i → i < length content →
    get_or (pasted at bytes content) i 0 ≡ get_or content i 0
pasted_above at bytes content i above within = grind (arith, places)

pub furthest_least : (len : ℕ) (ranges : List Range) → len ≤ furthest len ranges
furthest_least len [] = omega arith
furthest_least len (r ∷ ranges) = omega (arith, furthest_least len ranges)

-- a range more, whose bytes alone may be others
ranged_reads : (at n : ℕ) (content : List ℕ) (t : OnDisk) → IsImage t.now t.content → length t.content ≤ length content →
    length content ≤ max (length t.content) (at + n)
    → ((i : ℕ) → i < length t.content → (i < at) ⊎ (at + n ≤ i) → get_or content i 0 ≡ get_or t.content i 0) →
    IsImage (ranged at n content t).now content
ranged_reads at n content t image longer shorter kept = record {
  no_shorter = omega (arith, image.no_shorter, longer);
  no_longer = omega (arith, image.no_longer, shorter);
  kept = λ i within free. kept i (omega (arith, image.no_shorter, within)) (outside i (λ both. free (inl both))) ∙
      image.kept i within (λ covered. free (inr covered));
}
  where
    outside : (i : ℕ) → ((at ≤ i) × (i < at + n) → ⊥) → (i < at) ⊎ (at + n ≤ i)
    outside i free = elim (cases_lt i at) [
      | inl below ↦ inl below
      | inr above ↦ elim (cases_lt i (at + n))
          [ inl under ↦ absurd (free (above, under)) | inr past ↦ inr past ]
    ]

after_reads : (event : Event) (t : OnDisk) → IsImage t.now t.content → IsImage (after event t).now (after event t).content
after_reads (Wrote at bytes) t image = ranged_reads at (length bytes.items) (pasted at bytes.items t.content) t image
    (omega (arith, length-pasted at bytes.items t.content)) (omega (arith, length-pasted at bytes.items t.content)) kept
  where
    kept : (i : ℕ) → i < length t.content → (i < at) ⊎ (at + length bytes.items ≤ i) → get_or (pasted at bytes.items t.content) i
        0 ≡ get_or t.content i 0
    kept i within (inl below) = pasted_below at bytes.items t.content i below within
    kept i within (inr above) = pasted_above at bytes.items t.content i above within
after_reads (Tore at count) t image = ranged_reads at count t.content t image (omega arith) (omega arith) (λ i within out. refl)
after_reads Synced t image = record { no_shorter = omega arith; no_longer = omega arith; kept = λ i within free. refl }
after_reads Unsynced t image = image

replayed_reads : (events : List Event) (t : OnDisk) → IsImage t.now t.content → IsImage (replayed events t).now
    (replayed events t).content
replayed_reads [] t image = image
replayed_reads (event ∷ events) t image = replayed_reads events (after event t) (after_reads event t image)

pub memory_reads : (first : List ℕ) (events : List Event) → IsImage (on_disk_by first events).now (on_disk_by first events).content
memory_reads first events = replayed_reads events (fresh first) (record {
  no_shorter = omega arith;
  no_longer = omega arith;
  kept = λ i within free. refl;
})
