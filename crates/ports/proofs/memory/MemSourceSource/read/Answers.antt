use Rattle.std.proofs.Common.{◌≡◌, ℕ, ◌+◌, ◌-◌, ◌<◌, List, [], ◌++◌, ap, take, drop, length, min, sym, arith, length-drop}
use Rattle.std.proofs.lemmas.List.{drop-drop, take-append-drop}
use Rattle.std.proofs.Math.ListN.{drop_of_length-le}
use Rattle.std.proofs.Math.Seq.{take-length}
use Rattle.ports.specs.Memory.{Held}
use Rattle.ports.proofs.memory.MemSourceSource.read.Goals as goal

-- a slice from a place on is all that is there
rest_is : (content : List ℕ) (at : ℕ) → take (length content - at) (drop at content) ≡ drop at content
rest_is content at = rw (← length-drop at content) (take-length (drop at content))

-- what was left is what was given and what is left
given_and_left : (content given : List ℕ) (at n : ℕ) → take n given ≡ take n (drop at content) → drop at content ≡ take n given ++
    drop (at + n) content
given_and_left content given at n e = rw (e, ← drop-drop n at content) (sym (take-append-drop n (drop at content)))

-- where nothing was given to a buffer with room, nothing is left
none_left : (content : List ℕ) (at n room : ℕ) → n ≡ min room (length (drop at content)) → n ≡ 0 → 0 < room →
    drop (at + n) content ≡ []
none_left content at n room e none some =
    drop_of_length-le content (let left : length (drop at content) ≡ length content - at = length-drop at content in omega arith)

pub returns-clause-bytes : goal.returns-clause-bytes
returns-clause-bytes c =
    let content = c.self.inside.content.items in
    let at = c.self.inside.at in
    let left_is : drop at content ≡ c.args.self.now.bytes = ap (λ (held : Held). held.bytes) c.self.view_is in
    let given = rw (c.deref-2.ensures.value, rest_is content at) at c.copy_front-count.ensures in
    let same_room : length c.copy_front-count.new.buf ≡ length c.args.buf.now = c.copy_front-count.auto.buf in
    rw (← left_is) (
      given_and_left content c.copy_front-count.new.buf at c.copy_front-count.result given.bytes,
      λ none some. none_left content at c.copy_front-count.result (length c.args.buf.now) given.count none (omega arith),
    )
