-- Posts by the clocks of their parts, and by their own again.
use Rattle.std.specs.Prelude.{◌≡◌, ◌≤◌, ℕ, List, [], ◌∷◌, Option, option_map, vec_capacity}
use Rattle.chain_disk.specs.declared.disk.Disk as disk
use Rattle.chain_store.specs.Readings.{readings_of}
use Rattle.issuers.specs.declared.parts.Part.{Part}
use Rattle.many_issuers.specs.IssuerTasks.{HasRoomFor}
use Rattle.many_issuers.specs.OwnClock.{coming_of, given_of, replaced_of}
use Rattle.many_issuers.specs.declared.command.CommandRoom.{CommandRoom}
use Rattle.many_issuers.specs.declared.own_clock.OwnClock.{OwnClock}
use Rattle.shop_drain.specs.declared.posts.Post.{Post}

-- the post by a clock whose coming answers are those of the post's own, or of the part's clock line, which replaces it
pub record IsOwnPost {D C Z G : Type 0} (coming : C → ℕ → Option ℕ) (part : Part) (post : Post D C Z G)
    (own : Post D (OwnClock C) Z G) : Type 0 where
  pub times : (k : ℕ) → coming_of coming own.clock k ≡ readings_of part.script.clock (coming post.clock) k
  pub given_is : given_of own.clock ≡ post.clock
  pub replaced_is : replaced_of own.clock ≡ option_map (λ _. post.clock) part.script.clock
  pub disk_is : own.disk ≡ post.disk
  pub sleeper_is : own.sleeper ≡ post.sleeper
  pub agency_is : own.agency ≡ post.agency

-- each post by its part
abbrev pub AreOwnPosts : {D C Z G : Type 0} → (C → ℕ → Option ℕ) → List Part → List (Post D C Z G) →
    List (Post D (OwnClock C) Z G) → Type 0
AreOwnPosts coming [] [] [] = Unit {0}
AreOwnPosts coming (part ∷ parts) (post ∷ posts) (own ∷ owns) =
    IsOwnPost coming part post own × AreOwnPosts coming parts posts owns
AreOwnPosts coming _ _ _ = ⊥

-- the post by its own clock again
pub record IsGivenBack {D C Z G : Type 0} (own : Post D (OwnClock C) Z G) (post : Post D C Z G) : Type 0 where
  pub disk_is : post.disk ≡ own.disk
  pub clock_is : post.clock ≡ given_of own.clock
  pub sleeper_is : post.sleeper ≡ own.sleeper
  pub agency_is : post.agency ≡ own.agency

-- all room of the command, for this many issuers
pub record HasRoomForAll {D C Z G : Type 0} {g : disk.Ghosts D} (count : ℕ) (command_room : CommandRoom D C Z G g) : Type 0 where
  pub room : HasRoomFor count command_room.room
  pub none : (command_room.own.items ≡ []) × (command_room.given.items ≡ [])
  pub own : count ≤ vec_capacity command_room.own
  pub given : count ≤ vec_capacity command_room.given
