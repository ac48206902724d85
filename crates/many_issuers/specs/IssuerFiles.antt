-- The issuers of an installation, once their files were tried.
use Rattle.std.specs.Prelude.{◌≡◌, ◌≤◌, ◌+◌, ℕ, List, [], ◌∷◌, map, vec_capacity, vec_len, None}
use Rattle.ports.specs.declared.Clock as clock
use Rattle.chain_disk.specs.declared.disk.Disk as disk
use Rattle.chain_disk.specs.Disks.{this_disk}
use Rattle.journal.specs.Journal.{stopped_of}
use Rattle.chain_store.specs.Store.{Ready, journal_of}
use Rattle.chain_store.specs.declared.store.Store.{Store}
use Rattle.issuers.specs.declared.parts.Part.{Part}
use Rattle.till_calls.specs.Root.{parts_of}
use Rattle.sender_session.specs.Kinds.{store_kind}
use Rattle.shop_drain.specs.Opening.{IsOpened, IsUnopened}
use Rattle.many_issuers.specs.declared.opening.Installation.{Installation}
use Rattle.many_issuers.specs.declared.opening.IssuerFile.{IssuerFile}
use Rattle.many_issuers.specs.declared.opening.IssuerFile.TheVariants.{Closed, Open}
use Rattle.shop_drain.specs.declared.opening.Unopened.{Unopened}
use Rattle.shop_drain.specs.declared.posts.Post.{Post}

-- an issuer as it is given: its tax number, its part of the script, and its post
pub record Start (D C Z G : Type 0) : Type 0 where
  pub issuer : List ℕ
  pub part : Part
  pub post : Post D C Z G

-- there is room for this many issuers more
abbrev pub HasRoom : {D C Z G : Type 0} {g : disk.Ghosts D} → ℕ → Installation D C Z G g → Type 0
HasRoom count installation = (vec_len installation.issuer_files + count ≤ vec_capacity installation.issuer_files)
    × (vec_len installation.stores + count ≤ vec_capacity installation.stores) × (vec_len installation.parts + count ≤ vec_capacity installation.parts)

module _ {D C Z G : Type 0} (d : disk.Ghosts D) (c : clock.Ghosts C) where
  -- its file wasn't opened, and nothing else of its post was touched
  pub record IsClosed (s : Start D C Z G) (issuer : List ℕ) (u : Unopened D C Z G) : Type 0 where
    pub issuer_is : issuer ≡ s.issuer
    pub unopened : IsUnopened s.issuer u.why (this_disk d.tells d.on_disk d.faults s.post.disk u.post.disk)
    pub clock_is : u.post.clock ≡ s.post.clock
    pub sleeper_is : u.post.sleeper ≡ s.post.sleeper
    pub agency_is : u.post.agency ≡ s.post.agency

  -- its file was opened: this is its store, and the rest of its post
  pub record IsOpenedFor (s : Start D C Z G) (issuer : List ℕ) (sleeper : Z) (agency : G) (store : Store D C d) (part : Part) :
      Type 0 where
    pub issuer_is : issuer ≡ s.issuer
    pub part_is : part ≡ s.part
    pub sleeper_is : sleeper ≡ s.post.sleeper
    pub agency_is : agency ≡ s.post.agency
    pub ready : Ready d.tells d.on_disk store
    pub going_on : stopped_of (journal_of store) ≡ None
    pub opened : IsOpened s.issuer (store_kind d c) s.post.disk s.post.clock (parts_of store)

  -- a file for each issuer, and in their order the stores and the parts of those whose files were opened
  abbrev pub AreOpened : List (Start D C Z G) → List (IssuerFile D C Z G) → List (Store D C d) → List Part → Type 0
  AreOpened [] [] [] [] = Unit {0}
  AreOpened (s ∷ starts) (Closed issuer u ∷ issuer_files) stores parts = IsClosed s issuer u × AreOpened starts issuer_files stores parts
  AreOpened (s ∷ starts) (Open issuer sleeper agency ∷ issuer_files) (store ∷ stores) (part ∷ parts) =
      IsOpenedFor s issuer sleeper agency store part × AreOpened starts issuer_files stores parts
  AreOpened _ _ _ _ = ⊥

  -- these issuers, with these parts and posts, were opened so
  pub record AreOpenedOf (issuers : List (List ℕ)) (parts : List Part) (posts : List (Post D C Z G)) (issuer_files : List (IssuerFile D C Z G))
      (stores : List (Store D C d)) (open_parts : List Part) : Type 0 where
    pub starts : List (Start D C Z G)
    pub issuers_are : map (λ (s : Start D C Z G). s.issuer) starts ≡ issuers
    pub parts_are : map (λ (s : Start D C Z G). s.part) starts ≡ parts
    pub posts_are : map (λ (s : Start D C Z G). s.post) starts ≡ posts
    pub opened : AreOpened starts issuer_files stores open_parts
