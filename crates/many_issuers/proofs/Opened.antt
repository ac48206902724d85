-- The files of several issuers, opened from the last to the first.
use Rattle.std.proofs.Common.{◌≡◌, ℕ, ◌+◌, ◌<◌, List, [], ◌∷◌, ◌++◌, length, map, take, ap, sym, ◌∙◌, subst, arith, append_assoc, get_or}
use Rattle.std.specs.Prelude.{reverse}
use Rattle.std.proofs.lemmas.List.{append-nil, reverse-append, take_all, take_more}
use Rattle.ports.specs.declared.Clock as clock
use Rattle.chain_disk.specs.declared.disk.Disk as disk
use Rattle.chain_store.specs.declared.store.Store.{Store}
use Rattle.issuers.specs.declared.parts.Part.{Part}
use Rattle.many_issuers.specs.IssuerFiles.{AreOpened, AreOpenedOf, IsClosed, IsOpenedFor, Start}
use Rattle.many_issuers.specs.declared.opening.IssuerFile.{IssuerFile}
use Rattle.many_issuers.specs.declared.opening.IssuerFile.TheVariants.{Closed, Open}
use Rattle.shop_drain.specs.declared.opening.Unopened.{Unopened}
use Rattle.shop_drain.specs.declared.posts.Post.{Post}

pub reverse_push : {X : Type 0} (xs all : List X) (x : X) → all ≡ xs ++ x ∷ [] → reverse all ≡ x ∷ reverse xs
reverse_push xs all x is = ap reverse is ∙ reverse-append xs (x ∷ [])

module _ {D C Z G : Type 0} (d : disk.Ghosts D) (c : clock.Ghosts C) where
  pub closed_more : (starts : List (Start D C Z G)) (issuer_files now : List (IssuerFile D C Z G)) (stores : List (Store D C d)) (parts : List Part)
      (s : Start D C Z G) (issuer : List ℕ) (u : Unopened D C Z G) → now ≡ issuer_files ++ Closed issuer u ∷ [] →
      IsClosed d c s issuer u → AreOpened d c starts (reverse issuer_files) stores parts → AreOpened d c (s ∷ starts) (reverse now) stores parts
  closed_more starts issuer_files now stores parts s issuer u is closed h =
      subst (λ (l : List (IssuerFile D C Z G)). AreOpened d c (s ∷ starts) l stores parts) (sym (reverse_push issuer_files now (Closed issuer u) is))
      (closed, h)

  pub open_more : (starts : List (Start D C Z G)) (issuer_files sides' : List (IssuerFile D C Z G)) (stores stores' : List (Store D C d))
      (parts parts' : List Part) (s : Start D C Z G) (issuer : List ℕ) (sleeper : Z) (agency : G) (store : Store D C d) (part : Part) →
      sides' ≡ issuer_files ++ Open issuer sleeper agency ∷ [] → stores' ≡ stores ++ store ∷ [] → parts' ≡ parts ++ part ∷ [] →
      IsOpenedFor d c s issuer sleeper agency store part → AreOpened d c starts (reverse issuer_files) (reverse stores) (reverse parts) →
      AreOpened d c (s ∷ starts) (reverse sides') (reverse stores') (reverse parts')
  open_more starts issuer_files sides' stores stores' parts parts' s issuer sleeper agency store part is there its opened h =
      subst (λ (l : List (IssuerFile D C Z G)). AreOpened d c (s ∷ starts) l (reverse stores') (reverse parts'))
      (sym (reverse_push issuer_files sides' (Open issuer sleeper agency) is))
      (subst (λ (l : List (Store D C d)). AreOpened d c (s ∷ starts) (Open issuer sleeper agency ∷ reverse issuer_files) l (reverse parts'))
      (sym (reverse_push stores stores' store there))
      (subst (λ (l : List Part). AreOpened d c (s ∷ starts) (Open issuer sleeper agency ∷ reverse issuer_files) (store ∷ reverse stores) l)
      (sym (reverse_push parts parts' part its)) (opened, h)))

  -- what was opened after those that are left
  pub record OpensRest (issuers : List (List ℕ)) (parts : List Part) (posts : List (Post D C Z G)) (parts_left : List Part)
      (posts_left : List (Post D C Z G)) (issuer_files : List (IssuerFile D C Z G)) (stores : List (Store D C d)) (open_parts : List Part) : Type 0
    where
      pub rest : List (Start D C Z G)
      pub issuers_are : take (length posts_left) issuers ++ map (λ (s : Start D C Z G). s.issuer) rest ≡ issuers
      pub parts_are : parts_left ++ map (λ (s : Start D C Z G). s.part) rest ≡ parts
      pub posts_are : posts_left ++ map (λ (s : Start D C Z G). s.post) rest ≡ posts
      pub opened : AreOpened d c rest (reverse issuer_files) (reverse stores) (reverse open_parts)

  pub opens_none : (issuers : List (List ℕ)) (parts : List Part) (posts : List (Post D C Z G)) (issuer_files : List (IssuerFile D C Z G))
      (stores : List (Store D C d)) (open_parts : List Part) → length posts ≡ length issuers → issuer_files ≡ [] → stores ≡ [] →
      open_parts ≡ [] → OpensRest issuers parts posts parts posts issuer_files stores open_parts
  opens_none issuers parts posts issuer_files stores open_parts e a b c' = record {
    rest = [];
    issuers_are = append-nil (take (length posts) issuers) ∙ take_all (length posts) issuers (omega (arith, e));
    parts_are = append-nil parts;
    posts_are = append-nil posts;
    opened = subst (λ (l : List (IssuerFile D C Z G)). AreOpened d c [] (reverse l) (reverse stores) (reverse open_parts)) (sym a)
        (subst (λ (l : List (Store D C d)). AreOpened {Z = Z} {G = G} d c [] [] (reverse l) (reverse open_parts)) (sym b)
        (subst (λ (l : List Part). AreOpened {Z = Z} {G = G} d c [] [] [] (reverse l)) (sym c') tt));
  }

  pub opens_more : (issuers : List (List ℕ)) (parts : List Part) (posts : List (Post D C Z G)) (parts_left parts_then : List Part)
      (posts_left posts_then : List (Post D C Z G)) (issuer_files sides' : List (IssuerFile D C Z G)) (stores stores' : List (Store D C d))
      (open_parts open_parts' : List Part) (issuer : List ℕ) (part : Part) (post : Post D C Z G) →
      posts_left ≡ posts_then ++ post ∷ [] → parts_left ≡ parts_then ++ part ∷ [] → length posts_left ≡ length posts_then + 1 →
      length posts_then < length issuers → issuer ≡ get_or issuers (length posts_then) issuer →
      (h : OpensRest issuers parts posts parts_left posts_left issuer_files stores open_parts) →
      AreOpened d c (record { issuer = issuer; part = part; post = post } ∷ h.rest) (reverse sides') (reverse stores')
      (reverse open_parts') → OpensRest issuers parts posts parts_then posts_then sides' stores' open_parts'
  opens_more issuers parts posts parts_left parts_then posts_left posts_then issuer_files sides' stores stores' open_parts open_parts' issuer
      part post posts_are parts_are long within is h opened = record {
        rest = record { issuer = issuer; part = part; post = post } ∷ h.rest;
        issuers_are =
            let more : take (length posts_left) issuers ≡ take (length posts_then) issuers ++ issuer ∷ [] =
            ap (λ (n : ℕ). take n issuers) long ∙ take_more issuers (length posts_then) issuer within ∙
            ap (λ (x : List ℕ). take (length posts_then) issuers ++ x ∷ []) (sym is) in
            sym (append_assoc (take (length posts_then) issuers) (issuer ∷ []) (map (λ (s : Start D C Z G). s.issuer) h.rest)) ∙
            ap (λ (l : List (List ℕ)). l ++ map (λ (s : Start D C Z G). s.issuer) h.rest) (sym more) ∙ h.issuers_are;
        parts_are = sym (append_assoc parts_then (part ∷ []) (map (λ (s : Start D C Z G). s.part) h.rest)) ∙
            ap (λ (l : List Part). l ++ map (λ (s : Start D C Z G). s.part) h.rest) (sym parts_are) ∙ h.parts_are;
        posts_are = sym (append_assoc posts_then (post ∷ []) (map (λ (s : Start D C Z G). s.post) h.rest)) ∙
            ap (λ (l : List (Post D C Z G)). l ++ map (λ (s : Start D C Z G). s.post) h.rest) (sym posts_are) ∙ h.posts_are;
        opened = opened;
      }

  pub opens_all : (issuers : List (List ℕ)) (parts : List Part) (posts : List (Post D C Z G)) (parts_left : List Part)
      (posts_left : List (Post D C Z G)) (issuer_files : List (IssuerFile D C Z G)) (stores : List (Store D C d)) (open_parts : List Part) →
      posts_left ≡ [] → parts_left ≡ [] → OpensRest issuers parts posts parts_left posts_left issuer_files stores open_parts →
      AreOpenedOf d c issuers parts posts (reverse issuer_files) (reverse stores) (reverse open_parts)
  opens_all issuers parts posts parts_left posts_left issuer_files stores open_parts e f h = record {
    starts = h.rest;
    issuers_are = subst (λ (l : List (Post D C Z G)). take (length l) issuers ++ map (λ (s : Start D C Z G). s.issuer) h.rest ≡ issuers)
        e h.issuers_are;
    parts_are = subst (λ (l : List Part). l ++ map (λ (s : Start D C Z G). s.part) h.rest ≡ parts) f h.parts_are;
    posts_are = subst (λ (l : List (Post D C Z G)). l ++ map (λ (s : Start D C Z G). s.post) h.rest ≡ posts) e h.posts_are;
    opened = h.opened;
  }
