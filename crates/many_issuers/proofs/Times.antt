-- Posts by the clocks of their parts, and by their own again.
use Rattle.std.proofs.Common.{◌≡◌, ℕ, suc, ◌+◌, ◌<◌, List, [], ◌∷◌, ◌++◌, length, drop, get_or, refl, ap, sym, ◌∙◌, subst, arith, append_assoc}
use Rattle.std.proofs.Common.{Option}
use Rattle.std.specs.Prelude.{reverse}
use Rattle.std.proofs.lemmas.List.{append-nil, drop_all}
use Rattle.std.proofs.Math.Seq.{drop-cons}
use Rattle.issuers.specs.declared.parts.Part.{Part}
use Rattle.many_issuers.specs.Times.{AreOwnPosts, IsGivenBack, IsOwnPost}
use Rattle.many_issuers.specs.Pairwise.{Both}
use Rattle.many_issuers.specs.declared.own_clock.OwnClock.{OwnClock}
use Rattle.shop_drain.specs.declared.posts.Post.{Post}
use Rattle.many_issuers.proofs.Opened.{reverse_push}

module _ {D C Z G : Type 0} (coming : C → ℕ → Option ℕ) where
  -- those after the ones that are left
  pub record OwnRest (parts : List Part) (posts posts_left : List (Post D C Z G)) (own : List (Post D (OwnClock C) Z G)) : Type 0 where
    pub rest : List (Post D C Z G)
    pub posts_are : posts_left ++ rest ≡ posts
    pub are : AreOwnPosts coming (drop (length posts_left) parts) rest (reverse own)

  pub own_none : (parts : List Part) (posts : List (Post D C Z G)) (own : List (Post D (OwnClock C) Z G)) → length parts ≡ length posts → own ≡ [] →
      OwnRest parts posts posts own
  own_none parts posts own long none = record {
    rest = [];
    posts_are = append-nil posts;
    are = subst (λ (l : List Part). AreOwnPosts coming l [] (reverse own)) (sym (drop_all (length posts) parts (omega (arith, long))))
        (subst (λ (l : List (Post D (OwnClock C) Z G)). AreOwnPosts coming [] [] (reverse l)) (sym none) tt);
  }

  pub own_more : (parts : List Part) (posts posts_left posts_then : List (Post D C Z G)) (own own' : List (Post D (OwnClock C) Z G)) (part : Part)
      (post : Post D C Z G) (now : Post D (OwnClock C) Z G) → posts_left ≡ posts_then ++ post ∷ [] → length posts_left ≡ length posts_then + 1 →
      length posts_then < length parts → part ≡ get_or parts (length posts_then) part → own' ≡ own ++ now ∷ [] →
      IsOwnPost coming part post now → OwnRest parts posts posts_left own → OwnRest parts posts posts_then own'
  own_more parts posts posts_left posts_then own own' part post now is long within there more h own_rest = record {
    rest = post ∷ own_rest.rest;
    posts_are = sym (append_assoc posts_then (post ∷ []) own_rest.rest) ∙
        ap (λ (l : List (Post D C Z G)). l ++ own_rest.rest) (sym is) ∙ own_rest.posts_are;
    are =
        let next : suc (length posts_then) ≡ length posts_left = omega (arith, long) in
        let parts_are : drop (length posts_then) parts ≡ part ∷ drop (length posts_left) parts =
        drop-cons parts (length posts_then) part within ∙ ap (λ (p : Part). p ∷ drop (suc (length posts_then)) parts) (sym there) ∙
        ap (λ (n : ℕ). part ∷ drop n parts) next in
        subst (λ (l : List Part). AreOwnPosts coming l (post ∷ own_rest.rest) (reverse own')) (sym parts_are)
        (subst (λ (l : List (Post D (OwnClock C) Z G)). AreOwnPosts coming (part ∷ drop (length posts_left) parts) (post ∷ own_rest.rest) l)
        (sym (reverse_push own own' now more)) (h, own_rest.are));
  }

  pub own_all : (parts : List Part) (posts posts_left : List (Post D C Z G)) (own : List (Post D (OwnClock C) Z G)) → posts_left ≡ [] →
      OwnRest parts posts posts_left own → AreOwnPosts coming parts posts (reverse own)
  own_all parts posts posts_left own none h =
      subst (λ (l : List (Post D C Z G)). AreOwnPosts coming parts l (reverse own))
      (ap (λ (l : List (Post D C Z G)). l ++ h.rest) (sym none) ∙ h.posts_are)
      (subst (λ (l : List (Post D C Z G)). AreOwnPosts coming (drop (length l) parts) h.rest (reverse own)) none h.are)

-- the posts given back after those that are left
pub record GivenRest {D C Z G : Type 0} (own own_left : List (Post D (OwnClock C) Z G)) (posts : List (Post D C Z G)) : Type 0 where
  pub rest : List (Post D (OwnClock C) Z G)
  pub own_are : own_left ++ rest ≡ own
  pub are : Both IsGivenBack rest (reverse posts)

pub given_none : {D C Z G : Type 0} (own : List (Post D (OwnClock C) Z G)) (posts : List (Post D C Z G)) → posts ≡ [] → GivenRest own own posts
given_none {D} {C} {Z} {G} own posts none = record {
  rest = [];
  own_are = append-nil own;
  are = subst (λ (l : List (Post D C Z G)). Both IsGivenBack [] (reverse l)) (sym none) tt;
}

pub given_more : {D C Z G : Type 0} (own own_left own_then : List (Post D (OwnClock C) Z G)) (posts posts' : List (Post D C Z G))
    (x : Post D (OwnClock C) Z G) (post : Post D C Z G) → own_left ≡ own_then ++ x ∷ [] → posts' ≡ posts ++ post ∷ [] → IsGivenBack x post →
    GivenRest own own_left posts → GivenRest own own_then posts'
given_more {D} {C} {Z} {G} own own_left own_then posts posts' x post is more back h = record {
  rest = x ∷ h.rest;
  own_are = sym (append_assoc own_then (x ∷ []) h.rest) ∙ ap (λ (l : List (Post D (OwnClock C) Z G)). l ++ h.rest) (sym is) ∙ h.own_are;
  are = subst (λ (l : List (Post D C Z G)). Both IsGivenBack (x ∷ h.rest) l) (sym (reverse_push posts posts' post more)) (back, h.are);
}

pub given_all : {D C Z G : Type 0} (own own_left : List (Post D (OwnClock C) Z G)) (posts : List (Post D C Z G)) → own_left ≡ [] →
    GivenRest own own_left posts → Both IsGivenBack own (reverse posts)
given_all {D} {C} {Z} {G} own own_left posts none h =
    subst (λ (l : List (Post D (OwnClock C) Z G)). Both IsGivenBack l (reverse posts))
    (ap (λ (l : List (Post D (OwnClock C) Z G)). l ++ h.rest) (sym none) ∙ h.own_are) h.are

pub own_long : {D C Z G : Type 0} (coming : C → ℕ → Option ℕ) (parts : List Part) (posts : List (Post D C Z G))
    (own : List (Post D (OwnClock C) Z G)) → AreOwnPosts coming parts posts own → length own ≡ length posts
own_long coming [] [] [] h = refl
own_long coming (part ∷ parts) (post ∷ posts) (x ∷ own) h = ap (λ (n : ℕ). suc n) (own_long coming parts posts own h.1)
own_long coming [] [] (x ∷ own) h = absurd h
own_long coming [] (post ∷ posts) own h = absurd h
own_long coming (part ∷ parts) [] own h = absurd h
own_long coming (part ∷ parts) (post ∷ posts) [] h = absurd h
