-- The rows of a run, by the posts that were handed in.
use Rattle.std.proofs.Common.{◌≡◌, inl, inr, ℕ, List, [], ◌∷◌, map, refl, ap, sym, ◌∙◌, subst, Option, None, Result}
use Rattle.std.proofs.Math.Path.{fun_ext}
use Rattle.std.specs.List.{AllByRecursion}
use Rattle.ports.specs.Sinks.{Sinks}
use Rattle.ports.specs.declared.Clock as clock
use Rattle.ports.specs.declared.faults.NoMemory.{NoMemory}
use Rattle.ports.specs.declared.sleeper.Sleeper as sleeper
use Rattle.chain_disk.specs.Disks.{Disks}
use Rattle.chain_disk.specs.declared.disk.Disk as disk
use Rattle.agency_port.specs.declared.agency.Agency as agency
use Rattle.chain_store.specs.Clocks.{this_clock}
use Rattle.chain_store.specs.Readings.{LeavesClock, readings_of}
use Rattle.chain_store.specs.Replies.{Replies}
use Rattle.issuers.specs.declared.parts.Part.{Part}
use Rattle.report.specs.declared.status.Detail.{Detail}
use Rattle.script.specs.declared.scripts.Script.{Script}
use Rattle.shop_drain.specs.Devices.{Agencies, Sleepers, agency_in, clock_in, disk_in, sleeper_in}
use Rattle.many_issuers.specs.Ends.{IssuerEnds, IssuersRun, OwnRowEnds, Row, RowEnds, Works}
use Rattle.many_issuers.specs.Dones.{IssuersEnd}
use Rattle.many_issuers.specs.Times.{AreOwnPosts, IsGivenBack, IsOwnPost}
use Rattle.many_issuers.specs.OwnClock.{IsReadOn, coming_of}
use Rattle.many_issuers.specs.Pairwise.{Both}
use Rattle.many_issuers.specs.declared.own_clock.OwnClock.{OwnClock}
use Rattle.many_issuers.proofs.OwnClocks.{left_same, left_so}
use Rattle.shop_drain.specs.declared.posts.Post.{Post}

-- the same, said of another clock
works_leaving : {D Z G : Type 0} (issuer : List ℕ) (script : Script) (coming : ℕ → Option ℕ) (Leaves Left : Replies → Type 0)
    (k : Disks D) (s : Sleepers Z) (a : Agencies G) (end : Detail) (block : Result (List ℕ) NoMemory) →
    ((replies : Replies) → Leaves replies → Left replies) → Works issuer script coming Leaves k s a end block →
    Works issuer script coming Left k s a end block
works_leaving issuer script coming Leaves Left k s a end block each w =
    let p = w.played in
    record {
      asked = w.asked;
      front = w.front;
      middle = w.middle;
      later = w.later;
      played = record {
        version = p.version;
        start = p.start;
        replies = p.replies;
        end = p.end;
        found = p.found;
        run = p.run;
        begins = p.begins;
        legal = p.legal;
        linked = p.linked;
        rising = p.rising;
        stops = p.stops;
        fails = p.fails;
        kept = p.kept;
        clock = each p.replies p.clock;
      };
      outcome = w.outcome;
      behind = w.behind;
      ends = w.ends;
      printed = w.printed;
      sleeper = w.sleeper;
      history = w.history;
      agency = w.agency;
      risen = w.risen;
      all_noted = w.all_noted;
      undelivered = w.undelivered;
      complete = w.complete;
    }

module _ {D C Z G : Type 0} (d : disk.Ghosts D) (c : clock.Ghosts C) (z : sleeper.Ghosts Z) (g : agency.Ghosts G)
  where
    abbrev given_row : Row D (OwnClock C) Z G → Post D C Z G → Post D C Z G → Row D C Z G
    given_row r post after = record {
      issuer = r.issuer;
      part = r.part;
      post = post;
      after = after;
      end = r.end;
      block = r.block;
    }

    given_time : (r : Row D (OwnClock C) Z G) (post after : Post D C Z G) → IsOwnPost c.coming r.part post r.post → IsGivenBack r.after after →
        IsReadOn r.post.clock r.after.clock → (k : Disks D) (s : Sleepers Z) (a : Agencies G) →
        IssuerEnds r.issuer r.part.script None (this_clock (coming_of c.coming) r.post.clock r.after.clock) k s a r.end r.block →
        IssuerEnds r.issuer r.part.script r.part.script.clock (clock_in c post after) k s a r.end r.block
    given_time r post after own back read k s a (inl h) = inl (record {
      why = h.why;
      unopened = h.unopened;
      every_crash = h.every_crash;
      clock = left_same c.coming post.clock after.clock r.post.clock r.after.clock own.given_is back.clock_is h.clock;
      sleeper = h.sleeper;
      agency = h.agency;
      ends = h.ends;
      printed = h.printed;
    })
    given_time r post after own back read k s a (inr w) =
        let line = r.part.script.clock in
        let t = this_clock (coming_of c.coming) r.post.clock r.after.clock in
        let coming : coming_of c.coming r.post.clock ≡ readings_of line (c.coming post.clock) = fun_ext own.times in
        inr (works_leaving r.issuer r.part.script (readings_of line (c.coming post.clock)) (LeavesClock t None)
        (LeavesClock (clock_in c post after) line) k s a r.end r.block
        (λ replies asked. left_so c.coming post.clock after.clock r.post.clock r.after.clock own.given_is back.clock_is line replies
        own.times own.replaced_is read asked)
        (subst (λ (f : ℕ → Option ℕ). Works r.issuer r.part.script f (LeavesClock t None) k s a r.end r.block) coming w))

    given_ends : (r : Row D (OwnClock C) Z G) (post after : Post D C Z G) → IsOwnPost c.coming r.part post r.post → IsGivenBack r.after after →
        OwnRowEnds d (coming_of c.coming) IsReadOn z g r → RowEnds d c z g (given_row r post after)
    given_ends r post after own back h =
        let t = this_clock (coming_of c.coming) r.post.clock r.after.clock in
        let disks : disk_in d r.post r.after ≡ disk_in d post after = cc (own.disk_is, back.disk_is) in
        let sleepers : sleeper_in z r.post r.after ≡ sleeper_in z post after = cc (own.sleeper_is, back.sleeper_is) in
        let agencies : agency_in g r.post r.after ≡ agency_in g post after = cc (own.agency_is, back.agency_is) in
        given_time r post after own back h.0 (disk_in d post after) (sleeper_in z post after) (agency_in g post after)
        (subst (λ (a : Agencies G). IssuerEnds r.issuer r.part.script None t (disk_in d post after) (sleeper_in z post after) a r.end
        r.block) agencies
        (subst (λ (s : Sleepers Z). IssuerEnds r.issuer r.part.script None t (disk_in d post after) s (agency_in g r.post r.after) r.end
        r.block) sleepers
        (subst (λ (k : Disks D). IssuerEnds r.issuer r.part.script None t k (sleeper_in z r.post r.after) (agency_in g r.post r.after) r.end
        r.block) disks h.1)))

    -- the rows of these posts, with what they say
    record GivenRows (own : List (Row D (OwnClock C) Z G)) (posts after : List (Post D C Z G)) : Type 0 where
      pub rows : List (Row D C Z G)
      pub issuers_are : map (λ (r : Row D C Z G). r.issuer) rows ≡ map (λ (r : Row D (OwnClock C) Z G). r.issuer) own
      pub parts_are : map (λ (r : Row D C Z G). r.part) rows ≡ map (λ (r : Row D (OwnClock C) Z G). r.part) own
      pub posts_are : map (λ (r : Row D C Z G). r.post) rows ≡ posts
      pub after_are : map (λ (r : Row D C Z G). r.after) rows ≡ after
      pub ends_are : map (λ (r : Row D C Z G). r.end) rows ≡ map (λ (r : Row D (OwnClock C) Z G). r.end) own
      pub blocks_are : map (λ (r : Row D C Z G). r.block) rows ≡ map (λ (r : Row D (OwnClock C) Z G). r.block) own
      pub each : AllByRecursion (RowEnds d c z g) rows

    given_rows : (own : List (Row D (OwnClock C) Z G)) (posts after : List (Post D C Z G)) →
        AreOwnPosts c.coming (map (λ (r : Row D (OwnClock C) Z G). r.part) own) posts (map (λ (r : Row D (OwnClock C) Z G). r.post) own) →
        Both IsGivenBack (map (λ (r : Row D (OwnClock C) Z G). r.after) own) after → AllByRecursion (OwnRowEnds d (coming_of c.coming) IsReadOn z g) own →
        GivenRows own posts after
    given_rows [] [] [] owns backs each = record {
      rows = [];
      issuers_are = refl;
      parts_are = refl;
      posts_are = refl;
      after_are = refl;
      ends_are = refl;
      blocks_are = refl;
      each = tt;
    }
    given_rows (r ∷ rows) (post ∷ posts) (then ∷ after) owns backs each =
        let more = given_rows rows posts after owns.1 backs.1 each.1 in
        record {
          rows = given_row r post then ∷ more.rows;
          issuers_are = ap (λ (l : List (List ℕ)). r.issuer ∷ l) more.issuers_are;
          parts_are = ap (λ (l : List Part). r.part ∷ l) more.parts_are;
          posts_are = ap (λ (l : List (Post D C Z G)). post ∷ l) more.posts_are;
          after_are = ap (λ (l : List (Post D C Z G)). then ∷ l) more.after_are;
          ends_are = ap (λ (l : List Detail). r.end ∷ l) more.ends_are;
          blocks_are = ap (λ (l : List (Result (List ℕ) NoMemory)). r.block ∷ l) more.blocks_are;
          each = (given_ends r post then owns.0 backs.0 each.0, more.each);
        }
    given_rows [] [] (then ∷ after) owns backs each = absurd backs
    given_rows [] (post ∷ posts) after owns backs each = absurd owns
    given_rows (r ∷ rows) [] after owns backs each = absurd owns
    given_rows (r ∷ rows) (post ∷ posts) [] owns backs each = absurd backs

    pub given_run : (issuers : List (List ℕ)) (parts : List Part) (posts after : List (Post D C Z G)) (own own' : List (Post D (OwnClock C) Z G))
        (s : Sinks) (end : Detail) → AreOwnPosts c.coming parts posts own → Both IsGivenBack own' after →
        IssuersRun (OwnRowEnds d (coming_of c.coming) IsReadOn z g) issuers parts own own' s end → IssuersRun (RowEnds d c z g) issuers parts posts after s end
    given_run issuers parts posts after own own' s end owns backs h =
        let there = subst (λ (l : List Part). AreOwnPosts c.coming l posts (map (λ (r : Row D (OwnClock C) Z G). r.post) h.rows))
        (sym h.are.parts_are) (subst (λ (l : List (Post D (OwnClock C) Z G)). AreOwnPosts c.coming parts posts l) (sym h.are.posts_are) owns) in
        let again = subst (λ (l : List (Post D (OwnClock C) Z G)). Both IsGivenBack l after) (sym h.are.after_are) backs in
        let r = given_rows h.rows posts after there again h.each in
        record {
          rows = r.rows;
          are = record {
            issuers_are = r.issuers_are ∙ h.are.issuers_are;
            parts_are = r.parts_are ∙ h.are.parts_are;
            posts_are = r.posts_are;
            after_are = r.after_are;
          };
          each = r.each;
          ends = subst (λ (l : List Detail). IssuersEnd l (map (λ (x : Row D C Z G). x.block) r.rows) s end) (sym r.ends_are)
              (subst (λ (l : List (Result (List ℕ) NoMemory)). IssuersEnd (map (λ (x : Row D (OwnClock C) Z G). x.end) h.rows) l s end)
              (sym r.blocks_are) h.ends);
        }
