-- The posts of an outside: that of the first file, and the further ones.
use Rattle.std.specs.Prelude.{◌≡◌, List}
use Rattle.shop_commands.specs.declared.outside.Outside.{Outside}
use Rattle.shop_drain.specs.declared.posts.Post.{Post}

-- what an outside has of the first file
abbrev pub own_post : {D C Z G : Type 0} → Outside D C Z G → Post D C Z G
own_post o = record { disk = o.disk; clock = o.clock; sleeper = o.sleeper; agency = o.agency }

-- the further posts of a run, before it and after it
pub record Further (D C Z G : Type 0) : Type 0 where
  pub posts : List (Post D C Z G)
  pub posts_after : List (Post D C Z G)

abbrev pub LeftFurther : {D C Z G : Type 0} → Further D C Z G → Type 0
LeftFurther f = f.posts_after ≡ f.posts

abbrev pub further : {D C Z G : Type 0} → Outside D C Z G → Outside D C Z G → Further D C Z G
further old new = record { posts = old.more; posts_after = new.more }
