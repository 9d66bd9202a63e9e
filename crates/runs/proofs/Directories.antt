-- A directory's row after a good message is good, and so is its reply.
use mathlib.Core.Path.{◌≡◌, refl, subst}
use mathlib.Core.Bool.{true, false, ◌||◌}
use Prim.Native.Nat.{ℕ, ◌≤◌}
use borrow.Author.Tests.{le-leb, lt-ltb}
use lib.Dec.{eqb→eq}
use Rattle.sets.proofs.Laws.{join_lt, with_lt}
use Rattle.tables.specs.declared.Conf.{Conf}
use Rattle.tables.specs.declared.Directory.{Directory}
use Rattle.tables.specs.declared.Message.{Message}
use Rattle.tables.specs.Kinds.{sender_of, receiver_of, many_named}
use Rattle.tables.specs.Tables.{no_page}
use Rattle.inspect.specs.Good.{zeros, good_tag, good_set, directory_row}
use Rattle.inspect.proofs.Facts.{DirectoryFacts, MessageFacts}
use Rattle.inspect.proofs.Made.{directory_made}
use Rattle.rules.specs.Directory.{directory_after, directory_post}
use Rattle.rules.proofs.DirectoryViews.{DirectoryView, joins, takes, adds, stays, directory_view}
use Rattle.runs.proofs.Sound.{Sends}
use Rattle.runs.proofs.Sent.{in_use, good_tag_lem, sends_one, sends_none, sends_by}

pub directory_fits : (k : Conf) (p : ℕ) (d : Directory) → p ≤ k.directories → DirectoryFacts k d → directory_row k p d ≡ true
unfolding directory_row
directory_fits k p d h f = rw (le-leb p k.directories h) (directory_made k d f)

module _ (k : Conf) (d : Directory) (x : Message) (f : DirectoryFacts k d) (g : MessageFacts k x) where
  pub directory_after_lem : DirectoryFacts k (directory_after k.f d x)
  unfolding sender_of
  directory_after_lem = go (directory_view k.f d x)
    where
      go : {y : Directory} → DirectoryView k.f d x y → DirectoryFacts k y
      go (joins _ _) = record { down = f.down; tag = f.tag; set = join_lt k.replicas d.set x.set f.set g.set }
      go (takes _ _ _) = record { down = f.down; tag = g.tag; set = g.set }
      go (adds e _) =
          record {
            down = f.down;
            tag = f.tag;
            set = with_lt k.replicas d.set x.sender f.set
                (subst (λ (n : ℕ). x.sender ≤ many_named k (sender_of n)) (eqb→eq x.kind 14 e) g.sender);
          }
      go (stays _) = f

  pub directory_sends : Sends k (directory_post d x)
  unfolding directory_post sender_of receiver_of zeros no_page
  directory_sends =
      sends_by k x g 1 (λ c. sends_one k (record { rest = refl; sender = c.receiver; tag = tag; set = set; number = c.number; page = refl }) x.sender c.sender)
      (sends_by k x g 2 (λ c. sends_one k (record { rest = refl; sender = c.receiver; tag = refl; set = refl; number = c.number; page = refl }) x.sender c.sender)
      (sends_by k x g 3 (λ c. sends_one k (record { rest = refl; sender = c.receiver; tag = tag; set = refl; number = c.number; page = refl }) x.sender c.sender)
      (sends_by k x g 4 (λ c. sends_one k (record { rest = refl; sender = c.receiver; tag = refl; set = refl; number = c.number; page = refl }) x.sender c.sender)
      (sends_none k))))
    where
      tag : good_tag k d.tag || false ≡ true
      tag = good_tag_lem k d.tag f.tag

      set : good_set k.replicas d.set || false ≡ true
      set = in_use (good_set k.replicas d.set) (lt-ltb _ _ f.set)
