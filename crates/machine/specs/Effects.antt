-- What an accepted call does: it changes at most one row, or makes the machine anew; it empties slots, sends one message to a set of receivers, and answers.
use Rattle.std.specs.Prelude.{ℕ, List, length}
use Rattle.tables.specs.declared.Conf.{Conf}
use Rattle.tables.specs.declared.Client.{Client}
use Rattle.tables.specs.declared.Directory.{Directory}
use Rattle.tables.specs.Tables.{Page, Replica, Machine, with_client, with_directory, with_replica, with_slots}
use Rattle.mail.specs.declared.Post.{Post}
use Rattle.mail.specs.Posts.{messages_of}
use Rattle.mail.specs.Slots.{placed, freed}
use Rattle.rules.specs.declared.Answer.{Answer}
use Rattle.machine.specs.SetUp.{new_machine}

pub data Change : Type 0 where
  nothing : Change
  client : ℕ → Client → Change
  directory : ℕ → Directory → Change
  replica : ℕ → Replica → Change
  anew : Conf → Page → Change

-- `page` is what the page to fill holds afterwards
pub record Effect : Type 0 where
  pub emptied : List ℕ
  pub change : Change
  pub post : Post
  pub answer : Answer
  pub page : Page

abbrev pub changed : Change → Machine → Machine
changed nothing M = M
changed (client c w) M = with_client M c w
changed (directory d w) M = with_directory M d w
changed (replica r w) M = with_replica M r w
changed (anew k page) M = new_machine (length M.directories) k page

abbrev pub applied : Effect → Machine → Machine
applied e M =
    let N : Machine = changed e.change M in
    with_slots N (placed (messages_of e.post) (freed e.emptied N.slots))
