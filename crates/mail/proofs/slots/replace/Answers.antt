use mathlib.Core.List.{List}
use mathlib.Core.Path.{◌≡◌, ◌∙◌}
use Prim.Native.Nat.{ℕ, suc, ◌≤◌}
use borrow.Author.Rules.{rules}
use lib.ListN.{length}
use Rattle.tables.specs.Rows.{with_row}
use Rattle.tables.specs.Tables.{no_message}
use Rattle.tables.specs.Machines.{slots_of}
use Rattle.mail.specs.declared.Post.{Post}
use Rattle.mail.specs.Posts.{messages_of}
use Rattle.mail.specs.Slots.{placed}
use Rattle.mail.specs.Inner.{with_mail}
use Rattle.mail.proofs.Messages.{pages_sent, Mail, mail_freed, mail_placed}
use Rattle.mail.proofs.Words.{mail_read, slots_back, mail_twice, mail_long}
use Rattle.mail.proofs.slots.replace.Goals as goal

module _ (l n : List ℕ) (s : ℕ) (h : 3072 ≤ length l) (e : n ≡ with_mail l (with_row (slots_of l) (suc s) no_message)) where
  emptied : Mail (with_row (slots_of l) (suc s) no_message)
  emptied = mail_freed (suc s) (mail_read l h)

  long : 3072 ≤ length n
  long = rw (e, mail_long l (with_row (slots_of l) (suc s) no_message) emptied h) h

  both : (m : List ℕ) (y : Post) → length y.message.page ≡ 16 → m ≡ with_mail n (placed (messages_of y) (slots_of n))
      → m ≡ with_mail l (placed (messages_of y) (with_row (slots_of l) (suc s) no_message))
  both m y p f =
      f ∙ rw (e, slots_back l (with_row (slots_of l) (suc s) no_message) emptied) (mail_twice l emptied (mail_placed (pages_sent y p) emptied))

pub returns : goal.returns
returns c =
    let page_wide : length c.args.y.message.page ≡ 16 = search rules in
    search (both, page_wide)
