-- The machine's slots are the words that a buffer has from its first slot on: one law carries every function of `mail` over.
use mathlib.Core.Path.{◌≡◌, sym, ap, ◌∙◌}
use mathlib.Core.List.{List, ◌++◌}
use Prim.Native.Nat.{ℕ, suc, ◌-◌}
use lib.ListN.{length, take, drop}
use Rattle.tables.specs.declared.Layout.{Layout}
use Rattle.tables.specs.declared.Message.{Message}
use Rattle.tables.specs.Rows.{rows_words, row, with_row}
use Rattle.tables.specs.Layouts.{slots_at, extent}
use Rattle.tables.specs.Inner.{Fits, put}
use Rattle.tables.specs.Tables.{no_message, slot_at, with_slots}
use Rattle.tables.specs.Words.{message_words, words}
use Rattle.tables.specs.Machines.{slots_of, machine_of}
use Rattle.tables.proofs.Parts.{rest_all, put_rest}
use Rattle.tables.proofs.Read.{its_room}
use Rattle.tables.proofs.Round.{words_back, put_slots}
use Rattle.tables.proofs.Whole.{whole_of}
use Rattle.mail.specs.declared.Post.{Post}
use Rattle.mail.specs.Posts.{messages_of}
use Rattle.mail.specs.Slots.{placed, empty_slots}
use Rattle.mail.specs.Inner.{with_mail}
use Rattle.mail.proofs.Messages.{Mail, pages_sent, mail_freed, mail_placed}
use Rattle.mail.proofs.Words.{mail_words}

-- `at` is where the slots begin
module _ (lay : Layout) (m : List ℕ) (at : ℕ) (place : at ≡ slots_at lay) where
  -- what is lent
  abbrev part : List ℕ
  part = take (length m - at) (drop at m)

  pub lent : slots_of part ≡ (machine_of lay m).slots
  unfolding machine_of
  lent = rw (rest_all m at, place)

  pub read : (s : ℕ) (x : Message) → x ≡ row no_message (slots_of part) (suc s) → x ≡ slot_at (machine_of lay m) (suc s)
  read s x e = rw lent at e

  pub counted : (n : ℕ) → n ≡ empty_slots (slots_of part) → n ≡ empty_slots (machine_of lay m).slots
  counted n e = rw lent at e

  module _ (ys : List ℕ) (h : Fits lay m) where
    -- what is left of the buffer, where ys came back with other slots
    abbrev whole : List ℕ
    whole = take at m ++ (ys ++ drop (length m - at) (drop at m))

    here : Mail (machine_of lay m).slots
    here = let w = whole_of lay m h.long in record { many = w.slots; pages = w.slot_pages }

    mailed : (f : List Message → List Message) → Mail (f (machine_of lay m).slots) → ys ≡ with_mail part (f (slots_of part))
        → whole ≡ words (with_slots (machine_of lay m) (f (machine_of lay m).slots)) (drop (extent lay) m)
    mailed f k e =
        let new : List ℕ = rows_words message_words (f (machine_of lay m).slots) in
        put_rest m at new ys (e ∙ ap (λ (ss : List Message). with_mail part (f ss)) lent)
        ∙ ap (λ (q : List ℕ). put q at new) (sym (words_back lay m h.long))
        ∙ rw place (put_slots lay (machine_of lay m) (drop (extent lay) m) (whole_of lay m h.long) (its_room lay m) (f (machine_of lay m).slots) (mail_words m (f (machine_of lay m).slots) k))

    pub emptied : (s : ℕ) → ys ≡ with_mail part (with_row (slots_of part) (suc s) no_message)
        → whole ≡ words (with_slots (machine_of lay m) (with_row (machine_of lay m).slots (suc s) no_message)) (drop (extent lay) m)
    emptied s e = mailed (λ ss. with_row ss (suc s) no_message) (mail_freed (suc s) here) e

    module _ (y : Post) (p : length y.message.page ≡ 16) where
      pub sent : ys ≡ with_mail part (placed (messages_of y) (slots_of part))
          → whole ≡ words (with_slots (machine_of lay m) (placed (messages_of y) (machine_of lay m).slots)) (drop (extent lay) m)
      sent e = mailed (λ ss. placed (messages_of y) ss) (mail_placed (pages_sent y p) here) e

      pub replaced : (s : ℕ) → ys ≡ with_mail part (placed (messages_of y) (with_row (slots_of part) (suc s) no_message))
          → whole ≡ words (with_slots (machine_of lay m) (placed (messages_of y) (with_row (machine_of lay m).slots (suc s) no_message))) (drop (extent lay) m)
      replaced s e = mailed (λ ss. placed (messages_of y) (with_row ss (suc s) no_message)) (mail_placed (pages_sent y p) (mail_freed (suc s) here)) e
