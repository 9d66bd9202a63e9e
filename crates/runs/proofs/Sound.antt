-- A sound machine is good, and has the rows and pages that its words have. An effect with a good row and good messages keeps it so.
use mathlib.Core.Bool.{Bool, true, false, ◌&&◌}
use mathlib.Core.List.{List, [], ◌∷◌}
use mathlib.Core.Path.{◌≡◌, refl, ap, subst, ◌∙◌}
use Prim.Native.Nat.{ℕ, suc, ◌≤◌}
use native.Mathlib.Omega.{arith}
use borrow.Author.Tests.{ne_eqb}
use lib.ListN.{length}
use Rattle.sets.specs.Inner.{◌∈◌}
use Rattle.tables.specs.declared.Conf.{Conf}
use Rattle.tables.specs.declared.Message.{Message}
use Rattle.tables.specs.Kinds.{sender_of, many_named}
use Rattle.tables.specs.Tables.{Machine, no_page, no_message, with_slots, is_empty}
use Rattle.tables.specs.Words.{message_words}
use Rattle.tables.proofs.All.{All, none, cons, all_map, length_with_row}
use Rattle.tables.proofs.Whole.{Paged, Stocked, Whole, whole_client, whole_directory, whole_replica, whole_slots}
use Rattle.inspect.specs.Good.{zeros, each_row, good_message, client_row, directory_row, replica_row, slot_row, good_machine}
use Rattle.inspect.proofs.Tests.{and_l, and_r}
use Rattle.inspect.proofs.Facts.{message_facts}
use Rattle.inspect.proofs.Machines.{slots_pass}
use Rattle.inspect.proofs.Kept.{good_client_lem, good_directory_lem, good_replica_lem}
use Rattle.mail.specs.declared.Post.{Post}
use Rattle.mail.specs.Posts.{to_receiver, messages_of}
use Rattle.mail.specs.Slots.{freed}
use Rattle.mail.proofs.Messages.{all_sent, all_placed, all_freed, length_placed}
use Rattle.machine.specs.Effects.{Change, nothing, client, directory, replica, anew, Effect, changed, applied}

pub record Sound (M : Machine) : Type 0 where
  pub good : good_machine M ≡ true
  pub whole : Whole M

-- ---- a test of each row that is not told the row's number

and_both : (a b : Bool) → a ≡ true → b ≡ true → a && b ≡ true
and_both a b p q = rw (p, q)

module _ {A : Type 0} (test : A → Bool) where
  pub each_in : (n : ℕ) (xs : List A) → each_row (λ _. test) n xs ≡ true → All (λ x. test x ≡ true) xs
  each_in n [] e = none
  each_in n (x ∷ xs) e =
      cons (and_l (test x) (each_row (λ _. test) (suc n) xs) e) (each_in (suc n) xs (and_r (test x) (each_row (λ _. test) (suc n) xs) e))

  pub each_out : (n : ℕ) {xs : List A} → All (λ x. test x ≡ true) xs → each_row (λ _. test) n xs ≡ true
  each_out n none = refl
  each_out n (cons {x} {xs} p ps) = and_both (test x) (each_row (λ _. test) (suc n) xs) p (each_out (suc n) ps)

-- ---- the slots

-- a slot may hold the message
pub record Stands (k : Conf) (x : Message) : Type 0 where
  pub row : slot_row k 1 x ≡ true
  pub page : Paged x.page

module _ (k : Conf) where
  slots_in : (ss : List Message) → each_row (slot_row k) 1 ss ≡ true → All (λ (x : Message). Paged x.page) ss → All (Stands k) ss
  unfolding slot_row
  slots_in ss e ps = both (each_in (slot_row k 1) 1 ss e) ps
    where
      both : {ss : List Message} → All (λ x. slot_row k 1 x ≡ true) ss → All (λ (x : Message). Paged x.page) ss → All (Stands k) ss
      both none none = none
      both (cons r rs) (cons p ps) = cons (record { row = r; page = p }) (both rs ps)

  slots_out : {ss : List Message} → All (Stands k) ss → each_row (slot_row k) 1 ss ≡ true
  unfolding slot_row
  slots_out hs = each_out (slot_row k 1) 1 (all_map (λ x h. h.row) hs)

  stands_none : Stands k no_message
  unfolding slot_row message_words no_message no_page zeros
  stands_none = record { row = refl; page = refl }

length_freed : (emptied : List ℕ) (ss : List Message) → length (freed emptied ss) ≡ length ss
length_freed [] ss = refl
length_freed (s ∷ emptied) ss = length_with_row (freed emptied ss) s no_message ∙ length_freed emptied ss

slots_sound : {M : Machine} {ss : List Message} → Sound M → length ss ≡ 128 → All (Stands M.conf) ss → Sound (with_slots M ss)
unfolding good_machine
slots_sound {M} {ss} z e hs =
    record {
      good = rw (slots_out M.conf hs) (rw (slots_pass M z.good) at z.good);
      whole = whole_slots z.whole ss e (all_map (λ x h. h.page) hs);
    }

-- ---- what is sent

-- each message that is sent is good
pub record Sends (k : Conf) (y : Post) : Type 0 where
  pub good : (p : ℕ) → p ∈ y.to → good_message k (to_receiver y.message p) ≡ true
  pub page : Paged y.message.page

-- a good message has a kind
pub some_kind : (k : Conf) (x : Message) → good_message k x ≡ true → is_empty x ≡ false
unfolding sender_of
some_kind k x g =
    ne_eqb x.kind 0
    (λ e. let f = message_facts k x g in
    let l : x.sender ≤ 0 = subst (λ (n : ℕ). x.sender ≤ many_named k (sender_of n)) e f.sender in
    omega (arith, f.some_sender))

stands_good : (k : Conf) (x : Message) → good_message k x ≡ true → Paged x.page → Stands k x
unfolding slot_row
stands_good k x g p = record { row = rw (some_kind k x g) g; page = p }

stands_sent : {k : Conf} {y : Post} → Sends k y → All (Stands k) (messages_of y)
stands_sent {k} {y} s = all_sent (Stands k) y (λ p m. stands_good k (to_receiver y.message p) (s.good p m) s.page)

-- ---- what is changed

-- a row that may stand there; a new machine is another matter
abbrev pub Fits : Conf → Change → Type 0
Fits k nothing = Unit {0}
Fits k (client c w) = (client_row k c w ≡ true) × Paged w.page
Fits k (directory d w) = directory_row k d w ≡ true
Fits k (replica r w) = (replica_row k r w ≡ true) × Stocked w
Fits k (anew _ page) = ⊥

changed_sound : {M : Machine} (x : Change) → Sound M → Fits M.conf x → Sound (changed x M)
changed_sound nothing z f = z
changed_sound {M} (client c w) z f = record { good = good_client_lem M z.good c w f.0; whole = whole_client z.whole c w f.1 }
changed_sound {M} (directory d w) z f = record { good = good_directory_lem M z.good d w f; whole = whole_directory z.whole d w }
changed_sound {M} (replica r w) z f = record { good = good_replica_lem M z.good r w f.0; whole = whole_replica z.whole r w f.1 }
changed_sound (anew k page) z f = absurd f

changed_keeps : (x : Change) (M : Machine) → Fits M.conf x → ((changed x M).conf ≡ M.conf) × ((changed x M).slots ≡ M.slots)
changed_keeps nothing M f = (refl, refl)
changed_keeps (client c w) M f = (refl, refl)
changed_keeps (directory d w) M f = (refl, refl)
changed_keeps (replica r w) M f = (refl, refl)
changed_keeps (anew k page) M f = absurd f

-- ---- an effect

pub record Keeps (k : Conf) (e : Effect) : Type 0 where
  pub change : Fits k e.change
  pub post : Sends k e.post

pub applied_sound : {M : Machine} {e : Effect} → Sound M → Keeps M.conf e → Sound (applied e M)
applied_sound {M} {e} z f =
    let q = changed_keeps e.change M f.change in
    slots_sound (changed_sound e.change z f.change)
    (length_placed (messages_of e.post) (freed e.emptied (changed e.change M).slots) ∙ length_freed e.emptied (changed e.change M).slots ∙ ap length q.1 ∙ z.whole.slots)
    (rw (q.0, q.1)
    (all_placed (Stands M.conf) (stands_sent f.post) (all_freed (Stands M.conf) e.emptied (stands_none M.conf) (slots_in M.conf M.slots (slots_pass M z.good) z.whole.slot_pages))))
