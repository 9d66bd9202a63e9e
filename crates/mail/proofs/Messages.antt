-- Messages sent, slots freed, filled and counted: what holds of each.
use Rattle.std.specs.Prelude.{if◌then◌else◌}
use mathlib.Core.Path.{◌≡◌, refl, ◌∙◌}
use mathlib.Core.Bool.{Bool, true, false}
use mathlib.Core.List.{List, [], ◌∷◌, map, Memᴰ}
use Prim.Native.Nat.{ℕ, zero, suc, ◌+◌, ◌^◌, ◌≤◌, ◌<◌}
use native.Mathlib.Nat.{le_of_suc-le-suc, not-suc-le-zero}
use native.Mathlib.Omega.{arith}
use lib.ListN.{length, get_or, set, length-map}
use Rattle.sets.specs.Sets.{size, members}
use Rattle.sets.specs.Inner.{◌∈◌}
use Rattle.sets.proofs.Members.{length_members, members_in}
use Rattle.tables.specs.declared.Message.{Message}
use Rattle.tables.specs.Rows.{with_row, count, put_first}
use Rattle.tables.specs.Tables.{no_message, is_empty}
use Rattle.tables.proofs.All.{All, none, cons, all_with_row, length_with_row}
use Rattle.tables.proofs.Lists.{length_put_first, all_put_first}
use Rattle.tables.proofs.Whole.{Paged, blank_message}
use Rattle.mail.specs.declared.Post.{Post}
use Rattle.mail.specs.Posts.{to_receiver, no_post, messages_of}
use Rattle.mail.specs.Slots.{placed, freed, empty_slots}

-- ---- counts

pub count_le : {A : Type 0} (p : A → Bool) (xs : List A) → count p xs ≤ length xs
count_le p [] = omega arith
count_le p (x ∷ xs) = go (p x) (count_le p xs)
  where
    go : (b : Bool) → count p xs ≤ length xs → (if b then suc (count p xs) else count p xs) ≤ suc (length xs)
    go true h = omega arith
    go false h = omega arith

-- a row that fails the test is replaced by one that passes it
count_more : {A : Type 0} (p : A → Bool) (d x : A) (xs : List A) (i : ℕ) → i < length xs → p (get_or xs i d) ≡ false → p x ≡ true
    → count p (set xs i x) ≡ count p xs + 1
count_more p d x [] i h f t = absurd (not-suc-le-zero h)
count_more p d x (y ∷ xs) zero h f t = rw (f, t) (omega arith)
count_more p d x (y ∷ xs) (suc i) h f t = go (p y) (count_more p d x xs i (le_of_suc-le-suc h) f t)
  where
    go : (b : Bool) → count p (set xs i x) ≡ count p xs + 1
        → (if b then suc (count p (set xs i x)) else count p (set xs i x)) ≡ (if b then suc (count p xs) else count p xs) + 1
    go true e = omega arith
    go false e = e

-- one slot more is empty once a message is taken out
pub count_freed : (ss : List Message) (i : ℕ) → i < length ss → is_empty (get_or ss i no_message) ≡ false → empty_slots (set ss i no_message) ≡ empty_slots ss + 1
unfolding no_message
count_freed ss i h f = count_more is_empty no_message no_message ss i h f refl

-- one message for each in the set
pub length_messages : (y : Post) → y.to < 2 ^ 16 → length (messages_of y) ≡ size y.to
unfolding messages_of
length_messages y h = length-map (members 16 y.to) (to_receiver y.message) ∙ length_members 16 y.to h

pub no_messages : messages_of no_post ≡ []
unfolding messages_of
no_messages = refl

-- ---- what holds of each message

pub all_from : {A B : Type 0} {P : B → Type 0} (f : A → B) (xs : List A) → ((a : A) → Memᴰ a xs → P (f a)) → All P (map f xs)
all_from f [] h = none
all_from f (x ∷ xs) h = cons (h x (Memᴰ.head refl)) (all_from f xs (λ a m. h a (Memᴰ.tail m)))

module _ (P : Message → Type 0) where
  pub all_sent : (y : Post) → ((p : ℕ) → p ∈ y.to → P (to_receiver y.message p)) → All P (messages_of y)
  unfolding messages_of
  all_sent y h = all_from (to_receiver y.message) (members 16 y.to) (λ p m. h p (members_in 16 y.to p m).2)

  pub all_placed : {xs ss : List Message} → All P xs → All P ss → All P (placed xs ss)
  all_placed none hs = hs
  all_placed (cons {x} h rest) hs = all_placed rest (all_put_first is_empty x h hs)

  pub all_freed : {ss : List Message} (emptied : List ℕ) → P no_message → All P ss → All P (freed emptied ss)
  all_freed [] q hs = hs
  all_freed (s ∷ emptied) q hs = all_with_row s no_message q (all_freed emptied q hs)

pub length_placed : (xs ss : List Message) → length (placed xs ss) ≡ length ss
length_placed [] ss = refl
length_placed (x ∷ xs) ss = length_placed xs (put_first is_empty x ss) ∙ length_put_first is_empty x ss

-- ---- 128 messages with pages of 16 words

abbrev pub Pages : List Message → Type 0
Pages xs = All (λ (x : Message). Paged x.page) xs

pub pages_sent : (y : Post) → Paged y.message.page → Pages (messages_of y)
pages_sent y p = all_sent (λ (x : Message). Paged x.page) y (λ _ _. p)

pub record Mail (ss : List Message) : Type 0 where
  pub many : length ss ≡ 128
  pub pages : Pages ss

pub mail_row : {ss : List Message} (s : ℕ) (x : Message) → Paged x.page → Mail ss → Mail (with_row ss s x)
mail_row {ss} s x p k = record { many = length_with_row ss s x ∙ k.many; pages = all_with_row s x p k.pages }

pub mail_freed : {ss : List Message} (s : ℕ) → Mail ss → Mail (with_row ss s no_message)
mail_freed s k = mail_row s no_message blank_message k

pub mail_placed : {xs ss : List Message} → Pages xs → Mail ss → Mail (placed xs ss)
mail_placed {xs} {ss} ps k =
    record { many = length_placed xs ss ∙ k.many; pages = all_placed (λ (x : Message). Paged x.page) ps k.pages }
