-- Messages enter the slots one by one: one message, and the loop over a set.
use Rattle.std.specs.Prelude.{Some, None, position}
use mathlib.Core.Bool.{true, false}
use mathlib.Core.Path.{◌≡◌, sym, ap, ◌∙◌}
use mathlib.Core.List.{List, [], ◌∷◌, map}
use Prim.Native.Nat.{ℕ, suc, ◌+◌, ◌-◌, ◌^◌, ◌≤◌, ◌<◌}
use native.Mathlib.Numerals.{add-one}
use native.Mathlib.Omega.{arith}
use lib.Count.{count_leading_zeros, leading_length}
use lib.ListN.{length}
use Rattle.sets.specs.Plain.{keep, numbers}
use Rattle.sets.specs.Sets.{has, members}
use Rattle.sets.proofs.Members.{members_wide}
use Rattle.tables.specs.declared.Message.{Message}
use Rattle.tables.specs.Rows.{with_row, put_first}
use Rattle.tables.specs.Tables.{is_empty}
use Rattle.tables.specs.Machines.{slots_of}
use Rattle.tables.proofs.All.{none, cons}
use Rattle.tables.proofs.Lists.{position_lt, put_first_some, put_first_none}
use Rattle.tables.proofs.Read.{slots_many}
use Rattle.tables.proofs.Whole.{Paged}
use Rattle.mail.specs.declared.Post.{Post}
use Rattle.mail.specs.Posts.{to_receiver, messages_of}
use Rattle.mail.specs.Slots.{placed}
use Rattle.mail.specs.Inner.{with_mail}
use Rattle.mail.proofs.Messages.{all_from, Pages, Mail, mail_placed}
use Rattle.mail.proofs.Words.{mail_read, slots_back, mail_long, mail_twice, mail_same}

-- the words with these messages entered
abbrev pub sent : List ℕ → List Message → List ℕ
sent l xs = with_mail l (placed xs (slots_of l))

-- entered in two runs
pub sent_twice : (l : List ℕ) (xs ys : List Message) → 3072 ≤ length l → Pages xs → Pages ys → sent (sent l xs) ys ≡ with_mail l (placed ys (placed xs (slots_of l)))
sent_twice l xs ys h p q =
    let k : Mail (placed xs (slots_of l)) = mail_placed p (mail_read l h) in
    rw (slots_back l (placed xs (slots_of l)) k) (mail_twice l k (mail_placed q k))

-- ---- one message, into the lowest empty slot
module _ (l : List ℕ) (x : Message) where
  pub slot_inside : (s : ℕ) → Some s ≡ position is_empty (slots_of l) → s < 128
  slot_inside s e = rw (slots_many l) at (position_lt is_empty (slots_of l) e)

  pub entered : (s : ℕ) (m : List ℕ) → Some s ≡ position is_empty (slots_of l) → m ≡ with_mail l (with_row (slots_of l) (suc s) x)
      → m ≡ with_mail l (put_first is_empty x (slots_of l))
  entered s m e h = rw (put_first_some is_empty x (slots_of l) e) h

  pub not_entered : 3072 ≤ length l → None ≡ position is_empty (slots_of l) → l ≡ with_mail l (put_first is_empty x (slots_of l))
  not_entered k e = rw (put_first_none is_empty x (slots_of l) e) (sym (mail_same l k))

-- ---- the loop: what is left to send, to each from p to n, ends where the whole does
abbrev pub to_each : Post → (n p : ℕ) → List Message
to_each y n p = map (to_receiver y.message) (keep (has y.to) (numbers p (n + 1 - p)))

pub record Sending (l₀ : List ℕ) (y : Post) (n : ℕ) (l : List ℕ) (p : ℕ) : Type 0 where
  pub long : 3072 ≤ length l
  pub page : Paged y.message.page
  pub comes : sent l (to_each y n p) ≡ sent l₀ (messages_of y)

-- up to the highest receiver
pub sending_start : (l : List ℕ) (y : Post) → 3072 ≤ length l → y.to < 2 ^ 16 → length y.message.page ≡ 16 → Sending l y (32 - count_leading_zeros 32 y.to) l 1
unfolding messages_of
sending_start l y h k q =
    let m = leading_length 32 y.to (omega arith) in
    let n : 32 - count_leading_zeros 32 y.to ≡ m.0 = omega (arith, m.1) in
    let all : members m.0 y.to ≡ members 16 y.to = sym (members_wide m.0 (m.0 + 16) y.to m.2 (omega arith)) ∙ members_wide 16 (m.0 + 16) y.to k (omega arith) in
    let from : m.0 + 1 - 1 ≡ m.0 = omega arith in
    record { long = h; page = q; comes = rw (n, from, all) }

module _ {l₀ : List ℕ} {y : Post} {n : ℕ} {l : List ℕ} {p : ℕ} (g : Sending l₀ y n l p) where
  module _ (some : p ≤ n) where
    turn : n + 1 - p ≡ suc (n + 1 - (p + 1))
    turn = omega arith

    turn_in : has y.to p ≡ true → to_each y n p ≡ to_receiver y.message p ∷ to_each y n (p + 1)
    turn_in o = rw (turn, o, add-one p)

    turn_out : has y.to p ≡ false → to_each y n p ≡ to_each y n (p + 1)
    turn_out o = rw (turn, o, add-one p)

    pub sends : (m : List ℕ) → has y.to p ≡ true → m ≡ with_mail l (put_first is_empty (to_receiver y.message p) (slots_of l)) → Sending l₀ y n m (p + 1)
    sends m o e =
        let one : Pages (to_receiver y.message p ∷ []) = cons g.page none in
        record {
          long = rw (e, mail_long l (put_first is_empty (to_receiver y.message p) (slots_of l)) (mail_placed one (mail_read l g.long)) g.long) g.long;
          page = g.page;
          comes =
              ap (λ (q : List ℕ). sent q (to_each y n (p + 1))) e
              ∙ sent_twice l (to_receiver y.message p ∷ []) (to_each y n (p + 1)) g.long one (all_from (to_receiver y.message) (keep (has y.to) (numbers (p + 1) (n + 1 - (p + 1)))) (λ _ _. g.page))
              ∙ ap (sent l) (sym (turn_in o))
              ∙ g.comes;
        }

    pub passes : has y.to p ≡ false → Sending l₀ y n l (p + 1)
    passes o = record { long = g.long; page = g.page; comes = ap (sent l) (sym (turn_out o)) ∙ g.comes }

  pub sends_end : n < p → l ≡ with_mail l₀ (placed (messages_of y) (slots_of l₀))
  sends_end z =
      let k : n + 1 - p ≡ 0 = omega arith in
      let e : [] ≡ to_each y n p = rw k in
      sym (mail_same l g.long) ∙ ap (sent l) e ∙ g.comes
