-- A message that a step sends is good: what each field must be, and what a delivered message gives for it.
use Rattle.std.specs.Prelude.{Option, if◌then◌else◌}
use mathlib.Core.Bool.{Bool, true, false, ◌&&◌, ◌||◌}
use mathlib.Core.Path.{◌≡◌, refl, subst, ◌∙◌}
use Prim.Native.Nat.{ℕ, ◌^◌, ◌≤◌, ◌<◌}
use borrow.Author.Tests.{le-leb}
use lib.Dec.{leb, eqb, eqb→eq}
use Rattle.sets.specs.declared.Tag.{Tag}
use Rattle.sets.specs.Sets.{only, all}
use Rattle.sets.proofs.Laws.{none_in, only_in, all_lt, in_range}
use Rattle.sets.proofs.Tests.{true-T, T_true, and_elim, if_ind}
use Rattle.tables.specs.declared.Conf.{Conf}
use Rattle.tables.specs.declared.Message.{Message}
use Rattle.tables.specs.declared.Party.{Party}
use Rattle.tables.specs.Kinds.{sender_of, receiver_of, many_named, carries_tag, carries_page, carries_number}
use Rattle.tables.proofs.Whole.{Paged, blank_message}
use Rattle.inspect.specs.Good.{between, zeros, field, good_tag, zero_tag, good_set_word, is_named_party, good_message}
use Rattle.inspect.proofs.Tests.{named_between}
use Rattle.inspect.proofs.Facts.{TagFacts, MessageFacts}
use Rattle.inspect.proofs.Made.{tag_made}
use Rattle.mail.specs.declared.Post.{Post}
use Rattle.mail.specs.Posts.{post, no_post, to_receiver}
use Rattle.runs.proofs.Sound.{Sends}

pub is_between : (low high n : ℕ) → low ≤ n → n ≤ high → between low high n ≡ true
is_between low high n l h = rw (le-leb low n l, le-leb n high h)

-- a party of the kind that a number names
is_named : (k : Conf) (who : Option Party) (p : ℕ) → 1 ≤ p → p ≤ many_named k who → is_named_party k who p ≡ true
is_named k who p l h = named_between k who p ∙ is_between 1 (many_named k who) p l h

-- a field in use
pub in_use : (b : Bool) → b ≡ true → b || false ≡ true
in_use b e = rw e

pub good_tag_lem : (k : Conf) (t : Tag) → TagFacts k t → good_tag k t || false ≡ true
good_tag_lem k t f = in_use (good_tag k t) (tag_made k t f)

-- ---- a delivered message, by its kind; one that carries no number may be answered with none

pub record Comes (k : Conf) (kind : ℕ) (x : Message) : Type 0 where
  pub sender : is_named_party k (sender_of kind) x.sender ≡ true
  pub receiver : is_named_party k (receiver_of kind) x.receiver ≡ true
  pub number : field (carries_number kind) (between 1 k.top x.number) true ≡ true

pub comes : (k : Conf) (kind : ℕ) (x : Message) → MessageFacts k x → x.kind ≡ kind → Comes k kind x
comes k kind x f e =
    subst (λ (n : ℕ). Comes k n x) e
    (record {
      sender = is_named k (sender_of x.kind) x.sender f.some_sender f.sender;
      receiver = is_named k (receiver_of x.kind) x.receiver f.some_receiver f.receiver;
      number = numbered (carries_number x.kind) (λ c. is_between 1 k.top x.number (f.numbered c) f.number);
    })
  where
    numbered : (b : Bool) → (b ≡ true → between 1 k.top x.number ≡ true) → field b (between 1 k.top x.number) true ≡ true
    numbered true h = rw (h refl)
    numbered false h = refl

-- ---- a sent message

-- what a message has whoever receives it; `rest` is its kind, spare word and page
pub record Carries (k : Conf) (x : Message) : Type 0 where
  pub rest : leb x.kind 15 && eqb x.spare 0 && (carries_page x.kind || zeros x.page) ≡ true
  pub sender : is_named_party k (sender_of x.kind) x.sender ≡ true
  pub tag : field (carries_tag x.kind) (good_tag k x.tag) (zero_tag x.tag) ≡ true
  pub set : good_set_word k x.kind x.set ≡ true
  pub number : field (carries_number x.kind) (between 1 k.top x.number) (eqb x.number 0) ≡ true
  pub page : Paged x.page

module _ (k : Conf) where
  module _ {x : Message} (c : Carries k x) where
    sent_good : (p : ℕ) → is_named_party k (receiver_of x.kind) p ≡ true → good_message k (to_receiver x p) ≡ true
    unfolding good_message
    sent_good p h =
        let a = and_elim (leb x.kind 15 && eqb x.spare 0) (carries_page x.kind || zeros x.page) (true-T _ c.rest) in
        let b = and_elim (leb x.kind 15) (eqb x.spare 0) a.0 in
        rw (T_true (leb x.kind 15) b.0, c.sender, h, c.tag, c.set, c.number, T_true (eqb x.spare 0) b.1, T_true (carries_page x.kind || zeros x.page) a.1)

    -- to each of a set of receivers, to all of them, and to one
    pub sends_set : (to : ℕ) → to < 2 ^ many_named k (receiver_of x.kind) → Sends k (post x to)
    sends_set to h =
        record {
          good = λ p m. let r = in_range (many_named k (receiver_of x.kind)) to p h m in
              sent_good p (is_named k (receiver_of x.kind) p r.0 r.1);
          page = c.page;
        }

    pub sends_all : Sends k (post x (all (many_named k (receiver_of x.kind))))
    sends_all = sends_set (all (many_named k (receiver_of x.kind))) (all_lt (many_named k (receiver_of x.kind)))

    pub sends_one : (q : ℕ) → is_named_party k (receiver_of x.kind) q ≡ true → Sends k (post x (only q))
    sends_one q h = record { good = λ p m. sent_good p (rw (only_in p q m) h); page = c.page }

  pub sends_none : Sends k no_post
  sends_none = record { good = λ p m. absurd (none_in p m); page = blank_message }

-- a choice by the kind of a delivered message
pub sends_by : (k : Conf) (x : Message) → MessageFacts k x → (kind : ℕ) {y z : Post} → (Comes k kind x → Sends k y) → Sends k z
    → Sends k (if eqb x.kind kind then y else z)
sends_by k x f kind h r = if_ind (Sends k) (eqb x.kind kind) (λ e. h (comes k kind x f (eqb→eq x.kind kind e))) (λ _. r)
