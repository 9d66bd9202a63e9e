-- A delivery that is accepted: what it leads to, which messages wait afterwards, and how many slots are empty.
use mathlib.Core.Path.{◌≡◌, sym, ap, subst, ◌∙◌}
use mathlib.Core.Bool.{false, not}
use mathlib.Core.List.Memᴰ
use mathlib.Core.List.{List}
use Prim.Native.Nat.{ℕ, suc, ◌+◌, ◌≤◌}
use native.Mathlib.Omega.{arith}
use borrow.Author.Tests.{le-leb, le-ltb}
use lib.Dec.{T}
use lib.ListN.{length, set}
use Rattle.sets.specs.Inner.{◌∈◌}
use Rattle.sets.proofs.Members.{in_members}
use Rattle.tables.specs.declared.Message.{Message}
use Rattle.tables.specs.Tables.{Page, Machine, no_page, no_message, is_empty, slot_at}
use Rattle.mail.specs.declared.Post.{Post}
use Rattle.mail.specs.Posts.{to_receiver, messages_of}
use Rattle.mail.specs.Slots.{placed, empty_slots}
use Rattle.mail.proofs.Messages.{count_freed}
use Rattle.rules.specs.declared.Answer.{Answer}
use Rattle.machine.specs.Effects.{Change, changed, applied}
use Rattle.machine.specs.Calls.{deliver}
use Rattle.machine.specs.Deliver.{taken, deliver_effect}
use Rattle.machine.specs.Refusals.{is_overfull}
use Rattle.machine.specs.Steps.{Result, effect_of, step, code_of}
use Rattle.machine.specs.Buffers.{wrong_page}
use Rattle.runs.proofs.Ways.{allows}
use Rattle.history.proofs.Walk.{Good}
use Rattle.history.proofs.Reached.{step_good}
use Rattle.fewest.proofs.Waiting.{Somewhere, at, found, placed_count, placed_keeps, freed_keeps, placed_has}

-- n deliveries, of which the last answers with the code for client c
pub data Ends (code c : ℕ) : ℕ → Machine → Type 0 where
  last : {M : Machine} (s : ℕ) → (step (deliver s no_page) M).answer.code ≡ code → (step (deliver s no_page) M).answer.client ≡ c → Ends code c 1 M
  more : {M : Machine} {n : ℕ} (s : ℕ) → Ends code c n (step (deliver s no_page) M).machine → Ends code c (suc n) M

-- a delivery has a page to fill
pub paged : (s : ℕ) → T (not (wrong_page (deliver s no_page)))
unfolding no_page
paged s = tt

-- what is posted waits, where there is room for all of it
pub posted : {P : Message → Type 0} (y : Post) (ss : List Message) → length (messages_of y) ≤ empty_slots ss → is_empty y.message ≡ false
    → (r : ℕ) → 1 ≤ r → r ≤ 16 → r ∈ y.to → P (to_receiver y.message r) → Somewhere P (placed (messages_of y) ss)
unfolding messages_of
posted y ss h f r l g m p = placed_has (to_receiver y.message r) f p (messages_of y) ss h (Memᴰ.map (to_receiver y.message) (in_members 16 y.to r l g m))

-- the message s is delivered, with this effect
pub record Taken (M : Machine) {P : Message → Type 0} (s : Somewhere P M.slots) (ch : Change) (y : Post) (a : Answer) (pg : Page) : Type 0 where
  pub good : Good M
  pub does : deliver_effect M (suc (at s)) no_page ≡ taken (suc (at s)) ch y a pg
  pub mail : (changed ch M).slots ≡ M.slots
  pub free : is_overfull M (slot_at M (suc (at s))) ≡ false
  pub room : length (messages_of y) ≤ empty_slots M.slots + 1

module _ {M : Machine} {P : Message → Type 0} {s : Somewhere P M.slots} {ch : Change} {y : Post} {a : Answer} {pg : Page} (t : Taken M s ch y a pg) where
  abbrev after : Machine
  after = applied (taken (suc (at s)) ch y a pg) M

  freed_more : empty_slots (set M.slots (at s) no_message) ≡ empty_slots M.slots + 1
  freed_more = count_freed M.slots (at s) (found s).inside (found s).full

  accepts : code_of (deliver (suc (at s)) no_page) M ≡ 0
  unfolding effect_of
  accepts =
      allows (deliver (suc (at s)) no_page) M (record {
        argument = rw (le-leb 1 (suc (at s)) (omega arith), le-leb (suc (at s)) 128 (omega (arith, (found s).inside, t.good.sound.whole.slots))) tt;
        up = tt;
        idle = tt;
        unworn = tt;
        filled = rw (found s).full tt;
        free = rw t.free tt;
        slots = rw (t.does, le-ltb (empty_slots (set M.slots (at s) no_message)) (length (messages_of y)) (omega (arith, freed_more, t.room))) tt;
      })

  delivered : step (deliver (suc (at s)) no_page) M ≡ record { answer = a; page = pg; machine = after }
  unfolding step effect_of
  delivered = rw (accepts, t.does)

  pub good_after : Good after
  good_after = subst Good (ap (λ (r : Result). r.machine) delivered) (step_good (deliver (suc (at s)) no_page) M t.good (paged (suc (at s))))

  pub room_after : (E F : ℕ) → E ≤ empty_slots M.slots → F + length (messages_of y) ≤ E + 1 → F ≤ empty_slots after.slots
  room_after E F h k = rw t.mail (omega (arith, placed_count (messages_of y) (set M.slots (at s) no_message), freed_more))

  -- another message waits on, and one that is sent waits
  pub waits_on : {Q : Message → Type 0} → (Q (slot_at M (suc (at s))) → ⊥) → Somewhere Q M.slots → Somewhere Q after.slots
  waits_on n w = rw t.mail (placed_keeps (messages_of y) (freed_keeps (at s) n w))

  pub sends : {Q : Message → Type 0} → is_empty y.message ≡ false → (r : ℕ) → 1 ≤ r → r ≤ 16 → r ∈ y.to → Q (to_receiver y.message r) → Somewhere Q after.slots
  sends f = rw t.mail (posted y (set M.slots (at s) no_message) (omega (arith, freed_more, t.room)) f)

  -- it is one of the deliveries
  pub ends_more : {code c n : ℕ} → Ends code c n after → Ends code c (suc n) M
  ends_more {code} {c} {n} e = more (suc (at s)) (subst (Ends code c n) (sym (ap (λ (r : Result). r.machine) delivered)) e)

  pub ends_last : {code c : ℕ} → a.code ≡ code → a.client ≡ c → Ends code c 1 M
  ends_last p q = last (suc (at s)) (ap (λ (r : Result). r.answer.code) delivered ∙ p) (ap (λ (r : Result). r.answer.client) delivered ∙ q)
