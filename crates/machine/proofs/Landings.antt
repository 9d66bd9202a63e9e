-- A delivery by its effect: dropped, refused with 23 or 24, or taken.
use Rattle.std.specs.Prelude.{Some, if◌then◌else◌}
use mathlib.Core.Path.{◌≡◌, refl, sym, ap, ◌∙◌}
use mathlib.Core.Bool.{Bool, true, false, not, and-false}
use mathlib.Core.List.{List, [], ◌∷◌}
use Prim.Native.Nat.{ℕ, suc, ◌+◌, ◌-◌, ◌^◌, ◌<◌}
use native.Mathlib.Omega.{arith}
use borrow.Author.Tests.{ne_eqb, le-leb}
use lib.ListN.{length, set, drop}
use Rattle.sets.specs.Sets.{size}
use Rattle.sets.proofs.Laws.{size_none}
use Rattle.tables.specs.declared.Layout.{Layout}
use Rattle.tables.specs.declared.Client.{Client}
use Rattle.tables.specs.declared.Directory.{Directory}
use Rattle.tables.specs.declared.Message.{Message}
use Rattle.tables.specs.declared.Party.{Party}
use Rattle.tables.specs.declared.Party.TheVariants.{AReplica}
use Rattle.tables.specs.Inner.{Fits}
use Rattle.tables.specs.Layouts.{extent}
use Rattle.tables.specs.Kinds.{receiver_of}
use Rattle.tables.specs.Tables.{Page, Replica, Machine, no_message, is_empty, replica_at, slot_at, with_client, with_directory, with_replica, with_slots, with_slot}
use Rattle.tables.specs.Words.{words}
use Rattle.tables.specs.Machines.{machine_of}
use Rattle.tables.proofs.All.{length_with_row}
use Rattle.tables.proofs.Read.{its_room, its_slots}
use Rattle.tables.proofs.Whole.{whole_of, whole_client, whole_directory, whole_replica}
use Rattle.tables.proofs.Holds.{Holds, holds_machine, holds_rest}
use Rattle.mail.specs.declared.Post.{Post}
use Rattle.mail.specs.Posts.{no_post, messages_of}
use Rattle.mail.specs.Slots.{placed, empty_slots}
use Rattle.mail.proofs.Messages.{count_freed, length_messages, no_messages}
use Rattle.inspect.specs.Good.{between}
use Rattle.rules.specs.declared.Answer.{Answer}
use Rattle.rules.specs.Answers.{coded}
use Rattle.rules.specs.Replica.{is_full, replica_after}
use Rattle.rules.proofs.Every.{stock_after}
use Rattle.machine.specs.Effects.{Change, nothing, client, directory, replica, changed}
use Rattle.machine.specs.Calls.{deliver, is_down}
use Rattle.machine.specs.Deliver.{taken, received, deliver_effect}
use Rattle.machine.specs.Refusals.{is_overfull, no_slot, first_of, refusal}
use Rattle.machine.specs.Steps.{effect_of, step}
use Rattle.machine.specs.declared.refusal.Refusal.{Refusal}
use Rattle.machine.specs.Told.{number_of}
use Rattle.machine.specs.Inner.{Took, Arrived, has_room, room_code, Committed, stocked}
use Rattle.machine.proofs.Rooms.{too_few, roomy, crowded}
use Rattle.machine.proofs.Stored.{as_replica, stock_in}
use Rattle.machine.proofs.Steps.{took_refused, took_accepted}

-- the table of codes for a delivery, by its tests of 18, 22, 23 and 24
abbrev pub tested : (a b c d : Bool) → ℕ
tested a b c d = first_of ((18, a) ∷ (19, false) ∷ (20, false) ∷ (21, false) ∷ (22, b) ∷ (23, c) ∷ (24, d) ∷ [])

module _ (a b c d : Bool) where
  pub tested_18 : a ≡ true → tested a b c d ≡ 18
  tested_18 p = rw p

  pub tested_22 : a ≡ false → b ≡ true → tested a b c d ≡ 22
  tested_22 p q = rw (p, q)

  tested_23 : a ≡ false → b ≡ false → c ≡ true → tested a b c d ≡ 23
  tested_23 p q r = rw (p, q, r)

  tested_24 : a ≡ false → b ≡ false → c ≡ false → tested a b c d ≡ (if d then 24 else 0)
  tested_24 p q r = rw (p, q, r)

-- only 10 and 15 find a replica full
never_full : (M : Machine) (x : Message) → (receiver_of x.kind ≡ Some AReplica → ⊥) → is_overfull M x ≡ false
unfolding is_full receiver_of
never_full M x n =
    simp (ne_eqb x.kind 10 (λ q. n (ap receiver_of q)), ne_eqb x.kind 15 (λ q. n (ap receiver_of q)), and-false)

-- no messages always have room
pub room_none : (M : Machine) → has_room M no_post ≡ true
room_none M = le-leb (size 0) (empty_slots M.slots + 1) (rw size_none (omega arith))

module _ {lay : Layout} {who : Party} {m : List ℕ} {s : ℕ} {x : Message} (g : Arrived lay who m s x) where
  -- ---- the tests
  in_range : not (between 1 128 (suc s)) ≡ false
  in_range = rw (le-leb 1 (suc s) (omega arith), le-leb (suc s) 128 (omega (arith, g.slot)))

  not_empty : is_empty (slot_at (machine_of lay m) (suc s)) ≡ false
  not_empty = ne_eqb _ 0 (λ q. g.some (ap (λ (y : Message). y.kind) g.here ∙ q))

  pub not_full : (Some who ≡ Some AReplica → ⊥) → is_overfull (machine_of lay m) (slot_at (machine_of lay m) (suc s)) ≡ false
  not_full n =
      never_full (machine_of lay m) (slot_at (machine_of lay m) (suc s)) (λ q. n (sym g.whose ∙ ap (λ (y : Message). receiver_of y.kind) g.here ∙ q))

  -- one slot more is empty once the message is taken out
  one_freed : empty_slots (set (machine_of lay m).slots s no_message) ≡ empty_slots (machine_of lay m).slots + 1
  one_freed = count_freed (machine_of lay m).slots s (rw (its_slots lay m) g.slot) not_empty

  -- the party of the receiver's number
  pub own : suc (x.receiver - 1) ≡ x.receiver
  own = omega (arith, g.low)

  -- ---- the effect
  effect_down : (page : Page) → is_down (machine_of lay m) who x.receiver ≡ true
      → deliver_effect (machine_of lay m) (suc s) page ≡ taken (suc s) nothing no_post (coded 4) page
  unfolding deliver_effect
  effect_down page d = rw (← g.here, g.whose, d)

  pub effect_up : (page : Page) → is_down (machine_of lay m) who x.receiver ≡ false
      → deliver_effect (machine_of lay m) (suc s) page ≡ received (Some who) (machine_of lay m) (suc s) x page
  unfolding deliver_effect
  effect_up page d = rw (← g.here, g.whose, d)

  -- ---- the step, where the message is not one for a full replica
  module _ (page : Page) (o : is_overfull (machine_of lay m) (slot_at (machine_of lay m) (suc s)) ≡ false)
      (ch : Change) (y : Post) (a₀ : Answer) (p₀ : Page) (e : deliver_effect (machine_of lay m) (suc s) page ≡ taken (suc s) ch y a₀ p₀) (few : y.to < 2 ^ 16) where
    -- the code, by the test of 24
    coded_by : refusal (deliver (suc s) page) (machine_of lay m) (effect_of (deliver (suc s) page) (machine_of lay m)) ≡ (if not (has_room (machine_of lay m) y) then 24 else 0)
    unfolding effect_of refusal
    coded_by =
        let full : no_slot (machine_of lay m) (taken (suc s) ch y a₀ p₀) ≡ not (has_room (machine_of lay m) y) =
        rw (one_freed, length_messages y few) (too_few (empty_slots (machine_of lay m).slots + 1) (size y.to)) in
        rw (e, ← full)
        (tested_24 (not (between 1 128 (suc s))) (is_empty (slot_at (machine_of lay m) (suc s))) (is_overfull (machine_of lay m) (slot_at (machine_of lay m) (suc s)))
        (no_slot (machine_of lay m) (taken (suc s) ch y a₀ p₀)) in_range not_empty o)

    pub lands : (a : Answer) (p l : List ℕ) → Committed lay m s ch y a₀ a l → p ≡ (if has_room (machine_of lay m) y then p₀ else page)
        → Took lay (step (deliver (suc s) page) (machine_of lay m)) a p m l
    unfolding effect_of
    lands a p l w q = go (has_room (machine_of lay m) y) coded_by w.answer w.buffer q
      where
        go : (b : Bool) → refusal (deliver (suc s) page) (machine_of lay m) (effect_of (deliver (suc s) page) (machine_of lay m)) ≡ (if not b then 24 else 0) → a ≡ (if b then a₀ else coded 24)
            → l ≡ (if b then words (with_slots (changed ch (machine_of lay m)) (placed (messages_of y) (set (changed ch (machine_of lay m)).slots s no_message))) (drop (extent lay) m) else m)
            → p ≡ (if b then p₀ else page) → Took lay (step (deliver (suc s) page) (machine_of lay m)) a p m l
        go true r h k q = took_accepted lay (deliver (suc s) page) m l p a r (rw e h) (rw e q) (rw e k)
        go false r h k q = rw (q, k) (took_refused lay (deliver (suc s) page) m 24 a g.long (λ z. omega arith) r h)

  -- a full replica
  pub overfull : (page : Page) → is_overfull (machine_of lay m) (slot_at (machine_of lay m) (suc s)) ≡ true → (a : Answer) → a ≡ coded 23
      → Took lay (step (deliver (suc s) page) (machine_of lay m)) a page m m
  unfolding refusal
  overfull page o a h =
      took_refused lay (deliver (suc s) page) m 23 a g.long (λ z. omega arith)
      (tested_23 (not (between 1 128 (suc s))) (is_empty (slot_at (machine_of lay m) (suc s))) (is_overfull (machine_of lay m) (slot_at (machine_of lay m) (suc s)))
      (no_slot (machine_of lay m) (effect_of (deliver (suc s) page) (machine_of lay m))) in_range not_empty o)
      h

  -- a receiver that is down
  pub drops : (page : Page) → is_down (machine_of lay m) who x.receiver ≡ true → is_overfull (machine_of lay m) (slot_at (machine_of lay m) (suc s)) ≡ false
      → (a : Answer) (l : List ℕ) → a ≡ coded 4 → l ≡ words (with_slot (machine_of lay m) (suc s) no_message) (drop (extent lay) m)
      → Took lay (step (deliver (suc s) page) (machine_of lay m)) a page m l
  drops page d o a l h k =
      let room : has_room (machine_of lay m) no_post ≡ true = room_none (machine_of lay m) in
      lands page o nothing no_post (coded 4) page (effect_down page d) (omega arith) a page l
      (record { answer = rw room h; buffer = rw (room, no_messages) k }) (rw room)

-- ---- the commit
module _ (lay : Layout) (m : List ℕ) (s : ℕ) (y : Post) where
  pub commits_not : (ch : Change) (a₀ : Answer) (r : Refusal) → number_of r ≡ room_code (machine_of lay m) 1 y.to → Committed lay m s ch y a₀ (coded (number_of r)) m
  commits_not ch a₀ r e = let f = crowded (machine_of lay m) 1 y.to r e in record { answer = rw (f.0, f.1); buffer = rw f.0 }

  -- n is the buffer with the row written
  module _ (u : 0 ≡ room_code (machine_of lay m) 1 y.to) (h : Fits lay m) (n l : List ℕ)
      (e : l ≡ words (with_slots (machine_of lay n) (placed (messages_of y) (set (machine_of lay n).slots s no_message))) (drop (extent lay) n)) where
    commits : (ch : Change) (a₀ a : Answer) → Holds lay n (changed ch (machine_of lay m)) (drop (extent lay) m) → (changed ch (machine_of lay m)).slots ≡ (machine_of lay m).slots → a ≡ a₀
        → Committed lay m s ch y a₀ a l
    commits ch a₀ a k v z =
        let t = roomy (machine_of lay m) 1 y.to u in
        record { answer = rw t z; buffer = rw t (e ∙ rw (holds_machine k, holds_rest k, v)) }

    pub commits_directory : (i : ℕ) (d : Directory) (a₀ a : Answer) → n ≡ words (with_directory (machine_of lay m) (suc i) d) (drop (extent lay) m) → a ≡ a₀
        → Committed lay m s (directory (suc i) d) y a₀ a l
    commits_directory i d a₀ a w z =
        commits (directory (suc i) d) a₀ a (record { is = w; whole = whole_directory (whole_of lay m h.long) (suc i) d; room = length_with_row (machine_of lay m).directories (suc i) d ∙ its_room lay m }) refl z

    pub commits_client : (i : ℕ) (c : Client) (a₀ a : Answer) → length c.page ≡ 16 → n ≡ words (with_client (machine_of lay m) (suc i) c) (drop (extent lay) m) → a ≡ a₀
        → Committed lay m s (client (suc i) c) y a₀ a l
    commits_client i c a₀ a p w z =
        commits (client (suc i) c) a₀ a (record { is = w; whole = whole_client (whole_of lay m h.long) (suc i) c p; room = its_room lay m }) refl z

    pub commits_replica : (i : ℕ) (x : Message) (a₀ a : Answer) → i < 7 → length x.page ≡ 16
        → n ≡ words (with_replica (machine_of lay m) (suc i) (stocked (machine_of lay m) (suc i) (replica_after (replica_at (machine_of lay m) (suc i)).entries x))) (drop (extent lay) m) → a ≡ a₀
        → Committed lay m s (replica (suc i) (stocked (machine_of lay m) (suc i) (replica_after (replica_at (machine_of lay m) (suc i)).entries x))) y a₀ a l
    commits_replica i x a₀ a b p w z =
        let r : Replica = stocked (machine_of lay m) (suc i) (replica_after (replica_at (machine_of lay m) (suc i)).entries x) in
        commits (replica (suc i) r) a₀ a (record { is = w; whole = whole_replica (whole_of lay m h.long) (suc i) r (as_replica _ (stock_after x p (stock_in lay m i h))); room = its_room lay m }) refl z

pub page_kept : (b : Bool) (page : Page) → page ≡ (if b then page else page)
page_kept true page = refl
page_kept false page = refl
