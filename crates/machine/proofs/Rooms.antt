-- Whether there is room for what a step sends.
use Rattle.std.specs.Prelude.{if◌then◌else◌}
use mathlib.Core.Path.{◌≡◌, refl}
use mathlib.Core.Bool.{Bool, true, false, not}
use Prim.Native.Nat.{ℕ, ◌+◌, ◌^◌, ◌≤◌, ◌<◌}
use native.Mathlib.Nat.{add-zero}
use native.Mathlib.Decide.{dec_le}
use native.Mathlib.Omega.{arith}
use borrow.Author.Tests.{le-leb, lt-leb, lt-ltb, le-ltb}
use lib.Dec.{leb, ltb}
use Rattle.sets.specs.Sets.{size}
use Rattle.tables.specs.Tables.{Machine}
use Rattle.mail.specs.declared.Post.{Post}
use Rattle.mail.specs.Slots.{empty_slots}
use Rattle.mail.proofs.Messages.{length_messages}
use Rattle.machine.specs.declared.refusal.Refusal.{Refusal}
use Rattle.machine.specs.Effects.{Change}
use Rattle.machine.specs.Calls.{done}
use Rattle.machine.specs.Refusals.{no_slot}
use Rattle.machine.specs.Told.{number_of}
use Rattle.machine.specs.Inner.{room_code}
use Rattle.machine.proofs.Refused.{numbered}

pub too_few : (e n : ℕ) → ltb e n ≡ not (leb n e)
too_few e n = go (dec_le n e)
  where
    go : Dec (n ≤ e) → ltb e n ≡ not (leb n e)
    go (yes h) = rw (le-ltb e n h, le-leb n e h)
    go (no h) = rw (lt-ltb e n (omega arith), lt-leb n e (omega arith))

module _ (M : Machine) (more to : ℕ) where
  abbrev test : Bool
  test = leb (size to) (empty_slots M.slots + more)

  pub roomy : 0 ≡ room_code M more to → test ≡ true
  unfolding room_code
  roomy e = go test e
    where
      go : (b : Bool) → ◌≡◌ {A = ℕ} 0 (if b then 0 else 24) → b ≡ true
      go true e = refl
      go false e = absurd (omega arith)

  pub crowded : (r : Refusal) → number_of r ≡ room_code M more to → (test ≡ false) × (number_of r ≡ 24)
  unfolding room_code
  crowded r e = go test (number_of r) (numbered r) e
    where
      go : (b : Bool) (s : ℕ) → (s ≡ 0 → ⊥) → s ≡ (if b then 0 else 24) → (b ≡ false) × (s ≡ 24)
      go true s z e = absurd (z e)
      go false s z e = (refl, e)

-- a step that empties no slot
module _ (M : Machine) (change : Change) (p : Post) (few : p.to < 2 ^ 16) where
  by_test : no_slot M (done change p) ≡ not (leb (size p.to) (empty_slots M.slots + 0))
  by_test = rw (length_messages p few, add-zero (empty_slots M.slots)) (too_few (empty_slots M.slots) (size p.to))

  pub has_slots : 0 ≡ room_code M 0 p.to → no_slot M (done change p) ≡ false
  has_slots e = rw (by_test, roomy M 0 p.to e)

  pub lacks_slots : (r : Refusal) → number_of r ≡ room_code M 0 p.to → no_slot M (done change p) ≡ true
  lacks_slots r e = rw (by_test, (crowded M 0 p.to r e).0)
