-- A step that sends nothing: it has room, and changes one row at most.
use mathlib.Core.Path.{◌≡◌}
use mathlib.Core.Bool.{false}
use native.Mathlib.Omega.{arith}
use borrow.Author.Tests.{le-ltb}
use Rattle.tables.specs.Tables.{Machine}
use Rattle.mail.specs.Posts.{no_post}
use Rattle.mail.specs.Slots.{empty_slots}
use Rattle.mail.proofs.Messages.{no_messages}
use Rattle.machine.specs.Effects.{Change, nothing, client, directory, replica, anew, changed, applied}
use Rattle.machine.specs.Calls.{done}
use Rattle.machine.specs.Refusals.{no_slot}

pub quiet_fits : (M : Machine) (change : Change) → no_slot M (done change no_post) ≡ false
quiet_fits M change = rw no_messages (le-ltb (empty_slots M.slots) 0 (omega arith))

pub quiet_applied : (M : Machine) (change : Change) → applied (done change no_post) M ≡ changed change M
quiet_applied M nothing = rw no_messages
quiet_applied M (client c w) = rw no_messages
quiet_applied M (directory d w) = rw no_messages
quiet_applied M (replica r w) = rw no_messages
quiet_applied M (anew k page) = rw no_messages
