-- The clients and the slots after an effect: what holds of each.
use Rattle.std.specs.Prelude.{Some}
use mathlib.Core.Path.{subst}
use Prim.Native.Nat.{ℕ}
use Rattle.sets.specs.Inner.{◌∈◌}
use Rattle.tables.specs.declared.Client.{Client}
use Rattle.tables.specs.declared.Message.{Message}
use Rattle.tables.specs.declared.Party.{Party}
use Rattle.tables.specs.declared.Party.TheVariants.{AClient, ADirectory, AReplica}
use Rattle.tables.specs.Tables.{Machine, no_client, no_message, client_at}
use Rattle.tables.proofs.All.{All, all_replicate}
use Rattle.mail.specs.declared.Post.{Post}
use Rattle.mail.specs.Posts.{to_receiver}
use Rattle.mail.proofs.Messages.{all_sent, all_placed, all_freed}
use Rattle.machine.specs.SetUp.{new_machine}
use Rattle.machine.specs.Effects.{Change, nothing, client, directory, replica, anew, Effect, changed, applied}
use Rattle.machine.specs.Calls.{down_client, downed}
use Rattle.runs.proofs.Rows.{row_ind}

-- Q holds of the row of a client that changes
abbrev pub OfClient : (ℕ → Client → Type 0) → Change → Type 0
OfClient Q nothing = Unit
OfClient Q (client c w) = Q c w
OfClient Q (directory d w) = Unit
OfClient Q (replica r w) = Unit
OfClient Q (anew k page) = ⊥

pub of_map : {Q R : ℕ → Client → Type 0} → ((c : ℕ) (w : Client) → Q c w → R c w) → (y : Change) → OfClient Q y → OfClient R y
of_map f nothing h = tt
of_map f (client c w) h = f c w h
of_map f (directory d w) h = tt
of_map f (replica r w) h = tt
of_map f (anew k page) h = absurd h

-- a crash changes the row of a client only so
pub of_downed : (Q : ℕ → Client → Type 0) (M : Machine) (who : Party) (p : ℕ) → Q p (down_client (client_at M p)) → OfClient Q (downed M (Some who) p)
of_downed Q M AClient p h = h
of_downed Q M ADirectory p h = tt
of_downed Q M AReplica p h = tt

pub each_client : (Q : ℕ → Client → Type 0) (M : Machine) (y : Change) → OfClient Q y → ((c : ℕ) → Q c (client_at M c)) → (c : ℕ) → Q c (client_at (changed y M) c)
each_client Q M nothing h g c = g c
each_client Q M (client a w) h g c = row_ind (Q c) no_client M.clients a c w (λ e. subst (λ (d : ℕ). Q d w) e h) (g c)
each_client Q M (directory a w) h g c = g c
each_client Q M (replica a w) h g c = g c
each_client Q M (anew k page) h g c = absurd h

-- P holds of each message of the post
abbrev pub Sent : (Message → Type 0) → Post → Type 0
Sent P y = (p : ℕ) → p ∈ y.to → P (to_receiver y.message p)

module _ (P : Message → Type 0) where
  pub all_slots : (M : Machine) (e : Effect) → P no_message → Sent P e.post → All P M.slots → All P (applied e M).slots
  unfolding new_machine
  all_slots M e q h hs = all_placed P (all_sent P e.post h) (all_freed P e.emptied q (kept e.change))
    where
      kept : (y : Change) → All P (changed y M).slots
      kept nothing = hs
      kept (client c w) = hs
      kept (directory d w) = hs
      kept (replica r w) = hs
      kept (anew k page) = all_replicate 128 no_message q
