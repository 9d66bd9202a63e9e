use Rattle.std.specs.Prelude.{Option, None}
use mathlib.Core.Path.{◌≡◌}
use Prim.Native.Nat.{ℕ}
use borrow.Author.Tests.{ne_eqb}
use Rattle.tables.specs.declared.Party.{Party}
use Rattle.machine.specs.Calls.{party_of}
use Rattle.machine.proofs.others.party_of.Goals as goal

named : (kind n : ℕ) (r : Option Party) → kind ≡ n → r ≡ party_of n → r ≡ party_of kind
named kind n r e h = rw e h

unnamed : (kind : ℕ) → (kind ≡ 1 → ⊥) → (kind ≡ 2 → ⊥) → (kind ≡ 3 → ⊥) → None ≡ party_of kind
unfolding party_of
unnamed kind a b c = simp (ne_eqb _ _ a, ne_eqb _ _ b, ne_eqb _ _ c)

pub returns-in-1 : goal.returns-in-1
unfolding party_of
returns-in-1 c = search named

pub returns-in-2 : goal.returns-in-2
unfolding party_of
returns-in-2 c = search named

pub returns-in-3 : goal.returns-in-3
unfolding party_of
returns-in-3 c = search named

pub returns-in_default : goal.returns-in_default
unfolding party_of
returns-in_default c = search unnamed
