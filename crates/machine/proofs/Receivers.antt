-- A delivery by its receiver: the slot out of range or empty, and each party's own delivery.
use Rattle.std.specs.Prelude.{Option, None, Some}
use mathlib.Core.Path.{◌≡◌, sym, ap, subst, ◌∙◌}
use mathlib.Core.Bool.{false, not}
use mathlib.Core.List.{List}
use Prim.Native.Nat.{ℕ, suc, ◌≤◌, ◌<◌}
use native.Mathlib.Omega.{arith}
use borrow.Author.Tests.{eq-eqb}
use Rattle.tables.specs.declared.Layout.{Layout}
use Rattle.tables.specs.declared.Message.{Message}
use Rattle.tables.specs.declared.Party.{Party}
use Rattle.tables.specs.Kinds.{receiver_of}
use Rattle.tables.specs.Tables.{is_empty, slot_at}
use Rattle.tables.specs.Machines.{machine_of}
use Rattle.inspect.specs.Good.{between}
use Rattle.rules.specs.declared.Answer.{Answer}
use Rattle.rules.specs.Answers.{coded}
use Rattle.machine.specs.Calls.{deliver}
use Rattle.machine.specs.Refusals.{is_overfull, no_slot, refusal}
use Rattle.machine.specs.Steps.{effect_of, step}
use Rattle.machine.specs.declared.refusal.Refusal.{Refusal}
use Rattle.machine.specs.Told.{number_of}
use Rattle.machine.specs.Inner.{Ready, Took, Arrived, Delivered}
use Rattle.machine.proofs.Steps.{took_refused}
use Rattle.machine.proofs.Parties.{in_range}
use Rattle.machine.proofs.Landings.{tested_18, tested_22}
use Rattle.machine.proofs.Arrivals.{is_void_lem, arrived}

module _ (lay : Layout) (m : List ℕ) (slot : ℕ) (g : Ready lay m) where
  pub bad_slot : (page : List ℕ) (r : Refusal) → between 1 128 slot ≡ false → number_of r ≡ 18 → Took lay (step (deliver slot page) (machine_of lay m)) (coded (number_of r)) page m m
  unfolding refusal
  bad_slot page r h q =
      took_refused lay (deliver slot page) m 18 _ g.long (λ z. omega arith)
      (tested_18 (not (between 1 128 slot)) (is_empty (slot_at (machine_of lay m) slot)) (is_overfull (machine_of lay m) (slot_at (machine_of lay m) slot))
      (no_slot (machine_of lay m) (effect_of (deliver slot page) (machine_of lay m))) (ap not h))
      (ap coded q)

  -- the slot stands at s, counted from 0
  module _ (s : ℕ) (at : suc s ≡ slot) (h : slot ≤ 128) where
    within : s < 128
    within = omega arith

    pub by_client : (page p : List ℕ) (a : Answer) (l : List ℕ) → Took lay (step (deliver (suc s) page) (machine_of lay m)) a p m l
        → Took lay (step (deliver slot page) (machine_of lay m)) a p m l
    by_client page p a l t = subst (λ (k : ℕ). Took lay (step (deliver k page) (machine_of lay m)) a p m l) at t

    pub by_other : (page : List ℕ) (a : Answer) (l : List ℕ) → Delivered lay (machine_of lay m) (suc s) a m l
        → Took lay (step (deliver slot page) (machine_of lay m)) a page m l
    by_other page a l t = by_client page page a l (t.took page)

    module _ (x : Message) (e : x ≡ slot_at (machine_of lay m) (suc s)) (o : Option Party) (w : o ≡ receiver_of x.kind) where
      pub by_nobody : (page : List ℕ) (a : Answer) → o ≡ None → a ≡ coded 22 → Took lay (step (deliver slot page) (machine_of lay m)) a page m m
      unfolding refusal
      by_nobody page a q k =
          let here : x.kind ≡ (slot_at (machine_of lay m) slot).kind = ap (λ (y : Message). y.kind) e ∙ ap (λ (p : ℕ). (slot_at (machine_of lay m) p).kind) at in
          took_refused lay (deliver slot page) m 22 a g.long (λ z. omega arith)
          (tested_22 (not (between 1 128 slot)) (is_empty (slot_at (machine_of lay m) slot)) (is_overfull (machine_of lay m) (slot_at (machine_of lay m) slot))
          (no_slot (machine_of lay m) (effect_of (deliver slot page) (machine_of lay m))) (ap not (in_range s slot at 128 h)) (eq-eqb _ _ (sym here ∙ is_void_lem lay m s x g within e (sym w ∙ q))))
          k

      pub by_kind : (who party : Party) → o ≡ Some who → who ≡ party → Arrived lay party m s x
      by_kind who party q z = arrived lay m s x g within e party (sym w ∙ q ∙ ap Some z)
