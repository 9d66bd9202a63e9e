-- Every call keeps a machine good in the sense of the walk, and every buffer that calls lead to from an accepted set-up holds the words of such a machine.
use mathlib.Core.Path.{◌≡◌, sym, ap, subst}
use mathlib.Core.Bool.{not}
use mathlib.Core.List.{List, [], ◌∷◌}
use Prim.Native.Nat.{ℕ}
use lib.Dec.{T}
use lib.ListN.{length, drop}
use Rattle.sets.proofs.Tests.{if_ind}
use Rattle.tables.specs.declared.Layout.{Layout}
use Rattle.tables.specs.declared.Conf.{Conf}
use Rattle.tables.specs.Tables.{Page, Machine}
use Rattle.tables.specs.Layouts.{extent}
use Rattle.tables.specs.Words.{words}
use Rattle.tables.specs.Machines.{machine_of}
use Rattle.tables.proofs.Read.{its_room}
use Rattle.tables.proofs.Whole.{Room}
use Rattle.tables.proofs.Round.{words_back, machine_back}
use Rattle.machine.specs.Effects.{anew, Effect, applied}
use Rattle.machine.specs.Calls.{Call, set_up}
use Rattle.machine.specs.Steps.{Result, step}
use Rattle.machine.specs.Buffers.{wrong_page, Outcomes, call}
use Rattle.machine.proofs.Quiet.{quiet_applied}
use Rattle.runs.specs.Runs.{Renews, buffer_after, sized_step}
use Rattle.runs.proofs.Ways.{StepWay, refuses, accepts, step_way}
use Rattle.runs.proofs.Acts.{Accepted, renews, acts, accepted_by}
use Rattle.runs.proofs.Kept.{paged, step_sound}
use Rattle.runs.proofs.Runs.{sized_room, call_is, made_fine}
use Rattle.history.proofs.Invariant.{Invariant}
use Rattle.history.proofs.Kept.{invariant_acts}
use Rattle.history.proofs.Walk.{Good}
use Rattle.history.proofs.Fresh.{fresh}
use Rattle.history.proofs.Final.{begins}

pub step_good : (q : Call) (M : Machine) → Good M → T (not (wrong_page q)) → Good (step q M).machine
step_good q M G w = record { sound = step_sound q M G.sound w; invariant = go (step_way q M) }
  where
    by : {q : Call} {e : Effect} → Accepted M q e → T (not (wrong_page q)) → Invariant (applied e M)
    by (renews k page g) w = rw (quiet_applied M (anew k page)) (fresh (length M.directories) k page g (paged page w)).good.invariant
    by (acts _ a) w = invariant_acts M G.sound G.invariant a

    go : {r : Result} → StepWay q M r → Invariant r.machine
    go (refuses _) = G.invariant
    go (accepts h) = by (accepted_by q M h) w

sized_good : (q : Call) (M : Machine) → Good M → Good (sized_step q M).machine
sized_good q M G = if_ind (λ (r : Result). Good r.machine) (wrong_page q) (λ _. G) (λ w. step_good q M G w)

-- ---- buffers

module _ (lay : Layout) where
  -- the buffer has the words of a good machine
  pub data Held : Machine → List ℕ → Type 0 where
    held : {M : Machine} → Good M → Room lay M → (t : List ℕ) → Held M (words M t)

  pub held_call : (q : Call) {M : Machine} {m : List ℕ} → Held M m → Held (sized_step q M).machine (call lay q m).buffer
  held_call q (held {M} G r t) =
      subst (λ (o : Outcomes). Held (sized_step q M).machine o.buffer) (sym (call_is q r G.sound t))
      (held (sized_good q M G) (sized_room q M r) t)

  pub held_answer : (q : Call) {M : Machine} {m : List ℕ} → Held M m → (call lay q m).answer ≡ (sized_step q M).answer
  held_answer q (held G r t) = ap (λ (o : Outcomes). o.answer) (call_is q r G.sound t)

  held_machine : {M : Machine} {m : List ℕ} → Held M m → machine_of lay m ≡ M
  held_machine (held {M} G r t) = machine_back lay M t G.sound.whole r

  pub held_good : {M : Machine} {m : List ℕ} → Held M m → Good M
  held_good (held G r t) = G

  abbrev Holds : List ℕ → Type 0
  Holds m = Held (machine_of lay m) m

  its_own : {M : Machine} {m : List ℕ} → Held M m → Holds m
  its_own {M} {m} h = subst (λ (N : Machine). Held N m) (sym (held_machine h)) h

  -- an accepted set-up leaves such a buffer
  held_new : (m : List ℕ) (k : Conf) (p : Page) → Renews (set_up k p) (call lay (set_up k p) m).answer → Holds (call lay (set_up k p) m).buffer
  held_new m k p r =
      let b : List ℕ = (call lay (set_up k p) m).buffer in
      subst (Held (machine_of lay b)) (words_back lay b (made_fine lay k p m r).long) (held (begins lay m k p r).good (its_room lay b) (drop (extent lay) b))

  held_after : (qs : List Call) {m : List ℕ} → Holds m → Holds (buffer_after lay m qs)
  held_after [] h = h
  held_after (q ∷ qs) h = held_after qs (its_own (held_call q h))

  -- and so does every buffer after it
  pub held_reached : (m : List ℕ) (k : Conf) (p : Page) → Renews (set_up k p) (call lay (set_up k p) m).answer → (qs : List Call) → Holds (buffer_after lay (call lay (set_up k p) m).buffer qs)
  held_reached m k p e qs = held_after qs (held_new m k p e)
