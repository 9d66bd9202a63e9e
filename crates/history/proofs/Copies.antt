-- WHAT THE FIFTH NUMBER SAYS, over a lent buffer: whether a read got the tag that its client had asked for.
use mathlib.Core.Path.{◌≡◌, refl, sym, subst}
use mathlib.Core.List.{List, [], ◌∷◌}
use Prim.Native.Nat.{ℕ}
use native.Mathlib.Omega.{arith}
use Rattle.sets.specs.declared.Tag.{Tag}
use Rattle.sets.proofs.Tests.{if_ind}
use Rattle.sets.proofs.TagOrder.{≺→lower}
use Rattle.tables.specs.declared.Layout.{Layout}
use Rattle.tables.specs.declared.Conf.{Conf}
use Rattle.tables.specs.declared.Message.{Message}
use Rattle.tables.specs.Tables.{Page, Machine, client_at, slot_at}
use Rattle.tables.specs.Machines.{machine_of}
use Rattle.tables.proofs.All.{none, cons}
use Rattle.rules.specs.declared.Answer.{Answer}
use Rattle.rules.specs.declared.Outcome.{Outcome}
use Rattle.rules.specs.Answers.{answer, coded, answer_of}
use Rattle.rules.specs.Client.{awaited}
use Rattle.rules.proofs.Covers.{Copied, itself, higher}
use Rattle.rules.proofs.Views.{View, v_stale, v_waits, v_1, v_2, v_3, v_4, v_spent, v_5, v_6}
use Rattle.machine.specs.Effects.{Effect}
use Rattle.machine.specs.Calls.{Call, set_up}
use Rattle.machine.specs.Steps.{Result, step}
use Rattle.machine.specs.Buffers.{wrong_page, call}
use Rattle.runs.specs.Runs.{Renews, buffer_after, sized_step}
use Rattle.runs.proofs.Codes.{one_of_lem}
use Rattle.runs.proofs.Ways.{StepWay, refuses, accepts, step_way}
use Rattle.runs.proofs.Acts.{Acts, reads, writes, empties, directs, stores, hears, gossips, tidies, crashes, Accepted, renews, acts, accepted_by}
use Rattle.history.specs.Copies.{Tells, exact, newer, other}
use Rattle.history.proofs.Invariant.{Fact}
use Rattle.history.proofs.Clients.{present, awaited_fact}
use Rattle.history.proofs.Kept.{message_ok}
use Rattle.history.proofs.Walk.{Good}
use Rattle.history.proofs.Reached.{held_answer, held_good, held_reached}

-- ---- one answer

unread : {asked : Tag} (n : ℕ) → (n ≡ 1 → ⊥) → Tells asked (coded n)
unread n h = other h refl

done : {asked : Tag} → Tells asked (coded 0)
done = unread 0 (λ e. omega arith)

by_copy : {asked got : Tag} {c n : ℕ} → Copied asked got n → Tells asked (answer 1 c got n)
by_copy (itself e) = exact refl refl e
by_copy {asked} {got} (higher l) = newer refl refl (≺→lower asked got l)

-- the answer is told of the row of the client that it names
abbrev TellsIn : Machine → Answer → Type 0
TellsIn M a = Tells (client_at M a.client).tag a

-- ---- a step

module _ (M : Machine) (G : Good M) where
  module _ (s : ℕ) where
    abbrev x : Message
    x = slot_at M s

    hearing_tells : {o : Outcome} → View M.conf x.receiver (client_at M x.receiver) x o → TellsIn M (answer_of x.receiver o)
    unfolding awaited
    hearing_tells (v_stale _) = unread 5 (λ e. omega arith)
    hearing_tells (v_waits _ _) = done
    hearing_tells (v_1 _) = done
    hearing_tells (v_2 _) = done
    hearing_tells (v_3 i) =
        let f : Fact M x 12 = awaited_fact M x i.timely 3 i.phase (message_ok G.invariant s) in
        by_copy (present M x i.timely 3 i.phase f.0)
    hearing_tells (v_4 _ _) = done
    hearing_tells (v_spent _ _) = other (λ e. omega arith) refl
    hearing_tells (v_5 _) = done
    hearing_tells (v_6 _) = other (λ e. omega arith) refl

  acts_tells : {c : Call} {e : Effect} → Acts M c e → TellsIn M e.answer
  acts_tells (empties c slots n q h) =
      one_of_lem (λ (k : ℕ). TellsIn M (coded k)) n (0 ∷ 4 ∷ []) (cons done (cons (unread 4 (λ e. omega arith)) none)) q
  acts_tells (hears s page m i) = hearing_tells s i
  acts_tells (reads c o) = done
  acts_tells (writes c page o) = done
  acts_tells (directs s page m) = done
  acts_tells (stores s page m n) = done
  acts_tells (gossips from to a b) = done
  acts_tells (tidies r a) = done
  acts_tells (crashes kind id who a) = done

  step_tells : (c : Call) → TellsIn M (step c M).answer
  step_tells c = go (step_way c M)
    where
      by : {c : Call} {e : Effect} → Accepted M c e → TellsIn M e.answer
      by (renews k page _) = done
      by (acts _ a) = acts_tells a

      go : {r : Result} → StepWay c M r → TellsIn M r.answer
      go (refuses k) = unread _ (λ e. omega (arith, k.high))
      go (accepts h) = by (accepted_by c M h)

  sized_tells : (c : Call) → TellsIn M (sized_step c M).answer
  sized_tells c = if_ind (λ (r : Result). TellsIn M r.answer) (wrong_page c) (λ _. unread 16 (λ e. omega arith)) (λ _. step_tells c)

-- ---- THE THEOREM: any layout, any buffer, an accepted set-up with first page p, any calls after it, and then one more

module _ (lay : Layout) (m : List ℕ) (k : Conf) (p : Page) (accepted : Renews (set_up k p) (call lay (set_up k p) m).answer) (before : List Call) (c : Call) where
  abbrev pub reached : List ℕ
  reached = buffer_after lay (call lay (set_up k p) m).buffer before

  abbrev pub given : Answer
  given = (call lay c reached).answer

  -- whether the copy was the one that its client had asked for
  pub tells_which : Tells (client_at (machine_of lay reached) given.client).tag given
  tells_which =
      let H = held_reached lay m k p accepted before in
      subst (TellsIn (machine_of lay reached)) (sym (held_answer lay c H)) (sized_tells (machine_of lay reached) (held_good lay H) c)
