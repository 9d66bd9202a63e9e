-- THE THIRD DEMAND of the layered machine, over its steps and over a lent buffer.
use mathlib.Core.Path.{◌≡◌, refl, subst, sym, ◌∙◌}
use mathlib.Core.Bool.{true, not}
use mathlib.Core.Logic.{◌⊎◌, inl, inr}
use mathlib.Core.List.{List, [], ◌∷◌, ◌++◌}
use Prim.Native.Nat.{ℕ}
use lib.Dec.{T}
use lib.ListN.{drop}
use Rattle.tables.specs.declared.Layout.{Layout}
use Rattle.tables.specs.declared.Conf.{Conf}
use Rattle.tables.specs.Tables.{Page, Machine}
use Rattle.tables.specs.Layouts.{extent}
use Rattle.tables.specs.Machines.{machine_of}
use Rattle.tables.proofs.Read.{its_room}
use Rattle.tables.proofs.Whole.{Paged}
use Rattle.tables.proofs.Round.{machine_back}
use Rattle.inspect.specs.Good.{good_numbers}
use Rattle.machine.specs.SetUp.{new_machine}
use Rattle.machine.specs.Calls.{Call, set_up}
use Rattle.machine.specs.Steps.{step}
use Rattle.machine.specs.Buffers.{wrong_page, Outcomes, call}
use Rattle.runs.specs.Runs.{Renews, NoneRenews, Run}
use Rattle.runs.proofs.Codes.{refusing}
use Rattle.runs.proofs.Ways.{CallWay, sized, bad, steps, call_way, is_paged}
use Rattle.runs.proofs.Kept.{step_sound, step_room}
use Rattle.runs.proofs.Runs.{set_up_passed, made_machine}
use Rattle.order.specs.Run.{◌∈◌, Event, nothing, reading, Op, ops, Proper, Finished, EndedBefore, last_page, OneLine, events}
use Rattle.order.specs.Method.{AllMeant, Fresh, SeenAs}
use Rattle.order.proofs.Atomic.{atomic, atomic_seen}
use Rattle.order.proofs.Hours.{hours}
use Rattle.history.specs.Show.{event_of, on_buffer}
use Rattle.history.proofs.Ways.{refused_shows}
use Rattle.history.proofs.Walk.{Good, layered, on_machine, keeps}
use Rattle.history.proofs.Fresh.{fresh}

-- ---- over steps

-- room for n directories
pub steps_in_line : (n : ℕ) (k : Conf) (p : Page) → good_numbers n k ≡ true → Paged p → (cs : List Call) → AllMeant on_machine (new_machine n k p) cs
    → Proper (events on_machine (new_machine n k p) cs) × OneLine p (events on_machine (new_machine n k p) cs)
steps_in_line n k p g q cs a = atomic layered on_machine keeps p (new_machine n k p) (fresh n k p g q) cs a

-- ---- over a lent buffer, in any layout: `base` and `wide` are two

module _ (lay : Layout) where
  -- a call is refused by SIZE or BAD MACHINE, or is a step of the machine that is read
  seen : (m : List ℕ) (c : Call) → Good (machine_of lay m) → (Renews c (call lay c m).answer → ⊥) → SeenAs on_machine (machine_of lay) (on_buffer lay) m c
  seen m c G = go (call_way lay c m)
    where
      M : Machine
      M = machine_of lay m

      go : {o : Outcomes} → CallWay lay c m o → (Renews c o.answer → ⊥)
          → ((event_of c o.answer o.page ≡ nothing) × (machine_of lay o.buffer ≡ M))
          ⊎ ((d : Call) × (T (not (wrong_page d)) × (Renews d (step d M).answer → ⊥))
          × (event_of c o.answer o.page ≡ event_of d (step d M).answer (step d M).page)
          × (machine_of lay o.buffer ≡ (step d M).machine))
      go (sized _) n = inl (refused_shows c _ _ (refusing 16 tt), refl)
      go (bad _ _) n = inl (refused_shows c _ _ (refusing 17 tt), refl)
      go (steps w _) n =
          inr (
            c,
            (is_paged lay c m w, n),
            refl,
            machine_back lay (step c M).machine (drop (extent lay) m)
                (step_sound c M G.sound (is_paged lay c m w)).whole (step_room c M ∙ its_room lay m),
          )

  -- an accepted set-up leaves a new machine
  pub begins : (m : List ℕ) (k : Conf) (p : Page) → Renews (set_up k p) (call lay (set_up k p) m).answer → Fresh layered p (machine_of lay (call lay (set_up k p) m).buffer)
  begins m k p r =
      let a = set_up_passed lay k p m r in
      subst (Fresh layered p) (sym (made_machine lay k p m r)) (fresh lay.directories k p a.numbers a.paged)

  all_meant : (cs : List Call) (m : List ℕ) → NoneRenews lay m cs → AllMeant (on_buffer lay) m cs
  unfolding AllMeant
  all_meant [] m n = tt
  all_meant (c ∷ cs) m n = (n.0, all_meant cs (call lay c m).buffer n.1)

-- any layout, any buffer, an accepted set-up with first page p, any calls after it up to the next
module _ (lay : Layout) (m : List ℕ) (k : Conf) (p : Page) (cs : List Call) (r : Run lay m k p cs) where
  -- what the calls after it show
  abbrev pub shown : List Event
  shown = events (on_buffer lay) (call lay (set_up k p) m).buffer cs

  both : Proper shown × OneLine p shown
  both =
      let made = (call lay (set_up k p) m).buffer in
      atomic_seen layered on_machine keeps p (machine_of lay) (on_buffer lay) (seen lay) made (begins lay m k p r.begins) cs (all_meant lay cs made r.goes)

  pub proper : Proper shown
  proper = both.0

  pub in_one_line : OneLine p shown
  in_one_line = both.1

  -- operation a had ended when read r began: a stands earlier in the line, and r shows the page of the last write between the two, or a's own where none is
  pub never_older : (a r : Op) → a ∈ ops shown → r ∈ ops shown → EndedBefore a r → r.kind ≡ reading → Finished r
      → (xs : List Op) × (ys : List Op) × (zs : List Op) × (in_one_line.line ≡ xs ++ a ∷ (ys ++ r ∷ zs)) × (r.page ≡ last_page a.page ys)
  never_older = hours p shown in_one_line
