use mathlib.Core.Path.{◌≡◌, refl, sym, ap, ◌∙◌}
use mathlib.Core.List.{List, []}
use Prim.Native.Nat.{ℕ}
use borrow.Author.Tests.{ne_eqb}
use lib.ListN.{drop}
use Rattle.tables.specs.declared.Layout.{Layout}
use Rattle.tables.specs.Layouts.{extent}
use Rattle.tables.specs.Tables.{Machine}
use Rattle.tables.specs.Words.{words}
use Rattle.tables.specs.Machines.{machine_of}
use Rattle.tables.proofs.Round.{words_back}
use Rattle.rules.specs.Answers.{coded}
use Rattle.machine.specs.declared.Counts.{Counts}
use Rattle.machine.specs.declared.refusal.Refusal.{Refusal}
use Rattle.machine.specs.Told.{number_of}
use Rattle.machine.specs.Effects.{nothing}
use Rattle.machine.specs.Calls.{report}
use Rattle.machine.specs.Refusals.{refusal}
use Rattle.machine.specs.Steps.{effect_of, step}
use Rattle.machine.specs.Buffers.{reported}
use Rattle.machine.specs.Inner.{Ready, buffer_code, Took, counts}
use Rattle.machine.proofs.Refused.{handed_on, numbered}
use Rattle.machine.proofs.Quiet.{quiet_fits, quiet_applied}
use Rattle.machine.proofs.Steps.{took_accepted, call_refused, call_taken}
use Rattle.machine.proofs.counting.report.Goals as goal

module _ (lay : Layout) (m : List ℕ) where
  refused : (r : Refusal) → number_of r ≡ buffer_code lay m 16 → record { code = number_of r; waiting = 0; down = 0 } ≡ reported lay m
  unfolding reported
  refused r e = rw (← (call_refused lay m report refl 16 refl r e [] refl).answer, ne_eqb _ 0 (numbered r))

  module _ (g : Ready lay m) where
    -- report does nothing
    idle : Took lay (step report (machine_of lay m)) (coded 0) [] m m
    unfolding refusal effect_of
    idle =
        took_accepted lay report m m [] (coded 0) (rw (quiet_fits (machine_of lay m) nothing)) refl refl
        (sym (words_back lay m g.long.long) ∙ sym (ap (λ (N : Machine). words N (drop (extent lay) m)) (quiet_applied (machine_of lay m) nothing)))

    done : (r : Counts) → r ≡ counts (machine_of lay m) → r ≡ reported lay m
    unfolding reported
    done r q = rw (← (call_taken lay m report refl g refl (coded 0) [] m idle).answer) q

pub returns-in_err-ask : goal.returns-in_err-ask
returns-in_err-ask c =
    rw (handed_on c.from_residual.result _ c.from_residual.ensures.1) (search (refused, c.in_err-ask.ensures))

pub returns : goal.returns
returns c = search (done, c.in_ok-ask.ensures.0)
