use Rattle.std.specs.Prelude.{if◌then◌else◌}
use mathlib.Core.Bool.{Bool, true, false, not, ◌||◌}
use mathlib.Core.List.{List, []}
use mathlib.Core.Path.{◌≡◌, refl, sym, ap, ◌∙◌}
use Prim.Native.Nat.{ℕ}
use native.Mathlib.Omega.{arith}
use borrow.Author.Tests.{not-true, not-false, le-ltb}
use lib.Dec.{ltb, eqb}
use lib.ListN.{length, take, drop}
use lib.Seq.{take_all}
use Rattle.tables.specs.declared.Layout.{Layout}
use Rattle.tables.specs.declared.Conf.{Conf}
use Rattle.tables.specs.Inner.{Fits}
use Rattle.tables.specs.Layouts.{extent}
use Rattle.tables.specs.Tables.{Page, Machine}
use Rattle.tables.specs.Words.{words}
use Rattle.tables.specs.Machines.{machine_of}
use Rattle.tables.proofs.Read.{its_room}
use Rattle.inspect.specs.Good.{good_numbers}
use Rattle.rules.specs.declared.Answer.{Answer}
use Rattle.rules.specs.Answers.{coded}
use Rattle.machine.specs.Effects.{anew, changed}
use Rattle.machine.specs.Calls.{set_up}
use Rattle.machine.specs.Refusals.{refusal}
use Rattle.machine.specs.SetUp.{new_machine}
use Rattle.machine.specs.Steps.{effect_of, step}
use Rattle.machine.specs.declared.refusal.Refusal.{Refusal}
use Rattle.machine.specs.Told.{number_of}
use Rattle.machine.specs.Buffers.{left, call, Gives}
use Rattle.machine.specs.Inner.{size_code, Took}
use Rattle.machine.proofs.Refused.{handed_on, numbered}
use Rattle.machine.proofs.Quiet.{quiet_fits, quiet_applied}
use Rattle.machine.proofs.Steps.{took_refused, took_accepted}
use Rattle.machine.proofs.setting.set_up.Goals as goal

module _ (lay : Layout) (k : Conf) (b : Bool) (e : b ≡ good_numbers lay.directories k) where
  good : not b ≡ false → good_numbers lay.directories k ≡ true
  good h = sym e ∙ not-false b h

  module _ (page : Page) (m : List ℕ) (a : Answer) where
    bad : not b ≡ true → Fits lay m → a ≡ coded 18 → Took lay (step (set_up k page) (machine_of lay m)) a [] m m
    unfolding refusal
    bad h l q = took_refused lay (set_up k page) m 18 a l (λ z. omega arith) (rw (its_room lay m, ← e, not-true b h)) q

    done : (n : List ℕ) → not b ≡ false → a ≡ coded 0 → n ≡ words (new_machine lay.directories k page) (drop (extent lay) m) → Took lay (step (set_up k page) (machine_of lay m)) a [] m n
    unfolding refusal effect_of
    done n h q s =
        let made : n ≡ words (changed (anew k page) (machine_of lay m)) (drop (extent lay) m) = rw (its_room lay m) s in
        took_accepted lay (set_up k page) m n [] a (rw (its_room lay m, good h, quiet_fits (machine_of lay m) (anew k page))) q refl
        (made ∙ sym (ap (λ (N : Machine). words N (drop (extent lay) m)) (quiet_applied (machine_of lay m) (anew k page))))

-- SIZE, or the step
module _ (lay : Layout) (m page : List ℕ) (k : Conf) where
  small : (r : Refusal) → number_of r ≡ size_code lay m (length page) → Gives (call lay (set_up k page) m) (coded (number_of r)) [] m
  unfolding call size_code
  small r e = go (ltb (length m) (extent lay) || not (eqb (length page) 16)) (number_of r) (numbered r) e
    where
      go : (b : Bool) (s : ℕ) → (s ≡ 0 → ⊥) → s ≡ (if b then 16 else 0) → Gives (if b then left (coded 16) [] m else left (step (set_up k page) (machine_of lay m)).answer (step (set_up k page) (machine_of lay m)).page (words (step (set_up k page) (machine_of lay m)).machine (drop (extent lay) m))) (coded s) [] m
      go true s z e = record { answer = ap coded e; page = refl; buffer = refl }
      go false s z e = absurd (z e)

  taken : Fits lay m → length page ≡ 16 → (a : Answer) (l : List ℕ) → Took lay (step (set_up k page) (machine_of lay m)) a [] m l → Gives (call lay (set_up k page) m) a [] l
  unfolding call
  taken f w a l t = rw (le-ltb _ _ f.long, w) (record { answer = t.answer; page = t.page; buffer = t.buffer })

  laid : (p : List ℕ) → Fits lay m → length page ≡ 16 → p ≡ take 16 page → (b : Bool) → b ≡ good_numbers lay.directories k → not b ≡ false → (a : Answer) (n : List ℕ) → a ≡ coded 0
      → n ≡ words (new_machine lay.directories k p) (drop (extent lay) m) → Gives (call lay (set_up k page) m) a [] n
  laid p f w q b e h a n z s =
      let same : p ≡ page = q ∙ take_all 16 page (omega arith) in
      taken f w a n (done lay k b e page m a n h z (rw same at s))

pub returns-in_err-ask_size : goal.returns-in_err-ask_size
returns-in_err-ask_size c =
    rw (handed_on c.from_residual.result _ c.from_residual.ensures.1) (search (small, c.in_err-ask_size.ensures))

pub returns-then-not-numbers : goal.returns-then-not-numbers
returns-then-not-numbers c = search (taken, bad, c.in_ok-ask_size.ensures)

pub returns : goal.returns
returns c = search (laid, c.in_ok-ask_size.ensures)
