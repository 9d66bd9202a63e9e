-- A step by its refusal, what a buffer shows of it, and a call by its state.
use Rattle.std.specs.Prelude.{if◌then◌else◌}
use mathlib.Core.Path.{◌≡◌, refl, sym, ap}
use mathlib.Core.Bool.{Bool, true, false, not, ◌||◌}
use mathlib.Core.List.{List}
use Prim.Native.Nat.{ℕ}
use borrow.Author.Tests.{ne_eqb, le-ltb}
use lib.Dec.{ltb, eqb}
use lib.ListN.{length, drop}
use Rattle.tables.specs.declared.Layout.{Layout}
use Rattle.tables.specs.Inner.{Fits}
use Rattle.tables.specs.Layouts.{extent}
use Rattle.tables.specs.Tables.{Machine}
use Rattle.tables.specs.Words.{words}
use Rattle.tables.specs.Machines.{machine_of}
use Rattle.tables.proofs.Round.{words_back}
use Rattle.inspect.specs.Good.{good}
use Rattle.rules.specs.declared.Answer.{Answer}
use Rattle.rules.specs.Answers.{coded}
use Rattle.machine.specs.Calls.{Call, asks}
use Rattle.machine.specs.Refusals.{refusal}
use Rattle.machine.specs.Steps.{Result, effect_of, refused, accepted, step}
use Rattle.machine.specs.Buffers.{wrong_page, is_set_up, left, call, Gives}
use Rattle.machine.specs.declared.refusal.Refusal.{Refusal}
use Rattle.machine.specs.Told.{number_of}
use Rattle.machine.specs.Inner.{buffer_code, Ready, Took}
use Rattle.machine.proofs.Refused.{numbered}

module _ (c : Call) (M : Machine) where
  -- what the call leads to where it is accepted
  abbrev pub given : Result
  given = accepted (effect_of c M) M

  step_refused : (code : ℕ) → (code ≡ 0 → ⊥) → refusal c M (effect_of c M) ≡ code → step c M ≡ refused code (asks c).fill M
  unfolding step
  step_refused code z e = rw (e, ne_eqb code 0 z)

  step_accepted : refusal c M (effect_of c M) ≡ 0 → step c M ≡ given
  unfolding step
  step_accepted e = rw e

-- ---- the buffer of a step that was refused, and of one that was accepted
pub took_nothing : (lay : Layout) (m p : List ℕ) (code : ℕ) (a : Answer) → Fits lay m → a ≡ coded code → Took lay (refused code p (machine_of lay m)) a p m m
took_nothing lay m p code a l h = record { answer = h; page = refl; buffer = sym (words_back lay m l.long) }

pub took_refused : (lay : Layout) (c : Call) (m : List ℕ) (code : ℕ) (a : Answer) → Fits lay m → (code ≡ 0 → ⊥)
    → refusal c (machine_of lay m) (effect_of c (machine_of lay m)) ≡ code → a ≡ coded code → Took lay (step c (machine_of lay m)) a (asks c).fill m m
took_refused lay c m code a l z e h =
    rw (step_refused c (machine_of lay m) code z e) (took_nothing lay m (asks c).fill code a l h)

pub took_accepted : (lay : Layout) (c : Call) (m n p : List ℕ) (a : Answer) → refusal c (machine_of lay m) (effect_of c (machine_of lay m)) ≡ 0
    → a ≡ (given c (machine_of lay m)).answer → p ≡ (given c (machine_of lay m)).page → n ≡ words (given c (machine_of lay m)).machine (drop (extent lay) m)
    → Took lay (step c (machine_of lay m)) a p m n
took_accepted lay c m n p a e h g k = rw (step_accepted c (machine_of lay m) e) (record { answer = h; page = g; buffer = k })

-- ---- SIZE, BAD MACHINE, and then the step; the call's page has n words

module _ (lay : Layout) (m : List ℕ) (c : Call) (k : not (is_set_up c) ≡ true) where
  pub call_refused : (n : ℕ) → wrong_page c ≡ not (eqb n 16) → (r : Refusal) → number_of r ≡ buffer_code lay m n → (p : List ℕ) → (asks c).fill ≡ p
      → Gives (call lay c m) (coded (number_of r)) p m
  unfolding call buffer_code
  call_refused n w r e p x = rw (w, k) (go (ltb (length m) (extent lay) || not (eqb n 16)) (good lay m) (number_of r) (numbered r) e)
    where
      go : (b g : Bool) (s : ℕ) → (s ≡ 0 → ⊥) → s ≡ (if b then 16 else if not g then 17 else 0)
          → Gives (if b then left (coded 16) (asks c).fill m else if not g then left (coded 17) (asks c).fill m else left (step c (machine_of lay m)).answer (step c (machine_of lay m)).page (words (step c (machine_of lay m)).machine (drop (extent lay) m)))
          (coded s) p m
      go true g s z q = record { answer = ap coded q; page = sym x; buffer = refl }
      go false false s z q = record { answer = ap coded q; page = sym x; buffer = refl }
      go false true s z q = absurd (z q)

  -- on a buffer and a page that pass
  pub call_taken : Ready lay m → wrong_page c ≡ false → (a : Answer) (p l : List ℕ) → Took lay (step c (machine_of lay m)) a p m l → Gives (call lay c m) a p l
  unfolding call
  call_taken g w a p l t = rw (le-ltb _ _ g.long.long, w, k, g.fine) (record { answer = t.answer; page = t.page; buffer = t.buffer })

pub right_page : (n : ℕ) → n ≡ 16 → not (eqb n 16) ≡ false
right_page n e = rw e
