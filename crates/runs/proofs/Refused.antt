-- Every call answers one of the listed codes. "Codes 16 to 24 change nothing": a refused call leaves page and buffer as they were. Only code 1 writes the page.
use mathlib.Core.Bool.{not}
use mathlib.Core.List.{List, [], ◌∷◌}
use mathlib.Core.Path.{◌≡◌, refl}
use Prim.Native.Nat.{ℕ, ◌≤◌}
use native.Mathlib.Omega.{arith}
use lib.Dec.{T, T_not}
use lib.ListN.{length, drop}
use Rattle.sets.specs.Plain.{one_of}
use Rattle.sets.proofs.Tests.{T_false}
use Rattle.tables.specs.declared.Layout.{Layout}
use Rattle.tables.specs.declared.Message.{Message}
use Rattle.tables.specs.Tables.{Page, Machine, slot_at}
use Rattle.tables.specs.Layouts.{extent}
use Rattle.tables.specs.Words.{words}
use Rattle.tables.specs.Machines.{machine_of}
use Rattle.tables.proofs.All.{none, cons}
use Rattle.tables.proofs.Round.{words_back}
use Rattle.rules.specs.declared.Outcome.{Outcome}
use Rattle.rules.specs.declared.Outcome.TheVariants.{Waiting, Next, ReadEnded, WriteEnded, Spent, Stale}
use Rattle.rules.specs.Answers.{answer_of}
use Rattle.machine.specs.Effects.{Effect}
use Rattle.machine.specs.Calls.{Call, asks}
use Rattle.machine.specs.Deliver.{filled}
use Rattle.machine.specs.Refusals.{accepted_codes}
use Rattle.machine.specs.Steps.{code_of, Result, effect_of, step}
use Rattle.machine.specs.Buffers.{wrong_size, bad_machine, Outcomes, left, call}
use Rattle.runs.specs.Runs.{Untouched}
use Rattle.runs.proofs.Codes.{one_of_lem, Refusing}
use Rattle.runs.proofs.Ways.{StepWay, refuses, accepts, step_way, CallWay, sized, bad, steps, call_way, is_long}
use Rattle.runs.proofs.Acts.{Acts, reads, writes, empties, directs, stores, hears, gossips, tidies, crashes, Accepted, renews, acts, accepted_by}

-- ---- what an accepted call answers

module _ (own : ℕ) (x : Message) (page : Page) where
  outcome_code : (o : Outcome) → T (one_of (answer_of own o).code accepted_codes)
  outcome_code Waiting = tt
  outcome_code (Next t) = tt
  outcome_code (ReadEnded t n) = tt
  outcome_code (WriteEnded t) = tt
  outcome_code Spent = tt
  outcome_code Stale = tt

  outcome_page : (o : Outcome) → ((answer_of own o).code ≡ 1 → ⊥) → filled o x page ≡ page
  outcome_page Waiting n = refl
  outcome_page (Next t) n = refl
  outcome_page (ReadEnded t mark) n = absurd (n refl)
  outcome_page (WriteEnded t) n = refl
  outcome_page Spent n = refl
  outcome_page Stale n = refl

-- a listed code; the page to fill is written by code 1 only
record HandsBack (c : Call) (e : Effect) : Type 0 where
  code : T (one_of e.answer.code accepted_codes)
  page : (e.answer.code ≡ 1 → ⊥) → e.page ≡ (asks c).fill

hands_back : {M : Machine} {c : Call} {e : Effect} → Accepted M c e → HandsBack c e
hands_back (renews k page _) = record { code = tt; page = λ _. refl }
hands_back {M} (acts _ a) = go a
  where
    go : {c : Call} {e : Effect} → Acts M c e → HandsBack c e
    go (reads c _) = record { code = tt; page = λ _. refl }
    go (writes c page _) = record { code = tt; page = λ _. refl }
    go (empties c slots n q _) =
        record { code = one_of_lem (λ (k : ℕ). T (one_of k accepted_codes)) n (0 ∷ 4 ∷ []) (cons tt (cons tt none)) q; page = λ _. refl }
    go (directs s page _) = record { code = tt; page = λ _. refl }
    go (stores s page _ _) = record { code = tt; page = λ _. refl }
    go (hears s page {o} _ _) = record { code = outcome_code (slot_at M s).receiver (slot_at M s) page o; page = outcome_page (slot_at M s).receiver (slot_at M s) page o }
    go (gossips from to _ _) = record { code = tt; page = λ _. refl }
    go (tidies r _) = record { code = tt; page = λ _. refl }
    go (crashes kind id who _) = record { code = tt; page = λ _. refl }

-- ---- a step

pub record Unmoved (c : Call) (M : Machine) (r : Result) : Type 0 where
  pub page : r.page ≡ (asks c).fill
  pub machine : r.machine ≡ M

-- a step is refused exactly where the table gives a code, and with this code; then nothing has changed
module _ (c : Call) (M : Machine) where
  pub step_refuses : (code_of c M ≡ 0 → ⊥) → Refusing (code_of c M) × ((step c M).answer.code ≡ code_of c M) × Unmoved c M (step c M)
  step_refuses n = go (step_way c M)
    where
      go : {r : Result} → StepWay c M r → Refusing (code_of c M) × (r.answer.code ≡ code_of c M) × Unmoved c M r
      go (refuses h) = (h, refl, record { page = refl; machine = refl })
      go (accepts z) = absurd (n z)

  pub step_accepts : code_of c M ≡ 0 → T (one_of (step c M).answer.code accepted_codes)
  step_accepts z = go (step_way c M)
    where
      go : {r : Result} → StepWay c M r → T (one_of r.answer.code accepted_codes)
      go (refuses h) = absurd (omega arith)
      go (accepts e) = (hands_back (accepted_by c M e)).code

-- ---- a call on a buffer

-- a call answers one of the accepted codes, or it is refused and changes nothing
pub call_refused : (lay : Layout) (c : Call) (m : List ℕ) → T (not (one_of (call lay c m).answer.code accepted_codes)) → Untouched c m (call lay c m)
call_refused lay c m = go (call_way lay c m)
  where
    stepped : extent lay ≤ length m → {r : Result} → StepWay c (machine_of lay m) r → T (not (one_of r.answer.code accepted_codes))
        → Untouched c m (left r.answer r.page (words r.machine (drop (extent lay) m)))
    stepped h (refuses k) l = record { code = k.listed; page = refl; buffer = words_back lay m h }
    stepped h (accepts e) l = absurd (T_not (one_of (effect_of c (machine_of lay m)).answer.code accepted_codes) l (hands_back (accepted_by c (machine_of lay m) e)).code)

    go : {o : Outcomes} → CallWay lay c m o → T (not (one_of o.answer.code accepted_codes)) → Untouched c m o
    go (sized _) l = record { code = tt; page = refl; buffer = refl }
    go (bad _ _) l = record { code = tt; page = refl; buffer = refl }
    go (steps n _) l = stepped (is_long lay c m n) (step_way c (machine_of lay m)) l

-- and is accepted where no line of the table refuses it
pub call_accepted : (lay : Layout) (c : Call) (m : List ℕ) → T (not (wrong_size lay c m)) → T (not (bad_machine lay c m)) → code_of c (machine_of lay m) ≡ 0
    → T (one_of (call lay c m).answer.code accepted_codes)
unfolding call
call_accepted lay c m n b z = rw (T_false (wrong_size lay c m) n, T_false (bad_machine lay c m) b) (step_accepts c (machine_of lay m) z)

pub call_page : (lay : Layout) (c : Call) (m : List ℕ) → ((call lay c m).answer.code ≡ 1 → ⊥) → (call lay c m).page ≡ (asks c).fill
call_page lay c m = go (call_way lay c m)
  where
    stepped : {r : Result} → StepWay c (machine_of lay m) r → (r.answer.code ≡ 1 → ⊥) → r.page ≡ (asks c).fill
    stepped (refuses _) n = refl
    stepped (accepts e) n = (hands_back (accepted_by c (machine_of lay m) e)).page n

    go : {o : Outcomes} → CallWay lay c m o → (o.answer.code ≡ 1 → ⊥) → o.page ≡ (asks c).fill
    go (sized _) n = refl
    go (bad _ _) n = refl
    go (steps _ _) n = stepped (step_way c (machine_of lay m)) n
