-- The ways through a step and through a call on a buffer, each with what is then known.
use Rattle.std.specs.Prelude.{if◌then◌else◌}
use mathlib.Core.Bool.{Bool, true, false, not}
use mathlib.Core.List.{List}
use mathlib.Core.Path.{◌≡◌, refl}
use Prim.Native.Nat.{ℕ, ◌≤◌}
use native.Mathlib.Omega.{arith}
use lib.Dec.{T, eqb, ltb, eqb→eq, nltb→le, T_not}
use lib.ListN.{length, drop}
use Rattle.sets.proofs.Tests.{T_false, neither, if_ind}
use Rattle.tables.specs.declared.Layout.{Layout}
use Rattle.tables.specs.Tables.{Machine, slot_at}
use Rattle.tables.specs.Layouts.{extent}
use Rattle.tables.specs.Words.{words}
use Rattle.tables.specs.Machines.{machine_of}
use Rattle.rules.specs.Answers.{coded}
use Rattle.machine.specs.Calls.{Call, starter, asks, asked}
use Rattle.machine.specs.Refusals.{bad_argument, down_party, is_busy, is_worn, is_void, is_overfull, no_slot, tests, refusal}
use Rattle.machine.specs.Steps.{effect_of, Result, refused, accepted, code_of, step}
use Rattle.machine.specs.Buffers.{wrong_page, wrong_size, bad_machine, Outcomes, left, call}
use Rattle.runs.proofs.Codes.{Refusing, refusing_by}

-- ---- a step

coded_so : (c : Call) (M : Machine) → (code_of c M ≡ 0 → ⊥) → Refusing (code_of c M)
unfolding refusal
coded_so c M n = refusing_by (tests c M (effect_of c M)) refl n

pub data StepWay (c : Call) (M : Machine) : Result → Type 0 where
  refuses : Refusing (code_of c M) → StepWay c M (refused (code_of c M) (asks c).fill M)
  accepts : code_of c M ≡ 0 → StepWay c M (accepted (effect_of c M) M)

pub step_way : (c : Call) (M : Machine) → StepWay c M (step c M)
unfolding step
step_way c M =
    if_ind (StepWay c M) (eqb (code_of c M) 0) (λ z. accepts (eqb→eq (code_of c M) 0 z))
    (λ n. refuses (coded_so c M (λ z. T_not (eqb (code_of c M) 0) n (rw z tt))))

-- what holds of an accepted call: no line of the table applies
pub record Allowed (c : Call) (M : Machine) : Type 0 where
  pub argument : T (not (bad_argument c M))
  pub up : T (not (asked (down_party M) (asks c).up))
  pub idle : T (not (asked (λ o. is_busy M (starter o)) (asks c).start))
  pub unworn : T (not (asked (λ o. is_worn M (starter o)) (asks c).start))
  pub filled : T (not (asked (is_void M) (asks c).slot))
  pub free : T (not (asked (λ s. is_overfull M (slot_at M s)) (asks c).delivered))
  pub slots : T (not (no_slot M (effect_of c M)))

pub allowed : (c : Call) (M : Machine) → code_of c M ≡ 0 → Allowed c M
unfolding refusal
allowed c M z =
    let a = past 18 (bad_argument c M) (λ e. omega arith) z in
    let b = past 19 (asked (down_party M) (asks c).up) (λ e. omega arith) a.1 in
    let d = past 20 (asked (λ o. is_busy M (starter o)) (asks c).start) (λ e. omega arith) b.1 in
    let e = past 21 (asked (λ o. is_worn M (starter o)) (asks c).start) (λ e. omega arith) d.1 in
    let f = past 22 (asked (is_void M) (asks c).slot) (λ e. omega arith) e.1 in
    let g = past 23 (asked (λ s. is_overfull M (slot_at M s)) (asks c).delivered) (λ e. omega arith) f.1 in
    let h = past 24 (no_slot M (effect_of c M)) (λ e. omega arith) g.1 in
    record { argument = a.0; up = b.0; idle = d.0; unworn = e.0; filled = f.0; free = g.0; slots = h.0 }
  where
    past : (n : ℕ) (b : Bool) {m : ℕ} → (n ≡ 0 → ⊥) → (if b then n else m) ≡ 0 → T (not b) × (m ≡ 0)
    past n true h e = absurd (h e)
    past n false h e = (tt, e)

-- and back
pub allows : (c : Call) (M : Machine) → Allowed c M → code_of c M ≡ 0
unfolding refusal
allows c M a =
    rw (
      T_false (bad_argument c M) a.argument,
      T_false (asked (down_party M) (asks c).up) a.up,
      T_false (asked (λ o. is_busy M (starter o)) (asks c).start) a.idle,
      T_false (asked (λ o. is_worn M (starter o)) (asks c).start) a.unworn,
      T_false (asked (is_void M) (asks c).slot) a.filled,
      T_false (asked (λ s. is_overfull M (slot_at M s)) (asks c).delivered) a.free,
      T_false (no_slot M (effect_of c M)) a.slots,
    )

-- ---- a call

pub data CallWay (lay : Layout) (c : Call) (m : List ℕ) : Outcomes → Type 0 where
  sized : T (wrong_size lay c m) → CallWay lay c m (left (coded 16) (asks c).fill m)
  bad : T (not (wrong_size lay c m)) → T (bad_machine lay c m) → CallWay lay c m (left (coded 17) (asks c).fill m)
  steps : T (not (wrong_size lay c m)) → T (not (bad_machine lay c m))
      → CallWay lay c m (left (step c (machine_of lay m)).answer (step c (machine_of lay m)).page (words (step c (machine_of lay m)).machine (drop (extent lay) m)))

pub call_way : (lay : Layout) (c : Call) (m : List ℕ) → CallWay lay c m (call lay c m)
unfolding call
call_way lay c m =
    if_ind (CallWay lay c m) (wrong_size lay c m) (λ w. sized w) (λ n. if_ind (CallWay lay c m) (bad_machine lay c m) (λ b. bad n b) (λ g. steps n g))

-- a buffer of the right size
pub is_long : (lay : Layout) (c : Call) (m : List ℕ) → T (not (wrong_size lay c m)) → extent lay ≤ length m
is_long lay c m n = nltb→le (length m) (extent lay) (neither (ltb (length m) (extent lay)) (wrong_page c) n).0

pub is_paged : (lay : Layout) (c : Call) (m : List ℕ) → T (not (wrong_size lay c m)) → T (not (wrong_page c))
is_paged lay c m n = (neither (ltb (length m) (extent lay)) (wrong_page c) n).1
