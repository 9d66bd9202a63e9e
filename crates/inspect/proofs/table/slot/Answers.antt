use mathlib.Core.Bool.{Bool, true, false, ◌&&◌}
use mathlib.Core.List.{List}
use mathlib.Core.Path.{◌≡◌, refl, sym, ◌∙◌}
use Prim.Native.Nat.{ℕ, ◌≤◌, ◌<◌}
use native.Mathlib.Omega.{arith}
use borrow.Author.Tests.{eq-eqb, ne_eqb, lt-leb}
use lib.Dec.{eqb}
use lib.ListN.{length, get_or, take, drop}
use Rattle.tables.specs.declared.Conf.{Conf}
use Rattle.tables.specs.declared.Message.{Message}
use Rattle.tables.specs.Machines.{message_of}
use Rattle.inspect.specs.declared.limits.Limits.{Limits}
use Rattle.inspect.specs.Good.{zeros, good_message, slot_row}
use Rattle.inspect.specs.Inner.{kind_limits, limits_of, kind_table, message_within}
use Rattle.inspect.proofs.Tests.{zeros_parts}
use Rattle.inspect.proofs.Zeros.{message_zeros}
use Rattle.inspect.proofs.Within.{message_within_lem, limits_at}
use Rattle.inspect.proofs.table.slot.Goals as goal

module _ (l : List ℕ) (t : List (List ℕ)) (k : Conf) (of : t ≡ kind_table k) where
  kind_of : (message_of l).kind ≡ get_or l 0 0
  unfolding message_of
  kind_of = refl

  module _ (wide : length l ≡ 24) (z : get_or l 0 0 ≡ 0) (a : Bool) (p : a ≡ zeros (take 4 l)) where
    parts : zeros (take 4 l) && zeros (take 20 (drop 4 l)) ≡ slot_row k 0 (message_of l)
    unfolding slot_row
    parts =
        rw (eq-eqb (message_of l).kind 0 (kind_of ∙ z)) (zeros_parts 4 20 l wide ∙ sym (message_zeros l wide))

    empty : (b : Bool) → a ≡ true → b ≡ zeros (take 20 (drop 4 l)) → b ≡ slot_row k 0 (message_of l)
    empty b h q = rw (← p, ← q, h) at parts

    marked : a ≡ false → a ≡ slot_row k 0 (message_of l)
    marked h = h ∙ (rw (← p, h) at parts)

  module _ (many : length t ≡ 16) where
    above : length t ≤ get_or l 0 0 → false ≡ slot_row k 0 (message_of l)
    unfolding slot_row good_message
    above h = rw (ne_eqb (message_of l).kind 0 (λ e. omega (arith, kind_of)), lt-leb (message_of l).kind 15 (omega (arith, kind_of)))

    in_use : (y : Limits) (row : List ℕ) (x : Message) (p : ℕ) (r : Bool) → (get_or l 0 0 ≡ 0 → ⊥) → get_or l 0 0 < length t → y ≡ limits_of row → row ≡ get_or t (get_or l 0 0) row
        → x ≡ message_of l → eqb p 0 ≡ zeros (take 16 (drop 8 l)) → p < 4294967296 → r ≡ message_within y x p → r ≡ slot_row k 0 (message_of l)
    unfolding slot_row message_of
    in_use y row x p r n h e g f z fits q =
        rw (ne_eqb (message_of l).kind 0 n)
        (q ∙ rw (e, g, f, of, limits_at (kind_limits k) 16 (get_or l 0 0) row (omega arith)) (message_within_lem k (message_of l) p z fits (omega arith)))

pub returns-then-zero : goal.returns-then-zero
returns-then-zero c = λ k of. search (empty, of)

pub returns-else-zero : goal.returns-else-zero
returns-else-zero c = λ k of. search (marked, of)

pub returns-in_default : goal.returns-in_default
returns-in_default c = λ k of. let h = c.in_default.ensures.lookup in search (above, of, h)

pub returns : goal.returns
returns c = λ k of. let h = c.in-Some.ensures.lookup in search (in_use, of, h)
