-- Counts: rows that begin with 1, and slots that are not empty.
use Rattle.std.specs.Prelude.{if◌then◌else◌}
use mathlib.Core.Path.{◌≡◌, refl, ◌∙◌}
use mathlib.Core.Bool.{Bool, true, false, not}
use mathlib.Core.List.{List, [], ◌∷◌}
use Prim.Native.Nat.{ℕ, zero, suc, ◌+◌, ◌*◌, ◌-◌, ◌≤◌}
use native.Mathlib.Nat.{zero-mul}
use native.Mathlib.Numerals.{add-one}
use Rattle.std.specs.Prelude.{cond, count_by}
use Rattle.std.specs.List.{range_with_len}
use Rattle.std.proofs.lemmas.List.{drop-drop}
use Rattle.std.proofs.lemmas.List.FromFn.{length-range_with_len}
use Rattle.std.proofs.lemmas.List.Sums.{sum_by-cons, count_by-le-length}
use native.Mathlib.Omega.{arith}
use lib.Dec.{eqb}
use lib.ListN.{length, get_or, take, drop}
use Rattle.tables.specs.Layouts.{flags_at, entries_at}
use Rattle.tables.specs.declared.Layout.{Layout}
use Rattle.tables.specs.Rows.{count}
use Rattle.tables.specs.Machines.{rows_of, clients_of, directories_of, client_of, directory_of, replicas_of, machine_of}
use Rattle.tables.specs.Tables.{is_empty}
use Rattle.tables.proofs.Read.{its_slots}
use Rattle.tables.proofs.Parts.{first_word_lem, rest_all}
use Rattle.tables.proofs.Table.{wider}
use Rattle.mail.specs.Slots.{empty_slots}
use Rattle.mail.proofs.Messages.{count_le}
use Rattle.machine.specs.Steps.{waiting, parties_down}
use Rattle.machine.specs.Inner.{rows_down, counts}

-- ---- the rows

abbrev is_one : ℕ → Bool
is_one v = eqb v 1

abbrev first_word : List ℕ → ℕ
first_word l = get_or l 0 0

-- rows by their place, and rows one after the other, which pass a test where they begin with 1
module _ {A : Type 0} (p : A → Bool) (g : List ℕ → A) (same : (l : List ℕ) → p (g l) ≡ is_one (first_word l)) (l : List ℕ) (w : ℕ) where
  by_place : (n s : ℕ) → count_by (λ i. is_one (get_or l (i * w) 0)) (range_with_len s n) ≡ count p (rows_of g n w (drop (s * w) l))
  unfolding rows_of
  by_place zero s = refl
  by_place (suc n) s =
      let next : suc s * w ≡ s * w + w = omega (arith, wider s w) in
      sum_by-cons (λ i. cond (is_one (get_or l (i * w) 0)) 1 0) s (range_with_len (s + 1) n)
      ∙ rw (by_place n (s + 1), add-one s, next, same (drop (s * w) l), first_word_lem l (s * w), drop-drop w (s * w) l) (go (is_one (get_or l (s * w) 0)) (count p (rows_of g n w (drop (s * w + w) l))))
    where
      go : (b : Bool) (rest : ℕ) → cond b 1 0 + rest ≡ (if b then suc rest else rest)
      go true rest = omega arith
      go false rest = omega arith

  pub rows_down_is : (n : ℕ) → rows_down l w n ≡ count p (rows_of g n w l)
  unfolding rows_down
  rows_down_is n = by_place n 0 ∙ rw (zero-mul w)

-- ---- the counts

module _ {A : Type 0} (p : A → Bool) where
  count_not : (xs : List A) → count p xs + count (λ x. not (p x)) xs ≡ length xs
  count_not [] = refl
  count_not (x ∷ xs) = go (p x) (count_not xs)
    where
      go : (b : Bool) → count p xs + count (λ x. not (p x)) xs ≡ length xs
          → (if b then suc (count p xs) else count p xs) + (if not b then suc (count (λ x. not (p x)) xs) else count (λ x. not (p x)) xs) ≡ suc (length xs)
      go true h = omega arith
      go false h = omega arith

pub few_down : (l : List ℕ) (w n : ℕ) → rows_down l w n ≤ n
unfolding rows_down
few_down l w n = omega (arith, count_by-le-length (λ i. is_one (get_or l (i * w) 0)) (range_with_len 0 n), length-range_with_len 0 n)

replicas_down : (n : ℕ) (flags l : List ℕ) → count (λ r. eqb r.down 1) (replicas_of n flags l) ≡ count is_one (rows_of first_word n 1 flags)
unfolding replicas_of rows_of
replicas_down zero flags l = refl
replicas_down (suc n) flags l = rw (replicas_down n (drop 1 flags) (drop 240 l))

module _ (lay : Layout) (m : List ℕ) where
  pub some_empty : (e : ℕ) → e ≡ empty_slots (machine_of lay m).slots → e ≤ 128
  some_empty e q = omega (arith, count_le is_empty (machine_of lay m).slots, its_slots lay m)

  waits : (e : ℕ) → e ≡ empty_slots (machine_of lay m).slots → 128 - e ≡ waiting (machine_of lay m)
  unfolding waiting
  waits e q = omega (arith, count_not is_empty (machine_of lay m).slots, its_slots lay m)

  downs : rows_down (drop 16 m) 24 8 + rows_down (drop 208 m) 4 lay.directories + rows_down (drop (flags_at lay) m) 1 7 ≡ parties_down (machine_of lay m)
  unfolding parties_down machine_of clients_of directories_of client_of directory_of
  downs =
      rw (
        rows_down_is (λ w. eqb w.down 1) client_of (λ l. refl) (drop 16 m) 24 8,
        rows_down_is (λ w. eqb w.down 1) directory_of (λ l. refl) (drop 208 m) 4 lay.directories,
        rows_down_is is_one first_word (λ l. refl) (drop (flags_at lay) m) 1 7,
        replicas_down 7 (drop (flags_at lay) m) (drop (entries_at lay) m),
      )

  -- the rows are lent, the flags from place `at` on
  pub reports : (e c d r at : ℕ) → at ≡ flags_at lay → e ≡ empty_slots (machine_of lay m).slots → c ≡ rows_down (take (length m - 16) (drop 16 m)) 24 8
      → d ≡ rows_down (take (length m - 208) (drop 208 m)) 4 lay.directories → r ≡ rows_down (take (length m - at) (drop at m)) 1 7
      → record { code = 0; waiting = 128 - e; down = c + d + r } ≡ counts (machine_of lay m)
  reports e c d r at p qe qc qd qr = rw (waits e qe, qc, qd, qr, rest_all m 16, rest_all m 208, rest_all m at, p, downs)
