-- Empty slots and waiting messages, as slots are emptied and filled.
use Rattle.std.specs.Prelude.{if◌then◌else◌}
use mathlib.Core.Path.{◌≡◌, subst}
use mathlib.Core.Bool.{Bool, true, false}
use mathlib.Core.List.Memᴰ
use mathlib.Core.List.{List, [], ◌∷◌, Memᴰ}
use mathlib.Core.Logic.{⊎_elim}
use Prim.Native.Nat.{ℕ, zero, suc, ◌+◌, ◌≤◌, ◌<◌}
use native.Mathlib.Omega.{arith}
use lib.ListN.{length, get_or, set}
use Rattle.sets.proofs.Tests.{if_ind}
use Rattle.tables.specs.declared.Message.{Message}
use Rattle.tables.specs.Rows.{put_first}
use Rattle.tables.specs.Tables.{no_message, is_empty}
use Rattle.mail.specs.Slots.{placed, empty_slots}

-- P of a message in some slot that is not empty
pub data Somewhere (P : Message → Type 0) : List Message → Type 0 where
  here : {x : Message} {ss : List Message} → is_empty x ≡ false → P x → Somewhere P (x ∷ ss)
  there : {x : Message} {ss : List Message} → Somewhere P ss → Somewhere P (x ∷ ss)

-- slots count from 0 here
abbrev pub at : {P : Message → Type 0} {ss : List Message} → Somewhere P ss → ℕ
at (here f p) = 0
at (there s) = suc (at s)

pub record Found (P : Message → Type 0) (ss : List Message) (i : ℕ) : Type 0 where
  pub inside : i < length ss
  pub full : is_empty (get_or ss i no_message) ≡ false
  pub is : P (get_or ss i no_message)

pub found : {P : Message → Type 0} {ss : List Message} → (s : Somewhere P ss) → Found P ss (at s)
found (here f p) = record { inside = omega arith; full = f; is = p }
found (there s) = let r = found s in record { inside = omega (arith, r.inside); full = r.full; is = r.is }

-- ---- a message enters the first empty slot

one_more : (b : Bool) (n : ℕ) → n ≤ (if b then suc n else n)
one_more true n = omega arith
one_more false n = omega arith

put_count : (x : Message) (ss : List Message) → empty_slots ss ≤ empty_slots (put_first is_empty x ss) + 1
put_count x [] = omega arith
put_count x (y ∷ ss) = go (is_empty y) (put_count x ss)
  where
    go : (b : Bool) → empty_slots ss ≤ empty_slots (put_first is_empty x ss) + 1
        → (if b then suc (empty_slots ss) else empty_slots ss) ≤ empty_slots (if b then x ∷ ss else y ∷ put_first is_empty x ss) + 1
    go true h = omega (arith, one_more (is_empty x) (empty_slots ss))
    go false h = omega (arith, one_more (is_empty y) (empty_slots (put_first is_empty x ss)))

pub placed_count : (xs ss : List Message) → empty_slots ss ≤ empty_slots (placed xs ss) + length xs
placed_count [] ss = omega arith
placed_count (x ∷ xs) ss = omega (arith, placed_count xs (put_first is_empty x ss), put_count x ss)

module _ {P : Message → Type 0} where
  put_keeps : (x : Message) {ss : List Message} → Somewhere P ss → Somewhere P (put_first is_empty x ss)
  put_keeps x (here f p) = rw f (here f p)
  put_keeps x (there {x = y} s) = if_ind (Somewhere P) (is_empty y) (λ _. there s) (λ _. there (put_keeps x s))

  put_here : (x : Message) (ss : List Message) → is_empty x ≡ false → P x → 1 ≤ empty_slots ss → Somewhere P (put_first is_empty x ss)
  put_here x [] f p h = absurd (omega arith)
  put_here x (y ∷ ss) f p h = go (is_empty y) h (put_here x ss f p)
    where
      go : (b : Bool) → 1 ≤ (if b then suc (empty_slots ss) else empty_slots ss) → (1 ≤ empty_slots ss → Somewhere P (put_first is_empty x ss))
          → Somewhere P (if b then x ∷ ss else y ∷ put_first is_empty x ss)
      go true h r = here f p
      go false h r = there (r h)

  -- what waits stays, but where its slot is emptied
  pub placed_keeps : (xs : List Message) {ss : List Message} → Somewhere P ss → Somewhere P (placed xs ss)
  placed_keeps [] s = s
  placed_keeps (x ∷ xs) s = placed_keeps xs (put_keeps x s)

  pub freed_keeps : {ss : List Message} (i : ℕ) → (P (get_or ss i no_message) → ⊥) → Somewhere P ss → Somewhere P (set ss i no_message)
  freed_keeps zero n (here f p) = absurd (n p)
  freed_keeps (suc i) n (here f p) = here f p
  freed_keeps zero n (there s) = there s
  freed_keeps (suc i) n (there s) = there (freed_keeps i n s)

  -- what is sent waits
  pub placed_has : (y : Message) → is_empty y ≡ false → P y → (xs ss : List Message) → length xs ≤ empty_slots ss → Memᴰ y xs → Somewhere P (placed xs ss)
  placed_has y f p [] ss h m = absurd (Memᴰ.not-nil m)
  placed_has y f p (x ∷ xs) ss h m =
      ⊎_elim (λ (e : y ≡ x). placed_keeps xs (put_here x ss (rw e at f) (subst P e p) (omega arith)))
      (λ k. placed_has y f p xs (put_first is_empty x ss) (omega (arith, put_count x ss)) k) (Memᴰ.cases_cons m)
