-- Blocks of words one after the other: where each begins, and a row written in a block of rows.
use mathlib.Core.Path.{◌≡◌, refl, sym, ap, ◌∙◌}
use mathlib.Core.List.{List, [], ◌∷◌}
use Prim.Native.Nat.{ℕ, zero, suc, ◌+◌, ◌*◌, ◌≤◌, ◌<◌}
use native.Mathlib.Nat.{le_of_suc-le-suc, not-suc-le-zero, mul-le-mul_right, zero-add, add-zero, add_assoc}
use native.Mathlib.Omega.{arith}
use lib.ListN.{length, get_or, set, drop}
use lib.Seq.{drop-append-add, drop-nil}
use Rattle.tables.specs.Rows.{rows_words, joined}
use Rattle.tables.specs.Inner.{put}
use Rattle.tables.proofs.All.{all_at}
use Rattle.tables.proofs.Table.{Wide, wider, put_after, put_before, put_all, length_rows, rows_put}

-- where block k begins
abbrev pub offset : List (List ℕ) → ℕ → ℕ
offset [] k = 0
offset (b ∷ bs) zero = 0
offset (b ∷ bs) (suc k) = length b + offset bs k

pub joined_drop : (bs : List (List ℕ)) (k : ℕ) → drop (offset bs k) (joined bs) ≡ joined (drop k bs)
unfolding joined
joined_drop [] k = rw (drop-nil {A = List ℕ} k)
joined_drop (b ∷ bs) zero = refl
joined_drop (b ∷ bs) (suc k) = drop-append-add b (joined bs) (offset bs k) ∙ joined_drop bs k

pub joined_put : (bs : List (List ℕ)) (k at : ℕ) (r : List ℕ) → k < length bs → at + length r ≤ length (get_or bs k [])
    → put (joined bs) (offset bs k + at) r ≡ joined (set bs k (put (get_or bs k []) at r))
unfolding joined
joined_put [] k at r h g = absurd (not-suc-le-zero h)
joined_put (b ∷ bs) zero at r h g = rw (zero-add at) (put_before b (joined bs) at r g)
joined_put (b ∷ bs) (suc k) at r h g =
    rw (add_assoc (length b) (offset bs k) at, put_after b (joined bs) (offset bs k + at) r, joined_put bs k at r (le_of_suc-le-suc h) g)

-- block k of bs, which begins at base, written whole
pub block_all : (bs : List (List ℕ)) (k base : ℕ) → k < length bs → offset bs k ≡ base → (r : List ℕ) → length r ≡ length (get_or bs k []) → put (joined bs) base r ≡ joined (set bs k r)
block_all bs k base h start r e =
    ap (λ (n : ℕ). put (joined bs) n r) (sym (add-zero (offset bs k) ∙ start))
    ∙ joined_put bs k 0 r h (omega arith)
    ∙ ap (λ (q : List ℕ). joined (set bs k q)) (put_all (get_or bs k []) r (sym e))

-- block k of bs, which begins at base, is the rows of xs
module _ {A : Type 0} (f : A → List ℕ) (w : ℕ) (bs : List (List ℕ)) (k base : ℕ) (in-bs : k < length bs) (start : offset bs k ≡ base)
    {xs : List A} (ws : Wide f w xs) (here : get_or bs k [] ≡ rows_words f xs) where
  -- part of a row written
  pub block_put : (i j : ℕ) (a d : A) (r : List ℕ) → i < length xs → j + length r ≤ w → put (f (get_or xs i d)) j r ≡ f a
      → put (joined bs) (base + (i * w + j)) r ≡ joined (set bs k (rows_words f (set xs i a)))
  block_put i j a d r h g e =
      let more : suc i * w ≤ length xs * w = mul-le-mul_right w h in
      let last : w + i * w ≤ length xs * w = rw (wider i w) at more in
      let inside : i * w + j + length r ≤ length (get_or bs k []) = rw (here, length_rows f w ws) (omega arith) in
      ap (λ (b : ℕ). put (joined bs) (b + (i * w + j)) r) (sym start)
      ∙ joined_put bs k (i * w + j) r in-bs inside
      ∙ ap (λ (q : List ℕ). joined (set bs k q)) (ap (λ (q : List ℕ). put q (i * w + j) r) here ∙ rows_put f w ws i j a d r h g e)

  -- a row written
  pub block_set : (i : ℕ) (a : A) → i < length xs → length (f a) ≡ w → put (joined bs) (base + i * w) (f a) ≡ joined (set bs k (rows_words f (set xs i a)))
  block_set i a h e =
      rw (add-zero (i * w)) at (block_put i 0 a a (f a) h (omega arith) (put_all (f (get_or xs i a)) (f a) (all_at i a ws h ∙ sym e)))
