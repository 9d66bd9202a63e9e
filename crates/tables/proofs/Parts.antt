-- Parts of a list of words: what is copied into one, what a callee wrote into one that it was lent, and their lengths.
use mathlib.Core.Path.{◌≡◌, ◌∙◌}
use mathlib.Core.List.{List, [], ◌++◌, append-nil, append_assoc}
use Prim.Native.Nat.{ℕ, ◌+◌, ◌-◌, ◌≤◌}
use native.Mathlib.Nat.{le_refl, add-sub_cancel_left, zero-add, add-zero}
use native.Mathlib.Omega.{arith}
use lib.ListN.{length, get_or, take, drop, length-append, length-drop, drop_of_length-le}
use lib.Seq.{get_or-drop, take_all, take_at, drop_at, drop-drop, length-take-le}
use Rattle.tables.specs.Inner.{put}

pub length_put : (l : List ℕ) (at : ℕ) (r : List ℕ) → at + length r ≤ length l → length (put l at r) ≡ length l
unfolding put
length_put l at r h = simp (length-append, length-drop) (omega (arith, length-take-le at l (omega arith)))

-- ---- a part of n words, `l[at..at + n]`

pub cut_is : (l : List ℕ) (at n : ℕ) → take (at + n - at) (drop at l) ≡ take n (drop at l)
cut_is l at n = rw (add-sub_cancel_left at n)

pub length_cut : (l : List ℕ) (at n : ℕ) → at + n ≤ length l → length (take n (drop at l)) ≡ n
length_cut l at n h = length-take-le n (drop at l) (rw length-drop (omega arith))

-- ---- a part that runs to the end, `l[at..]`

pub first_word_lem : (l : List ℕ) (at : ℕ) → get_or (drop at l) 0 0 ≡ get_or l at 0
first_word_lem l at = get_or-drop at l 0 0 ∙ rw (add-zero at)

pub rest_all : (l : List ℕ) (at : ℕ) → take (length l - at) (drop at l) ≡ drop at l
rest_all l at = take_all (length l - at) (drop at l) (rw length-drop (le_refl (length l - at)))

-- what a callee wrote at the start of the part, said of the whole
pub put_rest : (l : List ℕ) (at : ℕ) (r ys : List ℕ) → ys ≡ put (take (length l - at) (drop at l)) 0 r
    → take at l ++ (ys ++ drop (length l - at) (drop at l)) ≡ put l at r
unfolding put
put_rest l at r ys e =
    let d : drop (length l - at) (drop at l) ≡ [] = drop_of_length-le (drop at l) {i = length l - at} (rw length-drop (le_refl (length l - at))) in
    rw (d, append-nil ys, e, rest_all l at, zero-add (length r), drop-drop (length r) at l)

-- the first n words of a row written, and then its page in the part behind them
pub put_two : (l m head page row ys : List ℕ) (n : ℕ) → length head ≡ n → row ≡ head ++ page → m ≡ put l 0 head → ys ≡ put (take (length m - n) (drop n m)) 0 page
    → take n m ++ (ys ++ drop (length m - n) (drop n m)) ≡ put l 0 row
unfolding put
put_two l m head page row ys n w r e f =
    let t : take n m ≡ head = rw e (take_at head (drop (0 + length head) l) n w) in
    let d : drop n m ≡ drop n l = rw (e, drop_at head (drop (0 + length head) l) n w, zero-add (length head), w) in
    put_rest m n page ys f
    ∙ rw (t, ← drop-drop (length page) n m, d, drop-drop (length page) n l, r, zero-add (length (head ++ page)), length-append, w, append_assoc)
