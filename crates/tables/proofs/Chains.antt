-- Rows walked by an iterator: `chunks_exact` gives the rows that the words hold.
use Rattle.std.proofs.Common.{◌≡◌, sym, ap, subst, ◌∙◌, ℕ, suc, ◌*◌, ◌/◌, ◌≤◌, ◌<◌, List, ◌∷◌, ◌++◌, None, Some, Bor, length, take, lit<, length-append, add-one}
use Rattle.std.proofs.Math.Nat.{add-div_left, mul-div_cancel, div-eq_of_lt}
use Rattle.std.proofs.lemmas.Iterator.{YieldsList}
use Rattle.std.proofs.lemmas.Iterator.Splits.{YieldsList-from_shown_while}
use Rattle.std.specs.Slice.Iter.{chunks_exact_rest, chunks_exact_size, chunks_exact_steps}
use Rattle.std.specs.declared.slice.ChunksExact.{ChunksExact}
use lib.Seq.{length-take-le, take_at, drop_at}
use Rattle.tables.specs.Machines.{rows_of, entry_of, entries_of, message_of, slots_of}
use Rattle.tables.proofs.Read.{entry_cut, message_cut}
use Rattle.tables.proofs.Table.{length_rows_of, rows_of_cut}

module _ {A : Type 0} (g : List ℕ → A) (w : ℕ) (some : 0 < w) (cut : (q : List ℕ) → g (take w q) ≡ g q) where
  -- the rows that the iterator has left
  left : ChunksExact ℕ → List A
  left s = rows_of g (length (chunks_exact_rest s) / w) w (chunks_exact_rest s)

  none_left : (s t : ChunksExact ℕ) → chunks_exact_size s ≡ w → chunks_exact_steps s None t → length (left s) ≡ 0
  unfolding left
  none_left s t e h = length_rows_of g _ w (chunks_exact_rest s) ∙ div-eq_of_lt (rw e at h.1.0)

  one_left : (s : ChunksExact ℕ) (x : Bor (List ℕ)) (t : ChunksExact ℕ) → chunks_exact_size s ≡ w → chunks_exact_steps s (Some x) t
      → (chunks_exact_size t ≡ w) × (left s ≡ g x.now ∷ left t)
  unfolding left rows_of
  one_left s x t e h =
      let rest : List ℕ = chunks_exact_rest t in
      let k : length x.now ≡ w = h.1.1 ∙ e in
      let many : length (x.now ++ rest) / w ≡ suc (length rest / w) = rw (length-append x.now rest, k, add-div_left (length rest) some) (add-one (length rest / w)) in
      let here : g (x.now ++ rest) ≡ g x.now = sym (cut (x.now ++ rest)) ∙ ap g (take_at x.now rest w k) in
      (h.0 ∙ e, rw (h.1.0, many, here, drop_at x.now rest w k))

  pub rows_yielded : {s : ChunksExact ℕ} (n : ℕ) (l : List ℕ) → chunks_exact_size s ≡ w → chunks_exact_rest s ≡ take (n * w) l → n * w ≤ length l
      → YieldsList chunks_exact_steps (λ x. g x.now) s (rows_of g n w l)
  unfolding left
  rows_yielded {s} n l e f h =
      let many : length (take (n * w) l) / w ≡ n = rw (length-take-le (n * w) l h) (mul-div_cancel n some) in
      let all : left s ≡ rows_of g n w l = rw (f, many) (rows_of_cut g n w l cut) in
      subst (YieldsList chunks_exact_steps (λ x. g x.now) s) all
      (YieldsList-from_shown_while chunks_exact_steps (λ x. g x.now) left (λ s. chunks_exact_size s ≡ w) none_left one_left s e)

-- the entries of a replica, and the slots
pub entries_yielded : {s : ChunksExact ℕ} (l : List ℕ) → chunks_exact_size s ≡ 20 → chunks_exact_rest s ≡ take 240 l → 240 ≤ length l
    → YieldsList chunks_exact_steps (λ x. entry_of x.now) s (entries_of l)
unfolding entries_of
entries_yielded l e f h = rows_yielded entry_of 20 (lit< tt) entry_cut 12 l e f h

pub slots_yielded : {s : ChunksExact ℕ} (l : List ℕ) → chunks_exact_size s ≡ 24 → chunks_exact_rest s ≡ take 3072 l → 3072 ≤ length l
    → YieldsList chunks_exact_steps (λ x. message_of x.now) s (slots_of l)
unfolding slots_of
slots_yielded l e f h = rows_yielded message_of 24 (lit< tt) message_cut 128 l e f h
