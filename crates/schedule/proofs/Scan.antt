-- One step of reading at a place of a line.
use Rattle.std.proofs.Common.{ℕ, ◌+◌, ◌*◌, ◌-◌, ◌≤◌, ◌<◌, ◌≡◌, refl, sym, ap, ◌∙◌, true, false, List, [], ◌∷◌, ◌++◌, append_assoc, append-nil, add-one, arith, length, get_or, take, drop, set, drop_of_length-le, length-append, length-set, drop-cons, take-suc-set, length-take-le, le-ltb, lt-ltb, le-leb, eq-eqb, ne_eqb}
use borrow.Author.Tests.{lt-leb}
use Rattle.schedule.specs.declared.Command.{Command}
use Rattle.schedule.specs.declared.Command.TheVariants.{Malformed}
use Rattle.std.specs.Prelude.{None, Some}
use Rattle.schedule.specs.Lines.{Numbers, push, after, start, inside, digit, numbers_of, pick, pick_all, said_by, command_of}
use Rattle.schedule.specs.Inner.{NumberAt}

pub cons_at : (l : List ℕ) (i : ℕ) → i < length l → drop i l ≡ get_or l i 0 ∷ drop (i + 1) l
cons_at l i h = rw (add-one, drop-cons l i 0)

pub is_digit : (b : ℕ) → 48 ≤ b → b ≤ 57 → digit b ≡ true
is_digit b lo hi = simp (le-leb 48 b lo, le-leb b 57 hi)

below_digits : (b : ℕ) → b < 48 → digit b ≡ false
below_digits b lo = simp (lt-leb 48 b lo)

above_digits : (b : ℕ) → 57 < b → digit b ≡ false
above_digits b hi = simp (le-leb 48 b (omega arith), lt-leb b 57 hi)

-- a number that begins at a place and is n so far, before place i
pub record Inside (l : List ℕ) (at i n : ℕ) : Type 0 where
  pub further : at < i
  pub within : i ≤ length l
  pub fits : n ≤ 4294967295
  pub same : numbers_of (drop at l) start ≡ numbers_of (drop i l) (inside n)

module _ (l : List ℕ) (at : ℕ) where
  pub at_end : length l ≤ at → numbers_of (drop at l) start ≡ None
  unfolding numbers_of
  at_end h = rw (drop_of_length-le l h)

  module _ (h : at < length l) where
    pub zero_digit : get_or l at 0 ≡ 48 → NumberAt 0 (at + 1) l at
    unfolding numbers_of
    zero_digit e = record { further = omega arith; within = omega arith; same = rw (cons_at l at h) (simp (eq-eqb _ _ e)) }

    no_digit : (get_or l at 0 ≡ 48 → ⊥) → digit (get_or l at 0) ≡ false → numbers_of (drop at l) start ≡ None
    unfolding numbers_of
    no_digit n e = rw (cons_at l at h) (simp (ne_eqb _ _ n, e))

    pub below : get_or l at 0 < 48 → numbers_of (drop at l) start ≡ None
    below k = no_digit (λ e. omega arith) (below_digits _ k)

    pub above : 57 < get_or l at 0 → numbers_of (drop at l) start ≡ None
    above k = no_digit (λ e. omega arith) (above_digits _ k)

    pub first_digit : 48 < get_or l at 0 → get_or l at 0 ≤ 57 → Inside l at (at + 1) (get_or l at 0 - 48)
    unfolding numbers_of
    first_digit lo hi =
        record {
          further = omega arith;
          within = omega arith;
          fits = omega arith;
          same = rw (cons_at l at h) (simp (ne_eqb (get_or l at 0) 48 (λ e. omega arith), is_digit (get_or l at 0) (omega arith) hi));
        }

  module _ (i n : ℕ) (w : Inside l at i n) where
    pub all_read : length l ≤ i → NumberAt n i l at
    unfolding numbers_of
    all_read h = record { further = w.further; within = w.within; same = w.same ∙ rw (drop_of_length-le l h) }

    module _ (h : i < length l) where
      ends : digit (get_or l i 0) ≡ false → NumberAt n i l at
      unfolding numbers_of
      ends e = record { further = w.further; within = w.within; same = w.same ∙ rw (cons_at l i h) (simp e) }

      pub ends_below : get_or l i 0 < 48 → NumberAt n i l at
      ends_below k = ends (below_digits _ k)

      pub ends_above : 57 < get_or l i 0 → NumberAt n i l at
      ends_above k = ends (above_digits _ k)

      module _ (lo : 48 ≤ get_or l i 0) (hi : get_or l i 0 ≤ 57) where
        pub too_large : 4294967295 < n * 10 + (get_or l i 0 - 48) → numbers_of (drop at l) start ≡ None
        unfolding numbers_of
        too_large m = w.same ∙ rw (cons_at l i h) (simp (is_digit _ lo hi, lt-leb _ _ m))

        pub next_digit : n * 10 + (get_or l i 0 - 48) ≤ 4294967295 → Inside l at (i + 1) (n * 10 + (get_or l i 0 - 48))
        unfolding numbers_of
        next_digit m =
            record {
              further = omega arith;
              within = omega arith;
              fits = m;
              same = w.same ∙ rw (cons_at l i h) (simp (is_digit _ lo hi, le-leb _ _ m));
            }

-- numbers and then more
abbrev join : List ℕ → Numbers → Numbers
join ms None = None
join ms (Some ns) = Some (ms ++ ns)

join_nil : (o : Numbers) → o ≡ join [] o
join_nil None = refl
join_nil (Some ns) = refl

join_push : (ms : List ℕ) (n : ℕ) (o : Numbers) → join ms (push n o) ≡ join (ms ++ (n ∷ [])) o
join_push ms n None = refl
join_push ms n (Some ns) = ap Some (sym (append_assoc ms (n ∷ []) ns))

pub too_many : (b : ℕ) (ms : List ℕ) (n : ℕ) (o : Numbers) → 8 ≤ length ms → Malformed ≡ pick_all b (join ms (push n o))
unfolding pick_all
too_many b ms n None h = refl
too_many b ms n (Some ns) h =
    let k = length (ms ++ (n ∷ ns)) in
    let many : 8 < k = simp length-append (omega arith) in
    simp (ne_eqb k 8 (λ q. omega arith), ne_eqb k 7 (λ q. omega arith), ne_eqb k 1 (λ q. omega arith), ne_eqb k 2 (λ q. omega arith))

-- a line of which n numbers are read into v, before place i
pub record Sofar (l v : List ℕ) (n i : ℕ) : Type 0 where
  pub short : length l ≤ 80
  pub some : 1 ≤ length l
  pub within : i ≤ length l
  pub room : length v ≡ 8
  pub few : n ≤ 8
  pub same : said_by l ≡ pick_all (get_or l 0 0) (join (take n v) (numbers_of (drop i l) after))

pub sofar_none : (l v : List ℕ) → length l ≤ 80 → 0 < length l → length v ≡ 8 → Sofar l v 0 1
unfolding said_by
sofar_none [] v short one room = absurd (omega arith)
sofar_none (b ∷ l) v short one room =
    record { short = short; some = omega arith; within = omega arith; room = room; few = omega arith; same = ap (pick_all b) (join_nil _) }

pub overlong : (l : List ℕ) → 80 < length l → Malformed ≡ command_of l
unfolding command_of
overlong l h = simp (lt-ltb 80 (length l) h)

pub empty_line : (l : List ℕ) → length l ≡ 0 → Malformed ≡ command_of l
unfolding command_of said_by
empty_line [] h = refl
empty_line (b ∷ l) h = absurd (omega arith)

module _ (l v : List ℕ) (n i : ℕ) (w : Sofar l v n i) where
  said : command_of l ≡ pick_all (get_or l 0 0) (join (take n v) (numbers_of (drop i l) after))
  unfolding command_of
  said = simp (le-ltb 80 (length l) w.short) w.same

  pub many : n ≡ length (take n v)
  many = sym (length-take-le n v (omega (arith, w.few, w.room)))

  pub chosen : (b : ℕ) (r : Command) → length l ≤ i → b ≡ get_or l 0 0 → r ≡ pick b (length (take n v)) (take n v) → r ≡ command_of l
  unfolding pick_all numbers_of
  chosen b r h f e = e ∙ sym (said ∙ rw (drop_of_length-le l h, append-nil, f))

  module _ (h : i < length l) where
    pub no_space : (get_or l i 0 ≡ 32 → ⊥) → Malformed ≡ command_of l
    unfolding pick_all numbers_of
    no_space e = sym (said ∙ rw (cons_at l i h) (simp (ne_eqb _ _ e)))

    module _ (e : get_or l i 0 ≡ 32) where
      start_at : numbers_of (drop i l) after ≡ numbers_of (drop (i + 1) l) start
      unfolding numbers_of
      start_at = rw (cons_at l i h) (simp (eq-eqb _ _ e))

      pub no_number : numbers_of (drop (i + 1) l) start ≡ None → Malformed ≡ command_of l
      unfolding pick_all
      no_number g = sym (said ∙ rw (start_at, g))

      module _ (x next : ℕ) (f : NumberAt x next l (i + 1)) where
        pub ninth : 8 ≤ n → Malformed ≡ command_of l
        ninth k =
            too_many (get_or l 0 0) (take n v) x (numbers_of (drop next l) after) (omega (arith, w.few, many))
            ∙ sym (said ∙ rw (start_at, f.same))

        pub another : n < 8 → Sofar l (set v n x) (n + 1) next
        another k =
            record {
              short = w.short;
              some = w.some;
              within = f.within;
              room = simp length-set w.room;
              few = omega arith;
              same = w.same ∙ rw (start_at, f.same, join_push, add-one, take-suc-set v n x (omega (arith, w.room)));
            }
