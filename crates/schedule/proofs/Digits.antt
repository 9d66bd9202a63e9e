-- Decimal digits one at a time, and texts that are put one after the other.
use Rattle.std.proofs.Common.{pow-suc, ℕ, zero, suc, ◌+◌, ◌*◌, ◌-◌, ◌/◌, ◌%◌, ◌^◌, ◌≤◌, ◌<◌, ◌≡◌, sym, ◌∙◌, List, [], ◌∷◌, ◌++◌, append_assoc, append-nil, arith, add-one, length, get_or, take, set, take-suc-set, take_all, lt-ltb, le-ltb}
use Rattle.schedule.specs.Text.{decimal_in, decimal, fields_text, word_shown, answer_text}
use Rattle.schedule.specs.Inner.{Printed}

pub one_digit : (room n : ℕ) → 0 < room → n < 10 → decimal_in room n ≡ (48 + n) ∷ []
unfolding decimal_in
one_digit zero n e h = absurd (omega arith)
one_digit (suc r) n e h = simp (lt-ltb n 10 h)

pub more_digits : (room n : ℕ) → 0 < room → 10 ≤ n
    → decimal_in room n ≡ decimal_in (room - 1) (n / 10) ++ ((48 + n % 10) ∷ [])
unfolding decimal_in
more_digits zero n e h = absurd (omega arith)
more_digits (suc r) n e h = let z : suc r - 1 ≡ r = omega arith in rw z (simp (le-ltb n 10 h))

pub less_room : (room n : ℕ) → 10 ≤ n → n < 10 ^ room → (0 < room - 1) × (n / 10 < 10 ^ (room - 1))
less_room zero n e h = absurd (omega arith)
less_room (suc zero) n e h = absurd (omega arith)
less_room (suc (suc r)) n e h =
    let z : suc (suc r) - 1 ≡ suc r = omega arith in
    rw z (omega arith, let k : n < 10 ^ suc r * 10 = rw (pow-suc 10 (suc r)) at h in omega arith)

pub put_one : (out : List ℕ) (at b : ℕ) → at < length out → Printed 1 out at (b ∷ []) (set out at b) (at + 1)
put_one out at b h = record { low = omega arith; high = omega arith; text = rw (add-one, take-suc-set out at b h) }

pub put_none : (room : ℕ) (out : List ℕ) (at : ℕ) → Printed room out at [] out at
put_none room out at = record { low = omega arith; high = omega arith; text = sym (append-nil _) }

-- a text after another
pub then : (a b : ℕ) (old mid new : List ℕ) (x y z : ℕ) (s t : List ℕ) → Printed a old x s mid y → Printed b mid y t new z
    → Printed (a + b) old x (s ++ t) new z
then a b old mid new x y z s t p q =
    record {
      low = omega arith;
      high = omega arith;
      text = q.text ∙ rw p.text (append_assoc (take x old) s t);
    }

pub spaced : (n : ℕ) (old mid new : List ℕ) (x y z : ℕ) → Printed 1 old x (32 ∷ []) mid y → Printed 20 mid y (decimal n) new z
    → Printed 21 old x (32 ∷ decimal n) new z
spaced n old mid new x y z p q = then 1 20 old mid new x y z (32 ∷ []) (decimal n) p q

-- the digits of n
module _ (room : ℕ) (out : List ℕ) (at n : ℕ) where
  module _ (some : 0 < room) where
    pub a_digit : n < 10 → (new : List ℕ) (r : ℕ) → Printed 1 out at ((48 + n) ∷ []) new r → Printed room out at (decimal_in room n) new r
    a_digit h new r p = record { low = p.low; high = omega arith; text = p.text ∙ rw (one_digit room n some h) }

    pub last_digit : 10 ≤ n → (mid new : List ℕ) (k r : ℕ) → Printed (room - 1) out at (decimal_in (room - 1) (n / 10)) mid k
        → Printed 1 mid k ((48 + n % 10) ∷ []) new r → Printed room out at (decimal_in room n) new r
    last_digit h mid new k r p q =
        let e : room - 1 + 1 ≡ room = omega arith in
        rw (more_digits room n some h) (rw e at (then (room - 1) 1 out mid new at k r _ _ p q))

-- numbers, each after one space
fields_suc : (v : List ℕ) (i : ℕ) → i < length v → fields_text (take (suc i) v) ≡ fields_text (take i v) ++ (32 ∷ decimal (get_or v i 0))
unfolding fields_text
fields_suc [] i h = absurd (omega arith)
fields_suc (n ∷ ns) zero h = append-nil _
fields_suc (n ∷ ns) (suc i) h = rw (fields_suc ns i (omega arith)) (sym (append_assoc (32 ∷ decimal n) _ _))

module _ (old : List ℕ) (at : ℕ) (v : List ℕ) where
  pub no_fields : Printed (0 * 21) old at (fields_text (take 0 v)) old at
  unfolding fields_text
  no_fields = put_none 0 old at

  pub next_field : (i : ℕ) (mid new : List ℕ) (k r : ℕ) → i < length v → Printed (i * 21) old at (fields_text (take i v)) mid k
      → Printed 21 mid k (32 ∷ decimal (get_or v i 0)) new r → Printed ((i + 1) * 21) old at (fields_text (take (i + 1) v)) new r
  next_field i mid new k r h p q =
      let w = then (i * 21) 21 old mid new at k r _ _ p q in
      record { low = w.low; high = omega arith; text = w.text ∙ rw (add-one, fields_suc v i h) }

  pub all_fields : (i : ℕ) (new : List ℕ) (r : ℕ) → i ≤ length v → length v ≤ i → Printed (i * 21) old at (fields_text (take i v)) new r
      → Printed (length v * 21) old at (fields_text v) new r
  all_fields i new r h k p =
      record { low = p.low; high = omega arith; text = p.text ∙ rw (take_all i v k) }

-- an answer
module _ (old mid end : List ℕ) (at a b : ℕ) (line code client number owner word shown mark : ℕ) where
  pub answered : (new : List ℕ) (r : ℕ) → shown ≡ word_shown code word → Printed 20 old at (decimal line) mid a
      → Printed 126 mid a (fields_text (code ∷ client ∷ number ∷ owner ∷ shown ∷ mark ∷ [])) end b → Printed 1 end b (10 ∷ []) new r
      → Printed 147 old at (answer_text line code client number owner word mark) new r
  unfolding answer_text
  answered new r e p q s =
      rw (← e) (then 20 127 old mid new at a r _ _ p (then 126 1 mid end new a b r _ _ q s))
