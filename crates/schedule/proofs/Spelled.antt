-- Bytes are read as numbers exactly where they are those numbers, each after one space.
use Rattle.std.proofs.Common.{pow-suc, if◌then◌else◌, ℕ, zero, suc, ◌+◌, ◌*◌, ◌-◌, ◌/◌, ◌%◌, ◌^◌, ◌≤◌, ◌<◌, ◌≡◌, refl, sym, ap, ◌∙◌, Bool, true, false, List, [], ◌∷◌, ◌++◌, append_assoc, ◌⊎◌, inl, inr, ⊎_elim, arith, ltb, leb, eqb, le-leb, ne_eqb, ltb-true, ltb-false, leb-true, eqb-true}
use borrow.Author.Tests.{eqb-false}
use Rattle.sets.proofs.Tests.{T_true, true-T, and_elim}
use Rattle.schedule.specs.Text.{decimal_in, decimal, fields_text, Fields}
use Rattle.std.specs.Prelude.{None, Some}
use Rattle.schedule.specs.Lines.{Numbers, push, Place, after, start, inside, digit, numbers_of}
use Rattle.schedule.proofs.Digits.{one_digit, more_digits}
use Rattle.schedule.proofs.Scan.{is_digit}

-- more room than is needed changes nothing
more_room : (r n : ℕ) → (r ≡ 0 → ⊥) → n < 10 ^ r → decimal_in (suc r) n ≡ decimal_in r n
more_room zero n e h = absurd (e refl)
more_room (suc r) n e h = go (ltb n 10) refl (λ f g. more_room r (n / 10) f g)
  where
    go : (t : Bool) → ltb n 10 ≡ t → ((r ≡ 0 → ⊥) → n / 10 < 10 ^ r → decimal_in (suc r) (n / 10) ≡ decimal_in r (n / 10))
        → decimal_in (suc (suc r)) n ≡ decimal_in (suc r) n
    go true q ih =
        one_digit (suc (suc r)) n (omega arith) (ltb-true n 10 q) ∙ sym (one_digit (suc r) n (omega arith) (ltb-true n 10 q))
    go false q ih =
        let big = ltb-false n 10 q in
        let a : suc (suc r) - 1 ≡ suc r = omega arith in
        let b : suc r - 1 ≡ r = omega arith in
        let k : n < 10 ^ r * 10 = rw (pow-suc 10 r) at h in
        let f : r ≡ 0 → ⊥ = λ z. (let j : n < 10 ^ 0 * 10 = rw z at k in omega arith) in
        more_digits (suc (suc r)) n (omega arith) big
        ∙ rw (a, ih f (omega arith)) (sym (more_digits (suc r) n (omega arith) big ∙ rw b))

-- one digit more at the end
decimal_more : (n d : ℕ) → 0 < n → d < 10 → n * 10 + d ≤ 4294967295 → decimal (n * 10 + d) ≡ decimal n ++ ((48 + d) ∷ [])
unfolding decimal
decimal_more n d pos low top =
    let p : (n * 10 + d) / 10 ≡ n = omega arith in
    let q : (n * 10 + d) % 10 ≡ d = omega arith in
    more_digits 20 (n * 10 + d) (omega arith) (omega arith)
    ∙ rw (p, q) (ap (λ (l : List ℕ). l ++ ((48 + d) ∷ [])) (sym (more_room 19 n (λ z. omega arith) (omega arith))))

-- a byte that is a digit
module _ (b : ℕ) (e : digit b ≡ true) where
  digit_range : (48 ≤ b) × (b ≤ 57)
  digit_range =
      let w = and_elim (leb 48 b) (leb b 57) (true-T (digit b) e) in
      (leb-true 48 b (T_true _ w.0), leb-true b 57 (T_true _ w.1))

  back : 48 + (b - 48) ≡ b
  back = let w = digit_range in omega arith

  single : decimal (b - 48) ≡ b ∷ []
  unfolding decimal
  single =
      let w = digit_range in one_digit 20 (b - 48) (omega arith) (omega arith) ∙ ap (λ (n : ℕ). n ∷ []) back

  grown : (n : ℕ) (l : List ℕ) → 0 < n → n * 10 + (b - 48) ≤ 4294967295 → decimal (n * 10 + (b - 48)) ++ l ≡ decimal n ++ (b ∷ l)
  grown n l pos top =
      let w = digit_range in
      ap (λ (k : List ℕ). k ++ l) (decimal_more n (b - 48) pos (omega arith) top ∙ ap (λ (d : ℕ). decimal n ++ (d ∷ [])) back)
      ∙ append_assoc (decimal n) (b ∷ []) l

-- the bytes l are the numbers ns, each after one space
pub record Spelled (l ns : List ℕ) : Type 0 where
  pub text : l ≡ fields_text ns
  pub fields : Fields ns

spelled_as : {k l ns : List ℕ} → k ≡ l → Spelled l ns → Spelled k ns
spelled_as e s = rw e s

spell_none : Spelled [] []
unfolding fields_text
spell_none = record { text = refl; fields = tt }

spell : (n : ℕ) (l ms ns : List ℕ) → n ≤ 4294967295 → Spelled l ms → ns ≡ n ∷ ms → Spelled ((32 ∷ decimal n) ++ l) ns
unfolding fields_text
spell n l ms ns h s e = rw e (record { text = ap (λ (k : List ℕ). (32 ∷ decimal n) ++ k) s.text; fields = (h, s.fields) })

-- what a reading that succeeds says of its parts
never : {A : Type 0} {ns : List ℕ} → None ≡ Some ns → A
never e = cc

on_if : (t : Bool) (x y : Numbers) {ns : List ℕ} → (if t then x else y) ≡ Some ns
    → ((t ≡ true) × (x ≡ Some ns)) ⊎ ((t ≡ false) × (y ≡ Some ns))
on_if true x y e = inl (refl, e)
on_if false x y e = inr (refl, e)

-- a choice that is none where its test fails
on_only : (t : Bool) (x : Numbers) {ns : List ℕ} → (if t then x else None) ≡ Some ns → (t ≡ true) × (x ≡ Some ns)
on_only true x e = (refl, e)
on_only false x e = never e

on_push : (n : ℕ) (o : Numbers) {ns : List ℕ} → push n o ≡ Some ns → (ms : List ℕ) × ((o ≡ Some ms) × (ns ≡ n ∷ ms))
on_push n None e = never e
on_push n (Some ms) {ns} e = (ms, (refl, let z : ns ≡ n ∷ ms = cc in z))

-- the bytes of which a place says that they were read
abbrev pub passed : Place → List ℕ
passed after = []
passed start = 32 ∷ []
passed (inside n) = 32 ∷ decimal n

abbrev pub Sound : Place → Type 0
Sound after = Unit {0}
Sound start = Unit {0}
Sound (inside n) = (0 < n) × (n ≤ 4294967295)

-- what is read is what is written
pub read_is_spelled : (l : List ℕ) (p : Place) (ns : List ℕ) → Sound p → numbers_of l p ≡ Some ns → Spelled (passed p ++ l) ns
unfolding numbers_of decimal decimal_in
read_is_spelled [] after ns s e = let z : ns ≡ [] = cc in rw z spell_none
read_is_spelled [] start ns s e = never e
read_is_spelled [] (inside n) ns s e = let z : ns ≡ n ∷ [] = cc in spell n [] [] ns s.1 spell_none z
read_is_spelled (b ∷ l) after ns s e =
    let w = on_only (eqb b 32) (numbers_of l start) e in
    spelled_as (ap (λ (n : ℕ). n ∷ l) (eqb-true b 32 w.0)) (read_is_spelled l start ns tt w.1)
read_is_spelled (b ∷ l) start ns s e =
    ⊎_elim
    (λ w.
    let u = on_push 0 (numbers_of l after) w.1 in
    spelled_as (ap (λ (n : ℕ). 32 ∷ n ∷ l) (eqb-true b 48 w.0))
    (spell 0 l u.0 ns (omega arith) (read_is_spelled l after u.0 tt u.1.0) u.1.1))
    (λ w.
    let v = on_only (digit b) (numbers_of l (inside (b - 48))) w.1 in
    let r = digit_range b v.0 in
    let n = eqb-false b 48 w.0 in
    spelled_as (sym (ap (λ (k : List ℕ). 32 ∷ (k ++ l)) (single b v.0)))
    (read_is_spelled l (inside (b - 48)) ns (omega arith, omega arith) v.1))
    (on_if (eqb b 48) (push 0 (numbers_of l after)) _ e)
read_is_spelled (b ∷ l) (inside n) ns s e =
    ⊎_elim
    (λ w.
    let v = on_only (leb (n * 10 + (b - 48)) 4294967295) (numbers_of l (inside (n * 10 + (b - 48)))) w.1 in
    let t = leb-true (n * 10 + (b - 48)) 4294967295 v.0 in
    spelled_as (sym (ap (λ (k : List ℕ). 32 ∷ k) (grown b w.0 n l s.0 t)))
    (read_is_spelled l (inside (n * 10 + (b - 48))) ns (omega (arith, s.0), t) v.1))
    (λ w.
    let u = on_push n (if eqb b 32 then numbers_of l start else None) w.1 in
    let v = on_only (eqb b 32) (numbers_of l start) u.1.0 in
    spelled_as (ap (λ (k : ℕ). 32 ∷ (decimal n ++ (k ∷ l))) (eqb-true b 32 v.0))
    (spell n (32 ∷ l) u.0 ns s.1 (read_is_spelled l start u.0 tt v.1) u.1.1))
    (on_if (digit b) _ _ e)

-- and what is written is read
rest_inside : (ns : List ℕ) (n : ℕ) → numbers_of (fields_text ns) (inside n) ≡ push n (numbers_of (fields_text ns) after)
unfolding numbers_of fields_text
rest_inside [] n = refl
rest_inside (m ∷ ns) n = refl

digits_read : (r n : ℕ) (l : List ℕ) → 0 < n → n < 10 ^ r → n ≤ 4294967295 → numbers_of (decimal_in r n ++ l) start ≡ numbers_of l (inside n)
unfolding numbers_of
digits_read zero n l pos h top = absurd (let j : n < 1 = h in omega arith)
digits_read (suc r) n l pos h top = go (ltb n 10) refl (λ m k a b c. digits_read r m k a b c)
  where
    go : (t : Bool) → ltb n 10 ≡ t
        → ((m : ℕ) (k : List ℕ) → 0 < m → m < 10 ^ r → m ≤ 4294967295 → numbers_of (decimal_in r m ++ k) start ≡ numbers_of k (inside m))
        → numbers_of (decimal_in (suc r) n ++ l) start ≡ numbers_of l (inside n)
    go true q ih =
        let low = ltb-true n 10 q in
        let s : 48 + n - 48 ≡ n = omega arith in
        ap (λ (k : List ℕ). numbers_of (k ++ l) start) (one_digit (suc r) n (omega arith) low)
        ∙ simp (ne_eqb (48 + n) 48 (λ z. omega arith), is_digit (48 + n) (omega arith) (omega arith))
        (ap (λ (m : ℕ). numbers_of l (inside m)) s)
    go false q ih =
        let big = ltb-false n 10 q in
        let b : suc r - 1 ≡ r = omega arith in
        let k : n < 10 ^ r * 10 = rw (pow-suc 10 r) at h in
        let x : n / 10 * 10 + (48 + n % 10 - 48) ≡ n = omega arith in
        ap (λ (z : List ℕ). numbers_of (z ++ l) start)
        (more_digits (suc r) n (omega arith) big ∙ ap (λ (i : ℕ). decimal_in i (n / 10) ++ ((48 + n % 10) ∷ [])) b)
        ∙ ap (λ (z : List ℕ). numbers_of z start) (append_assoc (decimal_in r (n / 10)) ((48 + n % 10) ∷ []) l)
        ∙ ih (n / 10) ((48 + n % 10) ∷ l) (omega arith) (omega arith) (omega arith)
        ∙ simp (is_digit (48 + n % 10) (omega arith) (omega arith), x, le-leb n 4294967295 top)

number_read : (n : ℕ) (ns : List ℕ) → n ≤ 4294967295
    → numbers_of (decimal n ++ fields_text ns) start ≡ push n (numbers_of (fields_text ns) after)
unfolding numbers_of decimal decimal_in
number_read zero ns top = refl
number_read (suc n) ns top = digits_read 20 (suc n) (fields_text ns) (omega arith) (omega arith) top ∙ rest_inside ns (suc n)

pub fields_read : (ns : List ℕ) → Fields ns → numbers_of (fields_text ns) after ≡ Some ns
unfolding numbers_of fields_text
fields_read [] w = refl
fields_read (n ∷ ns) w = number_read n ns w.0 ∙ ap (push n) (fields_read ns w.1)
