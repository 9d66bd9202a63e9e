-- Parties chosen from a table: so many that pass a test, just so many of a set, and one of a set that fails a test.
use Rattle.std.specs.Prelude.{if◌then◌else◌}
use mathlib.Core.Path.{◌≡◌, refl, sym, subst}
use mathlib.Core.Bool.{Bool, true, false}
use mathlib.Core.List.Memᴰ
use mathlib.Core.List.{List, [], ◌∷◌, Memᴰ}
use mathlib.Core.Logic.{◌⊎◌, inl, inr, ⊎_elim}
use Prim.Native.Nat.{ℕ, zero, suc, ◌+◌, ◌^◌, ◌≤◌, ◌<◌}
use native.Mathlib.Omega.{arith}
use lib.Dec.{T, leb, leb→le, le→leb}
use lib.Pow.{pow_pos}
use lib.ListN.{length, take}
use lib.Seq.{length-take-le}
use Rattle.sets.specs.Plain.{keep, numbers}
use Rattle.sets.specs.Sets.{has, size, with}
use Rattle.sets.specs.Inner.{◌∈◌}
use Rattle.sets.proofs.Laws.{none_in, with_in, in_with_old, in_with_new, with_lt, size_none, size_new, within}
use Rattle.sets.proofs.Tests.{if_ind}
use Rattle.sets.proofs.Members.{numbers_in, length_members}
use Rattle.fewest.specs.Fewest.{gather, set_of}

-- ---- rising lists

-- P of each party of the list, each above the one before it, the first above b
pub data Rising (P : ℕ → Type 0) : ℕ → List ℕ → Type 0 where
  end : {b : ℕ} → Rising P b []
  next : {q b : ℕ} {qs : List ℕ} → b < q → P q → Rising P q qs → Rising P b (q ∷ qs)

module _ {P : ℕ → Type 0} where
  pub rising_less : {a b : ℕ} {qs : List ℕ} → a ≤ b → Rising P b qs → Rising P a qs
  rising_less h end = end
  rising_less {a} h (next {q} l p r) = let k : a < q = omega arith in next k p r

  rising_take : {b : ℕ} {qs : List ℕ} (n : ℕ) → Rising P b qs → Rising P b (take n qs)
  rising_take zero r = end
  rising_take (suc n) end = end
  rising_take (suc n) (next l p r) = next l p (rising_take n r)

  pub rising_of : {b q : ℕ} {qs : List ℕ} → Rising P b qs → Memᴰ q qs → (b < q) × P q
  rising_of end m = absurd (Memᴰ.not-nil m)
  rising_of {b} {q} (next {q = x} l p r) m =
      ⊎_elim (λ (e : q ≡ x). (omega arith, subst P (sym e) p)) (λ n. let f = rising_of r n in (omega (arith, f.0), f.1)) (Memᴰ.cases_cons m)

  -- of the m parties above b all that pass
  pub rising_keep : (t : ℕ → Bool) (b m : ℕ) → ((q : ℕ) → b < q → q ≤ b + m → T (t q) → P q) → Rising P b (keep t (numbers (suc b) m))
  rising_keep t b zero f = end
  rising_keep t b (suc m) f =
      let r = rising_keep t (suc b) m (λ q l h. f q (omega arith) (omega arith)) in
      if_ind (Rising P b) (t (suc b)) (λ u. next {q = suc b} {b = b} (omega arith) (f (suc b) (omega arith) (omega arith) u) r) (λ _. rising_less (omega arith) r)

  pub rising_map : {Q : ℕ → Type 0} {b : ℕ} {qs : List ℕ} → ((q : ℕ) → b < q → P q → Q q) → Rising P b qs → Rising Q b qs
  rising_map f end = end
  rising_map f (next {q} l p r) = next l (f q l p) (rising_map (λ z k. f z (omega arith)) r)

-- ---- the set of a list

-- no party of the set is above b
abbrev pub UpTo : (b s : ℕ) → Type 0
UpTo b s = (p : ℕ) → p ∈ s → p ≤ b

pub up_to_with : (a : ℕ) {b q : ℕ} → UpTo b a → b < q → UpTo q (with a q)
up_to_with a {b} {q} f l p k = ⊎_elim (λ (u : p ∈ a). omega (arith, f p u)) (λ (u : p ≡ q). omega arith) (with_in a q p k)

pub size_above : (a : ℕ) {b q : ℕ} → UpTo b a → b < q → size (with a q) ≡ size a + 1
size_above a {b} {q} f l = size_new a q (omega arith) (λ k. omega (arith, f q k))

size_gather : {P : ℕ → Type 0} (a : ℕ) {b : ℕ} {qs : List ℕ} → UpTo b a → Rising P b qs → size (gather a qs) ≡ size a + length qs
size_gather a f end = omega arith
size_gather a f (next {q} l p r) = omega (arith, size_gather (with a q) (up_to_with a f l) r, size_above a f l)

pub size_set : {P : ℕ → Type 0} {qs : List ℕ} → Rising P 0 qs → size (set_of qs) ≡ length qs
size_set r = omega (arith, size_gather 0 (λ p k. absurd (none_in p k)) r, size_none)

gather_old : (a : ℕ) (qs : List ℕ) (p : ℕ) → p ∈ a → p ∈ gather a qs
gather_old a [] p h = h
gather_old a (q ∷ qs) p h = gather_old (with a q) qs p (in_with_old a q p h)

-- the members are those of the set and of the list
gather_in : (a : ℕ) (qs : List ℕ) (p : ℕ) → p ∈ gather a qs → (p ∈ a) ⊎ Memᴰ p qs
gather_in a [] p h = inl h
gather_in a (q ∷ qs) p h =
    ⊎_elim (λ k. ⊎_elim (λ u. inl u) (λ e. inr (Memᴰ.head e)) (with_in a q p k)) (λ m. inr (Memᴰ.tail m)) (gather_in (with a q) qs p h)

pub set_in : (qs : List ℕ) (p : ℕ) → p ∈ set_of qs → Memᴰ p qs
set_in qs p h = ⊎_elim (λ k. absurd (none_in p k)) (λ m. m) (gather_in 0 qs p h)

pub in_gather : {P : ℕ → Type 0} (a : ℕ) {b p : ℕ} {qs : List ℕ} → Rising P b qs → Memᴰ p qs → p ∈ gather a qs
in_gather a end m = absurd (Memᴰ.not-nil m)
in_gather a {b} {p} (next {q} {qs} l h r) m =
    ⊎_elim (λ (e : p ≡ q). gather_old (with a q) qs p (rw e (in_with_new a q (omega arith)))) (λ k. in_gather (with a q) r k) (Memᴰ.cases_cons m)

pub gather_lt : {P : ℕ → Type 0} {a b : ℕ} (n : ℕ) {qs : List ℕ} → ((q : ℕ) → P q → q ≤ n) → a < 2 ^ n → Rising P b qs → gather a qs < 2 ^ n
gather_lt n f h end = h
gather_lt {a = a} n f h (next {q} l p r) = gather_lt {a = with a q} n f (with_lt n a q h (f q p)) r

-- ---- so many that pass

pub record Chosen (P : ℕ → Type 0) (b n : ℕ) : Type 0 where
  pub list : List ℕ
  pub count : length list ≡ n
  pub rising : Rising P b list

pub size_chosen : {P : ℕ → Type 0} {n : ℕ} (s : Chosen P 0 n) → size (set_of s.list) ≡ n
size_chosen s = omega (arith, size_set s.rising, s.count)

-- n of the m parties above b
pub choose : {P : ℕ → Type 0} (t : ℕ → Bool) (b m n : ℕ) → ((q : ℕ) → b < q → q ≤ b + m → T (t q) → P q) → n ≤ length (keep t (numbers (suc b) m)) → Chosen P b n
choose t b m n f h =
    record { list = take n (keep t (numbers (suc b) m)); count = length-take-le n (keep t (numbers (suc b) m)) h; rising = rising_take n (rising_keep t b m f) }

-- ---- just so many members of a set

-- party d of n is in the set
pub record Member (n s d : ℕ) : Type 0 where
  pub high : d ≤ n
  pub inside : d ∈ s

-- m members of the set pass the test
pub record Just (n : ℕ) (test : ℕ → Bool) (s m : ℕ) : Type 0 where
  pub chosen : Chosen (Member n s) 0 m
  pub pass : T (test (set_of chosen.list))

-- so the set has as many
pub just_size : {n s m : ℕ} {test : ℕ → Bool} → Just n test s m → m ≤ size s
just_size {n} {s} w =
    let c = w.chosen in
    omega (
      arith,
      size_chosen c,
      within n (set_of c.list) s (gather_lt n (λ q k. k.high) (pow_pos n) c.rising) (λ p k. (rising_of c.rising (set_in c.list p k)).1.inside),
    )

pub just_as : {n s m : ℕ} {t u : ℕ → Bool} → ((a : ℕ) → T (t a) → T (u a)) → Just n t s m → Just n u s m
just_as f w = record { chosen = w.chosen; pass = f (set_of w.chosen.list) w.pass }

-- by a count
pub just_count : (n q s : ℕ) → s < 2 ^ n → T (leb q (size s)) → Just n (λ a. leb q (size a)) s q
just_count n q s l h =
    let c = choose {P = Member n s} (has s) 0 n q (λ d i k u. record { high = omega arith; inside = u }) (omega (arith, leb→le q (size s) h, length_members n s l)) in
    record { chosen = c; pass = le→leb q (size (set_of c.list)) (omega (arith, size_chosen c)) }

-- ---- one that fails

-- a number of the list that passes u and fails t
abbrev Apart : (t u : ℕ → Bool) → List ℕ → Type 0
Apart t u l = (p : ℕ) × Memᴰ p l × T (u p) × (T (t p) → ⊥)

apart : (t u : ℕ → Bool) (l : List ℕ) → length (keep t l) < length (keep u l) → Apart t u l
apart t u [] h = absurd (omega arith)
apart t u (x ∷ l) h = go (t x) (u x) refl refl h (λ k. let r = apart t u l k in (r.0, Memᴰ.tail r.1, r.2, r.3))
  where
    go : (a b : Bool) → t x ≡ a → u x ≡ b → length (if a then x ∷ keep t l else keep t l) < length (if b then x ∷ keep u l else keep u l)
        → (length (keep t l) < length (keep u l) → Apart t u (x ∷ l)) → Apart t u (x ∷ l)
    go true true d e h r = r (omega arith)
    go true false d e h r = r (omega arith)
    go false false d e h r = r h
    go false true d e h r = (x, Memᴰ.head refl, rw e tt, λ k. rw d at k)

-- of a set of more than f parties one fails a test that at most f pass
pub one_fails : (t : ℕ → Bool) (m f s : ℕ) → s < 2 ^ m → f < size s → length (keep t (numbers 1 m)) ≤ f → (p : ℕ) × (1 ≤ p) × (p ≤ m) × (p ∈ s) × (T (t p) → ⊥)
one_fails t m f s l h k =
    let r = apart t (has s) (numbers 1 m) (omega (arith, length_members m s l)) in
    let b = numbers_in 1 m r.0 r.1 in
    (r.0, b.0, omega (arith, b.1), r.2, r.3)
