-- The listed codes: which of them a list of tests gives, and what holds of each.
use Rattle.std.specs.Prelude.{if◌then◌else◌}
use mathlib.Core.Bool.{Bool, true, false, not, ◌||◌}
use mathlib.Core.List.{List, [], ◌∷◌, map}
use mathlib.Core.Logic.{⊎_elim}
use mathlib.Core.Path.{◌≡◌, refl, sym, subst}
use Prim.Native.Nat.{ℕ, ◌≤◌}
use borrow.Author.Tests.{eq-eqb}
use lib.Dec.{T, leb, eqb, eqb→eq, nleb→lt}
use Rattle.sets.specs.Plain.{one_of}
use Rattle.sets.proofs.Tests.{or_elim}
use Rattle.tables.proofs.All.{All, none, cons}
use Rattle.tables.proofs.Lists.{none_passes}
use Rattle.machine.specs.Refusals.{first_of, refused_codes}

-- ---- one of the numbers of a list

-- what holds at each number of a list holds at a number that is one of them
pub one_of_lem : (P : ℕ → Type 0) (k : ℕ) (l : List ℕ) → All P l → T (one_of k l) → P k
one_of_lem P k [] none h = absurd h
one_of_lem P k (a ∷ []) (cons p none) h = subst P (sym (eqb→eq k a h)) p
one_of_lem P k (a ∷ b ∷ l) (cons p ps) h =
    ⊎_elim (λ e. subst P (sym (eqb→eq k a e)) p) (λ r. one_of_lem P k (b ∷ l) ps r) (or_elim (eqb k a) (one_of k (b ∷ l)) h)

one_first : (k : ℕ) (l : List ℕ) → T (one_of k (k ∷ l))
one_first k [] = rw (eq-eqb k k refl) tt
one_first k (b ∷ l) = rw (eq-eqb k k refl) tt

one_more : (k a : ℕ) (l : List ℕ) → T (one_of k l) → T (one_of k (a ∷ l))
one_more k a [] h = absurd h
one_more k a (b ∷ l) h = go (eqb k a)
  where
    go : (c : Bool) → T (c || one_of k (b ∷ l))
    go true = tt
    go false = h

-- ---- refusals

-- a list of tests gives 0 or one of its codes
first_of_lem : (l : List (ℕ × Bool)) → (first_of l ≡ 0 → ⊥) → T (one_of (first_of l) (map (λ (t : ℕ × Bool). t.0) l))
first_of_lem [] n = absurd (n refl)
first_of_lem (t ∷ l) n = go t.1 n (first_of_lem l)
  where
    go : (b : Bool) → ((if b then t.0 else first_of l) ≡ 0 → ⊥) → ((first_of l ≡ 0 → ⊥) → T (one_of (first_of l) (map (λ (t : ℕ × Bool). t.0) l)))
        → T (one_of (if b then t.0 else first_of l) (t.0 ∷ map (λ (t : ℕ × Bool). t.0) l))
    go true n later = one_first t.0 (map (λ (t : ℕ × Bool). t.0) l)
    go false n later = one_more (first_of l) t.0 (map (λ (t : ℕ × Bool). t.0) l) (later n)

pub record Refusing (n : ℕ) : Type 0 where
  pub listed : T (one_of n refused_codes)
  pub high : 16 ≤ n

pub refusing : (n : ℕ) → T (one_of n refused_codes) → Refusing n
refusing n h =
    let low : ℕ → Bool = λ k. leb k 15 in
    record { listed = h; high = nleb→lt n 15 (one_of_lem (λ (k : ℕ). T (not (low k))) n refused_codes (none_passes low refused_codes tt) h) }

-- SIZE and BAD MACHINE stand before the codes of the list
pub refusing_by : (l : List (ℕ × Bool)) → (16 ∷ 17 ∷ map (λ (t : ℕ × Bool). t.0) l ≡ refused_codes) → (first_of l ≡ 0 → ⊥) → Refusing (first_of l)
refusing_by l e n =
    let k = first_of l in
    let rest = map (λ (t : ℕ × Bool). t.0) l in
    refusing k (subst (λ (cs : List ℕ). T (one_of k cs)) e (one_more k 16 (17 ∷ rest) (one_more k 17 rest (first_of_lem l n))))
