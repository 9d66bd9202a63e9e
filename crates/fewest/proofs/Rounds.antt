-- A round: request and reply of one party after the other, until enough have answered.
use mathlib.Core.Path.{◌≡◌, sym, subst}
use mathlib.Core.Bool.{Bool, true, false}
use mathlib.Core.List.{List, [], ◌∷◌}
use Prim.Native.Nat.{ℕ, suc, ◌+◌, ◌*◌, ◌≤◌, ◌<◌}
use native.Mathlib.Omega.{arith}
use lib.Dec.{T, not_T}
use lib.ListN.{length}
use Rattle.sets.specs.Sets.{has, size, with}
use Rattle.sets.proofs.Tests.{T_true, T_false}
use Rattle.tables.specs.declared.Conf.{Conf}
use Rattle.tables.specs.declared.Client.{Client}
use Rattle.tables.specs.Tables.{Machine}
use Rattle.tables.proofs.Quorums.{Quorums}
use Rattle.rules.specs.Client.{enough_for}
use Rattle.fewest.specs.Fewest.{gather}
use Rattle.fewest.proofs.Quorums.{needed, enough_least}
use Rattle.fewest.proofs.Delivery.{Ends}
use Rattle.fewest.proofs.Serve.{Phase, On, Due, Replied, served}
use Rattle.fewest.proofs.Turn.{waited}
use Rattle.fewest.proofs.Choose.{Rising, end, next, rising_map, UpTo, up_to_with, size_above}

fails : (b : Bool) → (T b → ⊥) → b ≡ false
fails b f = T_false b (not_T b f)

-- before so many have answered
too_few : (k : Conf) → Quorums k → (p s : ℕ) → size s < needed k p → enough_for k p s ≡ false
too_few k z p s l = fails (enough_for k p s) (λ e. omega (arith, enough_least k z p s e))

-- from the last reply on: its delivery, and n more
abbrev pub Onward : Machine → (c E p code n : ℕ) → Type 0
Onward B c E p code n = (N : Machine) (w : Client) (q : ℕ) → Replied B c E p q w N → enough_for B.conf p (with w.answered q) ≡ true → Ends code c (suc n) N

-- the parties of a list above b have still to answer: so many as are needed, where there are more than one, and enough with those before them
module _ {B : Machine} (quorums : Quorums B.conf) {c E p : ℕ} (h : Phase p) {code n : ℕ} (f : Onward B c E p code n) where
  pub round : {b : ℕ} (qs : List ℕ) {w : Client} {N : Machine} → 1 ≤ length qs → On B c E p w N → UpTo b w.answered
      → (2 ≤ length qs → size w.answered + length qs ≡ needed B.conf p) → T (enough_for B.conf p (gather w.answered qs))
      → Rising (Due B c p w.number N) b qs → Ends code c (2 * length qs + n) N
  round [] z o u m e r = absurd (omega arith)
  round (q ∷ []) {w} {N} z o u m e (next l d end) =
      subst (λ (k : ℕ). Ends code c k N) (omega arith)
      (served h o d (fails (has w.answered q) (λ k. omega (arith, u q k))) (λ L R _. f L w q R (T_true _ e)))
  round (q ∷ r ∷ qs) {w} {N} z o u m e (next l d ds) =
      subst (λ (k : ℕ). Ends code c k N) (omega arith)
      (served h o d (fails (has w.answered q) (λ k. omega (arith, u q k)))
      (λ L R due. waited h R (too_few B.conf quorums p (with w.answered q) (omega (arith, m (omega arith), size_above w.answered u l)))
      (λ K v o' a i due'. round (r ∷ qs) (omega arith) o' (rw a (up_to_with w.answered u l)) (λ _. rw a (omega (arith, m (omega arith), size_above w.answered u l))) (rw a e)
      (rising_map (λ z k s. subst (λ (j : ℕ). Due B c p j K z) (sym i) (due' z (due z (λ e. omega arith) s))) ds))))
