-- Each outcome at a client with what is known when it is given: one walk through the rule.
use mathlib.Core.Path.{◌≡◌, sym, subst, ◌∙◌}
use mathlib.Core.Bool.{Bool, not, ◌||◌}
use Prim.Native.Nat.{ℕ, ◌+◌, ◌≤◌, ◌<◌}
use native.Mathlib.Omega.{arith}
use native.Mathlib.Decide.{ℕ_discrete}
use borrow.Author.Tests.{ne_eqb}
use lib.Dec.{T, eqb, leb, eqb→eq, leb→le, nleb→lt, T_not, eqb_refl}
use Rattle.sets.specs.declared.Tag.{Tag}
use Rattle.sets.specs.Tags.{tag}
use Rattle.sets.specs.Sets.{has, size}
use Rattle.sets.proofs.Tests.{neither, not_not, if_ind}
use Rattle.tables.specs.declared.Conf.{Conf}
use Rattle.tables.specs.declared.Client.{Client}
use Rattle.tables.specs.declared.Message.{Message}
use Rattle.tables.specs.Tables.{is_empty}
use Rattle.tables.specs.Phases.{rounds_left}
use Rattle.rules.specs.declared.Outcome.{Outcome}
use Rattle.rules.specs.declared.Outcome.TheVariants.{Waiting, Next, ReadEnded, WriteEnded, Spent, Stale}
use Rattle.rules.specs.Client.{awaited, enough_for, is_stale, heard, chosen, turned, outcome}
use Rattle.rules.proofs.Heard.{heard_keeps}

-- idle, or no phase at all
none_awaited : (p : ℕ) → (p ≡ 1 → ⊥) → (p ≡ 2 → ⊥) → (p ≡ 3 → ⊥) → (p ≡ 4 → ⊥) → (p ≡ 5 → ⊥) → (p ≡ 6 → ⊥) → 0 ≡ awaited p
unfolding awaited
none_awaited p a b c d e f = simp (ne_eqb _ _ a, ne_eqb _ _ b, ne_eqb _ _ c, ne_eqb _ _ d, ne_eqb _ _ e, ne_eqb _ _ f)

-- a page is kept once f + 1 replicas have it
module _ (k : Conf) (p s : ℕ) where
  pub enough_stored : (n : ℕ) → p ≡ 5 → n ≡ size s → leb (k.f + 1) n ≡ enough_for k p s
  unfolding enough_for
  enough_stored n q e = simp (q, e)

-- a reply that is not stale
pub record Timely (w : Client) (x : Message) : Type 0 where
  pub kind : x.kind ≡ awaited w.phase
  pub number : x.number ≡ w.number
  pub new : T (not (has w.answered x.sender))

pub timely : (w : Client) (x : Message) → T (not (is_stale w x)) → Timely w x
unfolding is_stale
timely w x h =
    let k : Bool = eqb x.kind (awaited w.phase) in
    let n : Bool = eqb x.number w.number in
    let a = neither (not k || not n) (has w.answered x.sender) h in
    let b = neither (not k) (not n) a.0 in
    record {
      kind = eqb→eq x.kind (awaited w.phase) (not_not k b.0);
      number = eqb→eq x.number w.number (not_not n b.1);
      new = a.1;
    }

-- a reply with which enough have answered in phase p
pub record Completes (k : Conf) (w : Client) (x : Message) (p : ℕ) : Type 0 where
  pub timely : Timely w x
  pub phase : w.phase ≡ p
  pub enough : T (enough_for k p (heard w x).answered)

pub data View (k : Conf) (own : ℕ) (w : Client) (x : Message) : Outcome → Type 0 where
  v_stale : T (is_stale w x) → View k own w x Stale
  v_waits : Timely w x → T (not (enough_for k w.phase (heard w x).answered)) → View k own w x Waiting
  v_1 : Completes k w x 1 → View k own w x (Next (heard w x).tag)
  v_2 : Completes k w x 2 → View k own w x (Next (heard w x).tag)
  v_3 : Completes k w x 3 → View k own w x (ReadEnded x.tag x.set)
  v_4 : Completes k w x 4 → (heard w x).tag.number < k.top → View k own w x (Next (tag ((heard w x).tag.number + 1) own))
  v_spent : Completes k w x 4 → k.top ≤ (heard w x).tag.number → View k own w x Spent
  v_5 : Completes k w x 5 → View k own w x (Next (heard w x).tag)
  v_6 : Completes k w x 6 → View k own w x (WriteEnded (heard w x).tag)

module _ (k : Conf) (own : ℕ) (w : Client) (x : Message) where
  same : (p : ℕ) → T (eqb (heard w x).phase p) → w.phase ≡ p
  same p h = sym (heard_keeps w x).phase ∙ eqb→eq (heard w x).phase p h

  other : (p : ℕ) → T (not (eqb (heard w x).phase p)) → w.phase ≡ p → ⊥
  other p h e = T_not (eqb (heard w x).phase p) h (rw ((heard_keeps w x).phase ∙ e) (eqb_refl p))

  -- a message in a slot has a kind, so an idle client has no timely reply
  pub view : T (not (is_empty x)) → View k own w x (outcome k own w x)
  unfolding outcome turned chosen
  view full =
      if_ind (View k own w x) (is_stale w x) v_stale
      (λ n. if_ind (View k own w x) (enough_for k w.phase (heard w x).answered)
      (λ e. if_ind (View k own w x) (eqb (heard w x).phase 3) (λ h. v_3 (at n e 3 (same 3 h)))
      (λ a. if_ind (View k own w x) (eqb (heard w x).phase 4)
      (λ h. if_ind (View k own w x) (leb k.top (heard w x).tag.number)
      (λ l. v_spent (at n e 4 (same 4 h)) (leb→le k.top (heard w x).tag.number l))
      (λ l. v_4 (at n e 4 (same 4 h)) (nleb→lt k.top (heard w x).tag.number l)))
      (λ b. if_ind (View k own w x) (eqb (heard w x).phase 6) (λ h. v_6 (at n e 6 (same 6 h)))
      (λ c. next n e (other 3 a) (other 4 b) (other 6 c) (ℕ_discrete w.phase 1) (ℕ_discrete w.phase 2) (ℕ_discrete w.phase 5)))))
      (λ e. v_waits (timely w x n) e))
    where
      at : T (not (is_stale w x)) → T (enough_for k w.phase (heard w x).answered) → (p : ℕ) → w.phase ≡ p → Completes k w x p
      at n e p q =
          record { timely = timely w x n; phase = q; enough = subst (λ (z : ℕ). T (enough_for k z (heard w x).answered)) q e }

      next : T (not (is_stale w x)) → T (enough_for k w.phase (heard w x).answered)
          → (w.phase ≡ 3 → ⊥) → (w.phase ≡ 4 → ⊥) → (w.phase ≡ 6 → ⊥)
          → Dec (w.phase ≡ 1) → Dec (w.phase ≡ 2) → Dec (w.phase ≡ 5) → View k own w x (Next (heard w x).tag)
      next n e _ _ _ (yes q) _ _ = v_1 (at n e 1 q)
      next n e _ _ _ (no _) (yes q) _ = v_2 (at n e 2 q)
      next n e _ _ _ (no _) (no _) (yes q) = v_5 (at n e 5 q)
      next n e c d f (no a) (no b) (no g) =
          absurd (T_not (eqb x.kind 0) full (rw ((timely w x n).kind ∙ sym (none_awaited w.phase a b c d g f)) tt))

-- a change of phase has a round to come
pub next_room : (k : Conf) (own : ℕ) (w : Client) (x : Message) (t : Tag) → T (not (is_empty x)) → outcome k own w x ≡ Next t
    → 1 ≤ rounds_left w.phase
next_room k own w x t full = go (view k own w x full)
  where
    never : (o : Outcome) → (o ≡ Next t → ◌≡◌ {A = ℕ} 0 1) → o ≡ Next t → 1 ≤ rounds_left w.phase
    never o f e = absurd (omega (arith, f e))

    room : (p : ℕ) → Completes k w x p → 1 ≤ rounds_left p → 1 ≤ rounds_left w.phase
    room p c h = rw c.phase h

    go : {o : Outcome} → View k own w x o → o ≡ Next t → 1 ≤ rounds_left w.phase
    go (v_stale _) e = never Stale (λ e. cc) e
    go (v_waits _ _) e = never Waiting (λ e. cc) e
    go (v_1 c) e = room 1 c (omega arith)
    go (v_2 c) e = room 2 c (omega arith)
    go (v_3 _) e = never (ReadEnded x.tag x.set) (λ e. cc) e
    go (v_4 c _) e = room 4 c (omega arith)
    go (v_spent _ _) e = never Spent (λ e. cc) e
    go (v_5 c) e = room 5 c (omega arith)
    go (v_6 _) e = never (WriteEnded (heard w x).tag) (λ e. cc) e
