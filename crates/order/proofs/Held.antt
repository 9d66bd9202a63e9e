-- What holds of the book after every step, where each step keeps to its guard.
use mathlib.Core.Path.{◌≡◌, refl, sym, ap, ◌∙◌, subst}
use mathlib.Core.List.Memᴰ
use mathlib.Core.List.Memᴰ.{head as here}
use mathlib.Core.List.Memᴰ.{tail as there}
use mathlib.Core.List.{List, [], ◌∷◌, map}
use mathlib.Core.Logic.{◌⊎◌, inl, inr, ⊎_elim}
use Prim.Native.Nat.{ℕ, suc, max, ◌≤◌, ◌<◌}
use native.Mathlib.Omega.{arith}
use native.Mathlib.Decide.{dec_lt}
use mathlib.Core.Bool.{not}
use lib.Dec.{T, T_not, eqb, eqb_refl}
use Rattle.order.specs.Run.{◌∈◌, Page, Kind, reading, writing, Fate, running, ended, spent, left, read_begins, write_begins, read_ends, write_ends, write_spent, gives_up, nothing, Finished, EndedBefore}
use Rattle.order.proofs.Lists.{none_in, all_cons, mem_map, Pairs, pairs_before, pairs_map, either}
use Rattle.order.proofs.Book.{Ranked, Note, seen, chose, rank_if, top, opened, turned, closed, ranked, renew, book, Mine, Source, Has, Free, Unused, Guard, renew_ind, renew_all}

-- ---- fates and kinds are told apart

-- what is equal to two things of different numbers is nothing
pub unlike : {A P : Type 0} (number : A → ℕ) {x a b : A} → x ≡ a → x ≡ b → T (not (eqb (number a) (number b))) → P
unlike number {x} {a} {b} p q t = absurd (T_not (eqb (number a) (number b)) t (subst (λ (n : ℕ). T (eqb (number a) n)) (ap number (sym p ∙ q)) (eqb_refl (number a))))

abbrev pub fate_number : Fate → ℕ
fate_number running = 0
fate_number (ended k) = 1
fate_number spent = 2
fate_number left = 3

abbrev kind_number : Kind → ℕ
kind_number reading = 0
kind_number writing = 1

open_ended : {P : Type 0} {f : Fate} {k : ℕ} → f ≡ running → f ≡ ended k → P
open_ended p q = unlike fate_number p q tt

pub read_write : {P : Type 0} {kd : Kind} → kd ≡ reading → kd ≡ writing → P
read_write p q = unlike kind_number p q tt

same_end : {j k : ℕ} → ended j ≡ ended k → k ≡ j
same_end q = cc

-- ---- what holds before step k

-- an operation by itself: an ended one is not below its floor, and a write that has a rank is above it; `S t p` says that page p has rank t
abbrev pub Ok : (ℕ → Page → Type 0) → Kind → Fate → Ranked → Type 0
Ok S reading running e = Unit {0}
Ok S reading (ended k) e = (e.floor ≤ e.rank) × S e.rank e.op.page
Ok S reading spent e = Unit {0}
Ok S reading left e = Unit {0}
Ok S writing running e = 0 < e.rank → e.floor < e.rank
Ok S writing (ended k) e = e.floor < e.rank
Ok S writing spent e = e.rank ≡ 0
Ok S writing left e = 0 < e.rank → e.floor < e.rank

ok_map : {S S' : ℕ → Page → Type 0} → ((t : ℕ) (p : Page) → S t p → S' t p) → (kd : Kind) (f : Fate) (e : Ranked) → Ok S kd f e → Ok S' kd f e
ok_map h reading running e o = o
ok_map h reading (ended k) e o = (o.0, h e.rank e.op.page o.1)
ok_map h reading spent e o = o
ok_map h reading left e o = o
ok_map h writing running e o = o
ok_map h writing (ended k) e o = o
ok_map h writing spent e o = o
ok_map h writing left e o = o

-- two operations
pub record Agree (a b : Ranked) : Type 0 where
  -- who ended before another began is not above its floor; nor is what a client had ended above the floor of what it has open
  pub floors : EndedBefore a.op b.op → a.rank ≤ b.floor
  pub own : a.op.client ≡ b.op.client → b.op.fate ≡ running → Finished a.op → a.rank ≤ b.floor
  pub alone : a.op.kind ≡ writing → b.op.kind ≡ writing → 0 < a.rank → a.rank ≡ b.rank → a.op.began ≡ b.op.began
  pub single : (c : ℕ) → Mine c a → Mine c b → a.op.began ≡ b.op.began

abbrev pub Apart : Ranked → Ranked → Type 0
Apart a b = a.op.began ≡ b.op.began → ⊥

pub record Held (first : Page) (k : ℕ) (g : List Ranked) : Type 0 where
  pub apart : Pairs Apart g
  pub young : (e : Ranked) → e ∈ g → e.op.began < k
  pub span : (e : Ranked) → e ∈ g → (j : ℕ) → e.op.fate ≡ ended j → (e.op.began < j) × (j < k)
  pub ok : (e : Ranked) → e ∈ g → Ok (Source first g) e.op.kind e.op.fate e
  pub agree : (a b : Ranked) → a ∈ g → b ∈ g → Agree a b

pub held_start : (first : Page) → Held first 0 []
held_start first = record { apart = tt; young = λ e m. none_in m; span = λ e m. none_in m; ok = λ e m. none_in m; agree = λ a b m. none_in m }

-- what a step leaves: what held holds, and what had a source has it still
pub record Next (first : Page) (k : ℕ) (g d : List Ranked) : Type 0 where
  pub held : Held first (suc k) d
  pub sources : (t : ℕ) (p : Page) → Source first g t p → Source first d t p

-- ---- the highest rank that has ended

pub top_is : (Q : ℕ → Type 0) (g : List Ranked) → Q 0 → ((e : Ranked) → e ∈ g → Finished e.op → Q e.rank) → Q (top g)
top_is Q [] z h = z
top_is Q (d ∷ g) z h = go (dec_lt (rank_if d.op.fate d.rank) (top g)) (top_is Q g z (λ e m. h e (there m))) (own d.op.fate refl)
  where
    own : (f : Fate) → d.op.fate ≡ f → Q (rank_if f d.rank)
    own running q = z
    own (ended k) q = h d (here refl) (k, q)
    own spent q = z
    own left q = z

    go : Dec (rank_if d.op.fate d.rank < top g) → Q (top g) → Q (rank_if d.op.fate d.rank) → Q (max (rank_if d.op.fate d.rank) (top g))
    go (yes l) a b = subst Q (omega arith) a
    go (no l) a b = subst Q (omega arith) b

rank_top : (g : List Ranked) (e : Ranked) → e ∈ g → Finished e.op → e.rank ≤ top g
rank_top [] e m h = none_in m
rank_top (d ∷ g) e m (k, q) = go (Memᴰ.cases_cons m) (λ n. rank_top g e n (k, q))
  where
    go : (e ≡ d) ⊎ (e ∈ g) → (e ∈ g → e.rank ≤ top g) → e.rank ≤ top (d ∷ g)
    go (inl s) r =
        let z : rank_if d.op.fate d.rank ≡ e.rank
        = ap (λ (b : Ranked). rank_if b.op.fate b.rank) (sym s) ∙ ap (λ (f : Fate). rank_if f e.rank) q in
        omega arith
    go (inr n) r = omega (arith, r n)

-- ---- every kind of step

module _ (first : Page) (k : ℕ) (g : List Ranked) (H : Held first k g) where
  -- one start makes one operation
  pub same_op : (a b : Ranked) → a ∈ g → b ∈ g → a.op.began ≡ b.op.began → a ≡ b
  same_op a b m n q =
      ⊎_elim (λ s. s) (λ s. absurd (⊎_elim (λ t. pairs_before Apart H.apart t q) (λ t. pairs_before Apart H.apart t (sym q)) s)) (either g a b m n)

  the_open : (c : ℕ) (a b : Ranked) → a ∈ g → b ∈ g → Mine c a → Mine c b → a ≡ b
  the_open c a b m n s t = same_op a b m n ((H.agree a b m n).single c s t)

  on : (e : Ranked) → e ∈ g → (j : ℕ) → e.op.fate ≡ ended j → (e.op.began < j) × (j < suc k)
  on e m j q = omega (arith, H.span e m j q)

  -- the step shows nothing
  later : Next first k g g
  later = record {
    sources = λ t p s. s;
    held = record { apart = H.apart; young = λ e m. omega (arith, H.young e m); span = on; ok = H.ok; agree = H.agree };
  }

  -- client c begins an operation
  module _ (c : ℕ) (kd : Kind) (p : Page) (free : Free g c) where
    abbrev new : Ranked
    new = opened k c kd p g

    source_more : (t : ℕ) (q : Page) → Source first g t q → Source first (new ∷ g) t q
    source_more t q (inl z) = inl z
    source_more t q (inr (w, m, a, b, r, z)) = inr (w, there m, a, b, r, z)

    new_ok : (kd : Kind) → Ok (Source first (new ∷ g)) kd running (opened k c kd p g)
    new_ok reading = tt
    new_ok writing = λ h. absurd (omega arith)

    new_new : Agree new new
    new_new = record { floors = λ h. open_ended refl h.1; own = λ _ _ h. open_ended refl h.1; alone = λ _ _ _ _. refl; single = λ _ _ _. refl }

    new_old : (b : Ranked) → b ∈ g → Agree new b
    new_old b m = record {
      floors = λ h. open_ended refl h.1;
      own = λ _ _ h. open_ended refl h.1;
      alone = λ _ _ h _. absurd (omega arith);
      single = λ i s t. absurd (free b m (t.0 ∙ sym s.0, t.1));
    }

    old_new : (a : Ranked) → a ∈ g → Agree a new
    old_new a m = record {
      floors = λ h. rank_top g a m (h.0, h.1);
      own = λ _ _ h. rank_top g a m h;
      alone = λ _ _ h q. absurd (omega arith);
      single = λ i s t. absurd (free a m (s.0 ∙ sym t.0, s.1));
    }

    begins : Next first k g (new ∷ g)
    begins = record {
      sources = source_more;
      held = record {
        apart = ((λ e m q. omega (arith, H.young e m)), H.apart);
        young = all_cons (λ e. e.op.began < suc k) (omega arith) (λ e m. omega (arith, H.young e m));
        span = all_cons (λ e. (j : ℕ) → e.op.fate ≡ ended j → (e.op.began < j) × (j < suc k)) (λ j q. open_ended refl q) on;
        ok = all_cons (λ e. Ok (Source first (new ∷ g)) e.op.kind e.op.fate e) (new_ok kd) (λ e m. ok_map source_more e.op.kind e.op.fate e (H.ok e m));
        agree = λ a b m n.
            all_cons (λ a. Agree a b) (all_cons (Agree new) new_new new_old b n) (λ a m. all_cons (Agree a) (old_new a m) (λ b n. H.agree a b m n) b n) a m;
      };
    }

  -- client c's open operation e gets fate f e, page p e and rank t e
  module _ (c : ℕ) (f : Ranked → Fate) (p : Ranked → Page) (t : Ranked → ℕ) where
    abbrev turn : Ranked → Ranked
    turn e = turned (f e) (p e) (t e) e

    record Fine (e : Ranked) : Type 0 where
      ends : (j : ℕ) → f e ≡ ended j → j ≡ k
      ok : Ok (Source first g) e.op.kind (f e) (turn e)
      -- a write keeps a rank and its page, or gets a rank that is new
      keeps : e.op.kind ≡ writing → 0 < e.rank → (t e ≡ e.rank) × (p e ≡ e.op.page)
      fresh : e.op.kind ≡ writing → (t e ≡ e.rank) ⊎ Unused g (t e)

    module _ (F : (e : Ranked) → e ∈ g → Mine c e → Fine e) where
      abbrev g' : List Ranked
      g' = map (renew c turn) g

      source_on : (s : ℕ) (q : Page) → Source first g s q → Source first g' s q
      source_on s q (inl z) = inl z
      source_on s q (inr (w, m, kw, pos, r, h)) =
          renew_ind c turn (λ d. d ∈ g' → Source first g' s q) w
          (λ o n. let z = (F w m o).keeps kw pos in inr (turn w, n, kw, omega (arith, z.0), z.0 ∙ r, z.1 ∙ h)) (λ _ n. inr (w, n, kw, pos, r, h)) (mem_map (renew c turn) m)

      module _ (e : Ranked) (m : e ∈ g) (h : Mine c e) where
        turn_self : Agree (turn e) (turn e)
        turn_self = record {
          floors = λ z. absurd (omega (arith, (F e m h).ends z.0 z.1, z.2, H.young e m));
          own = λ _ r z. open_ended r z.1;
          alone = λ _ _ _ _. refl;
          single = λ _ _ _. refl;
        }

        module _ (b : Ranked) (n : b ∈ g) (j : Mine c b → ⊥) where
          turn_other : Agree (turn e) b
          turn_other = record {
            floors = λ z. absurd (omega (arith, (F e m h).ends z.0 z.1, z.2, H.young b n));
            own = λ q r _. absurd (j (sym q ∙ h.0, r));
            alone = λ ka kb pos q.
                ⊎_elim (λ s. (H.agree e b m n).alone ka kb (omega arith) (omega arith)) (λ u. absurd (u b n kb (sym q))) ((F e m h).fresh ka);
            single = λ i s r. absurd (j (r.0 ∙ sym s.0 ∙ h.0, r.1));
          }

          other_turn : Agree b (turn e)
          other_turn = record {
            floors = (H.agree b e n m).floors;
            own = λ q _ z. (H.agree b e n m).own q h.1 z;
            alone = λ kb ka pos q.
                ⊎_elim (λ s. (H.agree b e n m).alone kb ka pos (omega arith)) (λ u. absurd (u b n kb q)) ((F e m h).fresh ka);
            single = λ i s r. absurd (j (s.0 ∙ sym r.0 ∙ h.0, s.1));
          }

      turn_both : (a b : Ranked) → a ∈ g → b ∈ g → Mine c a → Mine c b → Agree (turn a) (turn b)
      turn_both a b m n h j = subst (λ (d : Ranked). Agree (turn a) (turn d)) (the_open c a b m n h j) (turn_self a m h)

      turns : Next first k g g'
      turns = record {
        sources = source_on;
        held = record {
          apart = pairs_map (renew c turn) Apart Apart g (λ a b m n z q. z (sym (began a) ∙ q ∙ began b)) H.apart;
          young = renew_all c turn (λ e. e.op.began < suc k) g (λ e m _. omega (arith, H.young e m)) (λ e m _. omega (arith, H.young e m));
          span = renew_all c turn (λ e. (j : ℕ) → e.op.fate ≡ ended j → (e.op.began < j) × (j < suc k)) g
              (λ e m h j q. omega (arith, H.young e m, (F e m h).ends j q)) (λ e m _. on e m);
          ok = renew_all c turn (λ e. Ok (Source first g') e.op.kind e.op.fate e) g
              (λ e m h. ok_map source_on e.op.kind (f e) (turn e) (F e m h).ok) (λ e m _. ok_map source_on e.op.kind e.op.fate e (H.ok e m));
          agree = λ a b m n. renew_all c turn (λ a. Agree a b) g
              (λ a m h. renew_all c turn (Agree (turn a)) g (λ b n j. turn_both a b m n h j) (λ b n j. turn_other a m h b n j) b n)
              (λ a m h. renew_all c turn (Agree a) g (λ b n j. other_turn b n j a m h) (λ b n _. H.agree a b m n) b n) a m;
        };
      }
        where
          began : (e : Ranked) → (renew c turn e).op.began ≡ e.op.began
          began e = renew_ind c turn (λ d. d.op.began ≡ e.op.began) e (λ _. refl) (λ _. refl)

  module _ (c : ℕ) where
    -- what is asked of the open operation of client c is asked of each
    the : (kd : Kind) (P : Ranked → Type 0) → Has g c kd P → (e : Ranked) → e ∈ g → Mine c e → (e.op.kind ≡ kd) × P e
    the kd P (d, m, s, q, h) e n t = subst (λ (x : Ranked). (x.op.kind ≡ kd) × P x) (the_open c d e m n s t) (q, h)

    -- what is known of an open operation
    ok_open : (kd : Kind) (e : Ranked) → e ∈ g → Mine c e → e.op.kind ≡ kd → Ok (Source first g) kd running e
    ok_open kd e m h q = subst (λ (i : Kind). Ok (Source first g) i running e) q (subst (λ (f : Fate). Ok (Source first g) e.op.kind f e) h.1 (H.ok e m))

    kind_ok : {kd : Kind} (f : Fate) (e : Ranked) → e.op.kind ≡ kd → Ok (Source first g) kd f e → Ok (Source first g) e.op.kind f e
    kind_ok f e q = subst (λ (i : Kind). Ok (Source first g) i f e) (sym q)

    left_ok : (kd : Kind) (e : Ranked) → Ok (Source first g) kd running e → Ok (Source first g) kd left (closed left e)
    left_ok reading e h = tt
    left_ok writing e h = h

  pub next : (n : Note) → Guard first g n → Next first k g (book k n g)
  unfolding book Guard
  next (seen (read_begins c) t) G = begins c reading [] G
  next (seen (write_begins c p) t) G = begins c writing p G
  next (seen (read_ends c p) t) G = turns c (λ _. ended k) (λ _. p) (λ _. t) (λ e m h.
      let (q, z) = the c reading (λ e. (e.floor ≤ t) × Source first g t p) G e m h in
      record { ends = λ j r. same_end r; ok = kind_ok c (ended k) (turned (ended k) p t e) q z; keeps = λ w. read_write q w; fresh = λ w. read_write q w })
  next (seen (write_ends c) t) G = turns c (λ _. ended k) (λ e. e.op.page) (λ e. e.rank) (λ e m h.
      let (q, z) = the c writing (λ e. 0 < e.rank) G e m h in
      record { ends = λ j r. same_end r; ok = kind_ok c (ended k) (closed (ended k) e) q (ok_open c writing e m h q z); keeps = λ _ _. (refl, refl); fresh = λ _. inl refl })
  next (seen (write_spent c) t) G = turns c (λ _. spent) (λ e. e.op.page) (λ e. e.rank) (λ e m h.
      let (q, z) = the c writing (λ e. e.rank ≡ 0) G e m h in
      record { ends = λ j r. unlike fate_number refl r tt; ok = kind_ok c spent (closed spent e) q z; keeps = λ _ _. (refl, refl); fresh = λ _. inl refl })
  next (seen (gives_up c) t) G = turns c (λ _. left) (λ e. e.op.page) (λ e. e.rank) (λ e m h.
      record { ends = λ j r. unlike fate_number refl r tt; ok = left_ok c e.op.kind e (ok_open c e.op.kind e m h refl); keeps = λ _ _. (refl, refl); fresh = λ _. inl refl })
  next (seen nothing t) G = later
  next (chose c t) G = turns c (λ e. e.op.fate) (λ e. e.op.page) (λ _. t) (λ e m h.
      let (q, z) = the c writing (λ e. (e.rank ≡ 0) × (e.floor < t) × Unused g t) G e m h in
      record {
        ends = λ j r. open_ended h.1 r;
        ok = kind_ok c e.op.fate (ranked t e) q (subst (λ (f : Fate). Ok (Source first g) writing f (ranked t e)) (sym h.1) (λ _. z.1));
        keeps = λ _ pos. absurd (omega (arith, z.0));
        fresh = λ _. inr z.2;
      })
