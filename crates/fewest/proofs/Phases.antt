-- The phases of a read and of a write, each a round over parties that are up: SO MANY DELIVERIES DO.
use Rattle.std.specs.Prelude.{if◌then◌else◌}
use mathlib.Core.Path.{◌≡◌, refl, ap, subst, ◌∙◌}
use mathlib.Core.Bool.{not, ◌&&◌}
use mathlib.Core.List.{[], ◌∷◌}
use Prim.Native.Nat.{ℕ, ◌+◌, ◌*◌, ◌^◌, ◌≤◌, ◌<◌}
use native.Mathlib.Omega.{arith}
use borrow.Author.Tests.{lt-leb}
use lib.Count.{ones-le}
use lib.Dec.{T, eqb, le→leb, not_T}
use lib.Pow.{pow_mono}
use Rattle.sets.specs.Tags.{tag}
use Rattle.sets.specs.Sets.{size, all}
use Rattle.sets.specs.Inner.{◌∈◌}
use Rattle.sets.proofs.Laws.{none_in, in_all, all_lt, size_all, size_none}
use Rattle.sets.proofs.Tests.{T_true, and_elim}
use Rattle.tables.specs.declared.Conf.{Conf}
use Rattle.tables.specs.declared.Client.{Client}
use Rattle.tables.specs.declared.Party.TheVariants.{AReplica}
use Rattle.tables.specs.Phases.{asks_directories}
use Rattle.tables.specs.Rows.{some?}
use Rattle.tables.specs.Tables.{Machine, directory_at, replica_at, is_free}
use Rattle.mail.proofs.Messages.{length_messages, no_messages}
use Rattle.inspect.proofs.Facts.{NumbersFacts}
use Rattle.rules.specs.Client.{enough_for, chosen, moved, secures, client_post}
use Rattle.machine.specs.Calls.{is_down}
use Rattle.runs.proofs.Rows.{numbers_of_lem}
use Rattle.history.proofs.Invariant.{Told, PhaseFact}
use Rattle.history.proofs.Clients.{client_ok, heard_settled}
use Rattle.history.proofs.Shape.{client_in}
use Rattle.history.proofs.Walk.{Good}
use Rattle.fewest.specs.Fewest.{set_of, least_to_write, read_price, write_price}
use Rattle.fewest.proofs.Quorums.{most_directories, needed}
use Rattle.fewest.proofs.Ready.{Ready, ReadyToWrite}
use Rattle.fewest.proofs.Delivery.{Ends}
use Rattle.fewest.proofs.Serve.{Phase, rdr, rdw, rrr, wdr, wrw, wdw, Able, On, Replied}
use Rattle.fewest.proofs.Turn.{asks_of, Opened, told, hears, phase_heard, below_heard, opened, ended}
use Rattle.fewest.proofs.Rounds.{Onward, round}
use Rattle.fewest.proofs.Choose.{end, next, rising_map, Chosen, size_chosen, choose, one_fails}
use Rattle.fewest.proofs.Voters.{Standing, voters}

-- sets of at most 16 parties
small : (n s : ℕ) → n ≤ 16 → s < 2 ^ n → s < 2 ^ 16
small n s h k = omega (arith, pow_mono h)

pub small_all : (n : ℕ) → n ≤ 16 → all n < 2 ^ 16
small_all n h = small n (all n) h (all_lt n)

-- ---- from what is asked; the slots are 5 + 7 + 5 + 4 where there is room for 5 directories: each phase sends to all, and frees one slot at least

module _ (M : Machine) (G : Good M) (few : M.conf.directories ≤ 16) (c : ℕ) (R : Ready M c) where
  abbrev k : Conf
  k = M.conf

  n : NumbersFacts (most_directories M) M.conf
  n = numbers_of_lem G.sound

  small_directories : all k.directories < 2 ^ 16
  small_directories = small_all k.directories few

  few_to_ask : size (all k.directories) ≤ most_directories M
  few_to_ask = omega (arith, n.few_directories, size_all k.directories)

  -- the row of the client
  module _ {E p : ℕ} {w : Client} {N : Machine} (o : On M c E p w N) where
    set_in : w.replicas < 2 ^ k.replicas
    set_in =
        subst (λ (z : Conf). w.replicas < 2 ^ z.replicas) o.kept.conf
        (subst (λ (y : Client). y.replicas < 2 ^ N.conf.replicas) o.row (client_in N o.good.sound c o.party).set)

    small_set : w.replicas < 2 ^ 16
    small_set = small k.replicas w.replicas (omega (arith, n.few_replicas)) set_in

    few_in_set : size w.replicas ≤ 7
    few_in_set = omega (arith, n.few_replicas, ones-le k.replicas w.replicas set_in)

  -- a phase is a round over chosen parties that can answer
  abbrev Asked : {E p : ℕ} {N : Machine} → Opened M c E p N → ℕ → Type 0
  Asked {E} {p} {N} o q = Able p k.top (directory_at N q) (replica_at N q) × (q ≤ 16) × (q ∈ asks_of k o.row p)

  module _ {E p rest code : ℕ} {N : Machine} (h : Phase p) (o : Opened M c E p N) where
    phase : {P : ℕ → Type 0} {many : ℕ} (s : Chosen P 0 many) → 1 ≤ many → (2 ≤ many → many ≡ needed k p) → T (enough_for k p (set_of s.list))
        → ((q : ℕ) → 1 ≤ q → P q → Asked o q) → Onward M c E p code rest → Ends code c (2 * many + rest) N
    phase s z m e g f =
        subst (λ (i : ℕ). Ends code c (2 * i + rest) N) s.count
        (round n.quorums h f s.list (omega (arith, s.count)) o.on (rw o.answered (λ p k. absurd (none_in p k)))
        (λ i. rw o.answered (omega (arith, m (omega (arith, s.count)), s.count, size_none))) (rw o.answered e)
        (rising_map (λ q l p. let a = g q l p in record { able = a.0; asks = o.asks q l a.1 a.2 }) s.rising))

    -- over directories that are up
    over_directories : T (asks_directories p) → (p ≡ 4 → (d : ℕ) → Standing M d → (directory_at M d).tag.number < k.top) → Onward M c E p code rest
        → Ends code c (2 * needed k p + rest) N
    over_directories a b f =
        let s = voters G R h a in
        let r = T_true (asks_directories p) a in
        phase s.chosen s.some (λ _. refl) s.pass
        (λ d l z. (
          record { up = rw (r, o.on.kept.directories d) z.up; below = λ i. rw (o.directories i) (b i d z); free = λ i. absurd (subst (λ (q : ℕ). T (asks_directories q)) i a) },
          omega (arith, few, z.high),
          rw r (in_all k.directories d z.low z.high),
        ))
        f

  -- ---- a read

  -- phase 3: a replica of the set that is up
  three : (N : Machine) → Opened M c 6 3 N → Ends 1 c 2 N
  unfolding enough_for client_post
  three N o =
      phase rrr o (record { list = up_in_set.0 ∷ []; count = refl; rising = next up_in_set.1 asked end }) (omega arith) (λ i. absurd (omega arith)) tt (λ q l a. a)
      (λ _ _ _ S e. ended rrr S e refl (rw no_messages (omega arith)) refl refl)
    where
      gathered : Told N o.row.tag o.row.replicas
      gathered =
          (subst (PhaseFact N o.row.tag o.row.replicas o.row.answered) o.on.phase
          (subst (λ (v : Client). PhaseFact N v.tag v.replicas v.answered v.phase) o.on.row (client_ok o.on.good.invariant c))).0

      up_in_set : (r : ℕ) × (1 ≤ r) × (r ≤ k.replicas) × (r ∈ o.row.replicas) × (T (is_down M AReplica r) → ⊥)
      up_in_set =
          one_fails (is_down M AReplica) k.replicas k.f o.row.replicas (set_in o.on)
          (omega (arith, subst (λ (z : Conf). z.f + 1 ≤ size o.row.replicas) o.on.kept.conf gathered.enough)) R.replicas

      asked : Asked o up_in_set.0
      asked = (
        record {
          up = rw (o.on.kept.replicas up_in_set.0) (not_T (is_down M AReplica up_in_set.0) up_in_set.4);
          below = λ i. absurd (omega arith);
          free = λ i. absurd (omega arith);
        },
        omega (arith, up_in_set.2, n.few_replicas),
        up_in_set.3,
      )

  -- phase 2: the row keeps its set
  set_stays : {E q : ℕ} {w : Client} {N : Machine} (S : Replied M c E 2 q w N) → (moved (hears rdw S) (hears rdw S).tag).replicas ≡ w.replicas
  set_stays {w = w} S =
      ap (λ (z : ℕ). if eqb z 5 then (hears rdw S).answered else (hears rdw S).replicas) (phase_heard rdw S)
      ∙ ap (λ (y : Client). y.replicas) (heard_settled w (told rdw S) 2 S.on.phase tt)

  two : (N : Machine) → Opened M c 12 2 N → Ends 1 c (2 * least_to_write k + 2) N
  two N o =
      over_directories rdw o tt (λ i. absurd (omega arith))
      (λ _ _ _ S e. opened rdw S 6 rrr (λ i. omega arith) e refl (rw (set_stays S) (small_set S.on)) (rw (set_stays S) (omega (arith, few_in_set S.on))) three)

  pub one : (N : Machine) → Opened M c (most_directories M + 11) 1 N → Ends 1 c (read_price k) N
  one N o =
      subst (λ (z : ℕ). Ends 1 c z N) (omega arith)
      (over_directories rdr o tt (λ i. absurd (omega arith)) (λ _ _ _ S e. opened rdr S 12 rdw (λ i. omega arith) e refl small_directories (omega (arith, few_to_ask)) two))

  -- ---- a write

  -- phase 6: the last reply ends it
  six : (N : Machine) → Opened M c 6 6 N → Ends 2 c (2 * least_to_write k + 0) N
  unfolding client_post secures
  six N o =
      over_directories wdw o tt (λ i. absurd (omega arith))
      (λ _ w _ S e. ended wdw S e refl (omega (arith, length_messages (secures c w) (small_set S.on), few_in_set S.on, S.on.room)) refl refl)

  module _ (W : ReadyToWrite M c) where
    -- phase 5: replicas with a free entry
    five : (N : Machine) → Opened M c (most_directories M + 5) 5 N → Ends 2 c (2 * (k.f + 1) + (2 * least_to_write k + 0)) N
    unfolding enough_for
    five N o =
        phase wrw o s (omega arith) (λ _. refl) (le→leb (k.f + 1) (size (set_of s.list)) (omega (arith, size_chosen s))) (λ q l a. a)
        (λ _ _ _ S e. opened wrw S 6 wdw (λ i. omega arith) e refl small_directories (omega (arith, few_to_ask)) six)
      where
        able : (r : ℕ) → 0 < r → r ≤ 0 + k.replicas → T (not (is_down M AReplica r) && some? is_free (replica_at M r).entries) → Asked o r
        able r l g u =
            let b = and_elim (not (is_down M AReplica r)) (some? is_free (replica_at M r).entries) u in (
              record { up = rw (o.on.kept.replicas r) b.0; below = λ i. absurd (omega arith); free = λ _. rw (o.replicas refl) b.1 },
              omega (arith, n.few_replicas),
              in_all k.replicas r l (omega arith),
            )

        s : Chosen (Asked o) 0 (k.f + 1)
        s = choose (λ r. not (is_down M AReplica r) && some? is_free (replica_at M r).entries) 0 k.replicas (k.f + 1) able W.entries

    -- phase 4: no number is at top
    pub four : (N : Machine) → Opened M c (most_directories M + 11) 4 N → Ends 2 c (write_price k) N
    unfolding chosen
    four N o =
        subst (λ (z : ℕ). Ends 2 c z N) (omega arith)
        (over_directories wdr o tt (λ _. able)
        (λ L _ _ S e.
        let b = lt-leb L.conf.top (hears wdr S).tag.number (rw S.on.kept.conf (below_heard wdr S refl)) in
        opened wdr S {t = tag ((hears wdr S).tag.number + 1) c} (most_directories M + 5) wrw (λ i. omega arith) e (rw b) (small_all k.replicas (omega (arith, n.few_replicas)))
        (omega (arith, n.few_replicas, size_all k.replicas)) five))
      where
        able : (d : ℕ) → Standing M d → (directory_at M d).tag.number < k.top
        able d z = W.below d z.low z.high z.up
