-- A MACHINE THAT KEEPS TO A METHOD: every run of it is proper and stands in one line.
use mathlib.Core.Path.{◌≡◌, refl, sym, ap, ◌∙◌, subst}
use mathlib.Core.Logic.{◌⊎◌, inl, inr, ⊎_elim}
use mathlib.Core.List.Memᴰ.{head as here}
use mathlib.Core.List.Memᴰ.{tail as there}
use mathlib.Core.List.{List, [], ◌∷◌, map}
use Prim.Native.Nat.{ℕ, suc, ◌≤◌, ◌<◌}
use native.Mathlib.Omega.{arith}
use native.Mathlib.Nat.{le_trans}
use native.Mathlib.Decide.{ℕ_discrete}
use mathlib.Core.Bool.{not}
use lib.Dec.{T, eqb}
use Rattle.order.specs.Run.{◌∈◌, Page, Kind, reading, writing, Fate, running, ended, spent, left, Event, read_begins, write_begins, read_ends, write_ends, write_spent, gives_up, nothing, Finished, Proper, OneLine, Calls, events}
use Rattle.order.specs.Method.{Stand, idle, reads, asks, writes, Method, GoesOn, Others, Follows, Above, Does, quietly, begins_read, begins_write, chooses, ends_read, ends_write, spends, ends_unfinished, Fresh, NewRanks, never_gives_up, keeps_last, KeepsTo, SeenAs, AllMeant}
use Rattle.order.proofs.Lists.{none_in, all_cons}
use Rattle.order.proofs.Book.{Ranked, Note, seen, chose, shown, top, opened, turned, closed, ranked, renew, book, Mine, Source, Unused, Guard, Keeps, renew_all, renew_moves, renew_stays}
use Rattle.order.proofs.Held.{unlike, fate_number, read_write, Ok, Held, held_start, top_is, next}
use Rattle.order.proofs.Line.{one_line}

-- a client and its open operation
abbrev Row : Stand → Ranked → Type 0
Row idle e = ⊥
Row reads e = e.op.kind ≡ reading
Row (asks p) e = (e.op.kind ≡ writing) × (e.op.page ≡ p) × (e.rank ≡ 0)
Row (writes p t) e = (e.op.kind ≡ writing) × (e.op.page ≡ p) × (e.rank ≡ t) × (0 < t)

abbrev stand_number : Stand → ℕ
stand_number idle = 0
stand_number reads = 1
stand_number (asks p) = 1
stand_number (writes p t) = 1

busy : {s r : Stand} → s ≡ r → T (not (eqb 0 (stand_number r))) → s ≡ idle → ⊥
busy q h z = unlike stand_number z q h

module _ {M C : Type 0} (K : Method M) (A : Calls M C) (L : KeepsTo K A) (p : Page) where
  -- ---- the machine and the book

  -- an operation of the book, by its fate
  abbrev Tied : M → Fate → Ranked → Type 0
  Tied m running e = K.Track m e.op.client e.floor × Row (K.stand m e.op.client) e
  Tied m (ended k) e = K.Known m e.rank
  Tied m spent e = Unit {0}
  Tied m left e = Unit {0}

  -- why its rank is not chosen again
  abbrev Had : NewRanks K A → M → Ranked → Type 0
  Had (never_gives_up _) m e = e.op.fate ≡ left → ⊥
  Had (keeps_last last _ _) m e = e.op.kind ≡ writing → e.rank ≤ last m e.op.client

  record Each (m : M) (e : Ranked) : Type 0 where
    tied : Tied m e.op.fate e
    owner : e.op.kind ≡ writing → 0 < e.rank → K.owner e.rank ≡ e.op.client
    had : Had L.new m e

  record Listed (m : M) (g : List Ranked) : Type 0 where
    each : (e : Ranked) → e ∈ g → Each m e
    opens : (c : ℕ) → (K.stand m c ≡ idle → ⊥) → (e : Ranked) × (e ∈ g) × Mine c e

  record Joined (m : M) (g : List Ranked) : Type 0 where
    good : K.Good m
    known : K.Known m 0
    list : Listed m g
    pages : K.Within (Source p g) m

  start : (m : M) → Fresh K p m → Joined m []
  start m f = record {
    good = f.good;
    known = f.known;
    list = record { each = λ e i. none_in i; opens = λ c n. absurd (n (f.none c)) };
    pages = L.carried m (λ t q. (t ≡ 0) × (q ≡ p)) (Source p []) (λ t q h. inl h) f.first;
  }

  module _ (k : ℕ) (g : List Ranked) (H : Held p k g) (m : M) (J : Joined m g) (x : C) (meant : A.Meant m x) where
    abbrev m' : M
    m' = A.after m x

    -- what a step owes for the event that it shows
    Owes : Event → Type 0
    Owes e = (n : Note) × (shown n ≡ e) × Guard p g n × Joined m' (book k n g)

    owed : (n : Note) → Guard p g n → Listed m' (book k n g) → (K.Within (Source p (book k n g)) m → K.Within (Source p (book k n g)) m') → Owes (shown n)
    unfolding Owes
    owed n G list carry = (
      n,
      refl,
      G,
      record {
        good = L.good m x J.good meant;
        known = L.known m x J.good meant 0 J.known;
        list = list;
        pages = carry (L.carried m (Source p g) (Source p (book k n g)) (next p k g H n G).sources J.pages);
      },
    )

    -- ---- what stays

    had_on : (N : NewRanks K A) (e : Ranked) → Had N m e → Had N m' e
    had_on (never_gives_up _) e h = h
    had_on (keeps_last last rises _) e h = λ w. le_trans (h w) (rises m x J.good meant e.op.client)

    tied_on : (e : Ranked) (f : Fate) → (f ≡ running → GoesOn K m m' e.op.client) → Tied m f e → Tied m' f e
    tied_on e running s h = ((s refl).1 e.floor h.0, subst (λ (r : Stand). Row r e) (sym (s refl).0) h.1)
    tied_on e (ended j) s h = L.known m x J.good meant e.rank h
    tied_on e spent s h = tt
    tied_on e left s h = tt

    each_on : (e : Ranked) → e ∈ g → (e.op.fate ≡ running → GoesOn K m m' e.op.client) → Each m' e
    each_on e i s = let E = J.list.each e i in record { tied = tied_on e e.op.fate s E.tied; owner = E.owner; had = had_on L.new e E.had }

    other_on : (c : ℕ) → Others K m m' c → (e : Ranked) → e ∈ g → (Mine c e → ⊥) → Each m' e
    other_on c ot e i n = each_on e i (λ r. ot e.op.client (λ q. n (q, r)))

    other_open : (c d : ℕ) → Others K m m' c → (d ≡ c → ⊥) → (K.stand m' d ≡ idle → ⊥) → (e : Ranked) × (e ∈ g) × Mine d e
    other_open c d ot n h = J.list.opens d (λ q. h ((ot d n).0 ∙ q))

    -- ---- client c

    open_on : (c : ℕ) (e : Ranked) → e ∈ g → Mine c e → K.Track m c e.floor × Row (K.stand m c) e
    open_on c e i o = subst (λ (d : ℕ). K.Track m d e.floor × Row (K.stand m d) e) o.0 (subst (λ (f : Fate). Tied m f e) o.1 (J.list.each e i).tied)

    row : (c : ℕ) {s : Stand} → K.stand m c ≡ s → (e : Ranked) → e ∈ g → Mine c e → Row s e
    row c q e i o = subst (λ (s : Stand). Row s e) q (open_on c e i o).1

    module _ (c : ℕ) (ot : Others K m m' c) where
      -- it begins an operation
      module _ (kd : Kind) (q : Page) (id : K.stand m c ≡ idle) (tr : Follows K m m' c) (now : Row (K.stand m' c) (opened k c kd q g)) where
        abbrev new : Ranked
        new = opened k c kd q g

        had_new : (N : NewRanks K A) → Had N m' new
        had_new (never_gives_up _) = λ r. unlike fate_number r refl tt
        had_new (keeps_last last _ _) = λ _. omega arith

        ended_known : (e : Ranked) → e ∈ g → Finished e.op → K.Known m e.rank
        ended_known e i f = subst (λ (f : Fate). Tied m f e) f.1 (J.list.each e i).tied

        begins : Listed m' (new ∷ g)
        begins = record {
          each = all_cons (Each m')
              (record { tied = (tr (top g) (top_is (K.Known m) g J.known ended_known), now); owner = λ _ h. absurd (omega arith); had = had_new L.new })
              (λ e i. other_on c ot e i (row c id e i));
          opens = λ d n. opens d n (ℕ_discrete d c);
        }
          where
            opens : (d : ℕ) → (K.stand m' d ≡ idle → ⊥) → Dec (d ≡ c) → (e : Ranked) × (e ∈ new ∷ g) × Mine d e
            opens d n (yes w) = (new, here refl, (sym w, refl))
            opens d n (no w) = let (e, j, o) = other_open c d ot w n in (e, there j, o)

      -- its open operation e becomes f e, and it is idle, or f e is open
      module _ (f : Ranked → Ranked) (on : K.stand m c ≡ idle → ⊥) (after : (K.stand m' c ≡ idle) ⊎ ((e : Ranked) → Mine c e → Mine c (f e)))
          (E : (e : Ranked) → e ∈ g → Mine c e → Each m' (f e)) where
        turns : Listed m' (map (renew c f) g)
        turns = record { each = renew_all c f (Each m') g E (other_on c ot); opens = λ d n. opens d n (ℕ_discrete d c) }
          where
            opens : (d : ℕ) → (K.stand m' d ≡ idle → ⊥) → Dec (d ≡ c) → (e : Ranked) × (e ∈ map (renew c f) g) × Mine d e
            opens d n (yes w) =
                let (e, j, o) = J.list.opens c on in (
                  f e,
                  renew_moves c f g e j o,
                  ⊎_elim (λ z. absurd (n (subst (λ (y : ℕ). K.stand m' y ≡ idle) (sym w) z))) (λ z. subst (λ (y : ℕ). Mine y (f e)) (sym w) (z e o)) after,
                )
            opens d n (no w) = let (e, j, o) = other_open c d ot w n in (e, renew_stays c f g e j (λ q. w (sym o.0 ∙ q.0)), o)

      -- it takes rank t
      module _ (q : Page) (t : ℕ) (st : K.stand m c ≡ asks q) (st' : K.stand m' c ≡ writes q t) (ow : K.owner t ≡ c) (tr : Above K m m' c t) where
        module _ (e : Ranked) (i : e ∈ g) (o : Mine c e) where
          above : e.floor < t
          above = omega (arith, (tr e.floor (open_on c e i o).0).0)

          -- no operation of client c has it
          not_had : (N : NewRanks K A) (d : Ranked) → d ∈ g → d.op.kind ≡ writing → d.op.client ≡ c → d.rank ≡ t → Had N m d → ⊥
          not_had (keeps_last last _ high) d j w z r h =
              omega (arith, r, subst (λ (y : ℕ). d.rank ≤ last m y) z (h w), high m x J.good meant c q t st st')
          not_had (never_gives_up _) d j w z r h = go d.op.fate refl (subst (λ (kd : Kind). Ok (Source p g) kd d.op.fate d) w (H.ok d j))
            where
              go : (f : Fate) → d.op.fate ≡ f → Ok (Source p g) writing d.op.fate d → ⊥
              go running s ok = omega (arith, r, above, (row c st d j (z, s)).2)
              go (ended b) s ok = omega (arith, r, above, (H.agree d e j i).own (z ∙ sym o.0) o.1 (b, s))
              go spent s ok = let y : d.rank ≡ 0 = subst (λ (f : Fate). Ok (Source p g) writing f d) s ok in omega (arith, r, above)
              go left s ok = h s

          unused : Unused g t
          unused d j w r =
              not_had L.new d j w (sym ((J.list.each d j).owner w (omega (arith, r, above))) ∙ ap K.owner r ∙ ow) r (J.list.each d j).had

          had_ranked : (N : NewRanks K A) → Had N m' (ranked t e)
          had_ranked (never_gives_up _) = λ r. unlike fate_number r o.1 tt
          had_ranked (keeps_last last _ high) = λ _. subst (λ (y : ℕ). t ≤ last m' y) (sym o.0) (high m x J.good meant c q t st st').1

          takes : Each m' (ranked t e)
          takes = record {
            tied = subst (λ (f : Fate). Tied m' f (ranked t e)) (sym o.1) (subst (λ (y : ℕ). K.Track m' y e.floor × Row (K.stand m' y) (ranked t e)) (sym o.0) (
              (tr e.floor (open_on c e i o).0).1,
              subst (λ (s : Stand). Row s (ranked t e)) (sym st') ((row c st e i o).0, (row c st e i o).1, refl, omega (arith, above)),
            ));
            owner = λ _ _. ow ∙ sym o.0;
            had = had_ranked L.new;
          }

    -- its operation is closed with this fate
    module _ (f : Fate) (gone : f ≡ left → (c : ℕ) × (A.shows m x ≡ gives_up c)) where
      had_closed : (N : NewRanks K A) (e : Ranked) → Had N m e → Had N m' (closed f e)
      had_closed (never_gives_up never) e h = λ q. let z = gone q in never m x J.good meant z.0 z.1
      had_closed (keeps_last last rises s) e h = had_on (keeps_last last rises s) e h

      closes : (e : Ranked) → e ∈ g → Tied m' f (closed f e) → Each m' (closed f e)
      closes e i h = record { tied = h; owner = (J.list.each e i).owner; had = had_closed L.new e (J.list.each e i).had }

    had_read : (N : NewRanks K A) (q : Page) (t : ℕ) (e : Ranked) → e.op.kind ≡ reading → Had N m' (turned (ended k) q t e)
    had_read (never_gives_up _) q t e r = λ z. unlike fate_number z refl tt
    had_read (keeps_last last _ _) q t e r = λ w. read_write r w

    -- ---- every case

    owes : (e : Event) → A.shows m x ≡ e → Does K m m' e → Owes e
    unfolding book Guard
    owes nothing _ (quietly on ca) =
        owed (seen nothing 0) tt (record { each = λ e i. each_on e i (λ _. on e.op.client); opens = λ c n. J.list.opens c (λ q. n ((on c).0 ∙ q)) }) (ca (Source p g))
    owes (read_begins c) _ (begins_read _ id st tr ot ca) =
        owed (seen (read_begins c) 0) (row c id)
        (begins c ot reading [] id tr (subst (λ (s : Stand). Row s (opened k c reading [] g)) (sym st) refl)) (ca (Source p (book k (seen (read_begins c) 0) g)))
    owes (write_begins c q) _ (begins_write _ _ id st tr ot ca) =
        owed (seen (write_begins c q) 0) (row c id)
        (begins c ot writing q id tr (subst (λ (s : Stand). Row s (opened k c writing q g)) (sym st) (refl, refl, refl))) (ca (Source p (book k (seen (write_begins c q) 0) g)))
    owes nothing _ (chooses c q t st st' ow tr ot ca) =
        let (e, i, o) = J.list.opens c (busy st tt) in
        let r = row c st e i o in
        let high : e.floor < t = above c ot q t st st' ow tr e i o in
        owed (chose c t) (e, i, o, r.0, (r.2, high, unused c ot q t st st' ow tr e i o))
        (turns c ot (ranked t) (busy st tt) (inr (λ _ o. o)) (takes c ot q t st st' ow tr))
        (λ w. ca (Source p (book k (chose c t) g)) w (inr (ranked t e, renew_moves c (ranked t) g e i o, r.0, omega arith, refl, r.1)))
    owes (read_ends c q) _ (ends_read _ _ t st st' tr kn pa ot ca) =
        let (e, i, o) = J.list.opens c (busy st tt) in
        owed (seen (read_ends c q) t) (e, i, o, row c st e i o, (omega (arith, tr e.floor (open_on c e i o).0), pa (Source p g) J.pages))
        (turns c ot (turned (ended k) q t) (busy st tt) (inl st')
        (λ e i o. record { tied = kn; owner = λ w. read_write (row c st e i o) w; had = had_read L.new q t e (row c st e i o) }))
        (ca (Source p (book k (seen (read_ends c q) t) g)))
    owes (write_ends c) _ (ends_write _ q t st st' kn ot ca) =
        let (e, i, o) = J.list.opens c (busy st tt) in
        let r = row c st e i o in
        owed (seen (write_ends c) 0) (e, i, o, r.0, omega (arith, r.2, r.3))
        (turns c ot (closed (ended k)) (busy st tt) (inl st')
        (λ e i o. closes (ended k) (λ z. unlike fate_number z refl tt) e i (subst (K.Known m') (sym (row c st e i o).2) kn)))
        (ca (Source p (book k (seen (write_ends c) 0) g)))
    owes (write_spent c) _ (spends _ q st st' ot ca) =
        let (e, i, o) = J.list.opens c (busy st tt) in
        let r = row c st e i o in
        owed (seen (write_spent c) 0) (e, i, o, r.0, r.2)
        (turns c ot (closed spent) (busy st tt) (inl st') (λ e i o. closes spent (λ z. unlike fate_number z refl tt) e i tt)) (ca (Source p (book k (seen (write_spent c) 0) g)))
    owes (gives_up c) s (ends_unfinished _ on st' ot ca) =
        owed (seen (gives_up c) 0) (J.list.opens c on) (turns c ot (closed left) on (inl st') (λ e i o. closes left (λ _. (c, s)) e i tt)) (ca (Source p (book k (seen (gives_up c) 0) g)))

  -- ---- the third demand

  module _ {W X : Type 0} (view : W → M) (B : Calls W X) (see : (w : W) (x : X) → K.Good (view w) → B.Meant w x → SeenAs A view B w x) where
    goes : (k : ℕ) (g : List Ranked) → Held p k g → (w : W) → Joined (view w) g → (x : X) → B.Meant w x
        → (n : Note) × (shown n ≡ B.shows w x) × Guard p g n × Joined (view (B.after w x)) (book k n g)
    unfolding Owes book Guard
    goes k g H w J x meant = ⊎_elim
        (λ (u : (B.shows w x ≡ nothing) × (view (B.after w x) ≡ view w)). (seen nothing 0, sym u.0, tt, subst (λ (m : M). Joined m g) (sym u.1) J))
        (λ u. let (y, a, s, v) = u in
        let (n, e, G, j) = owes k g H (view w) J y a (A.shows (view w) y) refl (L.does (view w) y J.good a) in
        (n, e ∙ sym s, G, subst (λ (m : M). Joined m (book k n g)) (sym v) j))
        (see w x J.good meant)

    keeps : (xs : List X) (k : ℕ) (g : List Ranked) (w : W) → Held p k g → Joined (view w) g → AllMeant B w xs → Keeps p k g (events B w xs)
    unfolding Keeps events AllMeant
    keeps [] k g w H J a = tt
    keeps (x ∷ xs) k g w H J (a, r) =
        let (n, e, G, j) = goes k g H w J x a in
        (n, e, G, keeps xs (suc k) (book k n g) (B.after w x) (next p k g H n G).held j r)

    -- for a state that is seen as such a machine
    pub atomic_seen : (w : W) → Fresh K p (view w) → (xs : List X) → AllMeant B w xs → Proper (events B w xs) × OneLine p (events B w xs)
    atomic_seen w f xs a = one_line p (events B w xs) (keeps xs 0 [] w (held_start p) (start (view w) f) a)

  -- for the machine itself
  pub atomic : (m : M) → Fresh K p m → (xs : List C) → AllMeant A m xs → Proper (events A m xs) × OneLine p (events A m xs)
  atomic = atomic_seen (λ m. m) A (λ m x _ a. inr (x, a, refl, refl))
