-- A client's row in a phase that is not idle; the rows that the rules make of it are good, and so is what they send.
use Rattle.std.specs.Prelude.{if◌then◌else◌}
use mathlib.Core.Bool.{Bool, true, false, ◌||◌, false≢true}
use mathlib.Core.Path.{◌≡◌, refl, sym, ap, subst, ◌∙◌}
use Prim.Native.Nat.{ℕ, zero, suc, ◌+◌, ◌^◌, ◌≤◌, ◌<◌}
use native.Mathlib.Omega.{arith}
use borrow.Author.Tests.{le-leb, lt-ltb, ne_eqb, eqb-true}
use lib.Arith.{lt-one}
use lib.Dec.{eqb, eqb→eq}
use lib.Pow.{pow_pos}
use Rattle.sets.specs.declared.Tag.{Tag}
use Rattle.std.specs.declared.cmp.Ordering.{Ordering}
use Rattle.std.specs.declared.cmp.Ordering.TheVariants.{Less, Equal, Greater}
use Rattle.sets.specs.Sets.{join, with}
use Rattle.sets.specs.Tags.{first, against}
use Rattle.sets.proofs.Laws.{join_lt, with_lt}
use Rattle.sets.proofs.Tests.{if_ind}
use Rattle.tables.specs.declared.Conf.{Conf}
use Rattle.tables.specs.declared.Client.{Client}
use Rattle.tables.specs.declared.Message.{Message}
use Rattle.tables.specs.declared.Party.TheVariants.{AClient}
use Rattle.tables.specs.Kinds.{sender_of, receiver_of, many_named}
use Rattle.tables.specs.Phases.{asks_directories, asks_replicas, uses_replica_set, uses_tag, uses_page, rounds_left}
use Rattle.tables.specs.Tables.{Page, no_page}
use Rattle.tables.proofs.Whole.{Paged}
use Rattle.inspect.specs.Good.{between, zeros, good_tag, good_set, is_party, client_row}
use Rattle.inspect.proofs.Facts.{TagFacts, ClientFacts, MessageFacts}
use Rattle.inspect.proofs.Made.{client_made}
use Rattle.mail.specs.declared.Post.{Post}
use Rattle.rules.specs.Client.{awaited, hearing, gathered, raised, heard, idle, moved, started, request, secures}
use Rattle.runs.proofs.Sound.{Sends}
use Rattle.runs.proofs.Sent.{is_between, in_use, good_tag_lem, sends_set, sends_all, sends_none}

pub client_fits : (k : Conf) (c : ℕ) (w : Client) → c ≤ k.clients → ClientFacts k w → Paged w.page → (client_row k c w ≡ true) × Paged w.page
unfolding client_row
client_fits k c w h f p = (rw (le-leb c k.clients h) (client_made k w f), p)

-- ---- a row in phase p, which is not idle

-- how many parties the answered set and the replica set are of; a set of none is 0
abbrev asked : Conf → ℕ → ℕ
asked k p = if asks_directories p then k.directories else if asks_replicas p then k.replicas else 0

abbrev pub chosen_from : Conf → ℕ → ℕ
chosen_from k p = if uses_replica_set p then k.replicas else 0

pub record Busy (k : Conf) (p : ℕ) (w : Client) : Type 0 where
  pub phase : w.phase ≡ p
  pub some : 1 ≤ p
  pub high : p ≤ 6
  pub down : w.down ≤ 1
  pub numbered : 1 ≤ w.number
  pub rounds : w.number + rounds_left p ≤ k.top
  pub answered : w.answered < 2 ^ asked k p
  pub set : w.replicas < 2 ^ chosen_from k p
  pub tag : TagFacts k w.tag
  pub spare : w.spare ≡ 0
  pub blank_page : uses_page p ≡ false → zeros w.page ≡ true
  pub page : Paged w.page

two_ways : (a b : Bool) (n m s : ℕ) → (a ≡ true → s < 2 ^ n) → (b ≡ true → s < 2 ^ m) → (a ≡ false → b ≡ false → s ≡ 0)
    → s < 2 ^ (if a then n else if b then m else 0)
two_ways true b n m s f g h = f refl
two_ways false true n m s f g h = g refl
two_ways false false n m s f g h = rw (h refl refl) (pow_pos 0)

one_way : (a : Bool) (n s : ℕ) → s < 2 ^ n → (a ≡ false → s ≡ 0) → s < 2 ^ (if a then n else 0)
one_way true n s f h = f
one_way false n s f h = rw (h refl) (pow_pos 0)

pub busy : (k : Conf) (p : ℕ) (w : Client) → ClientFacts k w → Paged w.page → w.phase ≡ p → 1 ≤ p → Busy k p w
busy k p w f q e l =
    subst (λ (n : ℕ). Busy k n w) e
    (record {
      phase = refl;
      some = rw e l;
      high = f.phase;
      down = f.down;
      numbered = f.numbered (rw e l);
      rounds = f.rounds;
      answered =
          two_ways (asks_directories w.phase) (asks_replicas w.phase) k.directories k.replicas w.answered f.asked
          (λ a. f.asked_replicas (eqb-true _ _ a)) f.unasked;
      set = one_way (uses_replica_set w.phase) k.replicas w.replicas f.set f.no_set;
      tag = f.tag;
      spare = f.spare;
      blank_page = f.blank_page;
      page = q;
    })

first_way : (a : Bool) (n m s : ℕ) → s < 2 ^ (if a then n else m) → a ≡ true → s < 2 ^ n
first_way a n m s h e = rw e at h

no_way : (a b : Bool) (n m s : ℕ) → s < 2 ^ (if a then n else if b then m else 0) → a ≡ false → b ≡ false → s ≡ 0
no_way true b n m s h e f = absurd (false≢true (sym e))
no_way false true n m s h e f = absurd (false≢true (sym f))
no_way false false n m s h e f = lt-one h

any_way : (a : Bool) (n s : ℕ) → s < 2 ^ (if a then n else 0) → s < 2 ^ n
any_way true n s h = h
any_way false n s h = omega (arith, lt-one h, pow_pos n)

in_phase_lem : (p : ℕ) → 1 ≤ p → uses_tag p ≡ false → ⊥
in_phase_lem p l e = false≢true (sym (rw (ne_eqb p 0 (λ z. omega arith)) at e))

pub busy_facts : {k : Conf} {p : ℕ} {w : Client} → Busy k p w → ClientFacts k w
busy_facts {k} {p} {w} b = go (subst (λ (n : ℕ). Busy k n w) (sym b.phase) b)
  where
    go : Busy k w.phase w → ClientFacts k w
    go c =
        record {
          down = c.down;
          phase = c.high;
          numbered = λ _. c.numbered;
          rounds = c.rounds;
          asked = first_way (asks_directories w.phase) k.directories _ w.answered c.answered;
          asked_replicas = λ e. subst (λ (n : ℕ). w.answered < 2 ^ asked k n) e c.answered;
          unasked = no_way (asks_directories w.phase) (asks_replicas w.phase) k.directories k.replicas w.answered c.answered;
          set = any_way (uses_replica_set w.phase) k.replicas w.replicas c.set;
          no_set = λ e. no_way (uses_replica_set w.phase) false k.replicas 0 w.replicas c.set e refl;
          tag = c.tag;
          no_tag = λ e. absurd (in_phase_lem w.phase c.some e);
          spare = c.spare;
          blank_page = c.blank_page;
        }

-- ---- the rows that the rules make

no_tag : (k : Conf) → TagFacts k first
no_tag k = record { number = omega arith; client = omega arith; first = λ _. refl; later = λ _. refl }

module _ (k : Conf) (w : Client) (f : ClientFacts k w) where
  pub idle_facts : ClientFacts k (idle w)
  unfolding no_page zeros
  idle_facts =
      record {
        down = f.down;
        phase = omega arith;
        numbered = λ l. absurd (omega arith);
        rounds = omega (arith, f.rounds);
        asked = λ _. pow_pos k.directories;
        asked_replicas = λ _. pow_pos k.replicas;
        unasked = λ _ _. refl;
        set = pow_pos k.replicas;
        no_set = λ _. refl;
        tag = no_tag k;
        no_tag = λ _. refl;
        spare = f.spare;
        blank_page = λ _. refl;
      }

  -- a start that is not WORN
  pub started_busy : (p : ℕ) (page : Page) → 1 ≤ p → p ≤ 6 → w.number + 1 + rounds_left p ≤ k.top → (uses_page p ≡ false → zeros page ≡ true) → Paged page
      → Busy k p (started w p page)
  started_busy p page l h r z q =
      record {
        phase = refl;
        some = l;
        high = h;
        down = f.down;
        numbered = omega arith;
        rounds = r;
        answered = pow_pos (asked k p);
        set = pow_pos (chosen_from k p);
        tag = no_tag k;
        spare = f.spare;
        blank_page = z;
        page = q;
      }

-- the parties that answer are those that the phase asks
sender_asked : (k : Conf) (p : ℕ) → 1 ≤ p → p ≤ 6 → (p ≡ 3 → ⊥) → many_named k (sender_of (awaited p)) ≡ asked k p
unfolding sender_of awaited
sender_asked k zero l h n = absurd (omega arith)
sender_asked k (suc zero) l h n = refl
sender_asked k (suc (suc zero)) l h n = refl
sender_asked k (suc (suc (suc zero))) l h n = absurd (n refl)
sender_asked k (suc (suc (suc (suc zero)))) l h n = refl
sender_asked k (suc (suc (suc (suc (suc zero))))) l h n = refl
sender_asked k (suc (suc (suc (suc (suc (suc zero)))))) l h n = refl
sender_asked k (suc (suc (suc (suc (suc (suc (suc p))))))) l h n = absurd (omega arith)

module _ {k : Conf} {p : ℕ} {w : Client} (b : Busy k p w) where
  module _ (x : Message) (g : MessageFacts k x) (e : x.kind ≡ awaited p) (n : p ≡ 3 → ⊥) where
    hearing_busy : (s : ℕ) (t : Tag) → s < 2 ^ chosen_from k p → TagFacts k t → Busy k p (hearing w (with w.answered x.sender) s t)
    hearing_busy s t h f =
        record {
          phase = b.phase;
          some = b.some;
          high = b.high;
          down = b.down;
          numbered = b.numbered;
          rounds = b.rounds;
          answered = with_lt (asked k p) w.answered x.sender b.answered
              (rw (sender_asked k p b.some b.high n) at (subst (λ (z : ℕ). x.sender ≤ many_named k (sender_of z)) e g.sender));
          set = h;
          tag = f;
          spare = b.spare;
          blank_page = b.blank_page;
          page = b.page;
        }

    pub heard_busy : Busy k p (heard w x)
    unfolding heard
    heard_busy =
        if_ind (Busy k p) (eqb w.phase 1) (λ q. gathers (sym b.phase ∙ eqb→eq w.phase 1 q) (against x.tag w.tag))
        (λ _. if_ind (Busy k p) (eqb w.phase 4) (λ _. raises (against x.tag w.tag)) (λ _. hearing_busy _ _ b.set b.tag))
      where
        told : p ≡ 1 → x.set < 2 ^ chosen_from k p
        told q = subst (λ (z : ℕ). x.set < 2 ^ chosen_from k z) (sym q) g.set

        gathers : p ≡ 1 → (o : Ordering) → Busy k p (gathered w (with w.answered x.sender) x.tag x.set o)
        gathers q Greater = hearing_busy x.set x.tag (told q) g.tag
        gathers q Equal = hearing_busy (join w.replicas x.set) w.tag (join_lt (chosen_from k p) w.replicas x.set b.set (told q)) b.tag
        gathers q Less = hearing_busy w.replicas w.tag b.set b.tag

        raises : (o : Ordering) → Busy k p (raised w (with w.answered x.sender) x.tag o)
        raises Greater = hearing_busy w.replicas x.tag b.set g.tag
        raises Equal = hearing_busy w.replicas w.tag b.set b.tag
        raises Less = hearing_busy w.replicas w.tag b.set b.tag

  -- a change of phase
  pub moved_busy : (t : Tag) → TagFacts k t → rounds_left (p + 1) + 1 ≤ rounds_left p → (if eqb p 5 then w.answered else w.replicas) < 2 ^ chosen_from k (p + 1)
      → (uses_page (p + 1) ≡ false → uses_page p ≡ false) → p + 1 ≤ 6 → Busy k (p + 1) (moved w t)
  moved_busy t f r s z h =
      record {
        phase = ap (λ (n : ℕ). n + 1) b.phase;
        some = omega arith;
        high = h;
        down = b.down;
        numbered = omega arith;
        rounds = omega (arith, b.rounds);
        answered = pow_pos (asked k (p + 1));
        set = subst (λ (n : ℕ). (if eqb n 5 then w.answered else w.replicas) < 2 ^ chosen_from k (p + 1)) (sym b.phase) s;
        tag = f;
        spare = b.spare;
        blank_page = λ u. b.blank_page (z u);
        page = b.page;
      }

  number_sent : between 1 k.top w.number || false ≡ true
  number_sent = in_use (between 1 k.top w.number) (is_between 1 k.top w.number b.numbered (omega (arith, b.rounds)))

  module _ (own : ℕ) (o : is_party k AClient own ≡ true) where
    pub request_sends : Sends k (request k own w)
    unfolding request sender_of receiver_of zeros no_page
    request_sends =
        in_phase_of 1 (λ c. sends_all k (record { rest = refl; sender = o; tag = refl; set = refl; number = number_sent; page = refl }))
        (in_phase_of 2 (λ c. sends_all k (record { rest = refl; sender = o; tag = tagged; set = listed c.set; number = number_sent; page = refl }))
        (in_phase_of 3 (λ c. sends_set k (record { rest = refl; sender = o; tag = tagged; set = refl; number = number_sent; page = refl }) w.replicas c.set)
        (in_phase_of 4 (λ c. sends_all k (record { rest = refl; sender = o; tag = refl; set = refl; number = number_sent; page = refl }))
        (in_phase_of 5 (λ c. sends_all k (record { rest = refl; sender = o; tag = tagged; set = refl; number = number_sent; page = b.page }))
        (in_phase_of 6 (λ c. sends_all k (record { rest = refl; sender = o; tag = tagged; set = listed c.set; number = number_sent; page = refl }))
        (sends_none k))))))
      where
        in_phase_of : (n : ℕ) {y z : Post} → (Busy k n w → Sends k y) → Sends k z → Sends k (if eqb w.phase n then y else z)
        in_phase_of n h r = if_ind (Sends k) (eqb w.phase n) (λ e. h (subst (λ (m : ℕ). Busy k m w) (sym b.phase ∙ eqb→eq w.phase n e) b)) (λ _. r)

        tagged : good_tag k w.tag || false ≡ true
        tagged = good_tag_lem k w.tag b.tag

        listed : w.replicas < 2 ^ k.replicas → good_set k.replicas w.replicas || false ≡ true
        listed h = in_use (good_set k.replicas w.replicas) (lt-ltb _ _ h)

    pub secures_sends : w.replicas < 2 ^ k.replicas → Sends k (secures own w)
    unfolding secures sender_of receiver_of zeros no_page
    secures_sends h =
        sends_set k (record { rest = refl; sender = o; tag = good_tag_lem k w.tag b.tag; set = refl; number = number_sent; page = refl }) w.replicas h
