-- A start that is accepted opens the first phase; from there so many deliveries end the operation.
use mathlib.Core.Path.{◌≡◌, refl, sym, ap, subst}
use mathlib.Core.Bool.{not}
use mathlib.Core.List.{[]}
use Prim.Native.Nat.{ℕ, ◌+◌, ◌≤◌}
use native.Mathlib.Omega.{arith}
use borrow.Author.Tests.{le-leb, le-ltb}
use lib.Dec.{T, eqb}
use lib.ListN.{length}
use Rattle.sets.specs.Sets.{size, all}
use Rattle.sets.proofs.Laws.{size_all}
use Rattle.tables.specs.declared.Client.{Client}
use Rattle.tables.specs.Tables.{Page, Machine, no_page, client_at}
use Rattle.mail.specs.Posts.{messages_of}
use Rattle.mail.specs.Slots.{empty_slots}
use Rattle.rules.specs.Answers.{coded}
use Rattle.rules.specs.Client.{started, request}
use Rattle.machine.specs.Effects.{applied}
use Rattle.machine.specs.Calls.{Call, start_read, start_write, start_effect}
use Rattle.machine.specs.Refusals.{no_slot}
use Rattle.machine.specs.Steps.{Result, effect_of, step}
use Rattle.machine.specs.Buffers.{wrong_page}
use Rattle.runs.proofs.Ways.{Allowed, allows}
use Rattle.runs.proofs.Acts.{Among, begun}
use Rattle.runs.proofs.Rows.{numbers_of_lem}
use Rattle.history.proofs.Shape.{client_set}
use Rattle.history.proofs.Walk.{Good}
use Rattle.history.proofs.Reached.{step_good}
use Rattle.fewest.specs.Fewest.{read_price, write_price}
use Rattle.fewest.proofs.Quorums.{most_directories}
use Rattle.fewest.proofs.Ready.{Ready, ReadyToWrite}
use Rattle.fewest.proofs.Waiting.{placed_count}
use Rattle.fewest.proofs.Delivery.{Ends, posted}
use Rattle.fewest.proofs.Serve.{Phase, rdr, wdr}
use Rattle.fewest.proofs.Turn.{asks_of, IsRequest, requests, many_asked, Opened}
use Rattle.fewest.proofs.Phases.{small_all, one, four}

module _ (M : Machine) (G : Good M) (few : M.conf.directories ≤ 16) (c : ℕ) (R : Ready M c) where
  -- the first phase asks all directories
  module _ {p : ℕ} (h : Phase p) (page : Page) (d : asks_of M.conf (started (client_at M c) p page) p ≡ all M.conf.directories) where
    abbrev w : Client
    w = started (client_at M c) p page

    asks : IsRequest M.conf c w p (request M.conf c w)
    asks = requests M.conf c w h refl

    many : length (messages_of (request M.conf c w)) ≤ most_directories M
    many = omega (arith, many_asked asks (rw d (small_all M.conf.directories few)), ap size d, size_all M.conf.directories, (numbers_of_lem G.sound).few_directories)

    slots : T (not (no_slot M (begun M c p page)))
    slots = rw (le-ltb (empty_slots M.slots) (length (messages_of (request M.conf c w))) (omega (arith, many, R.slots))) tt

    -- and its requests wait
    begins : (q : Call) → (step q M).machine ≡ applied (begun M c p page) M → T (not (wrong_page q)) → {code n : ℕ}
        → ((N : Machine) → Opened M c (most_directories M + 11) p N → Ends code c n N) → Ends code c n (step q M).machine
    begins q e g {code} {n} f =
        let a : Among M.conf.clients c = record { low = R.low; high = R.high } in
        subst (Ends code c n) (sym e) (f (applied (begun M c p page) M)
        (record {
          row = w;
          on = record {
            good = subst Good e (step_good q M G g);
            kept = record { conf = refl; directories = λ _. refl; replicas = λ _. refl; stock = λ _. refl };
            party = a;
            row = client_set M G.sound c a w;
            phase = refl;
            up = R.up;
            room = omega (arith, many, R.slots, placed_count (messages_of (request M.conf c w)) M.slots);
            below = λ _. omega (arith, (numbers_of_lem G.sound).some_rounds);
          };
          answered = refl;
          asks = λ r l k m. posted (request M.conf c w) M.slots (omega (arith, many, R.slots)) asks.full r l k (rw asks.to m) (asks.mail r);
          directories = λ _. refl;
          replicas = λ _. refl;
        }))

  -- no refusal applies
  allowed : Allowed (start_read c) M
  unfolding effect_of start_effect
  allowed =
      record {
        argument = rw (le-leb 1 c R.low, le-leb c M.conf.clients R.high) tt;
        up = rw (ap (λ (z : ℕ). eqb z 1) R.up) tt;
        idle = rw (ap (λ (z : ℕ). eqb z 0) R.idle) tt;
        unworn = rw (le-ltb M.conf.top ((client_at M c).number + 3) R.unworn) tt;
        filled = tt;
        free = tt;
        slots = slots rdr no_page refl;
      }

  pub read_begins : step (start_read c) M ≡ record { answer = coded 0; page = []; machine = applied (begun M c 1 no_page) M }
  unfolding step effect_of start_effect
  read_begins = rw (allows (start_read c) M allowed)

  pub read_ends : Ends 1 c (read_price M.conf) (step (start_read c) M).machine
  read_ends =
      begins rdr no_page refl (start_read c) (ap (λ (r : Result). r.machine) read_begins) tt (one M G few c R)

  module _ (page : Page) where
    pub write_begins : step (start_write c page) M ≡ record { answer = coded 0; page = []; machine = applied (begun M c 4 page) M }
    unfolding step effect_of start_effect
    write_begins =
        let a = allowed in
        rw (allows (start_write c page) M (record { argument = a.argument; up = a.up; idle = a.idle; unworn = a.unworn; filled = tt; free = tt; slots = slots wdr page refl }))

    pub write_ends : T (not (wrong_page (start_write c page))) → ReadyToWrite M c → Ends 2 c (write_price M.conf) (step (start_write c page) M).machine
    write_ends h W =
        begins wdr page refl (start_write c page) (ap (λ (r : Result). r.machine) write_begins) h (four M G few c R W)
