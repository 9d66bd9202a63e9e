-- HOW FEW DELIVERIES WILL DO, over a lent buffer: any buffer, an accepted set-up, any calls after it, and then what is asked.
use mathlib.Core.Path.{◌≡◌, refl, ap, ◌∙◌}
use mathlib.Core.Bool.{not}
use mathlib.Core.List.{List, [], ◌∷◌}
use mathlib.Core.Logic.{inl, inr}
use Prim.Native.Nat.{ℕ, suc, ◌≤◌}
use borrow.Author.Tests.{eq-eqb}
use lib.Dec.{T, eqb, eqb→eq}
use lib.ListN.{length}
use Rattle.sets.proofs.Tests.{not_not}
use Rattle.tables.specs.declared.Layout.{Layout}
use Rattle.tables.specs.declared.Conf.{Conf}
use Rattle.tables.specs.declared.Party.TheVariants.{AClient}
use Rattle.tables.specs.Tables.{Page, Machine, no_page, client_at}
use Rattle.tables.specs.Machines.{machine_of}
use Rattle.tables.proofs.Whole.{Paged}
use Rattle.inspect.specs.Good.{is_party}
use Rattle.rules.specs.declared.Answer.{Answer}
use Rattle.machine.specs.Calls.{Call, set_up, start_read, start_write, deliver}
use Rattle.machine.specs.Refusals.{is_busy}
use Rattle.machine.specs.Steps.{Result, step}
use Rattle.machine.specs.Buffers.{wrong_page, call}
use Rattle.runs.specs.Runs.{Renews, buffer_after}
use Rattle.runs.proofs.Acts.{among}
use Rattle.history.proofs.Walk.{Good}
use Rattle.history.proofs.Reached.{Held, held_good, held_reached}
use Rattle.fewest.specs.Fewest.{deliveries, no_set_up, read_price, write_price, Answers, delivering, Takes, asked_to_read, asked_to_write, all_of}
use Rattle.fewest.proofs.Ready.{Ready, ready, ready_to_write}
use Rattle.fewest.proofs.Spent.{price_of}
use Rattle.fewest.proofs.Held.{answer_is, held_step, held_few}
use Rattle.fewest.proofs.Least.{no_fewer}
use Rattle.fewest.proofs.Delivery.{Ends, last, more, paged}
use Rattle.fewest.proofs.Start.{read_begins, read_ends, write_begins, write_ends}

-- ---- a sequence of deliveries on a buffer

module _ (lay : Layout) (code c : ℕ) where
  ending_slots : {n : ℕ} {M : Machine} → Ends code c n M → List ℕ
  ending_slots (last s _ _) = s ∷ []
  ending_slots (more s e) = s ∷ ending_slots e

  many_slots : {n : ℕ} {M : Machine} → (e : Ends code c n M) → length (ending_slots e) ≡ n
  unfolding ending_slots
  many_slots (last s _ _) = refl
  many_slots (more s e) = ap suc (many_slots e)

  ends_so : {n : ℕ} {M : Machine} (e : Ends code c n M) {m : List ℕ} → Held lay M m → Answers lay code c m (delivering (ending_slots e))
  unfolding ending_slots
  ends_so (last s p q) H =
      let a = answer_is lay (deliver s no_page) H (paged s) in
      inl (ap (λ (x : Answer). x.code) a ∙ p, ap (λ (x : Answer). x.client) a ∙ q)
  ends_so (more s e) H = inr (ends_so e (held_step lay (deliver s no_page) H (paged s)))

-- ---- THE THEOREMS

module _ (lay : Layout) (few : lay.directories ≤ 16) (c : ℕ) {M : Machine} {m : List ℕ} (H : Held lay M m) where
  G : Good M
  G = held_good lay H

  f : M.conf.directories ≤ 16
  f = held_few lay few H

  takes : (code : ℕ) (q : Call) → Ready M c → T (not (wrong_page q)) → (step q M).answer.code ≡ 0 → Ends code c (price_of M.conf code) (step q M).machine
      → Takes lay (price_of M.conf code) q code c m
  takes code q R w a e =
      record {
        starts = ap (λ (x : Answer). x.code) (answer_is lay q H w) ∙ a;
        slots = ending_slots lay code c e;
        many = many_slots lay code c e;
        ends = ends_so lay code c e (held_step lay q H w);
        least = no_fewer lay few code c H (record { low = R.low; high = R.high }) R.idle;
      }

  read_held : T (all_of (asked_to_read M c)) → Takes lay (read_price M.conf) (start_read c) 1 c m
  read_held h =
      let R = ready M G c h in
      takes 1 (start_read c) R tt (ap (λ (r : Result). r.answer.code) (read_begins M G f c R)) (read_ends M G f c R)

  write_held : (page : Page) → Paged page → T (all_of (asked_to_write M c)) → Takes lay (write_price M.conf) (start_write c page) 2 c m
  write_held page q h =
      let W = ready_to_write M G c h in
      let w : T (not (wrong_page (start_write c page))) = rw (eq-eqb (length page) 16 q) tt in
      takes 2 (start_write c page) W.ready w (ap (λ (r : Result). r.answer.code) (write_begins M G f c W.ready page)) (write_ends M G f c W.ready page w W)

-- any layout of at most 16 directory rows, any buffer, an accepted set-up with first page p, any calls after it; then client c
module _ (lay : Layout) (few : lay.directories ≤ 16) (m : List ℕ) (k : Conf) (p : Page) (accepted : Renews (set_up k p) (call lay (set_up k p) m).answer)
    (before : List Call) (c : ℕ) where
  abbrev pub reached : List ℕ
  reached = buffer_after lay (call lay (set_up k p) m).buffer before

  abbrev pub M : Machine
  M = machine_of lay reached

  -- a read takes 2rq + 2wq + 2 deliveries
  pub read_takes : T (all_of (asked_to_read M c)) → Takes lay (read_price M.conf) (start_read c) 1 c reached
  read_takes = read_held lay few c (held_reached lay m k p accepted before)

  -- a write of a page of 16 words takes 2rq + 2wq + 2f + 2
  pub write_takes : (page : Page) → length page ≡ 16 → T (all_of (asked_to_write M c)) → Takes lay (write_price M.conf) (start_write c page) 2 c reached
  write_takes = write_held lay few c (held_reached lay m k p accepted before)

  -- and no fewer, whoever is up and whatever room there is: asked is only that the client is idle
  module _ (party : T (is_party M.conf AClient c)) (idle : T (not (is_busy M c))) (qs : List Call) (n : T (no_set_up qs)) where
    least_of : (code : ℕ) → Answers lay code c reached qs → price_of M.conf code ≤ deliveries qs
    least_of code =
        no_fewer lay few code c (held_reached lay m k p accepted before) (among M.conf.clients c party)
        (eqb→eq (client_at M c).phase 0 (not_not (eqb (client_at M c).phase 0) idle)) qs n

    pub no_fewer_to_read : Answers lay 1 c reached qs → read_price M.conf ≤ deliveries qs
    no_fewer_to_read = least_of 1

    pub no_fewer_to_write : Answers lay 2 c reached qs → write_price M.conf ≤ deliveries qs
    no_fewer_to_write = least_of 2
