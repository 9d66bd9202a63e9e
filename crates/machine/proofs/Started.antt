-- Start read and start write: one step for both, and its ways out.
use Rattle.std.specs.Prelude.{if◌then◌else◌}
use mathlib.Core.Path.{◌≡◌, refl, sym, ap, ◌∙◌}
use mathlib.Core.Bool.{Bool, true, false, not}
use mathlib.Core.List.{List, []}
use Prim.Native.Nat.{ℕ, suc, ◌+◌, ◌-◌, ◌^◌, ◌≤◌, ◌<◌}
use native.Mathlib.Omega.{arith}
use borrow.Author.Tests.{ne_eqb, ltb-false}
use lib.Dec.{ltb, eqb}
use lib.ListN.{length, take, drop}
use lib.Seq.{take_all}
use Rattle.tables.specs.declared.Layout.{Layout}
use Rattle.tables.specs.declared.Conf.{Conf}
use Rattle.tables.specs.declared.Client.{Client}
use Rattle.tables.specs.declared.Party.TheVariants.{AClient}
use Rattle.tables.specs.Layouts.{extent}
use Rattle.tables.specs.Tables.{Page, Machine, no_page, client_at, with_client, with_slots}
use Rattle.tables.specs.Words.{words}
use Rattle.tables.specs.Machines.{conf_of, machine_of}
use Rattle.tables.proofs.Read.{its_room}
use Rattle.tables.proofs.Whole.{whole_of, whole_client}
use Rattle.tables.proofs.Holds.{Holds, holds_machine, holds_rest}
use Rattle.mail.specs.declared.Post.{Post}
use Rattle.mail.specs.Posts.{messages_of}
use Rattle.mail.specs.Slots.{placed}
use Rattle.inspect.specs.Good.{between, is_party}
use Rattle.inspect.proofs.Facts.{numbers_facts}
use Rattle.rules.specs.declared.Answer.{Answer}
use Rattle.rules.specs.Answers.{coded}
use Rattle.rules.specs.Client.{started, request}
use Rattle.machine.specs.Effects.{Effect, client, applied}
use Rattle.machine.specs.Calls.{start_read, start_write, done, start_effect}
use Rattle.machine.specs.Refusals.{refusal, no_slot}
use Rattle.machine.specs.Steps.{Result, refused, effect_of, step}
use Rattle.machine.specs.Buffers.{call, Gives}
use Rattle.machine.specs.declared.refusal.Refusal.{Refusal}
use Rattle.machine.specs.Told.{number_of}
use Rattle.machine.specs.Inner.{room_code, Ready, Took, Launches, start_code, launch_step, start_step}
use Rattle.machine.proofs.Arrivals.{conf_of_lem}
use Rattle.machine.proofs.Parties.{in_range, own_party, ready_numbers, numbers_of_lem, client_place}
use Rattle.machine.proofs.Rooms.{crowded, has_slots, lacks_slots}
use Rattle.machine.proofs.Addressed.{request_few}
use Rattle.machine.proofs.Steps.{took_nothing, call_taken}

pub start_read_lem : (c : ℕ) (M : Machine) → step (start_read c) M ≡ start_step M c 1 no_page
unfolding step effect_of start_step
start_read_lem c M = refl

pub start_write_lem : (c : ℕ) (page : Page) (M : Machine) → step (start_write c page) M ≡ start_step M c 4 page
unfolding step effect_of start_step refusal
start_write_lem c page M = refl

-- ---- the row written and the request sent

module _ (lay : Layout) (m : List ℕ) (k : Conf) (c : ℕ) (y : Client) (g : Launches lay m k c y) (p : Post) (s : p ≡ request k c y) where
  pub launch_few : p.to < 2 ^ 16
  launch_few = rw s (request_few lay.directories g.ready.long.few k (numbers_facts lay.directories k g.numbers) c y g.set)

  pub launch_full : (r : Refusal) → number_of r ≡ room_code (machine_of lay m) 0 p.to → Took lay (launch_step (machine_of lay m) k c y) (coded (number_of r)) [] m m
  unfolding launch_step
  launch_full r x =
      rw (← s, lacks_slots (machine_of lay m) (client c y) p launch_few r x, (crowded (machine_of lay m) 0 p.to r x).1) (took_nothing lay m [] 24 (coded 24) g.ready.long refl)

  pub launched : (a : Answer) (l n : List ℕ) → 0 ≡ room_code (machine_of lay m) 0 p.to → length y.page ≡ 16 → a ≡ coded 0 → l ≡ words (with_client (machine_of lay m) (suc (c - 1)) y) (drop (extent lay) m)
      → n ≡ words (with_slots (machine_of lay l) (placed (messages_of p) (machine_of lay l).slots)) (drop (extent lay) l)
      → Took lay (launch_step (machine_of lay m) k c y) a [] m n
  unfolding launch_step
  launched a l n x w q t u =
      let row : suc (c - 1) ≡ c = omega (arith, g.low) in
      let held : Holds lay l (with_client (machine_of lay m) c y) (drop (extent lay) m) =
      record { is = t ∙ ap (λ (i : ℕ). words (with_client (machine_of lay m) i y) (drop (extent lay) m)) row; whole = whole_client (whole_of lay m g.ready.long.long) c y w; room = its_room lay m } in
      let after : n ≡ words (with_slots (with_client (machine_of lay m) c y) (placed (messages_of p) (machine_of lay m).slots)) (drop (extent lay) m) =
      u ∙ rw (holds_machine held, holds_rest held) in
      rw (← s, has_slots (machine_of lay m) (client c y) p launch_few x) (record { answer = q; page = refl; buffer = after })

-- ---- the ways out of a start

not_worn : (k : Conf) (w : Client) → start_code k w ≡ 0 → w.number + 3 ≤ k.top
unfolding start_code
not_worn k w = go (eqb w.down 1) (not (eqb w.phase 0)) (ltb k.top (w.number + 3)) refl
  where
    go : (x y z : Bool) → ltb k.top (w.number + 3) ≡ z → ◌≡◌ {A = ℕ} (if x then 19 else if y then 20 else if z then 21 else 0) 0 → w.number + 3 ≤ k.top
    go true y z e q = absurd (omega arith)
    go false true z e q = absurd (omega arith)
    go false false true e q = absurd (omega arith)
    go false false false e q = ltb-false k.top (w.number + 3) e

pub start_able : (lay : Layout) (m : List ℕ) (g : Ready lay m) (k : Conf) (w : Client) (s : ℕ) → k ≡ conf_of m → s ≡ start_code k w → s ≡ 0 → w.number < 4294967295
start_able lay m g k w s at j z = omega (arith, not_worn k w (sym j ∙ z), (numbers_of_lem lay m g.fine k at).top_fits)

pub launchable : (lay : Layout) (m : List ℕ) (g : Ready lay m) (c phase : ℕ) (page : Page) (k : Conf) (w y : Client) (i : ℕ) → k ≡ conf_of m → suc i ≡ c → c ≤ k.clients
    → y ≡ started w phase page → Launches lay m k c y
launchable lay m g c phase page k w y i at o h v =
    record {
      ready = g;
      numbers = ready_numbers lay m g.fine k at;
      low = omega arith;
      high = omega (arith, client_place i c o lay m g k at h);
      set = rw v (omega arith);
    }

module _ (lay : Layout) (m : List ℕ) (g : Ready lay m) (c phase : ℕ) (page : Page) (k : Conf) (at : k ≡ conf_of m) where
  conf_is : (machine_of lay m).conf ≡ k
  conf_is = sym (at ∙ conf_of_lem lay m)

  party_is : (b : Bool) → between 1 k.clients c ≡ b → is_party (machine_of lay m).conf AClient c ≡ b
  party_is b e = own_party lay m k at AClient c b (sym e)

  pub start_out : (r : Refusal) → between 1 k.clients c ≡ false → number_of r ≡ 18 → Took lay (start_step (machine_of lay m) c phase page) (coded (number_of r)) [] m m
  unfolding start_step refusal
  start_out r h q = rw (party_is false h, q) (took_nothing lay m [] 18 (coded 18) g.long refl)

  -- w is its row, s what keeps it from starting
  module _ (i : ℕ) (o : suc i ≡ c) (h : c ≤ k.clients) (a : Answer) (w : Client) (f : w ≡ client_at (machine_of lay m) (suc i)) (s : ℕ) (j : s ≡ start_code k w) where
    own_row : client_at (machine_of lay m) c ≡ w
    own_row = sym (f ∙ ap (client_at (machine_of lay m)) o)

    stands : start_code (machine_of lay m).conf (client_at (machine_of lay m) c) ≡ s
    stands = ap (λ (q : Conf). start_code q (client_at (machine_of lay m) c)) conf_is ∙ ap (start_code k) own_row ∙ sym j

    post_is : start_effect (machine_of lay m) c phase page ≡ done (client c (started w phase page)) (request k c (started w phase page))
    unfolding start_effect
    post_is =
        ap (λ (q : Conf). done (client c (started (client_at (machine_of lay m) c) phase page)) (request q c (started (client_at (machine_of lay m) c) phase page))) conf_is
        ∙ ap (λ (q : Client). done (client c (started q phase page)) (request k c (started q phase page))) own_row

    -- the tests of a start, and then NO SLOT
    code_is : refusal (start_read c) (machine_of lay m) (start_effect (machine_of lay m) c phase page)
        ≡ (if eqb s 0 then if no_slot (machine_of lay m) (start_effect (machine_of lay m) c phase page) then 24 else 0 else s)
    unfolding refusal start_code
    code_is =
        rw (party_is true (in_range i c o k.clients h))
        (go (eqb (client_at (machine_of lay m) c).down 1) (not (eqb (client_at (machine_of lay m) c).phase 0))
        (ltb (machine_of lay m).conf.top ((client_at (machine_of lay m) c).number + 3)) (sym stands))
      where
        go : (x y z : Bool) → s ≡ (if x then 19 else if y then 20 else if z then 21 else 0)
            → (if x then 19 else if y then 20 else if z then 21 else if no_slot (machine_of lay m) (start_effect (machine_of lay m) c phase page) then 24 else 0)
            ≡ (if eqb s 0 then if no_slot (machine_of lay m) (start_effect (machine_of lay m) c phase page) then 24 else 0 else s)
        go true y z q = rw q
        go false true z q = rw q
        go false false true q = rw q
        go false false false q = rw q

    pub start_stopped : (s ≡ 0 → ⊥) → a ≡ coded s → Took lay (start_step (machine_of lay m) c phase page) a [] m m
    unfolding start_step
    start_stopped z q = rw (code_is, ne_eqb s 0 z) (rw (ne_eqb s 0 z) (took_nothing lay m [] s a g.long q))

    -- what is left of the step, by its effect
    abbrev rest : Effect → Result
    rest x = if no_slot (machine_of lay m) x then refused 24 [] (machine_of lay m) else record { answer = x.answer; page = x.page; machine = applied x (machine_of lay m) }

    step_is : s ≡ 0 → start_step (machine_of lay m) c phase page ≡ rest (start_effect (machine_of lay m) c phase page)
    unfolding start_step
    step_is z = rw (code_is, z) (go (no_slot (machine_of lay m) (start_effect (machine_of lay m) c phase page)) _)
      where
        go : (x : Bool) (r : Result) → (if eqb (if x then 24 else 0) 0 then r else refused (if x then 24 else 0) [] (machine_of lay m))
            ≡ (if x then refused 24 [] (machine_of lay m) else r)
        go true r = refl
        go false r = refl

    pub start_launched : (n : List ℕ) (y : Client) → s ≡ 0 → y ≡ started w phase page → Took lay (launch_step (machine_of lay m) k c y) a [] m n
        → Took lay (start_step (machine_of lay m) c phase page) a [] m n
    unfolding launch_step
    start_launched n y z v t = rw (step_is z, post_is) (rw v at t)

-- ---- the two calls

pub reads : (lay : Layout) (m : List ℕ) (g : Ready lay m) (c : ℕ) (a : Answer) (p l : List ℕ) → p ≡ no_page → Took lay (start_step (machine_of lay m) c 1 p) a [] m l
    → Gives (call lay (start_read c) m) a [] l
reads lay m g c a p l q t = call_taken lay m (start_read c) refl g refl a [] l (rw (start_read_lem c (machine_of lay m)) (rw q at t))

pub writes : (lay : Layout) (m : List ℕ) (g : Ready lay m) (page : List ℕ) → length page ≡ 16 → (c : ℕ) (a : Answer) (p l : List ℕ) → p ≡ take 16 page
    → Took lay (start_step (machine_of lay m) c 4 p) a [] m l → Gives (call lay (start_write c page) m) a [] l
writes lay m g page e c a p l q t =
    let same : p ≡ page = q ∙ take_all 16 page (omega arith) in
    call_taken lay m (start_write c page) refl g (rw e) a [] l (rw (start_write_lem c page (machine_of lay m)) (rw same at t))
