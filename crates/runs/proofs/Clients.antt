-- A client's row after a good reply is good, and so is what it sends.
use Rattle.std.specs.Prelude.{if◌then◌else◌}
use mathlib.Core.Bool.{true, false, not}
use mathlib.Core.Path.{◌≡◌, refl, ap, subst, ◌∙◌}
use Prim.Native.Nat.{ℕ, ◌+◌, ◌^◌, ◌≤◌, ◌<◌}
use native.Mathlib.Decide.{ℕ_discrete}
use native.Mathlib.Omega.{arith}
use lib.Dec.{T, eqb, T_not}
use Rattle.sets.specs.declared.Tag.{Tag}
use Rattle.sets.specs.Tags.{tag}
use Rattle.tables.specs.declared.Conf.{Conf}
use Rattle.tables.specs.declared.Client.{Client}
use Rattle.tables.specs.declared.Message.{Message}
use Rattle.tables.specs.declared.Party.TheVariants.{AClient}
use Rattle.tables.specs.Phases.{uses_page, rounds_left}
use Rattle.tables.specs.Tables.{no_page, is_empty}
use Rattle.tables.proofs.Whole.{Paged}
use Rattle.inspect.specs.Good.{is_party}
use Rattle.inspect.proofs.Facts.{TagFacts, ClientFacts, MessageFacts}
use Rattle.mail.specs.declared.Post.{Post}
use Rattle.rules.specs.declared.Outcome.{Outcome}
use Rattle.mail.specs.Posts.{no_post}
use Rattle.rules.specs.Client.{awaited, enough_for, heard, idle, moved, client_after, request, client_post}
use Rattle.rules.proofs.Views.{Timely, Completes, View, v_stale, v_waits, v_1, v_2, v_3, v_4, v_spent, v_5, v_6}
use Rattle.runs.proofs.Sound.{Sends}
use Rattle.runs.proofs.Sent.{is_between, sends_none}
use Rattle.runs.proofs.Busy.{chosen_from, Busy, busy, busy_facts, idle_facts, heard_busy, moved_busy, request_sends, secures_sends}

pub record Answers (k : Conf) (y : Client) (sent : Post) : Type 0 where
  pub facts : ClientFacts k y
  pub page : Paged y.page
  pub post : Sends k sent

module _ (k : Conf) (own : ℕ) (w : Client) (x : Message) (f : ClientFacts k w) (q : Paged w.page) (g : MessageFacts k x)
    (full : T (not (is_empty x))) (l : 1 ≤ own) (h : own ≤ k.clients) where
  heard_in : (p : ℕ) → Busy k p w → Timely w x → (p ≡ 3 → ⊥) → Busy k p (heard w x)
  heard_in p b t n = heard_busy b x g (t.kind ∙ ap awaited b.phase) n

  ends : {y : Post} → Sends k y → Answers k (idle w) y
  unfolding no_page
  ends s = record { facts = idle_facts k w f; page = refl; post = s }

  own_party : is_party k AClient own ≡ true
  own_party = is_between 1 k.clients own l h

  -- a change of phase from p
  turns : (p : ℕ) (t : Tag) → Completes k w x p → 1 ≤ p → (p ≡ 3 → ⊥) → rounds_left (p + 1) + 1 ≤ rounds_left p → p + 1 ≤ 6
      → (uses_page (p + 1) ≡ false → uses_page p ≡ false) → (Busy k p (heard w x) → TagFacts k t)
      → (Busy k p (heard w x) → (if eqb p 5 then (heard w x).answered else (heard w x).replicas) < 2 ^ chosen_from k (p + 1))
      → Answers k (moved (heard w x) t) (request k own (moved (heard w x) t))
  turns p t c m n r z u a s =
      let b = heard_in p (busy k p w f q c.phase m) c.timely n in
      let y : Busy k (p + 1) (moved (heard w x) t) = moved_busy b t (a b) r (s b) u z in
      record { facts = busy_facts y; page = y.page; post = request_sends y own own_party }

  -- an idle client awaits nothing, and in phase 3 one reply is enough
  waits : Timely w x → T (not (enough_for k w.phase (heard w x).answered)) → Answers k (heard w x) no_post
  unfolding awaited enough_for
  waits t n =
      let b = heard_in w.phase (busy k w.phase w f q refl some) t in_three in
      record { facts = busy_facts b; page = b.page; post = sends_none k }
    where
      some : 1 ≤ w.phase
      some = go (ℕ_discrete w.phase 0)
        where
          go : Dec (w.phase ≡ 0) → 1 ≤ w.phase
          go (yes e) = absurd (T_not (eqb x.kind 0) full (rw (t.kind ∙ ap awaited e) tt))
          go (no e) = omega arith

      in_three : w.phase ≡ 3 → ⊥
      in_three e = subst (λ (p : ℕ). T (not (enough_for k p (heard w x).answered))) e n

  new_tag : (heard w x).tag.number < k.top → TagFacts k (tag ((heard w x).tag.number + 1) own)
  new_tag m = record { number = omega arith; client = h; first = λ z. absurd (omega arith); later = λ z. absurd (omega arith) }

  pub client_answers : {o : Outcome} → View k own w x o → Answers k (client_after w x o) (client_post k own w (client_after w x o) o)
  unfolding client_after client_post
  client_answers (v_stale _) = record { facts = f; page = q; post = sends_none k }
  client_answers (v_waits t n) = waits t n
  client_answers (v_1 c) = turns 1 (heard w x).tag c (omega arith) (λ e. omega arith) (omega arith) (omega arith) (λ _. refl) (λ b. b.tag) (λ b. b.set)
  client_answers (v_2 c) = turns 2 (heard w x).tag c (omega arith) (λ e. omega arith) (omega arith) (omega arith) (λ _. refl) (λ b. b.tag) (λ b. b.set)
  client_answers (v_3 c) = ends (sends_none k)
  client_answers (v_4 c m) = turns 4 (tag ((heard w x).tag.number + 1) own) c (omega arith) (λ e. omega arith) (omega arith) (omega arith) (λ e. e) (λ _. new_tag m) (λ b. b.set)
  client_answers (v_spent c _) = ends (sends_none k)
  client_answers (v_5 c) = turns 5 (heard w x).tag c (omega arith) (λ e. omega arith) (omega arith) (omega arith) (λ e. e) (λ b. b.tag) (λ b. b.answered)
  client_answers (v_6 c) =
      let b = busy k 6 w f q c.phase (omega arith) in
      ends (secures_sends b own own_party b.set)
