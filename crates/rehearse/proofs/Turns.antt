-- Turns over a chunk: each meets a line end or the chunk's end, and what was to come goes on.
use Rattle.std.proofs.Common.{◌≡◌, refl, sym, ap, ◌∙◌, List, [], ◌∷◌, ◌++◌, append_assoc, append-nil, ℕ, ◌+◌, ◌<◌, ◌≤◌, arith, length, length-drop, IfSome, min, ◌-◌, take, drop, Option, Some, None, Bool, true, false}
use Rattle.std.proofs.lemmas.List.{drop-drop}
use Rattle.std.proofs.Math.Seq.{drop-length}
use Rattle.std.specs.Io.KnownBytes.{Appends}
use Rattle.std.proofs.KnownBytes.{Appends-nil, Appends-trans}
use Rattle.schedule.specs.declared.Command.{Command}
use Rattle.schedule.specs.declared.Line.{Line}
use Rattle.schedule.specs.Lines.{command_of}
use Rattle.schedule.specs.Text.{answer_text}
use Rattle.schedule.specs.Input.{Held, FedOn, commands_from, unfinished, malformed_if}
use Rattle.schedule.specs.Inner.{Printed}
use Rattle.rehearse.specs.declared.Rehearsal.{Rehearsal}
use Rattle.rehearse.specs.declared.output.Output.{Output}
use Rattle.rehearse.specs.Rehearsal.{outcome_of, printed, following, output_of}
use Rattle.rehearse.specs.Pieces.{ahead}
use Rattle.rehearse.specs.Turns.{machines_of, waiting, Answered, left_of, Turned, Goes, Consumed, Passed, Unwritten, DrainedInto, Stopped, EndedIn}

-- the answered command is the first of those to come
first_of : (c : Command) (s r : Rehearsal) → Answered c s r → (cs : List Command)
    → waiting s ++ output_of s.lines (machines_of s) (c ∷ cs) ≡ waiting r ++ output_of r.lines (machines_of r) cs
unfolding output_of
first_of c s r a cs =
    rw (← a.lines, a.machines, a.text) (sym (append_assoc (waiting s) (printed r.lines (outcome_of c (machines_of s))) _))

-- a turn
module _ (chunk : List ℕ) (s : Rehearsal) (line : Line) where
  pub rest_of : FedOn s.line chunk line None → s.output.len ≤ 65389 → Turned chunk s (record s { line = line }) None
  unfolding ahead
  rest_of w h =
      record {
        place = tt;
        room = omega arith;
        went = λ p held. record {
          pending = p ++ w.added;
          held = w.held p held;
          same = λ later. ap (λ (cs : List Command). waiting s ++ output_of s.lines (machines_of s) cs) (w.same p later);
        };
      }

  pub met : (next : ℕ) (r : Rehearsal) → FedOn s.line chunk line (Some next) → r.output.len ≤ 65536
      → ((p : List ℕ) → Held p line → Answered (command_of p) (record s { line = line }) r) → Turned chunk s r (Some next)
  unfolding ahead
  met next r w h answers =
      record {
        place = w.next;
        room = h;
        went = λ p held.
            let a = answers (p ++ w.added) (w.held p held) in
            record {
              pending = [];
              held = a.line;
              same = λ later.
                  ap (λ (cs : List Command). waiting s ++ output_of s.lines (machines_of s) cs) (w.same p later)
                  ∙ first_of (command_of (p ++ w.added)) (record s { line = line }) r a _;
            };
      }

-- from a place to itself
stays : (chunk : List ℕ) (s : Rehearsal) (place : ℕ) (w : List ℕ) → place ≤ length chunk → w ≡ [] → Goes chunk s place s w place
stays chunk s place w h e =
    record { low = omega arith; high = h; went = λ p held. record { pending = p; held = held; same = λ later. rw e } }

-- from one place to another, and on to a third
goes_on : (chunk : List ℕ) (s : Rehearsal) (a : ℕ) (m : Rehearsal) (v : List ℕ) (b : ℕ) (r : Rehearsal) (w : List ℕ) (c : ℕ)
    → Goes chunk s a m v b → Goes chunk m b r w c → Goes chunk s a r (v ++ w) c
goes_on chunk s a m v b r w c g h =
    record {
      low = omega (arith, g.low, h.low);
      high = h.high;
      went = λ p held.
          let x = g.went p held in
          let y = h.went x.pending x.held in
          record {
            pending = y.pending;
            held = y.held;
            same = λ later. x.same later ∙ ap (λ (z : List ℕ). v ++ z) (y.same later) ∙ sym (append_assoc v w _);
          };
    }

-- in a chunk, what goes in the rest of it
goes_later : (chunk : List ℕ) (place : ℕ) (rest : List ℕ) (s r : Rehearsal) (w : List ℕ) (n : ℕ) → rest ≡ drop place chunk → place ≤ length chunk
    → Goes rest s 0 r w n → Goes chunk s place r w (place + n)
goes_later chunk place rest s r w n e h g =
    let k : length rest ≡ length chunk - place = ap length e ∙ length-drop place chunk in
    record {
      low = omega arith;
      high = omega (arith, g.high);
      went = λ p held.
          let x = g.went p held in
          record {
            pending = x.pending;
            held = x.held;
            same = λ later. rw (← drop-drop n place chunk, ← e) (x.same later);
          };
    }

-- the output does not count but for what waits in it
goes_with : (chunk : List ℕ) (s : Rehearsal) (a : ℕ) (r : Rehearsal) (v : List ℕ) (b : ℕ) → Goes chunk s a r v b → (out : Output) (w : List ℕ) → w ≡ v
    → Goes chunk s a (record r { output = out }) w b
goes_with chunk s a r v b g out w e =
    record {
      low = g.low;
      high = g.high;
      went = λ p held. let x = g.went p held in record { pending = x.pending; held = x.held; same = λ later. rw e (x.same later) };
    }

-- ---- turns until the output is full
pub record Consuming (chunk : List ℕ) (s r : Rehearsal) (place : ℕ) : Type 0 where
  pub room : r.output.len ≤ 65389
  pub answered : Goes chunk s 0 r (waiting r) place

pub none_yet : (chunk : List ℕ) (s : Rehearsal) → s.output.len ≡ 0 → Consuming chunk s s 0
none_yet chunk s e = record { room = omega arith; answered = stays chunk s 0 (waiting s) (omega arith) (rw e) }

-- the place in a chunk after a turn
abbrev pub place_after : Option ℕ → ℕ → List ℕ → ℕ
place_after (Some next) place chunk = place + next
place_after None place chunk = length chunk

left_after : (next : Option ℕ) (place : ℕ) (chunk : List ℕ) → left_of next (drop place chunk) ≡ drop (place_after next place chunk) chunk
left_after (Some next) place chunk = drop-drop next place chunk
left_after None place chunk = sym (drop-length chunk)

within_after : (next : Option ℕ) (place : ℕ) (chunk : List ℕ) → place ≤ length chunk → IfSome next (λ at. (0 < at) × (at ≤ length (drop place chunk)))
    → (place ≤ place_after next place chunk) × (min 1 (length chunk) ≤ place_after next place chunk) × (place_after next place chunk ≤ length chunk)
within_after (Some next) place chunk h w =
    let k : length (drop place chunk) ≡ length chunk - place = length-drop place chunk in (omega arith, omega (arith, w.0), omega (arith, w.1))
within_after None place chunk h w = (omega arith, omega arith, omega arith)

module _ (chunk : List ℕ) (s r : Rehearsal) (place : ℕ) (g : Consuming chunk s r place) (t : Rehearsal) (next : Option ℕ) (w : Turned (drop place chunk) r t next) where
  pub consumed : Consumed chunk s [] t (place_after next place chunk)
  consumed =
      let within = within_after next place chunk g.answered.high w.place in
      record {
        some = within.1;
        answered = record {
          low = omega arith;
          high = within.2;
          went = λ p held.
              let a = g.answered.went p held in
              let b = w.went a.pending a.held in
              record { pending = b.pending; held = b.held; same = λ later. a.same later ∙ rw (← left_after next place chunk) (b.same later) };
        };
        room = w.room;
      }

  pub consuming : t.output.len ≤ 65389 → Consuming chunk s t (place_after next place chunk)
  consuming h = record { room = h; answered = consumed.answered }

-- ---- the output is written
pub passed : (chunk : List ℕ) (s t : Rehearsal) (place : ℕ) → Consumed chunk s [] t place → (out : Output) → out.bytes ≡ t.output.bytes
    → (before after : Option (List ℕ)) → Appends before after (waiting t) → out.len ≡ 0 → Passed chunk s before (record t { output = out }) after place
passed chunk s t place g out f before after a e =
    record {
      size = t.output.len;
      room = g.room;
      some = g.some;
      answered = goes_with _ _ _ t _ _ g.answered out _ (rw f);
      empty = e;
      written = rw f a;
    }

-- ---- passes over a chunk
pub record Draining (chunk : List ℕ) (s : Rehearsal) (before : Option (List ℕ)) (r : Rehearsal) (after : Option (List ℕ)) (rest : List ℕ) : Type 0 where
  pub text : List ℕ
  pub place : ℕ
  pub answered : Goes chunk s 0 r text place
  pub empty : r.output.len ≡ 0
  pub written : Appends before after text
  pub left : rest ≡ drop place chunk

module _ (chunk : List ℕ) (s : Rehearsal) (before : Option (List ℕ)) where
  pub no_pass : s.output.len ≡ 0 → Draining chunk s before s before chunk
  no_pass e =
      record { text = []; place = 0; answered = stays chunk s 0 [] (omega arith) refl; empty = e; written = Appends-nil before; left = refl }

  module _ (r : Rehearsal) (after : Option (List ℕ)) (rest : List ℕ) (g : Draining chunk s before r after rest) where
    pub one_pass : (t : Rehearsal) (later : Option (List ℕ)) (n : ℕ) → Passed rest r after t later n → (more : List ℕ) → more ≡ drop n rest
        → Draining chunk s before t later more
    one_pass t later n w more m =
        record {
          text = g.text ++ take w.size t.output.bytes;
          place = g.place + n;
          answered = goes_on _ _ _ _ _ _ _ _ _ g.answered (goes_later chunk g.place rest r t (take w.size t.output.bytes) n g.left g.answered.high w.answered);
          empty = w.empty;
          written = Appends-trans _ _ _ _ _ g.written w.written;
          left = m ∙ ap (λ (z : List ℕ). drop n z) g.left ∙ drop-drop n g.place chunk;
        }

    pub drained : rest ≡ [] → DrainedInto chunk s before r after
    drained e =
        record {
          drained = record { text = g.text; went = λ p held. rw (← g.left, e) at (g.answered.went p held) };
          empty = g.empty;
          written = g.written;
        }

    pub stopped : (t : Rehearsal) → Unwritten rest r [] t → Stopped chunk s t
    stopped t u =
        let k : length rest ≡ length chunk - g.place = ap length g.left ∙ length-drop g.place chunk in
        record {
          text = g.text;
          unwritten = record {
            place = g.place + u.place;
            consumed = record {
              some = omega (arith, u.consumed.some, g.answered.high);
              answered = goes_on _ _ _ _ _ _ _ _ _ g.answered (goes_later chunk g.place rest r t (waiting t) u.place g.left g.answered.high u.consumed.answered);
              room = u.consumed.room;
            };
          };
        }

-- the end of the input
module _ (s : Rehearsal) (b : Bool) (u : (p : List ℕ) → Held p s.line → malformed_if b ≡ unfinished p) (e : s.output.len ≡ 0) where
  pub no_more : b ≡ false → EndedIn s s
  unfolding ahead commands_from output_of
  no_more f = record { ended = record { room = omega arith; text = λ p held. rw (e, ← u p held, f) }; same = refl }

  pub one_more : (n : ℕ) (out : Output) → b ≡ true → n ≡ following s.lines
      → Printed 147 s.output.bytes s.output.len (answer_text n 18 0 0 0 0 0) out.bytes out.len → EndedIn s (record s { output = out })
  unfolding ahead commands_from output_of printed
  one_more n out f k t =
      record {
        ended = record { room = omega (arith, t.high); text = λ p held. t.text ∙ rw (e, ← u p held, f, k) (sym (append-nil _)) };
        same = refl;
      }
