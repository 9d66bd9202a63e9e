-- Whatever the pieces in which the input comes, what the program writes is the rehearsal of it.
use Rattle.std.proofs.Common.{◌≡◌, refl, sym, ap, subst, ◌∙◌, List, [], ◌++◌, append-nil, append_assoc, take, Option, ℕ}
use Rattle.std.specs.Io.KnownBytes.{Appends, Consumes, IsAtEnd}
use Rattle.std.proofs.KnownBytes.{Appends-nil, Appends-trans, Consumes-nil, Consumes-trans, Consumes-whole}
use Rattle.rehearse.specs.declared.Rehearsal.{Rehearsal}
use Rattle.rehearse.specs.declared.output.Output.{Output}
use Rattle.rehearse.specs.Rehearsal.{rehearsal}
use Rattle.rehearse.specs.Pieces.{Stand, start, ahead, Takes, Taken, nothing, more}
use Rattle.rehearse.specs.Turns.{waiting, Drained, DrainedInto, Fresh, Ended, Reached, Reads, Rehearsed, Rehearses}

-- pieces one after the other are one piece
pub joined : (a : Stand) {l w : List ℕ} {b : Stand} → Taken a l w b → Takes a l w b
joined a nothing = record { same = λ later. refl }
joined a (more {l} {w} {b} {c} piece text h t) =
    record {
      same = λ later.
          rw (append_assoc l piece later)
          ((joined a h).same (piece ++ later) ∙ ap (λ (z : List ℕ). w ++ z) (t.same later) ∙ sym (append_assoc w text (ahead c later)));
    }

-- all that was written, and the answer to a last line without its end
pub whole : {l w : List ℕ} {b : Stand} → Taken start l w b → rehearsal l ≡ w ++ ahead b []
unfolding rehearsal ahead
whole {l} h = rw (append-nil l) at ((joined start h).same [])

-- at the start
pub starts : (s : Rehearsal) → Fresh s → Reached [] [] s
starts s f = record { pending = []; held = f.line; taken = rw (f.lines, f.machines) nothing }

-- after a chunk
pub reads_on : (l w : List ℕ) (s : Rehearsal) (chunk : List ℕ) (r : Rehearsal) → Reached l w s → (d : Drained chunk s r)
    → Reached (l ++ chunk) (w ++ d.text) r
reads_on l w s chunk r g d =
    let k = d.went g.pending g.held in
    record { pending = k.pending; held = k.held; taken = more chunk d.text g.taken (record { same = k.same }) }

-- at the end
pub ends : (l w : List ℕ) (s r : Rehearsal) → Reached l w s → Ended s r → rehearsal l ≡ w ++ waiting r
ends l w s r g e = whole g.taken ∙ ap (λ (z : List ℕ). w ++ z) (sym (e.text g.pending g.held))

-- the program between two pieces: what it read is gone from the reader, and what it wrote is with the writer, where their bytes are known
pub record Between (given left before after : Option (List ℕ)) (s : Rehearsal) : Type 0 where
  pub reads : Reads s
  pub read : Consumes given left reads.input
  pub written : Appends before after reads.text

-- the same of it: before the first piece, after a piece, and where the input ends
pub between_first : (given before : Option (List ℕ)) (s : Rehearsal) → Fresh s → Between given given before before s
between_first given before s f =
    record {
      reads = record { input = []; text = []; reached = starts s f };
      read = Consumes-nil given;
      written = Appends-nil before;
    }

module _ (given left before after : Option (List ℕ)) (s : Rehearsal) (g : Between given left before after s) where
  pub between_more : (less : Option (List ℕ)) (chunk : List ℕ) (r : Rehearsal) (later : Option (List ℕ)) → Consumes left less chunk
      → DrainedInto chunk s after r later → Between given less before later r
  between_more less chunk r later c d =
      let a = g.reads in
      record {
        reads = record {
          input = a.input ++ chunk;
          text = a.text ++ d.drained.text;
          reached = reads_on a.input a.text s chunk r a.reached d.drained;
        };
        read = Consumes-trans given left less a.input chunk g.read c;
        written = Appends-trans before after later a.text d.drained.text g.written d.written;
      }

  module _ (r : Rehearsal) (e : Ended s r) where
    pub between_all : r ≡ record s { output = r.output } → (out : Output) → out.bytes ≡ r.output.bytes → Rehearsed (record r { output = out })
    between_all j out k =
        let a = g.reads in
        subst (λ (x : Rehearsal). Rehearsed (record x { output = out })) (sym j)
        (record {
          reads = record {
            input = a.input;
            text = a.text;
            reached = record { pending = a.reached.pending; held = a.reached.held; taken = a.reached.taken };
          };
          size = r.output.len;
          whole = rw k (ends a.input a.text s r a.reached e);
        })

    -- the last read gave nothing
    pub wrote_all : (less later : Option (List ℕ)) (n : ℕ) (chunk : List ℕ) → n ≡ 0 → Consumes left less (take n chunk) → IsAtEnd less
        → Appends after later (waiting r) → Rehearses given before later
    wrote_all less later n chunk z c d t =
        let a = g.reads in
        let none : Consumes left less [] = subst (λ (k : ℕ). Consumes left less (take k chunk)) z c in
        Consumes-whole given less a.input (λ (l : List ℕ). Appends before later (rehearsal l))
        (subst (Consumes given less) (append-nil a.input) (Consumes-trans given left less a.input [] g.read none)) d
        (subst (Appends before later) (sym (ends a.input a.text s r a.reached e)) (Appends-trans before after later a.text (waiting r) g.written t))
