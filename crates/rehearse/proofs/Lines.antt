-- A line is answered: what its call gave is printed.
use Rattle.std.proofs.Common.{◌≡◌, ◌∙◌, Bool, List, [], ℕ}
use Rattle.schedule.specs.declared.Command.{Command}
use Rattle.schedule.specs.declared.Line.{Line}
use Rattle.schedule.specs.Input.{Held}
use Rattle.schedule.specs.Text.{answer_text}
use Rattle.schedule.specs.Inner.{Printed}
use Rattle.rehearse.specs.declared.Reply.{Reply}
use Rattle.rehearse.specs.declared.Rehearsal.{Rehearsal}
use Rattle.rehearse.specs.declared.output.Output.{Output}
use Rattle.rehearse.specs.Rehearsal.{in_force, machines_after, printed, following}
use Rattle.rehearse.specs.Turns.{Replied, Answered, machines_of}

pub answered : (s : Rehearsal) (c : Command) (line : Line) (r : Reply) (m w : List ℕ) (n : ℕ) (b : Bool) (out : Output)
    → Held [] line → n ≡ following s.lines → Replied c (machines_of s) r m w → b ≡ in_force r.answer.code r.wide s.is_wide
    → Printed 147 s.output.bytes s.output.len (answer_text n r.answer.code r.answer.client r.answer.tag.number r.answer.tag.client r.word r.answer.mark) out.bytes out.len
    → Answered c s (record { lines = n; line = line; base = m; wide = w; is_wide = b; output = out })
unfolding printed
answered s c line r m w n b out k e g q t =
    let z : b ≡ (machines_after c (machines_of s)).is_wide = q ∙ rw (g.answer, g.named) in
    record {
      lines = e;
      line = k;
      machines = rw (z, g.base, g.wide);
      text = t.text ∙ rw (g.answer, g.word);
    }
