-- What was read and written so far; nothing waits.
use Rattle.std.proofs.Common.{◌≡◌, length}
use Rattle.rehearse.proofs.Pieces.{Between}
use Rattle.rehearse.proofs.Rehearsal.run.Given as goal

abbrev pub invariant-loop : goal.invariant-loop
invariant-loop g l =
    (length l.chunk ≡ length l.initial.chunk)
    × (l.self.output.len ≡ 0)
    × Between (g.R.Read.remaining l.initial.reader) (g.R.Read.remaining l.reader) (g.W.Write.contents l.initial.writer) (g.W.Write.contents l.writer) l.self
