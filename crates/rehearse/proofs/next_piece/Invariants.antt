-- A read that failed took nothing.
use Rattle.std.proofs.Common.{◌≡◌, length}
use Rattle.std.specs.Io.KnownBytes.{Keeps}
use Rattle.rehearse.proofs.next_piece.Given as goal

abbrev pub invariant-loop : goal.invariant-loop
invariant-loop g l = (length l.chunk ≡ length l.initial.chunk) × Keeps (g.R.Read.remaining l.initial.reader) (g.R.Read.remaining l.reader)
