-- "[..] reads standard input. [..] Any other line, or a last one without LF, gets code 18." The commands of an input, and what
-- of it waits in a buffer.
use Rattle.std.specs.Prelude.{ℕ, ◌≤◌, ◌<◌, min, ◌≡◌, Bool, List, [], ◌∷◌, ◌++◌, length, take, drop, eqb, if◌then◌else◌, Option, Some, None, IfSome}
use Rattle.schedule.specs.declared.Command.{Command}
use Rattle.schedule.specs.declared.Command.TheVariants.{Malformed}
use Rattle.schedule.specs.declared.Line.{Line}
use Rattle.schedule.specs.Lines.{command_of}

-- the bytes after the last LF: a line without its end, where there are any
abbrev pub unfinished : List ℕ → List Command
unfinished [] = []
unfinished (b ∷ p) = Malformed ∷ []

-- the commands of a pending line and the input that follows it
unfoldable pub commands_from : List ℕ → List ℕ → List Command
commands_from p [] = unfinished p
commands_from p (b ∷ l) = if eqb b 10 then command_of p ∷ commands_from [] l else commands_from (p ++ (b ∷ [])) l

-- the commands of an input, one for each line
abbrev pub commands_of : List ℕ → List Command
commands_of l = commands_from [] l

-- the pending line p in its buffer: all of its bytes, or that it has more than 80
pub record Held (p : List ℕ) (line : Line) : Type 0 where
  pub size : line.len ≡ min (length p) 18446744073709551615
  pub bytes : length p ≤ 80 → take line.len line.bytes ≡ p

-- where a line end was met, before a place of the chunk, the pending line is a command; else it goes on
abbrev pub cut : Option ℕ → List ℕ → List ℕ → List ℕ → List Command
cut (Some next) p chunk later = command_of p ∷ commands_from [] (drop next chunk ++ later)
cut None p chunk later = commands_from p later

-- a chunk's bytes were added to the pending line, up to a line end or the chunk's end: r is the place after the line end
pub record FedOn (old : Line) (chunk : List ℕ) (new : Line) (r : Option ℕ) : Type 0 where
  pub next : IfSome r (λ at. (0 < at) × (at ≤ length chunk))
  pub added : List ℕ
  pub held : (p : List ℕ) → Held p old → Held (p ++ added) new
  pub same : (p later : List ℕ) → commands_from p (chunk ++ later) ≡ cut r (p ++ added) chunk later

abbrev pub malformed_if : Bool → List Command
malformed_if b = if b then Malformed ∷ [] else []
