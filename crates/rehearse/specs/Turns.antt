-- What the program's functions promise each other: however far they come in the input, what was written and what is still to come is the output.
use Rattle.std.specs.Prelude.{◌≡◌, List, [], ◌++◌, ℕ, ◌≤◌, ◌<◌, min, get_or, length, take, drop, Option, Some, None, IfSome}
use Rattle.std.specs.Io.KnownBytes.{Appends}
use Rattle.schedule.specs.declared.Command.{Command}
use Rattle.schedule.specs.Input.{Held}
use Rattle.rules.specs.declared.Answer.{Answer}
use Rattle.machine.specs.Buffers.{Outcomes}
use Rattle.rehearse.specs.declared.Reply.{Reply}
use Rattle.rehearse.specs.declared.Rehearsal.{Rehearsal}
use Rattle.rehearse.specs.Rehearsal.{Machines, machines, zeros, goes_wide, outcome_of, machines_after, printed, following, rehearsal}
use Rattle.rehearse.specs.Pieces.{Stand, start, ahead, Taken}

-- what a call left: its answer, the page's first word, the buffer
pub record Said (o : Outcomes) (r : Answer × ℕ) (m : List ℕ) : Type 0 where
  pub answer : r.0 ≡ o.answer
  pub word : r.1 ≡ get_or o.page 0 0
  pub buffer : m ≡ o.buffer

-- a command's call is made on the machine that it names
pub record Replied (c : Command) (a : Machines) (r : Reply) (m w : List ℕ) : Type 0 where
  pub answer : r.answer ≡ (outcome_of c a).answer
  pub word : r.word ≡ get_or (outcome_of c a).page 0 0
  pub named : r.wide ≡ goes_wide c a.is_wide
  pub base : m ≡ (machines_after c a).base
  pub wide : w ≡ (machines_after c a).wide

-- the machines, and the answers that wait to be written
abbrev pub machines_of : Rehearsal → Machines
machines_of s = machines s.is_wide s.base s.wide

abbrev pub waiting : Rehearsal → List ℕ
waiting s = take s.output.len s.output.bytes

-- a command is answered: its line stands after what waited before it, and the next line begins
pub record Answered (c : Command) (s r : Rehearsal) : Type 0 where
  pub lines : r.lines ≡ following s.lines
  pub line : Held [] r.line
  pub machines : machines_of r ≡ machines_after c (machines_of s)
  pub text : waiting r ≡ waiting s ++ printed r.lines (outcome_of c (machines_of s))

-- where it stands, with the pending line p
abbrev pub stand : Rehearsal → List ℕ → Stand
stand s p = record { lines = s.lines; machines = machines_of s; pending = p }

-- from a to r: the text w and then the output of the input i is the text v and then that of the input i', whatever comes later
pub record Went (a : Stand) (w i : List ℕ) (r : Rehearsal) (v i' : List ℕ) : Type 0 where
  pub pending : List ℕ
  pub held : Held pending r.line
  pub same : (later : List ℕ) → w ++ ahead a (i ++ later) ≡ v ++ ahead (stand r pending) (i' ++ later)

-- what is left of a chunk after a turn: all past a line, or nothing
abbrev pub left_of : Option ℕ → List ℕ → List ℕ
left_of (Some next) chunk = drop next chunk
left_of None chunk = []

-- a turn: a line and its answer, or the rest of the chunk
pub record Turned (chunk : List ℕ) (s r : Rehearsal) (next : Option ℕ) : Type 0 where
  pub place : IfSome next (λ at. (0 < at) × (at ≤ length chunk))
  pub room : r.output.len ≤ 65536
  pub went : (p : List ℕ) → Held p s.line → Went (stand s p) (waiting s) chunk r (waiting r) (left_of next chunk)

-- from one place in a chunk to another, whatever line is pending: the text is the answers to the lines that end between them
pub record Goes (chunk : List ℕ) (s : Rehearsal) (from : ℕ) (r : Rehearsal) (text : List ℕ) (place : ℕ) : Type 0 where
  pub low : from ≤ place
  pub high : place ≤ length chunk
  pub went : (p : List ℕ) → Held p s.line → Went (stand s p) [] (drop from chunk) r text (drop place chunk)

-- a chunk up to a place, past its first byte if it has one: the answers to its lines up to there are w, and then what waits
pub record Consumed (chunk : List ℕ) (s : Rehearsal) (w : List ℕ) (r : Rehearsal) (place : ℕ) : Type 0 where
  pub some : min 1 (length chunk) ≤ place
  pub answered : Goes chunk s 0 r (w ++ waiting r) place
  pub room : r.output.len ≤ 65536

-- the same, where the writer got all of them: they still stand first in the output, but wait no more
pub record Passed (chunk : List ℕ) (s : Rehearsal) (before : Option (List ℕ)) (r : Rehearsal) (after : Option (List ℕ)) (place : ℕ) : Type 0 where
  pub size : ℕ
  pub room : size ≤ 65536
  pub some : min 1 (length chunk) ≤ place
  pub answered : Goes chunk s 0 r (take size r.output.bytes) place
  pub empty : r.output.len ≡ 0
  pub written : Appends before after (take size r.output.bytes)

-- where the output fails: the lines up to a place were answered all the same
pub record Unwritten (chunk : List ℕ) (s : Rehearsal) (w : List ℕ) (r : Rehearsal) : Type 0 where
  pub place : ℕ
  pub consumed : Consumed chunk s w r place

-- a whole chunk
pub record Drained (chunk : List ℕ) (s r : Rehearsal) : Type 0 where
  pub text : List ℕ
  pub went : (p : List ℕ) → Held p s.line → Went (stand s p) [] chunk r text []

-- the same, where its text is what the writer got, and nothing waits
pub record DrainedInto (chunk : List ℕ) (s : Rehearsal) (before : Option (List ℕ)) (r : Rehearsal) (after : Option (List ℕ)) : Type 0 where
  pub drained : Drained chunk s r
  pub empty : r.output.len ≡ 0
  pub written : Appends before after drained.text

-- where its output fails: the answers up to a place are some text, of which this says no more, and then what waits
pub record Stopped (chunk : List ℕ) (s r : Rehearsal) : Type 0 where
  pub text : List ℕ
  pub unwritten : Unwritten chunk s text r

-- before the first line
pub record Fresh (s : Rehearsal) : Type 0 where
  pub lines : s.lines ≡ 0
  pub line : Held [] s.line
  pub machines : machines_of s ≡ zeros

-- at the input's end: what was still to come waits in the output
pub record Ended (s r : Rehearsal) : Type 0 where
  pub room : r.output.len ≤ 65536
  pub text : (p : List ℕ) → Held p s.line → waiting r ≡ ahead (stand s p) []

-- the same, and all else is as it was
pub record EndedIn (s r : Rehearsal) : Type 0 where
  pub ended : Ended s r
  pub same : r ≡ record s { output = r.output }

-- the program after an input, in which it wrote a text
pub record Reached (l w : List ℕ) (s : Rehearsal) : Type 0 where
  pub pending : List ℕ
  pub held : Held pending s.line
  pub taken : Taken start l w (stand s pending)

-- it stands so after some input
pub record Reads (s : Rehearsal) : Type 0 where
  pub input : List ℕ
  pub text : List ℕ
  pub reached : Reached input text s

-- it stands at the input's end: what was written before, and then the output's first bytes, is the rehearsal of that input
pub record Rehearsed (s : Rehearsal) : Type 0 where
  pub reads : Reads s
  pub size : ℕ
  pub whole : rehearsal reads.input ≡ reads.text ++ take size s.output.bytes

-- where the bytes of a reader and of a writer are known: the writer got the rehearsal of all that the reader had
abbrev pub Rehearses : Option (List ℕ) → Option (List ℕ) → Option (List ℕ) → Type 0
Rehearses input before after = IfSome input (λ l. Appends before after (rehearsal l))
