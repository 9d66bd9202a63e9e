-- The input comes in pieces. Where the program stands between two of them, and what it then has still to write.
use Rattle.std.specs.Prelude.{◌≡◌, List, [], ◌++◌, ℕ}
use Rattle.schedule.specs.Input.{commands_from}
use Rattle.rehearse.specs.Rehearsal.{Machines, zeros, output_of}

-- the lines so far, the machines, and the bytes after the last LF
pub record Stand : Type 0 where
  pub lines : ℕ
  pub machines : Machines
  pub pending : List ℕ

abbrev pub start : Stand
start = record { lines = 0; machines = zeros; pending = [] }

-- the output of what is to come
unfoldable pub ahead : Stand → List ℕ → List ℕ
ahead a l = output_of a.lines a.machines (commands_from a.pending l)

-- a piece of the input takes the program from a to b, and writes a text
pub record Takes (a : Stand) (piece text : List ℕ) (b : Stand) : Type 0 where
  pub same : (later : List ℕ) → ahead a (piece ++ later) ≡ text ++ ahead b later

-- pieces one after the other, and all that they write
pub data Taken (a : Stand) : List ℕ → List ℕ → Stand → Type 0 where
  nothing : Taken a [] [] a
  more : {l w : List ℕ} {b c : Stand} (piece text : List ℕ) → Taken a l w b → Takes b piece text c → Taken a (l ++ piece) (w ++ text) c
