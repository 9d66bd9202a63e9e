-- "[..] at most 80 bytes before it. [..] Any other line [..] gets code 18." The command that a line is; a line is the bytes
-- before its LF, and is read from its first byte to its last.
use Rattle.std.specs.Prelude.{ℕ, ◌+◌, ◌*◌, ◌-◌, ◌≤◌, ◌≡◌, Bool, ◌&&◌, List, [], ◌∷◌, length, get_or, ltb, leb, eqb, Option, None, Some, if◌then◌else◌}
use Rattle.schedule.specs.declared.Command.{Command}
use Rattle.schedule.specs.declared.Command.TheVariants.{SetUp, Columns, Read, Write, Deliver, Gossip, Tidy, Crash, Malformed}
use Rattle.schedule.specs.Text.{text, fields_in, Fields}

-- the line is the command's text, as the paper has it
pub record IsText (c : Command) (l : List ℕ) : Type 0 where
  pub command : c ≡ Malformed → ⊥
  pub bytes : l ≡ text c
  pub fields : Fields (fields_in c)
  pub short : length l ≤ 80

-- numbers that were read, or none where the bytes are no such list
abbrev pub Numbers : Type 0
Numbers = Option (List ℕ)

abbrev pub push : ℕ → Numbers → Numbers
push n None = None
push n (Some ns) = Some (n ∷ ns)

-- where in a line one stands: after the letter or a whole number; after a space; in a number that is n so far
pub data Place : Type 0 where
  after : Place
  start : Place
  inside : ℕ → Place

abbrev pub digit : ℕ → Bool
digit b = leb 48 b && leb b 57

-- the numbers of the bytes from a place on
unfoldable pub numbers_of : List ℕ → Place → Numbers
numbers_of [] after = Some []
numbers_of [] start = None
numbers_of [] (inside n) = Some (n ∷ [])
numbers_of (b ∷ l) after = if eqb b 32 then numbers_of l start else None
numbers_of (b ∷ l) start =
    if eqb b 48 then push 0 (numbers_of l after) else if digit b then numbers_of l (inside (b - 48)) else None
numbers_of (b ∷ l) (inside n) =
    if digit b then (if leb (n * 10 + (b - 48)) 4294967295 then numbers_of l (inside (n * 10 + (b - 48))) else None)
    else push n (if eqb b 32 then numbers_of l start else None)

-- the command of a letter and n numbers
abbrev pub pick : ℕ → ℕ → List ℕ → Command
pick b n v =
    if eqb n 8
    then (if eqb b 83
    then SetUp (get_or v 0 0) (get_or v 1 0) (get_or v 2 0) (get_or v 3 0) (get_or v 4 0) (get_or v 5 0) (get_or v 6 0) (get_or v 7 0)
    else Malformed)
    else if eqb n 7
    then (if eqb b 67
    then Columns (get_or v 0 0) (get_or v 1 0) (get_or v 2 0) (get_or v 3 0) (get_or v 4 0) (get_or v 5 0) (get_or v 6 0)
    else Malformed)
    else if eqb n 1
    then (if eqb b 82 then Read (get_or v 0 0) else if eqb b 68 then Deliver (get_or v 0 0)
    else if eqb b 84 then Tidy (get_or v 0 0) else Malformed)
    else if eqb n 2
    then (if eqb b 87 then Write (get_or v 0 0) (get_or v 1 0) else if eqb b 71 then Gossip (get_or v 0 0) (get_or v 1 0)
    else if eqb b 88 then Crash (get_or v 0 0) (get_or v 1 0) else Malformed)
    else Malformed

unfoldable pub pick_all : ℕ → Numbers → Command
pick_all b None = Malformed
pick_all b (Some v) = pick b (length v) v

-- the command that a line of any length says
unfoldable pub said_by : List ℕ → Command
said_by [] = Malformed
said_by (b ∷ l) = pick_all b (numbers_of l after)

-- the command that a line is
unfoldable pub command_of : List ℕ → Command
command_of l = if ltb 80 (length l) then Malformed else said_by l
