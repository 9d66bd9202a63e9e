-- "Lines: `S nc nd nr f rq wq top w`, `R client`, `W client w`, `D slot`, `G from to`, `T replica`, `X kind id` [..] Fields are
-- decimal, at most 4,294,967,295, one space apart, line end LF [..]. No leading zeros. [..] Each line prints line number, code,
-- client, tag number, tag client, and the first page word if the code is 1, else 0." And of columns: "The program's set-up line is
-- `C nc nd nr f columns top w`." And of the mark: "The rehearsal program prints it last on each line."
use Rattle.std.specs.Prelude.{ℕ, zero, suc, ◌+◌, ◌/◌, ◌%◌, ◌≤◌, List, [], ◌∷◌, ◌++◌, ltb, eqb, if◌then◌else◌}
use Rattle.schedule.specs.declared.Command.{Command}
use Rattle.schedule.specs.declared.Command.TheVariants.{SetUp, Columns, Read, Write, Deliver, Gossip, Tidy, Crash, Malformed}

-- the decimal digits of n, the most significant first and no zero before it, for an n below 10 ^ room
unfoldable pub decimal_in : ℕ → ℕ → List ℕ
decimal_in zero n = []
decimal_in (suc room) n = if ltb n 10 then ((48 + n) ∷ []) else decimal_in room (n / 10) ++ ((48 + n % 10) ∷ [])

-- those of an n of 64 bits
unfoldable pub decimal : ℕ → List ℕ
decimal n = decimal_in 20 n

-- one space before each number
unfoldable pub fields_text : List ℕ → List ℕ
fields_text [] = []
fields_text (n ∷ ns) = (32 ∷ decimal n) ++ fields_text ns

-- the numbers of a command, in their order
abbrev pub fields_in : Command → List ℕ
fields_in (SetUp nc nd nr f rq wq top w) = nc ∷ nd ∷ nr ∷ f ∷ rq ∷ wq ∷ top ∷ w ∷ []
fields_in (Columns nc nd nr f columns top w) = nc ∷ nd ∷ nr ∷ f ∷ columns ∷ top ∷ w ∷ []
fields_in (Read client) = client ∷ []
fields_in (Write client w) = client ∷ w ∷ []
fields_in (Deliver slot) = slot ∷ []
fields_in (Gossip from to) = from ∷ to ∷ []
fields_in (Tidy replica) = replica ∷ []
fields_in (Crash kind id) = kind ∷ id ∷ []
fields_in Malformed = []

-- its letter: S, C, R, W, D, G, T or X
abbrev pub letter_of : Command → ℕ
letter_of (SetUp nc nd nr f rq wq top w) = 83
letter_of (Columns nc nd nr f columns top w) = 67
letter_of (Read client) = 82
letter_of (Write client w) = 87
letter_of (Deliver slot) = 68
letter_of (Gossip from to) = 71
letter_of (Tidy replica) = 84
letter_of (Crash kind id) = 88
letter_of Malformed = 0

-- the text of a command, without the line end
unfoldable pub text : Command → List ℕ
text c = letter_of c ∷ fields_text (fields_in c)

-- numbers that may be fields
abbrev pub Fields : List ℕ → Type 0
Fields [] = Unit {0}
Fields (n ∷ ns) = (n ≤ 4294967295) × Fields ns

-- "the first page word if the code is 1, else 0"
abbrev pub word_shown : ℕ → ℕ → ℕ
word_shown code word = if eqb code 1 then word else 0

-- the line that answers a command, with the line end
unfoldable pub answer_text : ℕ → ℕ → ℕ → ℕ → ℕ → ℕ → ℕ → List ℕ
answer_text line code client number owner word mark =
    decimal line ++ (fields_text (code ∷ client ∷ number ∷ owner ∷ word_shown code word ∷ mark ∷ []) ++ (10 ∷ []))
