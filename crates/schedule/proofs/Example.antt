-- The paper's input in short, a set-up line with columns, lines that are refused, and answers of its output.
use Rattle.std.proofs.Common.{◌≡◌, refl, [], ◌∷◌}
use Rattle.schedule.specs.declared.Command.TheVariants.{SetUp, Columns, Read, Write, Deliver, Malformed}
use Rattle.schedule.specs.Text.{decimal_in, decimal, fields_text, answer_text}
use Rattle.schedule.specs.Lines.{numbers_of, pick_all, said_by, command_of}
use Rattle.schedule.specs.Input.{commands_from, commands_of}

-- `S 1 1 1 0 1 1 6 7`, `W 1 9`, `D 1`, `R 1`
pub input_read :
    commands_of
    (83 ∷ 32 ∷ 49 ∷ 32 ∷ 49 ∷ 32 ∷ 49 ∷ 32 ∷ 48 ∷ 32 ∷ 49 ∷ 32 ∷ 49 ∷ 32 ∷ 54 ∷ 32 ∷ 55 ∷ 10
    ∷ 87 ∷ 32 ∷ 49 ∷ 32 ∷ 57 ∷ 10
    ∷ 68 ∷ 32 ∷ 49 ∷ 10
    ∷ 82 ∷ 32 ∷ 49 ∷ 10
    ∷ [])
    ≡ SetUp 1 1 1 0 1 1 6 7 ∷ Write 1 9 ∷ Deliver 1 ∷ Read 1 ∷ []
unfolding numbers_of pick_all said_by command_of commands_from
input_read = refl

-- `C 1 2 1 0 1 6 7`
pub columns_read : commands_of (67 ∷ 32 ∷ 49 ∷ 32 ∷ 50 ∷ 32 ∷ 49 ∷ 32 ∷ 48 ∷ 32 ∷ 49 ∷ 32 ∷ 54 ∷ 32 ∷ 55 ∷ 10 ∷ []) ≡ Columns 1 2 1 0 1 6 7 ∷ []
unfolding numbers_of pick_all said_by command_of commands_from
columns_read = refl

-- `D 01`, `D  1`, `D 1` and CR, `D 4294967296`, an empty line, and `D 1` without LF
pub input_refused :
    commands_of
    (68 ∷ 32 ∷ 48 ∷ 49 ∷ 10
    ∷ 68 ∷ 32 ∷ 32 ∷ 49 ∷ 10
    ∷ 68 ∷ 32 ∷ 49 ∷ 13 ∷ 10
    ∷ 68 ∷ 32 ∷ 52 ∷ 50 ∷ 57 ∷ 52 ∷ 57 ∷ 54 ∷ 55 ∷ 50 ∷ 57 ∷ 54 ∷ 10
    ∷ 10
    ∷ 68 ∷ 32 ∷ 49
    ∷ [])
    ≡ Malformed ∷ Malformed ∷ Malformed ∷ Malformed ∷ Malformed ∷ Malformed ∷ []
unfolding numbers_of pick_all said_by command_of commands_from
input_refused = refl

-- `15 1 1 1 1 9 1`
pub read_ended : answer_text 15 1 1 1 1 9 1 ≡ 49 ∷ 53 ∷ 32 ∷ 49 ∷ 32 ∷ 49 ∷ 32 ∷ 49 ∷ 32 ∷ 49 ∷ 32 ∷ 57 ∷ 32 ∷ 49 ∷ 10 ∷ []
unfolding decimal_in decimal fields_text answer_text
read_ended = refl

-- `16 21 0 0 0 0 0`, whatever the page word is
pub worn : answer_text 16 21 0 0 0 9 0 ≡ 49 ∷ 54 ∷ 32 ∷ 50 ∷ 49 ∷ 32 ∷ 48 ∷ 32 ∷ 48 ∷ 32 ∷ 48 ∷ 32 ∷ 48 ∷ 32 ∷ 48 ∷ 10 ∷ []
unfolding decimal_in decimal fields_text answer_text
worn = refl
