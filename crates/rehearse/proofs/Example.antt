-- Two lines that are no call: each is answered, under its number. Which machine is in force after set-up lines.
use Rattle.std.proofs.Common.{◌≡◌, refl, Bool, true, false, [], ◌∷◌, replicate}
use Rattle.tables.specs.Machines.{directory_of, message_of, rows_of, directories_of, slots_of, machine_of}
use Rattle.mail.specs.Posts.{messages_of}
use Rattle.inspect.specs.Good.{good_numbers}
use Rattle.machine.specs.Refusals.{refusal}
use Rattle.machine.specs.Steps.{step, effect_of}
use Rattle.machine.specs.Buffers.{call}
use Rattle.schedule.specs.declared.Command.{Command}
use Rattle.schedule.specs.declared.Command.TheVariants.{SetUp, Columns}
use Rattle.schedule.specs.Text.{decimal_in, decimal, fields_text, answer_text}
use Rattle.schedule.specs.Lines.{numbers_of, pick_all, said_by, command_of}
use Rattle.schedule.specs.Input.{commands_from}
use Rattle.rehearse.specs.Rehearsal.{machines, machines_after, printed, output_of, rehearsal}

-- `D 01`, and `D 1` without LF: `1 18 0 0 0 0 0`, `2 18 0 0 0 0 0`
pub two_refused : rehearsal (68 ∷ 32 ∷ 48 ∷ 49 ∷ 10 ∷ 68 ∷ 32 ∷ 49 ∷ [])
    ≡ 49 ∷ 32 ∷ 49 ∷ 56 ∷ 32 ∷ 48 ∷ 32 ∷ 48 ∷ 32 ∷ 48 ∷ 32 ∷ 48 ∷ 32 ∷ 48 ∷ 10
    ∷ 50 ∷ 32 ∷ 49 ∷ 56 ∷ 32 ∷ 48 ∷ 32 ∷ 48 ∷ 32 ∷ 48 ∷ 32 ∷ 48 ∷ 32 ∷ 48 ∷ 10 ∷ []
unfolding decimal_in decimal fields_text answer_text numbers_of pick_all said_by command_of commands_from printed output_of rehearsal
two_refused = refl

-- whether the wide machine is in force after a line, where it was or was not before it
abbrev wide_after : Bool → Command → Bool
wide_after before c = (machines_after c (machines before (replicate 4992 0) (replicate 5036 0))).is_wide

-- an accepted C, and a refused S while the wide machine is in force; an accepted S then, and a refused C where it is not
pub taken_over :
    wide_after false (Columns 1 2 1 0 1 6 7) ∷ wide_after true (SetUp 1 2 1 0 1 1 6 7)
    ∷ wide_after true (SetUp 1 1 1 0 1 1 6 7) ∷ wide_after false (Columns 1 2 1 0 3 6 7) ∷ []
    ≡ true ∷ true ∷ false ∷ false ∷ []
unfolding directory_of message_of rows_of directories_of slots_of machine_of messages_of good_numbers refusal effect_of step call
taken_over = refl
