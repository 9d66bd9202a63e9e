-- A call on a lent buffer: SIZE, BAD MACHINE, and then the step on the machine of its words. "Later words are never written."
use Rattle.std.specs.Prelude.{Bool, not, ◌&&◌, ◌||◌, ◌≡◌, ℕ, ltb, eqb, List, length, drop, if◌then◌else◌}
use Rattle.tables.specs.declared.Layout.{Layout}
use Rattle.tables.specs.Layouts.{extent}
use Rattle.tables.specs.Tables.{Page, Machine}
use Rattle.tables.specs.Words.{words}
use Rattle.tables.specs.Machines.{machine_of}
use Rattle.inspect.specs.Good.{good}
use Rattle.rules.specs.declared.Answer.{Answer}
use Rattle.rules.specs.Answers.{coded}
use Rattle.machine.specs.Calls.{Call, report, asks, asked}
use Rattle.machine.specs.Steps.{Result, step, waiting, parties_down}
use Rattle.machine.specs.declared.Counts.{Counts}

-- 16 SIZE: "buffer under 4,992 words, or page not 16"; 5,036 words with 16 directory rows
abbrev pub wrong_page : Call → Bool
wrong_page c = asked (λ (page : Page). not (eqb (length page) 16)) (asks c).page

abbrev pub wrong_size : Layout → Call → List ℕ → Bool
wrong_size lay c m = ltb (length m) (extent lay) || wrong_page c

abbrev pub is_set_up : Call → Bool
is_set_up c = (asks c).anew

-- 17 BAD MACHINE: "not asked at set-up"
abbrev pub bad_machine : Layout → Call → List ℕ → Bool
bad_machine lay c m = not (is_set_up c) && not (good lay m)

-- what a call leaves: its answer, the page to fill, the buffer
pub record Outcomes : Type 0 where
  pub answer : Answer
  pub page : Page
  pub buffer : List ℕ

abbrev pub left : Answer → Page → List ℕ → Outcomes
left a p m = record { answer = a; page = p; buffer = m }

unfoldable pub call : Layout → Call → List ℕ → Outcomes
call lay c m =
    let r : Result = step c (machine_of lay m) in
    if wrong_size lay c m then left (coded 16) (asks c).fill m
    else if bad_machine lay c m then left (coded 17) (asks c).fill m
    else left r.answer r.page (words r.machine (drop (extent lay) m))

-- the contract of a call
pub record Gives (o : Outcomes) (a : Answer) (p m : List ℕ) : Type 0 where
  pub answer : a ≡ o.answer
  pub page : p ≡ o.page
  pub buffer : m ≡ o.buffer

-- report adds its two numbers, zero when refused
unfoldable pub reported : Layout → List ℕ → Counts
reported lay m =
    let code : ℕ = (call lay report m).answer.code in
    let M : Machine = machine_of lay m in
    if eqb code 0 then record { code = code; waiting = waiting M; down = parties_down M }
    else record { code = code; waiting = 0; down = 0 }
