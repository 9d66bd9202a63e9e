-- A step: the first refusal that applies, else the call's effect. "Codes 16 to 24 change nothing."
use Rattle.std.specs.Prelude.{not, ℕ, ◌+◌, eqb, [], if◌then◌else◌}
use Rattle.tables.specs.Tables.{Page, no_page, Machine, is_empty}
use Rattle.tables.specs.Rows.{count}
use Rattle.mail.specs.Posts.{no_post}
use Rattle.rules.specs.declared.Answer.{Answer}
use Rattle.rules.specs.Answers.{coded}
use Rattle.machine.specs.Effects.{anew, Effect, applied}
use Rattle.machine.specs.Calls.{Call, set_up, start_read, start_write, deliver, gossip, tidy, crash, report, asks, done, emptying, start_effect, gossip_effect, tidy_effect, crash_effect}
use Rattle.machine.specs.Deliver.{deliver_effect}
use Rattle.machine.specs.Refusals.{refusal}

unfoldable pub effect_of : Call → Machine → Effect
effect_of (set_up k page) M = done (anew k page) no_post
effect_of (start_read c) M = start_effect M c 1 no_page
effect_of (start_write c page) M = start_effect M c 4 page
effect_of (deliver s page) M = deliver_effect M s page
effect_of (gossip from to) M = gossip_effect M from to
effect_of (tidy r) M = tidy_effect M r
effect_of (crash kind id) M = crash_effect M kind id
effect_of report M = emptying [] 0 []

pub record Result : Type 0 where
  pub answer : Answer
  pub page : Page
  pub machine : Machine

abbrev pub refused : ℕ → Page → Machine → Result
refused code page M = record { answer = coded code; page = page; machine = M }

abbrev pub accepted : Effect → Machine → Result
accepted e M = record { answer = e.answer; page = e.page; machine = applied e M }

-- the code that the table gives to a call
abbrev pub code_of : Call → Machine → ℕ
code_of c M = refusal c M (effect_of c M)

unfoldable pub step : Call → Machine → Result
step c M = if eqb (code_of c M) 0 then accepted (effect_of c M) M else refused (code_of c M) (asks c).fill M

-- ---- "Report: waiting messages and parties down."

unfoldable pub waiting : Machine → ℕ
waiting M = count (λ x. not (is_empty x)) M.slots

unfoldable pub parties_down : Machine → ℕ
parties_down M =
    count (λ w. eqb w.down 1) M.clients
    + count (λ w. eqb w.down 1) M.directories
    + count (λ w. eqb w.down 1) M.replicas
