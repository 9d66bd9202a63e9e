-- What is asked can be met after set-up, on any buffer. By counts, with three directories, a read takes 10 deliveries and a write 12; with twelve in four columns they take 16 and 18.
use mathlib.Core.Path.{◌≡◌, refl, ap, subst, ◌∙◌}
use mathlib.Core.Bool.{true}
use mathlib.Core.List.{List, []}
use Prim.Native.Nat.{ℕ, ◌≤◌}
use native.Mathlib.Omega.{arith}
use lib.Dec.{T}
use lib.Count.{ones, ones_in}
use lib.ListN.{length, drop}
use Rattle.sets.proofs.Tests.{true-T}
use Rattle.tables.specs.declared.Layout.{Layout}
use Rattle.tables.specs.declared.Conf.{Conf}
use Rattle.tables.specs.Tables.{Page, Machine, no_page, no_client, no_directory, no_entry, no_replica, no_message}
use Rattle.tables.specs.Layouts.{base, wide, extent}
use Rattle.tables.specs.Machines.{machine_of}
use Rattle.tables.proofs.Whole.{Paged}
use Rattle.tables.proofs.Round.{machine_back}
use Rattle.inspect.specs.Good.{good_numbers}
use Rattle.rules.specs.Quorums.{has_column, meets_columns, enough_to_read, enough_to_write}
use Rattle.machine.specs.SetUp.{new_machine}
use Rattle.machine.specs.Calls.{set_up, start_read, start_write}
use Rattle.machine.specs.Buffers.{Outcomes, call}
use Rattle.runs.specs.Runs.{Renews}
use Rattle.runs.proofs.New.{new_sound, new_room}
use Rattle.runs.proofs.Runs.{set_up_is}
use Rattle.fewest.specs.Fewest.{read_price, write_price, Takes, asked_to_read, asked_to_write, all_of}
use Rattle.fewest.proofs.Final.{read_takes, write_takes}

abbrev three : Conf
three = record { clients = 1; directories = 3; replicas = 3; f = 1; rq = 2; wq = 2; top = 6; columns = 0 }

-- a column has three of the twelve; two counts would be 13 together
abbrev twelve : Conf
twelve = record { clients = 1; directories = 12; replicas = 3; f = 1; rq = 0; wq = 0; top = 6; columns = 4 }

paged : Paged no_page
unfolding no_page
paged = refl

-- after set-up all is met
pub record Met (lay : Layout) (k : Conf) : Type 0 where
  pub few : lay.directories ≤ 16
  pub good : good_numbers lay.directories k ≡ true
  pub read : all_of (asked_to_read (new_machine lay.directories k no_page) 1) ≡ true
  pub write : all_of (asked_to_write (new_machine lay.directories k no_page) 1) ≡ true

module _ (lay : Layout) (k : Conf) (met : Met lay k) (m : List ℕ) (long : extent lay ≤ length m) where
  abbrev N : Machine
  N = new_machine lay.directories k no_page

  abbrev made : Outcomes
  made = call lay (set_up k no_page) m

  is : machine_of lay made.buffer ≡ N
  is =
      ap (λ (o : Outcomes). machine_of lay o.buffer) (set_up_is lay k no_page met.good paged m long)
      ∙ machine_back lay N (drop (extent lay) m) (new_sound k no_page paged lay.directories met.good).whole (new_room lay.directories k no_page)

  accepted : Renews (set_up k no_page) made.answer
  accepted = (tt, ap (λ (o : Outcomes). o.answer.code) (set_up_is lay k no_page met.good paged m long))

  first_read : Takes lay (read_price k) (start_read 1) 1 1 made.buffer
  unfolding new_machine
  first_read =
      subst (λ (M : Machine). T (all_of (asked_to_read M 1)) → Takes lay (read_price M.conf) (start_read 1) 1 1 made.buffer) is
      (read_takes lay met.few m k no_page accepted [] 1) (true-T _ met.read)

  first_write : (page : Page) → length page ≡ 16 → Takes lay (write_price k) (start_write 1 page) 2 1 made.buffer
  unfolding new_machine
  first_write page q =
      subst (λ (M : Machine). T (all_of (asked_to_write M 1)) → Takes lay (write_price M.conf) (start_write 1 page) 2 1 made.buffer) is
      (write_takes lay met.few m k no_page accepted [] 1 page q) (true-T _ met.write)

pub met_in_base : Met base three
unfolding ones ones_in good_numbers enough_to_read enough_to_write new_machine no_page no_client no_directory no_entry no_replica no_message
met_in_base = record { few = omega arith; good = refl; read = refl; write = refl }

pub met_in_wide : Met wide twelve
unfolding ones ones_in good_numbers has_column meets_columns enough_to_read enough_to_write new_machine no_page no_client no_directory no_entry no_replica no_message
met_in_wide = record { few = omega arith; good = refl; read = refl; write = refl }

module _ (m : List ℕ) (long : extent base ≤ length m) where
  pub read_of_ten : Takes base 10 (start_read 1) 1 1 (call base (set_up three no_page) m).buffer
  read_of_ten = first_read base three met_in_base m long

  pub write_of_twelve : (page : Page) → length page ≡ 16 → Takes base 12 (start_write 1 page) 2 1 (call base (set_up three no_page) m).buffer
  write_of_twelve = first_write base three met_in_base m long

module _ (m : List ℕ) (long : extent wide ≤ length m) where
  pub read_of_sixteen : Takes wide 16 (start_read 1) 1 1 (call wide (set_up twelve no_page) m).buffer
  read_of_sixteen = first_read wide twelve met_in_wide m long

  pub write_of_eighteen : (page : Page) → length page ≡ 16 → Takes wide 18 (start_write 1 page) 2 1 (call wide (set_up twelve no_page) m).buffer
  write_of_eighteen = first_write wide twelve met_in_wide m long
