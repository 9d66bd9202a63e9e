use mathlib.Core.Bool.{Bool, true, false, not, ◌&&◌}
use mathlib.Core.List.{List}
use mathlib.Core.Path.{◌≡◌, refl, sym, ap, ◌∙◌}
use Prim.Native.Nat.{ℕ, zero, suc, ◌+◌, ◌*◌, ◌-◌}
use native.Mathlib.Nat.{add_comm}
use native.Mathlib.Numerals.{add-one}
use native.Mathlib.Omega.{arith}
use borrow.Author.Rules.{rules}
use borrow.Author.Tests.{not-true, not-false}
use lib.ListN.{length, take, drop}
use lib.Seq.{take-take, get_or-take}
use Rattle.std.proofs.lemmas.List.{drop-take}
use Rattle.tables.specs.declared.Layout.{Layout}
use Rattle.tables.specs.declared.Conf.{Conf}
use Rattle.tables.specs.Layouts.{flags_at, gap_at, entries_at, slots_at, extent}
use Rattle.tables.specs.Inner.{Fits}
use Rattle.tables.specs.Machines.{conf_of, client_of, directory_of, message_of, entries_of, clients_of, directories_of, replicas_of, slots_of, machine_of}
use Rattle.tables.proofs.Table.{wider, rows_of_cut}
use Rattle.tables.proofs.Parts.{length_cut}
use Rattle.tables.proofs.Read.{client_cut, directory_cut, message_cut, entries_cut, its_room}
use Rattle.inspect.specs.Good.{zeros, each_row, good_numbers, client_row, directory_row, replica_row, slot_row, good_machine, good}
use Rattle.inspect.specs.Inner.{Few}
use Rattle.inspect.proofs.Facts.{few}
use Rattle.inspect.proofs.is_good.Goals as goal

-- of the replicas too only their own words are read
replicas_cut : (n : ℕ) (flags l : List ℕ) → replicas_of n (take n flags) (take (n * 240) l) ≡ replicas_of n flags l
unfolding replicas_of
replicas_cut zero flags l = refl
replicas_cut (suc n) flags l =
    let row : entries_of (take (240 + n * 240) l) ≡ entries_of l = sym (entries_cut (take (240 + n * 240) l)) ∙ ap entries_of (take-take 240 (240 + n * 240) l (omega arith)) ∙ entries_cut l in
    rw (wider n 240, row, get_or-take (suc n) flags 0 0 (omega arith), rw (add_comm 1 n, add-one) at (drop-take 1 n flags), drop-take 240 (n * 240) l, replicas_cut n (drop 1 flags) (drop 240 l))

module _ (lay : Layout) (m : List ℕ) (k : Conf) (at : k ≡ conf_of m) (b : Bool) (n : b ≡ good_numbers lay.directories k) where
  bad : not b ≡ true → false ≡ good lay m
  unfolding good good_machine machine_of
  bad h = rw (its_room lay m, ← at, ← n, not-true b h)

  few_parties : Fits lay m → not b ≡ false → Few k
  few_parties l h = few lay.directories k (sym n ∙ not-false b h) (omega arith)

  all_good : (flags gap entries slots end : ℕ) → flags ≡ flags_at lay → gap ≡ gap_at lay → entries ≡ entries_at lay + 0 * 240 → slots ≡ slots_at lay → end ≡ extent lay
      → Fits lay m → (z c d g r s : Bool) → not b ≡ false → z ≡ zeros (take 8 (drop 8 m)) → c ≡ each_row (client_row k) 1 (clients_of (take 192 (drop 16 m)))
      → ((i : ℕ) → length (take (flags - 208) (drop 208 m)) ≡ i * 4 → d ≡ each_row (directory_row k) 1 (directories_of i (take (flags - 208) (drop 208 m))))
      → g ≡ zeros (take (entries - gap) (drop gap m))
      → r ≡ each_row (replica_row k) 1 (replicas_of 7 (take (gap - flags) (drop flags m)) (take (slots - entries) (drop entries m)))
      → s ≡ each_row (slot_row k) 1 (slots_of (take (end - slots) (drop slots m)))
      → z && c && d && g && r && s ≡ good lay m
  unfolding good good_machine machine_of clients_of directories_of slots_of
  all_good flags gap entries slots end fl ga en sl ex fits z c d g r s h p q e i j l =
      let en' : entries ≡ entries_at lay = omega arith in
      let row : flags - 208 ≡ lay.directories * 4 = omega arith in
      let down : gap - flags ≡ 7 = omega arith in
      let five : entries - gap ≡ 5 = omega arith in
      let rows : slots - entries ≡ 7 * 240 = omega arith in
      let mail : end - slots ≡ 128 * 24 = omega arith in
      let d' = e lay.directories (rw row (length_cut m 208 (lay.directories * 4) (omega (arith, fits.long)))) in
      rw (its_room lay m, ← at, ← n, not-false b h, p, q, d', i, j, l) (rw (row, down, five, rows, mail, ga, fl, en', sl)
      (rw (
        rows_of_cut client_of 8 24 (drop 16 m) client_cut,
        rows_of_cut directory_of lay.directories 4 (drop 208 m) directory_cut,
        replicas_cut 7 (drop (flags_at lay) m) (drop (entries_at lay) m),
        rows_of_cut message_of 128 24 (drop (slots_at lay) m) message_cut,
      )))

pub returns-then-not-numbers : goal.returns-then-not-numbers
returns-then-not-numbers c = search bad

pub clients-requires : goal.clients-requires
clients-requires c = (search rules, search few_parties)

pub directories-requires : goal.directories-requires
directories-requires c = search few_parties

pub slots-requires : goal.slots-requires
slots-requires c = (search rules, search few_parties)

pub returns : goal.returns
returns c = search all_good
