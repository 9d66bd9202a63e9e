use mathlib.Core.Bool.{true}
use mathlib.Core.Path.{◌≡◌}
use Prim.Native.Nat.{ℕ, ◌≤◌}
use borrow.Author.Rules.{rules}
use mathlib.Core.List.{List}
use Rattle.tables.specs.declared.Layout.{Layout}
use Rattle.tables.specs.declared.Conf.{Conf}
use Rattle.tables.specs.Inner.{Fits}
use Rattle.inspect.specs.Good.{good_numbers}
use Rattle.inspect.proofs.Facts.{numbers_facts}
use Rattle.machine.proofs.Parties.{few_sets}
use Rattle.machine.proofs.Laid.{laid}
use Rattle.machine.proofs.setting.lay_out.Goals as goal

module _ {lay : Layout} {m : List ℕ} (h : Fits lay m) (k : Conf) (g : good_numbers lay.directories k ≡ true) where
  fits : k.replicas ≤ 31
  fits = (few_sets lay.directories k h.few g).replicas

  rows : k.directories ≤ lay.directories
  rows = (numbers_facts lay.directories k g).few_directories

  seven : k.replicas ≤ 7
  seven = (numbers_facts lay.directories k g).few_replicas

pub all_of-requires : goal.all_of-requires
all_of-requires c = search fits

pub directories-requires : goal.directories-requires
directories-requires c = (search rules, search rows)

pub replicas-requires : goal.replicas-requires
replicas-requires c = (search rules, search seven)

pub returns : goal.returns
returns c = search laid
