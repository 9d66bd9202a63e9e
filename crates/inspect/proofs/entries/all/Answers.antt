use mathlib.Core.Bool.{Bool, true, false}
use mathlib.Core.List.{List, [], ◌∷◌, ◌++◌, map}
use mathlib.Core.Path.{◌≡◌, refl, sym, ap, ◌∙◌}
use Prim.Native.Nat.{ℕ, ◌+◌, ◌≤◌, ◌<◌}
use native.Mathlib.Numerals.{add-one}
use lib.ListN.{length, get_or, take, drop, take-append-drop}
use lib.Seq.{take-suc, take_all}
use Rattle.std.proofs.lemmas.List.{map-append}
use Rattle.tables.specs.declared.Conf.{Conf}
use Rattle.tables.specs.Machines.{entry_of}
use Rattle.inspect.specs.Good.{tags_once}
use Rattle.inspect.specs.Inner.{good_entries, good_after, marked_by}
use Rattle.inspect.proofs.Chains.{its_entries}
use Rattle.inspect.proofs.Once.{good_snoc, bad_stays}
use Rattle.inspect.proofs.Marks.{marks_none, marks_more}
use Rattle.inspect.proofs.entries.all.Invariants.{Sound}
use Rattle.inspect.proofs.entries.all.Goals as goal

none : (k : Conf) → Sound k [] 0
unfolding good_entries tags_once
none k = record { good = refl; marked = marks_none }

module _ (k : Conf) (rows : List (List ℕ)) (j marks : ℕ) (s : Sound k (map entry_of (take j rows)) marks) where
  whole : length rows ≤ j → true ≡ good_entries k (map entry_of rows)
  whole h = sym (rw (take_all j rows h) at s.good)

  module _ (low : j < length rows) (x : Bool) (e : x ≡ good_after k (map entry_of (take j rows)) (entry_of (get_or rows j []))) where
    taken : map entry_of (take (j + 1) rows) ≡ map entry_of (take j rows) ++ entry_of (get_or rows j []) ∷ []
    taken = rw (add-one, take-suc rows j [] low, map-append)

    turn : good_entries k (map entry_of (take (j + 1) rows)) ≡ x
    turn = rw taken (good_snoc k (map entry_of (take j rows)) (entry_of (get_or rows j [])) ∙ rw s.good (sym e))

    out : x ≡ false → false ≡ good_entries k (map entry_of rows)
    out h =
        let split : map entry_of rows ≡ map entry_of (take (j + 1) rows) ++ map entry_of (drop (j + 1) rows) = ap (map entry_of) (sym (take-append-drop (j + 1) rows)) ∙ simp map-append in
        sym (rw split (bad_stays k (map entry_of (take (j + 1) rows)) (map entry_of (drop (j + 1) rows)) (turn ∙ h)))

    more : (n : ℕ) → x ≡ true → n ≡ marked_by (entry_of (get_or rows j [])) marks → Sound k (map entry_of (take (j + 1) rows)) n
    more n h q = record { good = turn ∙ h; marked = rw (taken, q) (marks_more (map entry_of (take j rows)) (entry_of (get_or rows j [])) marks s.marked) }

pub loop-j-init : goal.loop-j-init
loop-j-init c = none c.args.k

pub returns-then-not-entry : goal.returns-then-not-entry
returns-then-not-entry c = rw (← its_entries c.args.l.now c.as_chunks.result.0.now c.as_chunks.ensures.front c.told-l) (search out)

pub loop-j-preserved : goal.loop-j-preserved
loop-j-preserved c = search more

pub returns : goal.returns
returns c = rw (← its_entries c.args.l.now c.as_chunks.result.0.now c.as_chunks.ensures.front c.told-l) (search whole)
