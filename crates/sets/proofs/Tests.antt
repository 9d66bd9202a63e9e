-- What a test gives, as `T b` and as `b ≡ true`, and what a choice by a test gives.
use Rattle.std.specs.Prelude.{if◌then◌else◌}
use mathlib.Core.Path.{◌≡◌, refl, sym, ◌∙◌}
use mathlib.Core.Bool.{Bool, true, false, ◌&&◌, ◌||◌, not}
use mathlib.Core.Logic.{◌⊎◌, inl, inr}
use lib.Dec.{T}

pub T_true : (b : Bool) → T b → b ≡ true
T_true true h = refl
T_true false h = absurd h

pub true-T : (b : Bool) → b ≡ true → T b
true-T b e = rw e tt

pub T_false : (b : Bool) → T (not b) → b ≡ false
T_false true h = absurd h
T_false false h = refl

pub false-T : (b : Bool) → b ≡ false → T (not b)
false-T b e = rw e tt

pub either : (b : Bool) → (b ≡ true) ⊎ (b ≡ false)
either true = inl refl
either false = inr refl

-- tests that pass together are equal
pub T-ext : (a b : Bool) → (T a → T b) → (T b → T a) → a ≡ b
T-ext true b f g = sym (T_true b (f tt))
T-ext false true f g = absurd (g tt)
T-ext false false f g = refl

pub not_not : (b : Bool) → T (not (not b)) → T b
not_not true h = tt
not_not false h = h

pub and_elim : (a b : Bool) → T (a && b) → T a × T b
and_elim true b h = (tt, h)
and_elim false b h = absurd h

pub and_intro : (a b : Bool) → T a → T b → T (a && b)
and_intro true b h k = k
and_intro false b h k = absurd h

pub or_elim : (a b : Bool) → T (a || b) → T a ⊎ T b
or_elim true b h = inl tt
or_elim false b h = inr h

pub or_left : (a b : Bool) → T a → T (a || b)
or_left true b h = tt
or_left false b h = absurd h

pub or_right : (a b : Bool) → T b → T (a || b)
or_right true b h = tt
or_right false b h = h

pub neither : (a b : Bool) → T (not (a || b)) → T (not a) × T (not b)
neither true b h = absurd h
neither false b h = (tt, h)

pub not_both : (a b : Bool) → T (not (a && b)) → T (not a) ⊎ T (not b)
not_both true b h = inr h
not_both false b h = inl tt

-- what holds of both branches holds of the choice
pub if_ind : {A : Type 0} (P : A → Type 0) (b : Bool) {x y : A} → (T b → P x) → (T (not b) → P y) → P (if b then x else y)
if_ind P true f g = f tt
if_ind P false f g = g tt

-- a test b passes where x does, if x fails where b fails
pub passes_by : (b x : Bool) → (b ≡ false → x ≡ false) → x ≡ true → b ≡ true
passes_by true x h e = refl
passes_by false x h e = sym (h refl) ∙ e
