-- A tag as one number, its rank; and what a client's row says that it is doing.
use Rattle.std.specs.Prelude.{if◌then◌else◌}
use mathlib.Core.Path.{◌≡◌, refl, ap, ap₂, ◌∙◌}
use mathlib.Core.Bool.{Bool, true, false, not}
use mathlib.Core.List.{[], ◌∷◌}
use Prim.Native.Nat.{ℕ, ◌+◌, ◌*◌, ◌/◌, ◌%◌, ◌≤◌, ◌<◌}
use native.Mathlib.Omega.{arith}
use native.Mathlib.Decide.{dec_lt}
use lib.Dec.{T, eqb}
use Rattle.sets.specs.Plain.{one_of}
use Rattle.sets.specs.declared.Tag.{Tag}
use Rattle.sets.specs.Tags.{tag}
use Rattle.sets.proofs.TagOrder.{◌≼◌, ◌≺◌}
use Rattle.tables.specs.declared.Client.{Client}
use Rattle.tables.specs.declared.Message.{Message}
use Rattle.tables.specs.Tables.{Page}
use Rattle.tables.proofs.All.{none, cons}
use Rattle.rules.specs.Client.{heard}
use Rattle.rules.proofs.Heard.{heard_keeps}
use Rattle.runs.proofs.Codes.{one_of_lem}
use Rattle.order.specs.Method.{Stand, idle, reads, asks, writes}
use Rattle.history.proofs.Later.{settled}
use Rattle.history.proofs.Clients.{heard_settled}

-- clients are below 16
abbrev pub rank_of : Tag → ℕ
rank_of t = 16 * t.number + t.client

abbrev pub tag_of : ℕ → Tag
tag_of r = tag (r / 16) (r % 16)

pub rank_back : (t : Tag) → t.client < 16 → tag_of (rank_of t) ≡ t
rank_back t h = ap₂ tag (omega arith) (omega arith)

module _ (r : ℕ) (t : Tag) where
  pub rank_least : tag_of r ≼ t → r ≤ rank_of t
  rank_least h = go (dec_lt (r / 16) t.number)
    where
      go : Dec (r / 16 < t.number) → r ≤ rank_of t
      go (yes l) = omega arith
      go (no n) = let e : r / 16 ≡ t.number = omega (arith, h.number) in omega (arith, h.client e)

  pub rank_above : tag_of r ≺ t → r < rank_of t
  rank_above h = go (dec_lt (r / 16) t.number)
    where
      go : Dec (r / 16 < t.number) → r < rank_of t
      go (yes l) = omega arith
      go (no n) = let e : r / 16 ≡ t.number = omega (arith, h.number) in omega (arith, h.client e)

-- ---- what a client is doing in phase p

abbrev pub stand_at : Page → Tag → ℕ → Stand
stand_at page t p =
    if eqb p 0 then idle
    else if eqb p 4 then asks page
    else if one_of p (5 ∷ 6 ∷ []) then writes page (rank_of t)
    else reads

abbrev pub stand_of : Client → Stand
stand_of w = stand_at w.page w.tag w.phase

if_same : {A : Type 0} (b : Bool) {x y x' y' : A} → (T b → x' ≡ x) → (T (not b) → y' ≡ y) → (if b then x' else y') ≡ (if b then x else y)
if_same true f g = f tt
if_same false f g = g tt

-- a reply that is counted in changes nothing of it
pub stand_heard : (w : Client) (x : Message) → stand_of (heard w x) ≡ stand_of w
stand_heard w x =
    let k = heard_keeps w x in
    ap (stand_at (heard w x).page (heard w x).tag) k.phase
    ∙ if_same (eqb w.phase 0) (λ _. refl)
    (λ _. if_same (eqb w.phase 4) (λ _. ap asks k.page)
    (λ _. if_same (one_of w.phase (5 ∷ 6 ∷ []))
    (λ b. ap₂ writes k.page
    (ap (λ (y : Client). rank_of y.tag) (heard_settled w x w.phase refl (one_of_lem (λ p. T (settled p)) w.phase (5 ∷ 6 ∷ []) (cons tt (cons tt none)) b)))) (λ _. refl)))
