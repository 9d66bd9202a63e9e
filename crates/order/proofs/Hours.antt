-- What one line means to a reader: no page goes back. A read shows nothing older than what had been written, or shown, when it began.
use mathlib.Core.Path.{◌≡◌, refl, sym, ap, ◌∙◌}
use mathlib.Core.List.{List, [], ◌∷◌, ◌++◌, append_assoc}
use Rattle.order.specs.Run.{◌∈◌, Page, Kind, reading, writing, Op, Event, ops, Finished, EndedBefore, page_after, last_page, OneLine}

last_append : (p : Page) (xs ys : List Op) → last_page p (xs ++ ys) ≡ last_page (last_page p xs) ys
unfolding last_page
last_append p [] ys = refl
last_append p (x ∷ xs) ys = last_append (page_after p x.kind x.page) xs ys

-- Operation a, a write or a read, had ended when read r began: a stands earlier in the line, and r shows the page of the last write between the two, or a's own where none is.
pub hours : (first : Page) (run : List Event) (L : OneLine first run) (a r : Op) → a ∈ ops run → r ∈ ops run → EndedBefore a r → r.kind ≡ reading → Finished r
    → (xs : List Op) × (ys : List Op) × (zs : List Op) × (L.line ≡ xs ++ a ∷ (ys ++ r ∷ zs)) × (r.page ≡ last_page a.page ys)
unfolding last_page
hours first run L a r m n h kr done =
    let (xs, ys, zs, cut) = L.order a r (L.every a m (h.0, h.1)) (L.every r n done) h in (
      xs,
      ys,
      zs,
      cut,
      L.shows r (xs ++ a ∷ ys) zs (cut ∙ sym (append_assoc xs (a ∷ ys) (r ∷ zs))) kr ∙ last_append first xs (a ∷ ys)
          ∙ ap (λ (q : Page). last_page q ys) (own a.kind refl xs (ys ++ r ∷ zs) cut),
    )
  where
    own : (kd : Kind) → a.kind ≡ kd → (xs ys : List Op) → L.line ≡ xs ++ a ∷ ys → page_after (last_page first xs) kd a.page ≡ a.page
    own writing q xs ys cut = refl
    own reading q xs ys cut = sym (L.shows a xs ys cut q)
