-- Words of rows, and lists of rows that count from 1. Nothing of the paper stands here.
use Rattle.std.specs.Prelude.{Bool, true, false, ℕ, zero, suc, List, [], ◌∷◌, ◌++◌, get_or, set, if◌then◌else◌}

-- the words of each record, one row after the other
unfoldable pub rows_words : {A : Type 0} → (A → List ℕ) → List A → List ℕ
rows_words f [] = []
rows_words f (x ∷ xs) = f x ++ rows_words f xs

-- lists of words, one after the other
unfoldable pub joined : List (List ℕ) → List ℕ
joined [] = []
joined (b ∷ bs) = b ++ joined bs

module _ {A : Type 0} where
  -- row p of the list; the blank where there is none
  abbrev pub row : A → List A → ℕ → A
  row blank rows zero = blank
  row blank rows (suc p) = get_or rows p blank

  -- the list with x as its row p
  abbrev pub with_row : List A → ℕ → A → List A
  with_row rows zero x = rows
  with_row rows (suc p) x = set rows p x

  -- some row passes the test
  abbrev pub some? : (A → Bool) → List A → Bool
  some? p [] = false
  some? p (x ∷ xs) = if p x then true else some? p xs

  -- every row passes the test
  abbrev pub every? : (A → Bool) → List A → Bool
  every? p [] = true
  every? p (x ∷ xs) = if p x then every? p xs else false

  -- how many rows pass the test
  abbrev pub count : (A → Bool) → List A → ℕ
  count p [] = 0
  count p (x ∷ xs) = let rest = count p xs in if p x then suc rest else rest

  -- x in place of the first row that passes the test
  abbrev pub put_first : (A → Bool) → A → List A → List A
  put_first p x [] = []
  put_first p x (y ∷ ys) = let rest = put_first p x ys in if p y then x ∷ ys else y ∷ rest
