-- Lists of places, one for each node, as contracts see them.
use Rattle.std.specs.Prelude.{◌≡◌, ◌⊎◌, ⊤, ℕ, ◌-◌, ◌<◌, eqb, cond, List, [], ◌∷◌, ◌++◌, length, replicate, slice_index_or, slice_set}

-- by node its list, and the count of the places that have links
pub record ChainsValue : Type 0 where
  pub lists : List (List ℕ)
  pub places : ℕ

-- the list of node n; past the nodes there is nothing in it
abbrev pub list_of : ChainsValue → ℕ → List ℕ
list_of v n = slice_index_or v.lists n []

-- x stands in the list
abbrev pub Within : ℕ → List ℕ → Type 0
Within x [] = ⊥
Within x (y ∷ ys) = (x ≡ y) ⊎ Within x ys

-- nothing stands twice in the list
abbrev pub Distinct : List ℕ → Type 0
Distinct [] = ⊤
Distinct (x ∷ xs) = (Within x xs → ⊥) × Distinct xs

-- the list where x is taken out at the first place at which it stands
abbrev pub without : ℕ → List ℕ → List ℕ
without x [] = []
without x (y ∷ ys) = cond (eqb y x) ys (y ∷ without x ys)

-- the place comes first in the list of node n
abbrev pub with_first : ChainsValue → ℕ → ℕ → ChainsValue
with_first v n place = record v { lists = slice_set v.lists n (place ∷ list_of v n) }

-- the place is taken out of the list of node n
abbrev pub without_place : ChainsValue → ℕ → ℕ → ChainsValue
without_place v n place = record v { lists = slice_set v.lists n (without place (list_of v n)) }

-- so many nodes and places, where what is new has nothing in it and stands nowhere
abbrev pub grown : ChainsValue → ℕ → ℕ → ChainsValue
grown v nodes places = record { lists = v.lists ++ replicate (nodes - length v.lists) []; places = places }

-- no place stands twice in a list, none in two lists, and each is below the count
pub record AreApart (v : ChainsValue) : Type 0 where
  pub distinct : (n : ℕ) → Distinct (list_of v n)
  pub apart : (m n place : ℕ) → Within place (list_of v m) → Within place (list_of v n) → m ≡ n
  pub inside : (n place : ℕ) → Within place (list_of v n) → place < v.places
