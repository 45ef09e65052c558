-- The links of lists of places.
use Rattle.std.specs.Prelude.{◌≡◌, ℕ, zero, suc, ◌<◌, ◌^◌, List, [], ◌∷◌, map, length, slice_index_or, Option, None, Some}
use Rattle.lnet_chains.specs.Lists.{ChainsValue, AreApart}

-- by number the place to which its link leads, where it leads to one
abbrev pub Links : Type 0
Links = List (Option ℕ)

-- the link of a number, none past the links
abbrev pub at : Links → ℕ → Option ℕ
at links n = slice_index_or links n None

-- the link of the place, where there is one, leads to `to`, and all others stay
pub record IsLinkSet (links new : Links) (place to : Option ℕ) : Type 0 where
  pub here : (y : ℕ) → place ≡ Some y → at new y ≡ to
  pub others : (y : ℕ) → (place ≡ Some y → ⊥) → at new y ≡ at links y
  pub len : length new ≡ length links

-- the links lead from the head through these places to an end, and back from each to the one before it
abbrev pub IsChain : Links → Links → Option ℕ → Option ℕ → List ℕ → Type 0
IsChain next prev before head [] = head ≡ None
IsChain next prev before head (x ∷ xs) = (head ≡ Some x) × (at prev x ≡ before) × IsChain next prev (Some x) (at next x) xs

-- the places to which the links lead from the head on, at most so many
abbrev pub listed : Links → Option ℕ → ℕ → List ℕ
listed next head zero = []
listed next None (suc most) = []
listed next (Some x) (suc most) = x ∷ listed next (at next x) most

-- by node the places to which the links lead from its first on
unfoldable pub lists_of : Links → Links → List (List ℕ)
lists_of firsts next = map (λ first. listed next first (length next)) firsts

-- what contracts see of the links
abbrev pub value_of : Links → Links → ChainsValue
value_of firsts next = record { lists = lists_of firsts next; places = length next }

-- the links lead both ways through exactly these lists, and no place stands twice
pub record AreChains (firsts next prev : Links) (lists : List (List ℕ)) : Type 0 where
  pub nodes : length lists ≡ length firsts
  pub links : length prev ≡ length next
  pub few : length next < 2 ^ 32
  pub linked : (n : ℕ) → IsChain next prev None (at firsts n) (slice_index_or lists n [])
  pub places : AreApart (record { lists = lists; places = length next })
