-- A chained hash table over the numbers of nodes. Source: Knuth, The Art of Computer Programming 3, section 6.4, chaining.
use Rattle.std.specs.Prelude.{◌≡◌, ◌≢◌, ◌⊎◌, ⊤, ℕ, ◌<◌, ◌≤◌, ◌^◌, Bool, List, [], ◌∷◌, length, slice_index_or, Option, None, Some, option_map, nat_lt, if◌then◌else◌}
use Rattle.lnet_gates.specs.Gates.{KeyValue}
use Rattle.lnet_strash.specs.Keys.{chain_of}
use Rattle.lnet_strash.specs.Standing.{Standing, KeysDiffer, at}

-- the number that a link leads to
abbrev pub link : List (Option ℕ) → ℕ → Option ℕ
link xs n = slice_index_or xs n None

-- the number is one of them
abbrev pub Within : ℕ → List ℕ → Type 0
Within x [] = ⊥
Within x (y ∷ ys) = (x ≡ y) ⊎ Within x ys

-- no number comes twice
abbrev pub Distinct : List ℕ → Type 0
Distinct [] = ⊤
Distinct (x ∷ xs) = (Within x xs → ⊥) × Distinct xs

-- the links from `head` lead through ns and end
abbrev pub IsChain : List (Option ℕ) → Option ℕ → List ℕ → Type 0
IsChain next head [] = head ≡ None
IsChain next head (n ∷ ns) = (head ≡ Some n) × IsChain next (link next n) ns

-- the chain of this number: its members are those that have it as their home, each once
pub record Chain (next : List (Option ℕ)) (home : ℕ → Option ℕ) (head : Option ℕ) (chain : ℕ) : Type 0 where
  pub members : List ℕ
  pub linked : IsChain next head members
  pub apart : Distinct members
  pub belongs : (n : ℕ) → Within n members → home n ≡ Some chain
  pub all : (n : ℕ) → home n ≡ Some chain → Within n members

-- each chain has just the numbers that have it as their home
pub record AreChains (heads next : List (Option ℕ)) (home : ℕ → Option ℕ) : Type 0 where
  pub chains : (c : ℕ) → c < length heads → Chain next home (link heads c) c
  pub inside : (n c : ℕ) → home n ≡ Some c → n < length next

-- the chain in which a number belongs: that of the key under which its node stands
abbrev pub home_of : ℕ → Standing → ℕ → Option ℕ
home_of chains t n = option_map (λ e. chain_of chains e.0) (at t n)

-- the same for the numbers below this one alone
abbrev pub home_below : ℕ → ℕ → Standing → ℕ → Option ℕ
home_below below chains t n = if nat_lt n below then home_of chains t n else None

-- the chains hold just what stands, and no two nodes stand under one key
pub record IsTable (heads next : List (Option ℕ)) (t : Standing) : Type 0 where
  pub some : 0 < length heads
  pub links : length t ≤ length next
  pub few : length t < 2 ^ 32
  pub chains : AreChains heads next (home_of (length heads) t)
  pub differ : KeysDiffer t

-- the link from the number before, or from the head of the chain where there is none, is this one
abbrev pub IsLinkAfter : List (Option ℕ) → List (Option ℕ) → (ℕ → Option ℕ) → ℕ → Option ℕ → Option ℕ → Type 0
IsLinkAfter heads next home c None to = link heads c ≡ to
IsLinkAfter heads next home c (Some b) to = (home b ≡ Some c) × (link next b ≡ to)

-- no node stands under the key
abbrev pub IsAbsent : Standing → KeyValue → Type 0
IsAbsent t k = (n : ℕ) (p : Bool) → at t n ≢ Some (k, p)

-- node n stands under the key
abbrev pub StandsUnder : Standing → ℕ → KeyValue → Type 0
StandsUnder t n k = (p : Bool) × (at t n ≡ Some (k, p))
