-- Numbers that wait, in chains by level. Source: bucket queues, as in the topological orders of event-driven simulation.
use Rattle.std.specs.Prelude.{◌≡◌, ◌⊎◌, ⊤, ℕ, ◌<◌, ◌≤◌, List, [], ◌∷◌, length, slice_index_or, sum_by, cond, is_some, Option, None, Some}
use Rattle.lnet_views.specs.declared.queue.Queue.{Queue}

abbrev pub at : List (Option ℕ) → ℕ → Option ℕ
at xs n = slice_index_or xs n None

abbrev pub Within : ℕ → List ℕ → Type 0
Within x [] = ⊥
Within x (y ∷ ys) = (x ≡ y) ⊎ Within x ys

abbrev pub Distinct : List ℕ → Type 0
Distinct [] = ⊤
Distinct (x ∷ xs) = (Within x xs → ⊥) × Distinct xs

-- the links from `head` pass through ns and end
abbrev pub IsChain : List (Option ℕ) → Option ℕ → List ℕ → Type 0
IsChain next head [] = head ≡ None
IsChain next head (n ∷ ns) = (head ≡ Some n) × IsChain next (at next n) ns

-- one chain for a level: it has the numbers that wait at that level, each once
pub record Chain (next levels : List (Option ℕ)) (head : Option ℕ) (level : ℕ) : Type 0 where
  pub members : List ℕ
  pub chain : IsChain next head members
  pub apart : Distinct members
  pub waits : (n : ℕ) → Within n members → at levels n ≡ Some level
  pub all : (n : ℕ) → at levels n ≡ Some level → Within n members

pub record AreChains (heads next levels : List (Option ℕ)) (floor : ℕ) : Type 0 where
  pub len : length levels ≤ length next
  pub chains : (l : ℕ) → l < length heads → Chain next levels (at heads l) l
  pub inside : (n l : ℕ) → at levels n ≡ Some l → l < length heads
  pub above : (n l : ℕ) → at levels n ≡ Some l → floor ≤ l

-- n waits, and nothing that waits is lower
pub record IsLowest (levels : List (Option ℕ)) (n : ℕ) : Type 0 where
  pub level : ℕ
  pub waits : at levels n ≡ Some level
  pub least : (m k : ℕ) → at levels m ≡ Some k → level ≤ k

-- how many numbers wait
abbrev pub waiting : List (Option ℕ) → ℕ
waiting waits = sum_by (λ o. cond (is_some o) 1 0) waits

-- a queue: its chains, and the count of the numbers that wait
pub record IsQueue (q : Queue) : Type 0 where
  pub chains : AreChains q.heads.items q.next.items q.levels.items q.floor
  pub count : q.count ≡ waiting q.levels.items

-- nothing waits
pub record IsIdle (q : Queue) : Type 0 where
  pub heads : (l : ℕ) → at q.heads.items l ≡ None
  pub levels : (n : ℕ) → at q.levels.items n ≡ None
  pub count : q.count ≡ 0
  pub next_len : length q.levels.items ≤ length q.next.items
