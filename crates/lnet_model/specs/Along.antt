-- Recursion along fanins, the answers that are defined by it, and walks. Source: walks and cycles as in graph theory.
use Rattle.std.specs.Prelude.{◌≡◌, ◌≢◌, ℕ, zero, suc, ◌⊎◌, List, [], ◌∷◌, map, IsSome, Option, None, Some}
use Rattle.lnet_gates.specs.declared.signal.Signal.{Signal}
use Rattle.lnet_model.specs.Networks.{Entry, Constant, NetworkValue, Lookup, entry_at, live_count, fanins_of, IsLive}

-- an answer of an entry, and another where there is none
abbrev pub at_entry : {A : Type 0} → A → (Entry → A) → Option Entry → A
at_entry none f None = none
at_entry none f (Some e) = f e

-- one step: what `step` makes of the entry at n and of its fanins, each with what V gives for its node
abbrev pub once : {A : Type 0} → Lookup → (ℕ → Entry → List (Signal × A) → A) → A → (ℕ → A) → ℕ → A
once {A} g step none V n = at_entry none (λ e. step n e (map {B = Signal × A} (λ s. (s, V s.node.0)) (fanins_of e))) (g n)

-- that step again and again, to the given depth
unfoldable pub along : {A : Type 0} → Lookup → (ℕ → Entry → List (Signal × A) → A) → A → ℕ → ℕ → A
along g step none zero n = none
along g step none (suc depth) n = once g step none (along g step none depth) n

-- that recursion over a network, to the count of its live nodes
unfoldable pub over : {A : Type 0} → NetworkValue → (ℕ → Entry → List (Signal × A) → A) → A → ℕ → A
over N step none n = along (entry_at N) step none (live_count N) n

-- ---- walks

-- whether x is one of the numbers
abbrev pub In : ℕ → List ℕ → Type 0
In x [] = ⊥
In x (y ∷ ys) = (x ≡ y) ⊎ In x ys

-- the numbers of the nodes that are read
abbrev pub nodes_read : List Signal → List ℕ
nodes_read ss = map (λ (s : Signal). s.node.0) ss

-- the numbers of the nodes that an entry reads
abbrev pub fanin_nodes : Option Entry → List ℕ
fanin_nodes None = []
fanin_nodes (Some e) = nodes_read (fanins_of e)

-- n and then ns: live nodes, each after the first a fanin of the one before
abbrev pub IsWalk : Lookup → ℕ → List ℕ → Type 0
IsWalk g n [] = IsSome (g n)
IsWalk g n (m ∷ ns) = IsSome (g n) × In m (fanin_nodes (g n)) × IsWalk g m ns

-- the last node of n and then ns
abbrev pub end_of : ℕ → List ℕ → ℕ
end_of n [] = n
end_of n (m ∷ ns) = end_of m ns

-- a walk from n ends at o
abbrev pub Reaches : NetworkValue → ℕ → ℕ → Type 0
Reaches N n o = (ns : List ℕ) × IsWalk (entry_at N) n ns × (end_of n ns ≡ o)

-- a walk from the node of s ends at o
abbrev pub Depends : NetworkValue → Signal → ℕ → Type 0
Depends N s o = Reaches N s.node.0 o

-- no walk of two or more nodes ends at its first node
abbrev pub NoCycle : Lookup → Type 0
NoCycle g = (n m : ℕ) (ns : List ℕ) → IsWalk g n (m ∷ ns) → end_of m ns ≢ n

-- a network without cycles
abbrev pub Acyclic : NetworkValue → Type 0
Acyclic N = NoCycle (entry_at N)

-- a live gate's fanins are live
abbrev pub IsClosed : NetworkValue → Type 0
IsClosed N = (n m : ℕ) → In m (fanin_nodes (entry_at N n)) → IsLive N m

-- 0 is the constant, and what is named is live
pub record IsWhole (N : NetworkValue) : Type 0 where
  pub first : entry_at N 0 ≡ Some Constant
  pub closed : IsClosed N
  pub outputs_live : (m : ℕ) → In m (nodes_read N.outputs) → IsLive N m
