-- What a store, a reader of it and a counter of reads hold, as contracts see them.
use Rattle.std.specs.Prelude.{ℕ, ◌⊎◌, ◌+◌, ◌-◌, ◌^◌, List, [], ◌∷◌, ◌++◌, length, min, refl, slice_set, ◌≡◌}
use Rattle.std.specs.Coded.{Coded, code_by, coded×, coded_ℕ}
use Rattle.std.specs.FinMap.{empty, insert}
use Rattle.lnet_gates.specs.declared.gate.Kind.TheVariants.{Klut}
use Rattle.lnet_gates.specs.declared.signal.Signal.{Signal}
use Rattle.lnet_model.specs.Networks.{NetworkValue, Constant, Input}
use Rattle.lnet_model.specs.Code.{network_code}

-- the network, for how many new nodes there is memory, and the stamp. A store isn't tied to a kind: its network is seen as
-- one of look-up tables, the kind that has every operation
pub record StoreValue : Type 0 where
  pub network : NetworkValue
  pub spare : ℕ
  pub stamp : ℕ

abbrev pub store_code : Coded StoreValue
store_code = code_by (NetworkValue × (ℕ × ℕ)) (coded× network_code (coded× coded_ℕ coded_ℕ)) (λ s. (s.network, (s.spare, s.stamp))) (λ p. record { network = p.0; spare = p.1.0; stamp = p.1.1 }) (λ _. refl)

-- a counter of reads, and the stamp of the store for which it counts
pub record Tally : Type 0 where
  pub count : ℕ
  pub stamp : ℕ

-- the parents and slots that are still to come, in the order in which they come, and the stamp of the store
pub record ParentsLeft : Type 0 where
  pub rest : List (ℕ × ℕ)
  pub stamp : ℕ

-- a u64 that rises by one and stays at its last value
abbrev pub raised : ℕ → ℕ
raised n = min (n + 1) (2 ^ 64 - 1)

-- node 0 alone
unfoldable pub first_network : NetworkValue
first_network = record { kind = Klut; nodes = insert empty 0 Constant; inputs = []; outputs = [] }

-- N with one more input, at n
unfoldable pub with_input : NetworkValue → ℕ → NetworkValue
with_input N n = record N { nodes = insert N.nodes n (Input (length N.inputs)); inputs = N.inputs ++ n ∷ [] }

-- N with one more output
unfoldable pub with_new_output : NetworkValue → Signal → NetworkValue
with_new_output N s = record N { outputs = N.outputs ++ s ∷ [] }

-- N with s as output k
unfoldable pub with_output : NetworkValue → ℕ → Signal → NetworkValue
with_output N k s = record N { outputs = slice_set N.outputs k s }

-- the pair is one of the list
abbrev pub IsOneOf : ℕ × ℕ → List (ℕ × ℕ) → Type 0
IsOneOf p [] = ⊥
IsOneOf p (q ∷ qs) = (p ≡ q) ⊎ IsOneOf p qs
