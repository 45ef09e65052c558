-- What the calls that add to a network leave: the network of the definition, and what a caller needs for its next call.
use Rattle.std.specs.Prelude.{◌≡◌, ℕ, false, List, [], ◌∷◌, ◌++◌, length}
use Rattle.lnet_gates.specs.declared.gate.Kind.{Kind}
use Rattle.lnet_gates.specs.declared.gate.Op.{Op}
use Rattle.lnet_gates.specs.declared.signal.Signal.{Signal}
use Rattle.lnet_model.specs.Networks.{NetworkValue, IsLive}
use Rattle.lnet_store.specs.StoreValues.{with_input, with_new_output, with_output}
use Rattle.lnet_hashed.specs.Strashed.{least_free}
use Rattle.lnet_hashed.specs.Laid.{made}

-- the network and the signal of an operation; what was live stays so, and the inputs and outputs are as they were
pub record IsMade (kind : Kind) (N : NetworkValue) (op : Op) (operands : List Signal) (M : NetworkValue) (s : Signal) : Type 0 where
  pub is : made kind N op operands ≡ record { network = M; signal = s }
  pub live : IsLive M s.node.0
  pub stays : (n : ℕ) → IsLive N n → IsLive M n
  pub inputs : M.inputs ≡ N.inputs
  pub outputs : M.outputs ≡ N.outputs

-- one more input, at the least free number
pub record IsEntered (N M : NetworkValue) (s : Signal) : Type 0 where
  pub signal : s ≡ record { node = record { 0 = least_free N }; complement = false }
  pub network : M ≡ with_input N (least_free N)
  pub live : IsLive M s.node.0
  pub stays : (n : ℕ) → IsLive N n → IsLive M n
  pub inputs : M.inputs ≡ N.inputs ++ s.node.0 ∷ []
  pub outputs : M.outputs ≡ N.outputs

-- one more output, at place k
pub record HasNewOutput (N M : NetworkValue) (s : Signal) (k : ℕ) : Type 0 where
  pub place : k ≡ length N.outputs
  pub network : M ≡ with_new_output N s
  pub stays : (n : ℕ) → IsLive N n → IsLive M n
  pub inputs : M.inputs ≡ N.inputs
  pub outputs : M.outputs ≡ N.outputs ++ s ∷ []

-- another output at place k
pub record HasOutput (N M : NetworkValue) (s : Signal) (k : ℕ) : Type 0 where
  pub network : M ≡ with_output N k s
  pub stays : (n : ℕ) → IsLive N n → IsLive M n
  pub inputs : M.inputs ≡ N.inputs
  pub count : length M.outputs ≡ length N.outputs
