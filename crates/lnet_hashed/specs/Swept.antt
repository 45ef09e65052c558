-- Networks without the gates that no output reaches. Source: dangling nodes and cleanup in the mockturtle documentation.
use Rattle.std.specs.Prelude.{◌≡◌, ℕ, None}
use Rattle.lnet_model.specs.Networks.{NetworkValue, IsLive, entry_at}
use Rattle.lnet_model.specs.Along.{In, Reaches, nodes_read}
use Rattle.lnet_model.specs.Changes.{IsGateAt}
use Rattle.lnet_model.specs.Fanouts.{references}

-- a walk from some output's node ends at n
abbrev pub IsReached : NetworkValue → ℕ → Type 0
IsReached N n = (m : ℕ) × In m (nodes_read N.outputs) × Reaches N m n

-- M is N without some of the gates that no output reaches
pub record IsTrimmed (N M : NetworkValue) : Type 0 where
  pub kind : M.kind ≡ N.kind
  pub inputs : M.inputs ≡ N.inputs
  pub outputs : M.outputs ≡ N.outputs
  -- what an output reaches stands as before
  pub reached : (n : ℕ) → IsReached N n → entry_at M n ≡ entry_at N n
  -- so do the constant and the inputs, and a free number stays free
  pub others : (n : ℕ) → (IsGateAt N n → ⊥) → entry_at M n ≡ entry_at N n
  -- and so does whatever is left
  pub left : (n : ℕ) → IsLive M n → entry_at M n ≡ entry_at N n

-- M is N without each gate that no output reaches
pub record IsSwept (N M : NetworkValue) : Type 0 where
  pub trimmed : IsTrimmed N M
  pub gone : (n : ℕ) → IsGateAt N n → (IsReached N n → ⊥) → entry_at M n ≡ None

-- a gate stands at n, and no fanin slot and no output names it
pub record IsUnnamed (N : NetworkValue) (n : ℕ) : Type 0 where
  pub gate : IsGateAt N n
  pub free : references N n ≡ 0
