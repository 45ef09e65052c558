-- The signals of a network that stand for the nodes of another, once gates of one structure are one gate.
-- Source: structural hashing of and-inverter graphs (Kuehlmann and Krohm 1997), applied from the inputs up.
use Rattle.std.specs.Prelude.{◌≡◌, ℕ, ◌⊎◌, Some}
use Rattle.lnet_gates.specs.declared.signal.Signal.{Signal}
use Rattle.lnet_gates.specs.declared.normal.Normal.{Normal}
use Rattle.lnet_gates.specs.declared.normal.Normal.TheVariants.{Is, Gate}
use Rattle.lnet_gates.specs.Gates.{GateValue, flip}
use Rattle.lnet_gates.specs.NormalLaws.{replaced_in}
use Rattle.lnet_gates.specs.Forms.{form_of}
use Rattle.lnet_gates.specs.declared.gate.Kind.{Kind}
use Rattle.lnet_model.specs.Networks.{NetworkValue, Constant, Input, entry_at}
use Rattle.lnet_model.specs.Changes.{GateAt}
use Rattle.lnet_hashed.specs.Strashed.{key_of}
use Rattle.lnet_substitution.specs.Replaced.{signal_of}

-- the constant or an input stands at n
abbrev pub IsLeafAt : NetworkValue → ℕ → Type 0
IsLeafAt N n = (entry_at N n ≡ Some Constant) ⊎ ((k : ℕ) × (entry_at N n ≡ Some (Input k)))

-- t is what the normal form gives in P: its signal, or the gate of P that has its key, complemented where the phases differ
abbrev pub StandsFor : NetworkValue → Normal → Signal → Type 0
StandsFor P (Is s) t = s ≡ t
StandsFor P (Gate k phase) t = (g : GateValue) × GateAt P t.node.0 g × (k ≡ key_of g) × (phase ≡ flip t.complement g.phase)

-- rep gives the signal of P that stands for each node of M: the constant and the inputs stand for themselves, and for a gate
-- stands what its normal form gives, taken over what stands for its fanins
pub record Represents (kind : Kind) (P M : NetworkValue) (rep : ℕ → Signal) : Type 0 where
  pub leaf : (n : ℕ) → IsLeafAt M n → rep n ≡ signal_of n
  pub gate : (n : ℕ) (g : GateValue) → GateAt M n g → StandsFor P (form_of kind (replaced_in rep g)) (rep n)
