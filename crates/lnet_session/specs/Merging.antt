-- Letting a signal take a gate's place where both compute one function, and what stands in the way.
use Rattle.std.specs.Prelude.{◌≡◌, ℕ, ◌≤◌, ◌<◌, Bool, true, false, ◌==◌, length, Option, None, Some, if◌then◌else◌}
use Rattle.lnet_gates.specs.declared.signal.Signal.{Signal}
use Rattle.lnet_model.specs.Along.{Depends}
use Rattle.lnet_model.specs.Changes.{IsGateAt}
use Rattle.lnet_model.specs.Networks.{NetworkValue, IsLive, gate_count}
use Rattle.lnet_model.specs.Values.{network_outputs}
use Rattle.lnet_simulate.specs.Assignments.{AgreeUnder, DifferFirst}
use Rattle.lnet_substitution.specs.Substitutions.{Substitutes}
use Rattle.lnet_build.specs.Sound.{IsSound}
use Rattle.lnet_replies.specs.declared.reply.Unmet.{Unmet}
use Rattle.lnet_replies.specs.declared.reply.Unmet.TheVariants as unmet
use Rattle.lnet_replies.specs.declared.reply.Reply.{Reply}
use Rattle.lnet_replies.specs.declared.reply.Reply.TheVariants as reply

-- the value that a character tells
abbrev pub bit_named : ℕ → Option Bool
bit_named b = if b == 48 then Some false else if b == 49 then Some true else None

-- a gate has the number, and the signal's node is live
pub record AreThere (N : NetworkValue) (n : ℕ) (s : Signal) : Type 0 where
  pub gate : IsGateAt N n
  pub live : IsLive N s.node.0

-- nothing stands in the way of the comparison: both are there, the inputs are few, and the signal doesn't depend on the gate
pub record AreApart (N : NetworkValue) (n : ℕ) (s : Signal) : Type 0 where
  pub there : AreThere N n s
  pub narrow : length N.inputs ≤ 16
  pub free : Depends N s n → ⊥

-- the signal may take the gate's place, or this stands in the way, the first in this order
abbrev pub StandsInTheWay : NetworkValue → ℕ → Signal → Option Unmet → Type 0
StandsInTheWay N n s None = AreApart N n s × ((a : ℕ → Bool) → AgreeUnder N n s a)
StandsInTheWay N n s (Some unmet.NoNode) = AreThere N n s → ⊥
StandsInTheWay N n s (Some unmet.TooWide) = AreThere N n s × (16 < length N.inputs)
StandsInTheWay N n s (Some unmet.Cycle) = AreThere N n s × (length N.inputs ≤ 16) × Depends N s n
StandsInTheWay N n s (Some (unmet.Unequal inputs assignment)) = AreApart N n s × (inputs ≡ length N.inputs) × DifferFirst N n s assignment
StandsInTheWay N n s (Some cause) = ⊥

-- Q is what the substitution of s for gate n leaves of N, it computes what N computes, and it is sound where N is
pub record GivesWay (N : NetworkValue) (n : ℕ) (s : Signal) (Q : NetworkValue) : Type 0 where
  pub leaves : Substitutes N.kind N n s Q
  pub sound : IsSound N → IsSound Q
  pub outputs : (a : ℕ → Bool) → network_outputs Q a ≡ network_outputs N a

-- merging, by its answer
abbrev pub MergesIn : NetworkValue → ℕ → Signal → Reply → NetworkValue → Type 0
MergesIn N n s (reply.Merged node gates) Q = StandsInTheWay N n s None × GivesWay N n s Q × (node ≡ n) × (gates ≡ gate_count Q)
MergesIn N n s (reply.Unmet cause) Q = StandsInTheWay N n s (Some cause) × (Q ≡ N)
MergesIn N n s _ Q = ⊥
