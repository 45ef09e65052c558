-- What the map of signals holds as a circuit is built.
use Rattle.std.specs.Prelude.{◌≡◌, ℕ, false, List, Some, IfSome, nat_eq, slice_get}
use Rattle.std.specs.declared.hash.FoldHasher.{FoldHasher}
use Rattle.std.specs.declared.hash.BuildHasherDefault.{BuildHasherDefault}
use Rattle.std.specs.HashMap.{get, HashMap}
use Rattle.std.specs.Option.{unwrap_or}
use Rattle.lnet_gates.specs.declared.signal.Signal.{Signal}
use Rattle.lnet_gates.specs.Operands.{constant, flipped}
use Rattle.lnet_model.specs.Networks.{NetworkValue, IsLive}
use Rattle.lnet_edge.specs.declared.circuit.WireRef.{WireRef}
use Rattle.lnet_edge.specs.Circuits.{EquationValue}
use Rattle.lnet_rules.specs.Rules.{FitsTable}
use Rattle.lnet_build.specs.Built.{Building, known}

-- from each wire that is built: its signal
abbrev pub SignalMap : Type 0
SignalMap = HashMap ℕ Signal (BuildHasherDefault FoldHasher)

-- a wire as it is used, by the map
abbrev pub read_in : SignalMap → WireRef → Signal
read_in m r = flipped r.complement (unwrap_or (get nat_eq m r.wire.0) (constant false))

-- each signal of the map is live
abbrev pub AreSignalsLive : NetworkValue → SignalMap → Type 0
AreSignalsLive N m = (w : ℕ) → IfSome (get nat_eq m w) (λ (s : Signal). IsLive N s.node.0)

-- the network and the map are those of the building
pub record Stand (N : NetworkValue) (m : SignalMap) (b : Building) : Type 0 where
  pub network : N ≡ b.network
  pub signals : (w : ℕ) → get nat_eq m w ≡ known b.signals w

-- the table of the equation at this place is a word
abbrev pub FitsPlace : List EquationValue → ℕ → Type 0
FitsPlace es k = (e : EquationValue) → slice_get es k ≡ Some e → FitsTable e.rule
