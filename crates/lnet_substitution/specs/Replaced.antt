-- A network with one node replaced by a signal, and nothing else done.
-- Source: the substitution of nodes in the mockturtle documentation.
use Rattle.std.specs.Prelude.{ℕ, false, cond, map, eqb}
use Rattle.std.specs.FinMap.{entries, from_entries, remove}
use Rattle.lnet_gates.specs.declared.signal.Signal.{Signal}
use Rattle.lnet_gates.specs.Operands.{flipped}
use Rattle.lnet_model.specs.Networks.{NetworkValue, Entry, Constant, Input, IsGate}

-- the signal that reads node n without a complement
abbrev pub signal_of : ℕ → Signal
signal_of n = record { node = record { 0 = n }; complement = false }

-- what x reads once o has given way to s: s, complemented as x was, where x read o, and else x
abbrev pub redirected : ℕ → Signal → Signal → Signal
redirected o s x = cond (eqb x.node.0 o) (flipped x.complement s) x

-- an entry that reads s in place of o
abbrev pub redirected_entry : ℕ → Signal → Entry → Entry
redirected_entry o s Constant = Constant
redirected_entry o s (Input k) = Input k
redirected_entry o s (IsGate g) = IsGate (record { op = g.op; phase = g.phase; fanins = map (redirected o s) g.fanins })

-- N without o, where each fanin and each output that named o reads s, complements included
unfoldable pub replaced : NetworkValue → ℕ → Signal → NetworkValue
replaced N o s = record {
  kind = N.kind;
  nodes = from_entries (map (λ e. (e.0, redirected_entry o s e.1)) (entries (remove N.nodes o)));
  inputs = N.inputs;
  outputs = map (redirected o s) N.outputs;
}
