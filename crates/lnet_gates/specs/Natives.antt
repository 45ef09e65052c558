-- Which gates a kind has, and the normal forms of And, Xor and Maj gates as one function. Source: the textbook's names of the
-- networks.
use Rattle.std.specs.Prelude.{◌≡◌, ◌<◌, ◌^◌, true, List, length}
use Rattle.lnet_gates.specs.declared.signal.Signal.{Signal}
use Rattle.lnet_gates.specs.declared.gate.Kind.{Kind}
use Rattle.lnet_gates.specs.declared.gate.Op.{Op}
use Rattle.lnet_gates.specs.declared.gate.Op.TheVariants.{And, Xor, Maj, Lut}
use Rattle.lnet_gates.specs.declared.normal.Normal.{Normal}
use Rattle.lnet_gates.specs.Gates.{GateValue}
use Rattle.lnet_gates.specs.NormalForms.{carried, as_it_stands, and_form, xor_form, maj_form}
use Rattle.lnet_gates.specs.Plans.{is_native, Takes}

-- a table has 64 bits
abbrev pub FitsWord : Op → Type 0
FitsWord And = Unit {0}
FitsWord Xor = Unit {0}
FitsWord Maj = Unit {0}
FitsWord (Lut t) = t < 2 ^ 64

-- the gates of the kind have its operation, it has as many fanins as the operation takes, and its table is a word
pub record IsNativeGate (kind : Kind) (g : GateValue) : Type 0 where
  pub has : is_native kind g.op ≡ true
  pub takes : Takes g.op (length g.fanins)
  pub fits : FitsWord g.op

-- the normal form of an operation of these signals; a Lut stands as it is
abbrev pub form_by_op : Op → List Signal → Normal
form_by_op And ss = and_form ss
form_by_op Xor ss = xor_form ss
form_by_op Maj ss = maj_form ss
form_by_op (Lut t) ss = as_it_stands (Lut t) ss

-- the normal form of a gate of a kind without look-up tables: its phase is carried to the result
abbrev pub normal_by_op : GateValue → Normal
normal_by_op g = carried g.phase (form_by_op g.op g.fanins)
