-- The normal form of each kind. Source: structural hashing of and-inverter graphs (Kuehlmann and Krohm 1997) and its like for the
-- other kinds.
use Rattle.lnet_gates.specs.declared.gate.Kind.{Kind}
use Rattle.lnet_gates.specs.declared.gate.Kind.TheVariants.{Aig, Xag, Mig, Klut}
use Rattle.lnet_gates.specs.declared.normal.Normal.{Normal}
use Rattle.lnet_gates.specs.Gates.{GateValue}
use Rattle.lnet_gates.specs.Natives.{normal_by_op}
use Rattle.lnet_gates.specs.LutForms.{normal_lut}

-- the normal form of a gate of a kind
abbrev pub form_of : Kind → GateValue → Normal
form_of Aig = normal_by_op
form_of Xag = normal_by_op
form_of Mig = normal_by_op
form_of Klut = normal_lut
