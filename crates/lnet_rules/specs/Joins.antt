-- And, or and xor of signals of a network, two by two from the left. Source: the textbook identities of And and Or.
use Rattle.std.specs.Prelude.{Bool, true, List, [], ◌∷◌}
use Rattle.lnet_gates.specs.declared.signal.Signal.{Signal}
use Rattle.lnet_gates.specs.declared.gate.Kind.{Kind}
use Rattle.lnet_gates.specs.declared.gate.Op.TheVariants as op
use Rattle.lnet_gates.specs.Operands.{flipped, complemented, constant}
use Rattle.lnet_model.specs.Networks.{NetworkValue}
use Rattle.lnet_hashed.specs.Strashed.{Placed}
use Rattle.lnet_hashed.specs.Laid.{made}
use Rattle.lnet_rules.specs.declared.joining.Join.{Join}
use Rattle.lnet_rules.specs.declared.joining.Join.TheVariants.{And, Or, Xor}

-- the signal as it is, or complemented
abbrev pub turned : Bool → Placed → Placed
turned c p = record { network = p.network; signal = flipped c p.signal }

-- two signals joined: `a or b` is the complement of `and` of the complements
abbrev pub by_join : Kind → Join → NetworkValue → Signal → Signal → Placed
by_join kind And N a b = made kind N op.And (a ∷ b ∷ [])
by_join kind Or N a b = turned true (made kind N op.And (complemented a ∷ complemented b ∷ []))
by_join kind Xor N a b = made kind N op.Xor (a ∷ b ∷ [])

-- further signals joined one after another
unfoldable pub joined_from : Kind → Join → Placed → List Signal → Placed
joined_from kind how p [] = p
joined_from kind how p (s ∷ ss) = joined_from kind how (by_join kind how p.network p.signal s) ss

-- all of the signals joined from the left: ((a, b), c); one signal is itself, and no signal gives a constant
abbrev pub folded : Kind → Join → Bool → NetworkValue → List Signal → Placed
folded kind how none N [] = record { network = N; signal = constant none }
folded kind how none N (s ∷ ss) = joined_from kind how (record { network = N; signal = s }) ss
