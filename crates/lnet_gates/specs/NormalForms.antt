-- Normal forms of gates: the gate is an existing signal, or a key with a phase. Sources: the rules of structural hashing of
-- and-inverter graphs (Kuehlmann and Krohm 1997) and of majority-inverter graphs (Amarù, Gaillardon and De Micheli 2014).
use Rattle.std.specs.Prelude.{Bool, true, false, cond, ◌||◌, List, [], ◌∷◌}
use Rattle.lnet_gates.specs.declared.signal.Signal.{Signal}
use Rattle.lnet_gates.specs.declared.gate.Op.{Op}
use Rattle.lnet_gates.specs.declared.gate.Op.TheVariants.{And, Xor, Maj}
use Rattle.lnet_gates.specs.declared.normal.Normal.{Normal}
use Rattle.lnet_gates.specs.declared.normal.Normal.TheVariants.{Is, Gate}
use Rattle.lnet_gates.specs.Gates.{GateValue, flip, maj_of}
use Rattle.lnet_gates.specs.Operands.{flipped, complemented, plain, constant, is_same, ascending}

-- a normal form, complemented where c: a signal is complemented, a key's phase is changed
abbrev pub carried : Bool → Normal → Normal
carried c (Is s) = Is (flipped c s)
carried c (Gate k phase) = Gate k (flip c phase)

-- the key of an operation on signals, ascending by code, with its phase
abbrev pub key_form : Op → List Signal → Bool → Normal
key_form op ss phase = Gate (record { op = op; fanins = ascending ss }) phase

-- the key of these signals as they stand
abbrev pub as_it_stands : Op → List Signal → Normal
as_it_stands op ss = Gate (record { op = op; fanins = ss }) false

-- And of two: equal operands give the operand, complementary ones false; false gives false, true gives the other
abbrev pub and_of_two : Signal → Signal → Normal
and_of_two a b =
    cond (is_same a b) (Is a)
    (cond (is_same (complemented a) b) (Is (constant false))
    (cond (is_same (constant false) a || is_same (constant false) b) (Is (constant false))
    (cond (is_same (constant true) a) (Is b)
    (cond (is_same (constant true) b) (Is a)
    (key_form And (a ∷ b ∷ []) false)))))

-- Xor of two: equal operands give false, complementary ones true; false gives the other, true its complement; a key's
-- operands are plain, and its phase is the parity of the complements that were taken off
abbrev pub xor_of_two : Signal → Signal → Normal
xor_of_two a b =
    cond (is_same a b) (Is (constant false))
    (cond (is_same (complemented a) b) (Is (constant true))
    (cond (is_same (constant false) a) (Is b)
    (cond (is_same (constant false) b) (Is a)
    (cond (is_same (constant true) a) (Is (complemented b))
    (cond (is_same (constant true) b) (Is (complemented a))
    (key_form Xor (plain a ∷ plain b ∷ []) (flip a.complement b.complement)))))))

-- the key of a Maj, each operand complemented where `most`, and so the value too
abbrev pub turned_key : Bool → Signal → Signal → Signal → Normal
turned_key most a b c = key_form Maj (flipped most a ∷ flipped most b ∷ flipped most c ∷ []) most

-- Maj of three: two equal operands give that operand, two complementary ones the third; where most operands of a key have a
-- complement, each is complemented, and the phase is true
abbrev pub maj_of_three : Signal → Signal → Signal → Normal
maj_of_three a b c =
    cond (is_same a b) (Is a)
    (cond (is_same a c) (Is a)
    (cond (is_same b c) (Is b)
    (cond (is_same (complemented a) b) (Is c)
    (cond (is_same (complemented a) c) (Is b)
    (cond (is_same (complemented b) c) (Is a)
    (turned_key (maj_of (a.complement ∷ b.complement ∷ c.complement ∷ [])) a b c))))))

-- the normal form of an And of these signals; of another count, they stand as they are
abbrev pub and_form : List Signal → Normal
and_form (a ∷ b ∷ []) = and_of_two a b
and_form ss = as_it_stands And ss

-- the normal form of a Xor of these signals
abbrev pub xor_form : List Signal → Normal
xor_form (a ∷ b ∷ []) = xor_of_two a b
xor_form ss = as_it_stands Xor ss

-- the normal form of a Maj of these signals
abbrev pub maj_form : List Signal → Normal
maj_form (a ∷ b ∷ c ∷ []) = maj_of_three a b c
maj_form ss = as_it_stands Maj ss

-- the normal form of an And gate: its phase is carried to the result
abbrev pub normal_and : GateValue → Normal
normal_and g = carried g.phase (and_form g.fanins)

-- the normal form of a Xor gate: its phase is carried to the result
abbrev pub normal_xor : GateValue → Normal
normal_xor g = carried g.phase (xor_form g.fanins)

-- the normal form of a Maj gate: its phase is carried to the result
abbrev pub normal_maj : GateValue → Normal
normal_maj g = carried g.phase (maj_form g.fanins)
