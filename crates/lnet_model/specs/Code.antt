-- A network can be a model's value: its code, of the codes of its parts. Each part is a tuple of numbers, flags and lists.
use Rattle.std.specs.Prelude.{◌≡◌, ◌⊎◌, ℕ, zero, suc, Bool, List}
use mathlib.Core.Path.{refl}
use mathlib.Core.Logic.{inl, inr}
use Rattle.std.specs.Coded.{Coded, code_by, coded×, coded_ℕ, coded_bool, coded_list, coded⊎}
use Rattle.std.specs.FinMap as map
use Rattle.std.specs.Ordering.{nat_cmp}
use Rattle.lnet_gates.specs.declared.signal.Signal.{Signal}
use Rattle.lnet_gates.specs.declared.gate.Op.{Op}
use Rattle.lnet_gates.specs.declared.gate.Op.TheVariants.{And, Xor, Maj, Lut}
use Rattle.lnet_gates.specs.declared.gate.Kind.{Kind}
use Rattle.lnet_gates.specs.declared.gate.Kind.TheVariants.{Aig, Xag, Mig, Klut}
use Rattle.lnet_gates.specs.Gates.{GateValue}
use Rattle.lnet_model.specs.Networks.{Entry, Constant, Input, IsGate, NetworkValue}

abbrev pub signal_code : Coded Signal
signal_code = code_by (ℕ × Bool) (coded× coded_ℕ coded_bool) (λ s. (s.node.0, s.complement)) (λ p. record { node = record { 0 = p.0 }; complement = p.1 }) (λ _. refl)

abbrev pub of_op : Op → ℕ × ℕ
of_op And = (0, 0)
of_op Xor = (1, 0)
of_op Maj = (2, 0)
of_op (Lut t) = (3, t)

abbrev pub to_op : ℕ → ℕ → Op
to_op zero t = And
to_op (suc zero) t = Xor
to_op (suc (suc zero)) t = Maj
to_op (suc (suc (suc n))) t = Lut t

abbrev pub op_back : (p : Op) → to_op (of_op p).0 (of_op p).1 ≡ p
op_back And = refl
op_back Xor = refl
op_back Maj = refl
op_back (Lut t) = refl

abbrev pub op_coded : Coded Op
op_coded = code_by (ℕ × ℕ) (coded× coded_ℕ coded_ℕ) of_op (λ p. to_op p.0 p.1) op_back

abbrev pub gate_code : Coded GateValue
gate_code = code_by (Op × (Bool × List Signal)) (coded× op_coded (coded× coded_bool (coded_list signal_code))) (λ g. (g.op, (g.phase, g.fanins))) (λ p. record { op = p.0; phase = p.1.0; fanins = p.1.1 }) (λ _. refl)

abbrev pub of_entry : Entry → (ℕ × ℕ) ⊎ GateValue
of_entry Constant = inl (0, 0)
of_entry (Input k) = inl (1, k)
of_entry (IsGate g) = inr g

abbrev pub to_input : ℕ → ℕ → Entry
to_input zero k = Constant
to_input (suc n) k = Input k

abbrev pub to_entry : (ℕ × ℕ) ⊎ GateValue → Entry
to_entry (inl p) = to_input p.0 p.1
to_entry (inr g) = IsGate g

abbrev pub entry_back : (e : Entry) → to_entry (of_entry e) ≡ e
entry_back Constant = refl
entry_back (Input k) = refl
entry_back (IsGate g) = refl

abbrev pub entry_code : Coded Entry
entry_code = code_by ((ℕ × ℕ) ⊎ GateValue) (coded⊎ (coded× coded_ℕ coded_ℕ) gate_code) of_entry to_entry entry_back

abbrev pub of_kind : Kind → ℕ
of_kind Aig = 0
of_kind Xag = 1
of_kind Mig = 2
of_kind Klut = 3

abbrev pub to_kind : ℕ → Kind
to_kind zero = Aig
to_kind (suc zero) = Xag
to_kind (suc (suc zero)) = Mig
to_kind (suc (suc (suc n))) = Klut

abbrev pub kind_back : (k : Kind) → to_kind (of_kind k) ≡ k
kind_back Aig = refl
kind_back Xag = refl
kind_back Mig = refl
kind_back Klut = refl

abbrev pub kind_code : Coded Kind
kind_code = code_by ℕ coded_ℕ of_kind to_kind kind_back

abbrev pub network_code : Coded NetworkValue
network_code =
    code_by (Kind × (map.FinMap nat_cmp Entry × (List ℕ × List Signal)))
    (coded× kind_code (coded× (map.code coded_ℕ entry_code) (coded× (coded_list coded_ℕ) (coded_list signal_code))))
    (λ n. (n.kind, (n.nodes, (n.inputs, n.outputs))))
    (λ p. record { kind = p.0; nodes = p.1.0; inputs = p.1.1.0; outputs = p.1.1.1 })
    (λ _. refl)
