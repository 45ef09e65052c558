-- Lists that are drawn item by item, and the circuit of them.
use Rattle.std.proofs.Common.{◌≡◌, ℕ, suc, ◌+◌, List, [], ◌∷◌, ◌++◌, map, sym, ap, subst, ◌∙◌, append_assoc}
use Rattle.std.proofs.lemmas.List.{map_push}
use Rattle.rand_core.specs.Stream.{Stream}
use Rattle.lnet_gates.specs.declared.gate.Kind.{Kind}
use Rattle.lnet_edge.specs.declared.circuit.CircuitError.TheVariants as error
use Rattle.lnet_edge.specs.declared.circuit.Equation.{Equation}
use Rattle.lnet_edge.specs.declared.circuit.InputPort.{InputPort}
use Rattle.lnet_edge.specs.declared.circuit.OutputPort.{OutputPort}
use Rattle.lnet_edge.specs.declared.circuit.WireRef.{WireRef}
use Rattle.lnet_edge.specs.declared.fault.Fault.{Fault}
use Rattle.lnet_edge.specs.declared.fault.Fault.TheVariants as fault
use Rattle.lnet_edge.specs.Circuits.{CircuitValue, EquationValue}
use Rattle.lnet_edge.specs.CircuitLists.{equation_view, equation_views}
use Rattle.lnet_edge.specs.Wires.{IsBroken, IsRefused}
use Rattle.lnet_generate.specs.Drawing.{draw_use, draw_uses, draw_gate, draw_gates, inputs_from, shown, drawn}
use Rattle.lnet_generate.proofs.Onto.{onto}
use Rattle.lnet_generate.proofs.Numbered.{drawn-driven, drawn-once, drawn-acyclic}

-- an item more
next-item : {A : Type 0} (xs ys : List A) (item : A) (rest : List A × Stream) → ys ≡ xs ++ item ∷ [] → onto ys rest ≡ onto xs (item ∷ rest.0, rest.1)
next-item {A} xs ys item rest e = ap (λ (zs : List A). (zs ++ rest.0, rest.1)) e ∙ ap (λ (zs : List A). (zs, rest.1)) (append_assoc xs (item ∷ []) rest.0)

pub uses-next : (xs ys : List WireRef) (n m wires : ℕ) (s t : Stream) (used : WireRef) (total : List WireRef × Stream) → n ≡ suc m → ys ≡ xs ++ used ∷ [] → (used, t) ≡ draw_use wires s → onto xs (draw_uses n wires s) ≡ total → onto ys (draw_uses m wires t) ≡ total
uses-next xs ys n m wires s t used total count more pair so_far =
    next-item xs ys used (draw_uses m wires t) more
    ∙ ap (λ (p : WireRef × Stream). onto xs (p.0 ∷ (draw_uses m wires p.1).0, (draw_uses m wires p.1).1)) pair
    ∙ ap (λ (k : ℕ). onto xs (draw_uses k wires s)) (sym count) ∙ so_far

pub gates-next : (kind : Kind) (xs ys : List Equation) (n m wires after : ℕ) (s t : Stream) (gate : Equation) (total : List EquationValue × Stream) → n ≡ suc m → after ≡ wires + 1 → ys ≡ xs ++ gate ∷ [] → (equation_view gate, t) ≡ draw_gate kind wires s → onto (equation_views xs) (draw_gates kind n wires s) ≡ total → onto (equation_views ys) (draw_gates kind m after t) ≡ total
gates-next kind xs ys n m wires after s t gate total count next more pair so_far =
    ap (λ (w : ℕ). onto (equation_views ys) (draw_gates kind m w t)) next
    ∙ next-item (equation_views xs) (equation_views ys) (equation_view gate) (draw_gates kind m (wires + 1) t) (ap equation_views more ∙ map_push equation_view xs gate)
    ∙ ap (λ (p : EquationValue × Stream). onto (equation_views xs) (p.0 ∷ (draw_gates kind m (wires + 1) p.1).0, (draw_gates kind m (wires + 1) p.1).1)) pair
    ∙ ap (λ (k : ℕ). onto (equation_views xs) (draw_gates kind k wires s)) (sym count) ∙ so_far

pub outputs-next : (xs ys : List OutputPort) (n m wires : ℕ) (s t : Stream) (used : WireRef) (total : List OutputPort) → n ≡ suc m → ys ≡ xs ++ shown used ∷ [] → (used, t) ≡ draw_use wires s → xs ++ map shown (draw_uses n wires s).0 ≡ total → ys ++ map shown (draw_uses m wires t).0 ≡ total
outputs-next xs ys n m wires s t used total count more pair so_far =
    ap (λ (zs : List OutputPort). zs ++ map shown (draw_uses m wires t).0) more
    ∙ append_assoc xs (shown used ∷ []) (map shown (draw_uses m wires t).0)
    ∙ ap (λ (p : WireRef × Stream). xs ++ (shown p.0 ∷ map shown (draw_uses m wires p.1).0)) pair
    ∙ ap (λ (k : ℕ). xs ++ map shown (draw_uses k wires s).0) (sym count) ∙ so_far

pub inputs-next : (xs ys : List InputPort) (n m i after : ℕ) (port : InputPort) (total : List InputPort) → n ≡ suc m → after ≡ i + 1 → ys ≡ xs ++ port ∷ [] → port ∷ inputs_from (i + 1) m ≡ inputs_from i (suc m) → xs ++ inputs_from i n ≡ total → ys ++ inputs_from after m ≡ total
inputs-next xs ys n m i after port total count next more first so_far =
    ap (λ (w : ℕ). ys ++ inputs_from w m) next
    ∙ ap (λ (zs : List InputPort). zs ++ inputs_from (i + 1) m) more
    ∙ append_assoc xs (port ∷ []) (inputs_from (i + 1) m)
    ∙ ap (λ (zs : List InputPort). xs ++ zs) first
    ∙ ap (λ (k : ℕ). xs ++ inputs_from i k) (sym count) ∙ so_far

-- a circuit by its lists
abbrev pub circuit_by : List InputPort → List OutputPort → List EquationValue → CircuitValue
circuit_by ports outs views = record { inputs = ports; outputs = outs; equations = views }

-- the lists that are drawn are those of the circuit
pub listed-drawn : (kind : Kind) (inputs gates outputs : ℕ) (s t : Stream) (ports : List InputPort) (views : List EquationValue) (outs : List OutputPort) → ports ≡ inputs_from 1 inputs → (views, t) ≡ draw_gates kind gates inputs s → outs ≡ map shown (draw_uses outputs (inputs + gates) t).0 → circuit_by ports outs views ≡ drawn kind inputs gates outputs s
listed-drawn kind inputs gates outputs s t ports views outs a b o =
    ap (λ (ps : List InputPort). circuit_by ps outs views) a
    ∙ ap (λ (os : List OutputPort). circuit_by (inputs_from 1 inputs) os views) o
    ∙ ap (λ (p : List EquationValue × Stream). circuit_by (inputs_from 1 inputs) (map shown (draw_uses outputs (inputs + gates) p.1).0) p.0) b

unbroken : (c : CircuitValue) (kind : Kind) (inputs gates outputs : ℕ) (s : Stream) → c ≡ drawn kind inputs gates outputs s → (f : Fault) → IsBroken (drawn kind inputs gates outputs s) f → ⊥
unbroken c kind inputs gates outputs s is fault.Undriven b = drawn-driven kind inputs gates outputs s b
unbroken c kind inputs gates outputs s is fault.Twice b = drawn-once kind inputs gates outputs s b.1
unbroken c kind inputs gates outputs s is fault.Cycle b = drawn-acyclic kind inputs gates outputs s b.2
unbroken c kind inputs gates outputs s is _ b = b

-- it isn't refused
pub unrefused : (c : CircuitValue) (kind : Kind) (inputs gates outputs : ℕ) (s : Stream) (f : Fault) → c ≡ drawn kind inputs gates outputs s → IsRefused c (error.Fault f) → ⊥
unrefused c kind inputs gates outputs s f is refused = unbroken c kind inputs gates outputs s is f (subst (λ (d : CircuitValue). IsBroken d f) is refused)
