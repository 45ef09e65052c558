-- Places and names of the inputs and outputs.
use Rattle.std.proofs.Common.{◌≡◌, ℕ, suc, ◌+◌, ◌≤◌, Bool, List, [], ◌∷◌, length, map, zip, Option, refl, sym, ap, ◌∙◌, arith}
use Rattle.lnet_gates.specs.declared.signal.Signal.{Signal}
use Rattle.lnet_model.specs.Networks.{NetworkValue}
use Rattle.lnet_edge.specs.declared.circuit.InputPort.{InputPort}
use Rattle.lnet_edge.specs.declared.circuit.OutputPort.{OutputPort}
use Rattle.lnet_edge.specs.Wires.{input_wires, output_wires}
use Rattle.lnet_export.specs.Exported.{wire_at, input_port, output_port}

pub inputs-wires : (ns : List ℕ) (names : List (Option (List ℕ))) → length names ≡ length ns → input_wires (map input_port (zip ns names)) ≡ ns
inputs-wires [] names same = refl
inputs-wires (n ∷ ns) [] same = absurd (omega arith)
inputs-wires (n ∷ ns) (name ∷ names) same = ap (λ ms. n ∷ ms) (inputs-wires ns names (omega arith))

pub inputs-names : (ns : List ℕ) (names : List (Option (List ℕ))) → length names ≡ length ns → map (λ (p : InputPort). p.name) (map input_port (zip ns names)) ≡ names
inputs-names [] [] same = refl
inputs-names [] (name ∷ names) same = absurd (omega arith)
inputs-names (n ∷ ns) [] same = absurd (omega arith)
inputs-names (n ∷ ns) (name ∷ names) same = ap (λ ms. name ∷ ms) (inputs-names ns names (omega arith))

pub inputs-count : (ns : List ℕ) (names : List (Option (List ℕ))) → length names ≡ length ns → length (map input_port (zip ns names)) ≡ length ns
inputs-count [] names same = refl
inputs-count (n ∷ ns) [] same = absurd (omega arith)
inputs-count (n ∷ ns) (name ∷ names) same = ap suc (inputs-count ns names (omega arith))

pub outputs-wires : (N : NetworkValue) (ss : List Signal) (names : List (Option (List ℕ))) → length names ≡ length ss → output_wires (map (output_port N) (zip ss names)) ≡ map (λ (s : Signal). wire_at N s.node.0) ss
outputs-wires N [] names same = refl
outputs-wires N (s ∷ ss) [] same = absurd (omega arith)
outputs-wires N (s ∷ ss) (name ∷ names) same = ap (λ ms. wire_at N s.node.0 ∷ ms) (outputs-wires N ss names (omega arith))

pub outputs-names : (N : NetworkValue) (ss : List Signal) (names : List (Option (List ℕ))) → length names ≡ length ss → map (λ (p : OutputPort). p.name) (map (output_port N) (zip ss names)) ≡ names
outputs-names N [] [] same = refl
outputs-names N [] (name ∷ names) same = absurd (omega arith)
outputs-names N (s ∷ ss) [] same = absurd (omega arith)
outputs-names N (s ∷ ss) (name ∷ names) same = ap (λ ms. name ∷ ms) (outputs-names N ss names (omega arith))

pub outputs-count : (N : NetworkValue) (ss : List Signal) (names : List (Option (List ℕ))) → length names ≡ length ss → length (map (output_port N) (zip ss names)) ≡ length ss
outputs-count N [] names same = refl
outputs-count N (s ∷ ss) [] same = absurd (omega arith)
outputs-count N (s ∷ ss) (name ∷ names) same = ap suc (outputs-count N ss names (omega arith))

-- what a function of the source gives of each output
pub outputs-map : (N : NetworkValue) (f : OutputPort → Bool) (h : Signal → Bool) (ss : List Signal) (names : List (Option (List ℕ))) → length names ≡ length ss → ((s : Signal) (name : Option (List ℕ)) → f (output_port N (s, name)) ≡ h s) → map f (map (output_port N) (zip ss names)) ≡ map h ss
outputs-map N f h [] names same each = refl
outputs-map N f h (s ∷ ss) [] same each = absurd (omega arith)
outputs-map N f h (s ∷ ss) (name ∷ names) same each = λ i. each s name i ∷ outputs-map N f h ss names (omega arith) each i
