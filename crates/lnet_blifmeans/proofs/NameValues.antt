-- The values of names in the circuit of covers.
use Rattle.std.proofs.Common.{◌≡◌, ℕ, zero, suc, ◌+◌, ◌<◌, Bool, List, [], ◌∷◌, length, map, get_or, unwrap_or, Option, Some, refl, sym, ap, ◌∙◌, arith}
use Rattle.std.specs.Prelude.{Contains, slice_get}
use Rattle.std.specs.List.{AllByRecursion}
use Rattle.std.proofs.lemmas.List.{length-map}
use Rattle.std.proofs.lemmas.List.Elements.{recursion_from_All, All-contains_itself}
use Rattle.lnet_edge.specs.Circuits.{CircuitValue}
use Rattle.lnet_edge.specs.Values.{input_place, equation_at, driven, input_or, cover_value, value_of, ref_value}
use Rattle.lnet_edge.specs.Wires.{input_wires, IsCircuit}
use Rattle.lnet_edge.proofs.ValueLemmas.{value_once, value-equation, value-input}
use Rattle.lnet_wires.specs.Naming.{wire_of}
use Rattle.lnet_naming.specs.Settling.{made_name, input_labels}
use Rattle.lnet_nodes.specs.Nodes.{name_at, label_of, node_name}
use Rattle.lnet_blif.specs.Numbering.{use_of, input_of}
use Rattle.lnet_benchmeans.proofs.Differing.{all_weak}
use Rattle.lnet_benchmeans.proofs.Plain.{IsOneOf}
use Rattle.lnet_benchmeans.proofs.Nodes.{place_some}
use Rattle.lnet_bliftext.specs.Written.{CoverLines}
use Rattle.lnet_blifmeans.proofs.Shape.{true_cover, equation_of, shaped}
use Rattle.lnet_blifmeans.proofs.Once.{count_inputs}

-- the value of the wire of a name
abbrev pub name_value : CircuitValue → List (List ℕ) → (ℕ → Bool) → List ℕ → Bool
name_value d names a x = value_of d a (wire_of names x)

-- the target of each cover has the cover's value on those of its operands
abbrev pub CoversHold : (List ℕ → Bool) → List CoverLines → Type 0
CoversHold v ks = AllByRecursion (λ (k : CoverLines). v k.target ≡ cover_value (true_cover k.rows) (map v k.operands)) ks

-- ---- covers

uses_valued : (d : CircuitValue) (names : List (List ℕ)) (a : ℕ → Bool) (xs : List (List ℕ)) → map (ref_value d a) (map (use_of names) xs) ≡ map (name_value d names a) xs
uses_valued d names a [] = refl
uses_valued d names a (x ∷ xs) = ap (λ (bs : List Bool). name_value d names a x ∷ bs) (uses_valued d names a xs)

all_of : {X Y : Type 0} (P : Y → Type 0) (f : X → Y) (xs : List X) → AllByRecursion P (map f xs) → AllByRecursion (λ x. P (f x)) xs
all_of P f [] all = tt
all_of P f (x ∷ xs) all = (all.0, all_of P f xs all.1)

pub covers_hold : (names ins outs : List (List ℕ)) (ks : List CoverLines) (a : ℕ → Bool) → IsCircuit (shaped names ins outs ks) → CoversHold (name_value (shaped names ins outs ks) names a) ks
covers_hold names ins outs ks a is =
    let d = shaped names ins outs ks in
    let v = name_value d names a in
    let stand = all_of (Contains d.equations) (equation_of names) ks (recursion_from_All (Contains d.equations) d.equations (All-contains_itself d.equations)) in
    all_weak (λ (k : CoverLines). Contains d.equations (equation_of names k)) (λ (k : CoverLines). v k.target ≡ cover_value (true_cover k.rows) (map v k.operands)) ks
    (λ k stands. value-equation d a (equation_of names k) is stands ∙ ap (cover_value (true_cover k.rows)) (uses_valued d names a k.operands)) stand

-- ---- inputs

wire_at : (names ins : List (List ℕ)) (k : ℕ) → k < length ins → get_or (input_wires (map (input_of names) ins)) k 0 ≡ wire_of names (get_or ins k [])
wire_at names [] k low = absurd (omega arith)
wire_at names (x ∷ xs) zero low = refl
wire_at names (x ∷ xs) (suc k) low = wire_at names xs k (omega arith)

-- names have the values of inputs, by their places
abbrev pub InputsHold : (List ℕ → Bool) → (ℕ → Bool) → List (List ℕ) → Type 0
InputsHold v a ins = (k : ℕ) → k < length ins → v (get_or ins k []) ≡ a k

pub inputs_hold : (names ins outs : List (List ℕ)) (ks : List CoverLines) (a : ℕ → Bool) → IsCircuit (shaped names ins outs ks) → InputsHold (name_value (shaped names ins outs ks) names a) a ins
inputs_hold names ins outs ks a is k low =
    let d = shaped names ins outs ks in
    let n = length-map ins (input_of names) in
    ap (value_of d a) (sym (wire_at names ins k low)) ∙ value-input d a k is (omega arith)

got_label : (names : List (List ℕ)) (k : ℕ) (other : List ℕ) → k < length names → unwrap_or (slice_get names k) other ≡ get_or names k []
got_label [] k other low = absurd (omega arith)
got_label (x ∷ xs) zero other low = refl
got_label (x ∷ xs) (suc k) other low = got_label xs k other (omega arith)

-- the name of an input's node has the value of its wire
pub input_valued : (c : CircuitValue) (a : ℕ → Bool) (v : List ℕ → Bool) → IsCircuit c → InputsHold v a (input_labels c.inputs) → (w : ℕ) → IsOneOf (input_wires c.inputs) w → v (node_name (label_of c) w) ≡ value_of c a w
input_valued c a v is hold w one =
    let p = place_some 0 w c.inputs one in
    let labels = input_labels c.inputs in
    let count = count_inputs c in
    let low : p.0 < length (input_labels c.inputs) = let h = p.1 in omega arith in
    let e : 0 + p.0 ≡ p.0 = omega arith in
    let place : input_place 0 w c.inputs ≡ Some p.0 = p.2 ∙ ap Some e in
    ap (λ (o : Option ℕ). v (unwrap_or (name_at labels o) (made_name 110 w))) place
    ∙ ap v (got_label labels p.0 (made_name 110 w) low)
    ∙ hold p.0 low
    ∙ ap (λ (o : Option ℕ). input_or o a (driven (ref_value c a) (equation_at w c.equations))) (sym place)
    ∙ sym (value_once c a w is)
