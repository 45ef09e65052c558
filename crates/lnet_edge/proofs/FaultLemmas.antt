-- When a circuit's lists break a rule, by what the map of drivers says.
use Rattle.std.proofs.Common.{◌≡◌, ℕ, zero, suc, ◌<◌, ◌&&◌, Bool, true, false, List, [], ◌∷◌, ◌++◌, length, map, flat_map, get_or, refl, sym, ap, subst, ◌∙◌, arith, Contains}
use Rattle.std.specs.List.{list_all}
use Rattle.std.proofs.lemmas.List.Folds.{list_all-append}
use Rattle.std.proofs.lemmas.List.Concat.{flat_map-cons}
use Rattle.lnet_edge.specs.declared.circuit.WireRef.{WireRef}
use Rattle.lnet_edge.specs.declared.circuit.Equation.{Equation}
use Rattle.lnet_edge.specs.declared.circuit.InputPort.{InputPort}
use Rattle.lnet_edge.specs.declared.circuit.OutputPort.{OutputPort}
use Rattle.lnet_edge.specs.Circuits.{CircuitValue}
use Rattle.lnet_edge.specs.CircuitLists.{equation_view, equation_views, listed_circuit}
use Rattle.lnet_edge.specs.Wires.{operand_wires, output_wires, input_wires, targets, driven_wires, used_wires, IsUndriven, IsTwice, ComesBack}
use Rattle.lnet_edge.specs.Drivers.{Drivers, is_driven, drives_operands, KnowsWires}

-- ---- a test of each wire that is used

pub all_operands : (p : ℕ → Bool) (rs : List WireRef) → list_all (λ (r : WireRef). p r.wire.0) rs ≡ list_all p (map (λ (r : WireRef). r.wire.0) rs)
all_operands p [] = refl
all_operands p (r ∷ rs) = ap (λ b. p r.wire.0 && b) (all_operands p rs)

all_outputs : (p : ℕ → Bool) (os : List OutputPort) → list_all (λ (o : OutputPort). p o.source.wire.0) os ≡ list_all p (output_wires os)
all_outputs p [] = refl
all_outputs p (o ∷ os) = ap (λ b. p o.source.wire.0 && b) (all_outputs p os)

all_equations : (m : Drivers) (es : List Equation) → list_all (λ (e : Equation). drives_operands m (equation_view e)) es ≡ list_all (is_driven m) (flat_map operand_wires (equation_views es))
all_equations m [] = refl
all_equations m (e ∷ es) =
    (λ i. all_operands (is_driven m) e.operands.items i && all_equations m es i)
    ∙ sym (list_all-append (is_driven m) (operand_wires (equation_view e)) (flat_map operand_wires (equation_views es)))
    ∙ ap (list_all (is_driven m)) (sym (flat_map-cons operand_wires (equation_view e) (equation_views es)))

abbrev pub drives_all : Drivers → List OutputPort → List Equation → Bool
drives_all m os es = list_all (λ (p : OutputPort). is_driven m p.source.wire.0) os && list_all (λ (e : Equation). drives_operands m (equation_view e)) es

all_used : (m : Drivers) (ins : List InputPort) (os : List OutputPort) (es : List Equation) → drives_all m os es ≡ list_all (is_driven m) (used_wires (listed_circuit ins os es))
all_used m ins os es =
    (λ i. all_outputs (is_driven m) os i && all_equations m es i)
    ∙ sym (list_all-append (is_driven m) (output_wires os) (flat_map operand_wires (equation_views es)))

-- ---- what the test says

pub both_true : (a b : Bool) → (a && b) ≡ true → (a ≡ true) × (b ≡ true)
both_true true b e = (refl, e)
both_true false b e = absurd cc

pub at_each : (p : ℕ → Bool) (xs : List ℕ) (k d : ℕ) → list_all p xs ≡ true → k < length xs → p (get_or xs k d) ≡ true
at_each p [] k d all h = absurd (omega arith)
at_each p (x ∷ xs) zero d all h = (both_true (p x) (list_all p xs) all).0
at_each p (x ∷ xs) (suc k) d all h = at_each p xs k d (both_true (p x) (list_all p xs) all).1 (omega arith)

abbrev pub FailsAt : (ℕ → Bool) → List ℕ → Type 0
FailsAt p xs = (w : ℕ) × Contains xs w × (p w ≡ false)

fails_here : (p : ℕ → Bool) (x : ℕ) (xs : List ℕ) (b : Bool) → p x ≡ b → (b && list_all p xs) ≡ false → (list_all p xs ≡ false → FailsAt p xs) → FailsAt p (x ∷ xs)
fails_here p x xs false is e later = (x, (0, omega arith, refl), is)
fails_here p x xs true is e later = let f = later e in (f.0, (suc f.1.0, (let h = f.1.1 in omega arith), f.1.2), f.2)

pub fails_at : (p : ℕ → Bool) (xs : List ℕ) → list_all p xs ≡ false → FailsAt p xs
fails_at p [] e = absurd cc
fails_at p (x ∷ xs) e = fails_here p x xs (p x) refl e (fails_at p xs)

pub undriven_found : (m : Drivers) (twice : Bool) (ins : List InputPort) (os : List OutputPort) (es : List Equation) (r : Bool) → KnowsWires m twice (driven_wires (listed_circuit ins os es)) → r ≡ drives_all m os es → r ≡ false → IsUndriven (listed_circuit ins os es)
undriven_found m twice ins os es r knows is failed =
    let f = fails_at (is_driven m) (used_wires (listed_circuit ins os es)) (sym (is ∙ all_used m ins os es) ∙ failed) in
    (f.0, f.1, λ c. let e : true ≡ false = sym ((knows.has f.0).1 c) ∙ f.2 in cc)

pub none_undriven : (m : Drivers) (twice : Bool) (ins : List InputPort) (os : List OutputPort) (es : List Equation) (r : Bool) → KnowsWires m twice (driven_wires (listed_circuit ins os es)) → r ≡ drives_all m os es → r ≡ true → ¬ (IsUndriven (listed_circuit ins os es))
none_undriven m twice ins os es r knows is passed (w, (k, low, at), undriven) =
    let all = sym (is ∙ all_used m ins os es) ∙ passed in
    let here = at_each (is_driven m) (used_wires (listed_circuit ins os es)) k w all low in
    undriven ((knows.has w).0 (sym (ap (is_driven m) at) ∙ here))

-- ---- over the lists that are borrowed

pub knows_of : (m : Drivers) (twice : Bool) (ins near_ins : List InputPort) (os : List OutputPort) (es near_es : List Equation) → near_ins ≡ ins → near_es ≡ es → KnowsWires m twice (0 ∷ (input_wires near_ins ++ targets (equation_views near_es))) → KnowsWires m twice (driven_wires (listed_circuit ins os es))
knows_of m twice ins near_ins os es near_es ins_are es_are knows =
    subst (λ (ps : List InputPort). KnowsWires m twice (0 ∷ (input_wires ps ++ targets (equation_views es)))) ins_are
    (subst (λ (fs : List Equation). KnowsWires m twice (0 ∷ (input_wires near_ins ++ targets (equation_views fs)))) es_are knows)

pub drives_of : (m : Drivers) (os near_os : List OutputPort) (es near_es : List Equation) (r : Bool) → near_os ≡ os → near_es ≡ es → r ≡ drives_all m near_os near_es → r ≡ drives_all m os es
drives_of m os near_os es near_es r os_are es_are is = is ∙ (λ i. drives_all m (os_are i) (es_are i))

pub cyclic_by : (es near_es : List Equation) (r : Bool) → near_es ≡ es → (r ≡ true → (w : ℕ) × ComesBack (equation_views near_es) w) → r ≡ true → (w : ℕ) × ComesBack (equation_views es) w
cyclic_by es near_es r es_are back found = subst (λ (fs : List Equation). (w : ℕ) × ComesBack (equation_views fs) w) es_are (back found)

pub acyclic_by : (es near_es : List Equation) (r : Bool) (w : ℕ) → near_es ≡ es → (r ≡ false → (v : ℕ) → ComesBack (equation_views near_es) v → ⊥) → r ≡ false → ComesBack (equation_views es) w → ⊥
acyclic_by es near_es r w es_are none failed back = none failed w (subst (λ (fs : List Equation). ComesBack (equation_views fs) w) (sym es_are) back)

-- what is known of the lists where each used wire is driven
pub record Checked (c : CircuitValue) (twice : Bool) : Type 0 where
  pub driven : ¬ (IsUndriven c)
  pub repeated : twice ≡ true → IsTwice c
  pub once : twice ≡ false → ¬ (IsTwice c)

pub checked : (m : Drivers) (twice : Bool) (ins near_ins : List InputPort) (os near_os : List OutputPort) (es near_es nearer_es : List Equation) (r : Bool) → near_ins ≡ ins → near_os ≡ os → near_es ≡ es → nearer_es ≡ es → KnowsWires m twice (0 ∷ (input_wires near_ins ++ targets (equation_views near_es))) → r ≡ drives_all m near_os nearer_es → r ≡ true → Checked (listed_circuit ins os es) twice
checked m twice ins near_ins os near_os es near_es nearer_es r ins_are os_are es_are es_are2 knows is passed =
    let known = knows_of m twice ins near_ins os es near_es ins_are es_are knows in
    record {
      driven = none_undriven m twice ins os es r known (drives_of m os near_os es nearer_es r os_are es_are2 is) passed;
      repeated = known.repeated;
      once = known.single;
    }
