-- Plain circuits, place by place.
use Rattle.std.proofs.Common.{◌≡◌, ℕ, zero, suc, ◌<◌, ◌≤◌, ◌↔◌, ◌&&◌, Bool, true, false, nat_lt, List, [], ◌∷◌, length, map, get_or, Option, Some, None, IsTrue, refl, sym, ap, subst, ◌∙◌, arith, Contains}
use Rattle.std.specs.List.{list_all}
use Rattle.std.proofs.lemmas.Bool.{ltb-true}
use Rattle.std.proofs.lemmas.Bool.Decides.{nat_tests}
use Rattle.lnet_edge.specs.declared.circuit.WireRef.{WireRef}
use Rattle.lnet_edge.specs.declared.circuit.Equation.{Equation}
use Rattle.lnet_edge.specs.Circuits.{EquationValue}
use Rattle.lnet_edge.specs.CircuitLists.{equation_view, equation_views}
use Rattle.lnet_edge.specs.Wires.{operand_wires}
use Rattle.lnet_edge.specs.Drivers.{Drivers, driver_at, place_in, target_at, KnowsEquations}
use Rattle.lnet_edge.specs.Searches.{ReadsPlace}
use Rattle.lnet_edge.specs.Plain.{is_gate_equation, is_before, is_plain_at, IsPlain}
use Rattle.lnet_edge.proofs.WireLemmas.{length-views}
use Rattle.lnet_edge.proofs.SearchLemmas.{operands_at-view, place_some}
use Rattle.lnet_edge.proofs.FaultLemmas.{all_operands, at_each, fails_at, both_true}

-- the equation at this place is a gate, and stands after those whose wires it uses
abbrev pub PlainAt : List EquationValue → ℕ → Type 0
PlainAt es i = (get_or (map is_gate_equation es) i false ≡ true) × ((k : ℕ) → k < length es → ReadsPlace es i k → k < i)

gate_at : (es : List Equation) (i : ℕ) (e : Equation) → i < length es → e ≡ get_or es i e → get_or (map is_gate_equation (equation_views es)) i false ≡ is_gate_equation (equation_view e)
gate_at [] i e h is = absurd (omega arith)
gate_at (f ∷ es) zero e h is = ap (λ (z : Equation). is_gate_equation (equation_view z)) (sym is)
gate_at (f ∷ es) (suc i) e h is = gate_at es i e (omega arith) is

pub plain_here : (m : Drivers) (es : List Equation) (i : ℕ) (e : Equation) (r : Bool) → KnowsEquations m false (equation_views es) (length es) → i < length es → e ≡ get_or es i e → r ≡ is_plain_at m (equation_view e) i → r ≡ true → PlainAt (equation_views es) i
plain_here m es i e r knows low is test passed =
    let t = both_true (is_gate_equation (equation_view e)) (list_all (λ (r : WireRef). is_before (place_in (driver_at m r.wire.0)) i) e.operands.items) (sym test ∙ passed) in
    let all = sym (all_operands (λ (w : ℕ). is_before (place_in (driver_at m w)) i) e.operands.items) ∙ t.1 in
    let n = length-views es in (
      gate_at es i e low is ∙ t.0,
      λ k k_low reads.
          let here = subst (λ (os : List ℕ). Contains os (target_at (equation_views es) k)) (operands_at-view es i e low is) reads in
          let before : is_before (place_in (driver_at m (target_at (equation_views es) k))) i ≡ true = sym (ap (λ (w : ℕ). is_before (place_in (driver_at m w)) i) here.2) ∙ at_each (λ (w : ℕ). is_before (place_in (driver_at m w)) i) (operand_wires (equation_view e)) here.0 (target_at (equation_views es) k) all here.1 in
          let k_low2 : k < length es = omega arith in
          let less : nat_lt k i ≡ true = sym (ap (λ o. is_before (place_in o) i) (knows.each refl k k_low2)) ∙ before in
          ltb-true k i less,
    )

-- ---- all places

all_gates : (es : List EquationValue) → ((i : ℕ) → i < length es → get_or (map is_gate_equation es) i false ≡ true) → list_all is_gate_equation es ≡ true
all_gates [] each = refl
all_gates (e ∷ es) each = ap (λ b. b && list_all is_gate_equation es) (each 0 (omega arith)) ∙ all_gates es (λ i h. each (suc i) (omega arith))

gate_of_all : (es : List EquationValue) (i : ℕ) → list_all is_gate_equation es ≡ true → i < length es → get_or (map is_gate_equation es) i false ≡ true
gate_of_all [] i all h = absurd (omega arith)
gate_of_all (e ∷ es) zero all h = (both_true (is_gate_equation e) (list_all is_gate_equation es) all).0
gate_of_all (e ∷ es) (suc i) all h = gate_of_all es i (both_true (is_gate_equation e) (list_all is_gate_equation es) all).1 (omega arith)

pub all_plain : (es : List EquationValue) (n : ℕ) → length es ≤ n → ((i : ℕ) → i < n → PlainAt es i) → IsPlain es
all_plain es n all plain = record {
  gates = all_gates es (λ i h. (plain i (omega arith)).0);
  ordered = λ i k i_low k_low reads. (plain i (omega arith)).1 k k_low reads;
}

-- ---- a place that fails

or_fails : (a b : Bool) → (a && b) ≡ false → a ≡ true → b ≡ false
or_fails true b e is = e
or_fails false b e is = absurd cc

before_fails : (o : Option ℕ) (i : ℕ) → is_before o i ≡ false → (k : ℕ) × (o ≡ Some k) × (i ≤ k)
before_fails None i e = absurd cc
before_fails (Some k) i e = (k, refl, grind (arith, nat_tests))

pub not_plain : (m : Drivers) (es : List Equation) (i : ℕ) (e : Equation) (r : Bool) → KnowsEquations m false (equation_views es) (length es) → i < length es → e ≡ get_or es i e → r ≡ is_plain_at m (equation_view e) i → r ≡ false → ¬ (IsPlain (equation_views es))
not_plain m es i e r knows low is test failed plain =
    let n = length-views es in
    let i_low : i < length (equation_views es) = omega arith in
    let gate = sym (gate_at es i e low is) ∙ gate_of_all (equation_views es) i plain.gates i_low in
    let rest = or_fails (is_gate_equation (equation_view e)) (list_all (λ (r : WireRef). is_before (place_in (driver_at m r.wire.0)) i) e.operands.items) (sym test ∙ failed) gate in
    let f = fails_at (λ (w : ℕ). is_before (place_in (driver_at m w)) i) (operand_wires (equation_view e)) (sym (all_operands (λ (w : ℕ). is_before (place_in (driver_at m w)) i) e.operands.items) ∙ rest) in
    let b = before_fails (place_in (driver_at m f.0)) i f.2 in
    let d = knows.only f.0 b.0 (place_some (driver_at m f.0) b.0 b.1) in
    let k_low : b.0 < length (equation_views es) = (let h = d.0 in omega arith) in
    let reads = subst (λ (os : List ℕ). Contains os (target_at (equation_views es) b.0)) (sym (operands_at-view es i e low is)) (subst (Contains (operand_wires (equation_view e))) (sym d.1) f.1) in
    let before = plain.ordered i b.0 i_low k_low reads in
    let after = b.2 in
    omega arith

-- over equations that are borrowed
pub plain_by : (es near_es : List Equation) (r : Bool) → near_es ≡ es → (IsTrue r ↔ IsPlain (equation_views near_es)) → (IsTrue r ↔ IsPlain (equation_views es))
plain_by es near_es r es_are says = subst (λ (fs : List Equation). IsTrue r ↔ IsPlain (equation_views fs)) es_are says
