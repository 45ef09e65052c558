-- How many wires the parts of a circuit drive, and what holds at each place of a list.
use Rattle.std.proofs.Common.{◌≡◌, ℕ, zero, suc, ◌+◌, ◌<◌, List, [], ◌∷◌, length, get_or, refl, ap, subst, ◌∙◌, arith}
use Rattle.lnet_edge.specs.declared.circuit.Equation.{Equation}
use Rattle.lnet_edge.specs.declared.circuit.InputPort.{InputPort}
use Rattle.lnet_edge.specs.Circuits.{EquationValue, AllFrom}
use Rattle.lnet_edge.specs.CircuitLists.{equation_views}
use Rattle.lnet_edge.specs.Wires.{input_wires, targets}

pub length-input_wires : (ps : List InputPort) → length (input_wires ps) ≡ length ps
length-input_wires [] = refl
length-input_wires (p ∷ ps) = ap suc (length-input_wires ps)

pub length-targets : (es : List EquationValue) → length (targets es) ≡ length es
length-targets [] = refl
length-targets (e ∷ es) = ap suc (length-targets es)

pub length-views : (es : List Equation) → length (equation_views es) ≡ length es
length-views [] = refl
length-views (e ∷ es) = ap suc (length-views es)

pub length-target_views : (es : List Equation) → length (targets (equation_views es)) ≡ length es
length-target_views es = length-targets (equation_views es) ∙ length-views es

pub AllFrom-get_or : {A : Type 0} (P : ℕ → A → Type 0) (i : ℕ) (xs : List A) (k : ℕ) (d : A) → AllFrom P i xs → k < length xs → P (i + k) (get_or xs k d)
AllFrom-get_or P i [] k d all h = absurd (omega arith)
AllFrom-get_or P i (x ∷ xs) zero d all h = let e : i ≡ i + 0 = omega arith in subst (λ (n : ℕ). P n x) e all.0
AllFrom-get_or P i (x ∷ xs) (suc k) d all h =
    let e : (i + 1) + k ≡ i + suc k = omega arith in
    subst (λ (n : ℕ). P n (get_or xs k d)) e (AllFrom-get_or P (i + 1) xs k d all.1 (omega arith))
