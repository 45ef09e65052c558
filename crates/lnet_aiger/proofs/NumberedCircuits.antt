-- A circuit whose wires are numbered from 1 without a gap, each gate after those it uses, keeps the rules of circuits.
use Rattle.std.proofs.Common.{◌≡◌, ℕ, zero, suc, ◌+◌, ◌<◌, ◌≤◌, List, [], ◌∷◌, ◌++◌, length, flat_map, get_or, refl, sym, ap, subst, arith, length-append}
use Rattle.lnet_edge.proofs.WireLemmas.{AllFrom-get_or, length-input_wires, length-targets}
use Rattle.lnet_edge.specs.declared.circuit.InputPort.{InputPort}
use Rattle.lnet_edge.specs.declared.circuit.OutputPort.{OutputPort}
use Rattle.lnet_edge.specs.Circuits.{CircuitValue, EquationValue, AllFrom, IsGateAt}
use Rattle.lnet_edge.specs.Wires.{input_wires, output_wires, targets, operand_wires, driven_wires, used_wires, IsUndriven, IsTwice, Reads, IsWalk, end_of, IsCyclic, HasArity, HasArities, IsCircuit}

-- the input drives this wire
abbrev pub DrivesAt : ℕ → InputPort → Type 0
DrivesAt i p = p.wire.0 ≡ i

-- an output of a wire up to the last
abbrev pub ShowsUpTo : ℕ → ℕ → OutputPort → Type 0
ShowsUpTo top i p = p.source.wire.0 ≤ top

pub record IsNumbered (c : CircuitValue) : Type 0 where
  pub inputs : AllFrom DrivesAt 1 c.inputs
  pub gates : AllFrom IsGateAt (length c.inputs + 1) c.equations
  pub outputs : AllFrom (ShowsUpTo (length c.inputs + length c.equations)) 0 c.outputs
  pub few : length c.inputs + length c.equations ≤ 1048576
  pub few_outputs : length c.outputs ≤ 100000000

-- the numbers count up from i
abbrev CountsFrom : ℕ → List ℕ → Type 0
CountsFrom i [] = Unit {0}
CountsFrom i (x ∷ xs) = (x ≡ i) × CountsFrom (i + 1) xs

counts-append : (i j : ℕ) (xs ys : List ℕ) → j ≡ i + length xs → CountsFrom i xs → CountsFrom j ys → CountsFrom i (xs ++ ys)
counts-append i j [] ys e cx cy = let same : j ≡ i = omega arith in subst (λ (n : ℕ). CountsFrom n ys) same cy
counts-append i j (x ∷ xs) ys e cx cy = (cx.0, counts-append (i + 1) j xs ys (omega arith) cx.1 cy)

counts-get_or : (i : ℕ) (xs : List ℕ) (k d : ℕ) → CountsFrom i xs → k < length xs → get_or xs k d ≡ i + k
counts-get_or i [] k d c h = absurd (omega arith)
counts-get_or i (x ∷ xs) zero d c h = let e = c.0 in omega arith
counts-get_or i (x ∷ xs) (suc k) d c h = let e = counts-get_or (i + 1) xs k d c.1 (omega arith) in omega arith

counts-inputs : (i : ℕ) (ps : List InputPort) → AllFrom DrivesAt i ps → CountsFrom i (input_wires ps)
counts-inputs i [] at = tt
counts-inputs i (p ∷ ps) at = (at.0, counts-inputs (i + 1) ps at.1)

counts-targets : (i : ℕ) (es : List EquationValue) → AllFrom IsGateAt i es → CountsFrom i (targets es)
counts-targets i [] at = tt
counts-targets i (e ∷ es) at = (ap (λ (z : EquationValue). z.target) at.0.2, counts-targets (i + 1) es at.1)

counts-driven : (c : CircuitValue) → IsNumbered c → CountsFrom 0 (driven_wires c)
counts-driven c ord = (refl, counts-append 1 (length c.inputs + 1) (input_wires c.inputs) (targets c.equations) (let e = length-input_wires c.inputs in omega arith) (counts-inputs 1 c.inputs ord.inputs) (counts-targets (length c.inputs + 1) c.equations ord.gates))

length-driven : (c : CircuitValue) → length (driven_wires c) ≡ suc (length c.inputs + length c.equations)
length-driven c =
    let a = length-append (input_wires c.inputs) (targets c.equations) in
    let i = length-input_wires c.inputs in
    let t = length-targets c.equations in
    omega arith

-- ---- driven once, and driven

once-numbered : (c : CircuitValue) → IsNumbered c → ¬ (IsTwice c)
once-numbered c ord (i, j, below, within, same) =
    let all = counts-driven c ord in
    let a = counts-get_or 0 (driven_wires c) i 0 all (omega arith) in
    let b = counts-get_or 0 (driven_wires c) j 0 all within in
    omega arith

-- each number is below the bound
abbrev AllUnder : ℕ → List ℕ → Type 0
AllUnder b [] = Unit {0}
AllUnder b (x ∷ xs) = (x < b) × AllUnder b xs

under-append : (b : ℕ) (xs ys : List ℕ) → AllUnder b xs → AllUnder b ys → AllUnder b (xs ++ ys)
under-append b [] ys ux uy = uy
under-append b (x ∷ xs) ys ux uy = (ux.0, under-append b xs ys ux.1 uy)

under-get_or : (b : ℕ) (xs : List ℕ) (k d : ℕ) → AllUnder b xs → k < length xs → get_or xs k d < b
under-get_or b [] k d u h = absurd (omega arith)
under-get_or b (x ∷ xs) zero d u h = u.0
under-get_or b (x ∷ xs) (suc k) d u h = under-get_or b xs k d u.1 (omega arith)

under-outputs : (top i : ℕ) (ps : List OutputPort) → AllFrom (ShowsUpTo top) i ps → AllUnder (suc top) (output_wires ps)
under-outputs top i [] at = tt
under-outputs top i (p ∷ ps) at = (let h = at.0 in omega arith, under-outputs top (i + 1) ps at.1)

under-gate : (b i : ℕ) (e : EquationValue) → IsGateAt i e → i ≤ b → AllUnder b (operand_wires e)
under-gate b i e at h =
    let low = at.3 in
    let low2 = at.4 in
    subst (λ (z : EquationValue). AllUnder b (operand_wires z)) (sym at.2) (omega arith, (omega arith, tt))

under-operands : (b i : ℕ) (es : List EquationValue) → AllFrom IsGateAt i es → i + length es ≤ b → AllUnder b (flat_map operand_wires es)
under-operands b i [] at h = tt
under-operands b i (e ∷ es) at h = under-append b (operand_wires e) (flat_map operand_wires es) (under-gate b i e at.0 (omega arith)) (under-operands b (i + 1) es at.1 (omega arith))

under-used : (c : CircuitValue) → IsNumbered c → AllUnder (suc (length c.inputs + length c.equations)) (used_wires c)
under-used c ord = under-append _ (output_wires c.outputs) (flat_map operand_wires c.equations) (under-outputs (length c.inputs + length c.equations) 0 c.outputs ord.outputs) (under-operands (suc (length c.inputs + length c.equations)) (length c.inputs + 1) c.equations ord.gates (omega arith))

driven-numbered : (c : CircuitValue) → IsNumbered c → ¬ (IsUndriven c)
driven-numbered c ord (w, (k, within, is), undriven) =
    let low = under-get_or (suc (length c.inputs + length c.equations)) (used_wires c) k w (under-used c ord) within in
    let len = length-driven c in
    let at : get_or (driven_wires c) w w ≡ w = (let e = counts-get_or 0 (driven_wires c) w w (counts-driven c ord) (omega arith) in omega arith) in
    undriven (w, omega arith, at)

-- ---- no cycle

reads_lower : (c : CircuitValue) → IsNumbered c → (w v : ℕ) → Reads c.equations w v → v < w
reads_lower c ord w v (e, (k, within, is), target, (j, under, at)) =
    let gate = AllFrom-get_or IsGateAt (length c.inputs + 1) c.equations k e ord.gates within in
    let gate2 = subst (IsGateAt ((length c.inputs + 1) + k)) is gate in
    let t : e.target ≡ (length c.inputs + 1) + k = ap (λ (z : EquationValue). z.target) gate2.2 in
    let low = under-get_or w (operand_wires e) j v (under-gate w ((length c.inputs + 1) + k) e gate2 (omega arith)) under in
    omega arith

walks_fall : (c : CircuitValue) → IsNumbered c → (w : ℕ) (vs : List ℕ) → IsWalk c.equations w vs → end_of w vs ≤ w
walks_fall c ord w [] walk = omega arith
walks_fall c ord w (v ∷ vs) walk =
    let low = reads_lower c ord w v walk.0 in
    let rest = walks_fall c ord v vs walk.1 in
    omega arith

acyclic-numbered : (c : CircuitValue) → IsNumbered c → ¬ (IsCyclic c)
acyclic-numbered c ord (w, (v, vs, walk, back)) =
    let low = reads_lower c ord w v walk.0 in
    let rest = walks_fall c ord v vs walk.1 in
    omega arith

arities-numbered : (c : CircuitValue) → IsNumbered c → HasArities c.equations
arities-numbered c ord k d within =
    let gate = AllFrom-get_or IsGateAt (length c.inputs + 1) c.equations k d ord.gates within in
    let two : 1 ≤ 2 = omega arith in
    subst (λ (z : EquationValue). HasArity z.rule (length z.operands)) (sym gate.2) two

pub IsCircuit-numbered : (c : CircuitValue) → IsNumbered c → IsCircuit c
IsCircuit-numbered c ord = record {
  driven = driven-numbered c ord;
  once = once-numbered c ord;
  acyclic = acyclic-numbered c ord;
  arities = arities-numbered c ord;
  few = let h = ord.few in omega arith;
  few_outputs = let h = ord.few_outputs in omega arith;
}
