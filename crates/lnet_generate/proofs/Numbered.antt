-- A generated circuit keeps the rules of circuits, and is plain.
use Rattle.std.proofs.Common.{◌≡◌, ℕ, zero, suc, ◌+◌, ◌%◌, ◌<◌, ◌≤◌, Bool, true, false, ◌&&◌, IsTrue, List, [], ◌∷◌, ◌++◌, length, map, flat_map, get_or, refl, sym, ap, subst, ◌∙◌, arith, length-append}
use Rattle.std.specs.Prelude.{nat_eq, if◌then◌else◌}
use Rattle.std.specs.List.{list_all}
use Rattle.rand_core.specs.Stream.{Stream, next_u32}
use Rattle.lnet_gates.specs.declared.gate.Kind.{Kind}
use Rattle.lnet_gates.specs.declared.gate.Kind.TheVariants.{Aig, Xag, Mig, Klut}
use Rattle.lnet_edge.specs.declared.circuit.Rule.{Rule}
use Rattle.lnet_edge.specs.declared.circuit.Rule.TheVariants.{And, Xor}
use Rattle.lnet_edge.specs.declared.circuit.WireRef.{WireRef}
use Rattle.lnet_edge.specs.Circuits.{CircuitValue, EquationValue, AllFrom}
use Rattle.lnet_edge.specs.Plain.{is_gate, is_gate_equation, IsPlain}
use Rattle.lnet_edge.specs.Wires.{input_wires, output_wires, targets, operand_wires, driven_wires, used_wires, IsUndriven, IsTwice, Reads, IsWalk, end_of, IsCyclic, HasArity, HasArities}
use Rattle.lnet_edge.proofs.WireLemmas.{AllFrom-get_or, length-input_wires, length-targets}
use Rattle.lnet_edge.proofs.SearchLemmas.{reads_from}
use Rattle.lnet_generate.specs.Drawing.{draw_use, draw_uses, draw_rule, operand_count, draw_gate, draw_gates, inputs_from, shown, drawn}

-- ---- what is drawn

-- each number is below the bound
abbrev AllUnder : ℕ → List ℕ → Type 0
AllUnder b [] = Unit {0}
AllUnder b (x ∷ xs) = (x < b) × AllUnder b xs

abbrev wires_of : List WireRef → List ℕ
wires_of rs = map (λ (r : WireRef). r.wire.0) rs

-- a gate that has this wire, and uses wires below it
record StandsAt (target : ℕ) (e : EquationValue) : Type 0 where
  on : e.target ≡ target
  gate : IsTrue (is_gate_equation e)
  arity : HasArity e.rule (length e.operands)
  below : AllUnder target (operand_wires e)

under-uses : (n wires : ℕ) (s : Stream) → AllUnder (suc wires) (wires_of (draw_uses n wires s).0)
under-uses zero wires s = tt
under-uses (suc n) wires s = (omega arith, under-uses n wires (draw_use wires s).1)

pub length-uses : (n wires : ℕ) (s : Stream) → length (draw_uses n wires s).0 ≡ n
length-uses zero wires s = refl
length-uses (suc n) wires s = ap suc (length-uses n wires (draw_use wires s).1)

-- the rule is a gate's for so many operands
abbrev Suits : Rule → ℕ → Type 0
Suits r n = IsTrue (is_gate r n) × HasArity r n

two-suits : (b : Bool) → Suits (if b then Xor false else And false) 2
two-suits true = (refl, omega arith)
two-suits false = (refl, omega arith)

rule-suits : (kind : Kind) (s : Stream) → Suits (draw_rule kind s).0 (operand_count kind)
rule-suits Aig s = (refl, omega arith)
rule-suits Xag s = two-suits (nat_eq ((next_u32 s).0 % 2) 1)
rule-suits Mig s = (refl, refl)
rule-suits Klut s = two-suits (nat_eq ((next_u32 s).0 % 2) 1)

gate-stands : (kind : Kind) (wires : ℕ) (s : Stream) → StandsAt (wires + 1) (draw_gate kind wires s).0
gate-stands kind wires s =
    let n = length-uses (operand_count kind) wires (draw_rule kind s).1 in
    let suits = subst (Suits (draw_rule kind s).0) (sym n) (rule-suits kind s) in
    let more : suc wires ≡ wires + 1 = omega arith in
    record { on = refl; gate = suits.0; arity = suits.1; below = subst (λ b. AllUnder b (wires_of (draw_uses (operand_count kind) wires (draw_rule kind s).1).0)) more (under-uses (operand_count kind) wires (draw_rule kind s).1) }

gates-stand : (kind : Kind) (n wires : ℕ) (s : Stream) → AllFrom StandsAt (wires + 1) (draw_gates kind n wires s).0
gates-stand kind zero wires s = tt
gates-stand kind (suc n) wires s = (gate-stands kind wires s, gates-stand kind n (wires + 1) (draw_gate kind wires s).1)

pub length-gates : (kind : Kind) (n wires : ℕ) (s : Stream) → length (draw_gates kind n wires s).0 ≡ n
length-gates kind zero wires s = refl
length-gates kind (suc n) wires s = ap suc (length-gates kind n (wires + 1) (draw_gate kind wires s).1)

pub length-inputs : (i n : ℕ) → length (inputs_from i n) ≡ n
length-inputs i zero = refl
length-inputs i (suc n) = ap suc (length-inputs (i + 1) n)

-- ---- numbered circuits

-- the numbers count up from i
abbrev CountsFrom : ℕ → List ℕ → Type 0
CountsFrom i [] = Unit {0}
CountsFrom i (x ∷ xs) = (x ≡ i) × CountsFrom (i + 1) xs

-- the inputs are numbered from 1 on, the gates behind them use wires below their own, and the outputs show such wires
record IsNumbered (c : CircuitValue) : Type 0 where
  inputs : CountsFrom 1 (input_wires c.inputs)
  gates : AllFrom StandsAt (length c.inputs + 1) c.equations
  outputs : AllUnder (suc (length c.inputs + length c.equations)) (output_wires c.outputs)

counts-inputs : (i n : ℕ) → CountsFrom i (input_wires (inputs_from i n))
counts-inputs i zero = tt
counts-inputs i (suc n) = (refl, counts-inputs (i + 1) n)

output_wires-shown : (rs : List WireRef) → output_wires (map shown rs) ≡ wires_of rs
output_wires-shown [] = refl
output_wires-shown (r ∷ rs) = ap (λ ws. r.wire.0 ∷ ws) (output_wires-shown rs)

numbered-drawn : (kind : Kind) (inputs gates outputs : ℕ) (s : Stream) → IsNumbered (drawn kind inputs gates outputs s)
numbered-drawn kind inputs gates outputs s =
    let i = length-inputs 1 inputs in
    let g = length-gates kind gates inputs s in
    let rest = (draw_gates kind gates inputs s).1 in
    let first : inputs + 1 ≡ length (inputs_from 1 inputs) + 1 = omega arith in
    let top : suc (inputs + gates) ≡ suc (length (inputs_from 1 inputs) + length (draw_gates kind gates inputs s).0) = omega arith in
    record {
      inputs = counts-inputs 1 inputs;
      gates = subst (λ (n : ℕ). AllFrom StandsAt n (draw_gates kind gates inputs s).0) first (gates-stand kind gates inputs s);
      outputs = subst (λ (ws : List ℕ). AllUnder (suc (length (inputs_from 1 inputs) + length (draw_gates kind gates inputs s).0)) ws) (sym (output_wires-shown (draw_uses outputs (inputs + gates) rest).0)) (subst (λ (n : ℕ). AllUnder n (wires_of (draw_uses outputs (inputs + gates) rest).0)) top (under-uses outputs (inputs + gates) rest));
    }

counts-append : (i j : ℕ) (xs ys : List ℕ) → j ≡ i + length xs → CountsFrom i xs → CountsFrom j ys → CountsFrom i (xs ++ ys)
counts-append i j [] ys e cx cy = let same : j ≡ i = omega arith in subst (λ (n : ℕ). CountsFrom n ys) same cy
counts-append i j (x ∷ xs) ys e cx cy = (cx.0, counts-append (i + 1) j xs ys (omega arith) cx.1 cy)

counts-get_or : (i : ℕ) (xs : List ℕ) (k d : ℕ) → CountsFrom i xs → k < length xs → get_or xs k d ≡ i + k
counts-get_or i [] k d c h = absurd (omega arith)
counts-get_or i (x ∷ xs) zero d c h = let e = c.0 in omega arith
counts-get_or i (x ∷ xs) (suc k) d c h = let e = counts-get_or (i + 1) xs k d c.1 (omega arith) in omega arith

counts-targets : (i : ℕ) (es : List EquationValue) → AllFrom StandsAt i es → CountsFrom i (targets es)
counts-targets i [] at = tt
counts-targets i (e ∷ es) at = (at.0.on, counts-targets (i + 1) es at.1)

module _ (c : CircuitValue) (num : IsNumbered c) where
  counts-driven : CountsFrom 0 (driven_wires c)
  counts-driven = (refl, counts-append 1 (length c.inputs + 1) (input_wires c.inputs) (targets c.equations) (let e = length-input_wires c.inputs in omega arith) num.inputs (counts-targets (length c.inputs + 1) c.equations num.gates))

  length-driven : length (driven_wires c) ≡ suc (length c.inputs + length c.equations)
  length-driven =
      let a = length-append (input_wires c.inputs) (targets c.equations) in
      let i = length-input_wires c.inputs in
      let t = length-targets c.equations in
      omega arith

under-append : (b : ℕ) (xs ys : List ℕ) → AllUnder b xs → AllUnder b ys → AllUnder b (xs ++ ys)
under-append b [] ys ux uy = uy
under-append b (x ∷ xs) ys ux uy = (ux.0, under-append b xs ys ux.1 uy)

under-get_or : (b : ℕ) (xs : List ℕ) (k d : ℕ) → AllUnder b xs → k < length xs → get_or xs k d < b
under-get_or b [] k d u h = absurd (omega arith)
under-get_or b (x ∷ xs) zero d u h = u.0
under-get_or b (x ∷ xs) (suc k) d u h = under-get_or b xs k d u.1 (omega arith)

under-more : (a b : ℕ) (xs : List ℕ) → a ≤ b → AllUnder a xs → AllUnder b xs
under-more a b [] le u = tt
under-more a b (x ∷ xs) le u = (let h = u.0 in omega arith, under-more a b xs le u.1)

under-operands : (b i : ℕ) (es : List EquationValue) → AllFrom StandsAt i es → i + length es ≤ b → AllUnder b (flat_map operand_wires es)
under-operands b i [] at h = tt
under-operands b i (e ∷ es) at h = under-append b (operand_wires e) (flat_map operand_wires es) (under-more i b (operand_wires e) (omega arith) at.0.below) (under-operands b (i + 1) es at.1 (omega arith))

gates-all : (i : ℕ) (es : List EquationValue) → AllFrom StandsAt i es → IsTrue (list_all is_gate_equation es)
gates-all i [] at = refl
gates-all i (e ∷ es) at = ap (λ b. b && list_all is_gate_equation es) at.0.gate ∙ gates-all (i + 1) es at.1

module _ (c : CircuitValue) (num : IsNumbered c) where
  once-numbered : ¬ (IsTwice c)
  once-numbered (i, j, below, within, same) =
      let all = counts-driven c num in
      let a = counts-get_or 0 (driven_wires c) i 0 all (omega arith) in
      let b = counts-get_or 0 (driven_wires c) j 0 all within in
      omega arith

  under-used : AllUnder (suc (length c.inputs + length c.equations)) (used_wires c)
  under-used = under-append _ (output_wires c.outputs) (flat_map operand_wires c.equations) num.outputs (under-operands (suc (length c.inputs + length c.equations)) (length c.inputs + 1) c.equations num.gates (omega arith))

  driven-numbered : ¬ (IsUndriven c)
  driven-numbered (w, (k, within, is), undriven) =
      let low = under-get_or (suc (length c.inputs + length c.equations)) (used_wires c) k w under-used within in
      let len = length-driven c num in
      let at : get_or (driven_wires c) w w ≡ w = (let e = counts-get_or 0 (driven_wires c) w w (counts-driven c num) (omega arith) in omega arith) in
      undriven (w, omega arith, at)

  reads_lower : (w v : ℕ) → Reads c.equations w v → v < w
  reads_lower w v (e, (k, within, is), target, (j, under, at)) =
      let gate = AllFrom-get_or StandsAt (length c.inputs + 1) c.equations k e num.gates within in
      let here = subst (StandsAt ((length c.inputs + 1) + k)) is gate in
      let t = here.on in
      let low = under-get_or ((length c.inputs + 1) + k) (operand_wires e) j v here.below under in
      omega arith

  walks_fall : (w : ℕ) (vs : List ℕ) → IsWalk c.equations w vs → end_of w vs ≤ w
  walks_fall w [] walk = omega arith
  walks_fall w (v ∷ vs) walk =
      let low = reads_lower w v walk.0 in
      let rest = walks_fall v vs walk.1 in
      omega arith

  acyclic-numbered : ¬ (IsCyclic c)
  acyclic-numbered (w, (v, vs, walk, back)) =
      let low = reads_lower w v walk.0 in
      let rest = walks_fall v vs walk.1 in
      omega arith

  arities-numbered : HasArities c.equations
  arities-numbered k d within = (AllFrom-get_or StandsAt (length c.inputs + 1) c.equations k d num.gates within).arity

  target-numbered : (k : ℕ) → k < length c.equations → get_or (targets c.equations) k 0 ≡ (length c.inputs + 1) + k
  target-numbered k low = counts-get_or (length c.inputs + 1) (targets c.equations) k 0 (counts-targets (length c.inputs + 1) c.equations num.gates) (let n = length-targets c.equations in omega arith)

  plain-numbered : IsPlain c.equations
  plain-numbered = record {
    gates = gates-all (length c.inputs + 1) c.equations num.gates;
    ordered = λ i k i_low k_low reads.
        let low = reads_lower (get_or (targets c.equations) i 0) (get_or (targets c.equations) k 0) (reads_from c.equations i (get_or (targets c.equations) k 0) i_low reads) in
        let a = target-numbered i i_low in
        let b = target-numbered k k_low in
        omega arith;
  }

-- ---- generated circuits

pub drawn-plain : (kind : Kind) (inputs gates outputs : ℕ) (s : Stream) → IsPlain (drawn kind inputs gates outputs s).equations
drawn-plain kind inputs gates outputs s = plain-numbered (drawn kind inputs gates outputs s) (numbered-drawn kind inputs gates outputs s)

pub drawn-arities : (kind : Kind) (inputs gates outputs : ℕ) (s : Stream) → HasArities (drawn kind inputs gates outputs s).equations
drawn-arities kind inputs gates outputs s = arities-numbered (drawn kind inputs gates outputs s) (numbered-drawn kind inputs gates outputs s)

pub drawn-driven : (kind : Kind) (inputs gates outputs : ℕ) (s : Stream) → ¬ (IsUndriven (drawn kind inputs gates outputs s))
drawn-driven kind inputs gates outputs s = driven-numbered (drawn kind inputs gates outputs s) (numbered-drawn kind inputs gates outputs s)

pub drawn-once : (kind : Kind) (inputs gates outputs : ℕ) (s : Stream) → ¬ (IsTwice (drawn kind inputs gates outputs s))
drawn-once kind inputs gates outputs s = once-numbered (drawn kind inputs gates outputs s) (numbered-drawn kind inputs gates outputs s)

pub drawn-acyclic : (kind : Kind) (inputs gates outputs : ℕ) (s : Stream) → ¬ (IsCyclic (drawn kind inputs gates outputs s))
drawn-acyclic kind inputs gates outputs s = acyclic-numbered (drawn kind inputs gates outputs s) (numbered-drawn kind inputs gates outputs s)
