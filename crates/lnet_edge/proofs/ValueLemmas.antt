-- The values of a circuit's wires: each is its driver's, and a greater depth changes nothing.
use Rattle.std.proofs.Common.{length-append, ◌≡◌, ◌≢◌, ℕ, zero, suc, ◌+◌, ◌<◌, ◌⊎◌, ◌||◌, Bool, true, false, List, [], ◌∷◌, ◌++◌, length, map, get_or, Option, Some, None, if◌then◌else◌, eqb, nat_eq, refl, sym, ap, subst, ◌∙◌, inl, inr, arith, Contains}
use Rattle.std.specs.Cmp.{nat_eq_equiv}
use Rattle.std.specs.List.{AllByRecursion, IsDistinct, list_any}
use Rattle.std.proofs.lemmas.Bool.{ne_eqb}
use Rattle.std.proofs.lemmas.Bool.Decides.{eqb_tells}
use Rattle.std.proofs.lemmas.List.{get_or-append-add, get_or_append_left}
use Rattle.std.proofs.lemmas.Map.Made.{length-le_from_is_member}
use Rattle.std.proofs.lemmas.Map.Views.{list_any-from_Contains}
use Rattle.std.proofs.lemmas.Grind.{get_or_default_zero}
use Rattle.lnet_edge.proofs.WireLemmas.{length-input_wires, length-targets}
use Rattle.lnet_edge.specs.declared.circuit.WireRef.{WireRef}
use Rattle.lnet_edge.specs.declared.circuit.InputPort.{InputPort}
use Rattle.lnet_edge.specs.Circuits.{CircuitValue, EquationValue}
use Rattle.lnet_edge.specs.Wires.{input_wires, targets, operand_wires, driven_wires, Repeats, IsTwice, Reads, IsWalk, end_of, ComesBack, IsCyclic, IsCircuit}
use Rattle.lnet_edge.specs.Values.{input_place, equation_at, complemented, under_rule, driven, input_or, wire_value, value_of, ref_value}

-- ---- what drives a wire

single : (xs : List ℕ) (i j : ℕ) → ¬ (Repeats xs) → i < length xs → j < length xs → get_or xs i 0 ≡ get_or xs j 0 → i ≡ j
single xs i j once i_low j_low same = elim (eqb_tells i j) as (λ _. i ≡ j) [
  | inl p ↦ p.1
  | inr p ↦ absurd (by_order (order p.1))
]
  where
    order : i ≢ j → (i < j) ⊎ (j < i)
    order ne = grind arith

    by_order : (i < j) ⊎ (j < i) → ⊥
    by_order (inl h) = once (i, j, h, j_low, same)
    by_order (inr h) = once (j, i, h, i_low, sym same)

-- the place of an input, and of an equation, among all that drive
input_stands : (c : CircuitValue) (k : ℕ) → k < length c.inputs → get_or (driven_wires c) (suc k) 0 ≡ get_or (input_wires c.inputs) k 0
input_stands c k h = get_or_append_left (input_wires c.inputs) (targets c.equations) 0 k (let e = length-input_wires c.inputs in omega arith)

target_stands : (c : CircuitValue) (k : ℕ) → get_or (driven_wires c) (suc (length c.inputs + k)) 0 ≡ get_or (targets c.equations) k 0
target_stands c k =
    ap (λ (n : ℕ). get_or (input_wires c.inputs ++ targets c.equations) (n + k) 0) (sym (length-input_wires c.inputs))
    ∙ get_or-append-add (input_wires c.inputs) (targets c.equations) k 0

driven_count : (c : CircuitValue) → length (driven_wires c) ≡ suc (length c.inputs + length c.equations)
driven_count c =
    let a = length-append (input_wires c.inputs) (targets c.equations) in
    let i = length-input_wires c.inputs in
    let t = length-targets c.equations in
    omega arith

own_target : (c : CircuitValue) → ¬ (IsTwice c) → (i j : ℕ) → i < length c.equations → j < length c.equations → get_or (targets c.equations) i 0 ≡ get_or (targets c.equations) j 0 → i ≡ j
own_target c once i j i_low j_low same =
    let n = driven_count c in
    let e = single (driven_wires c) (suc (length c.inputs + i)) (suc (length c.inputs + j)) once (omega arith) (omega arith) (target_stands c i ∙ same ∙ sym (target_stands c j)) in
    omega arith

no_input : (c : CircuitValue) → ¬ (IsTwice c) → (i k : ℕ) → i < length c.inputs → k < length c.equations → get_or (input_wires c.inputs) i 0 ≢ get_or (targets c.equations) k 0
no_input c once i k i_low k_low same =
    let n = driven_count c in
    let e = single (driven_wires c) (suc i) (suc (length c.inputs + k)) once (omega arith) (omega arith) (input_stands c i i_low ∙ same ∙ sym (target_stands c k)) in
    omega arith

input_place-none : (i w : ℕ) (ps : List InputPort) → ((k : ℕ) → k < length ps → get_or (input_wires ps) k 0 ≢ w) → input_place i w ps ≡ None
input_place-none i w [] apart = refl
input_place-none i w (p ∷ ps) apart =
    ap (λ b. if b then Some i else input_place (i + 1) w ps) (ne_eqb p.wire.0 w (apart 0 (omega arith)))
    ∙ input_place-none (i + 1) w ps (λ k h. apart (suc k) (omega arith))

eqb_same : (p q : ℕ) → p ≡ q → eqb p q ≡ true
eqb_same p q e = elim (eqb_tells p q) as (λ _. eqb p q ≡ true) [ inl h ↦ h.0 | inr h ↦ absurd (h.1 e) ]

equation_at-some : (w k : ℕ) (e : EquationValue) (es : List EquationValue) → k < length es → get_or es k e ≡ e → e.target ≡ w → ((j : ℕ) → j < k → get_or (targets es) j 0 ≢ w) → equation_at w es ≡ Some e
equation_at-some w k e [] h is at apart = absurd (omega arith)
equation_at-some w zero e (f ∷ es) h is at apart =
    ap (λ b. if b then Some f else equation_at w es) (eqb_same f.target w (ap (λ (z : EquationValue). z.target) is ∙ at)) ∙ ap Some is
equation_at-some w (suc k) e (f ∷ es) h is at apart =
    ap (λ b. if b then Some f else equation_at w es) (ne_eqb f.target w (apart 0 (omega arith)))
    ∙ equation_at-some w k e es (omega arith) is at (λ j low. apart (suc j) (omega arith))

target_of : (es : List EquationValue) (k : ℕ) (e : EquationValue) → k < length es → get_or es k e ≡ e → get_or (targets es) k 0 ≡ e.target
target_of [] k e h is = absurd (omega arith)
target_of (f ∷ es) zero e h is = ap (λ (z : EquationValue). z.target) is
target_of (f ∷ es) (suc k) e h is = target_of es k e (omega arith) is

-- an equation is the one that drives its target
own_equation : (c : CircuitValue) → ¬ (IsTwice c) → (e : EquationValue) → Contains c.equations e → equation_at e.target c.equations ≡ Some e
own_equation c once e (k, low, is) =
    equation_at-some e.target k e c.equations low is refl
    (λ j under same. let q = own_target c once j k (omega arith) low (same ∙ sym (target_of c.equations k e low is)) in omega arith)

own_driver : (c : CircuitValue) → ¬ (IsTwice c) → (e : EquationValue) → Contains c.equations e → input_place 0 e.target c.inputs ≡ None
own_driver c once e (k, low, is) =
    input_place-none 0 e.target c.inputs (λ i under same. no_input c once i k under low (same ∙ sym (target_of c.equations k e low is)))

-- what is found drives the wire
pub found_reads : (w : ℕ) (es : List EquationValue) (e : EquationValue) → equation_at w es ≡ Some e → Contains es e × (e.target ≡ w)
found_reads w [] e found = absurd cc
found_reads w (f ∷ es) e found = elim (eqb_tells f.target w) as (λ _. Contains (f ∷ es) e × (e.target ≡ w)) [
  | inl p ↦
      let same : Some f ≡ Some e = sym (ap (λ b. if b then Some f else equation_at w es) p.0) ∙ found in
      let is : f ≡ e = cc in
      ((0, omega arith, is), sym (ap (λ (z : EquationValue). z.target) is) ∙ p.1)
  | inr p ↦
      let r = found_reads w es e (sym (ap (λ b. if b then Some f else equation_at w es) p.0) ∙ found) in
      ((suc r.0.0, (let h = r.0.1 in omega arith), r.0.2), r.1)
]

-- ---- depth

-- each walk from w has fewer steps than d
abbrev pub IsShort : List EquationValue → ℕ → ℕ → Type 0
IsShort es d w = (vs : List ℕ) → IsWalk es w vs → length vs < d

pub short_operand : (es : List EquationValue) (d w v : ℕ) → IsShort es (suc d) w → Reads es w v → IsShort es d v
short_operand es d w v short reads vs walk = let h = short (v ∷ vs) (reads, walk) in omega arith

same_bits : (V W : ℕ → Bool) (rs : List WireRef) → ((v : ℕ) → Contains (map (λ (r : WireRef). r.wire.0) rs) v → V v ≡ W v) → map (λ (r : WireRef). complemented r.complement (V r.wire.0)) rs ≡ map (λ (r : WireRef). complemented r.complement (W r.wire.0)) rs
same_bits V W [] same = refl
same_bits V W (r ∷ rs) same = λ i. complemented r.complement (same r.wire.0 (0, omega arith, refl) i) ∷ same_bits V W rs (λ v c. same v (suc c.0, (let h = c.1 in omega arith), c.2)) i

same_driven : (V W : ℕ → Bool) (o : Option EquationValue) → ((e : EquationValue) → o ≡ Some e → (v : ℕ) → Contains (operand_wires e) v → V v ≡ W v) → driven (λ r. complemented r.complement (V r.wire.0)) o ≡ driven (λ r. complemented r.complement (W r.wire.0)) o
same_driven V W None same = refl
same_driven V W (Some e) same = ap (under_rule e.rule) (same_bits V W e.operands (same e refl))

deeper : (c : CircuitValue) (a : ℕ → Bool) (d w : ℕ) → IsShort c.equations d w → wire_value (suc d) c a w ≡ wire_value d c a w
unfolding wire_value
deeper c a zero w short = absurd (let h = short [] tt in omega arith)
deeper c a (suc d) w short =
    ap (input_or (input_place 0 w c.inputs) a)
    (same_driven (wire_value (suc d) c a) (wire_value d c a) (equation_at w c.equations)
    (λ e found v reads. let f = found_reads w c.equations e found in deeper c a d v (short_operand c.equations d w v short (e, f.0, f.1, reads))))

-- ---- walks are short

-- the wires of a walk but the last
leaving : ℕ → List ℕ → List ℕ
leaving w [] = []
leaving w (v ∷ vs) = w ∷ leaving v vs

length-leaving : (w : ℕ) (vs : List ℕ) → length (leaving w vs) ≡ length vs
unfolding leaving
length-leaving w [] = refl
length-leaving w (v ∷ vs) = ap suc (length-leaving v vs)

-- a walk of one or more steps
abbrev Reaches : List EquationValue → ℕ → ℕ → Type 0
Reaches es x v = (u : ℕ) × (us : List ℕ) × IsWalk es x (u ∷ us) × (end_of u us ≡ v)

walk_push : (es : List EquationValue) (x v z : ℕ) (us : List ℕ) → IsWalk es x us → end_of x us ≡ v → Reads es v z → IsWalk es x (us ++ z ∷ []) × (end_of x (us ++ z ∷ []) ≡ z)
walk_push es x v z [] walk ends reads = ((subst (λ (y : ℕ). Reads es y z) (sym ends) reads, tt), refl)
walk_push es x v z (u ∷ us) walk ends reads = let r = walk_push es u v z us walk.1 ends reads in ((walk.0, r.0), r.1)

reach_on : (es : List EquationValue) (x v z : ℕ) → Reaches es x v → Reads es v z → Reaches es x z
reach_on es x v z (u, us, walk, ends) reads = let r = walk_push es x v z (u ∷ us) walk ends reads in (u, us ++ z ∷ [], r.0, r.1)

no_return : (es : List EquationValue) (x : ℕ) → ¬ (ComesBack es x) → (v : ℕ) (vs : List ℕ) → Reaches es x v → IsWalk es v vs → AllByRecursion (λ y. eqb x y ≡ false) (leaving v vs)
unfolding leaving
no_return es x free v [] reached walk = tt
no_return es x free v (z ∷ zs) reached walk =
    let ne : x ≢ v = (λ e. free (reached.0, reached.1, reached.2, reached.3 ∙ sym e)) in
    (ne_eqb x v ne, no_return es x free z zs (reach_on es x v z reached walk.0) walk.1)

distinct_leaving : (es : List EquationValue) → ((x : ℕ) → ¬ (ComesBack es x)) → (w : ℕ) (vs : List ℕ) → IsWalk es w vs → IsDistinct nat_eq (leaving w vs)
unfolding leaving IsDistinct
distinct_leaving es free w [] walk = tt
distinct_leaving es free w (v ∷ vs) walk = (no_return es w (free w) v vs (v, [], (walk.0, tt), refl) walk.1, distinct_leaving es free v vs walk.1)

reads_target : (es : List EquationValue) (w v : ℕ) → Reads es w v → Contains (targets es) w
reads_target es w v (e, (k, low, is), at, reads) =
    let n = length-targets es in
    let here : k < length (targets es) = omega arith in
    (k, here, get_or_default_zero (targets es) k w here ∙ target_of es k e low is ∙ at)

leaving_targets : (es : List EquationValue) (w : ℕ) (vs : List ℕ) → IsWalk es w vs → (q : ℕ) → list_any (nat_eq q) (leaving w vs) ≡ true → list_any (nat_eq q) (targets es) ≡ true
unfolding leaving
leaving_targets es w [] walk q e = absurd cc
leaving_targets es w (v ∷ vs) walk q e = elim (eqb_tells q w) as (λ _. list_any (nat_eq q) (targets es) ≡ true) [
  | inl p ↦ list_any-from_Contains nat_eq_equiv q (targets es) (subst (Contains (targets es)) (sym p.1) (reads_target es w v walk.0))
  | inr p ↦ leaving_targets es v vs walk.1 q (sym (ap (λ b. b || list_any (nat_eq q) (leaving v vs)) p.0) ∙ e)
]

pub short_walks : (c : CircuitValue) → ¬ (IsCyclic c) → (w : ℕ) → IsShort c.equations (suc (length c.equations)) w
short_walks c acyclic w vs walk =
    let free : (x : ℕ) → ¬ (ComesBack c.equations x) = λ x back. acyclic (x, back) in
    let few = length-le_from_is_member nat_eq_equiv (leaving w vs) (targets c.equations) (distinct_leaving c.equations free w vs walk) (leaving_targets c.equations w vs walk) in
    let n = length-leaving w vs in
    let t = length-targets c.equations in
    omega arith

-- ---- the laws

pub value_once : (c : CircuitValue) (a : ℕ → Bool) (w : ℕ) → IsCircuit c → value_of c a w ≡ input_or (input_place 0 w c.inputs) a (driven (ref_value c a) (equation_at w c.equations))
unfolding wire_value
value_once c a w is = sym (deeper c a (suc (length c.equations)) w (short_walks c is.acyclic w))

-- a wire that an equation drives has the value of its rule on the values of its operands
pub value-equation : (c : CircuitValue) (a : ℕ → Bool) (e : EquationValue) → IsCircuit c → Contains c.equations e → value_of c a e.target ≡ under_rule e.rule (map (ref_value c a) e.operands)
value-equation c a e is stands =
    value_once c a e.target is
    ∙ ap (λ p. input_or p a (driven (ref_value c a) (equation_at e.target c.equations))) (own_driver c is.once e stands)
    ∙ ap (driven (ref_value c a)) (own_equation c is.once e stands)

-- a greater depth changes nothing
pub value-deeper : (c : CircuitValue) (a : ℕ → Bool) (d w : ℕ) → IsCircuit c → length c.equations < d → wire_value d c a w ≡ value_of c a w
value-deeper c a zero w is deep = absurd (omega arith)
value-deeper c a (suc d) w is deep = elim (eqb_tells d (length c.equations)) as (λ _. wire_value (suc d) c a w ≡ value_of c a w) [
  | inl p ↦ ap (λ (n : ℕ). wire_value (suc n) c a w) p.1
  | inr p ↦
      let below : length c.equations < d = (let ne = p.1 in omega arith) in
      let short : IsShort c.equations d w = (λ vs walk. let h = short_walks c is.acyclic w vs walk in omega arith) in
      deeper c a d w short ∙ value-deeper c a d w is below
]

input_place-some : (i w k : ℕ) (ps : List InputPort) → k < length ps → get_or (input_wires ps) k 0 ≡ w → ((j : ℕ) → j < k → get_or (input_wires ps) j 0 ≢ w) → input_place i w ps ≡ Some (i + k)
input_place-some i w k [] h at apart = absurd (omega arith)
input_place-some i w zero (p ∷ ps) h at apart =
    let e : i ≡ i + 0 = omega arith in
    ap (λ b. if b then Some i else input_place (i + 1) w ps) (eqb_same p.wire.0 w at) ∙ ap Some e
input_place-some i w (suc k) (p ∷ ps) h at apart =
    let e : (i + 1) + k ≡ i + suc k = omega arith in
    ap (λ b. if b then Some i else input_place (i + 1) w ps) (ne_eqb p.wire.0 w (apart 0 (omega arith)))
    ∙ input_place-some (i + 1) w k ps (omega arith) at (λ j low. apart (suc j) (omega arith))
    ∙ ap Some e

-- the wire of an input has the input's value
pub value-input : (c : CircuitValue) (a : ℕ → Bool) (k : ℕ) → IsCircuit c → k < length c.inputs → value_of c a (get_or (input_wires c.inputs) k 0) ≡ a k
unfolding wire_value
value-input c a k is low =
    let n = driven_count c in
    let w = get_or (input_wires c.inputs) k 0 in
    let e : 0 + k ≡ k = omega arith in
    ap (λ p. input_or p a (driven (λ r. complemented r.complement (wire_value (length c.equations) c a r.wire.0)) (equation_at w c.equations)))
    (input_place-some 0 w k c.inputs low refl (λ j under same. let q = single (driven_wires c) (suc j) (suc k) is.once (omega arith) (omega arith) (input_stands c j (omega arith) ∙ same ∙ sym (input_stands c k low)) in omega arith))
    ∙ ap a e

pub equation_at-none : (w : ℕ) (es : List EquationValue) → ((k : ℕ) → k < length es → get_or (targets es) k 0 ≢ w) → equation_at w es ≡ None
equation_at-none w [] apart = refl
equation_at-none w (e ∷ es) apart =
    ap (λ b. if b then Some e else equation_at w es) (ne_eqb e.target w (apart 0 (omega arith)))
    ∙ equation_at-none w es (λ k h. apart (suc k) (omega arith))

-- wire 0 is false
pub value-constant : (c : CircuitValue) (a : ℕ → Bool) → IsCircuit c → value_of c a 0 ≡ false
unfolding wire_value
value-constant c a is =
    let n = driven_count c in
    ap (λ p. input_or p a (driven (λ r. complemented r.complement (wire_value (length c.equations) c a r.wire.0)) (equation_at 0 c.equations)))
    (input_place-none 0 0 c.inputs (λ k low same. let q = single (driven_wires c) 0 (suc k) is.once (omega arith) (omega arith) (sym (input_stands c k low ∙ same)) in omega arith))
    ∙ ap (driven (λ r. complemented r.complement (wire_value (length c.equations) c a r.wire.0)))
    (equation_at-none 0 c.equations (λ k low same. let q = single (driven_wires c) 0 (suc (length c.inputs + k)) is.once (omega arith) (omega arith) (sym (target_stands c k ∙ same)) in omega arith))
