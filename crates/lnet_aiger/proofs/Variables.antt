-- The variables of a circuit's wires.
use Rattle.std.proofs.Common.{◌≡◌, ◌≢◌, ℕ, zero, suc, ◌+◌, ◌<◌, Bool, true, cond, eqb, List, [], ◌∷◌, ◌++◌, length, get_or, Option, Some, refl, sym, ap, ◌∙◌, inl, inr, ⊎_elim, arith, length-append}
use Rattle.std.specs.Prelude.{unwrap_or, Contains, ◌⊎◌}
use Rattle.std.proofs.lemmas.Bool.{ne_eqb}
use Rattle.std.proofs.lemmas.Bool.Decides.{eqb_tells}
use Rattle.std.proofs.lemmas.List.{get_or-append-add, get_or_append_left}
use Rattle.lnet_edge.specs.Circuits.{CircuitValue}
use Rattle.lnet_edge.specs.Wires.{input_wires, targets, driven_wires, used_wires, IsCircuit}
use Rattle.lnet_edge.proofs.WireLemmas.{length-input_wires, length-targets}
use Rattle.lnet_aiger.specs.Texts.{place_from, variable_of}

-- ---- places

eqb_same : (p q : ℕ) → p ≡ q → eqb p q ≡ true
eqb_same p q e = elim (eqb_tells p q) as (λ _. eqb p q ≡ true) [ inl h ↦ h.0 | inr h ↦ absurd (h.1 e) ]

pub place_from-some : (i w k : ℕ) (xs : List ℕ) → k < length xs → get_or xs k 0 ≡ w → ((j : ℕ) → j < k → get_or xs j 0 ≢ w) → place_from i w xs ≡ Some (i + k)
place_from-some i w k [] h at apart = absurd (omega arith)
place_from-some i w zero (x ∷ xs) h at apart =
    let e : i ≡ i + 0 = omega arith in
    ap (λ (b : Bool). cond b (Some i) (place_from (i + 1) w xs)) (eqb_same x w at) ∙ ap Some e
place_from-some i w (suc k) (x ∷ xs) h at apart =
    let e : (i + 1) + k ≡ i + suc k = omega arith in
    ap (λ (b : Bool). cond b (Some i) (place_from (i + 1) w xs)) (ne_eqb x w (apart 0 (omega arith)))
    ∙ place_from-some (i + 1) w k xs (omega arith) at (λ j low. apart (suc j) (omega arith))
    ∙ ap Some e

-- a wire that stands in a list, or doesn't
abbrev StandsAt : ℕ → List ℕ → Type 0
StandsAt w xs = (k : ℕ) × (k < length xs) × (get_or xs k 0 ≡ w)

stands : (w : ℕ) (xs : List ℕ) → StandsAt w xs ⊎ (Contains xs w → ⊥)
stands w [] = inr (λ h. let low = h.1 in absurd (omega arith))
stands w (x ∷ xs) =
    elim (eqb_tells x w) as (λ _. StandsAt w (x ∷ xs) ⊎ (Contains (x ∷ xs) w → ⊥)) [
      | inl p ↦ inl (0, omega arith, p.1)
      | inr p ↦ ⊎_elim (λ h. inl (suc h.0, (let low = h.1 in omega arith), h.2)) (λ none. inr (λ h. by_place h.0 h.1 h.2 p.1 none)) (stands w xs)
    ]
  where
    by_place : (k : ℕ) → k < length (x ∷ xs) → get_or (x ∷ xs) k w ≡ w → x ≢ w → (Contains xs w → ⊥) → ⊥
    by_place zero low is apart none = apart is
    by_place (suc k) low is apart none = none (k, omega arith, is)

-- ---- the wires that a circuit drives

pub driven_count : (c : CircuitValue) → length (driven_wires c) ≡ suc (length c.inputs + length c.equations)
driven_count c =
    let a = length-append (input_wires c.inputs) (targets c.equations) in
    let i = length-input_wires c.inputs in
    let t = length-targets c.equations in
    omega arith

pub input_stands : (c : CircuitValue) (k : ℕ) → k < length c.inputs → get_or (driven_wires c) (suc k) 0 ≡ get_or (input_wires c.inputs) k 0
input_stands c k h = get_or_append_left (input_wires c.inputs) (targets c.equations) 0 k (let e = length-input_wires c.inputs in omega arith)

pub target_stands : (c : CircuitValue) (k : ℕ) → get_or (driven_wires c) (suc (length c.inputs + k)) 0 ≡ get_or (targets c.equations) k 0
target_stands c k =
    ap (λ (n : ℕ). get_or (input_wires c.inputs ++ targets c.equations) (n + k) 0) (sym (length-input_wires c.inputs))
    ∙ get_or-append-add (input_wires c.inputs) (targets c.equations) k 0

-- the variable of the wire at a place
pub variable_at : (c : CircuitValue) → IsCircuit c → (k : ℕ) → k < length (driven_wires c) → variable_of c (get_or (driven_wires c) k 0) ≡ k
variable_at c is k low =
    let e : 0 + k ≡ k = omega arith in
    ap (λ (o : Option ℕ). unwrap_or o 0) (place_from-some 0 (get_or (driven_wires c) k 0) k (driven_wires c) low refl (λ j under same. is.once (j, k, under, low, same)) ∙ ap Some e)

-- a wire that is used is driven
pub used_stands : (c : CircuitValue) → IsCircuit c → (w : ℕ) → Contains (used_wires c) w → StandsAt w (driven_wires c)
used_stands c is w used = ⊎_elim (λ h. h) (λ none. absurd (is.driven (w, used, none))) (stands w (driven_wires c))

-- its variable is its place
pub used_variable : (c : CircuitValue) → IsCircuit c → (w : ℕ) → (h : StandsAt w (driven_wires c)) → variable_of c w ≡ h.0
used_variable c is w h = ap (variable_of c) (sym h.2) ∙ variable_at c is h.0 h.1

pub target_variable : (c : CircuitValue) → IsCircuit c → (j : ℕ) → j < length c.equations → variable_of c (get_or (targets c.equations) j 0) ≡ (length c.inputs + 1) + j
target_variable c is j low =
    let n = driven_count c in
    let e : suc (length c.inputs + j) ≡ (length c.inputs + 1) + j = omega arith in
    ap (variable_of c) (sym (target_stands c j)) ∙ variable_at c is (suc (length c.inputs + j)) (omega arith) ∙ e

pub input_variable : (c : CircuitValue) → IsCircuit c → (k : ℕ) → k < length c.inputs → variable_of c (get_or (input_wires c.inputs) k 0) ≡ 1 + k
input_variable c is k low =
    let n = driven_count c in
    let e : suc k ≡ 1 + k = omega arith in
    ap (variable_of c) (sym (input_stands c k low)) ∙ variable_at c is (suc k) (omega arith) ∙ e
