-- Each equation of a plain circuit uses what is driven before it.
use Rattle.std.proofs.Common.{◌≡◌, ◌≢◌, ℕ, zero, suc, ◌<◌, List, [], ◌∷◌, ◌++◌, length, get_or, refl, sym, ap, subst, inl, inr, ⊎_elim, arith}
use Rattle.std.specs.Prelude.{◌⊎◌, Contains, flat_map}
use Rattle.std.specs.List.{AllByRecursion}
use Rattle.std.proofs.lemmas.Bool.Decides.{eqb_tells}
use Rattle.std.proofs.lemmas.List.Elements.{recursion_from_All, All-contains_itself}
use Rattle.lnet_edge.specs.Circuits.{CircuitValue, EquationValue}
use Rattle.lnet_edge.specs.Plain.{IsPlain}
use Rattle.lnet_edge.specs.Searches.{ReadsPlace}
use Rattle.lnet_edge.specs.Wires.{input_wires, output_wires, targets, operand_wires, driven_wires, used_wires, IsCircuit}
use Rattle.lnet_benchmeans.proofs.Differing.{all_weak, all_with, all_first, all_second}
use Rattle.lnet_benchmeans.proofs.Falling.{IsAhead}

-- the wire is one of these
abbrev pub IsOneOf : List ℕ → ℕ → Type 0
IsOneOf [] w = ⊥
IsOneOf (x ∷ xs) w = (w ≡ x) ⊎ IsOneOf xs w

-- what is known, or is one of a list, where the first of the list is known from then on
pub one-sooner : (K : ℕ → Type 0) (x : ℕ) (xs : List ℕ) (w : ℕ) → (K w ⊎ IsOneOf (x ∷ xs) w) → (((w ≡ x) ⊎ K w) ⊎ IsOneOf xs w)
one-sooner K x xs w (inl known) = inl (inr known)
one-sooner K x xs w (inr (inl is)) = inl (inl is)
one-sooner K x xs w (inr (inr one)) = inr one

pub one-none : (K : ℕ → Type 0) (w : ℕ) → (K w ⊎ IsOneOf [] w) → K w
one-none K w (inl known) = known
one-none K w (inr one) = absurd one

one_tells : (xs : List ℕ) (w : ℕ) → IsOneOf xs w ⊎ (Contains xs w → ⊥)
one_tells [] w = inr (λ h. let low = h.1 in absurd (omega arith))
one_tells (x ∷ xs) w =
    elim (eqb_tells x w) as (λ _. IsOneOf (x ∷ xs) w ⊎ (Contains (x ∷ xs) w → ⊥)) [
      | inl p ↦ inl (inl (sym p.1))
      | inr p ↦ ⊎_elim (λ h. inl (inr h)) (λ none. inr (λ h. by_place h.0 h.1 h.2 p.1 none)) (one_tells xs w)
    ]
  where
    by_place : (k : ℕ) → k < length (x ∷ xs) → get_or (x ∷ xs) k w ≡ w → x ≢ w → (Contains xs w → ⊥) → ⊥
    by_place zero low is apart none = apart is
    by_place (suc k) low is apart none = none (k, omega arith, is)

one_place : (xs : List ℕ) (w : ℕ) → IsOneOf xs w → (k : ℕ) × (k < length xs) × (get_or xs k 0 ≡ w)
one_place [] w one = absurd one
one_place (x ∷ xs) w (inl is) = (0, omega arith, sym is)
one_place (x ∷ xs) w (inr one) = let r = one_place xs w one in (suc r.0, (let low = r.1 in omega arith), r.2)

pub one_of_itself : (xs : List ℕ) → AllByRecursion (IsOneOf xs) xs
one_of_itself [] = tt
one_of_itself (x ∷ xs) = (inl refl, all_weak (IsOneOf xs) (IsOneOf (x ∷ xs)) xs (λ w one. inr one) (one_of_itself xs))

pub one_both : (xs ys : List ℕ) (w : ℕ) → IsOneOf (xs ++ ys) w → IsOneOf xs w ⊎ IsOneOf ys w
one_both [] ys w one = inr one
one_both (x ∷ xs) ys w (inl is) = inl (inl is)
one_both (x ∷ xs) ys w (inr one) = ⊎_elim (λ h. inl (inr h)) (λ h. inr h) (one_both xs ys w one)

-- a wire that is used is driven
pub used_one : (c : CircuitValue) → IsCircuit c → AllByRecursion (IsOneOf (driven_wires c)) (used_wires c)
used_one c is = all_weak (Contains (used_wires c)) (IsOneOf (driven_wires c)) (used_wires c) (λ w used. ⊎_elim (λ h. h) (λ none. absurd (is.driven (w, used, none))) (one_tells (driven_wires c) w)) (recursion_from_All (Contains (used_wires c)) (used_wires c) (All-contains_itself (used_wires c)))

-- ---- order

-- wire 0, one that may be used, or one that these equations drive
abbrev IsMet : (ℕ → Type 0) → List ℕ → ℕ → Type 0
IsMet K ts w = (w ≡ 0) ⊎ (K w ⊎ IsOneOf ts w)

abbrev LooksBack : List EquationValue → Type 0
LooksBack es = (i k : ℕ) → i < length es → k < length es → ReadsPlace es i k → k < i

length_targets : (es : List EquationValue) → length (targets es) ≡ length es
length_targets [] = refl
length_targets (e ∷ es) = ap suc (length_targets es)

-- the first equation uses none that these drive
first_met : (K : ℕ → Type 0) (e : EquationValue) (es : List EquationValue) → LooksBack (e ∷ es) → (w : ℕ) → Contains (operand_wires e) w → IsMet K (targets (e ∷ es)) w → (w ≡ 0) ⊎ K w
first_met K e es back w used (inl is) = inl is
first_met K e es back w used (inr (inl k)) = inr k
first_met K e es back w used (inr (inr one)) =
    let r = one_place (targets (e ∷ es)) w one in
    let n = length_targets (e ∷ es) in
    let low = r.1 in
    let before = back 0 r.0 (omega arith) (omega arith) (subst (Contains (operand_wires e)) (sym r.2) used) in
    absurd (omega arith)

later_met : (K : ℕ → Type 0) (e : EquationValue) (es : List EquationValue) (w : ℕ) → IsMet K (targets (e ∷ es)) w → IsMet (λ v. (v ≡ e.target) ⊎ K v) (targets es) w
later_met K e es w (inl is) = inl is
later_met K e es w (inr (inl k)) = inr (inl (inr k))
later_met K e es w (inr (inr (inl is))) = inr (inl (inl is))
later_met K e es w (inr (inr (inr one))) = inr (inr one)

looks_later : (e : EquationValue) (es : List EquationValue) → LooksBack (e ∷ es) → LooksBack es
looks_later e es back i k i_low k_low reads = let h = back (suc i) (suc k) (omega arith) (omega arith) reads in omega arith

ahead_by : (K : ℕ → Type 0) (es : List EquationValue) → LooksBack es → AllByRecursion (IsMet K (targets es)) (flat_map operand_wires es) → IsAhead K es
ahead_by K [] back met = tt
ahead_by K (e ∷ es) back met =
    let own = recursion_from_All (Contains (operand_wires e)) (operand_wires e) (All-contains_itself (operand_wires e)) in
    let first = all_first (IsMet K (targets (e ∷ es))) (operand_wires e) (flat_map operand_wires es) met in
    let rest = all_second (IsMet K (targets (e ∷ es))) (operand_wires e) (flat_map operand_wires es) met in (
      all_weak (λ w. Contains (operand_wires e) w × IsMet K (targets (e ∷ es)) w) (λ w. (w ≡ 0) ⊎ K w) (operand_wires e) (λ w h. first_met K e es back w h.0 h.1) (all_with (Contains (operand_wires e)) (IsMet K (targets (e ∷ es))) (operand_wires e) own first),
      ahead_by (λ v. (v ≡ e.target) ⊎ K v) es (looks_later e es back) (all_weak (IsMet K (targets (e ∷ es))) (IsMet (λ v. (v ≡ e.target) ⊎ K v) (targets es)) (flat_map operand_wires es) (later_met K e es) rest),
    )

met_by : (is ts : List ℕ) (w : ℕ) → IsOneOf (0 ∷ (is ++ ts)) w → IsMet (IsOneOf is) ts w
met_by is ts w (inl zero_is) = inl zero_is
met_by is ts w (inr one) = inr (one_both is ts w one)

-- equations use wire 0, inputs, and what is driven before them
pub plain_ahead : (c : CircuitValue) → IsCircuit c → IsPlain c.equations → IsAhead (IsOneOf (input_wires c.inputs)) c.equations
plain_ahead c is plain =
    ahead_by (IsOneOf (input_wires c.inputs)) c.equations plain.ordered
    (all_weak (IsOneOf (driven_wires c)) (IsMet (IsOneOf (input_wires c.inputs)) (targets c.equations)) (flat_map operand_wires c.equations) (met_by (input_wires c.inputs) (targets c.equations))
    (all_second (IsOneOf (driven_wires c)) (output_wires c.outputs) (flat_map operand_wires c.equations) (used_one c is)))
