-- Equations that use what is driven before them have no cycles.
use Rattle.std.proofs.Common.{◌≡◌, ◌≢◌, ℕ, suc, ◌<◌, ◌≤◌, Bool, true, cond, eqb, List, [], ◌∷◌, refl, sym, ap, subst, ◌∙◌, inl, inr, arith}
use Rattle.std.specs.Prelude.{◌⊎◌, flat_map}
use Rattle.std.specs.List.{AllByRecursion}
use Rattle.std.proofs.lemmas.Bool.{ne_eqb}
use Rattle.std.proofs.lemmas.Bool.Decides.{eqb_tells}
use Rattle.std.proofs.lemmas.List.Elements.{All-from_recursion, All-contains}
use Rattle.lnet_edge.specs.Circuits.{EquationValue}
use Rattle.lnet_edge.specs.Wires.{targets, operand_wires, Reads, IsWalk, end_of, ComesBack}
use Rattle.lnet_benchmeans.proofs.Differing.{Differ, all_weak, all_both}

-- each equation uses wire 0, and wires that were driven before it
abbrev pub IsAhead : (ℕ → Type 0) → List EquationValue → Type 0
IsAhead K [] = Unit {0}
IsAhead K (e ∷ es) = AllByRecursion (λ v. (v ≡ 0) ⊎ K v) (operand_wires e) × IsAhead (λ v. (v ≡ e.target) ⊎ K v) es

-- what holds of all wires that are driven holds of those that are used
pub all_used : (P K : ℕ → Type 0) (es : List EquationValue) → P 0 → ((v : ℕ) → K v → P v) → AllByRecursion P (targets es) → IsAhead K es → AllByRecursion P (flat_map operand_wires es)
all_used P K [] none each all ahead = tt
all_used P K (e ∷ es) none each all ahead =
    all_both P (operand_wires e) (flat_map operand_wires es) (all_weak (λ v. (v ≡ 0) ⊎ K v) P (operand_wires e) used ahead.0) (all_used P (λ v. (v ≡ e.target) ⊎ K v) es none later all.1 ahead.1)
  where
    used : (v : ℕ) → ((v ≡ 0) ⊎ K v) → P v
    used v (inl is) = subst P (sym is) none
    used v (inr k) = each v k

    later : (v : ℕ) → ((v ≡ e.target) ⊎ K v) → P v
    later v (inl is) = subst P (sym is) all.0
    later v (inr k) = each v k

-- ---- ranks

-- one more than the place of a wire, counted from i, and 0 for others
abbrev rank_in : ℕ → List ℕ → ℕ → ℕ
rank_in i [] w = 0
rank_in i (t ∷ ts) w = cond (eqb t w) (suc i) (rank_in (suc i) ts w)

eqb_same : (p q : ℕ) → p ≡ q → eqb p q ≡ true
eqb_same p q e = elim (eqb_tells p q) as (λ _. eqb p q ≡ true) [ inl h ↦ h.0 | inr h ↦ absurd (h.1 e) ]

rank_none : (i w : ℕ) (ts : List ℕ) → AllByRecursion (λ t. w ≢ t) ts → rank_in i ts w ≡ 0
rank_none i w [] apart = refl
rank_none i w (t ∷ ts) apart = ap (λ (b : Bool). cond b (suc i) (rank_in (suc i) ts w)) (ne_eqb t w (λ e. apart.0 (sym e))) ∙ rank_none (suc i) w ts apart.1

-- the ranks count up
abbrev RanksFrom : (ℕ → ℕ) → ℕ → List ℕ → Type 0
RanksFrom R i [] = Unit {0}
RanksFrom R i (t ∷ ts) = (R t ≡ suc i) × RanksFrom R (suc i) ts

same_ranks : (R S : ℕ → ℕ) (i : ℕ) (ts : List ℕ) → AllByRecursion (λ t. R t ≡ S t) ts → RanksFrom S i ts → RanksFrom R i ts
same_ranks R S i [] same ranks = tt
same_ranks R S i (t ∷ ts) same ranks = (same.0 ∙ ranks.0, same_ranks R S (suc i) ts same.1 ranks.1)

ranks_rise : (i : ℕ) (ts : List ℕ) → Differ ts → RanksFrom (rank_in i ts) i ts
ranks_rise i [] differ = tt
ranks_rise i (t ∷ ts) differ = (
  ap (λ (b : Bool). cond b (suc i) (rank_in (suc i) ts t)) (eqb_same t t refl),
  same_ranks (rank_in i (t ∷ ts)) (rank_in (suc i) ts) (suc i) ts
      (all_weak (λ y. t ≢ y) (λ y. rank_in i (t ∷ ts) y ≡ rank_in (suc i) ts y) ts (λ y apart. ap (λ (b : Bool). cond b (suc i) (rank_in (suc i) ts y)) (ne_eqb t y apart)) differ.0)
      (ranks_rise (suc i) ts differ.1),
)

-- ---- operands have lesser ranks

abbrev AllFall : (ℕ → ℕ) → List EquationValue → Type 0
AllFall R es = AllByRecursion (λ (e : EquationValue). AllByRecursion (λ v. R v < R e.target) (operand_wires e)) es

all_fall : (R : ℕ → ℕ) (K : ℕ → Type 0) (i : ℕ) (es : List EquationValue) → R 0 ≤ i → ((v : ℕ) → K v → R v ≤ i) → RanksFrom R i (targets es) → IsAhead K es → AllFall R es
all_fall R K i [] none each ranks ahead = tt
all_fall R K i (e ∷ es) none each ranks ahead = (
  all_weak (λ v. (v ≡ 0) ⊎ K v) (λ v. R v < R e.target) (operand_wires e) used ahead.0,
  all_fall R (λ v. (v ≡ e.target) ⊎ K v) (suc i) es (omega arith) later ranks.1 ahead.1,
)
  where
    at : R e.target ≡ suc i
    at = ranks.0

    used : (v : ℕ) → ((v ≡ 0) ⊎ K v) → R v < R e.target
    used v (inl is) = let same = ap R is in let head = at in omega arith
    used v (inr k) = let low = each v k in let head = at in omega arith

    later : (v : ℕ) → ((v ≡ e.target) ⊎ K v) → R v ≤ suc i
    later v (inl is) = let same = ap R is in let head = at in omega arith
    later v (inr k) = let low = each v k in omega arith

reads_fall : (R : ℕ → ℕ) (es : List EquationValue) → AllFall R es → (w v : ℕ) → Reads es w v → R v < R w
reads_fall R es fall w v (e, holds, is, used) =
    let one = All-contains (λ (f : EquationValue). AllByRecursion (λ u. R u < R f.target) (operand_wires f)) es e (All-from_recursion (λ (f : EquationValue). AllByRecursion (λ u. R u < R f.target) (operand_wires f)) es fall) holds in
    let low = All-contains (λ u. R u < R e.target) (operand_wires e) v (All-from_recursion (λ u. R u < R e.target) (operand_wires e) one) used in
    subst (λ (t : ℕ). R v < R t) is low

walks_fall : (R : ℕ → ℕ) (es : List EquationValue) → AllFall R es → (w : ℕ) (vs : List ℕ) → IsWalk es w vs → R (end_of w vs) ≤ R w
walks_fall R es fall w [] walk = omega arith
walks_fall R es fall w (v ∷ vs) walk =
    let low = reads_fall R es fall w v walk.0 in
    let rest = walks_fall R es fall v vs walk.1 in
    omega arith

pub never_back : (K : ℕ → Type 0) (es : List EquationValue) → Differ (targets es) → AllByRecursion (λ t. 0 ≢ t) (targets es) → ((v : ℕ) → K v → AllByRecursion (λ t. v ≢ t) (targets es)) → IsAhead K es → (w : ℕ) → ¬ (ComesBack es w)
never_back K es differ zeros others ahead w (v, vs, walk, back) =
    let R = rank_in 0 (targets es) in
    let fall = all_fall R K 0 es (let none = rank_none 0 0 (targets es) zeros in omega arith) (λ u k. let none = rank_none 0 u (targets es) (others u k) in omega arith) (ranks_rise 0 (targets es) differ) ahead in
    let low = reads_fall R es fall w v walk.0 in
    let rest = walks_fall R es fall v vs walk.1 in
    let same = ap R back in
    omega arith
