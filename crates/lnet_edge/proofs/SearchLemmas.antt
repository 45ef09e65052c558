-- A depth-first search along operands: each step keeps what the search keeps.
use Rattle.std.proofs.Common.{◌≡◌, ◌≢◌, ℕ, zero, suc, ◌+◌, ◌-◌, ◌<◌, ◌≤◌, ◌⊎◌, Bool, false, Result, Ok, Err, IfOk, List, [], ◌∷◌, ◌++◌, length, map, get_or, set, take, Option, Some, None, refl, sym, ap, subst, ◌∙◌, inl, inr, arith, Contains, length-append}
use Rattle.std.proofs.lemmas.Bool.Decides.{eqb_tells}
use Rattle.std.proofs.lemmas.List.{get_or_append_left, get_or-set_same, get_or-set_other, get_or-take, length-take-le, length-set, length-map}
use Rattle.std.proofs.lemmas.List.Sums.{sum_by-set, get_or-le-sum_by}
use Rattle.std.proofs.lemmas.Grind.{get_or_default_zero}
use Rattle.std.proofs.Math.Seq.{get_or-append_seam}
use Rattle.lnet_edge.specs.declared.cycles.Progress.{Progress}
use Rattle.lnet_edge.specs.declared.cycles.Progress.TheVariants.{New, Open, Done}
use Rattle.lnet_edge.specs.declared.cycles.Step.TheVariants as step
use Rattle.lnet_edge.specs.declared.circuit.Equation.{Equation}
use Rattle.lnet_edge.specs.declared.circuit.WireRef.{WireRef}
use Rattle.lnet_edge.specs.Circuits.{EquationValue}
use Rattle.lnet_edge.specs.CircuitLists.{equation_view, equation_views}
use Rattle.lnet_edge.specs.Wires.{operand_wires, Reads, IsWalk, end_of, ComesBack}
use Rattle.lnet_edge.specs.Drivers.{Drivers, driver_at, place_in, target_at, KnowsEquations}
use Rattle.lnet_edge.proofs.WireLemmas.{length-views}
use Rattle.lnet_edge.specs.Searches.{operands_at, progress_at, IsSettled, ReadsPlace, step_at, IsStep, IsSearch, KeepsDone, KeepsMet, steps_left, work, operand_count, Advances}

-- ---- equations at their places

-- what a step of a walk reads, by the place of its equation
pub reads_at : (es : List EquationValue) (w v : ℕ) → Reads es w v → (k : ℕ) × (k < length es) × (target_at es k ≡ w) × Contains (operands_at es k) v
reads_at es w v (e, (k, low, is), target, reads) = (k, low, here es k e low is ∙ target, subst (λ (os : List ℕ). Contains os v) (sym (there es k e low is)) reads)
  where
    here : (fs : List EquationValue) (k : ℕ) (e : EquationValue) → k < length fs → get_or fs k e ≡ e → target_at fs k ≡ e.target
    here [] k e h is = absurd (omega arith)
    here (f ∷ fs) zero e h is = ap (λ (z : EquationValue). z.target) is
    here (f ∷ fs) (suc k) e h is = here fs k e (omega arith) is

    there : (fs : List EquationValue) (k : ℕ) (e : EquationValue) → k < length fs → get_or fs k e ≡ e → operands_at fs k ≡ operand_wires e
    there [] k e h is = absurd (omega arith)
    there (f ∷ fs) zero e h is = ap operand_wires is
    there (f ∷ fs) (suc k) e h is = there fs k e (omega arith) is

pub reads_from : (es : List EquationValue) (k v : ℕ) → k < length es → Contains (operands_at es k) v → Reads es (target_at es k) v
reads_from [] k v h c = absurd (omega arith)
reads_from (e ∷ es) zero v h c = (e, (0, omega arith, refl), refl, c)
reads_from (e ∷ es) (suc k) v h c =
    let r = reads_from es k v (omega arith) c in
    (r.0, (suc r.1.0, (let low = r.1.1 in omega arith), r.1.2), r.2, r.3)

-- ---- settled wires

settled_kept : (es : List EquationValue) (old new : List Progress) (v : ℕ) → KeepsDone old new → IsSettled es old v → IsSettled es new v
settled_kept es old new v keeps settled k low is = keeps k (settled k low is)

-- a walk from a settled wire ends at one
settled_walk : (es : List EquationValue) (ps : List Progress) (path : List ℕ) → IsSearch es ps path → (v : ℕ) (vs : List ℕ) → IsSettled es ps v → IsWalk es v vs → IsSettled es ps (end_of v vs)
settled_walk es ps path s v [] settled walk = settled
settled_walk es ps path s v (u ∷ us) settled walk =
    let r = reads_at es v u walk.0 in
    let done = settled r.0 r.1 r.2 in
    let low = r.3.1 in
    let at : get_or (operands_at es r.0) r.3.0 0 ≡ u = sym (get_or_default_zero (operands_at es r.0) r.3.0 u low) ∙ r.3.2 in
    settled_walk es ps path s u us (subst (IsSettled es ps) at (s.closed r.0 r.3.0 r.1 done low)) walk.1

-- ---- the end of the path, and cycles

-- a walk from the wire at a place of the path to that at its end
to_end : (es : List EquationValue) (ps : List Progress) (path : List ℕ) → IsSearch es ps path → (n t : ℕ) → t + n + 1 ≡ length path → (vs : List ℕ) × IsWalk es (target_at es (get_or path t 0)) vs × (end_of (target_at es (get_or path t 0)) vs ≡ target_at es (get_or path (length path - 1) 0))
to_end es ps path s zero t e = let last : t ≡ length path - 1 = omega arith in ([], tt, ap (λ (i : ℕ). target_at es (get_or path i 0)) last)
to_end es ps path s (suc n) t e =
    let rest = to_end es ps path s n (t + 1) (omega arith) in
    (target_at es (get_or path (t + 1) 0) ∷ rest.0, (reads_from es (get_or path t 0) (target_at es (get_or path (t + 1) 0)) (s.below t (omega arith)) (s.chain t (omega arith)), rest.1), rest.2)

pub cycle_found : (es : List EquationValue) (ps : List Progress) (path : List ℕ) (top : ℕ) → IsSearch es ps path → 0 < length path → top ≡ get_or path (length path - 1) 0 → IsStep es ps top step.Cycle → (w : ℕ) × ComesBack es w
cycle_found es ps path top s some is (k, low, (left, is_open), reads) =
    let p = s.placed k left low is_open in
    let first : target_at es (get_or path p.0 0) ≡ target_at es k = ap (target_at es) p.2 in
    let within = p.1 in
    let walk = to_end es ps path s (length path - 1 - p.0) p.0 (omega arith) in
    let top_low : top < length es = subst (λ (i : ℕ). i < length es) (sym is) (s.below (length path - 1) (omega arith)) in
    let walk2 = subst (λ (v : ℕ). IsWalk es v walk.0) first walk.1 in
    let ends : end_of (target_at es k) walk.0 ≡ target_at es top = ap (λ (v : ℕ). end_of v walk.0) (sym first) ∙ walk.2 ∙ ap (target_at es) (sym is) in
    (target_at es top, (target_at es k, walk.0, (reads_from es top (target_at es k) top_low reads, walk2), ends))

-- ---- a change of one equation's progress

abbrev SetCases : List Progress → ℕ → Progress → ℕ → Type 0
SetCases ps i v k = ((k ≡ i) × (progress_at (set ps i v) k ≡ v)) ⊎ ((k ≢ i) × (progress_at (set ps i v) k ≡ progress_at ps k))

set_cases : (ps : List Progress) (i : ℕ) (v : Progress) → i < length ps → (k : ℕ) → SetCases ps i v k
set_cases ps i v low k = elim (eqb_tells k i) as (λ _. SetCases ps i v k) [
  | inl p ↦ inl (p.1, ap (progress_at (set ps i v)) p.1 ∙ get_or-set_same ps i v New low)
  | inr p ↦ inr (p.1, get_or-set_other ps i k v New p.1)
]

done_kept : (ps : List Progress) (i : ℕ) (v : Progress) → i < length ps → progress_at ps i ≢ Done → KeepsDone ps (set ps i v)
done_kept ps i v low ne k done = elim (set_cases ps i v low k) as (λ _. progress_at (set ps i v) k ≡ Done) [
  | inl p ↦ absurd (ne (sym (ap (progress_at ps) p.0) ∙ done))
  | inr p ↦ p.1 ∙ done
]

met_kept : (ps : List Progress) (i : ℕ) (v : Progress) → i < length ps → v ≢ New → KeepsMet ps (set ps i v)
met_kept ps i v low ne k met = elim (set_cases ps i v low k) as (λ _. progress_at (set ps i v) k ≢ New) [
  | inl p ↦ (λ e. ne (sym p.1 ∙ e))
  | inr p ↦ (λ e. met (sym p.1 ∙ e))
]

less_work : (most : ℕ) (ps : List Progress) (i : ℕ) (v : Progress) → i < length ps → steps_left most v < steps_left most (progress_at ps i) → work most (set ps i v) < work most ps
less_work most ps i v low less = let e = sum_by-set (steps_left most) ps i v New low in omega arith

open_not_done : (p : Progress) (left : ℕ) → p ≡ Open left → p ≢ Done
open_not_done p left e f = cc

same_left : (a b : ℕ) → Open a ≡ Open b → a ≡ b
same_left a b e = cc

-- ---- passing an operand

pass_search : (es : List EquationValue) (ps : List Progress) (path : List ℕ) (top left : ℕ) → IsSearch es ps path → top < length es → progress_at ps top ≡ Open (left + 1) → IsSettled es ps (get_or (operands_at es top) left 0) → IsSearch es (set ps top (Open left)) path
pass_search es ps path top left s top_low at settled = record {
  sized = length-set ps top (Open left) ∙ s.sized;
  within = λ k l k_low e. elim (set_cases ps top (Open left) low k) as (λ _. l ≤ length (operands_at es k)) [
    | inl p ↦
        let same : left ≡ l = same_left left l (sym p.1 ∙ e) in
        let w = s.within k (left + 1) k_low (ap (progress_at ps) p.0 ∙ at) in
        omega arith
    | inr p ↦ s.within k l k_low (sym p.1 ∙ e)
  ];
  followed = λ k l j k_low e from to. elim (set_cases ps top (Open left) low k) as (λ _. IsSettled es new (get_or (operands_at es k) j 0)) [
    | inl p ↦
        let same : left ≡ l = same_left left l (sym p.1 ∙ e) in
        settled_kept es ps new _ keeps
        (elim (eqb_tells j left) as (λ _. IsSettled es ps (get_or (operands_at es k) j 0)) [
          | inl q ↦ subst (λ (i : ℕ). IsSettled es ps (get_or (operands_at es i) j 0)) (sym p.0) (subst (λ (i : ℕ). IsSettled es ps (get_or (operands_at es top) i 0)) (sym q.1) settled)
          | inr q ↦ s.followed k (left + 1) j k_low (ap (progress_at ps) p.0 ∙ at) (let ne = q.1 in omega arith) to
        ])
    | inr p ↦ settled_kept es ps new _ keeps (s.followed k l j k_low (sym p.1 ∙ e) from to)
  ];
  closed = λ k j k_low e to. elim (set_cases ps top (Open left) low k) as (λ _. IsSettled es new (get_or (operands_at es k) j 0)) [
    | inl p ↦ absurd (open_not_done (progress_at new k) left p.1 e)
    | inr p ↦ settled_kept es ps new _ keeps (s.closed k j k_low (sym p.1 ∙ e) to)
  ];
  free = λ k k_low e. elim (set_cases ps top (Open left) low k) as (λ _. ¬ (ComesBack es (target_at es k))) [
    | inl p ↦ absurd (open_not_done (progress_at new k) left p.1 e)
    | inr p ↦ s.free k k_low (sym p.1 ∙ e)
  ];
  placed = λ k l k_low e. elim (set_cases ps top (Open left) low k) as (λ _. (t : ℕ) × (t < length path) × (get_or path t 0 ≡ k)) [
    | inl p ↦ s.placed k (left + 1) k_low (ap (progress_at ps) p.0 ∙ at)
    | inr p ↦ s.placed k l k_low (sym p.1 ∙ e)
  ];
  below = s.below;
  opened = λ t h. elim (set_cases ps top (Open left) low (get_or path t 0)) as (λ _. (l : ℕ) × (progress_at new (get_or path t 0) ≡ Open l)) [
    | inl p ↦ (left, p.1)
    | inr p ↦ (let o = s.opened t h in (o.0, p.1 ∙ o.1))
  ];
  apart = s.apart;
  chain = s.chain;
}
  where
    new : List Progress
    new = set ps top (Open left)

    low : top < length ps
    low = let e = s.sized in omega arith

    keeps : KeepsDone ps (set ps top (Open left))
    keeps = done_kept ps top (Open left) low (open_not_done (progress_at ps top) (left + 1) at)

-- ---- leaving the last equation

own_targets : (m : Drivers) (es : List EquationValue) → KnowsEquations m false es (length es) → (i j : ℕ) → i < length es → j < length es → target_at es i ≡ target_at es j → i ≡ j
own_targets m es knows i j i_low j_low same =
    let e : Some (Some i) ≡ Some (Some j) = sym (knows.each refl i i_low) ∙ ap (driver_at m) same ∙ knows.each refl j j_low in
    cc

free_top : (m : Drivers) (es : List EquationValue) (ps : List Progress) (path : List ℕ) (top : ℕ) → KnowsEquations m false es (length es) → IsSearch es ps path → top < length es → progress_at ps top ≡ Open 0 → ¬ (ComesBack es (target_at es top))
free_top m es ps path top knows s top_low at (v, vs, walk, back) =
    let r = reads_at es (target_at es top) v walk.0 in
    let same : r.0 ≡ top = own_targets m es knows r.0 top r.1 top_low r.2 in
    let reads = subst (λ (k : ℕ). Contains (operands_at es k) v) same r.3 in
    let here : get_or (operands_at es top) reads.0 0 ≡ v = sym (get_or_default_zero (operands_at es top) reads.0 v reads.1) ∙ reads.2 in
    let settled = subst (IsSettled es ps) here (s.followed top 0 reads.0 top_low at (omega arith) reads.1) in
    let ends = settled_walk es ps path s v vs settled walk.1 in
    open_not_done (progress_at ps top) 0 at (ends top top_low (sym back))

leave_search : (m : Drivers) (es : List EquationValue) (ps : List Progress) (path : List ℕ) (top : ℕ) → KnowsEquations m false es (length es) → IsSearch es ps path → 0 < length path → top ≡ get_or path (length path - 1) 0 → top < length es → progress_at ps top ≡ Open 0 → IsSearch es (set ps top Done) (take (length path - 1) path)
leave_search m es ps path top knows s some last top_low at = record {
  sized = length-set ps top Done ∙ s.sized;
  within = λ k l k_low e. elim (set_cases ps top Done low k) as (λ _. l ≤ length (operands_at es k)) [
    | inl p ↦ absurd (open_not_done Done l (sym p.1 ∙ e) refl)
    | inr p ↦ s.within k l k_low (sym p.1 ∙ e)
  ];
  followed = λ k l j k_low e from to. elim (set_cases ps top Done low k) as (λ _. IsSettled es new (get_or (operands_at es k) j 0)) [
    | inl p ↦ absurd (open_not_done Done l (sym p.1 ∙ e) refl)
    | inr p ↦ settled_kept es ps new _ keeps (s.followed k l j k_low (sym p.1 ∙ e) from to)
  ];
  closed = λ k j k_low e to. elim (set_cases ps top Done low k) as (λ _. IsSettled es new (get_or (operands_at es k) j 0)) [
    | inl p ↦ settled_kept es ps new _ keeps (s.followed k 0 j k_low (ap (progress_at ps) p.0 ∙ at) (omega arith) to)
    | inr p ↦ settled_kept es ps new _ keeps (s.closed k j k_low (sym p.1 ∙ e) to)
  ];
  free = λ k k_low e. elim (set_cases ps top Done low k) as (λ _. ¬ (ComesBack es (target_at es k))) [
    | inl p ↦ subst (λ (i : ℕ). ¬ (ComesBack es (target_at es i))) (sym p.0) (free_top m es ps path top knows s top_low at)
    | inr p ↦ s.free k k_low (sym p.1 ∙ e)
  ];
  placed = λ k l k_low e. elim (set_cases ps top Done low k) as (λ _. (t : ℕ) × (t < length shorter) × (get_or shorter t 0 ≡ k)) [
    | inl p ↦ absurd (open_not_done Done l (sym p.1 ∙ e) refl)
    | inr p ↦
        let o = s.placed k l k_low (sym p.1 ∙ e) in
        let within = o.1 in
        let ne : o.0 ≢ length path - 1 = (λ q. p.0 (sym o.2 ∙ ap (λ (t : ℕ). get_or path t 0) q ∙ sym last)) in
        let before : o.0 < length path - 1 = omega arith in
        (o.0, omega (arith, size), shown o.0 before ∙ o.2)
  ];
  below = λ t h. subst (λ (k : ℕ). k < length es) (sym (shown t (omega (arith, size)))) (s.below t (omega (arith, size)));
  opened = λ t h.
      let o = s.opened t (omega (arith, size)) in
      let ne : get_or path t 0 ≢ top = (λ q. s.apart t (length path - 1) (omega (arith, size)) (omega (arith, size)) (q ∙ last)) in
      (o.0, ap (progress_at new) (shown t (omega (arith, size))) ∙ get_or-set_other ps top (get_or path t 0) Done New ne ∙ o.1);
  apart = λ a b before h q. s.apart a b before (omega (arith, size)) (sym (shown a (omega (arith, size))) ∙ q ∙ shown b (omega (arith, size)));
  chain = λ t h. subst (λ (k : ℕ). ReadsPlace es k (get_or shorter (t + 1) 0)) (sym (shown t (omega (arith, size)))) (subst (ReadsPlace es (get_or path t 0)) (sym (shown (t + 1) (omega (arith, size)))) (s.chain t (omega (arith, size))));
}
  where
    new : List Progress
    new = set ps top Done

    shorter : List ℕ
    shorter = take (length path - 1) path

    size : length (take (length path - 1) path) ≡ length path - 1
    size = length-take-le (length path - 1) path (omega arith)

    shown : (t : ℕ) → t < length path - 1 → get_or (take (length path - 1) path) t 0 ≡ get_or path t 0
    shown t h = get_or-take (length path - 1) path t 0 h

    low : top < length ps
    low = let e = s.sized in omega arith

    keeps : KeepsDone ps (set ps top Done)
    keeps = done_kept ps top Done low (open_not_done (progress_at ps top) 0 at)

-- ---- entering an equation

new_not_done : (p : Progress) → p ≡ New → p ≢ Done
new_not_done p e f = cc

new_not_open : (p : Progress) (left : ℕ) → p ≡ New → p ≢ Open left
new_not_open p left e f = cc

pub enter_search : (es : List EquationValue) (ps : List Progress) (path : List ℕ) (k n : ℕ) → IsSearch es ps path → k < length es → progress_at ps k ≡ New → n ≡ length (operands_at es k) → ((t : ℕ) → t + 1 ≡ length path → ReadsPlace es (get_or path t 0) k) → IsSearch es (set ps k (Open n)) (path ++ k ∷ [])
enter_search es ps path k n s k_low at count reads = record {
  sized = length-set ps k (Open n) ∙ s.sized;
  within = λ q l q_low e. elim (set_cases ps k (Open n) low q) as (λ _. l ≤ length (operands_at es q)) [
    | inl p ↦
        let same : n ≡ l = same_left n l (sym p.1 ∙ e) in
        subst (λ (i : ℕ). l ≤ length (operands_at es i)) (sym p.0) (omega arith)
    | inr p ↦ s.within q l q_low (sym p.1 ∙ e)
  ];
  followed = λ q l j q_low e from to. elim (set_cases ps k (Open n) low q) as (λ _. IsSettled es new (get_or (operands_at es q) j 0)) [
    | inl p ↦
        let same : n ≡ l = same_left n l (sym p.1 ∙ e) in
        let under = subst (λ (i : ℕ). j < length (operands_at es i)) p.0 to in
        absurd (omega arith)
    | inr p ↦ settled_kept es ps new _ keeps (s.followed q l j q_low (sym p.1 ∙ e) from to)
  ];
  closed = λ q j q_low e to. elim (set_cases ps k (Open n) low q) as (λ _. IsSettled es new (get_or (operands_at es q) j 0)) [
    | inl p ↦ absurd (open_not_done (progress_at new q) n p.1 e)
    | inr p ↦ settled_kept es ps new _ keeps (s.closed q j q_low (sym p.1 ∙ e) to)
  ];
  free = λ q q_low e. elim (set_cases ps k (Open n) low q) as (λ _. ¬ (ComesBack es (target_at es q))) [
    | inl p ↦ absurd (open_not_done (progress_at new q) n p.1 e)
    | inr p ↦ s.free q q_low (sym p.1 ∙ e)
  ];
  placed = λ q l q_low e. elim (set_cases ps k (Open n) low q) as (λ _. (t : ℕ) × (t < length longer) × (get_or longer t 0 ≡ q)) [
    | inl p ↦ (length path, omega (arith, size), get_or-append_seam path k [] 0 ∙ sym p.0)
    | inr p ↦ (let o = s.placed q l q_low (sym p.1 ∙ e) in let h = o.1 in (o.0, omega (arith, size), shown o.0 h ∙ o.2))
  ];
  below = λ t h. elim (eqb_tells t (length path)) as (λ _. get_or longer t 0 < length es) [
    | inl p ↦ subst (λ (i : ℕ). i < length es) (sym (at_end t p.1)) k_low
    | inr p ↦ subst (λ (i : ℕ). i < length es) (sym (shown t (inside t h p.1))) (s.below t (inside t h p.1))
  ];
  opened = λ t h. elim (eqb_tells t (length path)) as (λ _. (l : ℕ) × (progress_at new (get_or longer t 0) ≡ Open l)) [
    | inl p ↦ (n, ap (progress_at new) (at_end t p.1) ∙ get_or-set_same ps k (Open n) New low)
    | inr p ↦
        let o = s.opened t (inside t h p.1) in
        let ne : get_or path t 0 ≢ k = (λ e. new_not_open (progress_at ps k) o.0 at (sym (ap (progress_at ps) e) ∙ o.1)) in
        (o.0, ap (progress_at new) (shown t (inside t h p.1)) ∙ get_or-set_other ps k (get_or path t 0) (Open n) New ne ∙ o.1)
  ];
  apart = λ a b before h q. elim (eqb_tells b (length path)) [
    | inl p ↦
        let a_in : a < length path = (let e = p.1 in omega arith) in
        let o = s.opened a a_in in
        let same : get_or path a 0 ≡ k = sym (shown a a_in) ∙ q ∙ at_end b p.1 in
        new_not_open (progress_at ps k) o.0 at (sym (ap (progress_at ps) same) ∙ o.1)
    | inr p ↦ s.apart a b before (inside b h p.1) (sym (shown a (let i = inside b h p.1 in omega arith)) ∙ q ∙ shown b (inside b h p.1))
  ];
  chain = λ t h. elim (eqb_tells (t + 1) (length path)) as (λ _. ReadsPlace es (get_or longer t 0) (get_or longer (t + 1) 0)) [
    | inl p ↦
        let t_in : t < length path = (let e = p.1 in omega arith) in
        subst (λ (i : ℕ). ReadsPlace es i (get_or longer (t + 1) 0)) (sym (shown t t_in)) (subst (ReadsPlace es (get_or path t 0)) (sym (at_end (t + 1) p.1)) (reads t p.1))
    | inr p ↦
        let next_in : t + 1 < length path = inside (t + 1) h p.1 in
        subst (λ (i : ℕ). ReadsPlace es i (get_or longer (t + 1) 0)) (sym (shown t (omega arith))) (subst (ReadsPlace es (get_or path t 0)) (sym (shown (t + 1) next_in)) (s.chain t next_in))
  ];
}
  where
    new : List Progress
    new = set ps k (Open n)

    longer : List ℕ
    longer = path ++ k ∷ []

    size : length (path ++ k ∷ []) ≡ length path + 1
    size = length-append path (k ∷ [])

    shown : (t : ℕ) → t < length path → get_or (path ++ k ∷ []) t 0 ≡ get_or path t 0
    shown t h = get_or_append_left path (k ∷ []) 0 t h

    at_end : (t : ℕ) → t ≡ length path → get_or (path ++ k ∷ []) t 0 ≡ k
    at_end t e = ap (λ (i : ℕ). get_or (path ++ k ∷ []) i 0) e ∙ get_or-append_seam path k [] 0

    inside : (t : ℕ) → t < length (path ++ k ∷ []) → t ≢ length path → t < length path
    inside t h ne = omega (arith, size)

    low : k < length ps
    low = let e = s.sized in omega arith

    keeps : KeepsDone ps (set ps k (Open n))
    keeps = done_kept ps k (Open n) low (new_not_done (progress_at ps k) at)

-- ---- the steps

few_operands : (es : List EquationValue) (k : ℕ) → k < length es → length (operands_at es k) ≤ operand_count es
few_operands es k low = get_or-le-sum_by length (map operand_wires es) k [] (let e = length-map es operand_wires in omega arith)

top_below : (es : List EquationValue) (ps : List Progress) (path : List ℕ) (top : ℕ) → IsSearch es ps path → 0 < length path → top ≡ get_or path (length path - 1) 0 → top < length es
top_below es ps path top s some is = subst (λ (i : ℕ). i < length es) (sym is) (s.below (length path - 1) (omega arith))

pub passes : (es : List EquationValue) (ps : List Progress) (path : List ℕ) (top left : ℕ) → IsSearch es ps path → 0 < length path → top ≡ get_or path (length path - 1) 0 → IsStep es ps top (step.Pass left) → Advances es ps (set ps top (Open left)) path
passes es ps path top left s some is (at, settled) =
    let top_low = top_below es ps path top s some is in
    let low : top < length ps = (let e = s.sized in omega arith) in
    record {
      search = pass_search es ps path top left s top_low at settled;
      done = done_kept ps top (Open left) low (open_not_done (progress_at ps top) (left + 1) at);
      met = met_kept ps top (Open left) low (λ e. cc);
      less = less_work (operand_count es) ps top (Open left) low (subst (λ (p : Progress). left + 1 < steps_left (operand_count es) p) (sym at) (omega arith));
    }

pub leaves : (m : Drivers) (es : List EquationValue) (ps : List Progress) (path shorter : List ℕ) (top : ℕ) → KnowsEquations m false es (length es) → IsSearch es ps path → 0 < length path → top ≡ get_or path (length path - 1) 0 → IsStep es ps top step.Leave → shorter ≡ take (length path - 1) path → Advances es ps (set ps top Done) shorter
leaves m es ps path shorter top knows s some is at rest =
    let top_low = top_below es ps path top s some is in
    let low : top < length ps = (let e = s.sized in omega arith) in
    record {
      search = subst (IsSearch es (set ps top Done)) (sym rest) (leave_search m es ps path top knows s some is top_low at);
      done = done_kept ps top Done low (open_not_done (progress_at ps top) 0 at);
      met = met_kept ps top Done low (λ e. cc);
      less = less_work (operand_count es) ps top Done low (subst (λ (p : Progress). 0 < steps_left (operand_count es) p) (sym at) (omega arith));
    }

pub enters : (es : List EquationValue) (ps : List Progress) (path longer : List ℕ) (top k n : ℕ) → IsSearch es ps path → 0 < length path → top ≡ get_or path (length path - 1) 0 → IsStep es ps top (step.Enter k) → n ≡ length (operands_at es k) → longer ≡ path ++ k ∷ [] → Advances es ps (set ps k (Open n)) longer
enters es ps path longer top k n s some is (k_low, at, reads) count pushed =
    let low : k < length ps = (let e = s.sized in omega arith) in
    let few = few_operands es k k_low in
    record {
      search = subst (IsSearch es (set ps k (Open n))) (sym pushed) (enter_search es ps path k n s k_low at count
          (λ t e. let last : top ≡ get_or path t 0 = (let i : length path - 1 ≡ t = omega arith in is ∙ ap (λ (j : ℕ). get_or path j 0) i) in subst (λ (i : ℕ). ReadsPlace es i k) last reads));
      done = done_kept ps k (Open n) low (new_not_done (progress_at ps k) at);
      met = met_kept ps k (Open n) low (λ e. cc);
      less = less_work (operand_count es) ps k (Open n) low (subst (λ (p : Progress). n + 1 < steps_left (operand_count es) p) (sym at) (omega arith));
    }

pub open_top : (es : List EquationValue) (ps : List Progress) (path : List ℕ) (top : ℕ) → IsSearch es ps path → 0 < length path → top ≡ get_or path (length path - 1) 0 → (left : ℕ) × (progress_at ps top ≡ Open left) × (left ≤ length (operands_at es top))
open_top es ps path top s some is =
    let o = s.opened (length path - 1) (omega arith) in
    let at : progress_at ps top ≡ Open o.0 = ap (progress_at ps) is ∙ o.1 in
    (o.0, at, s.within top o.0 (top_below es ps path top s some is) at)

pub operands_at-view : (es : List Equation) (k : ℕ) (e : Equation) → k < length es → e ≡ get_or es k e → operands_at (equation_views es) k ≡ operand_wires (equation_view e)
operands_at-view [] k e h is = absurd (omega arith)
operands_at-view (f ∷ es) zero e h is = ap (λ (z : Equation). operand_wires (equation_view z)) (sym is)
operands_at-view (f ∷ es) (suc k) e h is = operands_at-view es k e (omega arith) is

length-operands : (rs : List WireRef) → length (map (λ (r : WireRef). r.wire.0) rs) ≡ length rs
length-operands [] = refl
length-operands (r ∷ rs) = ap suc (length-operands rs)

pub operand_count_at : (es : List Equation) (k : ℕ) (e : Equation) (n : ℕ) → k < length es → e ≡ get_or es k e → n ≡ length e.operands.items → n ≡ length (operands_at (equation_views es) k)
operand_count_at es k e n h is count = count ∙ sym (length-operands e.operands.items) ∙ sym (ap length (operands_at-view es k e h is))

pub last_of : (path : List ℕ) (n top : ℕ) → 0 < length path → n ≡ length path → top ≡ get_or path (n - 1) top → top ≡ get_or path (length path - 1) 0
last_of path n top some e is = is ∙ ap (λ (i : ℕ). get_or path (i - 1) top) e ∙ get_or_default_zero path (length path - 1) top (omega arith)

pub shorter_by_one : (path rest : List ℕ) (n : ℕ) → n ≡ length path → rest ≡ take (n - 1) path → rest ≡ take (length path - 1) path
shorter_by_one path rest n e is = is ∙ ap (λ (i : ℕ). take (i - 1) path) e

-- ---- what a step finds

abbrev OpenAt : List EquationValue → List Progress → ℕ → Type 0
OpenAt es ps top = (left : ℕ) × (progress_at ps top ≡ Open left) × (left ≤ length (operands_at es top))

pub step_fits : (es : List Equation) (ps : List Progress) (top : ℕ) (e : Equation) (left : ℕ) → top < length es → OpenAt (equation_views es) ps top → ((l : ℕ) → progress_at ps top ≡ Open l → left ≡ l) → left ≢ 0 → e ≡ get_or es top e → left - 1 < length e.operands.items
step_fits es ps top e left low (l, at, within) is ne found =
    let same = is l at in
    let count = operand_count_at es top e (length e.operands.items) low found refl in
    omega arith

pub place_some : (o : Option (Option ℕ)) (k : ℕ) → place_in o ≡ Some k → o ≡ Some (Some k)
place_some None k e = cc
place_some (Some o) k e = ap Some e

-- the wire that is looked up is the last of the operands that are left
last_left : (es : List Equation) (top left wire : ℕ) (e : Equation) → top < length es → e ≡ get_or es top e → wire ≡ get_or (operand_wires (equation_view e)) (left - 1) 0 → wire ≡ get_or (operands_at (equation_views es) top) (left - 1) 0
last_left es top left wire e low found is = is ∙ sym (ap (λ (os : List ℕ). get_or os (left - 1) 0) (operands_at-view es top e low found))

open_before : (ps : List Progress) (top left l : ℕ) → progress_at ps top ≡ Open l → left ≡ l → left ≢ 0 → progress_at ps top ≡ Open (left - 1 + 1)
open_before ps top left l at same ne = let e : l ≡ left - 1 + 1 = omega arith in at ∙ ap Open e

pub step_past : (m : Drivers) (es : List Equation) (ps : List Progress) (top : ℕ) (e : Equation) (left wire : ℕ) (found : Option ℕ) → KnowsEquations m false (equation_views es) (length es) → top < length es → OpenAt (equation_views es) ps top → ((l : ℕ) → progress_at ps top ≡ Open l → left ≡ l) → left ≢ 0 → e ≡ get_or es top e → wire ≡ get_or (operand_wires (equation_view e)) (left - 1) 0 → found ≡ place_in (driver_at m wire) → found ≡ None → IsStep (equation_views es) ps top (step.Pass (left - 1))
step_past m es ps top e left wire found knows low (l, at, within) is ne there wired looked none = (
  open_before ps top left l at (is l at) ne,
  λ k k_low target.
      let k_low2 : k < length es = (let n = length-views es in omega arith) in
      let here : target_at (equation_views es) k ≡ wire = target ∙ sym (last_left es top left wire e low there wired) in
      let some : None ≡ Some k = sym none ∙ looked ∙ ap place_in (ap (driver_at m) (sym here) ∙ knows.each refl k k_low2) in
      cc,
)

pub step_found : (m : Drivers) (es : List Equation) (ps : List Progress) (top : ℕ) (e : Equation) (left wire next : ℕ) (found : Option ℕ) (state : Progress) → KnowsEquations m false (equation_views es) (length es) → top < length es → OpenAt (equation_views es) ps top → ((l : ℕ) → progress_at ps top ≡ Open l → left ≡ l) → left ≢ 0 → e ≡ get_or es top e → wire ≡ get_or (operand_wires (equation_view e)) (left - 1) 0 → found ≡ place_in (driver_at m wire) → found ≡ Some next → state ≡ progress_at ps next → IsStep (equation_views es) ps top (step_at state next (left - 1))
step_found m es ps top e left wire next found state knows low (l, at, within) is ne there wired looked some state_is = by_state state state_is
  where
    n : length (equation_views es) ≡ length es
    n = length-views es

    driver : (next < length es) × (target_at (equation_views es) next ≡ wire)
    driver = knows.only wire next (place_some (driver_at m wire) next (sym looked ∙ some))

    low2 : next < length (equation_views es)
    low2 = let d = driver.0 in omega (arith, n)

    target : target_at (equation_views es) next ≡ get_or (operands_at (equation_views es) top) (left - 1) 0
    target = driver.1 ∙ last_left es top left wire e low there wired

    in_range : left - 1 < length (operands_at (equation_views es) top)
    in_range = let same = is l at in omega arith

    reads : ReadsPlace (equation_views es) top next
    reads = (left - 1, in_range, get_or_default_zero (operands_at (equation_views es) top) (left - 1) (target_at (equation_views es) next) in_range ∙ sym target)

    by_state : (p : Progress) → p ≡ progress_at ps next → IsStep (equation_views es) ps top (step_at p next (left - 1))
    by_state New p = (low2, sym p, reads)
    by_state (Open o) p = (next, low2, (o, sym p), reads)
    by_state Done p = (
      open_before ps top left l at (is l at) ne,
      λ k k_low there2.
          let same : k ≡ next = own_targets m (equation_views es) (subst (KnowsEquations m false (equation_views es)) (sym n) knows) k next k_low low2 (there2 ∙ sym target) in
          ap (progress_at ps) same ∙ sym p,
    )

-- ---- whole searches

-- with an empty path, what was met is done
done_of : (es : List EquationValue) (ps : List Progress) (path : List ℕ) (k : ℕ) → IsSearch es ps path → path ≡ [] → k < length es → progress_at ps k ≢ New → progress_at ps k ≡ Done
done_of es ps path k s empty low met = by_state (progress_at ps k) refl
  where
    by_state : (p : Progress) → progress_at ps k ≡ p → progress_at ps k ≡ Done
    by_state New e = absurd (met e)
    by_state (Open l) e = let p = s.placed k l low e in let within = subst (λ (ts : List ℕ). p.0 < length ts) empty p.1 in absurd (omega arith)
    by_state Done e = e

pub root_done : {E : Type 0} (es : List EquationValue) (r : Result Bool E) (old new : List Progress) (path : List ℕ) (root n : ℕ) → IfOk r (λ b. b ≡ false → IsSearch es new path) → IfOk r (λ b. b ≡ false → path ≡ []) → IfOk r (λ b. b ≡ false → KeepsMet (set old root (Open n)) new) → root < length es → root < length old → IfOk r (λ b. b ≡ false → progress_at new root ≡ Done)
root_done es (Ok b) old new path root n search empty met low in_old = λ e. done_of es new path root (search e) (empty e) low (met e root (λ f. let g = sym (get_or-set_same old root (Open n) New in_old) ∙ f in cc))
root_done es (Err e) old new path root n search empty met low in_old = tt

pub root_search : (es : List Equation) (ps : List Progress) (path longer : List ℕ) (root n : ℕ) (e : Equation) → IsSearch (equation_views es) ps path → path ≡ [] → root < length es → progress_at ps root ≡ New → e ≡ get_or es root e → n ≡ length (get_or es root e).operands.items → longer ≡ path ++ root ∷ [] → IsSearch (equation_views es) (set ps root (Open n)) longer
root_search es ps path longer root n e s empty low at found count pushed =
    let views = length-views es in
    let size : n ≡ length e.operands.items = count ∙ sym (ap (λ (z : Equation). length z.operands.items) found) in
    subst (IsSearch (equation_views es) (set ps root (Open n))) (sym pushed)
    (enter_search (equation_views es) ps path root n s (omega arith) at (operand_count_at es root e n low found size) (λ t h. let none = ap (λ (ts : List ℕ). length ts) empty in absurd (omega arith)))

-- where all equations are done no wire depends on itself
pub acyclic_of : (es : List EquationValue) (ps : List Progress) (path : List ℕ) (n : ℕ) → IsSearch es ps path → length es ≤ n → ((k : ℕ) → k < n → progress_at ps k ≡ Done) → (w : ℕ) → ComesBack es w → ⊥
acyclic_of es ps path n s all done w back =
    let r = reads_at es w back.0 back.2.0 in
    let low = r.1 in
    s.free r.0 low (done r.0 (omega arith)) (subst (ComesBack es) (sym r.2) back)
