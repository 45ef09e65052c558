-- What a map of drivers says after another wire.
use Rattle.std.proofs.Common.{◌≡◌, ◌≢◌, ℕ, zero, suc, ◌+◌, ◌<◌, ◌⊎◌, ◌||◌, Bool, true, false, cond, List, [], ◌∷◌, ◌++◌, length, get_or, take, Option, Some, None, is_some, nat_eq, refl, sym, ap, subst, ◌∙◌, inl, inr, arith, Contains, Decides, length-append, append_assoc}
use Rattle.std.specs.HashMap.{Updates}
use Rattle.std.proofs.lemmas.Bool.Decides.{eqb_tells}
use Rattle.std.proofs.lemmas.List.{take_more, get_or_append_left}
use Rattle.std.proofs.lemmas.List.Elements.{Contains-append_left, Contains-push, Contains-push_cases}
use Rattle.std.proofs.lemmas.Grind.{get_or_default_zero}
use Rattle.std.proofs.Math.Seq.{get_or-append_seam}
use Rattle.lnet_edge.proofs.WireLemmas.{length-views}
use Rattle.lnet_edge.specs.declared.circuit.Equation.{Equation}
use Rattle.lnet_edge.specs.declared.circuit.InputPort.{InputPort}
use Rattle.lnet_edge.specs.Circuits.{EquationValue}
use Rattle.lnet_edge.specs.CircuitLists.{equation_views}
use Rattle.lnet_edge.specs.Wires.{input_wires, Repeats}
use Rattle.lnet_edge.specs.Drivers.{Drivers, driver_at, target_at, KnowsWires, KnowsEquations}

-- ---- numbers that stand twice

pub Repeats-push_old : (xs : List ℕ) (x : ℕ) → Repeats xs → Repeats (xs ++ x ∷ [])
Repeats-push_old xs x (i, j, below, within, same) =
    let long = length-append xs (x ∷ []) in
    (i, j, below, omega arith, get_or_append_left xs (x ∷ []) 0 i (omega arith) ∙ same ∙ sym (get_or_append_left xs (x ∷ []) 0 j within))

pub Repeats-push_new : (xs : List ℕ) (x : ℕ) → Contains xs x → Repeats (xs ++ x ∷ [])
Repeats-push_new xs x (i, within, is) =
    let long = length-append xs (x ∷ []) in
    (i, length xs, within, omega arith, get_or_append_left xs (x ∷ []) 0 i within ∙ sym (get_or_default_zero xs i x within) ∙ is ∙ sym (get_or-append_seam xs x [] 0))

pub Repeats-push_cases : (xs : List ℕ) (x : ℕ) → Repeats (xs ++ x ∷ []) → Repeats xs ⊎ Contains xs x
Repeats-push_cases xs x (i, j, below, within, same) =
    let long = length-append xs (x ∷ []) in
    elim (eqb_tells j (length xs)) [
      | inl p ↦
          let low : i < length xs = (let e = p.1 in omega arith) in
          let last : get_or (xs ++ x ∷ []) j 0 ≡ x = ap (λ (k : ℕ). get_or (xs ++ x ∷ []) k 0) p.1 ∙ get_or-append_seam xs x [] 0 in
          inr (i, low, get_or_default_zero xs i x low ∙ sym (get_or_append_left xs (x ∷ []) 0 i low) ∙ same ∙ last)
      | inr p ↦
          let low : j < length xs = (let ne = p.1 in omega arith) in
          inl (i, j, below, low, sym (get_or_append_left xs (x ∷ []) 0 i (omega arith)) ∙ same ∙ get_or_append_left xs (x ∷ []) 0 j low)
    ]

-- ---- one wire more

has-push : (m n : Drivers) (xs : List ℕ) (x : ℕ) (v : Option ℕ) → ((w : ℕ) → Decides (is_some (driver_at m w)) (Contains xs w)) → Updates nat_eq m n x (Some v) → (w : ℕ) → Decides (is_some (driver_at n w)) (Contains (xs ++ x ∷ []) w)
has-push m n xs x v has up w =
    elim (eqb_tells x w) as (λ _. Decides (is_some (driver_at n w)) (Contains (xs ++ x ∷ []) w)) [
      | inl p ↦
          let now : driver_at n w ≡ Some v = up.0 w ∙ ap (λ b. cond b (Some v) (driver_at m w)) p.0 in
          ((λ _. subst (Contains (xs ++ x ∷ [])) p.1 (Contains-push xs x)), (λ _. ap is_some now))
      | inr p ↦
          let now : driver_at n w ≡ driver_at m w = up.0 w ∙ ap (λ b. cond b (Some v) (driver_at m w)) p.0 in (
            (λ e. Contains-append_left xs (x ∷ []) w ((has w).0 (ap is_some (sym now) ∙ e))),
            (λ c. ap is_some now ∙ elim (Contains-push_cases xs x w c) [ inl d ↦ (has w).1 d | inr e ↦ absurd (p.1 e) ]),
          )
    ]

pub KnowsWires-push : (m n : Drivers) (twice : Bool) (xs : List ℕ) (x : ℕ) (v : Option ℕ) (old : Option (Option ℕ)) → KnowsWires m twice xs → Updates nat_eq m n x (Some v) → old ≡ driver_at m x → KnowsWires n (twice || is_some old) (xs ++ x ∷ [])
KnowsWires-push m n twice xs x v old knows up was = record {
  has = has-push m n xs x v knows.has up;
  repeated = repeats twice (is_some old) refl refl;
  single = once twice (is_some old) refl refl;
}
  where
    repeats : (t b : Bool) → t ≡ twice → b ≡ is_some old → (t || b) ≡ true → Repeats (xs ++ x ∷ [])
    repeats true b is of e = Repeats-push_old xs x (knows.repeated (sym is))
    repeats false true is of e = Repeats-push_new xs x ((knows.has x).0 (ap is_some (sym was) ∙ sym of))
    repeats false false is of e = cc

    once : (t b : Bool) → t ≡ twice → b ≡ is_some old → (t || b) ≡ false → ¬ (Repeats (xs ++ x ∷ []))
    once true b is of e = cc
    once false true is of e = cc
    once false false is of e = λ r. elim (Repeats-push_cases xs x r) [
      | inl q ↦ knows.single (sym is) q
      | inr c ↦ (let f : false ≡ true = of ∙ ap is_some was ∙ (knows.has x).1 c in cc)
    ]

-- the next of some wires
pub KnowsWires-next : (m n : Drivers) (twice : Bool) (xs ys : List ℕ) (i x : ℕ) (v : Option ℕ) (old : Option (Option ℕ)) → KnowsWires m twice (xs ++ take i ys) → i < length ys → x ≡ get_or ys i 0 → Updates nat_eq m n x (Some v) → old ≡ driver_at m x → KnowsWires n (twice || is_some old) (xs ++ take (i + 1) ys)
KnowsWires-next m n twice xs ys i x v old knows h at up was =
    let e : (xs ++ take i ys) ++ x ∷ [] ≡ xs ++ take (i + 1) ys = append_assoc xs (take i ys) (x ∷ []) ∙ ap (λ (y : ℕ). xs ++ (take i ys ++ y ∷ [])) at ∙ ap (λ (zs : List ℕ). xs ++ zs) (sym (take_more ys i 0 h)) in
    subst (KnowsWires n (twice || is_some old)) e (KnowsWires-push m n twice (xs ++ take i ys) x v old knows up was)

pub wire_at-inputs : (ps : List InputPort) (i : ℕ) (p : InputPort) → i < length ps → p ≡ get_or ps i p → p.wire.0 ≡ get_or (input_wires ps) i 0
wire_at-inputs [] i p h is = absurd (omega arith)
wire_at-inputs (q ∷ ps) zero p h is = ap (λ (z : InputPort). z.wire.0) is
wire_at-inputs (q ∷ ps) (suc i) p h is = wire_at-inputs ps i p (omega arith) is

-- no equation stands in the map after an input
pub no_equation : (m n : Drivers) (x : ℕ) → ((w k : ℕ) → driver_at m w ≡ Some (Some k) → ⊥) → Updates nat_eq m n x (Some None) → (w k : ℕ) → driver_at n w ≡ Some (Some k) → ⊥
no_equation m n x none up w k e = elim (eqb_tells x w) [
  | inl p ↦ (let now : Some None ≡ Some (Some k) = sym (up.0 w ∙ ap (λ b. cond b (Some None) (driver_at m w)) p.0) ∙ e in cc)
  | inr p ↦ none w k (sym (up.0 w ∙ ap (λ b. cond b (Some None) (driver_at m w)) p.0) ∙ e)
]

-- ---- equations

pub target_at-view : (es : List Equation) (i : ℕ) (e : Equation) → i < length es → e ≡ get_or es i e → target_at (equation_views es) i ≡ e.target.0
target_at-view [] i e h is = absurd (omega arith)
target_at-view (f ∷ es) zero e h is = ap (λ (z : Equation). z.target.0) (sym is)
target_at-view (f ∷ es) (suc i) e h is = target_at-view es i e (omega arith) is

pub KnowsEquations-push : (m n : Drivers) (twice : Bool) (es : List EquationValue) (i x : ℕ) (old : Option (Option ℕ)) → x ≡ target_at es i → KnowsEquations m twice es i → Updates nat_eq m n x (Some (Some i)) → old ≡ driver_at m x → KnowsEquations n (twice || is_some old) es (i + 1)
KnowsEquations-push m n twice es i x old at knows up was = record {
  only = λ w k e. elim (eqb_tells x w) as (λ _. (k < i + 1) × (target_at es k ≡ w)) [
    | inl p ↦
        let now : driver_at n w ≡ Some (Some i) = up.0 w ∙ ap (λ b. cond b (Some (Some i)) (driver_at m w)) p.0 in
        let same : i ≡ k = cc in
        (omega arith, ap (target_at es) (sym same) ∙ sym at ∙ p.1)
    | inr p ↦
        let now : driver_at n w ≡ driver_at m w = up.0 w ∙ ap (λ b. cond b (Some (Some i)) (driver_at m w)) p.0 in
        let old_one = knows.only w k (sym now ∙ e) in
        (let low = old_one.0 in omega arith, old_one.1)
  ];
  each = each twice (is_some old) refl refl;
}
  where
    each : (t b : Bool) → t ≡ twice → b ≡ is_some old → (t || b) ≡ false → (k : ℕ) → k < i + 1 → driver_at n (target_at es k) ≡ Some (Some k)
    each true b is of e = cc
    each false true is of e = cc
    each false false is of e = λ k low. elim (eqb_tells x (target_at es k)) as (λ _. driver_at n (target_at es k) ≡ Some (Some k)) [
      | inl p ↦ elim (eqb_tells k i) as (λ _. driver_at n (target_at es k) ≡ Some (Some k)) [
        | inl q ↦ up.0 (target_at es k) ∙ ap (λ b. cond b (Some (Some i)) (driver_at m (target_at es k))) p.0 ∙ ap (λ (j : ℕ). Some (Some j)) (sym q.1)
        | inr q ↦
            let below : k < i = (let ne = q.1 in omega arith) in
            let was_some : old ≡ Some (Some k) = was ∙ ap (driver_at m) p.1 ∙ knows.each (sym is) k below in
            let f : false ≡ true = of ∙ ap is_some was_some in
            cc
      ]
      | inr p ↦
          let ne : k ≢ i = λ q. p.1 (at ∙ ap (target_at es) (sym q)) in
          up.0 (target_at es k) ∙ ap (λ b. cond b (Some (Some i)) (driver_at m (target_at es k))) p.0 ∙ knows.each (sym is) k (omega arith)
    ]

pub knows_all : (m : Drivers) (es : List Equation) → KnowsEquations m false (equation_views es) (length es) → KnowsEquations m false (equation_views es) (length (equation_views es))
knows_all m es knows = subst (KnowsEquations m false (equation_views es)) (sym (length-views es)) knows
