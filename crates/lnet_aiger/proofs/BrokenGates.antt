-- Faults of binary gates.
use Rattle.std.proofs.Common.{◌≡◌, ℕ, zero, suc, ◌+◌, ◌-◌, ◌*◌, ◌<◌, ◌≤◌, Bool, true, false, cond, ltb, leb, List, [], ◌∷◌, length, take, Result, Ok, Err, refl, sym, ap, subst, ◌∙◌, inl, inr, ⊎_elim, add-zero, add-one, arith}
use Rattle.std.specs.Prelude.{◌⊎◌, ◌&&◌}
use Rattle.std.proofs.lemmas.Bool.{cases_lt}
use Rattle.std.proofs.lemmas.Bool.Decides.{nat_tests}
use Rattle.lnet_edge.specs.declared.fault.Fault.{Fault}
use Rattle.lnet_edge.specs.declared.fault.Fault.TheVariants as fault
use Rattle.lnet_edge.specs.declared.fault.Malformed.{Malformed}
use Rattle.lnet_edge.specs.Circuits.{EquationValue}
use Rattle.lnet_lines.specs.Lines.{Place}
use Rattle.lnet_aiger.specs.declared.body.Gate.{Gate}
use Rattle.lnet_aiger.specs.LineRules.{equation_of}
use Rattle.lnet_aiger.specs.Chain.{◌>>=◌, at_line}
use Rattle.lnet_aiger.specs.Deltas.{groups_at, delta_at, gate_at, difference_at}
use Rattle.lnet_aiger.specs.Reading.{items_at}
use Rattle.lnet_aiger.specs.Faults.{AreOpen, BreaksDelta, BreaksGate, BreaksGates}
use Rattle.lnet_aiger.proofs.Sections.{at}
use Rattle.lnet_aiger.proofs.Gates.{step, groups_take, delta_takes, difference_takes}
use Rattle.lnet_aiger.proofs.Broken.{no_err, err_same, bind_err, at_line_err}

abbrev StopsGroups : ℕ → List ℕ → Fault → Type 0
StopsGroups n bytes f = ((f ≡ fault.Missing) × (length bytes ≤ n) × AreOpen bytes) ⊎ ((f ≡ fault.Delta) × (n < length bytes) × AreOpen (take n bytes))

abbrev one : ℕ → List ℕ → Result (ℕ × List ℕ) Fault
one b bs = Ok (b, bs)

groups_fail : (n : ℕ) (bytes : List ℕ) (f : Fault) → groups_at n bytes ≡ Err f → StopsGroups n bytes f
unfolding groups_at
groups_fail n [] f e = inl (sym (err_same {A = ℕ × List ℕ} fault.Missing f e), omega arith, tt)
groups_fail zero (b ∷ bs) f e = inr (sym (err_same {A = ℕ × List ℕ} fault.Delta f e), omega arith, tt)
groups_fail (suc n) (b ∷ bs) f e = by_test (ltb b 128) refl e (groups_fail n bs f) where
  more : 128 ≤ b → StopsGroups n bs f → StopsGroups (suc n) (b ∷ bs) f
  more big (inl h) = inl (h.0, omega (arith, h.1), (big, h.2))
  more big (inr h) = inr (h.0, omega (arith, h.1), (big, h.2))

  by_test : (t : Bool) → ltb b 128 ≡ t → cond t (one b bs) (groups_at n bs >>= λ high. Ok ((b - 128) + 128 * high.0, high.1)) ≡ Err f → (groups_at n bs ≡ Err f → StopsGroups n bs f) → StopsGroups (suc n) (b ∷ bs) f
  by_test true t e others = let x : ℕ × List ℕ = (b, bs) in absurd (no_err x f e)
  by_test false t e others =
      let big : 128 ≤ b = grind (arith, nat_tests) in
      let next : ℕ × List ℕ → ℕ × List ℕ = λ high. ((b - 128) + 128 * high.0, high.1) in
      ⊎_elim (λ h. more big (others h)) (λ h. absurd (no_err (next h.0) f h.2)) (bind_err (groups_at n bs) (λ high. Ok (next high)) f e)

guard_err : {A : Type 0} (b : Bool) (d f : Fault) (x : A) → cond b (Ok x) (Err d) ≡ Err f → (b ≡ false) × (f ≡ d)
guard_err true d f x e = absurd (no_err x f e)
guard_err {A = A} false d f x e = (refl, sym (err_same {A = A} d f e))

out_of_range : (least most n : ℕ) → (leb n 2147483647 && leb least n && leb n most) ≡ false → (2147483647 < n) ⊎ ((n < least) ⊎ (most < n))
out_of_range least most n e =
    ⊎_elim (λ lt. inl lt)
    (λ le. ⊎_elim (λ lt. inr (inl lt))
    (λ ge. ⊎_elim (λ lt. inr (inr lt)) (λ high. absurd (within le ge high)) (cases_lt most n))
    (cases_lt n least))
    (cases_lt 2147483647 n)
  where
    within : n ≤ 2147483647 → least ≤ n → n ≤ most → ⊥
    within a b c = grind (arith, nat_tests)

delta_fails : (least most : ℕ) (bytes : List ℕ) (f : Fault) → delta_at least most bytes ≡ Err f → BreaksDelta least most bytes f
unfolding delta_at
delta_fails least most bytes f e =
    ⊎_elim (λ h. stops (groups_fail 5 bytes f h))
    (λ h. let g = guard_err (leb h.0.0 2147483647 && leb least h.0.0 && leb h.0.0 most) fault.Delta f h.0 h.2 in
    let t = groups_take 5 bytes h.0 h.1 in
    inr (inr (g.1, h.0.0, t.0, h.0.1, t.1, t.2, t.3, out_of_range least most h.0.0 g.0)))
    (bind_err (groups_at 5 bytes) (λ d. cond (leb d.0 2147483647 && leb least d.0 && leb d.0 most) (Ok d) (Err fault.Delta)) f e)
  where
    stops : StopsGroups 5 bytes f → BreaksDelta least most bytes f
    stops (inl h) = inl h
    stops (inr h) = inr (inl h)

gate_fails : (target : ℕ) (bytes : List ℕ) (f : Fault) → gate_at target bytes ≡ Err f → BreaksGate target bytes f
unfolding gate_at
gate_fails target bytes f e =
    let made : (ℕ × List ℕ) → (ℕ × List ℕ) → Gate × List ℕ = λ first second. (record { target = target; first = target - first.0; second = (target - first.0) - second.0 }, second.1) in
    ⊎_elim (λ h. inl (delta_fails 1 target bytes f h))
    (λ a. ⊎_elim (λ h. let d = delta_takes 1 target bytes a.0 a.1 in inr (a.0.0, a.0.1, d.0, omega (arith, d.1), d.2, delta_fails 0 (target - a.0.0) a.0.1 f h))
    (λ b. absurd (no_err (made a.0 b.0) f b.2))
    (bind_err (delta_at 0 (target - a.0.0) a.0.1) (λ second. Ok (made a.0 second)) f a.2))
    (bind_err (delta_at 1 target bytes) (λ first. delta_at 0 (target - first.0) first.1 >>= λ second. Ok (made first second)) f e)

difference_fails : (target : ℕ) (bytes : List ℕ) (number : ℕ) (m : Malformed) → difference_at target (at bytes number) ≡ Err m → (m.line ≡ number) × BreaksGate target bytes m.kind
unfolding difference_at
difference_fails target bytes number m e =
    let made : Gate × List ℕ → EquationValue × Place = λ gate. (equation_of gate.0, at gate.1 (number + 1)) in
    ⊎_elim (λ h. let t = at_line_err number (gate_at target bytes) m h in (t.0, gate_fails target bytes m.kind t.1))
    (λ h. absurd (no_err (made h.0) m h.2))
    (bind_err (at_line number (gate_at target bytes)) (λ gate. Ok (made gate)) m e)

abbrev FailsGates : ℕ → ℕ → List ℕ → ℕ → Malformed → Type 0
FailsGates target n bytes number m = (k : ℕ) × (m.line ≡ number + k) × BreaksGates target n bytes k m.kind

fails_here : (target n : ℕ) (bytes : List ℕ) (number : ℕ) (m : Malformed) → difference_at target (at bytes number) ≡ Err m → FailsGates target (suc n) bytes number m
fails_here target n bytes number m h =
    let t = difference_fails target bytes number m h in
    let first : target ≡ target + 2 * 0 = omega arith in
    (0, t.0 ∙ sym (add-zero number), record { equations = []; rest = bytes; before = refl; count = refl; due = omega arith; broken = subst (λ (k : ℕ). BreaksGate k bytes m.kind) first t.1 })

fails_later : (target n : ℕ) (bytes : List ℕ) (number : ℕ) (m : Malformed) (x : EquationValue × Place) → difference_at target (at bytes number) ≡ Ok x → ((rest : List ℕ) → x.1 ≡ at rest (number + 1) → FailsGates (target + 2) n rest (number + 1) m) → FailsGates target (suc n) bytes number m
fails_later target n bytes number m x first others =
    let t = difference_takes target bytes number x first in
    let h = others t.1 t.5 in
    let b = h.2 in
    let place : (target + 2) + 2 * h.0 ≡ target + 2 * (h.0 + 1) = omega arith in
    (h.0 + 1, omega (arith, h.1), record { equations = x.0 ∷ b.equations; rest = b.rest; before = (t.0, t.1, t.2, t.3, t.4, b.before); count = ap suc b.count ∙ sym (add-one h.0); due = omega (arith, b.due); broken = subst (λ (k : ℕ). BreaksGate k b.rest m.kind) place b.broken })

pub gates_fail : (inputs n i : ℕ) (bytes : List ℕ) (number : ℕ) (m : Malformed) → items_at (step inputs) n i (at bytes number) ≡ Err m → FailsGates (2 * (inputs + 1 + i)) n bytes number m
unfolding items_at
gates_fail inputs zero i bytes number m e = let x : List EquationValue × Place = ([], at bytes number) in absurd (no_err x m e)
gates_fail inputs (suc n) i bytes number m e =
    let joined : EquationValue × Place → List EquationValue × Place → List EquationValue × Place = λ first others. (first.0 ∷ others.0, others.1) in
    let next : 2 * (inputs + 1 + (i + 1)) ≡ 2 * (inputs + 1 + i) + 2 = omega arith in
    ⊎_elim (λ h. fails_here (2 * (inputs + 1 + i)) n bytes number m h)
    (λ h. ⊎_elim (λ g. fails_later (2 * (inputs + 1 + i)) n bytes number m h.0 h.1 (λ rest place. subst (λ (k : ℕ). FailsGates k n rest (number + 1) m) next (gates_fail inputs n (i + 1) rest (number + 1) m (sym (ap (λ (p : Place). items_at (step inputs) n (i + 1) p) place) ∙ g))))
    (λ g. absurd (no_err (joined h.0 g.0) m g.2))
    (bind_err (items_at (step inputs) n (i + 1) h.0.1) (λ others. Ok (joined h.0 others)) m h.2))
    (bind_err (step inputs i (at bytes number)) (λ first. items_at (step inputs) n (i + 1) first.1 >>= λ others. Ok (joined first others)) m e)
