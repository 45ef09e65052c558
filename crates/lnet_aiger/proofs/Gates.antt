-- Binary gates: what is read from them is what they mean, and what they mean is read.
use Rattle.std.proofs.Common.{◌≡◌, ℕ, zero, suc, ◌+◌, ◌-◌, ◌*◌, ◌<◌, ◌≤◌, Bool, true, false, cond, ltb, leb, List, [], ◌∷◌, ◌++◌, length, Result, Ok, Err, refl, sym, ap, subst, ◌∙◌, add-zero, arith}
use Rattle.std.specs.Prelude.{◌&&◌}
use Rattle.std.proofs.lemmas.Bool.Decides.{nat_tests}
use Rattle.std.proofs.lemmas.Bool.{leb-true}
use Rattle.lnet_edge.specs.declared.fault.Fault.{Fault}
use Rattle.lnet_edge.specs.declared.fault.Fault.TheVariants as fault
use Rattle.lnet_edge.specs.declared.fault.Malformed.{Malformed}
use Rattle.lnet_edge.specs.Circuits.{EquationValue}
use Rattle.lnet_lines.specs.Lines.{Place}
use Rattle.lnet_aiger.specs.declared.body.Gate.{Gate}
use Rattle.lnet_aiger.specs.LineRules.{equation_of}
use Rattle.lnet_aiger.specs.Chain.{◌>>=◌, at_line}
use Rattle.lnet_aiger.specs.Deltas.{groups_at, delta_at, gate_at, difference_at}
use Rattle.lnet_aiger.specs.Reading.{items_at}
use Rattle.lnet_aiger.specs.Grammar.{IsGroups, IsDelta, IsGate, AreGates}
use Rattle.lnet_aiger.proofs.Sections.{bind_ok, ok_is, done, at}

-- ---- numbers in groups

abbrev ReadsGroups : ℕ → List ℕ → ℕ → List ℕ → Type 0
ReadsGroups n bytes value rest = (text : List ℕ) × (bytes ≡ text ++ rest) × IsGroups text value × (length text ≤ n)

pub more_groups : (b value : ℕ) (text : List ℕ) → 128 ≤ b → IsGroups text value → IsGroups (b ∷ text) ((b - 128) + 128 * value)
more_groups b value [] big groups = absurd groups
more_groups b value (c ∷ cs) big groups = (big, value, omega arith, groups)

pub groups_take : (n : ℕ) (bytes : List ℕ) (x : ℕ × List ℕ) → groups_at n bytes ≡ Ok x → ReadsGroups n bytes x.0 x.1
unfolding groups_at
groups_take zero [] x e = absurd cc
groups_take (suc n) [] x e = absurd cc
groups_take zero (b ∷ bs) x e = absurd cc
groups_take (suc n) (b ∷ bs) x e = by_test (ltb b 128) refl e (groups_take n bs) where
  last : ltb b 128 ≡ true → Ok (b, bs) ≡ done {E = Fault} x → ReadsGroups (suc n) (b ∷ bs) x.0 x.1
  last t e =
      let small : b < 128 = grind (arith, nat_tests) in
      subst (λ (y : ℕ × List ℕ). ReadsGroups (suc n) (b ∷ bs) y.0 y.1) (ok_is {E = Fault} (b, bs) x e) (b ∷ [], refl, (small, refl), omega arith)

  more : ltb b 128 ≡ false → (groups_at n bs >>= λ high. Ok ((b - 128) + 128 * high.0, high.1)) ≡ Ok x → ((y : ℕ × List ℕ) → groups_at n bs ≡ Ok y → ReadsGroups n bs y.0 y.1) → ReadsGroups (suc n) (b ∷ bs) x.0 x.1
  more t e others =
      let big : 128 ≤ b = grind (arith, nat_tests) in
      let r = bind_ok (groups_at n bs) (λ high. Ok ((b - 128) + 128 * high.0, high.1)) x e in
      let h = others r.0 r.1 in
      subst (λ (y : ℕ × List ℕ). ReadsGroups (suc n) (b ∷ bs) y.0 y.1) (ok_is {E = Fault} ((b - 128) + 128 * r.0.0, r.0.1) x r.2) (b ∷ h.0, ap (λ (t : List ℕ). b ∷ t) h.1, more_groups b r.0.0 h.0 big h.2, omega (arith, h.3))

  by_test : (t : Bool) → ltb b 128 ≡ t → cond t (Ok (b, bs)) (groups_at n bs >>= λ high. Ok ((b - 128) + 128 * high.0, high.1)) ≡ Ok x → ((y : ℕ × List ℕ) → groups_at n bs ≡ Ok y → ReadsGroups n bs y.0 y.1) → ReadsGroups (suc n) (b ∷ bs) x.0 x.1
  by_test true t e others = last t e
  by_test false t e others = more t e others

pub groups_again : (n : ℕ) (text : List ℕ) (value : ℕ) (rest : List ℕ) → IsGroups text value → length text ≤ n → groups_at n (text ++ rest) ≡ Ok (value, rest)
unfolding groups_at
groups_again n [] value rest groups short = absurd groups
groups_again zero (b ∷ bs) value rest groups short = absurd (omega arith)
groups_again (suc n) (b ∷ []) value rest groups short =
    let t : ltb b 128 ≡ true = let h = groups.0 in grind (arith, nat_tests) in
    rw t (ap (λ (k : ℕ). done (k, rest)) (sym groups.1))
groups_again (suc n) (b ∷ c ∷ bs) value rest groups short =
    let t : ltb b 128 ≡ false = let h = groups.0 in grind (arith, nat_tests) in
    let is : (b - 128) + 128 * groups.1 ≡ value = omega (arith, groups.0, groups.2) in
    rw (t, groups_again n (c ∷ bs) groups.1 rest groups.3 (omega arith), is) refl

-- ---- differences

both : (a b : Bool) → (a && b) ≡ true → (a ≡ true) × (b ≡ true)
both true b e = (refl, e)
both false b e = absurd cc

guard_ok : {A : Type 0} (b : Bool) (d : Fault) (x y : A) → cond b (Ok x) (Err d) ≡ Ok y → (b ≡ true) × (x ≡ y)
guard_ok true d x y e = (refl, cc)
guard_ok false d x y e = absurd cc

pub delta_takes : (least most : ℕ) (bytes : List ℕ) (x : ℕ × List ℕ) → delta_at least most bytes ≡ Ok x → IsDelta bytes x.0 x.1 × (least ≤ x.0) × (x.0 ≤ most)
unfolding delta_at
delta_takes least most bytes x e =
    let r = bind_ok (groups_at 5 bytes) (λ d. cond (leb d.0 2147483647 && leb least d.0 && leb d.0 most) (Ok d) (Err fault.Delta)) x e in
    let g = guard_ok (leb r.0.0 2147483647 && leb least r.0.0 && leb r.0.0 most) fault.Delta r.0 x r.2 in
    let t = both (leb r.0.0 2147483647 && leb least r.0.0) (leb r.0.0 most) g.0 in
    let u = both (leb r.0.0 2147483647) (leb least r.0.0) t.0 in
    let h = groups_take 5 bytes r.0 r.1 in
    subst (λ (y : ℕ × List ℕ). IsDelta bytes y.0 y.1 × (least ≤ y.0) × (y.0 ≤ most)) g.1
    (record { text = h.0; front = h.1; groups = h.2; short = h.3; small = leb-true _ _ u.0 }, leb-true _ _ u.1, leb-true _ _ t.1)

pub delta_again : (least most : ℕ) (bytes : List ℕ) (n : ℕ) (rest : List ℕ) → IsDelta bytes n rest → least ≤ n → n ≤ most → delta_at least most bytes ≡ Ok (n, rest)
unfolding delta_at
delta_again least most bytes n rest is low high =
    let t0 : leb n 2147483647 ≡ true = let h = is.small in grind (arith, nat_tests) in
    let t1 : leb least n ≡ true = grind (arith, nat_tests) in
    let t2 : leb n most ≡ true = grind (arith, nat_tests) in
    rw (is.front, groups_again 5 is.text n rest is.groups is.short, t0, t1, t2) refl

-- ---- gates

pub gate_takes : (target : ℕ) (bytes : List ℕ) (x : Gate × List ℕ) → gate_at target bytes ≡ Ok x → (x.0.target ≡ target) × IsGate bytes x.0 x.1
unfolding gate_at
gate_takes target bytes x e =
    let made : (ℕ × List ℕ) → (ℕ × List ℕ) → Gate × List ℕ = λ first second. (record { target = target; first = target - first.0; second = (target - first.0) - second.0 }, second.1) in
    let a = bind_ok (delta_at 1 target bytes) (λ first. delta_at 0 (target - first.0) first.1 >>= λ second. Ok (made first second)) x e in
    let b = bind_ok (delta_at 0 (target - a.0.0) a.0.1) (λ second. Ok (made a.0 second)) x a.2 in
    let d = delta_takes 1 target bytes a.0 a.1 in
    let f = delta_takes 0 (target - a.0.0) a.0.1 b.0 b.1 in
    subst (λ (y : Gate × List ℕ). (y.0.target ≡ target) × IsGate bytes y.0 y.1) (ok_is {E = Fault} (made a.0 b.0) x b.2)
    (refl, record { first = a.0.0; second = b.0.0; middle = a.0.1; first_delta = d.0; second_delta = f.0; below = omega (arith, d.1); first_is = omega (arith, d.2); second_is = omega (arith, f.2) })

pub gate_again : (target : ℕ) (bytes : List ℕ) (g : Gate) (rest : List ℕ) → g.target ≡ target → IsGate bytes g rest → gate_at target bytes ≡ Ok (g, rest)
unfolding gate_at
gate_again target bytes g rest t is =
    let made : ℕ → ℕ → ℕ → Gate × List ℕ = λ a b c. (record { target = a; first = b; second = c }, rest) in
    let first : target - is.first ≡ g.first = omega (arith, is.first_is) in
    let second : g.first - is.second ≡ g.second = omega (arith, is.second_is) in
    rw (delta_again 1 target bytes is.first is.middle is.first_delta is.below (omega (arith, is.first_is)), first, delta_again 0 g.first is.middle is.second rest is.second_delta (omega arith) (omega (arith, is.second_is)), second) (ap (λ (k : ℕ). done (made k g.first g.second)) (sym t))

-- ---- gate after gate

at_line_ok : {A : Type 0} (number : ℕ) (r : Result A Fault) (x : A) → at_line number r ≡ Ok x → r ≡ Ok x
at_line_ok number (Ok y) x e = ap done (ok_is y x e)
at_line_ok number (Err f) x e = absurd cc

abbrev pub step : ℕ → ℕ → Place → Result (EquationValue × Place) Malformed
step inputs i = difference_at (2 * (inputs + 1 + i))

pub difference_takes : (target : ℕ) (bytes : List ℕ) (number : ℕ) (x : EquationValue × Place) → difference_at target (at bytes number) ≡ Ok x → (g : Gate) × (rest : List ℕ) × (g.target ≡ target) × IsGate bytes g rest × (x.0 ≡ equation_of g) × (x.1 ≡ at rest (number + 1))
unfolding difference_at
difference_takes target bytes number x e =
    let r = bind_ok (at_line number (gate_at target bytes)) (λ gate. Ok (equation_of gate.0, at gate.1 (number + 1))) x e in
    let t = gate_takes target bytes r.0 (at_line_ok number (gate_at target bytes) r.0 r.1) in
    let same = ok_is {E = Malformed} (equation_of r.0.0, at r.0.1 (number + 1)) x r.2 in
    (r.0.0, r.0.1, t.0, t.1, sym (ap (λ (y : EquationValue × Place). y.0) same), sym (ap (λ (y : EquationValue × Place). y.1) same))

pub difference_again : (target : ℕ) (bytes : List ℕ) (number : ℕ) (g : Gate) (rest : List ℕ) → g.target ≡ target → IsGate bytes g rest → difference_at target (at bytes number) ≡ Ok (equation_of g, at rest (number + 1))
unfolding difference_at
difference_again target bytes number g rest t is = rw (gate_again target bytes g rest t is) refl

pub gates_take : (inputs n i : ℕ) (bytes : List ℕ) (number : ℕ) (x : List EquationValue × Place) → items_at (step inputs) n i (at bytes number) ≡ Ok x → AreGates (2 * (inputs + 1 + i)) bytes x.0 x.1.rest × (length x.0 ≡ n) × (x.1.number ≡ number + n)
unfolding items_at
gates_take inputs zero i bytes number x e =
    subst (λ (y : List EquationValue × Place). AreGates (2 * (inputs + 1 + i)) bytes y.0 y.1.rest × (length y.0 ≡ 0) × (y.1.number ≡ number + 0)) (ok_is {E = Malformed} ([], at bytes number) x e) (refl, refl, sym (add-zero number))
gates_take inputs (suc n) i bytes number x e =
    let a = bind_ok (step inputs i (at bytes number)) (λ first. items_at (step inputs) n (i + 1) first.1 >>= λ others. Ok (first.0 ∷ others.0, others.1)) x e in
    let b = bind_ok (items_at (step inputs) n (i + 1) a.0.1) (λ others. Ok (a.0.0 ∷ others.0, others.1)) x a.2 in
    let first = difference_takes (2 * (inputs + 1 + i)) bytes number a.0 a.1 in
    let others = gates_take inputs n (i + 1) first.1 (number + 1) b.0 (sym (ap (λ (p : Place). items_at (step inputs) n (i + 1) p) first.5) ∙ b.1) in
    let same = ok_is {E = Malformed} (a.0.0 ∷ b.0.0, b.0.1) x b.2 in
    let next : 2 * (inputs + 1 + (i + 1)) ≡ 2 * (inputs + 1 + i) + 2 = omega arith in
    let behind = subst (λ (k : ℕ). AreGates k first.1 b.0.0 b.0.1.rest) next others.0 in
    subst (λ (y : List EquationValue × Place). AreGates (2 * (inputs + 1 + i)) bytes y.0 y.1.rest × (length y.0 ≡ suc n) × (y.1.number ≡ number + suc n)) same ((first.0, first.1, first.2, first.3, first.4, behind), ap suc others.1, omega (arith, others.2))

pub gates_again : (inputs : ℕ) (es : List EquationValue) (i : ℕ) (bytes rest : List ℕ) (number : ℕ) → AreGates (2 * (inputs + 1 + i)) bytes es rest → items_at (step inputs) (length es) i (at bytes number) ≡ Ok (es, at rest (number + length es))
unfolding items_at
gates_again inputs [] i bytes rest number are = ap (λ (bs : List ℕ). done ([], at bs number)) are ∙ ap (λ (k : ℕ). done ([], at rest k)) (sym (add-zero number))
gates_again inputs (e ∷ es) i bytes rest number are =
    let k : (number + 1) + length es ≡ number + suc (length es) = omega arith in
    let next : 2 * (inputs + 1 + i) + 2 ≡ 2 * (inputs + 1 + (i + 1)) = omega arith in
    let behind = subst (λ (k : ℕ). AreGates k are.1 es rest) next are.5 in
    let one : step inputs i (at bytes number) ≡ Ok (e, at are.1 (number + 1)) = difference_again (2 * (inputs + 1 + i)) bytes number are.0 are.1 are.2 are.3 ∙ ap (λ (f : EquationValue). done (f, at are.1 (number + 1))) (sym are.4) in
    rw (one, gates_again inputs es (i + 1) are.1 rest (number + 1) behind, k) refl
