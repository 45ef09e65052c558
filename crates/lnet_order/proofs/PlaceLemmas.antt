-- What drives a wire by its place, and that a greater depth takes the same equations.
use Rattle.std.proofs.Common.{◌≡◌, ℕ, zero, suc, ◌+◌, ◌<◌, ◌==◌, Bool, true, false, List, [], ◌∷◌, ◌++◌, length, slice_get, Option, Some, None, Contains, refl, sym, ap, subst, ◌∙◌, inl, inr, arith}
use Rattle.std.specs.Prelude.{if◌then◌else◌}
use Rattle.std.proofs.lemmas.Bool.Decides.{eqb_tells}
use Rattle.std.proofs.lemmas.Option.{slice_get_within, get_or_from_slice_get}
use Rattle.lnet_edge.specs.Circuits.{EquationValue}
use Rattle.lnet_edge.specs.Wires.{operand_wires, Reads}
use Rattle.lnet_edge.specs.Searches.{operands_at}
use Rattle.lnet_edge.proofs.ValueLemmas.{IsShort, short_operand}
use Rattle.lnet_order.specs.Orders.{or_place, place_from, is_among, in_turn, with_driver, taken}
use Rattle.lnet_order.specs.Paths.{steps_in_turn, steps_by, steps_of}

-- ---- places

pub place_from-push : (i : ℕ) (es : List EquationValue) (e : EquationValue) (w : ℕ) → place_from i (es ++ e ∷ []) w ≡ (if e.target == w then Some (i + length es) else place_from i es w)
place_from-push i [] e w = let z : i + 0 ≡ i = omega arith in ap (λ k. if e.target == w then Some k else None) (sym z)
place_from-push i (x ∷ es) e w =
    let n : (i + 1) + length es ≡ i + suc (length es) = omega arith in
    ap (λ o. or_place o (if x.target == w then Some i else None)) (place_from-push (i + 1) es e w ∙ ap (λ k. if e.target == w then Some k else place_from (i + 1) es w) n)
    ∙ go (e.target == w)
  where
    go : (b : Bool) → or_place (if b then Some (i + suc (length es)) else place_from (i + 1) es w) (if x.target == w then Some i else None) ≡ (if b then Some (i + suc (length es)) else or_place (place_from (i + 1) es w) (if x.target == w then Some i else None))
    go true = refl
    go false = refl

-- the equation at a place that drives the wire
pub record IsDriver (i w k : ℕ) (es : List EquationValue) : Type 0 where
  pub at : ℕ
  pub equation : EquationValue
  pub place : k ≡ i + at
  pub stands : slice_get es at ≡ Some equation
  pub drives : equation.target ≡ w

place-here : (i w k : ℕ) (e : EquationValue) (es : List EquationValue) → (if e.target == w then Some i else None) ≡ Some k → IsDriver i w k (e ∷ es)
place-here i w k e es h = elim (eqb_tells e.target w) as (λ _. IsDriver i w k (e ∷ es)) [
  | inl p ↦
      let all : Some i ≡ Some k = sym (ap (λ b. if b then Some i else None) p.0) ∙ h in
      let same : i ≡ k = cc in
      record { at = 0; equation = e; place = omega arith; stands = refl; drives = p.1 }
  | inr p ↦
      let all : None ≡ Some k = sym (ap (λ b. if b then Some i else None) p.0) ∙ h in
      absurd cc
]

place-later : (i w k : ℕ) (e : EquationValue) (es : List EquationValue) → IsDriver (i + 1) w k es → IsDriver i w k (e ∷ es)
place-later i w k e es r = record { at = suc r.at; equation = r.equation; place = (let p = r.place in omega arith); stands = r.stands; drives = r.drives }

place-either : (i w k : ℕ) (e : EquationValue) (es : List EquationValue) (o : Option ℕ) → ((m : ℕ) → o ≡ Some m → IsDriver (i + 1) w m es) → or_place o (if e.target == w then Some i else None) ≡ Some k → IsDriver i w k (e ∷ es)
place-either i w k e es None rest h = place-here i w k e es h
place-either i w k e es (Some m) rest h = let same : m ≡ k = cc in place-later i w k e es (rest k (ap Some same))

pub place-found : (i w k : ℕ) (es : List EquationValue) → place_from i es w ≡ Some k → IsDriver i w k es
place-found i w k [] h = absurd cc
place-found i w k (e ∷ es) h = place-either i w k e es (place_from (i + 1) es w) (λ m is. place-found (i + 1) w m es is) h

pub operands-stand : (es : List EquationValue) (k : ℕ) (e : EquationValue) → slice_get es k ≡ Some e → operands_at es k ≡ operand_wires e
operands-stand [] k e h = absurd cc
operands-stand (f ∷ es) zero e h = let same : f ≡ e = cc in ap operand_wires same
operands-stand (f ∷ es) (suc k) e h = operands-stand es k e h

pub place-within : (w k : ℕ) (es : List EquationValue) → place_from 0 es w ≡ Some k → k < length es
place-within w k es h = let r = place-found 0 w k es h in let low = slice_get_within es r.at r.equation r.stands in let p = r.place in omega arith

pub driver-reads : (es : List EquationValue) (w k v : ℕ) → place_from 0 es w ≡ Some k → Contains (operands_at es k) v → Reads es w v
driver-reads es w k v h has =
    let r = place-found 0 w k es h in
    let same : k ≡ r.at = (let p = r.place in omega arith) in
    let low = slice_get_within es r.at r.equation r.stands in (
      r.equation,
      (r.at, low, get_or_from_slice_get es r.at r.equation r.equation r.stands),
      r.drives,
      subst (λ ws. Contains ws v) (ap (operands_at es) same ∙ operands-stand es r.at r.equation r.stands) has,
    )

-- ---- depth

pub contains-next : (w v : ℕ) (ws : List ℕ) → Contains ws v → Contains (w ∷ ws) v
contains-next w v ws c = (suc c.0, (let h = c.1 in omega arith), c.2)

pub in_turn-same : (f g : List ℕ → ℕ → List ℕ) (places ws : List ℕ) → ((v : ℕ) → Contains ws v → (ps : List ℕ) → f ps v ≡ g ps v) → in_turn f places ws ≡ in_turn g places ws
in_turn-same f g places [] same = refl
in_turn-same f g places (w ∷ ws) same =
    ap (λ ps. in_turn f ps ws) (same w (0, omega arith, refl) places)
    ∙ in_turn-same f g (g places w) ws (λ v c. same v (contains-next w v ws c))

pub steps_in_turn-same : (f g : List ℕ → ℕ → List ℕ) (s t : List ℕ → ℕ → ℕ) (places ws : List ℕ) → ((v : ℕ) → Contains ws v → (ps : List ℕ) → f ps v ≡ g ps v) → ((v : ℕ) → Contains ws v → (ps : List ℕ) → s ps v ≡ t ps v) → steps_in_turn f s places ws ≡ steps_in_turn g t places ws
steps_in_turn-same f g s t places [] same steps = refl
steps_in_turn-same f g s t places (w ∷ ws) same steps =
    ap (λ n. 1 + n + steps_in_turn f s (f places w) ws) (steps w (0, omega arith, refl) places)
    ∙ ap (λ ps. 1 + t places w + steps_in_turn f s ps ws) (same w (0, omega arith, refl) places)
    ∙ ap (λ n. 1 + t places w + n) (steps_in_turn-same f g s t (g places w) ws (λ v c. same v (contains-next w v ws c)) (λ v c. steps v (contains-next w v ws c)))

with_driver-same : (f g : List ℕ → ℕ → List ℕ) (es : List EquationValue) (places : List ℕ) (w : ℕ) (o : Option ℕ) → place_from 0 es w ≡ o → ((v : ℕ) → Reads es w v → (ps : List ℕ) → f ps v ≡ g ps v) → with_driver f es places o ≡ with_driver g es places o
with_driver-same f g es places w None is same = refl
with_driver-same f g es places w (Some k) is same =
    ap (λ ps. if is_among k places then places else (ps ++ k ∷ []))
    (in_turn-same f g places (operands_at es k) (λ v c ps. same v (driver-reads es w k v is c) ps))

steps_by-same : (f g : List ℕ → ℕ → List ℕ) (s t : List ℕ → ℕ → ℕ) (es : List EquationValue) (places : List ℕ) (w : ℕ) (o : Option ℕ) → place_from 0 es w ≡ o → ((v : ℕ) → Reads es w v → (ps : List ℕ) → f ps v ≡ g ps v) → ((v : ℕ) → Reads es w v → (ps : List ℕ) → s ps v ≡ t ps v) → steps_by f s es places o ≡ steps_by g t es places o
steps_by-same f g s t es places w None is same steps = refl
steps_by-same f g s t es places w (Some k) is same steps =
    ap (λ n. if is_among k places then 0 else (n + 1))
    (steps_in_turn-same f g s t places (operands_at es k) (λ v c ps. same v (driver-reads es w k v is c) ps) (λ v c ps. steps v (driver-reads es w k v is c) ps))

-- a depth above the lengths of all walks from the wire takes no more
pub taken-deeper : (es : List EquationValue) (d w : ℕ) → IsShort es d w → (places : List ℕ) → taken (suc d) es places w ≡ taken d es places w
unfolding taken
taken-deeper es zero w short places = absurd (let h = short [] tt in omega arith)
taken-deeper es (suc d) w short places = with_driver-same (taken (suc d) es) (taken d es) es places w (place_from 0 es w) refl (λ v reads ps. taken-deeper es d v (short_operand es d w v short reads) ps)

pub steps-deeper : (es : List EquationValue) (d w : ℕ) → IsShort es d w → (places : List ℕ) → steps_of (suc d) es places w ≡ steps_of d es places w
unfolding steps_of
steps-deeper es zero w short places = absurd (let h = short [] tt in omega arith)
steps-deeper es (suc d) w short places =
    steps_by-same (taken (suc d) es) (taken d es) (steps_of (suc d) es) (steps_of d es) es places w (place_from 0 es w) refl
    (λ v reads ps. taken-deeper es d v (short_operand es d w v short reads) ps)
    (λ v reads ps. steps-deeper es d v (short_operand es d w v short reads) ps)
