-- In an order of building each equation stands after those of its operands.
use Rattle.std.proofs.Common.{◌≡◌, ℕ, zero, suc, ◌==◌, ◌||◌, Bool, true, false, List, [], ◌∷◌, ◌++◌, length, Option, Some, None, Contains, inl, inr, refl, sym, ap, subst, ◌∙◌, arith, append_assoc}
use Rattle.std.specs.Prelude.{if◌then◌else◌}
use Rattle.std.specs.List.{list_any}
use Rattle.std.proofs.lemmas.List.Folds.{list_any-append}
use Rattle.std.proofs.lemmas.Bool.Decides.{eqb_tells}
use Rattle.lnet_edge.specs.Circuits.{CircuitValue, EquationValue}
use Rattle.lnet_edge.specs.Wires.{Reads, IsCircuit, output_wires}
use Rattle.lnet_edge.specs.Searches.{operands_at}
use Rattle.lnet_edge.proofs.ValueLemmas.{IsShort, short_operand, short_walks}
use Rattle.lnet_order.specs.Orders.{place_from, is_among, in_turn, with_driver, taken, order_of}
use Rattle.lnet_order.specs.Sound.{AreDriven, IsBuildOrder}
use Rattle.lnet_order.proofs.PlaceLemmas.{driver-reads}

pub among-left : (k : ℕ) (xs ys : List ℕ) → is_among k xs ≡ true → is_among k (xs ++ ys) ≡ true
among-left k xs ys h = list_any-append (λ j. k == j) xs ys ∙ ap (λ b. b || list_any (λ j. k == j) ys) h

pub among-last : (k : ℕ) (xs : List ℕ) → is_among k (xs ++ k ∷ []) ≡ true
among-last k xs = list_any-append (λ j. k == j) xs (k ∷ []) ∙ ap (λ b. list_any (λ j. k == j) xs || (b || false)) (same k) ∙ or_true (list_any (λ j. k == j) xs)
  where
    same : (k : ℕ) → (k == k) ≡ true
    same k = elim (eqb_tells k k) as (λ _. (k == k) ≡ true) [ inl p ↦ p.0 | inr p ↦ absurd (p.1 refl) ]

    or_true : (b : Bool) → (b || (true || false)) ≡ true
    or_true true = refl
    or_true false = refl

order-push : (es : List EquationValue) (before places : List ℕ) (k : ℕ) → IsBuildOrder es before places → AreDriven es (before ++ places) (operands_at es k) → IsBuildOrder es before (places ++ k ∷ [])
order-push es before [] k h next = (subst (λ ps. AreDriven es ps (operands_at es k)) (nil before) next, tt)
  where
    nil : (xs : List ℕ) → xs ++ [] ≡ xs
    nil [] = refl
    nil (x ∷ xs) = ap (λ ys. x ∷ ys) (nil xs)
order-push es before (j ∷ js) k h next = (h.0, order-push es (before ++ j ∷ []) js k h.1 (subst (λ ps. AreDriven es ps (operands_at es k)) (sym (append_assoc before (j ∷ []) js)) next))

-- places after others: still an order of building, with all that were there, and those that drive the wires
pub record IsSound (es : List EquationValue) (places now ws : List ℕ) : Type 0 where
  pub order : IsBuildOrder es [] now
  pub kept : (k : ℕ) → is_among k places ≡ true → is_among k now ≡ true
  pub driven : AreDriven es now ws

in_turn-sound : (es : List EquationValue) (f : List ℕ → ℕ → List ℕ) (places ws : List ℕ) → IsBuildOrder es [] places → ((v : ℕ) → Contains ws v → (ps : List ℕ) → IsBuildOrder es [] ps → IsSound es ps (f ps v) (v ∷ [])) → IsSound es places (in_turn f places ws) ws
in_turn-sound es f places [] order sound = record { order = order; kept = λ k h. h; driven = λ v c. absurd (let h = c.1 in omega arith) }
in_turn-sound es f places (w ∷ ws) order sound =
    let once = sound w (0, omega arith, refl) places order in
    let rest = in_turn-sound es f (f places w) ws once.order (λ v c ps h. sound v (suc c.0, (let l = c.1 in omega arith), c.2) ps h) in
    record {
      order = rest.order;
      kept = λ k h. rest.kept k (once.kept k h);
      driven = split once rest;
    }
  where
    split : IsSound es places (f places w) (w ∷ []) → IsSound es (f places w) (in_turn f (f places w) ws) ws → AreDriven es (in_turn f (f places w) ws) (w ∷ ws)
    split once rest v (zero, low, is) k found = rest.kept k (once.driven v (0, omega arith, is) k found)
    split once rest v (suc i, low, is) k found = rest.driven v (i, omega arith, is) k found

driver-sound : (es : List EquationValue) (f : List ℕ → ℕ → List ℕ) (places : List ℕ) (w : ℕ) (o : Option ℕ) → place_from 0 es w ≡ o → IsBuildOrder es [] places → ((v : ℕ) → Reads es w v → (ps : List ℕ) → IsBuildOrder es [] ps → IsSound es ps (f ps v) (v ∷ [])) → IsSound es places (with_driver f es places o) (w ∷ [])
driver-sound es f places w None is order sound = record { order = order; kept = λ k h. h; driven = λ v c k found. let same = only w v c in let none : None ≡ Some k = sym is ∙ ap (place_from 0 es) same ∙ found in absurd cc }
  where
    only : (w v : ℕ) → Contains (w ∷ []) v → w ≡ v
    only w v (zero, low, e) = e
    only w v (suc i, low, e) = absurd (omega arith)
driver-sound es f places w (Some k) is order sound = by_test (is_among k places) refl
  where
    only : (w v : ℕ) → Contains (w ∷ []) v → w ≡ v
    only w v (zero, low, e) = e
    only w v (suc i, low, e) = absurd (omega arith)

    by_test : (b : Bool) → is_among k places ≡ b → IsSound es places (if b then places else (in_turn f places (operands_at es k) ++ k ∷ [])) (w ∷ [])
    by_test true there = record {
      order = order;
      kept = λ j h. h;
      driven = λ v c j found. let same : Some k ≡ Some j = sym is ∙ ap (place_from 0 es) (only w v c) ∙ found in let e : k ≡ j = cc in ap (λ i. is_among i places) (sym e) ∙ there;
    }
    by_test false missing =
        let r = in_turn-sound es f places (operands_at es k) order (λ v c ps h. sound v (driver-reads es w k v is c) ps h) in
        let now = in_turn f places (operands_at es k) in
        record {
          order = order-push es [] now k r.order r.driven;
          kept = λ j h. among-left j now (k ∷ []) (r.kept j h);
          driven = λ v c j found. let same : Some k ≡ Some j = sym is ∙ ap (place_from 0 es) (only w v c) ∙ found in let e : k ≡ j = cc in ap (λ i. is_among i (now ++ k ∷ [])) (sym e) ∙ among-last k now;
        }

taken-sound : (es : List EquationValue) (d w : ℕ) → IsShort es d w → (places : List ℕ) → IsBuildOrder es [] places → IsSound es places (taken d es places w) (w ∷ [])
unfolding taken
taken-sound es zero w short places order = absurd (let h = short [] tt in omega arith)
taken-sound es (suc d) w short places order = driver-sound es (taken d es) places w (place_from 0 es w) refl order (λ v reads ps h. taken-sound es d v (short_operand es d w v short reads) ps h)

pub order-sound : (c : CircuitValue) → IsCircuit c → IsSound c.equations [] (order_of c) (output_wires c.outputs)
unfolding order_of
order-sound c is = in_turn-sound c.equations (taken (suc (length c.equations)) c.equations) [] (output_wires c.outputs) tt (λ v has ps h. taken-sound c.equations (suc (length c.equations)) v (short_walks c is.acyclic v) ps h)
