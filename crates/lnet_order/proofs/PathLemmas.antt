-- What is left of the search as it goes a step further.
use Rattle.std.proofs.Common.{◌≡◌, ℕ, zero, suc, ◌+◌, ◌<◌, Bool, true, false, List, [], ◌∷◌, ◌++◌, length, drop, get_or, slice_get, Option, Some, None, refl, sym, ap, ◌∙◌, arith}
use Rattle.std.specs.Prelude.{if◌then◌else◌}
use Rattle.std.proofs.Math.Seq.{drop-cons}
use Rattle.std.proofs.lemmas.Option.{slice_get_within, get_or_from_slice_get}
use Rattle.lnet_edge.specs.Circuits.{EquationValue}
use Rattle.lnet_edge.specs.Searches.{operands_at}
use Rattle.lnet_edge.proofs.ValueLemmas.{short_operand}
use Rattle.lnet_order.specs.declared.ordering.Frame.{Frame}
use Rattle.lnet_order.specs.Orders.{place_from, is_among, in_turn, with_driver, taken}
use Rattle.lnet_order.specs.Paths.{AreWalksShort, taking, left_of, closed, finished, opened, IsMarked, AreWithin, steps_in_turn, steps_by, steps_of, frame_steps, steps_left, Advances}
use Rattle.lnet_order.proofs.PlaceLemmas.{driver-reads, in_turn-same, steps_in_turn-same, taken-deeper, steps-deeper}

pub finished-append : (es : List EquationValue) (places : List ℕ) (fs gs : List Frame) → finished es places (fs ++ gs) ≡ finished es (finished es places gs) fs
finished-append es places [] gs = refl
finished-append es places (f ∷ fs) gs = ap (closed es f) (finished-append es places fs gs)

pub steps_left-append : (es : List EquationValue) (places : List ℕ) (fs gs : List Frame) → steps_left es places (fs ++ gs) ≡ steps_left es (finished es places gs) fs + steps_left es places gs
steps_left-append es places [] gs = omega arith
steps_left-append es places (f ∷ fs) gs =
    let e = ap (frame_steps es f) (finished-append es places fs gs) in
    let r = steps_left-append es places fs gs in
    omega arith

module _ (es : List EquationValue) (short : AreWalksShort es) (marks : List Bool) (places : List ℕ) (count : ℕ) (marked : IsMarked marks places count) (w : ℕ) where
  -- what a wire opens takes what the wire takes
  pub finished-opened : finished es places (opened marks (place_from 0 es w)) ≡ taking es places w
  unfolding taken
  finished-opened = go (place_from 0 es w) refl
    where
      by_test : (k : ℕ) → place_from 0 es w ≡ Some k → (b : Bool) → finished es places (if b then [] else (record { place = k; next = 0 }) ∷ []) ≡ (if b then places else in_turn (taken (length es) es) places (operands_at es k) ++ k ∷ [])
      by_test k is true = refl
      by_test k is false =
          ap (λ ps. ps ++ k ∷ []) (in_turn-same (taken (suc (length es)) es) (taken (length es) es) places (operands_at es k)
          (λ v c ps. taken-deeper es (length es) v (short_operand es (length es) w v (short w) (driver-reads es w k v is c)) ps))

      go : (o : Option ℕ) → place_from 0 es w ≡ o → finished es places (opened marks o) ≡ with_driver (taken (length es) es) es places o
      go None is = refl
      go (Some k) is = ap (λ b. finished es places (if b then [] else (record { place = k; next = 0 }) ∷ [])) (marked.marked k) ∙ by_test k is (is_among k places)

  pub steps-opened : steps_left es places (opened marks (place_from 0 es w)) ≡ steps_of (suc (length es)) es places w
  unfolding steps_of
  steps-opened = go (place_from 0 es w) refl
    where
      by_test : (k : ℕ) → place_from 0 es w ≡ Some k → (b : Bool) → steps_left es places (if b then [] else (record { place = k; next = 0 }) ∷ []) ≡ (if b then 0 else (steps_in_turn (taken (length es) es) (steps_of (length es) es) places (operands_at es k) + 1))
      by_test k is true = refl
      by_test k is false =
          let same = steps_in_turn-same (taken (suc (length es)) es) (taken (length es) es) (steps_of (suc (length es)) es) (steps_of (length es) es) places (operands_at es k)
          (λ v c ps. taken-deeper es (length es) v (short_operand es (length es) w v (short w) (driver-reads es w k v is c)) ps)
          (λ v c ps. steps-deeper es (length es) v (short_operand es (length es) w v (short w) (driver-reads es w k v is c)) ps) in
          omega arith

      go : (o : Option ℕ) → place_from 0 es w ≡ o → steps_left es places (opened marks o) ≡ steps_by (taken (length es) es) (steps_of (length es) es) es places o
      go None is = refl
      go (Some k) is = ap (λ b. steps_left es places (if b then [] else (record { place = k; next = 0 }) ∷ [])) (marked.marked k) ∙ by_test k is (is_among k places)

-- ---- the frame's next operand

-- the frame of an equation of which so many operands are taken
abbrev frame_at : ℕ → ℕ → Frame
frame_at k i = record { place = k; next = i }

left-next : (es : List EquationValue) (f : Frame) (w : ℕ) → slice_get (operands_at es f.place) f.next ≡ Some w → left_of es f ≡ w ∷ left_of es (frame_at f.place (f.next + 1))
left-next es f w is =
    let ws = operands_at es f.place in
    let more : suc f.next ≡ f.next + 1 = omega arith in
    drop-cons ws f.next w (slice_get_within ws f.next w is)
    ∙ ap (λ x. x ∷ drop (suc f.next) ws) (get_or_from_slice_get ws f.next w w is)
    ∙ ap (λ j. w ∷ drop j ws) more

left-none : (ws : List ℕ) (i : ℕ) → slice_get ws i ≡ None → drop i ws ≡ []
left-none [] zero h = refl
left-none [] (suc i) h = refl
left-none (w ∷ ws) zero h = absurd cc
left-none (w ∷ ws) (suc i) h = left-none ws i h

-- an operand is taken: the frame waits behind what the operand opens
pub advances-next : (es : List EquationValue) → AreWalksShort es → (marks : List Bool) (places : List ℕ) (count : ℕ) → IsMarked marks places count → (path once twice : List Frame) (f : Frame) (w : ℕ) → slice_get (operands_at es f.place) f.next ≡ Some w → once ≡ path ++ frame_at f.place (f.next + 1) ∷ [] → twice ≡ once ++ opened marks (place_from 0 es w) → Advances es places (path ++ f ∷ []) places twice
advances-next es short marks places count marked path once twice f w is once_is twice_is =
    let g = frame_at f.place (f.next + 1) in
    let left = left-next es f w is in
    let opens = finished-opened es short marks places count marked w in
    let steps = steps-opened es short marks places count marked w in
    let all : twice ≡ (path ++ g ∷ []) ++ opened marks (place_from 0 es w) = twice_is ∙ ap (λ p. p ++ opened marks (place_from 0 es w)) once_is in
    let after : finished es (taking es places w) (path ++ g ∷ []) ≡ finished es (closed es g (taking es places w)) path = finished-append es (taking es places w) path (g ∷ []) in
    let before : finished es places (path ++ f ∷ []) ≡ finished es (closed es f places) path = finished-append es places path (f ∷ []) in
    let close : closed es f places ≡ closed es g (taking es places w) = ap (λ ws. in_turn (taking es) places ws ++ f.place ∷ []) left in
    let cost : frame_steps es f places ≡ 1 + steps_of (suc (length es)) es places w + frame_steps es g (taking es places w) = ap (λ ws. steps_in_turn (taking es) (steps_of (suc (length es)) es) places ws + 1) left ∙ omega arith in
    let n_all = ap (steps_left es places) all ∙ steps_left-append es places (path ++ g ∷ []) (opened marks (place_from 0 es w)) ∙ ap (λ ps. steps_left es ps (path ++ g ∷ []) + steps_left es places (opened marks (place_from 0 es w))) opens in
    let n_after = steps_left-append es (taking es places w) path (g ∷ []) in
    let n_before = steps_left-append es places path (f ∷ []) ∙ ap (λ ps. steps_left es ps path + steps_left es places (f ∷ [])) close in
    record {
      same = ap (finished es places) all ∙ finished-append es places (path ++ g ∷ []) (opened marks (place_from 0 es w)) ∙ ap (λ ps. finished es ps (path ++ g ∷ [])) opens ∙ after ∙ ap (λ ps. finished es ps path) (sym close) ∙ sym before;
      fewer = omega arith;
    }

-- no operand is left: the equation is done
pub advances-end : (es : List EquationValue) (places places' : List ℕ) (path : List Frame) (f : Frame) → slice_get (operands_at es f.place) f.next ≡ None → places' ≡ places ++ f.place ∷ [] → Advances es places (path ++ f ∷ []) places' path
advances-end es places places' path f none is =
    let left = left-none (operands_at es f.place) f.next none in
    let close : closed es f places ≡ places' = ap (λ ws. in_turn (taking es) places ws ++ f.place ∷ []) left ∙ sym is in
    let before : finished es places (path ++ f ∷ []) ≡ finished es (closed es f places) path = finished-append es places path (f ∷ []) in
    let n_before = steps_left-append es places path (f ∷ []) ∙ ap (λ ps. steps_left es ps path + steps_left es places (f ∷ [])) close in
    record { same = sym (before ∙ ap (λ ps. finished es ps path) close); fewer = omega arith }

-- ---- marks and frames

pub within-push : (count : ℕ) (fs : List Frame) (f : Frame) → AreWithin count fs → f.place < count → AreWithin count (fs ++ f ∷ [])
within-push count [] f h low = (low, tt)
within-push count (g ∷ fs) f h low = (h.0, within-push count fs f h.1 low)

pub within-append : (count : ℕ) (fs gs : List Frame) → AreWithin count fs → AreWithin count gs → AreWithin count (fs ++ gs)
within-append count [] gs h k = k
within-append count (f ∷ fs) gs h k = (h.0, within-append count fs gs h.1 k)

pub within-pop : (count : ℕ) (fs : List Frame) (f : Frame) → AreWithin count (fs ++ f ∷ []) → AreWithin count fs × (f.place < count)
within-pop count [] f h = (tt, h.0)
within-pop count (g ∷ fs) f h = let r = within-pop count fs f h.1 in ((h.0, r.0), r.1)

pub within-opened : (count : ℕ) (marks : List Bool) (o : Option ℕ) → ((k : ℕ) → o ≡ Some k → k < count) → AreWithin count (opened marks o)
within-opened count marks None low = tt
within-opened count marks (Some k) low = by_test (get_or marks k false)
  where
    by_test : (b : Bool) → AreWithin count (if b then [] else (record { place = k; next = 0 }) ∷ [])
    by_test true = tt
    by_test false = (low k refl, tt)
