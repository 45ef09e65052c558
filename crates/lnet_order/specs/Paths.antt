-- The path of the search: equations whose operands are being taken, the last met last, and what is left to do with them.
use Rattle.std.specs.Prelude.{◌≡◌, ℕ, zero, suc, ◌+◌, ◌<◌, Bool, false, List, [], ◌∷◌, ◌++◌, length, drop, slice_index_or, Option, None, Some, if◌then◌else◌}
use Rattle.lnet_edge.specs.Circuits.{EquationValue}
use Rattle.lnet_edge.specs.Wires.{IsWalk}
use Rattle.lnet_edge.specs.Searches.{operands_at}
use Rattle.lnet_order.specs.declared.ordering.Frame.{Frame}
use Rattle.lnet_order.specs.Orders.{place_from, is_among, in_turn, taken}

-- a walk has no more steps than there are equations
abbrev pub AreWalksShort : List EquationValue → Type 0
AreWalksShort es = (w : ℕ) (vs : List ℕ) → IsWalk es w vs → length vs < suc (length es)

-- a wire's equations are taken to the full depth
abbrev pub taking : List EquationValue → List ℕ → ℕ → List ℕ
taking es = taken (suc (length es)) es

-- the operands of the frame's equation that are still to be taken
abbrev pub left_of : List EquationValue → Frame → List ℕ
left_of es f = drop f.next (operands_at es f.place)

-- the places once the frame's equation is done
abbrev pub closed : List EquationValue → Frame → List ℕ → List ℕ
closed es f places = in_turn (taking es) places (left_of es f) ++ f.place ∷ []

-- the places once all frames are done, the last frame first
abbrev pub finished : List EquationValue → List ℕ → List Frame → List ℕ
finished es places [] = places
finished es places (f ∷ fs) = closed es f (finished es places fs)

-- the frames that a wire opens whose driver stands at this place, where the marks say which equations are done
abbrev pub opened : List Bool → Option ℕ → List Frame
opened marks None = []
opened marks (Some k) = if slice_index_or marks k false then [] else (record { place = k; next = 0 }) ∷ []

-- the marks of so many equations say which places are there
pub record IsMarked (marks : List Bool) (places : List ℕ) (count : ℕ) : Type 0 where
  pub sized : length marks ≡ count
  pub marked : (k : ℕ) → slice_index_or marks k false ≡ is_among k places

-- each frame's equation is one of so many
abbrev pub AreWithin : ℕ → List Frame → Type 0
AreWithin count [] = Unit {0}
AreWithin count (f ∷ fs) = (f.place < count) × AreWithin count fs

-- ---- how many steps are left

-- the steps of wires one after another, of each `steps` and one
abbrev pub steps_in_turn : (List ℕ → ℕ → List ℕ) → (List ℕ → ℕ → ℕ) → List ℕ → List ℕ → ℕ
steps_in_turn take steps places [] = 0
steps_in_turn take steps places (w ∷ ws) = 1 + steps places w + steps_in_turn take steps (take places w) ws

abbrev pub steps_by : (List ℕ → ℕ → List ℕ) → (List ℕ → ℕ → ℕ) → List EquationValue → List ℕ → Option ℕ → ℕ
steps_by take steps es places None = 0
steps_by take steps es places (Some k) = if is_among k places then 0 else (steps_in_turn take steps places (operands_at es k) + 1)

-- the steps that a wire takes, to the given depth: one for each operand, and one for each equation that is added
unfoldable pub steps_of : ℕ → List EquationValue → List ℕ → ℕ → ℕ
steps_of zero es places w = 0
steps_of (suc d) es places w = steps_by (taken d es) (steps_of d es) es places (place_from 0 es w)

-- the steps of a frame
abbrev pub frame_steps : List EquationValue → Frame → List ℕ → ℕ
frame_steps es f places = steps_in_turn (taking es) (steps_of (suc (length es)) es) places (left_of es f) + 1

-- the steps of all frames, the last frame first
abbrev pub steps_left : List EquationValue → List ℕ → List Frame → ℕ
steps_left es places [] = 0
steps_left es places (f ∷ fs) = frame_steps es f (finished es places fs) + steps_left es places fs

-- the search is a step further: what comes of it is the same
pub record Advances (es : List EquationValue) (places : List ℕ) (frames : List Frame) (new_places : List ℕ) (new_frames : List Frame) : Type 0 where
  pub same : finished es new_places new_frames ≡ finished es places frames
  pub fewer : steps_left es new_places new_frames < steps_left es places frames
