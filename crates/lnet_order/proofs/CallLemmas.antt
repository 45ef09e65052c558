-- What the calls of the search leave.
use Rattle.std.proofs.Common.{◌≡◌, ℕ, zero, suc, ◌+◌, ◌<◌, ◌≤◌, ◌==◌, Bool, true, false, List, [], ◌∷◌, ◌++◌, length, get_or, take, drop, slice_get, Option, Some, None, Result, Ok, Err, OnOk, All, nat_eq, refl, sym, ap, subst, ◌∙◌, arith}
use Rattle.std.specs.Prelude.{if◌then◌else◌}
use Rattle.std.specs.HashMap.{get, HashMap, Updates}
use Rattle.std.specs.List.{AllByRecursion}
use Rattle.std.specs.declared.hash.FoldHasher.{FoldHasher}
use Rattle.std.specs.declared.hash.BuildHasherDefault.{BuildHasherDefault}
use Rattle.std.proofs.lemmas.List.{take_more, take_all, drop_all}
use Rattle.lnet_edge.specs.declared.circuit.Equation.{Equation}
use Rattle.lnet_edge.specs.declared.circuit.OutputPort.{OutputPort}
use Rattle.lnet_edge.specs.CircuitLists.{equation_view, equation_views}
use Rattle.lnet_edge.specs.Circuits.{CircuitValue, EquationValue}
use Rattle.lnet_edge.specs.Wires.{operand_wires, output_wires}
use Rattle.lnet_edge.specs.Searches.{operands_at}
use Rattle.lnet_edge.proofs.SearchLemmas.{operands_at-view}
use Rattle.lnet_edge.proofs.WireLemmas.{length-views}
use Rattle.lnet_order.specs.declared.ordering.Frame.{Frame}
use Rattle.lnet_order.specs.Orders.{place_from, is_among, in_turn, with_driver, taken, order_of}
use Rattle.lnet_order.specs.Paths.{AreWalksShort, IsMarked, AreWithin, opened, Advances}
use Rattle.lnet_order.proofs.PlaceLemmas.{place_from-push, place-within}
use Rattle.lnet_order.proofs.PathLemmas.{advances-next, advances-end, within-push, within-append, within-opened}

-- a map from wires to places
abbrev pub Drivers : Type 0
Drivers = HashMap ℕ ℕ (BuildHasherDefault FoldHasher)

view-at : (es : List Equation) (i : ℕ) (e : Equation) → i < length es → e ≡ get_or es i e → get_or (equation_views es) i (equation_view e) ≡ equation_view e
view-at [] i e h is = absurd (omega arith)
view-at (f ∷ es) zero e h is = ap equation_view (sym is)
view-at (f ∷ es) (suc i) e h is = view-at es i e (omega arith) is

length-first : {A : Type 0} (i : ℕ) (xs : List A) → i ≤ length xs → length (take i xs) ≡ i
length-first zero xs h = refl
length-first (suc i) [] h = absurd (omega arith)
length-first (suc i) (x ∷ xs) h = ap suc (length-first i xs (omega arith))

-- one equation more
pub places-next : (m n : Drivers) (es : List Equation) (i t : ℕ) (e : Equation) → i < length es → e ≡ get_or es i e → t ≡ e.target.0 → ((w : ℕ) → get nat_eq m w ≡ place_from 0 (take i (equation_views es)) w) → Updates nat_eq m n t (Some i) → (w : ℕ) → get nat_eq n w ≡ place_from 0 (take (i + 1) (equation_views es)) w
places-next m n es i t e low is target knows up w =
    let n_views = length-views es in
    let before = take i (equation_views es) in
    let long : 0 + length before ≡ i = (let k = length-first i (equation_views es) (omega arith) in omega arith) in
    up.0 w
    ∙ ap (λ o. if t == w then Some i else o) (knows w)
    ∙ ap (λ x. if x == w then Some i else place_from 0 before w) target
    ∙ ap (λ k. if e.target.0 == w then Some k else place_from 0 before w) (sym long)
    ∙ sym (place_from-push 0 before (equation_view e) w)
    ∙ ap (λ x. place_from 0 (before ++ x ∷ []) w) (sym (view-at es i e low is))
    ∙ ap (λ xs. place_from 0 xs w) (sym (take_more (equation_views es) i (equation_view e) (omega arith)))

-- an operand by its equation's place
operand-stands : (es : List Equation) (k i : ℕ) (e : Equation) (o : Option ℕ) → k < length es → e ≡ get_or es k e → o ≡ slice_get (operand_wires (equation_view e)) i → slice_get (operands_at (equation_views es) k) i ≡ o
operand-stands es k i e o low is at = ap (λ ws. slice_get ws i) (operands_at-view es k e low is) ∙ sym at

-- what a wire opens stands within the equations
pub driver-within : (m : Drivers) (es : List Equation) (w k : ℕ) → ((v : ℕ) → get nat_eq m v ≡ place_from 0 (equation_views es) v) → get nat_eq m w ≡ Some k → k < length es
driver-within m es w k knows is = let h = place-within w k (equation_views es) (sym (knows w) ∙ is) in let n = length-views es in omega arith

pub next-advances : {E : Type 0} (r : Result (Unit {0}) E) (m : Drivers) (es : List Equation) → ((v : ℕ) → get nat_eq m v ≡ place_from 0 (equation_views es) v) → AreWalksShort (equation_views es) → (marks : List Bool) (places : List ℕ) (count : ℕ) → IsMarked marks places count → (path once twice : List Frame) (f : Frame) (e : Equation) (w : ℕ) → f.place < length es → e ≡ get_or es f.place e → Some w ≡ slice_get (operand_wires (equation_view e)) f.next → once ≡ path ++ (record { place = f.place; next = f.next + 1 }) ∷ [] → OnOk r (twice ≡ once ++ opened marks (get nat_eq m w)) → OnOk r (Advances (equation_views es) places (path ++ f ∷ []) places twice)
next-advances (Ok u) m es knows short marks places count marked path once twice f e w low is at once_is twice_is =
    advances-next (equation_views es) short marks places count marked path once twice f w (operand-stands es f.place f.next e (Some w) low is at) once_is (twice_is ∙ ap (λ o. once ++ opened marks o) (knows w))
next-advances (Err x) m es knows short marks places count marked path once twice f e w low is at once_is twice_is = tt

pub next-within : {E : Type 0} (r : Result (Unit {0}) E) (m : Drivers) (es : List Equation) → ((v : ℕ) → get nat_eq m v ≡ place_from 0 (equation_views es) v) → (marks : List Bool) (path once twice : List Frame) (f : Frame) (w : ℕ) → f.place < length es → AreWithin (length es) path → once ≡ path ++ f ∷ [] → OnOk r (twice ≡ once ++ opened marks (get nat_eq m w)) → OnOk r (AreWithin (length es) twice)
next-within (Ok u) m es knows marks path once twice f w low within once_is twice_is =
    subst (AreWithin (length es)) (sym (twice_is ∙ ap (λ p. p ++ opened marks (get nat_eq m w)) once_is))
    (within-append (length es) (path ++ f ∷ []) (opened marks (get nat_eq m w)) (within-push (length es) path f within low) (within-opened (length es) marks (get nat_eq m w) (λ k is. driver-within m es w k knows is)))
next-within (Err x) m es knows marks path once twice f w low within once_is twice_is = tt

pub end-advances : (es : List Equation) (places places' : List ℕ) (path : List Frame) (f : Frame) (e : Equation) → f.place < length es → e ≡ get_or es f.place e → None ≡ slice_get (operand_wires (equation_view e)) f.next → places' ≡ places ++ f.place ∷ [] → Advances (equation_views es) places (path ++ f ∷ []) places' path
end-advances es places places' path f e low is none more = advances-end (equation_views es) places places' path f (operand-stands es f.place f.next e None low is none) more

-- ---- the outputs

in_turn-push : (f : List ℕ → ℕ → List ℕ) (places ws : List ℕ) (w : ℕ) → in_turn f places (ws ++ w ∷ []) ≡ f (in_turn f places ws) w
in_turn-push f places [] w = refl
in_turn-push f places (v ∷ ws) w = in_turn-push f (f places v) ws w

wire-at : (os : List OutputPort) (i : ℕ) (o : OutputPort) → i < length os → o ≡ get_or os i o → get_or (output_wires os) i 0 ≡ o.source.wire.0
wire-at [] i o h is = absurd (omega arith)
wire-at (x ∷ os) zero o h is = ap (λ (z : OutputPort). z.source.wire.0) (sym is)
wire-at (x ∷ os) (suc i) o h is = wire-at os i o (omega arith) is

length-wires : (os : List OutputPort) → length (output_wires os) ≡ length os
length-wires [] = refl
length-wires (o ∷ os) = ap suc (length-wires os)

-- one output more
pub outputs-next : (f : List ℕ → ℕ → List ℕ) (os : List OutputPort) (i : ℕ) (o : OutputPort) (before after : List ℕ) → i < length os → o ≡ get_or os i o → before ≡ in_turn f [] (take i (output_wires os)) → after ≡ f before o.source.wire.0 → after ≡ in_turn f [] (take (i + 1) (output_wires os))
outputs-next f os i o before after low is so_far next =
    let n = length-wires os in
    next
    ∙ ap (λ ps. f ps o.source.wire.0) so_far
    ∙ ap (f (in_turn f [] (take i (output_wires os)))) (sym (wire-at os i o low is))
    ∙ sym (in_turn-push f [] (take i (output_wires os)) (get_or (output_wires os) i 0))
    ∙ ap (in_turn f []) (sym (take_more (output_wires os) i 0 (omega arith)))

pub outputs-all : (f : List ℕ → ℕ → List ℕ) (os : List OutputPort) (i : ℕ) → length os ≤ i → in_turn f [] (take i (output_wires os)) ≡ in_turn f [] (output_wires os)
outputs-all f os i h = ap (in_turn f []) (take_all i (output_wires os) (let n = length-wires os in omega arith))

-- ---- the places of an order are those of equations

abbrev pub AllBelow : ℕ → List ℕ → Type 0
AllBelow n ks = AllByRecursion (λ k. k < n) ks

below-push : (n : ℕ) (ks : List ℕ) (k : ℕ) → AllBelow n ks → k < n → AllBelow n (ks ++ k ∷ [])
below-push n [] k h low = (low, tt)
below-push n (j ∷ ks) k h low = (h.0, below-push n ks k h.1 low)

in_turn-below : (n : ℕ) (f : List ℕ → ℕ → List ℕ) → ((places : List ℕ) (w : ℕ) → AllBelow n places → AllBelow n (f places w)) → (places ws : List ℕ) → AllBelow n places → AllBelow n (in_turn f places ws)
in_turn-below n f keeps places [] h = h
in_turn-below n f keeps places (w ∷ ws) h = in_turn-below n f keeps (f places w) ws (keeps places w h)

driver-below : (es : List EquationValue) (f : List ℕ → ℕ → List ℕ) → ((places : List ℕ) (w : ℕ) → AllBelow (length es) places → AllBelow (length es) (f places w)) → (places : List ℕ) (o : Option ℕ) → ((k : ℕ) → o ≡ Some k → k < length es) → AllBelow (length es) places → AllBelow (length es) (with_driver f es places o)
driver-below es f keeps places None low h = h
driver-below es f keeps places (Some k) low h = by_test (is_among k places)
  where
    by_test : (b : Bool) → AllBelow (length es) (if b then places else (in_turn f places (operands_at es k) ++ k ∷ []))
    by_test true = h
    by_test false = below-push (length es) (in_turn f places (operands_at es k)) k (in_turn-below (length es) f keeps places (operands_at es k) h) (low k refl)

taken-below : (es : List EquationValue) (d : ℕ) (places : List ℕ) (w : ℕ) → AllBelow (length es) places → AllBelow (length es) (taken d es places w)
unfolding taken
taken-below es zero places w h = h
taken-below es (suc d) places w h = driver-below es (taken d es) (λ ps v. taken-below es d ps v) places (place_from 0 es w) (λ k is. place-within w k es is) h

all-below : (n : ℕ) (ks : List ℕ) → AllBelow n ks → All (λ k. k < n) ks
all-below n [] h k d low = absurd (omega arith)
all-below n (j ∷ ks) h zero d low = h.0
all-below n (j ∷ ks) h (suc k) d low = all-below n ks h.1 k d (omega arith)

pub order-below : (c : CircuitValue) → All (λ k. k < length c.equations) (order_of c)
unfolding order_of
order-below c = all-below (length c.equations) (order_of c) (in_turn-below (length c.equations) (taken (suc (length c.equations)) c.equations) (λ ps w. taken-below c.equations (suc (length c.equations)) ps w) [] (output_wires c.outputs) tt)

-- a list written back whole
pub written-whole : {A : Type 0} (n : ℕ) {count : ℕ} (xs ys : List A) → length xs ≡ count → length ys ≡ count → n ≡ length ys → take n (xs ++ drop (length xs) ys) ≡ xs
written-whole {A} n xs ys new old is =
    ap (λ (zs : List A). take n (xs ++ zs)) (drop_all (length xs) ys (omega arith))
    ∙ ap (take n) (append-nil xs)
    ∙ take_all n xs (omega arith)
  where
    append-nil : (zs : List A) → zs ++ [] ≡ zs
    append-nil [] = refl
    append-nil (z ∷ zs) = ap (λ r. z ∷ r) (append-nil zs)
