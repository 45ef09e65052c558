-- The outputs under one assignment, by lane 0 of the words.
use Rattle.std.proofs.Common.{◌≡◌, ℕ, zero, suc, ◌+◌, ◌^◌, ◌/◌, ◌<◌, ◌≤◌, Bool, true, false, List, [], ◌∷◌, ◌++◌, length, map, take, get_or, All, None, Some, Result, Ok, Err, IfOk, slice_get, eqb, bit_and, refl, sym, ap, subst, ◌∙◌, inl, inr, arith, take_all, add-one, lit<}
use mir.Val.{bool_byte}
use Rattle.std.proofs.lemmas.Bool.{cases_lt}
use Rattle.std.proofs.lemmas.List.{get_or-map, length-map}
use Rattle.lnet_tables.specs.Bits.{is_set}
use Rattle.lnet_tables.proofs.Constants.{test_bit}
use Rattle.lnet_gates.specs.declared.signal.Node.{Node}
use Rattle.lnet_gates.specs.declared.signal.Signal.{Signal}
use Rattle.lnet_gates.specs.Gates.{flip}
use Rattle.lnet_model.specs.Networks.{NetworkValue}
use Rattle.lnet_model.specs.Dags.{IsStored, numbers_of}
use Rattle.lnet_model.specs.Values.{signal_value, network_outputs}
use Rattle.lnet_model.proofs.Numbers.{live-below-numbers}
use Rattle.lnet_model.proofs.Values.{map-same}
use Rattle.lnet_simulate.specs.Assignments.{assignment}
use Rattle.lnet_simulate.specs.Cones.{IsListed}
use Rattle.lnet_simulate.specs.Lanes.{lane, lane_of, IsRight}
use Rattle.lnet_simulate.proofs.FaninLemmas.{in-read}
use Rattle.lnet_simulate.proofs.PathLemmas.{pushed-left, pushed-last}
use Rattle.lnet_simulate.proofs.ValueLemmas.{same-values}

-- ---- one output more

take-suc-map : {A B : Type 0} (f : A → B) (xs : List A) (k : ℕ) (x : A) → slice_get xs k ≡ Some x → take (suc k) (map f xs) ≡ take k (map f xs) ++ f x ∷ []
take-suc-map f [] k x at = absurd (let z : None ≡ Some x = at in cc)
take-suc-map f (y ∷ ys) zero x at = let z : Some y ≡ Some x = at in let e : y ≡ x = cc in λ i. f (e i) ∷ []
take-suc-map f (y ∷ ys) (suc k) x at = ap (λ zs. f y ∷ zs) (take-suc-map f ys k x at)

pub take-more-map : {A B : Type 0} (f : A → B) (xs : List A) (k : ℕ) (x : A) → slice_get xs k ≡ Some x → take (k + 1) (map f xs) ≡ take k (map f xs) ++ f x ∷ []
take-more-map f xs k x at = ap (λ j. take j (map f xs)) (add-one k) ∙ take-suc-map f xs k x at

pub take-all-map : {A B : Type 0} (f : A → B) (xs : List A) (k : ℕ) → length xs ≤ k → take k (map f xs) ≡ map f xs
take-all-map f xs k all = let n = length-map xs f in take_all k (map f xs) (omega arith)

-- ---- the nodes of the outputs

abbrev none : Signal
none = record { node = record { 0 = 0 }; complement = false }

abbrev pub nodes_of : List Signal → List Node
nodes_of ss = map (λ (s : Signal). s.node) ss

pub outputs-below : (N : NetworkValue) (roots : List Node) → IsStored N → roots ≡ nodes_of N.outputs → All (λ (n : Node). n.0 < numbers_of N) roots
outputs-below N roots stored is = subst (All (λ (n : Node). n.0 < numbers_of N)) (sym is) each
  where
    each : (k : ℕ) (d : Node) → k < length (nodes_of N.outputs) → (get_or (nodes_of N.outputs) k d).0 < numbers_of N
    each k d low =
        let n = length-map N.outputs (λ (s : Signal). s.node) in
        let within : k < length N.outputs = omega arith in
        subst (λ (q : Node). q.0 < numbers_of N) (sym (get_or-map (λ (s : Signal). s.node) N.outputs k none d within))
        (live-below-numbers N (get_or N.outputs k none).node.0 (stored.whole.outputs_live (get_or N.outputs k none).node.0 (in-read N.outputs k none within)))

pub outputs-listed : (outs : List Signal) (roots order : List Node) → roots ≡ nodes_of outs → All (λ (n : Node). IsListed order n.0) roots → All (λ (s : Signal). IsListed order s.node.0) outs
outputs-listed outs roots order is listed = λ k d low.
    let all : All (λ (n : Node). IsListed order n.0) (nodes_of outs) = subst (All (λ (n : Node). IsListed order n.0)) is listed in
    let n = length-map outs (λ (t : Signal). t.node) in
    let node : get_or (nodes_of outs) k d.node ≡ (get_or outs k d).node = get_or-map (λ (t : Signal). t.node) outs k d d.node low in
    subst (λ (q : Node). IsListed order q.0) node (all k d.node (omega arith))

pub if-ok : {A E : Type 0} (r : Result A E) (P Q : A → Type 0) → ((x : A) → P x → Q x) → IfOk r P → IfOk r Q
if-ok (Ok x) P Q f p = f x p
if-ok (Err e) P Q f p = p

-- ---- lane 0

first-bit : (w : ℕ) → eqb (bit_and w 1) 1 ≡ is_set w 0
first-bit w = let e : w / 2 ^ 0 ≡ w = omega arith in ap (λ v. eqb (bit_and v 1) 1) (sym e) ∙ test_bit w 0

pub output-bit : (ws : List ℕ) (s : Signal) (w : ℕ) → ((j : ℕ) → j < 64 → is_set w j ≡ lane_of ws j s) → eqb (bit_and w 1) 1 ≡ lane_of ws 0 s
output-bit ws s w at = first-bit w ∙ at 0 (lit< tt)

-- the outputs in lane 0 are those under its assignment
pub outputs-lane : (N : NetworkValue) (inputs ws : List ℕ) (order : List Node) → ((n : ℕ) → IsListed order n → IsRight N inputs ws n) → All (λ (s : Signal). IsListed order s.node.0) N.outputs
    → map (lane_of ws 0) N.outputs ≡ network_outputs N (lane inputs 0)
unfolding network_outputs
outputs-lane N inputs ws order right listed = each N.outputs listed
  where
    each : (ss : List Signal) → All (λ (s : Signal). IsListed order s.node.0) ss → map (lane_of ws 0) ss ≡ map (signal_value N (lane inputs 0)) ss
    each [] all = refl
    each (s ∷ ss) all = λ i. flip s.complement (right s.node.0 (all 0 s (omega arith)) 0 (lit< tt) i) ∷ each ss (λ k d low. all (suc k) d (omega arith)) i

-- they are those under each assignment that agrees at the inputs
pub outputs-same : (N : NetworkValue) (a b : ℕ → Bool) → IsStored N → ((k : ℕ) → k < length N.inputs → a k ≡ b k) → network_outputs N a ≡ network_outputs N b
unfolding network_outputs
outputs-same N a b stored same = map-same (signal_value N a) (signal_value N b) N.outputs (λ (s : Signal). ap (flip s.complement) (same-values N a b stored same s.node.0))

bit-lane : (b : Bool) → is_set (bool_byte b) 0 ≡ b
unfolding is_set
bit-lane true = refl
bit-lane false = refl

-- one input more
pub lanes-more : (words : List ℕ) (bits : List Bool) (i w : ℕ) (b : Bool) → length words ≡ i → w ≡ bool_byte b → b ≡ assignment bits i
    → ((k : ℕ) → k < i → lane words 0 k ≡ assignment bits k) → (k : ℕ) → k < i + 1 → lane (words ++ w ∷ []) 0 k ≡ assignment bits k
lanes-more words bits i w b sized is bit old k below = elim (cases_lt k i) as (λ _. lane (words ++ w ∷ []) 0 k ≡ assignment bits k) [
  | inl low ↦ ap (λ (v : ℕ). is_set v 0) (pushed-left words w k 0 (omega arith)) ∙ old k low
  | inr high ↦
      let last : k ≡ length words = omega arith in
      let here : k ≡ i = omega arith in
      ap (λ (v : ℕ). is_set v 0) (pushed-last words w k 0 last ∙ is) ∙ bit-lane b ∙ bit ∙ ap (assignment bits) (sym here)
]
