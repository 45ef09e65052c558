-- A cut's table at its leaves' values is the node's value.
use Rattle.std.proofs.Common.{◌≡◌, ℕ, ◌+◌, ◌*◌, ◌/◌, ◌%◌, ◌^◌, ◌<◌, Bool, true, false, cond, List, [], ◌∷◌}
use Rattle.std.proofs.Common.{map, length, eqb, ltb, leb, None, Some, refl, sym, ap, subst, ◌∙◌, inl, inr, arith}
use Rattle.std.proofs.lemmas.Nat.Bits.{bit_at_lowest}
use Rattle.std.proofs.lemmas.List.{length-map}
use Rattle.std.specs.Prelude.{⊤, ◌==◌}
use Rattle.std.proofs.lemmas.Bool.Decides.{eqb_tells}
use Rattle.lnet_gates.specs.declared.signal.Signal.{Signal}
use Rattle.lnet_gates.specs.Gates.{GateValue, flip, apply, row_of}
use Rattle.lnet_gates.specs.Lawful.LutTables.{row-below}
use Rattle.lnet_tables.specs.Inverse.{row_inside}
use Rattle.lnet_tables.specs.Bits.{row, tabulate, is_set}
use Rattle.lnet_model.specs.Networks.{Entry, Constant, Input, IsGate, NetworkValue, entry_at, fanins_of}
use Rattle.lnet_model.specs.Along.{In, Acyclic, fanin_nodes, at_entry, over}
use Rattle.lnet_model.specs.Values.{value_step, node_value}
use Rattle.lnet_model.specs.Cuts.{CutValue, union, union_of, put_in, bit_of_leaf, values_of, merged, cut_meaning, cuts, cut_step, constant_cut}
use Rattle.lnet_model.specs.Cuts.{trivial_cut, own_cut, choices, fanin_cuts, candidates, best}
use Rattle.lnet_model.proofs.Along.{Step}
use Rattle.lnet_model.proofs.Over.{over-once, along_induction}
use Rattle.lnet_model.proofs.Values.{gate_value}
use Rattle.lnet_cuts.proofs.Items.{Every, every-filter, every-take, every-append, every-map, every-flat_map, every-sorted}

pub over-at : {A : Type 0} (N : NetworkValue) (step : Step A) (none : A) → Acyclic N → (n : ℕ) (e : Entry) → entry_at N n ≡ Some e
    → over N step none n ≡ step n e (map {B = Signal × A} (λ (s : Signal). (s, over N step none s.node.0)) (fanins_of e))
over-at {A} N step none acyclic n e at = over-once N step none acyclic n ∙ ap (at_entry none (λ x. step n x (map {B = Signal × A} (λ (s : Signal). (s, over N step none s.node.0)) (fanins_of x)))) at

lowest : (n : ℕ) → is_set n 0 ≡ (n % 2 == 1)
unfolding is_set
lowest n = ap (λ z. z == 1) (bit_at_lowest n)

first_bit : (b : Bool) (t : ℕ) → is_set (cond b 1 0 + 2 * t) 0 ≡ b
first_bit true t = lowest (1 + 2 * t) ∙ ap (λ z. z == 1) (odd t)
  where
    odd : (t : ℕ) → (1 + 2 * t) % 2 ≡ 1
    odd t = omega arith
first_bit false t = lowest (0 + 2 * t) ∙ ap (λ z. z == 1) (even t)
  where
    even : (t : ℕ) → (0 + 2 * t) % 2 ≡ 0
    even t = omega arith

half : (b : Bool) (t : ℕ) → (cond b 1 0 + 2 * t) / 2 ≡ t
half true t = omega arith
half false t = omega arith

-- a leaf's bit of the row that V gives is V there
leaf-bit : (V : ℕ → Bool) (all : List ℕ) (x : ℕ) → In x all → bit_of_leaf (row_of (map V all)) all x ≡ V x
leaf-bit V [] x i = absurd i
leaf-bit V (y ∷ ys) x i =
    let r = row_of (map V ys) in
    elim (eqb_tells x y) as (λ _. bit_of_leaf (row_of (map V (y ∷ ys))) (y ∷ ys) x ≡ V x) [
      | inl p ↦
          ap (λ (b : Bool). elim b as (λ _. Bool) [ true ↦ is_set (cond (V y) 1 0 + 2 * r) 0 | false ↦ bit_of_leaf ((cond (V y) 1 0 + 2 * r) / 2) ys x ]) p.0 ∙ first_bit (V y) r ∙ ap V (sym p.1)
      | inr p ↦
          ap (λ (b : Bool). elim b as (λ _. Bool) [ true ↦ is_set (cond (V y) 1 0 + 2 * r) 0 | false ↦ bit_of_leaf ((cond (V y) 1 0 + 2 * r) / 2) ys x ]) p.0
          ∙ ap (λ z. bit_of_leaf z ys x) (half (V y) r)
          ∙ leaf-bit V ys x (elim i as (λ _. In x ys) [ inl e ↦ absurd (p.1 e) | inr j ↦ j ])
    ]

-- ---- unions

put_in-here : (x : ℕ) (ys : List ℕ) → In x (put_in x ys)
put_in-here x [] = inl refl
put_in-here x (y ∷ ys) =
    elim (ltb x y) as (λ b. In x (elim b as (λ _. List ℕ) [ true ↦ x ∷ y ∷ ys | false ↦ cond (eqb x y) (y ∷ ys) (y ∷ put_in x ys) ])) [
      | true ↦ inl refl
      | false ↦ elim (eqb_tells x y) as (λ _. In x (cond (eqb x y) (y ∷ ys) (y ∷ put_in x ys))) [
        | inl p ↦ subst (λ b. In x (cond b (y ∷ ys) (y ∷ put_in x ys))) (sym p.0) (inl p.1)
        | inr p ↦ subst (λ b. In x (cond b (y ∷ ys) (y ∷ put_in x ys))) (sym p.0) (inr (put_in-here x ys))
      ]
    ]

put_in-keeps : (x z : ℕ) (ys : List ℕ) → In z ys → In z (put_in x ys)
put_in-keeps x z [] i = absurd i
put_in-keeps x z (y ∷ ys) i =
    elim (ltb x y) as (λ b. In z (elim b as (λ _. List ℕ) [ true ↦ x ∷ y ∷ ys | false ↦ cond (eqb x y) (y ∷ ys) (y ∷ put_in x ys) ])) [
      | true ↦ inr i
      | false ↦ elim (eqb x y) as (λ b. In z (cond b (y ∷ ys) (y ∷ put_in x ys))) [
        | true ↦ i
        | false ↦ elim i as (λ _. In z (y ∷ put_in x ys)) [ inl e ↦ inl e | inr j ↦ inr (put_in-keeps x z ys j) ]
      ]
    ]

union-left : (x : ℕ) (xs ys : List ℕ) → In x xs → In x (union xs ys)
union-left x [] ys i = absurd i
union-left x (y ∷ xs) ys (inl e) = subst (λ z. In x (put_in z (union xs ys))) e (put_in-here x (union xs ys))
union-left x (y ∷ xs) ys (inr i) = put_in-keeps y x (union xs ys) (union-left x xs ys i)

union-right : (x : ℕ) (xs ys : List ℕ) → In x ys → In x (union xs ys)
union-right x [] ys i = i
union-right x (y ∷ xs) ys i = put_in-keeps y x (union xs ys) (union-right x xs ys i)

-- ---- a merged cut has its gate's meaning

bits-of : (V : ℕ → Bool) (all xs : List ℕ) → ((x : ℕ) → In x xs → In x all) → map (bit_of_leaf (row_of (map V all)) all) xs ≡ map V xs
bits-of V all [] within = refl
bits-of V all (x ∷ xs) within = λ i. leaf-bit V all x (within x (inl refl)) i ∷ bits-of V all xs (λ z j. within z (inr j)) i

-- each cut has its fanin's value
abbrev pub Mean : (ℕ → Bool) → List Signal → List CutValue → Type 0
Mean V [] [] = ⊤
Mean V [] (c ∷ cs) = ⊥
Mean V (s ∷ ss) [] = ⊥
Mean V (s ∷ ss) (c ∷ cs) = (cut_meaning V c ≡ V s.node.0) × Mean V ss cs

values-mean : (V : ℕ → Bool) (all : List ℕ) (ss : List Signal) (cs : List CutValue) → ((x : ℕ) → In x (union_of cs) → In x all) → Mean V ss cs
    → values_of all (row_of (map V all)) ss cs ≡ map (λ s. flip s.complement (V s.node.0)) ss
values-mean V all [] [] within m = refl
values-mean V all [] (c ∷ cs) within m = absurd m
values-mean V all (s ∷ ss) [] within m = absurd m
values-mean V all (s ∷ ss) (c ∷ cs) within m = λ i.
    flip s.complement ((ap (λ bs. row c.table (row_of bs)) (bits-of V all c.leaves (λ x j. within x (union-left x c.leaves (union_of cs) j))) ∙ m.0) i)
    ∷ values-mean V all ss cs (λ x j. within x (union-right x c.leaves (union_of cs) j)) m.1 i

pub merged-meaning : (V : ℕ → Bool) (g : GateValue) (cs : List CutValue) → Mean V g.fanins cs → cut_meaning V (merged g cs) ≡ apply g.op g.phase (map (λ s. flip s.complement (V s.node.0)) g.fanins)
merged-meaning V g cs m =
    let all = union_of cs in
    let r = row_of (map V all) in
    row_inside (length all) (λ r. apply g.op g.phase (values_of all r g.fanins cs)) r (subst (λ n. r < 2 ^ n) (length-map all V) (row-below (map V all)))
    ∙ ap (apply g.op g.phase) (values-mean V all g.fanins cs (λ x i. i) m)

-- each list has cuts of its fanin's value
abbrev pub AllMean : (ℕ → Bool) → List Signal → List (List CutValue) → Type 0
AllMean V [] [] = ⊤
AllMean V [] (cs ∷ css) = ⊥
AllMean V (s ∷ ss) [] = ⊥
AllMean V (s ∷ ss) (cs ∷ css) = Every (λ c. cut_meaning V c ≡ V s.node.0) cs × AllMean V ss css

choices-mean : (V : ℕ → Bool) (ss : List Signal) (css : List (List CutValue)) → AllMean V ss css → Every (Mean V ss) (choices css)
choices-mean V [] [] h = (tt, tt)
choices-mean V [] (cs ∷ css) h = absurd h
choices-mean V (s ∷ ss) [] h = absurd h
choices-mean V (s ∷ ss) (cs ∷ css) h =
    every-flat_map (λ c. cut_meaning V c ≡ V s.node.0) (Mean V (s ∷ ss)) (λ c. map (λ ds. c ∷ ds) (choices css)) cs
    (λ c m. every-map (Mean V ss) (Mean V (s ∷ ss)) (λ ds. c ∷ ds) (choices css) (λ ds k. (m, k)) (choices-mean V ss css h.1)) h.0

trivial-meaning : (V : ℕ → Bool) (n : ℕ) → cut_meaning V (trivial_cut n) ≡ V n
trivial-meaning V n = row_inside 1 (λ r. is_set r 0) (row_of (V n ∷ [])) (row-below (V n ∷ [])) ∙ first_bit (V n) 0

own-meaning : (V : ℕ → Bool) → V 0 ≡ false → (n : ℕ) → cut_meaning V (own_cut n) ≡ V n
unfolding tabulate
own-meaning V off n =
    elim (eqb_tells n 0) as (λ _. cut_meaning V (own_cut n) ≡ V n) [
      | inl p ↦ ap (λ b. cut_meaning V (cond b constant_cut (trivial_cut n))) p.0 ∙ sym (ap V p.1 ∙ off)
      | inr p ↦ ap (λ b. cut_meaning V (cond b constant_cut (trivial_cut n))) p.0 ∙ trivial-meaning V n
    ]

lists-mean : (V : ℕ → Bool) (lists : ℕ → List CutValue) (ss : List Signal) → ((m : ℕ) → In m (map (λ (s : Signal). s.node.0) ss) → Every (λ c. cut_meaning V c ≡ V m) (lists m))
    → AllMean V ss (map (λ r. r.1) (map {B = Signal × List CutValue} (λ s. (s, lists s.node.0)) ss))
lists-mean V lists [] h = tt
lists-mean V lists (s ∷ ss) h = (h s.node.0 (inl refl), lists-mean V lists ss (λ m i. h m (inr i)))

own-mean : (V : ℕ → Bool) → V 0 ≡ false → (lists : ℕ → List CutValue) (ss : List Signal)
    → AllMean V ss (map (λ r. own_cut r.0.node.0 ∷ []) (map {B = Signal × List CutValue} (λ s. (s, lists s.node.0)) ss))
own-mean V off lists [] = tt
own-mean V off lists (s ∷ ss) = ((own-meaning V off s.node.0, tt), own-mean V off lists ss)

-- each cut of a node has the node's value
pub cuts-sound : (N : NetworkValue) (a : ℕ → Bool) (size limit : ℕ) → Acyclic N → node_value N a 0 ≡ false → (n : ℕ)
    → Every (λ c. cut_meaning (node_value N a) c ≡ node_value N a n) (cuts N size limit n)
unfolding tabulate
cuts-sound N a size limit acyclic first =
    let V = node_value N a in
    let K : ℕ → List CutValue = λ m. cuts N size limit m in
    let P : ℕ → Type 0 = λ n. Every (λ c. cut_meaning V c ≡ V n) (K n) in
    along_induction N P acyclic (λ n below.
    elim (entry_at N n) as (λ o. entry_at N n ≡ o → ((m : ℕ) → In m (fanin_nodes o) → P m) → P n) [
      | None ↦ λ at _. subst (Every (λ c. cut_meaning V c ≡ V n))
          (sym (over-once N (cut_step size limit) [] acyclic n ∙ ap (at_entry [] (λ e. cut_step size limit n e (map {B = Signal × List CutValue} (λ s. (s, K s.node.0)) (fanins_of e)))) at))
          tt
      | Some e ↦ elim e as (λ e. entry_at N n ≡ Some e → ((m : ℕ) → In m (map (λ (s : Signal). s.node.0) (fanins_of e)) → P m) → P n) [
        | Constant ↦ λ at _. subst (Every (λ c. cut_meaning V c ≡ V n)) (sym (over-at N (cut_step size limit) [] acyclic n Constant at))
            (sym (over-at N (value_step a) false acyclic n Constant at), tt)
        | Input k ↦ λ at _. subst (Every (λ c. cut_meaning V c ≡ V n)) (sym (over-at N (cut_step size limit) [] acyclic n (Input k) at)) (trivial-meaning V n, tt)
        | IsGate g ↦ λ at up.
            let rs = map {B = Signal × List CutValue} (λ s. (s, K s.node.0)) g.fanins in
            let Q : CutValue → Type 0 = λ c. cut_meaning V c ≡ V n in
            let means : AllMean V g.fanins (fanin_cuts rs) = elim (leb (length rs) 3) as
            (λ b. AllMean V g.fanins (elim b as (λ _. List (List CutValue)) [ true ↦ map (λ r. r.1) rs | false ↦ map (λ r. own_cut r.0.node.0 ∷ []) rs ]))
            [ true ↦ lists-mean V K g.fanins up | false ↦ own-mean V first K g.fanins ] in
            let merges : Every Q (candidates size g rs) = every-map (Mean V g.fanins) Q (merged g) _ (λ cs m. merged-meaning V g cs m
            ∙ sym (gate_value N a n g acyclic at)) (every-filter (Mean V g.fanins) _ _ (choices-mean V g.fanins (fanin_cuts rs) means)) in
            subst (Every Q) (sym (over-at N (cut_step size limit) [] acyclic n (IsGate g) at))
            (every-append Q (best limit (candidates size g rs)) (trivial_cut n ∷ []) (every-take Q limit _ (every-sorted Q _ (every-filter Q _ (candidates size g rs) merges)))
            (trivial-meaning V n, tt))
      ]
    ] refl below)
