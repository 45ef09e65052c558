-- How a change of one number changes the references, and how many there are.
use Rattle.std.proofs.Common.{◌≡◌, ◌≢◌, ℕ, zero, suc, ◌+◌, ◌*◌, ◌<◌, ◌≤◌, max, true, false, cond, eqb, List, [], ◌∷◌, ◌++◌, length, Option, None, Some, refl, sym, ap, ◌∙◌, inl, inr, arith, length-append}
use Rattle.std.specs.Prelude.{count_by}
use Rattle.std.specs.List.{flat_map}
use Rattle.std.proofs.lemmas.Bool.Decides.{eqb_tells}
use Rattle.std.proofs.lemmas.List.Sums.{sum_by-cons, count_by-le-length}
use Rattle.std.specs.FinMap.{entries}
use Rattle.lnet_gates.specs.declared.signal.Signal.{Signal}
use Rattle.lnet_gates.specs.declared.gate.Op.{Op}
use Rattle.lnet_gates.specs.declared.gate.Op.TheVariants.{And, Xor, Maj, Lut}
use Rattle.lnet_gates.specs.Plans.{Takes}
use Rattle.lnet_model.specs.Networks.{Entry, Constant, Input, IsGate, NetworkValue, Lookup, entry_at, fanins_of}
use Rattle.lnet_model.specs.Along.{at_entry}
use Rattle.lnet_model.specs.Fanouts.{fan, references, slots_naming}
use Rattle.lnet_model.specs.Dags.{IsStored, numbers_of, NUMBERS, OUTPUTS}
use Rattle.lnet_model.proofs.Numbers.{live-below-numbers, numbers-at-most}
use Rattle.lnet_model.proofs.Rising.{by_number, entries-by_number}

-- how many of the signals name n
abbrev pub naming : ℕ → List Signal → ℕ
naming n ss = count_by (λ (s : Signal). eqb s.node.0 n) ss

-- how many fanins of an entry name n
abbrev pub names_in : ℕ → Option Entry → ℕ
names_in n o = naming n (at_entry [] fanins_of o)

slots-count : (n p j : ℕ) (ss : List Signal) → length (slots_naming n p j ss) ≡ naming n ss
slots-count n p j [] = refl
slots-count n p j (s ∷ ss) =
    let rest = slots-count n p (suc j) ss in
    let both = sum_by-cons (λ (s : Signal). cond (eqb s.node.0 n) 1 0) s ss in
    elim (eqb s.node.0 n) as (λ b. length (cond b ((p, j) ∷ slots_naming n p (suc j) ss) (slots_naming n p (suc j) ss)) ≡ cond b 1 0 + naming n ss) [
      | true ↦ omega arith
      | false ↦ omega arith
    ] ∙ sym both

-- the pairs of the slots of m
abbrev pairs_of : ℕ → ℕ → Entry → List (ℕ × ℕ)
pairs_of n m e = slots_naming n m 0 (fanins_of e)

pairs-count : (n m : ℕ) (o : Option Entry) → length (at_entry [] (pairs_of n m) o) ≡ names_in n o
pairs-count n m None = refl
pairs-count n m (Some e) = slots-count n m 0 (fanins_of e)

same-after : (n : ℕ) (g h : Lookup) (p k a : ℕ) → ((m : ℕ) → m ≢ p → g m ≡ h m) → p < a → by_number g (pairs_of n) a k ≡ by_number h (pairs_of n) a k
same-after n g h p zero a same lt = refl
same-after n g h p (suc k) a same lt =
    let ne : a ≢ p = omega arith in
    ap (λ o. at_entry [] (pairs_of n a) o ++ by_number g (pairs_of n) (suc a) k) (same a ne) ∙ ap (λ zs. at_entry [] (pairs_of n a) (h a) ++ zs) (same-after n g h p k (suc a) same (omega arith))

changed-at : (n : ℕ) (g h : Lookup) (p k a : ℕ) → ((m : ℕ) → m ≢ p → g m ≡ h m) → a ≤ p → p < a + k → length (by_number g (pairs_of n) a k) + names_in n (h p) ≡ length (by_number h (pairs_of n) a k) + names_in n (g p)
changed-at n g h p zero a same le lt = absurd (omega arith)
changed-at n g h p (suc k) a same le lt =
    let left = length-append (at_entry [] (pairs_of n a) (g a)) (by_number g (pairs_of n) (suc a) k) in
    let right = length-append (at_entry [] (pairs_of n a) (h a)) (by_number h (pairs_of n) (suc a) k) in
    let lone = pairs-count n a (g a) in
    let rone = pairs-count n a (h a) in
    elim (eqb_tells a p) as (λ _. length (by_number g (pairs_of n) a (suc k)) + names_in n (h p) ≡ length (by_number h (pairs_of n) a (suc k)) + names_in n (g p)) [
      | inl e ↦ (
          let past : p < suc a = (let is = e.1 in omega arith) in
          let rest = ap (λ zs. length zs) (same-after n g h p k (suc a) same past) in
          let gp = ap (λ z. names_in n (g z)) e.1 in
          let hp = ap (λ z. names_in n (h z)) e.1 in
          omega arith
          )
      | inr e ↦ (
          let rest = changed-at n g h p k (suc a) same (let ne = e.1 in omega arith) (omega arith) in
          let here = ap (names_in n) (same a e.1) in
          omega arith
          )
    ]

fan-upto : (N : NetworkValue) (n k : ℕ) → numbers_of N ≤ k → fan N n ≡ by_number (entry_at N) (pairs_of n) 0 k
unfolding fan entry_at
fan-upto N n k le = entries-by_number (pairs_of n) N.nodes k (λ q h. let lt = live-below-numbers N q h in omega arith)

-- networks that differ at p alone
pub references-changed : (M N : NetworkValue) (p : ℕ) → ((q : ℕ) → q ≢ p → entry_at M q ≡ entry_at N q) → M.outputs ≡ N.outputs → (n : ℕ) → references M n + names_in n (entry_at N p) ≡ references N n + names_in n (entry_at M p)
unfolding references
references-changed M N p same outs n =
    let k : ℕ = max (suc p) (max (numbers_of M) (numbers_of N)) in
    let kp : p < 0 + k = omega arith in
    let both = changed-at n (entry_at M) (entry_at N) p k 0 same (omega arith) kp in
    let left = ap (λ zs. length zs) (fan-upto M n k (omega arith)) in
    let right = ap (λ zs. length zs) (fan-upto N n k (omega arith)) in
    let out = ap (naming n) outs in
    omega arith

-- networks of the same nodes
pub references-outputs : (M N : NetworkValue) → M.nodes ≡ N.nodes → (n : ℕ) → references M n + naming n N.outputs ≡ references N n + naming n M.outputs
unfolding references fan
references-outputs M N same n =
    let both = ap (λ m. length (flat_map (λ e. slots_naming n e.0 0 (fanins_of e.1)) (entries m))) same in
    omega arith

-- ---- how many there are

pub takes-six : (op : Op) (n : ℕ) → Takes op n → n ≤ 6
takes-six And n h = omega arith
takes-six Xor n h = omega arith
takes-six Maj n h = omega arith
takes-six (Lut t) n h = h

six-each : (N : NetworkValue) → IsStored N → (n m : ℕ) → names_in n (entry_at N m) ≤ 6
six-each N stored n m = elim (entry_at N m) as (λ o. entry_at N m ≡ o → names_in n o ≤ 6) [
  | None ↦ λ e. omega arith
  | Some x ↦ elim x as (λ x. entry_at N m ≡ Some x → names_in n (Some x) ≤ 6) [
    | Constant ↦ λ e. omega arith
    | Input k ↦ λ e. omega arith
    | IsGate g ↦ λ e. (let few = takes-six g.op (length g.fanins) (stored.dag.arities m g e) in let le = count_by-le-length (λ (s : Signal). eqb s.node.0 n) g.fanins in omega arith)
  ]
] refl

six-times : (N : NetworkValue) → IsStored N → (n k a : ℕ) → length (by_number (entry_at N) (pairs_of n) a k) ≤ 6 * k
six-times N stored n zero a = omega arith
six-times N stored n (suc k) a =
    let sum = length-append (at_entry [] (pairs_of n a) (entry_at N a)) (by_number (entry_at N) (pairs_of n) (suc a) k) in
    let one = pairs-count n a (entry_at N a) in
    let six = six-each N stored n a in
    let rest = six-times N stored n k (suc a) in
    omega arith

few-by : (N : NetworkValue) → IsStored N → (n k o : ℕ) → numbers_of N ≤ k → length N.outputs ≤ o → references N n ≤ 6 * k + o
unfolding references
few-by N stored n k o below cap =
    let e = ap (λ zs. length zs) (fan-upto N n k below) in
    let few = six-times N stored n k 0 in
    let outs = count_by-le-length (λ (s : Signal). eqb s.node.0 n) N.outputs in
    omega arith

pub references-few : (N : NetworkValue) → IsStored N → (n : ℕ) → references N n ≤ 6 * NUMBERS + OUTPUTS
references-few N stored n = few-by N stored n NUMBERS OUTPUTS (numbers-at-most N NUMBERS stored.below) stored.few_outputs
