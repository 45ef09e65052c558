-- The entry of a key, and what stands at each number.
use Rattle.std.proofs.Common.{◌≡◌, ℕ, zero, suc, ◌+◌, ◌<◌, Bool, true, false, map, List, [], ◌∷◌, length, Option, None, Some, refl, sym, ap, subst, ◌∙◌, arith}
use Rattle.std.specs.Prelude.{if◌then◌else◌}
use Rattle.std.proofs.lemmas.Slice.Eq.{bytes_eq-Decides}
use Rattle.lnet_gates.specs.declared.signal.Node.{Node}
use Rattle.lnet_gates.specs.declared.signal.Signal.{Signal}
use Rattle.lnet_gates.specs.declared.gate.Op.{Op}
use Rattle.lnet_gates.specs.declared.gate.Op.TheVariants.{And, Xor, Maj, Lut}
use Rattle.lnet_gates.specs.Gates.{KeyValue}
use Rattle.lnet_gates.specs.Operands.{code}
use Rattle.lnet_gates.specs.Lawful.OperandLemmas.{code-same}
use Rattle.lnet_strash.specs.Keys.{is_key, words, operation, table}
use Rattle.lnet_strash.specs.Standing.{Standing, KeysDiffer, at, entry, entry_from}
use Rattle.lnet_strash.specs.Chains.{IsAbsent}
use Rattle.lnet_strash.proofs.Links.{not-some}
use Rattle.lnet_strash.proofs.Tables.{key-is, place-phase}

abbrev head-or : ℕ → List ℕ → ℕ
head-or d [] = d
head-or d (x ∷ xs) = x

abbrev tail-of : List ℕ → List ℕ
tail-of [] = []
tail-of (x ∷ xs) = xs

abbrev the-entry : Node → Bool → Option (Node × Bool)
the-entry n p = Some (n, p)

abbrev the-place : KeyValue → Bool → Option (KeyValue × Bool)
the-place k p = Some (k, p)

-- ---- the words of a key tell it from others

operation-same : (a b : Op) → operation a ≡ operation b → table a ≡ table b → a ≡ b
operation-same And And e h = refl
operation-same And Xor e h = absurd (omega arith)
operation-same And Maj e h = absurd (omega arith)
operation-same And (Lut u) e h = absurd (omega arith)
operation-same Xor And e h = absurd (omega arith)
operation-same Xor Xor e h = refl
operation-same Xor Maj e h = absurd (omega arith)
operation-same Xor (Lut u) e h = absurd (omega arith)
operation-same Maj And e h = absurd (omega arith)
operation-same Maj Xor e h = absurd (omega arith)
operation-same Maj Maj e h = refl
operation-same Maj (Lut u) e h = absurd (omega arith)
operation-same (Lut t) And e h = absurd (omega arith)
operation-same (Lut t) Xor e h = absurd (omega arith)
operation-same (Lut t) Maj e h = absurd (omega arith)
operation-same (Lut t) (Lut u) e h = ap Lut h

codes-same : (xs ys : List Signal) → map code xs ≡ map code ys → xs ≡ ys
codes-same [] [] e = refl
codes-same [] (y ∷ ys) e = absurd (let h = ap length e in omega arith)
codes-same (x ∷ xs) [] e = absurd (let h = ap length e in omega arith)
codes-same (x ∷ xs) (y ∷ ys) e =
    let first : code x ≡ code y = ap (head-or 0) e in
    let rest : map code xs ≡ map code ys = ap tail-of e in
    λ i. code-same x y first i ∷ codes-same xs ys rest i

pub key-same : (a b : KeyValue) → is_key a b ≡ true → a ≡ b
key-same a b e =
    let words-same : words a ≡ words b = (bytes_eq-Decides (words a) (words b)).0 e in
    let operations : operation a.op ≡ operation b.op = ap (head-or 0) words-same in
    let tables : table a.op ≡ table b.op = ap (λ l. head-or 0 (tail-of l)) words-same in
    let fanins : map code a.fanins ≡ map code b.fanins = ap (λ l. tail-of (tail-of l)) words-same in
    let op : a.op ≡ b.op = operation-same a.op b.op operations tables in
    let signals : a.fanins ≡ b.fanins = codes-same a.fanins b.fanins fanins in
    λ i. record { op = op i; fanins = signals i }

pub key-self : (a : KeyValue) → is_key a a ≡ true
key-self a = (bytes_eq-Decides (words a) (words a)).1 refl

-- ---- the entry of a key is what stands

abbrev node-or : Node → Option (Node × Bool) → Node
node-or n None = n
node-or n (Some e) = e.0

abbrev phase-or : Bool → Option (Node × Bool) → Bool
phase-or p None = p
phase-or p (Some e) = e.1

pub node-is : (n m : Node) (p q : Bool) → the-entry n p ≡ the-entry m q → n ≡ m
node-is n m p q e = ap (node-or n) e

pub phase-is : (n m : Node) (p q : Bool) → the-entry n p ≡ the-entry m q → p ≡ q
phase-is n m p q e = ap (phase-or p) e

chosen : (b c : Bool) (x y : Option (Node × Bool)) → b ≡ c → (if b then x else y) ≡ (if c then x else y)
chosen b c x y e = ap (λ z. if z then x else y) e

from-at : (first : ℕ) (t : Standing) (k : KeyValue) (n : Node) (p : Bool) → entry_from first t k ≡ the-entry n p → (i : ℕ) × (n.0 ≡ first + i) × (at t i ≡ the-place k p)
from-at first [] k n p h = absurd (not-some (n, p) None refl h)
from-at first (None ∷ t) k n p h = let s = from-at (first + 1) t k n p h in (suc s.0, (let e = s.1 in omega arith), s.2)
from-at first (Some e ∷ t) k n p h = go (λ r. from-at (first + 1) t k n p r) (is_key e.0 k) refl
  where
    go : (entry_from (first + 1) t k ≡ the-entry n p → (i : ℕ) × (n.0 ≡ first + 1 + i) × (at t i ≡ the-place k p)) → (b : Bool) → is_key e.0 k ≡ b → (i : ℕ) × (n.0 ≡ first + i) × (at (Some e ∷ t) i ≡ the-place k p)
    go later true q =
        let own : the-entry (record { 0 = first }) e.1 ≡ the-entry n p = sym (chosen (is_key e.0 k) true (the-entry (record { 0 = first }) e.1) (entry_from (first + 1) t k) q) ∙ h in
        let node = ap (λ (z : Node). z.0) (node-is (record { 0 = first }) n e.1 p own) in
        let phase = phase-is (record { 0 = first }) n e.1 p own in
        let key = key-same e.0 k q in
        (0, (let z : first ≡ n.0 = node in omega arith), λ i. Some (key i, phase i))
    go later false q =
        let s = later (sym (chosen (is_key e.0 k) false (the-entry (record { 0 = first }) e.1) (entry_from (first + 1) t k) q) ∙ h) in
        (suc s.0, (let z = s.1 in omega arith), s.2)

at-from : (first : ℕ) (t : Standing) (k : KeyValue) (i : ℕ) (p : Bool) → at t i ≡ the-place k p → ((j : ℕ) (q : Bool) → j < i → at t j ≡ the-place k q → ⊥) → (n : ℕ) → n ≡ first + i → entry_from first t k ≡ the-entry (record { 0 = n }) p
at-from first [] k i p h none n e = absurd (not-some (k, p) None refl h)
at-from first (None ∷ t) k zero p h none n e = absurd (not-some (k, p) None refl h)
at-from first (None ∷ t) k (suc i) p h none n e = at-from (first + 1) t k i p h (λ j q less. none (suc j) q (omega arith)) n (omega arith)
at-from first (Some s ∷ t) k zero p h none n e =
    let own : is_key s.0 k ≡ true = subst (λ z. is_key z k ≡ true) (sym (key-is s.0 s (k, p) h)) (key-self k) in
    let phase : s.1 ≡ p = place-phase s (k, p) h in
    chosen (is_key s.0 k) true (the-entry (record { 0 = first }) s.1) (entry_from (first + 1) t k) own ∙ (λ j. Some (record { 0 = (let z : first ≡ n = omega arith in z) j }, phase j))
at-from first (Some s ∷ t) k (suc i) p h none n e = go (at-from (first + 1) t k i p h (λ j r less. none (suc j) r (omega arith)) n (omega arith)) (is_key s.0 k) refl
  where
    go : entry_from (first + 1) t k ≡ the-entry (record { 0 = n }) p → (b : Bool) → is_key s.0 k ≡ b → entry_from first (Some s ∷ t) k ≡ the-entry (record { 0 = n }) p
    go later true q = absurd (none 0 s.1 (omega arith) (let key = key-same s.0 k q in λ j. Some (key j, s.1)))
    go later false q = chosen (is_key s.0 k) false (the-entry (record { 0 = first }) s.1) (entry_from (first + 1) t k) q ∙ later

-- a node that is the entry of a key stands under it
pub at-entry : (t : Standing) (k : KeyValue) (n : Node) (p : Bool) → entry t k ≡ the-entry n p → at t n.0 ≡ the-place k p
unfolding entry
at-entry t k n p h = let s = from-at 0 t k n p h in subst (λ z. at t z ≡ the-place k p) (let e = s.1 in let z : s.0 ≡ n.0 = omega arith in z) s.2

-- where no two nodes stand under one key, a node that stands under a key is its entry
pub entry-at : (t : Standing) → KeysDiffer t → (k : KeyValue) (n : ℕ) (p : Bool) → at t n ≡ the-place k p → entry t k ≡ the-entry (record { 0 = n }) p
unfolding entry
entry-at t D k n p h = at-from 0 t k n p h (λ j q less e. let same = D.one j n k q p e h in omega arith) n (omega arith)

-- without one it has none
pub no-entry : (t : Standing) (k : KeyValue) → IsAbsent t k → entry t k ≡ None
no-entry t k absent = go (entry t k) refl
  where
    go : (o : Option (Node × Bool)) → entry t k ≡ o → entry t k ≡ None
    go None e = e
    go (Some s) e = absurd (absent s.0.0 s.1 (at-entry t k s.0 s.1 e))

pub is-absent : (t : Standing) → KeysDiffer t → (k : KeyValue) → entry t k ≡ None → IsAbsent t k
is-absent t D k none n p h = not-some (record { 0 = n }, p) (entry t k) none (entry-at t D k n p h)

-- where the same stands under a key, it has one entry
pub entry-like : (t u : Standing) → KeysDiffer t → KeysDiffer u → (k : KeyValue) → ((n : ℕ) (p : Bool) → at t n ≡ the-place k p → at u n ≡ the-place k p) → ((n : ℕ) (p : Bool) → at u n ≡ the-place k p → at t n ≡ the-place k p) → entry t k ≡ entry u k
entry-like t u D E k there back = go (entry u k) refl
  where
    go : (o : Option (Node × Bool)) → entry u k ≡ o → entry t k ≡ entry u k
    go None e = no-entry t k (λ n p h. is-absent u E k e n p (there n p h)) ∙ sym e
    go (Some s) e = entry-at t D k s.0.0 s.1 (back s.0.0 s.1 (at-entry u k s.0 s.1 e)) ∙ sym e

-- a node that stands under no key is the entry of none
pub entry_free : (t : Standing) (n : Node) → at t n.0 ≡ None → (k : KeyValue) (p : Bool) → entry t k ≡ Some (n, p) → ⊥
entry_free t n free k p e = not-some (k, p) (at t n.0) free (at-entry t k n p e)
