-- Keys that are one, and the gate that is found under a key.
use Rattle.std.proofs.Common.{◌≡◌, ℕ, zero, suc, ◌+◌, ◌<◌, ◌≤◌, Bool, true, false, cond, List, [], ◌∷◌, ◌++◌, Option, None, Some, IsSome, refl, sym, ap, subst, ◌∙◌, inl, inr, arith}
use Rattle.std.specs.Prelude.{◌⊎◌, ◌&&◌, slice_get}
use Rattle.std.proofs.lemmas.Bool.Decides.{eqb_tells}
use Rattle.lnet_gates.specs.declared.signal.Signal.{Signal}
use Rattle.lnet_gates.specs.declared.gate.Op.{Op}
use Rattle.lnet_gates.specs.declared.gate.Op.TheVariants.{And, Xor, Maj, Lut}
use Rattle.lnet_gates.specs.Gates.{GateValue, KeyValue}
use Rattle.lnet_gates.specs.Operands.{is_same}
use Rattle.lnet_gates.specs.Lawful.OperandLemmas.{eqb-same, eqb-self, same-signal, same-self}
use Rattle.lnet_model.specs.Networks.{NetworkValue, Entry, Constant, Input, IsGate, entry_at}
use Rattle.lnet_model.specs.Along.{at_entry}
use Rattle.lnet_model.specs.Changes.{GateAt}
use Rattle.lnet_model.specs.Dags.{numbers_of}
use Rattle.lnet_model.proofs.Numbers.{live-below-numbers}
use Rattle.lnet_hashed.specs.Strashed.{same_op, same_signals, same_key, key_of, held_by, found}
use Rattle.lnet_hashed.proofs.Found.{held_from, found-begins}

-- ---- tests of keys

same-ops : (a b : Op) → same_op a b ≡ true → a ≡ b
same-ops And And h = refl
same-ops And Xor h = cc
same-ops And Maj h = cc
same-ops And (Lut t) h = cc
same-ops Xor And h = cc
same-ops Xor Xor h = refl
same-ops Xor Maj h = cc
same-ops Xor (Lut t) h = cc
same-ops Maj And h = cc
same-ops Maj Xor h = cc
same-ops Maj Maj h = refl
same-ops Maj (Lut t) h = cc
same-ops (Lut s) And h = cc
same-ops (Lut s) Xor h = cc
same-ops (Lut s) Maj h = cc
same-ops (Lut s) (Lut t) h = ap Lut (eqb-same s t h)

same-op-self : (a : Op) → same_op a a ≡ true
same-op-self And = refl
same-op-self Xor = refl
same-op-self Maj = refl
same-op-self (Lut t) = eqb-self t

-- both tests of a conjunction hold
both : (a b : Bool) → (a && b) ≡ true → (a ≡ true) × (b ≡ true)
both true b h = (refl, h)
both false b h = cc

both-hold : (a b : Bool) → a ≡ true → b ≡ true → (a && b) ≡ true
both-hold true b h k = k
both-hold false b h k = cc

same-lists : (ss ts : List Signal) → same_signals ss ts ≡ true → ss ≡ ts
same-lists [] [] h = refl
same-lists [] (t ∷ ts) h = cc
same-lists (s ∷ ss) [] h = cc
same-lists (s ∷ ss) (t ∷ ts) h =
    let p = both (is_same s t) (same_signals ss ts) h in
    λ i. same-signal s t p.0 i ∷ same-lists ss ts p.1 i

same-list-self : (ss : List Signal) → same_signals ss ss ≡ true
same-list-self [] = refl
same-list-self (s ∷ ss) = both-hold (is_same s s) (same_signals ss ss) (same-self s) (same-list-self ss)

-- keys that the test holds for one are one
pub same-keys : (k l : KeyValue) → same_key k l ≡ true → k ≡ l
same-keys k l h =
    let p = both (same_op k.op l.op) (same_signals k.fanins l.fanins) h in
    λ i. record { op = same-ops k.op l.op p.0 i; fanins = same-lists k.fanins l.fanins p.1 i }

pub same-key-self : (k : KeyValue) → same_key k k ≡ true
same-key-self k = both-hold (same_op k.op k.op) (same_signals k.fanins k.fanins) (same-op-self k.op) (same-list-self k.fanins)

-- ---- what is found

-- a gate of the key stands at the node of the signal, and has the signal's complement as its phase
pub record IsFound (N : NetworkValue) (k : KeyValue) (s : Signal) : Type 0 where
  pub gate : GateValue
  pub at : GateAt N s.node.0 gate
  pub key : key_of gate ≡ k
  pub phase : gate.phase ≡ s.complement

-- what stands at n is a gate of the key, and s is its signal
record Holds (k : KeyValue) (n : ℕ) (o : Option Entry) (s : Signal) : Type 0 where
  gate : GateValue
  at : o ≡ Some (IsGate gate)
  key : same_key k (key_of gate) ≡ true
  signal : record { node = record { 0 = n }; complement = gate.phase } ≡ s

held-or-later : (k : KeyValue) (n : ℕ) (o : Option Entry) (rest : List Signal) (s : Signal) → slice_get (at_entry [] (held_by k n) o ++ rest) 0 ≡ Some s → Holds k n o s ⊎ (slice_get rest 0 ≡ Some s)
held-or-later k n None rest s h = inr h
held-or-later k n (Some Constant) rest s h = inr h
held-or-later k n (Some (Input i)) rest s h = inr h
held-or-later k n (Some (IsGate g)) rest s h = by (same_key k (key_of g)) refl h
  where
    here : Signal
    here = record { node = record { 0 = n }; complement = g.phase }

    by : (b : Bool) → same_key k (key_of g) ≡ b → slice_get (cond b (here ∷ []) [] ++ rest) 0 ≡ Some s → Holds k n (Some (IsGate g)) s ⊎ (slice_get rest 0 ≡ Some s)
    by true e h = inl (record { gate = g; at = refl; key = e; signal = (let same : here ≡ s = cc in same) })
    by false e h = inr h

held-in : (N : NetworkValue) (k : KeyValue) (count a : ℕ) (s : Signal) → slice_get (held_from N k a count) 0 ≡ Some s → IsFound N k s
held-in N k zero a s h = cc
held-in N k (suc count) a s h = elim (held-or-later k a (entry_at N a) (held_from N k (suc a) count) s h) as (λ _. IsFound N k s) [
  | inl p ↦ record {
    gate = p.gate;
    at = subst (λ (z : Signal). GateAt N z.node.0 p.gate) p.signal p.at;
    key = sym (same-keys k (key_of p.gate) p.key);
    phase = ap (λ (z : Signal). z.complement) p.signal;
  }
  | inr later ↦ held-in N k count (suc a) s later
]

-- the signal found under a key is that of a gate of the key
pub found-key : (N : NetworkValue) (k : KeyValue) (s : Signal) → found N k ≡ Some s → IsFound N k s
found-key N k s h = held-in N k (numbers_of N) 0 s (sym (found-begins N k) ∙ h)

-- where nothing is first in a list and another, nothing is first in the other
none-later : (xs ys : List Signal) → slice_get (xs ++ ys) 0 ≡ None → slice_get ys 0 ≡ None
none-later [] ys h = h
none-later (x ∷ xs) ys h = cc

none-here : (k : KeyValue) (n : ℕ) (o : Option Entry) (g : GateValue) (rest : List Signal) → o ≡ Some (IsGate g) → same_key k (key_of g) ≡ true → slice_get (at_entry [] (held_by k n) o ++ rest) 0 ≡ None → ⊥
none-here k n o g rest at is h =
    let e : slice_get (cond true ((record { node = record { 0 = n }; complement = g.phase }) ∷ []) [] ++ rest) 0 ≡ None =
    ap (λ b. slice_get (cond b ((record { node = record { 0 = n }; complement = g.phase }) ∷ []) [] ++ rest) 0) (sym is) ∙ ap (λ z. slice_get (at_entry [] (held_by k n) z ++ rest) 0) (sym at) ∙ h in
    cc

none-in : (N : NetworkValue) (k : KeyValue) (count a n : ℕ) (g : GateValue) → slice_get (held_from N k a count) 0 ≡ None → a ≤ n → n < a + count → GateAt N n g → same_key k (key_of g) ≡ true → ⊥
none-in N k zero a n g h from to at is = absurd (omega arith)
none-in N k (suc count) a n g h from to at is = elim (eqb_tells n a) as (λ _. ⊥) [
  | inl p ↦ none-here k a (entry_at N a) g (held_from N k (suc a) count) (sym (ap (entry_at N) p.1) ∙ at) is h
  | inr p ↦
      let ne = p.1 in
      none-in N k count (suc a) n g (none-later (at_entry [] (held_by k a) (entry_at N a)) (held_from N k (suc a) count) h) (omega arith) (omega arith) at is
]

-- where nothing is found under a key, no gate has it
pub found-none : (N : NetworkValue) (k : KeyValue) → found N k ≡ None → (n : ℕ) (g : GateValue) → GateAt N n g → key_of g ≡ k → ⊥
found-none N k h n g at is =
    let low : n < numbers_of N = live-below-numbers N n (subst IsSome (sym at) refl) in
    none-in N k (numbers_of N) 0 n g (sym (found-begins N k) ∙ h) (omega arith) (omega arith) at (subst (λ z. same_key k z ≡ true) (sym is) (same-key-self k))
