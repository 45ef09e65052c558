-- The clean gate with a key.
use Rattle.std.proofs.Common.{◌≡◌, ◌≢◌, ◌↔◌, ℕ, Bool, true, false, Option, None, Some, refl, sym, ap, subst, ◌∙◌}
use Rattle.lnet_gates.specs.declared.signal.Signal.{Signal}
use mathlib.Core.Bool.{beq}
use Rattle.lnet_gates.specs.Gates.{GateValue, KeyValue}
use Rattle.lnet_gates.specs.NormalLaws.{keyed_gate}
use Rattle.lnet_model.specs.Networks.{NetworkValue, IsGate, entry_at, gate_at, gate_in}
use Rattle.lnet_model.specs.Changes.{GateAt}
use Rattle.lnet_strash.specs.Standing.{Standing, at}
use Rattle.lnet_hashed.specs.declared.keys.Keys.{Keys}
use Rattle.lnet_hashed.specs.Indexed.{IsIndexed}
use Rattle.lnet_hashed.specs.Strashed.{key_of, same_key, HoldsKey}
use Rattle.lnet_hashed.proofs.Indexing.{clean-stands, no-signal, stands-clean}
use Rattle.lnet_hashed.proofs.KeyLemmas.{same-keys, same-key-self}
use Rattle.lnet_store.proofs.KeptLemmas.{gate-at}
use Rattle.lnet_substitution.specs.Cascades.{IsUnusedKey}
use Rattle.lnet_substitution.proofs.Merging.{not-both}
use Rattle.lnet_substitution.proofs.Resolving.{same-gates}
use Rattle.lnet_cascade.specs.Marks.{marks_of}
use Rattle.lnet_cascade.specs.Cascading.{IsCleanHolder}

beq-same : (a b : Bool) → beq a b ≡ true → a ≡ b
beq-same true true h = refl
beq-same true false h = cc
beq-same false true h = cc
beq-same false false h = refl

beq-self : (a : Bool) → beq a a ≡ true
beq-self true = refl
beq-self false = refl

-- what stands under the key in the table is the clean gate with it
module _ (N : NetworkValue) (keys : Keys) (numbers : ℕ) (I : IsIndexed N keys numbers) (k : KeyValue) where
  pub holder-of : (s : Signal) → at keys.table s.node.0 ≡ Some (k, s.complement) → IsCleanHolder N keys.dirty k s
  holder-of s h = let c = stands-clean N keys numbers I s.node.0 k s.complement h in record { gate = c.gate; at = c.at; clean = c.clean; key = c.key; phase = c.phase }

  -- where nothing does, no clean gate has the key
  pub unused-of : ((m : ℕ) (p : Bool) → at keys.table m ≢ Some (k, p)) → IsUnusedKey N (marks_of keys.dirty) k
  unused-of absent n g here clean is = absent n g.phase (clean-stands N keys numbers I n g here clean ∙ ap (λ z. Some (z, g.phase)) is)

  pub absent-of : IsUnusedKey N (marks_of keys.dirty) k → (m : ℕ) (p : Bool) → at keys.table m ≢ Some (k, p)
  absent-of unused m p h = let c = stands-clean N keys numbers I m k p h in unused m c.gate c.at c.clean c.key

-- nothing stands under a key that isn't found
pub nothing-stands : (t : Standing) (k : KeyValue) (r : Option Signal) → ((s : Signal) → (r ≡ Some s) ↔ (at t s.node.0 ≡ Some (k, s.complement))) → r ≡ None → (m : ℕ) (p : Bool) → at t m ≢ Some (k, p)
nothing-stands t k r stands none m p h = let s : Signal = record { node = record { 0 = m }; complement = p } in no-signal s (sym none ∙ (stands s).1 h)

-- what holds the key at n tells whether a gate of the key with a phase stands there
pub held-stands : (N : NetworkValue) (k : KeyValue) (n : ℕ) (s : Signal) (phase : Bool) → HoldsKey N k n s → beq s.complement phase ≡ true → GateAt N n (keyed_gate k phase)
held-stands N k n s phase h same =
    let key = same-keys k (key_of h.gate) h.key in
    let turned : h.gate.phase ≡ phase = ap (λ (z : Signal). z.complement) (sym h.signal) ∙ beq-same s.complement phase same in
    gate-at (entry_at N n) h.gate h.at ∙ (λ i. Some (IsGate (record { op = (sym key i).op; phase = turned i; fanins = (sym key i).fanins })))

pub stands-held : (N : NetworkValue) (k : KeyValue) (n : ℕ) (s : Signal) (phase : Bool) → HoldsKey N k n s → GateAt N n (keyed_gate k phase) → beq s.complement phase ≡ true
stands-held N k n s phase h at =
    let gate : h.gate ≡ keyed_gate k phase = same-gates (sym (gate-at (entry_at N n) h.gate h.at) ∙ at) in
    let turned : s.complement ≡ phase = ap (λ (z : Signal). z.complement) h.signal ∙ ap (λ (z : GateValue). z.phase) gate in
    subst (λ z. beq s.complement z ≡ true) turned (beq-self s.complement)

pub not-held : (N : NetworkValue) (k : KeyValue) (n : ℕ) (phase : Bool) → ((g : GateValue) → gate_at N n ≡ Some g → same_key k (key_of g) ≡ false) → GateAt N n (keyed_gate k phase) → ⊥
not-held N k n phase none at = not-both (same_key k k) (none (keyed_gate k phase) (ap gate_in at)) (same-key-self k)
