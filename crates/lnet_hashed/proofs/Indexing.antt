-- The table of keys as gates come, change and go.
use Rattle.std.proofs.Common.{◌≡◌, ◌≢◌, ℕ, ◌<◌, ◌≤◌, ◌↔◌, Bool, true, false, List, length, IsSome, Option, None, Some, option_map, zero, suc, [], ◌∷◌, refl, sym, ap, subst, ◌∙◌, inl, inr, length-set, get_or-set_same, get_or-set_other}
use Rattle.std.specs.Prelude.{slice_set, slice_index_or, IfSome}
use Rattle.std.proofs.lemmas.Bool.Decides.{eqb_tells}
use Rattle.lnet_gates.specs.declared.signal.Node.{Node}
use Rattle.lnet_gates.specs.declared.signal.Signal.{Signal}
use Rattle.lnet_gates.specs.Gates.{GateValue, KeyValue}
use Rattle.lnet_model.specs.Networks.{NetworkValue, Entry, Constant, Input, IsGate, IsLive, entry_at, gate_in, gate_at}
use Rattle.lnet_model.specs.Changes.{GateAt}
use Rattle.lnet_strash.specs.Standing.{KeysDiffer, at, room}
use Rattle.lnet_strash.proofs.Links.{not-some}
use Rattle.lnet_strash.proofs.Tables.{key-is, place-phase}
use Rattle.lnet_hashed.specs.declared.keys.Keys.{Keys}
use Rattle.lnet_hashed.specs.Strashed.{key_of, found}
use Rattle.lnet_hashed.specs.Indexed.{AllClean, HasGatesBeside, IsIndexed, stands_for}
use Rattle.lnet_hashed.proofs.KeyLemmas.{found-key, found-none}

-- ---- signals of entries

abbrev signal-or : Signal → Option Signal → Signal
signal-or s None = s
signal-or s (Some t) = t

pub signal-is : (s t : Signal) → Some s ≡ Some t → s ≡ t
signal-is s t e = ap (signal-or s) e

pub entry-signal : (m n : Node) (p q : Bool) → ◌≡◌ {A = Option (Node × Bool)} (Some (m, p)) (Some (n, q)) → ◌≡◌ {A = Option Signal} (Some (record { node = m; complement = p })) (Some (record { node = n; complement = q }))
entry-signal m n p q e = ap (option_map (λ (e : Node × Bool). record { node = e.0; complement = e.1 })) e

pub no-signal : (s : Signal) → None ≡ Some s → ⊥
no-signal s e = not-some s None refl e

pub no-entry-here : (n : Node) (p : Bool) → ◌≡◌ {A = Option (Node × Bool)} None (Some (n, p)) → ⊥
no-entry-here n p e = not-some (n, p) None refl e

-- ---- one number changes

pub dirty-stands : (o : Option GateValue) → stands_for o true ≡ None
dirty-stands None = refl
dirty-stands (Some g) = refl

-- the table and the marks change at n alone, and so do the gates
pub indexed-after : (N M : NetworkValue) (old new : Keys) (n numbers : ℕ) (b : Bool) → n < length old.dirty → new.dirty ≡ slice_set old.dirty n b → at new.table n ≡ stands_for (gate_at M n) b → ((m : ℕ) → m ≢ n → at new.table m ≡ at old.table m) → room new.table ≡ room old.table → KeysDiffer new.table → IsIndexed N old numbers → HasGatesBeside N M n → IsIndexed M new numbers
indexed-after N M old new n numbers b low dirty here beside same_room differ I gates = record {
  dirty_long = subst (λ z. numbers ≤ z) (sym (ap length dirty ∙ length-set old.dirty n b)) I.dirty_long;
  table_long = subst (λ z. numbers ≤ z) (sym same_room) I.table_long;
  stands = λ m. elim (eqb_tells m n) as (λ _. at new.table m ≡ stands_for (gate_at M m) (slice_index_or new.dirty m false)) [
    | inl p ↦ subst (λ z. at new.table z ≡ stands_for (gate_at M z) (slice_index_or new.dirty z false)) (sym p.1) (here ∙ ap (stands_for (gate_at M n)) (sym (ap (λ bs. slice_index_or bs n false) dirty ∙ get_or-set_same old.dirty n b false low)))
    | inr p ↦
        beside m p.1 ∙ I.stands m
        ∙ ap (λ g. stands_for g (slice_index_or old.dirty m false)) (sym (gates m p.1))
        ∙ ap (stands_for (gate_at M m)) (sym (ap (λ bs. slice_index_or bs m false) dirty ∙ get_or-set_other old.dirty n m b false p.1))
  ];
  differ = differ;
}

-- ---- what stands is a clean gate

-- g is a clean gate of key k and phase p, standing at n
pub record IsCleanAt (N : NetworkValue) (bs : List Bool) (n : ℕ) (k : KeyValue) (p : Bool) : Type 0 where
  pub gate : GateValue
  pub at : GateAt N n gate
  pub key : key_of gate ≡ k
  pub phase : gate.phase ≡ p
  pub clean : slice_index_or bs n false ≡ false

record Stands (o : Option Entry) (b : Bool) (k : KeyValue) (p : Bool) : Type 0 where
  gate : GateValue
  at : o ≡ Some (IsGate gate)
  key : key_of gate ≡ k
  phase : gate.phase ≡ p
  clean : b ≡ false

stood : (o : Option Entry) (b : Bool) (k : KeyValue) (p : Bool) → stands_for (gate_in o) b ≡ Some (k, p) → Stands o b k p
stood None b k p h = cc
stood (Some Constant) b k p h = cc
stood (Some (Input i)) b k p h = cc
stood (Some (IsGate g)) true k p h = cc
stood (Some (IsGate g)) false k p h = record { gate = g; at = refl; key = key-is (key_of g) (key_of g, g.phase) (k, p) h; phase = place-phase (key_of g, g.phase) (k, p) h; clean = refl }

pub stands-clean : (N : NetworkValue) (keys : Keys) (numbers : ℕ) → IsIndexed N keys numbers → (n : ℕ) (k : KeyValue) (p : Bool) → at keys.table n ≡ Some (k, p) → IsCleanAt N keys.dirty n k p
stands-clean N keys numbers I n k p h =
    let s = stood (entry_at N n) (slice_index_or keys.dirty n false) k p (sym (I.stands n) ∙ h) in
    record { gate = s.gate; at = s.at; key = s.key; phase = s.phase; clean = s.clean }

-- and a clean gate stands
pub clean-stands : (N : NetworkValue) (keys : Keys) (numbers : ℕ) → IsIndexed N keys numbers → (n : ℕ) (g : GateValue) → GateAt N n g → slice_index_or keys.dirty n false ≡ false → at keys.table n ≡ Some (key_of g, g.phase)
clean-stands N keys numbers I n g e clean = I.stands n ∙ ap (λ o. stands_for (gate_in o) (slice_index_or keys.dirty n false)) e ∙ ap (stands_for (Some g)) clean

-- ---- where all gates are clean, the table has what is found

module _ (N : NetworkValue) (keys : Keys) (numbers : ℕ) (I : IsIndexed N keys numbers) (clean : AllClean keys) (k : KeyValue) where
  pub found-stands : (s : Signal) → found N k ≡ Some s → at keys.table s.node.0 ≡ Some (k, s.complement)
  found-stands s e =
      let f = found-key N k s e in
      clean-stands N keys numbers I s.node.0 f.gate f.at (clean s.node.0) ∙ (λ i. Some (f.key i, f.phase i))

  pub not-found-absent : found N k ≡ None → (m : ℕ) (p : Bool) → at keys.table m ≢ Some (k, p)
  not-found-absent e m p h = let s = stands-clean N keys numbers I m k p h in found-none N k e m s.gate s.at s.key

  pub found-is : (result : Option Signal) → ((s : Signal) → (result ≡ Some s) ↔ (at keys.table s.node.0 ≡ Some (k, s.complement))) → result ≡ found N k
  found-is result stands = go (found N k) refl
    where
      none : (o : Option Signal) → found N k ≡ None → ((s : Signal) → o ≡ Some s → at keys.table s.node.0 ≡ Some (k, s.complement)) → o ≡ None
      none None e h = refl
      none (Some s) e h = absurd (not-found-absent e s.node.0 s.complement (h s refl))

      go : (o : Option Signal) → found N k ≡ o → result ≡ found N k
      go (Some s) e = (stands s).1 (found-stands s e) ∙ sym e
      go None e = none result e (λ s. (stands s).0) ∙ sym e

-- what is found is live
pub found-live : (N : NetworkValue) (k : KeyValue) (o : Option Signal) → o ≡ found N k → IfSome o (λ s. IsLive N s.node.0)
found-live N k None e = tt
found-live N k (Some s) e = let f = found-key N k s (sym e) in subst IsSome (sym f.at) refl

-- ---- marks that stay clear

pub clear-set : (bs : List Bool) (n : ℕ) → ((m : ℕ) → slice_index_or bs m false ≡ false) → (m : ℕ) → slice_index_or (slice_set bs n false) m false ≡ false
clear-set [] n h m = h m
clear-set (b ∷ bs) zero h zero = refl
clear-set (b ∷ bs) zero h (suc m) = h (suc m)
clear-set (b ∷ bs) (suc n) h zero = h zero
clear-set (b ∷ bs) (suc n) h (suc m) = clear-set bs n (λ k. h (suc k)) m

-- ---- the gates of changed networks

pub same-gates : (N M : NetworkValue) (n : ℕ) → ((m : ℕ) → m ≢ n → entry_at M m ≡ entry_at N m) → HasGatesBeside N M n
same-gates N M n same m ne = ap gate_in (same m ne)

-- the same gates are indexed by the same table
pub indexed-same : (N M : NetworkValue) (keys : Keys) (numbers : ℕ) → ((m : ℕ) → gate_at M m ≡ gate_at N m) → IsIndexed N keys numbers → IsIndexed M keys numbers
indexed-same N M keys numbers same I = record {
  dirty_long = I.dirty_long;
  table_long = I.table_long;
  stands = λ m. I.stands m ∙ ap (λ g. stands_for g (slice_index_or keys.dirty m false)) (sym (same m));
  differ = I.differ;
}
