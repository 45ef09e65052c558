-- What a fanout view keeps where a number is added, its gate modified, or deleted.
use Rattle.std.proofs.Common.{◌≡◌, ◌≢◌, ℕ, ◌+◌, ◌<◌, ◌≤◌, Bool, true, false, List, [], length, get_or, set, get_or-set_same, get_or-set_other, IsSome, Option}
use Rattle.std.proofs.Common.{None, Some, refl, sym, ap, subst, ◌∙◌, inl, inr, arith}
use Rattle.std.specs.Prelude.{◌⊎◌, ◌↔◌, is_some}
use Rattle.std.proofs.lemmas.Bool.Decides.{eqb_tells}
use Rattle.lnet_gates.specs.declared.signal.Node.{Node}
use Rattle.lnet_gates.specs.declared.signal.Signal.{Signal}
use Rattle.lnet_gates.specs.Gates.{GateValue}
use Rattle.lnet_model.specs.Networks.{NetworkValue, Entry, Constant, Input, IsGate, Lookup, entry_at, fanins_of, gate_in}
use Rattle.lnet_model.specs.Along.{In, at_entry, fanin_nodes, nodes_read}
use Rattle.lnet_model.specs.Changes.{was, with_entry, without, IsGateAt}
use Rattle.lnet_model.specs.Dags.{AreBelow, IsDag, IsStored, NUMBERS}
use Rattle.lnet_model.specs.Answers.{InStep}
use Rattle.lnet_model.specs.Visits.{visit_bound, reads_of}
use Rattle.lnet_model.specs.declared.event.Event.{Event}
use Rattle.lnet_model.specs.declared.event.Event.TheVariants.{Added}
use Rattle.lnet_model.specs.declared.view_spec.ViewSpec.{ViewSpec}
use Rattle.lnet_model.proofs.Changes.{with_entry-here, with_entry-apart, without-here, without-apart}
use Rattle.lnet_chains.specs.Lists.{ChainsValue, Within, list_of}
use Rattle.lnet_store.specs.Linked.{IsSlotOf, place}
use Rattle.lnet_fanouts.specs.FanoutViews.{AreListed, AreLive, HasSlots, IsTold, SameRoom, fanout_spec, fanouts_in, slots_at}
use Rattle.lnet_fanouts.proofs.Fans.{short-gates}
use Rattle.lnet_fanouts.proofs.SlotLemmas.{listed-more, listed-less, none-listed, all-listed}
use Rattle.lnet_fanouts.proofs.InStep.{IsKeeping, keeping}

-- the slots of a gate, and of what is none
pub gate-slots : (o : Option Entry) (g : GateValue) → gate_in o ≡ Some g → at_entry [] fanins_of o ≡ g.fanins
gate-slots None g e = cc
gate-slots (Some x) g e =
    (elim x as (λ x. gate_in (Some x) ≡ Some g
    → fanins_of x ≡ g.fanins) [ Constant ↦ λ e. cc | Input k ↦ λ e. cc | IsGate h ↦ λ e. (let same : h ≡ g = cc in ap (λ (g : GateValue). g.fanins) same) ]) e

-- a number that is live has a list
pub has-list : (v : ChainsValue) (live : List Bool) (n : ℕ) → HasSlots v live → n < length live → n < NUMBERS → n < length v.lists
has-list v live n slots low few = let h = slots.enough (n + 1) (omega arith) (omega arith) in omega arith

-- what is read is a number with a list
pub known : (N : NetworkValue) (v : ChainsValue) (live : List Bool) (k : ℕ) → IsStored N → AreBelow N (length live) → HasSlots v live
    → (m : ℕ) → In m (nodes_read (slots_at (entry_at N) k)) → m < length v.lists
known N v live k stored room slots m i =
    let on = stored.dag.closed k m (read (entry_at N k) i) in
    has-list v live m slots (room m on) (stored.below m on)
  where
    read : (o : Option Entry) → In m (nodes_read (at_entry [] fanins_of o)) → In m (fanin_nodes o)
    read None i = i
    read (Some e) i = i

-- the lists stay as many, and so do the numbers
pub slots-same : (v v2 : ChainsValue) (live live2 : List Bool) → HasSlots v live → SameRoom v v2 → length live2 ≡ length live → HasSlots v2 live2
slots-same v v2 live live2 slots same len =
    let lists = same.lists in
    let places = same.places in
    record {
      places = (let h = slots.places in omega arith);
      fewer = (let h = slots.fewer in omega arith);
      few = (let h = slots.few in omega arith);
      enough = λ k low few. (let h = slots.enough k (omega arith) few in omega arith);
    }

pub room-after : (v v1 v2 : ChainsValue) → SameRoom v v1 → SameRoom v1 v2 → SameRoom v v2
room-after v v1 v2 a b = record { lists = b.lists ∙ a.lists; places = b.places ∙ a.places }

no-slots : (N : NetworkValue) (k : ℕ) → entry_at N k ≡ None → slots_at (entry_at N) k ≡ []
no-slots N k none = ap (λ o. at_entry [] fanins_of o) none

-- the live numbers where one of them changes
pub living-set : (live : List Bool) (k : ℕ) (b : Bool) (g h : Lookup) → k < length live → b ≡ is_some (h k) → ((q : ℕ) → q ≢ k → h q ≡ g q) → AreLive live g → AreLive (set live k b) h
living-set live k b g h low here same living n = elim (eqb_tells n k) as (λ _. get_or (set live k b) n false ≡ is_some (h n)) [
  | inl e ↦ subst (λ z. get_or (set live k b) z false ≡ is_some (h z)) (sym e.1) (get_or-set_same live k b false low ∙ here)
  | inr e ↦ get_or-set_other live k n b false e.1 ∙ living n ∙ ap (λ (o : Option Entry). is_some o) (sym (same n e.1))
]

some-live : (o : Option Entry) → IsSome o → true ≡ is_some o
some-live None h = sym h
some-live (Some e) h = refl

module _ (v : ChainsValue) (live : List Bool) (attached : Bool) (N : NetworkValue) where
  -- ---- a number added

  module _ (n : Node) (told : IsTold v live attached N (Added n)) where
    keeping-added : IsKeeping v live attached (without N n.0)
    keeping-added = keeping v live attached (without N n.0) told.before told.empty told.step

    pub low-added : n.0 < length v.lists
    low-added = has-list v live n.0 told.slots (told.room n.0 told.event) (told.stored.below n.0 told.event)

    pub absent-added : (m j : ℕ) → j < 6 → Within (place n.0 j) (list_of v m) → ⊥
    absent-added = none-listed (entry_at (without N n.0)) v n.0 keeping-added.listed (no-slots (without N n.0) n.0 (without-here N n.0))

    pub kept-added : (v2 : ChainsValue)
        → ((m p : ℕ) → Within p (list_of v2 m) ↔ (Within p (list_of v m) ⊎ IsSlotOf n.0 (slots_at (entry_at N) n.0) m p)) → IsKeeping v2 (set live n.0 true) attached N
    kept-added v2 named = record {
      listed = listed-more (entry_at (without N n.0)) (entry_at N) n.0 (λ q ne. sym (without-apart N n.0 q ne)) v v2 keeping-added.listed
          (no-slots (without N n.0) n.0 (without-here N n.0)) (short-gates N told.stored.dag n.0) named;
      living = living-set live n.0 true (entry_at (without N n.0)) (entry_at N) (told.room n.0 told.event) (some-live (entry_at N n.0) told.event)
          (λ q ne. sym (without-apart N n.0 q ne)) keeping-added.living;
      on = keeping-added.on;
    }

  -- ---- the gate that stood at a number goes: the network before is the one with it

  module _ (n : Node) (old : GateValue) (ss : List Signal) (same : ss ≡ old.fanins) (e : Event) (told : IsTold v live attached N e) (is : was e N ≡ with_entry N n.0 (IsGate old)) where
    dag-old : IsDag (with_entry N n.0 (IsGate old))
    dag-old = subst IsDag is told.before

    keeping-old : IsKeeping v live attached (with_entry N n.0 (IsGate old))
    keeping-old = keeping v live attached (with_entry N n.0 (IsGate old)) dag-old told.empty (subst (InStep (fanout_spec attached) (fanouts_in v live)) is told.step)

    slots-old : slots_at (entry_at (with_entry N n.0 (IsGate old))) n.0 ≡ ss
    slots-old = ap (λ o. at_entry [] fanins_of o) (with_entry-here N n.0 (IsGate old)) ∙ sym same

    pub low-old : n.0 < length live
    low-old = subst (λ M. AreBelow M (length live)) is told.room_before n.0 (subst IsSome (sym (with_entry-here N n.0 (IsGate old))) refl)

    pub linked-old : (m p : ℕ) → IsSlotOf n.0 ss m p → Within p (list_of v m)
    linked-old m p s = all-listed (entry_at (with_entry N n.0 (IsGate old))) v n.0 keeping-old.listed (short-gates (with_entry N n.0 (IsGate old)) dag-old n.0) m p
        (subst (λ (rs : List Signal). IsSlotOf n.0 rs m p) (sym slots-old) s)

    module _ (v1 : ChainsValue) (named : (m p : ℕ) → Within p (list_of v m) ↔ (Within p (list_of v1 m) ⊎ IsSlotOf n.0 ss m p))
        (gone : (m p : ℕ) → Within p (list_of v1 m) → IsSlotOf n.0 ss m p → ⊥) where
      listed-old : (h : Lookup) → ((q : ℕ) → q ≢ n.0 → h q ≡ entry_at N q) → slots_at h n.0 ≡ [] → AreListed v1 h
      listed-old h others none = listed-less (entry_at (with_entry N n.0 (IsGate old))) h n.0
          (λ q ne. others q ne ∙ sym (with_entry-apart N n.0 (IsGate old) q ne)) v v1 keeping-old.listed
          none (short-gates (with_entry N n.0 (IsGate old)) dag-old n.0)
          (λ m p. subst (λ (rs : List Signal). Within p (list_of v m) ↔ (Within p (list_of v1 m) ⊎ IsSlotOf n.0 rs m p)) (sym slots-old) (named m p))
          (λ m p. subst (λ (rs : List Signal). Within p (list_of v1 m) → IsSlotOf n.0 rs m p → ⊥) (sym slots-old) (gone m p))

      -- another gate stands there

      listed-between : AreListed v1 (entry_at (without N n.0))
      listed-between = listed-old (entry_at (without N n.0)) (without-apart N n.0) (no-slots (without N n.0) n.0 (without-here N n.0))

      pub absent-modified : (m j : ℕ) → j < 6 → Within (place n.0 j) (list_of v1 m) → ⊥
      absent-modified = none-listed (entry_at (without N n.0)) v1 n.0 listed-between (no-slots (without N n.0) n.0 (without-here N n.0))

      pub kept-modified : IsGateAt N n.0 → (v2 : ChainsValue)
          → ((m p : ℕ) → Within p (list_of v2 m) ↔ (Within p (list_of v1 m) ⊎ IsSlotOf n.0 (slots_at (entry_at N) n.0) m p)) → IsKeeping v2 live attached N
      kept-modified gate v2 named2 = record {
        listed = listed-more (entry_at (without N n.0)) (entry_at N) n.0 (λ q ne. sym (without-apart N n.0 q ne)) v1 v2 listed-between
            (no-slots (without N n.0) n.0 (without-here N n.0)) (short-gates N told.stored.dag n.0) named2;
        living = λ q. keeping-old.living q ∙ both q;
        on = keeping-old.on;
      }
        where
          both : (q : ℕ) → is_some (entry_at (with_entry N n.0 (IsGate old)) q) ≡ is_some (entry_at N q)
          both q = elim (eqb_tells q n.0) as (λ _. is_some (entry_at (with_entry N n.0 (IsGate old)) q) ≡ is_some (entry_at N q)) [
            | inl e ↦ subst (λ z. is_some (entry_at (with_entry N n.0 (IsGate old)) z) ≡ is_some (entry_at N z)) (sym e.1)
                (ap (λ (o : Option Entry). is_some o) (with_entry-here N n.0 (IsGate old)) ∙ sym (ap (λ (o : Option Entry). is_some o) gate.1))
            | inr e ↦ ap (λ (o : Option Entry). is_some o) (with_entry-apart N n.0 (IsGate old) q e.1)
          ]

      -- nothing stands there

      pub kept-deleted : entry_at N n.0 ≡ None → IsKeeping v1 (set live n.0 false) attached N
      kept-deleted dead = record {
        listed = listed-old (entry_at N) (λ q ne. refl) (no-slots N n.0 dead);
        living = living-set live n.0 false (entry_at (with_entry N n.0 (IsGate old))) (entry_at N) low-old (ap (λ (o : Option Entry). is_some o) (sym dead))
            (λ q ne. sym (with_entry-apart N n.0 (IsGate old) q ne)) keeping-old.living;
        on = keeping-old.on;
      }

-- a gate that stands at a number has a list
pub low-modified : (v : ChainsValue) (live : List Bool) (attached : Bool) (N : NetworkValue) (e : Event) (n : Node) → IsTold v live attached N e → IsGateAt N n.0 → n.0 < length v.lists
low-modified v live attached N e n told gate =
    let on = subst IsSome (sym gate.1) refl in
    has-list v live n.0 told.slots (told.room n.0 on) (told.stored.below n.0 on)

-- one read is within the bound
pub one-read : (attached : Bool) (asked : ViewSpec) (N : NetworkValue) (e : Event) → fanout_spec attached ≡ Some asked → (before after : ℕ) → after ≤ before + 1
    → after ≤ before + visit_bound e N (fanout_spec attached)
unfolding visit_bound reads_of
one-read true asked N e on before after le = omega arith
one-read false asked N e on before after le = let z : None ≡ Some asked = on in cc
