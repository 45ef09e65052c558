-- The lists where the gates up to a number have come into them.
use Rattle.std.proofs.Common.{◌≡◌, ◌≢◌, ℕ, suc, ◌+◌, ◌<◌, ◌≤◌, Bool, true, false, cond, ltb, List, [], length, get_or, set, slice_get, IsSome, Option}
use Rattle.std.proofs.Common.{None, Some, refl, sym, ap, subst, ◌∙◌, inl, inr, arith}
use Rattle.std.specs.Prelude.{◌⊎◌, ◌↔◌, is_some}
use Rattle.std.proofs.lemmas.Bool.Decides.{leb_tells}
use Rattle.lnet_model.specs.Networks.{NetworkValue, Entry, Lookup, entry_at, fanins_of, IsLive}
use Rattle.lnet_model.specs.Along.{at_entry}
use Rattle.lnet_model.specs.Dags.{IsDag, AreBelow}
use Rattle.lnet_chains.specs.Lists.{ChainsValue, Within, list_of}
use Rattle.lnet_store.specs.Linked.{IsSlotOf, NamesNode, place}
use Rattle.lnet_fanouts.specs.FanoutViews.{AreListed, AreLive, slots_at}
use Rattle.lnet_fanouts.proofs.Fans.{short-gates}
use Rattle.lnet_fanouts.proofs.SlotLemmas.{listed-more, none-listed}
use Rattle.lnet_fanouts.proofs.Events.{living-set}

-- what stands at the numbers below this one
abbrev pub up_to : Lookup → ℕ → Lookup
up_to g i q = cond (ltb q i) (g q) None

within : (g : Lookup) (i q : ℕ) → q < i → up_to g i q ≡ g q
within g i q lt = elim (leb_tells (suc q) i) as (λ _. up_to g i q ≡ g q) [ inl h ↦ ap (λ b. cond b (g q) None) h.0 | inr h ↦ (let f = h.1 in absurd (omega arith)) ]

beyond : (g : Lookup) (i q : ℕ) → i ≤ q → up_to g i q ≡ None
beyond g i q le = elim (leb_tells (suc q) i) as (λ _. up_to g i q ≡ None) [ inl h ↦ (let f = h.1 in absurd (omega arith)) | inr h ↦ ap (λ b. cond b (g q) None) h.0 ]

one-more : (g : Lookup) (i q : ℕ) → q ≢ i → up_to g (i + 1) q ≡ up_to g i q
one-more g i q ne = elim (leb_tells (suc q) i) as (λ _. up_to g (i + 1) q ≡ up_to g i q) [
  | inl h ↦ (let f = h.1 in within g (i + 1) q (omega arith) ∙ sym (within g i q (omega arith)))
  | inr h ↦ (let f = h.1 in beyond g (i + 1) q (omega arith) ∙ sym (beyond g i q (omega arith)))
]

pub none-yet : (g : Lookup) (c : ChainsValue) → ((n : ℕ) → list_of c n ≡ []) → AreListed c (up_to g 0)
none-yet g c empty m p j lt = (
  λ i. absurd (subst (Within (place p j)) (empty m) i),
  λ r. absurd (subst (λ o. NamesNode m (slice_get (at_entry [] fanins_of o) j)) (beyond g 0 p (omega arith)) r),
)

pub none-live : (g : Lookup) (live : List Bool) → ((n : ℕ) → get_or live n false ≡ false) → AreLive live (up_to g 0)
none-live g live none n = none n ∙ ap (λ (o : Option Entry). is_some o) (sym (beyond g 0 n (omega arith)))

no-slots-yet : (g : Lookup) (i : ℕ) → slots_at (up_to g i) i ≡ []
no-slots-yet g i = ap (λ o. at_entry [] fanins_of o) (beyond g i i (omega arith))

slots-then : (g : Lookup) (i : ℕ) → slots_at (up_to g (i + 1)) i ≡ slots_at g i
slots-then g i = ap (λ o. at_entry [] fanins_of o) (within g (i + 1) i (omega arith))

pub absent-yet : (g : Lookup) (c : ChainsValue) (i : ℕ) → AreListed c (up_to g i) → (m j : ℕ) → j < 6 → Within (place i j) (list_of c m) → ⊥
absent-yet g c i listed = none-listed (up_to g i) c i listed (no-slots-yet g i)

pub filled-more : (N : NetworkValue) (c c2 : ChainsValue) (i : ℕ) → IsDag N → AreListed c (up_to (entry_at N) i)
    → ((m p : ℕ) → Within p (list_of c2 m) ↔ (Within p (list_of c m) ⊎ IsSlotOf i (slots_at (entry_at N) i) m p)) → AreListed c2 (up_to (entry_at N) (i + 1))
filled-more N c c2 i D listed named = listed-more (up_to (entry_at N) i) (up_to (entry_at N) (i + 1)) i (one-more (entry_at N) i) c c2 listed (no-slots-yet (entry_at N) i)
    (subst (λ ss. length ss ≤ 6) (sym (slots-then (entry_at N) i)) (short-gates N D i))
    (λ m p. subst (λ ss. Within p (list_of c2 m) ↔ (Within p (list_of c m) ⊎ IsSlotOf i ss m p)) (sym (slots-then (entry_at N) i)) (named m p))

tells-live : (b : Bool) (o : Option Entry) → (b ≡ true) ↔ IsSome o → b ≡ is_some o
tells-live true None so = sym (so.0 refl)
tells-live true (Some e) so = refl
tells-live false None so = refl
tells-live false (Some e) so = so.1 refl

pub living-more : (N : NetworkValue) (live : List Bool) (i : ℕ) (b : Bool) → i < length live → (b ≡ true) ↔ IsLive N i → AreLive live (up_to (entry_at N) i)
    → AreLive (set live i b) (up_to (entry_at N) (i + 1))
living-more N live i b low so living = living-set live i b (up_to (entry_at N) i) (up_to (entry_at N) (i + 1)) low
    (tells-live b (entry_at N i) so ∙ ap (λ (o : Option Entry). is_some o) (sym (within (entry_at N) (i + 1) i (omega arith)))) (one-more (entry_at N) i) living

-- past the last live number that is the network
all-there : (N : NetworkValue) (i : ℕ) → AreBelow N i → (q : ℕ) → up_to (entry_at N) i q ≡ entry_at N q
all-there N i below q = elim (leb_tells (suc q) i) as (λ _. up_to (entry_at N) i q ≡ entry_at N q) [
  | inl h ↦ within (entry_at N) i q h.1
  | inr h ↦ (let f = h.1 in beyond (entry_at N) i q (omega arith) ∙ sym (dead (entry_at N q) (λ live. let lt = below q live in absurd (omega arith))))
]
  where
    dead : (o : Option Entry) → (IsSome o → ⊥) → o ≡ None
    dead None h = refl
    dead (Some e) h = absurd (h refl)

pub listed-all : (N : NetworkValue) (c : ChainsValue) (i : ℕ) → AreBelow N i → AreListed c (up_to (entry_at N) i) → AreListed c (entry_at N)
listed-all N c i below listed m p j lt = subst (λ o. Within (place p j) (list_of c m) ↔ NamesNode m (slice_get (at_entry [] fanins_of o) j)) (all-there N i below p) (listed m p j lt)

pub living-all : (N : NetworkValue) (live : List Bool) (i : ℕ) → AreBelow N i → AreLive live (up_to (entry_at N) i) → AreLive live (entry_at N)
living-all N live i below living n = living n ∙ ap (λ (o : Option Entry). is_some o) (all-there N i below n)
