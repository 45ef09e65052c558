use Rattle.std.proofs.Common.{◌≡◌, ℕ, length}
use Rattle.std.specs.Prelude.{◌⊎◌, ◌↔◌}
use Rattle.lnet_chains.specs.Lists.{Within, list_of}
use Rattle.lnet_store.specs.Linked.{place}
use Rattle.lnet_store.proofs.ChainSteps.{IsSlotBelow}
use Rattle.lnet_fanouts.proofs.linking.take_all.Given as goal

abbrev pub invariant-signals : goal.invariant-signals
invariant-signals l = record {
  slot : l.slot ≡ place l.fn.n.0 l.signal-index;
  len : length l.pool.lists ≡ length l.fn.pool.lists;
  places : l.pool.places ≡ l.fn.pool.places;
  named : (m p : ℕ) → Within p (list_of l.fn.pool m) ↔ (Within p (list_of l.pool m) ⊎ IsSlotBelow l.fn.n.0 l.signals l.signal-index m p);
  gone : (m p : ℕ) → Within p (list_of l.pool m) → IsSlotBelow l.fn.n.0 l.signals l.signal-index m p → ⊥;
}
