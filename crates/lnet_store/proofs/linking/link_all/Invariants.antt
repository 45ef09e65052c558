use Rattle.std.proofs.Common.{◌≡◌, ℕ, ◌+◌, length, take}
use Rattle.std.specs.Prelude.{◌⊎◌, ◌↔◌}
use Rattle.lnet_chains.specs.Lists.{Within, list_of}
use Rattle.lnet_store.specs.Fields.{naming}
use Rattle.lnet_store.specs.Linked.{HasPlaces, place}
use Rattle.lnet_store.proofs.ChainSteps.{IsSlotBelow}
use Rattle.lnet_store.proofs.linking.link_all.Given as goal

abbrev pub invariant-signals : goal.invariant-signals
invariant-signals l =
    (l.slot ≡ place l.fn.n.0 l.signal-index)
    × (length l.chains.lists ≡ length l.fn.chains.lists)
    × HasPlaces l.chains
    × ((m p : ℕ) → Within p (list_of l.chains m) ↔ (Within p (list_of l.fn.chains m) ⊎ IsSlotBelow l.fn.n.0 l.signals l.signal-index m p))
    × ((m : ℕ) → length (list_of l.chains m) ≡ length (list_of l.fn.chains m) + naming m (take l.signal-index l.signals))
