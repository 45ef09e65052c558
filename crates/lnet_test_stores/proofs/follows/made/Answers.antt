use Rattle.std.proofs.Common.{◌≡◌, Some, refl, sym, ap, ◌∙◌}
use Rattle.lnet_gates.specs.Gates.{GateValue}
use Rattle.lnet_model.specs.Networks.{IsGate, entry_at}
use Rattle.lnet_model.proofs.Changes.{with_entry-here}
use Rattle.lnet_test_stores.proofs.follows.made.Goals as goal

same-fanins : {g h : GateValue} → Some (IsGate g) ≡ Some (IsGate h) → g.fanins ≡ h.fanins
same-fanins e = cc

pub returns-else-not-is_another-clause-event : goal.returns-else-not-is_another-clause-event
returns-else-not-is_another-clause-event g c =
    let here = ap (λ N. entry_at N c.in-Set.n) c.set_gate-old.ensures.network ∙ with_entry-here _ c.in-Set.n (IsGate c.and-in-Set.result) in (
      (c.and-in-Set.result, here),
      λ same. (c.if-not-is_another.ensures refl).1 c.set_gate-old.result c.set_gate-old.ensures.old (same-fanins (sym same ∙ here) ∙ ap (λ (h : GateValue). h.fanins) c.and-in-Set.ensures),
    )
