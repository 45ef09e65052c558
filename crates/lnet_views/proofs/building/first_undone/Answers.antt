use Rattle.std.proofs.Common.{◌∙◌, ap, sym}
use Rattle.lnet_gates.specs.Gates.{GateValue}
use Rattle.lnet_views.proofs.FromScratch.{in-items-of, none-of}
use Rattle.lnet_views.proofs.building.first_undone.Goals as goal

pub returns-then-not-is_done : goal.returns-then-not-is_done
returns-then-not-is_done c =
    let e = c.as_slice-s-items.ensures.value ∙ ap (λ (g : GateValue). g.fanins) c.gate.view_is in
    (in-items-of c.as_slice-s-items.result.now c.args.gate.now.fanins e c.loop-s.s-index _ c.loop-s-test.true, none-of _ (sym c.is_done.ensures ∙ c.if-not-is_done.true))
