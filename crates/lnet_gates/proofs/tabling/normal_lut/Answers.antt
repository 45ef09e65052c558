use Rattle.std.proofs.Common.{ap, sym, ◌∙◌}
use Rattle.lnet_gates.specs.Gates.{GateValue, flip}
use Rattle.lnet_gates.proofs.LutOnly.{only-form}
use Rattle.lnet_gates.proofs.tabling.normal_lut.Goals as goal

pub returns : goal.returns
returns c = sym (only-form c.args.gate.now c.form_of.result c.form_of.ensures.proper (λ V zero_false.
    c.form_of.ensures.value V zero_false
    ∙ (λ i. flip (ap (λ (g : GateValue). g.phase) c.gate.view_is i)
    (sym (c.wired_gate.ensures V zero_false ∙ c.plain.ensures.same.at V zero_false ∙ c.merged-wired.ensures.same.at V zero_false ∙ c.needed.ensures.same.at V zero_false ∙ c.ordered.ensures.same.at V zero_false) i))))
