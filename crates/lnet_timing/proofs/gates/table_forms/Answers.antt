use Rattle.std.proofs.Common.{◌≤◌, List, length, ap, sym, subst, lit<}
use Rattle.std.proofs.lemmas.Nat.{xor_lt}
use Rattle.lnet_gates.specs.Gates.{GateValue}
use Rattle.lnet_gates.specs.declared.signal.Signal.{Signal}
use Rattle.lnet_timing.proofs.gates.table_forms.Goals as goal

pub loop-call-preserved : goal.loop-call-preserved
loop-call-preserved c =
    let few : length c.gate.inside.fanins.items ≤ 6 = subst (λ (ss : List Signal). length ss ≤ 6) (sym (ap (λ (g : GateValue). g.fanins) c.gate.view_is)) c.loop-call.invariant.few in
    record { native = (few, xor_lt 64 c.rotate_left-sum.result 11400714819323198485 c.rotate_left-sum.type_inv (lit< tt)); few = few }
