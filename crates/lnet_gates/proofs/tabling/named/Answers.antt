use Rattle.std.proofs.Common.{◌≡◌, length, refl, arith, rules, false}
use Rattle.lnet_gates.specs.Operands.{constant}
use Rattle.lnet_gates.proofs.NamedSignals.{named-kept, named-left, named-room}
use Rattle.lnet_gates.proofs.tabling.named.Goals as goal
use Rattle.lnet_gates.proofs.tabling.named.Goals.{then-operand-ne0, else-operand-ne0}

pub push-requires : goal.push-requires
push-requires c =
    let long : length c.args.operands.now ≡ 6 = search rules in
    (omega arith, named-room c.args.operands.now c.loop-operand.operand-index c.loop-operand.signals.items (omega arith) long c.loop-operand.invariant)

pub loop-operand-preserved : goal.loop-operand-preserved
loop-operand-preserved c =
    let long : length c.args.operands.now ≡ 6 = search rules in
    elim c.if-operand-ne0.branch [
      | then-operand-ne0 w ↦
          named-kept c.args.operands.now c.loop-operand.operand-index (constant false) c.loop-operand.signals.items c.if-operand-ne0.signals.items (omega arith)
          c.loop-operand.invariant w.if-operand-ne0.true (rw w.signals-is w.push.ensures.items)
      | else-operand-ne0 w ↦
          named-left c.args.operands.now c.loop-operand.operand-index (constant false) c.loop-operand.signals.items c.if-operand-ne0.signals.items (omega arith)
          c.loop-operand.invariant w.if-operand-ne0.false (rw w.signals-is refl)
    ]
