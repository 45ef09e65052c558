use Rattle.std.proofs.Common.{arith}
use Rattle.lnet_edge.proofs.WireLemmas.{length-views}
use Rattle.lnet_edge.proofs.FaultLemmas.{undriven_found, knows_of, drives_of, checked, cyclic_by, acyclic_by}
use Rattle.lnet_edge.proofs.PlainLemmas.{plain_by}
use Rattle.lnet_edge.proofs.circuit.Circuit.new.Goals as goal

pub returns-then-not-drive_all-clause-refused : goal.returns-then-not-drive_all-clause-refused
returns-then-not-drive_all-clause-refused c = undriven_found c.in_ok-drivers.drivers c.in_ok-drivers.twice c.args.inputs.items c.args.outputs.items c.args.equations.items c.drive_all.result (knows_of c.in_ok-drivers.drivers c.in_ok-drivers.twice c.args.inputs.items c.deref.result.now c.args.outputs.items c.args.equations.items c.deref-2.result.now c.deref.ensures.value c.deref-2.ensures.value c.in_ok-drivers.ensures.wires) (drives_of c.in_ok-drivers.drivers c.args.outputs.items c.deref-3.result.now c.args.equations.items c.deref-4.result.now c.drive_all.result c.deref-3.ensures.value c.deref-4.ensures.value c.drive_all.ensures) c.if-not-drive_all.true

pub returns-then-twice-clause-refused : goal.returns-then-twice-clause-refused
returns-then-twice-clause-refused c =
    let known = checked c.in_ok-drivers.drivers c.in_ok-drivers.twice c.args.inputs.items c.deref.result.now c.args.outputs.items c.deref-3.result.now c.args.equations.items c.deref-2.result.now c.deref-4.result.now c.drive_all.result c.deref.ensures.value c.deref-3.ensures.value c.deref-2.ensures.value c.deref-4.ensures.value c.in_ok-drivers.ensures.wires c.drive_all.ensures c.if-not-drive_all.false in
    (known.driven, known.repeated c.if-twice.true)

pub returns-then-branch-clause-refused : goal.returns-then-branch-clause-refused
returns-then-branch-clause-refused c =
    let known = checked c.in_ok-drivers.drivers c.in_ok-drivers.twice c.args.inputs.items c.deref.result.now c.args.outputs.items c.deref-3.result.now c.args.equations.items c.deref-2.result.now c.deref-4.result.now c.drive_all.result c.deref.ensures.value c.deref-3.ensures.value c.deref-2.ensures.value c.deref-4.ensures.value c.in_ok-drivers.ensures.wires c.drive_all.ensures c.if-not-drive_all.false in
    (known.driven, known.once c.if-twice.false, cyclic_by c.args.equations.items c.deref-5.result.now c.in_ok-is_cyclic.field-0 c.deref-5.ensures.value c.in_ok-is_cyclic.ensures.cyclic c.if-branch.true)

pub invariant_of-result : goal.invariant_of-result
invariant_of-result c =
    let known = checked c.in_ok-drivers.drivers c.in_ok-drivers.twice c.args.inputs.items c.deref.result.now c.args.outputs.items c.deref-3.result.now c.args.equations.items c.deref-2.result.now c.deref-4.result.now c.drive_all.result c.deref.ensures.value c.deref-3.ensures.value c.deref-2.ensures.value c.deref-4.ensures.value c.in_ok-drivers.ensures.wires c.drive_all.ensures c.if-not-drive_all.false in (
      record {
        driven = known.driven;
        once = known.once c.if-twice.false;
        acyclic = λ (w, back). acyclic_by c.args.equations.items c.deref-5.result.now c.in_ok-is_cyclic.field-0 w c.deref-5.ensures.value c.in_ok-is_cyclic.ensures.acyclic c.if-branch.false back;
        arities = c.requires.arities;
        few = let n = length-views c.args.equations.items in let h = c.requires.few in omega arith;
        few_outputs = c.requires.few_outputs;
      },
      plain_by c.args.equations.items c.deref-6.result.now c.are_plain-plain.result c.deref-6.ensures.value c.are_plain-plain.ensures,
    )

pub returns-clause-circuit : goal.returns-clause-circuit
returns-clause-circuit c =
    let known = checked c.in_ok-drivers.drivers c.in_ok-drivers.twice c.args.inputs.items c.deref.result.now c.args.outputs.items c.deref-3.result.now c.args.equations.items c.deref-2.result.now c.deref-4.result.now c.drive_all.result c.deref.ensures.value c.deref-3.ensures.value c.deref-2.ensures.value c.deref-4.ensures.value c.in_ok-drivers.ensures.wires c.drive_all.ensures c.if-not-drive_all.false in
    record {
      driven = known.driven;
      once = known.once c.if-twice.false;
      acyclic = λ (w, back). acyclic_by c.args.equations.items c.deref-5.result.now c.in_ok-is_cyclic.field-0 w c.deref-5.ensures.value c.in_ok-is_cyclic.ensures.acyclic c.if-branch.false back;
      arities = c.requires.arities;
      few = let n = length-views c.args.equations.items in let h = c.requires.few in omega arith;
      few_outputs = c.requires.few_outputs;
    }
