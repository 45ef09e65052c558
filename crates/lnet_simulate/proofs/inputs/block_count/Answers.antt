use Rattle.std.proofs.Common.{◌≤◌, ◌-◌, ◌^◌, arith, pow_mono}
use Rattle.std.proofs.lemmas.Nat.{one_shl}
use Rattle.lnet_simulate.proofs.BlockLemmas.{blocks}
use Rattle.lnet_simulate.proofs.inputs.block_count.Goals as goal

pub returns-then-inputs-lt6-clause-all : goal.returns-then-inputs-lt6-clause-all
returns-then-inputs-lt6-clause-all c =
    let most : 2 ^ c.args.inputs ≤ 2 ^ 6 = pow_mono {i = c.args.inputs} {j = 6} (omega arith) in
    omega arith

pub returns-else-inputs-lt6-clause-few : goal.returns-else-inputs-lt6-clause-few
returns-else-inputs-lt6-clause-few c =
    let one = one_shl (c.args.inputs - 6) 32 (omega arith) in
    let most : 2 ^ (c.args.inputs - 6) ≤ 2 ^ 10 = pow_mono {i = c.args.inputs - 6} {j = 10} (omega arith) in
    omega arith

pub returns-else-inputs-lt6-clause-within : goal.returns-else-inputs-lt6-clause-within
returns-else-inputs-lt6-clause-within c = λ b j lt low inside.
    let one = one_shl (c.args.inputs - 6) 32 (omega arith) in
    let all = blocks c.args.inputs c.if-inputs-lt6.false in
    omega arith

pub returns-else-inputs-lt6-clause-all : goal.returns-else-inputs-lt6-clause-all
returns-else-inputs-lt6-clause-all c =
    let one = one_shl (c.args.inputs - 6) 32 (omega arith) in
    let all = blocks c.args.inputs c.if-inputs-lt6.false in
    omega arith
