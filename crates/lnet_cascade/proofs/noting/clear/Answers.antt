use Rattle.std.proofs.Common.{◌<◌, sym, subst, arith}
use Rattle.lnet_cascade.specs.Marks.{marked_count}
use Rattle.lnet_cascade.proofs.Marking.{marked-clear}
use Rattle.lnet_cascade.proofs.noting.clear.Goals as goal

pub members-smaller : goal.members-smaller
members-smaller c =
    let one = marked-clear c.members.set c.in-Some.n c.in-Some.ensures.member in
    subst (λ bs. marked_count bs < marked_count c.members.set) (sym c.remove.ensures) (omega arith)
