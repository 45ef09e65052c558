use Rattle.std.proofs.Common.{arith, ◌≡◌, refl}
use Rattle.lnet_strash.proofs.Rebuilding.{table-like}
use Rattle.lnet_strash.proofs.chains.Chains.reserve.Goals as goal

pub returns-in_err-lengthen-2-clause-table : goal.returns-in_err-lengthen-2-clause-table
returns-in_err-lengthen-2-clause-table c =
    let same : c.lengthen-2.new.items.items ≡ c.args.self.now.heads.items = c.in_err-lengthen-2.ensures.refused in
    let longer = c.in_ok-lengthen.ensures.grows in
    let links = c.requires.table.links in
    rw same
    (table-like c.args.self.now.heads.items c.args.self.now.next.items c.lengthen.new.items.items c.args.self.now.standing.items c.args.self.now.standing.items c.requires.table c.in_ok-lengthen.ensures.same longer (λ n. refl) (omega arith) c.requires.table.few)
