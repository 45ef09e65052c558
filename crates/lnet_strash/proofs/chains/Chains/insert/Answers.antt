use Rattle.std.proofs.Common.{arith, ◌≡◌, ◌<◌, ◌∙◌, ℕ, List, Option, length, ap, subst}
use Rattle.lnet_strash.specs.Keys.{chain_of}
use Rattle.lnet_strash.proofs.Tables.{table-insert}
use Rattle.lnet_strash.proofs.chains.Chains.insert.Goals as goal

pub returns-clause-table : goal.returns-clause-table
returns-clause-table c =
    let heads : List (Option ℕ) = c.args.self.now.heads.items in
    let next : List (Option ℕ) = c.args.self.now.next.items in
    let size : c.len.result ≡ length heads = (let ok = c.args.self.now.heads.ok in let e = c.len.ensures in omega arith) in
    let chain : c.chain_of-chain.result ≡ chain_of (length heads) c.args.key = c.chain_of-chain.ensures.value ∙ ap (λ z. chain_of z c.args.key) size in
    let low : chain_of (length heads) c.args.key < length heads = subst (λ z. z < length heads) chain (subst (λ z. c.chain_of-chain.result < z) size c.chain_of-chain.ensures.within) in
    rw (c.prepend.ensures.heads, c.prepend.ensures.next, c.prepend.ensures.standing, chain)
    (table-insert heads next c.args.self.now.standing.items c.requires.table c.args.number c.args.key c.args.phase c.requires.number c.requires.free c.requires.absent low)
