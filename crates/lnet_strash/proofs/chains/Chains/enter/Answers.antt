use Rattle.std.proofs.Common.{arith, ◌≡◌, ◌<◌, ◌∙◌, ℕ, List, Option, None, Some, length, sym, ap, subst}
use Rattle.lnet_strash.specs.Keys.{chain_of}
use Rattle.lnet_strash.specs.Standing.{at}
use Rattle.lnet_strash.proofs.Links.{get_or-is}
use Rattle.lnet_strash.proofs.Rebuilding.{enters}
use Rattle.lnet_strash.proofs.chains.Chains.enter.Goals as goal

pub returns-in-Some-clause-chains : goal.returns-in-Some-clause-chains
returns-in-Some-clause-chains c =
    let heads : List (Option ℕ) = c.args.self.now.heads.items in
    let next : List (Option ℕ) = c.args.self.now.next.items in
    let within : c.args.number < length next = (let a = c.requires.number in let b = c.requires.links in omega arith) in
    let stands : at c.args.self.now.standing.items c.args.number ≡ Some (c.in-Some.key, c.in-Some.field-0-1) = sym (get_or-is c.args.self.now.standing.items c.args.number c.index.result.now None c.requires.number c.index.ensures) ∙ c.in-Some.is in
    let size : c.len.result ≡ length heads = (let ok = c.args.self.now.heads.ok in let e = c.len.ensures in omega arith) in
    let chain : c.chain_of-chain.result ≡ chain_of (length heads) c.in-Some.key = c.chain_of-chain.ensures.value ∙ ap (λ z. chain_of z c.in-Some.key) size in
    let low : chain_of (length heads) c.in-Some.key < length heads = subst (λ z. z < length heads) chain (subst (λ z. c.chain_of-chain.result < z) size c.chain_of-chain.ensures.within) in
    rw (c.prepend.ensures.heads, c.prepend.ensures.next, chain)
    (enters heads next c.args.self.now.standing.items c.args.number (c.in-Some.key, c.in-Some.field-0-1) c.requires.chains within stands low)
