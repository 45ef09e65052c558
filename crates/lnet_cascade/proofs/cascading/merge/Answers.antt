use Rattle.std.proofs.Common.{◌∙◌, false, length-set}
use Rattle.lnet_cascade.proofs.Marking.{left-nodes}
use Rattle.lnet_cascade.proofs.DirtySteps.{merged-free, merged-goes_on, merged-gates}
use Rattle.lnet_cascade.proofs.cascading.merge.Goals as goal

pub replace-requires-clause-free : goal.replace-requires-clause-free
replace-requires-clause-free g c =
    let m = c.requires.merges in
    merged-free g.G.Gates.KIND c.args.hashed.now.store.network c.live_count-live.ensures.stored c.args.hashed.now.keys.dirty c.requires.begun c.args.redirection.from.0 c.requires.dirty m.0 m.1 c.args.redirection.to c.requires.apart m.2

pub returns-clause-goes_on : goal.returns-clause-goes_on
returns-clause-goes_on g c =
    let m = c.requires.merges in
    merged-goes_on g.G.Gates.KIND c.args.hashed.now.store.network c.live_count-live.ensures.stored c.args.hashed.now.keys.dirty c.requires.begun c.args.redirection.from.0 c.requires.dirty m.0 m.1 c.args.redirection.to c.requires.apart c.requires.live m.2 c.replace.new.hashed.store.network c.replace.ensures.network c.replace.new.hashed.keys.dirty c.replace.ensures.dirty

pub returns-clause-gates : goal.returns-clause-gates
returns-clause-gates g c =
    let m = c.requires.merges in
    merged-gates g.G.Gates.KIND c.args.hashed.now.store.network c.live_count-live.ensures.stored c.args.hashed.now.keys.dirty c.requires.begun c.args.redirection.from.0 c.requires.dirty m.0 m.1 c.args.redirection.to c.requires.apart c.requires.live m.2 c.replace.new.hashed.store.network c.replace.ensures.network c.replace.new.hashed.keys.dirty c.replace.ensures.dirty c.requires.gates

pub returns-clause-less : goal.returns-clause-less
returns-clause-less g c = left-nodes c.args.hashed.now.store.network c.replace.new.hashed.store.network c.args.hashed.now.keys.dirty c.replace.new.hashed.keys.dirty c.replace.ensures.count (c.replace.ensures.dirty.len ∙ length-set c.args.hashed.now.keys.dirty c.args.redirection.from.0 false)
