use Rattle.std.proofs.Common.{Some, false, sym, ap, ◌∙◌}
use Rattle.lnet_model.specs.Networks.{gate_in}
use Rattle.lnet_strash.specs.Standing.{Standing, at}
use Rattle.lnet_strash.proofs.Entries.{entry_free, no-entry}
use Rattle.lnet_strash.proofs.Tables.{at-same, at-other}
use Rattle.lnet_hashed.specs.Indexed.{stands_for}
use Rattle.lnet_hashed.proofs.Indexing.{indexed-after}
use Rattle.lnet_hashed.proofs.keys.Keys.enter.Goals as goal

pub insert-requires-clause-free : goal.insert-requires-clause-free
insert-requires-clause-free c k p e = entry_free c.args.self.now.table c.args.n c.requires.free k p e

pub insert-requires-clause-absent : goal.insert-requires-clause-absent
insert-requires-clause-absent c = no-entry c.args.self.now.table c.args.key c.requires.absent

pub returns-clause-indexed : goal.returns-clause-indexed
returns-clause-indexed c N M room I same here =
    indexed-after N M c.args.self.now _ c.args.n.0 room false c.requires.marked c.remove.ensures
    (ap (λ (t : Standing). at t c.args.n.0) c.insert.ensures.standing ∙ at-same c.args.self.now.table c.args.n.0 (Some (c.args.key, c.args.phase)) c.requires.placed ∙ sym (ap (λ o. stands_for (gate_in o) false) here))
    (λ m ne. ap (λ (t : Standing). at t m) c.insert.ensures.standing ∙ at-other c.args.self.now.table c.args.n.0 (Some (c.args.key, c.args.phase)) m ne)
    c.insert.ensures.room c.insert.ensures.unique I same
