use Rattle.std.proofs.Common.{◌∙◌}
use Rattle.lnet_hashed.proofs.KeptViews.{told_twice}
use Rattle.lnet_cascade.proofs.NoteSteps.{follow-twice}
use Rattle.lnet_cascade.proofs.cascading.cascade.Goals as goal

pub take_dirty-requires-clause-begun : goal.take_dirty-requires-clause-begun
take_dirty-requires-clause-begun g c =
    let b = c.requires.begun in
    (b.0, b.1, b.2, b.3, c.gates.invariant.goes_on b.0 b.1 b.2 b.3 b.4)

pub gates-preserved : goal.gates-preserved
gates-preserved g c =
    let I = c.gates.invariant in
    let E = c.take_dirty.ensures in
    record {
      goes_on = λ N o s can begun. E.goes_on N o s can (I.goes_on N o s can begun);
      gates = E.gates;
      midway = record { midway = E.midway.midway; room = E.midway.room ∙ I.midway.room; noted = follow-twice I.midway.noted E.midway.noted };
      long = E.long ∙ I.long;
      told = told_twice I.told E.told;
    }
