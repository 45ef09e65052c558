use Rattle.std.proofs.Common.{◌∙◌}
use Rattle.lnet_hashed.proofs.KeptViews.{told_twice}
use Rattle.lnet_substitution.proofs.Merging.{not-both}
use Rattle.lnet_cascade.proofs.NoteSteps.{follow-twice}
use Rattle.lnet_cascade.proofs.losing.sweep_lost.Goals as goal

pub lost-preserved : goal.lost-preserved
lost-preserved g c =
    let I = c.lost.invariant in
    let E = c.drop_lost.ensures in
    record {
      drops = λ N P noted S. E.drops N P (I.midway.noted.goes_on N noted) (I.drops N P noted S);
      midway = record { midway = E.midway.midway; room = E.midway.room ∙ I.midway.room; noted = follow-twice I.midway.noted E.midway.noted };
      clean = E.clean;
      told = told_twice I.told E.told;
    }

pub returns-clause-none : goal.returns-clause-none
returns-clause-none g c N noted n lost =
    let now = c.lost.invariant.midway.noted.goes_on N noted n lost.gate in
    let is = now.loss lost.free lost.had_one in
    not-both _ (c.in_default.ensures n) is
