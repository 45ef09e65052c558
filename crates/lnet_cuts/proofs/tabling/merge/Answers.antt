use Rattle.std.proofs.Common.{◌∙◌, ◌<◌, ◌^◌, ap, length, subst, sym, ℕ}
use Rattle.lnet_gates.specs.Gates.{apply}
use Rattle.lnet_model.specs.Cuts.{union_of, values_of}
use Rattle.lnet_cuts.proofs.KeptCuts.{stored-as}
use Rattle.lnet_cuts.proofs.tabling.merge.Goals as goal

pub returns : goal.returns
returns c =
    let f = λ (r : ℕ). apply c.args.gate.now.op c.args.gate.now.phase (values_of (union_of c.args.cuts.now) r c.args.gate.now.fanins c.args.cuts.now) in
    stored-as c.args.leaves.items (union_of c.args.cuts.now) c.table_of-table.result f c.requires.leaves
    (λ r h. c.table_of-table.ensures.rows r (subst (λ v. r < 2 ^ length v) (sym c.as_slice.ensures.value) h)
    ∙ ap (λ v. apply c.args.gate.now.op c.args.gate.now.phase (values_of v r c.args.gate.now.fanins c.args.cuts.now)) (c.as_slice.ensures.value ∙ c.requires.leaves))
