use Rattle.std.proofs.Common.{◌≡◌, ◌∙◌, ◌∷◌, [], ◌++◌, ◌^◌, ◌<◌, length, ap, subst}
use Rattle.lnet_tables.specs.Bits.{is_set}
use Rattle.lnet_cuts.proofs.KeptCuts.{stored-as, row-two, kept-two}
use Rattle.lnet_cuts.proofs.list.StoredCut.trivial.Goals as goal

pub returns : goal.returns
returns c =
    let e : c.push.new.self.items ≡ c.args.n.0 ∷ [] = c.push.ensures.items ∙ ap (λ v. v ++ c.args.n.0 ∷ []) c.new-leaves.ensures in
    stored-as c.push.new.self.items (c.args.n.0 ∷ []) (2 ∷ 0 ∷ 0 ∷ 0 ∷ []) (λ r. is_set r 0) e (λ r h. row-two r (let k : r < 2 ^ 1 = subst (λ v. r < 2 ^ length v) e h in k))

pub invariant_of-result : goal.invariant_of-result
invariant_of-result c = kept-two c.push.new.self.items (ap length c.push.ensures.items ∙ ap (λ v. length (v ++ c.args.n.0 ∷ [])) c.new-leaves.ensures)
