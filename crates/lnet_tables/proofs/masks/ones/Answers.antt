use Rattle.std.proofs.Common.{◌^◌, nat_lt, sym, ◌∙◌, arith, inl, inr}
use Rattle.std.proofs.lemmas.Bool.{cases_lt, le-ltb}
use Rattle.lnet_tables.specs.declared.masks.TheConstants.{ONES}
use Rattle.lnet_tables.proofs.Constants.{ones_agree, agree, long_at, past_end, few_rows}
use Rattle.lnet_tables.proofs.masks.ones.Goals as goal

pub returns : goal.returns
returns c = λ r. elim (cases_lt r 1024) [
  | inl lt ↦ agree (λ v r. nat_lt r (2 ^ v)) ONES ones_agree c.args.vars (omega arith) _ r lt
  | inr ge ↦ past_end _ (long_at (λ v r. nat_lt r (2 ^ v)) 0 ONES ones_agree c.args.vars (omega arith) _) r ge
      ∙ sym (le-ltb r (2 ^ c.args.vars) (omega (arith, few_rows c.args.vars c.requires)))
]
