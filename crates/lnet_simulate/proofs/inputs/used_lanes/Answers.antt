use Rattle.std.proofs.Common.{◌≡◌, ◌^◌, ℕ, nat_lt, ap, ◌∙◌, inl, inr, arith}
use Rattle.std.proofs.lemmas.Bool.{cases_lt}
use Rattle.lnet_simulate.proofs.BlockLemmas.{all-used}
use Rattle.lnet_simulate.proofs.inputs.used_lanes.Goals as goal

pub returns : goal.returns
returns c = λ j lt.
    let is = c.min.ensures in
    c.first_rows.ensures.rows j lt
    ∙ elim (cases_lt c.args.inputs 6) as (λ _. nat_lt j (2 ^ c.min.result) ≡ nat_lt j (2 ^ c.args.inputs)) [
      | inl low ↦ let e : c.min.result ≡ c.args.inputs = omega arith in ap (λ (n : ℕ). nat_lt j (2 ^ n)) e
      | inr high ↦ let e : c.min.result ≡ 6 = omega arith in ap (λ (n : ℕ). nat_lt j (2 ^ n)) e ∙ all-used c.args.inputs j high lt
    ]
