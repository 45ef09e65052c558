use Rattle.std.proofs.Common.{◌≡◌, ◌^◌, ◌<◌, ◌-◌, ℕ, List, zero, suc, nat_lt, refl, sym, ◌∙◌, get_or, arith}
use Rattle.std.proofs.lemmas.Nat.{pow_pos}
use Rattle.lnet_tables.specs.declared.masks.TheConstants.{ONES}
use Rattle.lnet_tables.proofs.Constants.{ones_agree, agree}
use Rattle.lnet_tables.proofs.WordRows.{first_row}
use Rattle.lnet_tables.proofs.masks.first_rows.Goals as goal

value : (n : ℕ) (d : List ℕ) (e : ℕ) → n < 7 → get_or (get_or ONES n d) 0 e ≡ 2 ^ 2 ^ n - 1
value zero d e h = refl
value (suc zero) d e h = refl
value (suc (suc zero)) d e h = refl
value (suc (suc (suc zero))) d e h = refl
value (suc (suc (suc (suc zero)))) d e h = refl
value (suc (suc (suc (suc (suc zero))))) d e h = refl
value (suc (suc (suc (suc (suc (suc zero)))))) d e h = refl
value (suc (suc (suc (suc (suc (suc (suc n))))))) d e h = absurd (omega arith)

pub returns : goal.returns
returns c =
    let v = value c.args.count _ _ (omega arith) in
    record {
      rows = λ r lt. sym (first_row _ r lt) ∙ agree (λ v r. nat_lt r (2 ^ v)) ONES ones_agree c.args.count (omega arith) _ r (omega arith);
      value = v;
      fits = omega (arith, v, pow_pos (2 ^ c.args.count));
    }
