use Rattle.std.proofs.Common.{◌<◌, ◌≤◌, ◌^◌, ℕ, arith}
use Rattle.std.proofs.Math.Nat.{pow-le-pow_right, one-le-pow}
use Rattle.lnet_tables.proofs.digits.put_digit.Goals as goal

within : (place : ℕ) → place < 16 → 16 ^ place < 2 ^ 64
within place lt =
    let le : place ≤ 15 = omega arith in
    let most : 16 ^ place ≤ 16 ^ 15 = pow-le-pow_right (omega arith) {i = place} {j = 15} le in
    omega arith

positive : (place : ℕ) → 0 < 16 ^ place
positive place = one-le-pow place 16 (omega arith)

pub pow-requires : goal.pow-requires
pow-requires c = within c.args.place c.requires

pub nonzero_div-digit : goal.nonzero_div-digit
nonzero_div-digit c = let p = positive c.args.place in omega arith
