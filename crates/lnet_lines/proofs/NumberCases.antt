-- Numbers by their tests, one after the other.
use Rattle.std.proofs.Common.{◌≡◌, ℕ, ◌<◌, ◌≤◌, true, false, List, length, None, refl, arith}
use Rattle.std.specs.Str.{all_ascii_digits}
use Rattle.std.proofs.lemmas.Bool.Decides.{nat_tests}
use Rattle.lnet_lines.specs.Numbers.{number_of, up_to_greatest}
use Rattle.lnet_lines.proofs.Digits.{parsed}

pub no_digits : (text : List ℕ) → all_ascii_digits text ≡ false → None ≡ number_of text
unfolding number_of
no_digits text e = rw e refl

pub too_long : (text : List ℕ) → 10 < length text → None ≡ number_of text
unfolding number_of
too_long text long = grind (arith, nat_tests)

pub by_value : (text : List ℕ) → all_ascii_digits text ≡ true → length text ≤ 10 → up_to_greatest (parsed text) ≡ number_of text
unfolding number_of
by_value text all short = grind (arith, nat_tests)
