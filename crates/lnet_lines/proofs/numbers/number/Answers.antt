use Rattle.std.proofs.Common.{sym, ◌∙◌}
use Rattle.lnet_lines.proofs.Digits.{digits_all}
use Rattle.lnet_lines.proofs.NumberCases.{no_digits, too_long, by_value}
use Rattle.lnet_lines.proofs.numbers.number.Goals as goal

pub value-requires : goal.value-requires
value-requires c = sym (digits_all c.args.text.now) ∙ sym c.are_digits.ensures ∙ c.if-not-are_digits.false

pub returns-then-not-are_digits : goal.returns-then-not-are_digits
returns-then-not-are_digits c = no_digits c.args.text.now (sym (digits_all c.args.text.now) ∙ sym c.are_digits.ensures ∙ c.if-not-are_digits.true)

pub returns-then-text-gt-DIGITS : goal.returns-then-text-gt-DIGITS
returns-then-text-gt-DIGITS c = too_long c.args.text.now c.if-text-gt-DIGITS.true

pub returns : goal.returns
returns c = rw (c.up_to_greatest.ensures, c.value.ensures) (by_value c.args.text.now (sym (digits_all c.args.text.now) ∙ sym c.are_digits.ensures ∙ c.if-not-are_digits.false) c.if-text-gt-DIGITS.false)
