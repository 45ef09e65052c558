use Rattle.std.proofs.Common.{refl, sym, ap, ◌∙◌}
use Rattle.lnet_tables.specs.Bits.{equal_rows, Rows}
use Rattle.lnet_tables.specs.Shannon.{case_of}
use Rattle.lnet_tables.proofs.expansion.decide.Goals as goal

pub returns-then-eq : goal.returns-then-eq
unfolding case_of
returns-then-eq c = rw (sym c.eq.ensures ∙ c.if-eq.true) refl

pub returns-then-is_constant-2 : goal.returns-then-is_constant-2
unfolding case_of
returns-then-is_constant-2 c =
    rw (sym c.eq.ensures ∙ c.if-eq.false, sym c.is_constant.ensures ∙ c.if-is_constant.true, sym c.is_constant-then-is_constant.ensures ∙ c.if-is_constant-2.true) refl

pub returns-else-is_constant-2 : goal.returns-else-is_constant-2
unfolding case_of
returns-else-is_constant-2 c =
    rw (sym c.eq.ensures ∙ c.if-eq.false, sym c.is_constant.ensures ∙ c.if-is_constant.true, sym c.is_constant-then-is_constant.ensures ∙ c.if-is_constant-2.false) refl

pub returns-then-is_constant-4 : goal.returns-then-is_constant-4
unfolding case_of
returns-then-is_constant-4 c =
    rw (sym c.eq.ensures ∙ c.if-eq.false, sym c.is_constant.ensures ∙ c.if-is_constant.false, sym c.is_constant-2.ensures ∙ c.if-is_constant-3.true, sym c.is_constant-then-is_constant-3.ensures ∙ c.if-is_constant-4.true) refl

pub returns-else-is_constant-4 : goal.returns-else-is_constant-4
unfolding case_of
returns-else-is_constant-4 c =
    rw (sym c.eq.ensures ∙ c.if-eq.false, sym c.is_constant.ensures ∙ c.if-is_constant.false, sym c.is_constant-2.ensures ∙ c.if-is_constant-3.true, sym c.is_constant-then-is_constant-3.ensures ∙ c.if-is_constant-4.false) refl

pub returns-then-is_constant-5 : goal.returns-then-is_constant-5
unfolding case_of
returns-then-is_constant-5 c =
    rw (sym c.eq.ensures ∙ c.if-eq.false, sym c.is_constant.ensures ∙ c.if-is_constant.false, sym c.is_constant-2.ensures ∙ c.if-is_constant-3.false, sym c.is_constant-3.ensures ∙ c.if-is_constant-5.true) refl

pub returns-then-is_constant-6 : goal.returns-then-is_constant-6
unfolding case_of
returns-then-is_constant-6 c =
    rw (sym c.eq.ensures ∙ c.if-eq.false, sym c.is_constant.ensures ∙ c.if-is_constant.false, sym c.is_constant-2.ensures ∙ c.if-is_constant-3.false, sym c.is_constant-3.ensures ∙ c.if-is_constant-5.false, sym c.is_constant-4.ensures ∙ c.if-is_constant-6.true) refl

pub returns-then-eq-2 : goal.returns-then-eq-2
unfolding case_of
returns-then-eq-2 c =
    rw (
      sym c.eq.ensures ∙ c.if-eq.false,
      sym c.is_constant.ensures ∙ c.if-is_constant.false,
      sym c.is_constant-2.ensures ∙ c.if-is_constant-3.false,
      sym c.is_constant-3.ensures ∙ c.if-is_constant-5.false,
      sym c.is_constant-4.ensures ∙ c.if-is_constant-6.false,
      ap (λ (x : Rows). equal_rows c.args.high.now x) (sym c.not.ensures) ∙ sym c.eq-2.ensures.value ∙ c.if-eq-2.true,
    ) refl

pub returns-else-eq-2 : goal.returns-else-eq-2
unfolding case_of
returns-else-eq-2 c =
    rw (
      sym c.eq.ensures ∙ c.if-eq.false,
      sym c.is_constant.ensures ∙ c.if-is_constant.false,
      sym c.is_constant-2.ensures ∙ c.if-is_constant-3.false,
      sym c.is_constant-3.ensures ∙ c.if-is_constant-5.false,
      sym c.is_constant-4.ensures ∙ c.if-is_constant-6.false,
      ap (λ (x : Rows). equal_rows c.args.high.now x) (sym c.not.ensures) ∙ sym c.eq-2.ensures.value ∙ c.if-eq-2.false,
    ) refl
