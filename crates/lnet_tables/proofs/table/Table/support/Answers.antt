use Rattle.std.proofs.Common.{ap, refl, ◌∙◌, ◌≡◌, arith}
use Rattle.lnet_tables.specs.Bits.{Rows, number_by, depends_on}
use Rattle.lnet_tables.proofs.RowNumbers.{number_below, number_more, number_under, one_is}
use Rattle.lnet_tables.proofs.Depends.{support_decides}
use Rattle.lnet_tables.proofs.table.Table.support.Goals as goal
use Rattle.lnet_tables.proofs.table.Table.support.Goals.{then-depends_on, else-depends_on}

pub loop-index-init : goal.loop-index-init
unfolding number_by
loop-index-init c = refl

pub overflow_add-mask : goal.overflow_add-mask
overflow_add-mask c =
    record { fits = rw c.loop-index.invariant (number_under (depends_on c.args.self) c.loop-index.index c.self.inside.vars c.loop-index-test.true c.self.invariant.few) }

pub loop-index-preserved : goal.loop-index-preserved
loop-index-preserved c =
    elim c.if-depends_on.branch [
      | then-depends_on w ↦
          rw (w.mask-is, c.loop-index.invariant, number_more (depends_on c.args.self) c.loop-index.index, ← c.depends_on.ensures, w.if-depends_on.true, one_is c.loop-index.index (omega (arith, c.self.invariant.few))) refl
      | else-depends_on w ↦
          rw (w.mask-is, c.loop-index.invariant, number_more (depends_on c.args.self) c.loop-index.index, ← c.depends_on.ensures, w.if-depends_on.false) (omega arith)
    ]

pub returns-clause-value : goal.returns-clause-value
returns-clause-value c =
    let v : c.self.inside.vars ≡ c.args.self.vars = ap (λ (t : Rows). t.vars) c.self.view_is in
    let e : c.loop-index.index ≡ c.args.self.vars = omega arith in
    c.loop-index.invariant ∙ ap (number_by (depends_on c.args.self)) e

pub returns-clause-few : goal.returns-clause-few
returns-clause-few c =
    let v : c.self.inside.vars ≡ c.args.self.vars = ap (λ (t : Rows). t.vars) c.self.view_is in
    let e : c.loop-index.index ≡ c.args.self.vars = omega arith in
    rw (c.loop-index.invariant, e) (number_below (depends_on c.args.self) c.args.self.vars)

pub returns-clause-each : goal.returns-clause-each
returns-clause-each c =
    let v : c.self.inside.vars ≡ c.args.self.vars = ap (λ (t : Rows). t.vars) c.self.view_is in
    let e : c.loop-index.index ≡ c.args.self.vars = omega arith in
    support_decides c.args.self c.loop-index.mask (c.loop-index.invariant ∙ ap (number_by (depends_on c.args.self)) e)
