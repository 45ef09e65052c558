use Rattle.std.proofs.Common.{option_map, refl, sym, subst, arith, ◌≡◌, ◌+◌}
use Rattle.lnet_model.specs.Answers.{parents_in}
use Rattle.lnet_store.proofs.NextPairs.{IsSought, as_numbers, sought-first, sought-next, sought-here, sought-end}
use Rattle.lnet_store.proofs.view.View.fanout_next.Goals as goal

pub loop-i-init : goal.loop-i-init
loop-i-init g c = sought-first (parents_in (g.Self.View.kept c.args.self.now c.args.n.0)) c.args.last c.is_none-is_next.result c.is_none-is_next.ensures

pub returns-then-is_next : goal.returns-then-is_next
returns-then-is_next g c =
    sought-here (parents_in (g.Self.View.kept c.args.self.now c.args.n.0))
    (option_map as_numbers c.args.last) c.loop-i.i c.loop-i.is_next c.loop-i.invariant c.if-is_next.true c.fanout_at-pair.ensures

pub loop-i-preserved : goal.loop-i-preserved
loop-i-preserved g c =
    let ps = parents_in (g.Self.View.kept c.args.self.now c.args.n.0) in
    let last = option_map as_numbers c.args.last in
    subst (IsSought ps last (c.loop-i.i + 1)) (sym c.eq-is_next.ensures)
    (sought-next _ (λ x y. refl) ps c.loop-i.i c.in_ok-len.len c.fanout_at-pair.result c.args.last c.fanout_at-pair.ensures c.in_ok-len.ensures c.loop-i-test.true
    (subst (IsSought ps last c.loop-i.i) c.if-is_next.false c.loop-i.invariant))

pub returns : goal.returns
returns g c =
    let over = c.loop-i-test.false in
    let within = c.loop-i.auto.i-end in
    let e : c.loop-i.i ≡ c.in_ok-len.len = omega arith in
    sought-end (parents_in (g.Self.View.kept c.args.self.now c.args.n.0)) (option_map as_numbers c.args.last) c.loop-i.i c.in_ok-len.len c.loop-i.is_next c.in_ok-len.ensures e c.loop-i.invariant
