use Rattle.std.proofs.Common.{◌≡◌, true, false, Option, option_map, None, Some, IsSome, refl, sym, subst, ◌∙◌, arith}
use Rattle.std.specs.Option.{is_some}
use Rattle.lnet_print.proofs.Numbered.{gates-all, gates-one, gates-none, gates-end}
use Rattle.lnet_print.proofs.counting.gate_count.Goals as goal
use Rattle.lnet_print.proofs.counting.gate_count.Goals.{then-is_some, else-is_some}

mapped : {A B : Type 0} (f : A → B) (o : Option A) → is_some o ≡ true → IsSome (option_map f o)
mapped f None e = cc
mapped f (Some x) e = refl

unmapped : {A B : Type 0} (f : A → B) (o : Option A) → is_some o ≡ false → option_map f o ≡ None
unmapped f None e = refl
unmapped f (Some x) e = cc

pub loop-n-init : goal.loop-n-init
loop-n-init g c = record { few = omega arith; count = (let e = gates-all c.args.net.now.core.network in omega arith) }

pub loop-n-preserved : goal.loop-n-preserved
loop-n-preserved g c = elim c.if-is_some.branch [
  | then-is_some w ↦
      let few = c.loop-n.invariant.few in let so_far = c.loop-n.invariant.count in let is = w.count-is in
      let one = gates-one c.args.net.now.core.network c.loop-n.n (let v = c.numbers-n-end.ensures.value in let lt = c.loop-n-test.true in omega arith) (subst IsSome c.gate_of.ensures (mapped _ c.gate_of.result (sym c.is_some.ensures ∙ w.if-is_some.true))) in
      record { few = omega arith; count = omega arith }
  | else-is_some w ↦
      let few = c.loop-n.invariant.few in let so_far = c.loop-n.invariant.count in let is = w.count-is in
      let none = gates-none c.args.net.now.core.network c.loop-n.n (let v = c.numbers-n-end.ensures.value in let lt = c.loop-n-test.true in omega arith) (sym c.gate_of.ensures ∙ unmapped _ c.gate_of.result (sym c.is_some.ensures ∙ w.if-is_some.false)) in
      record { few = omega arith; count = omega arith }
]

pub returns : goal.returns
returns g c = let e = (let le = c.loop-n-test.false in let v = c.numbers-n-end.ensures.value in gates-end c.args.net.now.core.network c.loop-n.n (omega arith)) in let i = c.loop-n.invariant.count in omega arith
