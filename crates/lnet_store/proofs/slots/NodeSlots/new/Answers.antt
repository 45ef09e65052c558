use Rattle.std.proofs.Math.ListN.{set}
use Rattle.std.proofs.Common.{◌≡◌, ◌-◌, Bool, true, false, List, length, replicate, [], ◌∷◌, ◌++◌, Some, ap, subst, sym, ◌∙◌}
use Rattle.lnet_store.specs.Held.{held, IsCounted}
use Rattle.lnet_store.specs.declared.slots.Slot.TheVariants as slot
use Rattle.lnet_store.proofs.CountedSlots.{fitting, held-first, counted-first}
use Rattle.lnet_store.proofs.slots.NodeSlots.new.Goals as goal

pub invariant_of-result : goal.invariant_of-result
invariant_of-result c =
    let e : c.push.new.self.items ≡ Some slot.Constant ∷ [] = c.in_ok-push.ensures.items ∙ ap (λ xs. xs ++ Some slot.Constant ∷ []) c.new-slots.ensures.items in
    let frees : c.remove.new.self ≡ false ∷ [] = c.remove.ensures
    ∙ ap (λ fs. set fs 0 false) (c.in_ok-grow.ensures.ok ∙ ap (λ (fs : List Bool). fs ++ replicate (1 - length fs) true) c.new-free.ensures) in
    subst (IsCounted c.push.new.self.items 1 1) (sym frees) (subst (λ xs. IsCounted xs 1 1 (false ∷ [])) (sym e) counted-first)

pub returns-clause-nodes : goal.returns-clause-nodes
returns-clause-nodes c =
    let e : c.push.new.self.items ≡ Some slot.Constant ∷ [] = c.in_ok-push.ensures.items ∙ ap (λ xs. xs ++ Some slot.Constant ∷ []) c.new-slots.ensures.items in
    ap held e ∙ held-first

pub returns-clause-fitting : goal.returns-clause-fitting
returns-clause-fitting c =
    let e : c.push.new.self.items ≡ Some slot.Constant ∷ [] = c.in_ok-push.ensures.items ∙ ap (λ xs. xs ++ Some slot.Constant ∷ []) c.new-slots.ensures.items in
    let frees : c.remove.new.self ≡ false ∷ [] = c.remove.ensures
    ∙ ap (λ fs. set fs 0 false) (c.in_ok-grow.ensures.ok ∙ ap (λ (fs : List Bool). fs ++ replicate (1 - length fs) true) c.new-free.ensures) in
    fitting c.push.new.self.items 1 1 c.remove.new.self (subst (IsCounted c.push.new.self.items 1 1) (sym frees) (subst (λ xs. IsCounted xs 1 1 (false ∷ [])) (sym e) counted-first))
