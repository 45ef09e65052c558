use Rattle.std.proofs.Common.{◌≡◌, ◌∙◌, sym, ap, List, ℕ}
use Rattle.std.specs.Bool.{Decides}
use Rattle.std.proofs.lemmas.Bool.Decides.{Decides-eqb, same_from_decides}
use Rattle.std.proofs.lemmas.Slice.Eq.{slice_eq-Decides}
use Rattle.lnet_cuts.specs.Agreeing.{equal_cuts_decides}
use Rattle.lnet_cuts.proofs.KeptCuts.{stored_value, same-kept}
use Rattle.lnet_cuts.proofs.list.StoredCutPartialEq.eq.Goals as goal

pub returns-then-eq : goal.returns-then-eq
returns-then-eq c =
    let l : Decides c.eq.result (c.self.inside.leaves.items ≡ c.other.inside.leaves.items) = slice_eq-Decides Decides-eqb _ _ _ c.eq.ensures in
    let d : Decides c.eq-then-eq.result (c.self.inside.table ≡ c.other.inside.table) = slice_eq-Decides Decides-eqb _ _ _ c.eq-then-eq.ensures in
    let whole : Decides c.eq-then-eq.result (c.args.self.now ≡ c.args.other.now) = (
      λ yes. sym c.self.view_is ∙ ap (λ (xs : List ℕ). stored_value xs c.self.inside.table) (l.0 c.if-eq.true) ∙ ap (λ (ws : List ℕ). stored_value c.other.inside.leaves.items ws) (d.0 yes)
          ∙ c.other.view_is,
      λ e. d.1 (same-kept c.self.inside.leaves.items c.other.inside.leaves.items c.self.inside.table c.other.inside.table c.self.invariant c.other.invariant (c.self.view_is ∙ e
          ∙ sym c.other.view_is)),
    ) in
    same_from_decides _ _ whole (equal_cuts_decides _ _)
