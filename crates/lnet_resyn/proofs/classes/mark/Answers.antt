use Rattle.std.proofs.Common.{◌≡◌, true, ap, sym, ◌∙◌, subst, length, drop, Bool, List}
use Rattle.std.specs.Prelude.{◌⊎◌}
use Rattle.lnet_npn.specs.Marks.{is_marked, IsImage}
use Rattle.lnet_resyn.proofs.Classing.{written-back}
use Rattle.lnet_resyn.proofs.classes.mark.Goals as goal

pub returns-clause-only : goal.returns-clause-only
returns-clause-only c = λ m is.
    let back = written-back c.args.marks.now.len c.mark_class.new.marks (drop (length c.mark_class.new.marks) c.args.marks.now.items) (c.mark_class.ensures.len ∙ c.as_mut_slice.ensures.len) in
    subst (λ (old : List Bool). (is_marked old m ≡ true) ⊎ IsImage c.args.number m) c.as_mut_slice.ensures.value (c.mark_class.ensures.only m (ap (λ z. is_marked z m) (sym back) ∙ is))
