use Rattle.std.proofs.Common.{◌≡◌, Some, sym, subst, ◌∙◌}
use Rattle.lnet_gates.specs.declared.signal.Signal.{Signal}
use Rattle.lnet_strash.specs.Standing.{at}
use Rattle.lnet_hashed.proofs.Indexing.{signal-is, entry-signal, no-signal, no-entry-here}
use Rattle.lnet_hashed.proofs.keys.Keys.find.Goals as goal

pub returns-in-Some : goal.returns-in-Some
returns-in-Some c = record {
  stands = λ s. (
    λ e. subst (λ (z : Signal). at c.args.self.now.table z.node.0 ≡ Some (c.args.key.now, z.complement)) (signal-is (record { node = c.in-Some.node; complement = c.in-Some.complement }) s e) ((c.find.ensures.stands c.in-Some.node c.in-Some.complement).0 c.in-Some.is),
    λ h. entry-signal c.in-Some.node s.node c.in-Some.complement s.complement (sym c.in-Some.is ∙ (c.find.ensures.stands s.node s.complement).1 h),
  );
}

pub returns-in-None : goal.returns-in-None
returns-in-None c = record {
  stands = λ s. (λ e. absurd (no-signal s e), λ h. absurd (no-entry-here s.node s.complement (sym c.in-None.is ∙ (c.find.ensures.stands s.node s.complement).1 h)));
}
