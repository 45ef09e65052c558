use Rattle.std.proofs.Common.{◌≡◌, rules, sym, ap, ◌∙◌}
use Rattle.std.specs.Bool.{Decides}
use Rattle.std.proofs.lemmas.Slice.Eq.{slice_eq-Decides}
use Rattle.lnet_gates.specs.Gates.{KeyValue}
use Rattle.lnet_strash.proofs.hashing.is_same.Goals as goal

pub returns-then-eq : goal.returns-then-eq
returns-then-eq c =
    let signals : Decides c.eq-then-eq.result (c.as_slice.result.now ≡ c.as_slice-then-eq.result.now) = slice_eq-Decides (λ x y. search rules) _ _ _ c.eq-then-eq.ensures in
    let ops : c.a.inside.op ≡ c.b.inside.op = search rules in
    let mine = c.as_slice.ensures.value in
    let other = c.as_slice-then-eq.ensures.value in
    (λ h. let fanins : c.a.inside.fanins.items ≡ c.b.inside.fanins.items = sym mine ∙ signals.0 h ∙ other in sym c.a.view_is ∙ (λ j. record { op = ops j; fanins = fanins j }) ∙ c.b.view_is, λ e. signals.1 (mine ∙ ap (λ (k : KeyValue). k.fanins) (c.a.view_is ∙ e ∙ sym c.b.view_is) ∙ sym other))
