use Rattle.std.proofs.Common.{◌≡◌, ◌==◌, ℕ, inl, inr, Bool, true, false, [], ◌∷◌, ◌++◌, map, get_or, Some, sym, ap, ◌∙◌}
use Rattle.std.proofs.lemmas.Bool.Decides.{eqb_tells}
use Rattle.std.proofs.lemmas.Option.{slice_get-get_or}
use Rattle.std.proofs.lemmas.List.Quantifiers.{position-Some}
use Rattle.lnet_model.specs.Answers.{kind_for}
use Rattle.lnet_model.specs.declared.view_spec.ViewSpec.{ViewSpec}
use Rattle.lnet_model.specs.declared.view_spec.ViewSpec.TheVariants.{Depth}
use Rattle.lnet_subscriptions.proofs.Placed.{same-roll}
use Rattle.lnet_subscriptions.proofs.roll.Subscriptions.drop_view.Goals as goal

eqb-true : (a b : ℕ) → (a == b) ≡ true → a ≡ b
eqb-true a b e = elim (eqb_tells a b) as (λ _. a ≡ b) [ inl p ↦ p.1 | inr p ↦ absurd (no-both (a == b) e p.0) ] where
  no-both : (x : Bool) → x ≡ true → x ≡ false → ⊥
  no-both x p q = cc

pub returns-clause-drops : goal.returns-clause-drops
returns-clause-drops g c =
    let live = c.args.self.now.live.items in
    let p0 : ℕ × ViewSpec = (0, Depth) in
    let found = position-Some (λ p. p.0 == c.args.number) live c.in-Some.at p0 (sym c.in-Some.ensures) in
    let p = get_or live c.in-Some.at p0 in
    let number : p.0 ≡ c.args.number = eqb-true p.0 c.args.number found.1 in
    let at = slice_get-get_or live c.in-Some.at p0 found.0 ∙ ap (λ n. Some (n, p.1)) number in
    record {
      at = c.in-Some.at;
      spec = p.1;
      found = sym c.in-Some.ensures;
      stands = at;
      becomes = same-roll c.shelve.ensures.live c.shelve.ensures.next (c.shelve.ensures.shelf p.1 c.args.number at ∙ ap (λ xs. map (λ b. (goal.View-dyn g (b.vtable, b.value)).kind_of b.value) xs ++ kind_for p.1 ∷ []) c.reserve.ensures.items);
    }
