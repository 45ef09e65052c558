-- The network of node 0 alone has no gate.
use Rattle.std.proofs.Common.{◌≡◌, ℕ, ◌<◌, [], IsSome, Some, refl, sym, ap, subst, ◌∙◌, arith}
use Rattle.lnet_gates.specs.declared.gate.Kind.{Kind}
use Rattle.lnet_gates.specs.Gates.{GateValue}
use Rattle.lnet_model.specs.Networks.{Constant, IsGate, entry_at}
use Rattle.lnet_model.specs.Changes.{GateAt}
use Rattle.lnet_store.specs.StoreValues.{first_network}
use Rattle.lnet_store.proofs.StoreLemmas.{first-stored}
use Rattle.lnet_hashed.proofs.First.{first-low}
use Rattle.lnet_hashed.specs.Strashed.{IsStrashed, of_kind}

no-gate : (n : ℕ) (g : GateValue) → GateAt first_network n g → ⊥
no-gate n g e =
    let low : n < 1 = first-low n (subst IsSome (sym e) refl) in
    let zero : n ≡ 0 = omega arith in
    let first = first-stored.whole.first in
    let two : Some Constant ≡ Some (IsGate g) = sym first ∙ ap (entry_at first_network) (sym zero) ∙ e in
    cc

pub first-strashed : (kind : Kind) → IsStrashed kind first_network
first-strashed kind = record {
  native = λ n g e. absurd (no-gate n g e);
  own_form = λ n g e. absurd (no-gate n g e);
  and_phase = λ n g e. absurd (no-gate n g e);
  apart = λ m n g h e f k. absurd (no-gate m g e);
}

pub first-inputs : (kind : Kind) → (of_kind kind first_network).inputs ≡ []
unfolding first_network
first-inputs kind = refl

pub first-outputs : (kind : Kind) → (of_kind kind first_network).outputs ≡ []
unfolding first_network
first-outputs kind = refl
