-- Hashing of the networks that the tests make.
use Rattle.std.proofs.Common.{◌≡◌, ℕ, ◌<◌, IsSome, refl, sym, ap, subst, ◌∙◌, arith}
use Rattle.std.specs.Prelude.{IfOk, OnErr, Result, Ok, Err, List, length}
use Rattle.lnet_gates.specs.declared.signal.Signal.{Signal}
use Rattle.lnet_gates.specs.declared.gate.Kind.{Kind}
use Rattle.lnet_gates.specs.declared.gate.Op.{Op}
use Rattle.lnet_gates.specs.Gates.{GateValue}
use Rattle.lnet_gates.specs.Natives.{FitsWord}
use Rattle.lnet_gates.specs.Plans.{Takes}
use Rattle.lnet_model.specs.Networks.{NetworkValue, entry_at}
use Rattle.lnet_model.specs.Changes.{GateAt}
use Rattle.lnet_store.specs.StoreValues.{first_network}
use Rattle.lnet_store.proofs.StoreLemmas.{first-stored}
use Rattle.lnet_hashed.specs.Strashed.{IsStrashed, Placed}
use Rattle.lnet_hashed.specs.Laid.{made}
use Rattle.lnet_hashed.proofs.First.{first-low}
use Rattle.lnet_hashed.proofs.LaidValues.{strashed-made}
use Rattle.lnet_substitution.proofs.OneReplaced.{not_constant}

no-gate : (n : ℕ) (g : GateValue) → GateAt first_network n g → ⊥
no-gate n g e =
    let low : n < 1 = first-low n (subst IsSome (sym e) refl) in
    let zero : n ≡ 0 = omega arith in
    not_constant g (sym e ∙ ap (entry_at first_network) zero ∙ first-stored.whole.first)

pub first-strashed : (kind : Kind) → IsStrashed kind first_network
first-strashed kind = record {
  native = λ n g e. absurd (no-gate n g e);
  own_form = λ n g e. absurd (no-gate n g e);
  and_phase = λ n g e. absurd (no-gate n g e);
  apart = λ m n g h e f k. absurd (no-gate m g e);
}

pub strashed-after : (kind : Kind) (N M : NetworkValue) (op : Op) (operands : List Signal) → Takes op (length operands) → FitsWord op → {E : Type 0} (r : Result Signal E) → IfOk r (λ s. made kind N op operands ≡ record { network = M; signal = s }) → OnErr r (M ≡ N) → IsStrashed kind N → IsStrashed kind M
strashed-after kind N M op operands takes fits (Ok s) is same h = subst (λ (p : Placed). IsStrashed kind p.network) is (strashed-made kind N op operands takes fits h)
strashed-after kind N M op operands takes fits (Err e) is same h = subst (IsStrashed kind) (sym same) h
