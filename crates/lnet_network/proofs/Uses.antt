-- What the calls that add to a network leave, of the network of the definition.
use Rattle.std.proofs.Common.{◌≡◌, ℕ, ◌≤◌, false, List, [], ◌∷◌, ◌++◌, length, IsSome, Result, Ok, Err, IfOk, OnOk, refl, sym, ap, subst, ◌∙◌}
use Rattle.std.proofs.lemmas.List.{length-set}
use Rattle.lnet_gates.specs.declared.gate.Kind.{Kind}
use Rattle.lnet_gates.specs.declared.gate.Op.{Op}
use Rattle.lnet_gates.specs.declared.signal.Signal.{Signal}
use Rattle.lnet_gates.specs.Natives.{FitsWord}
use Rattle.lnet_gates.specs.Plans.{Takes}
use Rattle.lnet_model.specs.Networks.{NetworkValue, Input, IsLive, entry_at, live_count}
use Rattle.lnet_model.specs.Along.{nodes_read}
use Rattle.lnet_model.specs.Changes.{AreLive, with_entry}
use Rattle.lnet_model.specs.Dags.{IsStored, NUMBERS}
use Rattle.lnet_model.proofs.Changes.{with_entry-here}
use Rattle.lnet_model.proofs.Stored.{with-live}
use Rattle.lnet_store.specs.StoreValues.{with_input, with_new_output, with_output}
use Rattle.lnet_hashed.specs.Strashed.{Placed, least_free}
use Rattle.lnet_hashed.specs.Laid.{made}
use Rattle.lnet_hashed.proofs.Extensions.{extends-live}
use Rattle.lnet_hashed.proofs.LaidValues.{made-stands}
use Rattle.lnet_network.specs.Uses.{IsMade, IsEntered, HasNewOutput, HasOutput}

module _ (kind : Kind) (N : NetworkValue) (f : Op) (operands : List Signal) (takes : Takes f (length operands))
    (fits : FitsWord f) (stored : IsStored N) (live : AreLive N (nodes_read operands)) where
  is-made : (M : NetworkValue) (s : Signal) → live_count M ≤ NUMBERS → made kind N f operands ≡ record { network = M; signal = s } → IsMade kind N f operands M s
  is-made M s few is =
      let stands = made-stands kind N f operands takes fits stored live (subst (λ (p : Placed). live_count p.network ≤ NUMBERS) (sym is) few) in
      record {
        is = is;
        live = subst (λ (p : Placed). IsLive p.network p.signal.node.0) is stands.live;
        stays = λ n here. subst (λ (p : Placed). IsLive p.network n) is (extends-live N (made kind N f operands).network stands.extends n here);
        inputs = subst (λ (p : Placed). p.network.inputs ≡ N.inputs) is stands.extends.inputs;
        outputs = subst (λ (p : Placed). p.network.outputs ≡ N.outputs) is stands.extends.outputs;
      }

  pub answer-made :
      {E : Type 0} (M : NetworkValue) (r : Result Signal E) → live_count M ≤ NUMBERS → IfOk r (λ s. made kind N f operands ≡ record { network = M; signal = s }) →
      IfOk r (λ s. IsMade kind N f operands M s)
  answer-made M (Ok s) few is = is-made M s few is
  answer-made M (Err e) few is = tt

-- ---- inputs

input-entry : (N : NetworkValue) (n m : ℕ) → entry_at (with_input N n) m ≡ entry_at (with_entry N n (Input (length N.inputs))) m
unfolding entry_at with_input with_entry
input-entry N n m = refl

input-inputs : (N : NetworkValue) (n : ℕ) → (with_input N n).inputs ≡ N.inputs ++ n ∷ []
unfolding with_input
input-inputs N n = refl

input-outputs : (N : NetworkValue) (n : ℕ) → (with_input N n).outputs ≡ N.outputs
unfolding with_input
input-outputs N n = refl

input-here : (N : NetworkValue) (n : ℕ) → IsLive (with_input N n) n
input-here N n = subst IsSome (sym (input-entry N n n ∙ with_entry-here N n (Input (length N.inputs)))) refl

pub is-entered : (N M : NetworkValue) (s : Signal) → s ≡ record { node = record { 0 = least_free N }; complement = false } → M ≡ with_input N (least_free N) → IsEntered N M s
is-entered N M s signal is =
    let node : s.node.0 ≡ least_free N = ap (λ (z : Signal). z.node.0) signal in
    record {
      signal = signal;
      network = is;
      live = subst (λ X. IsLive X s.node.0) (sym is) (subst (IsLive (with_input N (least_free N))) (sym node) (input-here N (least_free N)));
      stays = λ n here. subst (λ X. IsLive X n) (sym is) (subst IsSome (sym (input-entry N (least_free N) n)) (with-live N (least_free N) (Input (length N.inputs)) n here));
      inputs = ap (λ (X : NetworkValue). X.inputs) is ∙ input-inputs N (least_free N) ∙ ap (λ n. N.inputs ++ n ∷ []) (sym node);
      outputs = ap (λ (X : NetworkValue). X.outputs) is ∙ input-outputs N (least_free N);
    }

-- ---- outputs

new_output-entry : (N : NetworkValue) (s : Signal) (m : ℕ) → entry_at (with_new_output N s) m ≡ entry_at N m
unfolding entry_at with_new_output
new_output-entry N s m = refl

new_output-ports : (N : NetworkValue) (s : Signal) → ((with_new_output N s).inputs ≡ N.inputs) × ((with_new_output N s).outputs ≡ N.outputs ++ s ∷ [])
unfolding with_new_output
new_output-ports N s = (refl, refl)

is-new_output : (N M : NetworkValue) (s : Signal) (k : ℕ) → k ≡ length N.outputs → M ≡ with_new_output N s → HasNewOutput N M s k
is-new_output N M s k place is = record {
  place = place;
  network = is;
  stays = λ n here. subst (λ X. IsLive X n) (sym is) (subst IsSome (sym (new_output-entry N s n)) here);
  inputs = ap (λ (X : NetworkValue). X.inputs) is ∙ (new_output-ports N s).0;
  outputs = ap (λ (X : NetworkValue). X.outputs) is ∙ (new_output-ports N s).1;
}

pub answer-new_output : {E : Type 0} (N M : NetworkValue) (s : Signal) (r : Result ℕ E) → IfOk r (λ k. k ≡ length N.outputs) → OnOk r (M ≡ with_new_output N s) → IfOk r (HasNewOutput N M s)
answer-new_output N M s (Ok k) place is = is-new_output N M s k place is
answer-new_output N M s (Err e) place is = tt

output-entry : (N : NetworkValue) (k : ℕ) (s : Signal) (m : ℕ) → entry_at (with_output N k s) m ≡ entry_at N m
unfolding entry_at with_output
output-entry N k s m = refl

output-ports : (N : NetworkValue) (k : ℕ) (s : Signal) → ((with_output N k s).inputs ≡ N.inputs) × (length (with_output N k s).outputs ≡ length N.outputs)
unfolding with_output
output-ports N k s = (refl, length-set N.outputs k s)

pub is-output : (N M : NetworkValue) (s : Signal) (k : ℕ) → M ≡ with_output N k s → HasOutput N M s k
is-output N M s k is = record {
  network = is;
  stays = λ n here. subst (λ X. IsLive X n) (sym is) (subst IsSome (sym (output-entry N k s n)) here);
  inputs = ap (λ (X : NetworkValue). X.inputs) is ∙ (output-ports N k s).0;
  count = ap (λ (X : NetworkValue). length X.outputs) is ∙ (output-ports N k s).1;
}
