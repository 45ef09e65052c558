-- A text that is written means the same as its circuit.
use Rattle.std.proofs.Common.{◌≡◌, ℕ, ◌+◌, ◌≤◌, List, length, Result, Ok, Err, sym, subst, arith}
use Rattle.std.specs.Prelude.{IfOk}
use Rattle.std.specs.Global.{Vec}
use Rattle.lnet_edge.specs.Circuits.{CircuitValue}
use Rattle.lnet_edge.specs.Outside.{file_limit}
use Rattle.lnet_edge.specs.Plain.{IsPlain}
use Rattle.lnet_edge.specs.Wires.{IsCircuit}
use Rattle.lnet_blif.specs.Texts.{circuit_of}
use Rattle.lnet_blifwriter.specs.Texts.{blif_text}
use Rattle.lnet_benchtext.specs.Written.{HasNames}
use Rattle.lnet_benchmeans.specs.Driving.{HasWires}
use Rattle.lnet_bliftext.specs.Written.{written_statements}
use Rattle.lnet_blifmeans.specs.Driving.{HasRoom}
use Rattle.lnet_blifmeans.specs.Same.{MeansSame}
use Rattle.lnet_blifmeans.proofs.Lengths.{file_room}
use Rattle.lnet_blifmeans.proofs.Means.{written_means}
use Rattle.lnet_blifmeans.proofs.Reading.{read_outputs, read_inputs, read_output_names}

module _ (c : CircuitValue) (names : HasNames c) (wires : HasWires c) (rules : IsCircuit c) (plain : IsPlain c.equations) where
  means_same : HasRoom c → MeansSame (blif_text c) c
  means_same room =
      let d = circuit_of (written_statements c) in
      let means = written_means c names wires rules plain room in
      record {
        circuit = circuit_of (written_statements c);
        means = means;
        shown = read_outputs c d names rules plain means;
        inputs_named = read_inputs c d names means;
        outputs_named = read_output_names c d names means;
      }

  has_room : length c.inputs + length c.equations ≤ 1048576 → HasRoom c
  has_room few = let outputs = rules.few_outputs in omega arith

  -- what is written means the same
  pub ok_means : {E : Type 0} (r : Result (Vec ℕ) E) → IfOk r (λ (v : Vec ℕ). v.items ≡ blif_text c) → length c.inputs + length c.equations ≤ 1048576 → IfOk r (λ (v : Vec ℕ). MeansSame v.items c)
  ok_means (Ok v) text few = subst (λ (bytes : List ℕ). MeansSame bytes c) (sym text) (means_same (has_room few))
  ok_means (Err e) text few = tt

  pub ok_in_file : {E : Type 0} (r : Result (Vec ℕ) E) → IfOk r (λ (v : Vec ℕ). v.items ≡ blif_text c) → IfOk r (λ (v : Vec ℕ). length v.items ≤ file_limit → MeansSame v.items c)
  ok_in_file (Ok v) text = λ fits. subst (λ (bytes : List ℕ). MeansSame bytes c) (sym text) (means_same (file_room c (subst (λ (bytes : List ℕ). length bytes ≤ file_limit) text fits)))
  ok_in_file (Err e) text = tt
