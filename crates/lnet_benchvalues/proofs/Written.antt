-- A text that is written means the same as its circuit.
use Rattle.std.proofs.Common.{◌≡◌, ℕ, ◌+◌, ◌≤◌, List, length, Result, Ok, Err, sym, subst, arith}
use Rattle.std.specs.Prelude.{IfOk}
use Rattle.std.specs.Global.{Vec}
use Rattle.lnet_edge.specs.Circuits.{CircuitValue}
use Rattle.lnet_edge.specs.Outside.{file_limit}
use Rattle.lnet_edge.specs.Plain.{IsPlain}
use Rattle.lnet_edge.specs.Wires.{IsCircuit}
use Rattle.lnet_bench.specs.Meanings.{Means}
use Rattle.lnet_bench.specs.Texts.{circuit_of}
use Rattle.lnet_benchwriter.specs.Texts.{bench_text}
use Rattle.lnet_benchtext.specs.Written.{HasNames, written_statements}
use Rattle.lnet_benchmeans.specs.Driving.{HasWires}
use Rattle.lnet_benchvalues.specs.Named.{HasRoom}
use Rattle.lnet_benchvalues.specs.Same.{MeansSame}
use Rattle.lnet_benchvalues.proofs.TextMeans.{means_in_file, written_means}
use Rattle.lnet_benchvalues.proofs.TextValues.{written_outputs, written_input_names, written_output_names}

module _ (c : CircuitValue) (names : HasNames c) (wires : HasWires c) (rules : IsCircuit c) (plain : IsPlain c.equations) where
  means_same : Means (bench_text c) (circuit_of (written_statements c)) → MeansSame (bench_text c) c
  means_same means = record {
    circuit = circuit_of (written_statements c);
    means = means;
    shown = written_outputs c names wires rules plain means.rules;
    inputs_named = written_input_names c;
    outputs_named = written_output_names c;
  }

  has_room : length c.inputs + length c.equations ≤ 1048576 → HasRoom c
  has_room few = let outputs = rules.few_outputs in omega arith

  -- what is written means the same
  pub ok_means : {E : Type 0} (r : Result (Vec ℕ) E) → IfOk r (λ (v : Vec ℕ). v.items ≡ bench_text c) → length c.inputs + length c.equations ≤ 1048576 → IfOk r (λ (v : Vec ℕ). MeansSame v.items c)
  ok_means (Ok v) text few = subst (λ (bytes : List ℕ). MeansSame bytes c) (sym text) (means_same (written_means c names wires rules plain (has_room few)))
  ok_means (Err e) text few = tt

  pub ok_in_file : {E : Type 0} (r : Result (Vec ℕ) E) → IfOk r (λ (v : Vec ℕ). v.items ≡ bench_text c) → IfOk r (λ (v : Vec ℕ). length v.items ≤ file_limit → MeansSame v.items c)
  ok_in_file (Ok v) text = λ fits. subst (λ (bytes : List ℕ). MeansSame bytes c) (sym text) (means_same (means_in_file c names wires rules plain (subst (λ (bytes : List ℕ). length bytes ≤ file_limit) text fits)))
  ok_in_file (Err e) text = tt
