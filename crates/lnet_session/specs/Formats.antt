-- The formats of a script: what a content means in one that is read, which rule it breaks, and what is written in one.
use Rattle.std.specs.Prelude.{◌≡◌, ℕ, List, Option, Some, map}
use Rattle.lnet_gates.specs.declared.gate.Kind.{Kind}
use Rattle.lnet_gates.specs.declared.gate.Kind.TheVariants.{Aig}
use Rattle.lnet_edge.specs.Circuits.{CircuitValue}
use Rattle.lnet_edge.specs.Values.{circuit_outputs}
use Rattle.lnet_edge.specs.declared.fault.Malformed.{Malformed}
use Rattle.lnet_aiger.specs.Grammar as aiger
use Rattle.lnet_aiger.specs.Faults as aiger_faults
use Rattle.lnet_aiger.specs.Texts.{ascii_text, binary_text}
use Rattle.lnet_edge.specs.Shown.{input_names, output_names, Shows}
use Rattle.lnet_bench.specs.Meanings as bench
use Rattle.lnet_benchwriter.specs.Texts.{bench_text}
use Rattle.lnet_blif.specs.Meanings as blif
use Rattle.lnet_blifwriter.specs.Texts.{blif_text}
use Rattle.lnet_naming.specs.Settling.{input_labels, output_labels}
use Rattle.lnet_script.specs.declared.command.ReadFormat.{ReadFormat}
use Rattle.lnet_script.specs.declared.command.ReadFormat.TheVariants as reads
use Rattle.lnet_script.specs.declared.command.WriteFormat.{WriteFormat}
use Rattle.lnet_script.specs.declared.command.WriteFormat.TheVariants as writes

-- the bytes mean the circuit in the format
abbrev pub MeansIn : ReadFormat → List ℕ → CircuitValue → Type 0
MeansIn reads.Aiger bytes c = aiger.Means bytes c
MeansIn reads.Blif bytes c = blif.Means bytes c
MeansIn reads.Bench bytes c = bench.Means bytes c

-- the first rule of the format that the bytes break, and its line
abbrev pub IsFaultIn : ReadFormat → List ℕ → Malformed → Type 0
IsFaultIn reads.Aiger bytes m = aiger_faults.IsFault bytes m
IsFaultIn reads.Blif bytes m = blif.IsFault bytes m
IsFaultIn reads.Bench bytes m = bench.IsFault bytes m

-- the bytes mean no circuit in the format, and this is the first rule that they break
pub record IsMalformed (format : ReadFormat) (bytes : List ℕ) (m : Malformed) : Type 0 where
  pub fault : IsFaultIn format bytes m
  pub none : (c : CircuitValue) → MeansIn format bytes c → ⊥

-- the format in which what is written is read again
abbrev pub reader_of : WriteFormat → ReadFormat
reader_of writes.Aag = reads.Aiger
reader_of writes.Aig = reads.Aiger
reader_of writes.Blif = reads.Blif
reader_of writes.Bench = reads.Bench

-- the format has And gates alone
abbrev pub HasAndsAlone : WriteFormat → Type 0
HasAndsAlone writes.Aag = Unit {0}
HasAndsAlone writes.Aig = Unit {0}
HasAndsAlone writes.Blif = ⊥
HasAndsAlone writes.Bench = ⊥

-- the format has the gates of the kind
abbrev pub HasGatesOf : WriteFormat → Kind → Type 0
HasGatesOf format kind = HasAndsAlone format → kind ≡ Aig

-- the text of a circuit in the format
abbrev pub text_in : WriteFormat → CircuitValue → List ℕ
text_in writes.Aag c = ascii_text c
text_in writes.Aig c = binary_text c
text_in writes.Blif c = blif_text c
text_in writes.Bench c = bench_text c

-- the names of inputs and of outputs in that text: their own in AIGER, else those that are settled
abbrev pub inputs_in : WriteFormat → CircuitValue → List (Option (List ℕ))
inputs_in writes.Aag c = input_names c.inputs
inputs_in writes.Aig c = input_names c.inputs
inputs_in writes.Blif c = map Some (input_labels c.inputs)
inputs_in writes.Bench c = map Some (input_labels c.inputs)

abbrev pub outputs_in : WriteFormat → CircuitValue → List (Option (List ℕ))
outputs_in writes.Aag c = output_names c.outputs
outputs_in writes.Aig c = output_names c.outputs
outputs_in writes.Blif c = map Some (output_labels c.inputs c.outputs)
outputs_in writes.Bench c = map Some (output_labels c.inputs c.outputs)

-- the bytes mean a circuit in the format, with these names, and with the outputs of c under each assignment of the inputs
abbrev pub IsTextOf : WriteFormat → List ℕ → CircuitValue → Type 0
IsTextOf format bytes c = Shows (MeansIn (reader_of format) bytes) (inputs_in format c) (outputs_in format c) (circuit_outputs c)
