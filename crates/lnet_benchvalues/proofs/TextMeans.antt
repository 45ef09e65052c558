-- A written text means the circuit of its statements.
use Rattle.std.proofs.Common.{◌≡◌, ℕ, ◌≤◌, ◌<◌, ◌+◌, Bool, List, length, map, Some, Result, Ok, refl, sym, ap, subst, ◌∙◌, arith}
use Rattle.std.proofs.lemmas.List.{length-map}
use Rattle.lnet_edge.specs.declared.fault.Malformed.{Malformed}
use Rattle.lnet_edge.specs.Circuits.{CircuitValue}
use Rattle.lnet_edge.specs.Outside.{file_limit}
use Rattle.lnet_edge.specs.Plain.{IsPlain}
use Rattle.lnet_edge.specs.Values.{circuit_outputs}
use Rattle.lnet_edge.specs.Wires.{HasArities, IsCircuit}
use Rattle.lnet_lines.specs.Lines.{lines_of}
use Rattle.lnet_naming.specs.Settling.{input_labels, output_labels}
use Rattle.lnet_edge.specs.Shown.{input_names, output_names}
use Rattle.lnet_bench.specs.Statements.{StatementValue}
use Rattle.lnet_bench.specs.Listing.{nothing, add_all}
use Rattle.lnet_bench.specs.Texts.{statements_of, driven_by, names_of, circuit_of}
use Rattle.lnet_bench.specs.Meanings.{Means}
use Rattle.lnet_bench.proofs.Answering.{few_read}
use Rattle.lnet_bench.proofs.NumberLaws.{is_numbered}
use Rattle.lnet_bench.proofs.TextLemmas.{all_fit}
use Rattle.lnet_bench.proofs.ListingLemmas.{all_arities, no_arities}
use Rattle.lnet_benchwriter.specs.Texts.{bench_text}
use Rattle.lnet_benchtext.specs.Written.{HasNames, written_statements}
use Rattle.lnet_benchtext.proofs.Forms.{written-read}
use Rattle.lnet_benchmeans.specs.Driving.{HasWires}
use Rattle.lnet_benchmeans.proofs.Once.{length-output_names}
use Rattle.lnet_benchmeans.proofs.Ordering.{ordered_driven, ordered_once, ordered_acyclic}
use Rattle.lnet_benchmeans.proofs.Shown.{as_many_outputs}
use Rattle.lnet_benchmeans.proofs.WordTexts.{written_ordered}
use Rattle.lnet_benchvalues.specs.Named.{HasRoom}
use Rattle.lnet_benchvalues.proofs.Counts.{as_many_driven, few_driven}
use Rattle.lnet_benchvalues.proofs.TextValues.{written_outputs, written_input_names, written_output_names}

-- ---- rules

-- the rules of statements that are read take their operands
arities_of : (bytes : List ℕ) (ss : List StatementValue) → statements_of bytes ≡ Ok ss → HasArities (circuit_of ss).equations
arities_of bytes ss read = subst (λ (d : CircuitValue). HasArities d.equations) (is_numbered (driven_by ss) ss) (all_arities (driven_by ss) nothing ss (all_fit 1 (lines_of bytes) ss read) no_arities)

few_shown : (c : CircuitValue) → length (circuit_of (written_statements c)).outputs ≡ length c.outputs
few_shown c =
    let d = circuit_of (written_statements c) in
    sym (length-output_names d.outputs)
    ∙ ap length (written_output_names c)
    ∙ length-map (output_labels c.inputs c.outputs) Some
    ∙ as_many_outputs c

written_rules : (c : CircuitValue) → HasNames c → HasWires c → IsCircuit c → IsPlain c.equations → length (circuit_of (written_statements c)).inputs + length (circuit_of (written_statements c)).equations < 4294967296 → IsCircuit (circuit_of (written_statements c))
written_rules c has wires is plain few =
    let ss = written_statements c in
    let ordered = written_ordered c has wires is plain in
    let outputs = few_shown c in
    let limit = is.few_outputs in
    record {
      driven = ordered_driven ss ordered;
      once = ordered_once ss ordered;
      acyclic = ordered_acyclic ss ordered;
      arities = arities_of (bench_text c) ss (written-read c has plain is.arities);
      few = few;
      few_outputs = omega arith;
    }

means_by : (c : CircuitValue) → HasNames c → IsCircuit c → IsPlain c.equations → IsCircuit (circuit_of (written_statements c)) → Means (bench_text c) (circuit_of (written_statements c))
means_by c has is plain rules = record { statements = written_statements c; read = written-read c has plain is.arities; is = refl; rules = rules }

pub written_means : (c : CircuitValue) → HasNames c → HasWires c → IsCircuit c → IsPlain c.equations → HasRoom c → Means (bench_text c) (circuit_of (written_statements c))
written_means c has wires is plain room =
    let ss = written_statements c in
    let count = as_many_driven ss (names_of ss) ss in
    let few = few_driven c in
    means_by c has is plain (written_rules c has wires is plain (omega arith))

-- the statements of a text that a file may have are few
few_in_file : (bytes : List ℕ) (ss : List StatementValue) → statements_of bytes ≡ Ok ss → length bytes ≤ file_limit → length (circuit_of ss).inputs + length (circuit_of ss).equations < 4294967296
few_in_file bytes ss read fits =
    let lists = add_all (driven_by ss) nothing ss in
    let few = few_read bytes lists (record { statements = ss; read = read; circuit = is_numbered (driven_by ss) ss; fit = all_fit 1 (lines_of bytes) ss read; driven = driven_by ss; lists = refl }) in
    let inputs = ap (λ (d : CircuitValue). length d.inputs) (is_numbered (driven_by ss) ss) in
    let equations = ap (λ (d : CircuitValue). length d.equations) (is_numbered (driven_by ss) ss) in
    omega arith

pub means_in_file : (c : CircuitValue) → HasNames c → HasWires c → IsCircuit c → IsPlain c.equations → length (bench_text c) ≤ file_limit → Means (bench_text c) (circuit_of (written_statements c))
means_in_file c has wires is plain fits =
    means_by c has is plain (written_rules c has wires is plain (few_in_file (bench_text c) (written_statements c) (written-read c has plain is.arities) fits))

-- ---- what any meaning is

abbrev says : List StatementValue → Result (List StatementValue) Malformed
says ss = Ok ss

says_is : (ss ts : List StatementValue) → says ss ≡ says ts → ss ≡ ts
says_is ss ts e = cc

-- a written text means no other circuit
meaning_is : (c d : CircuitValue) → HasNames c → IsCircuit c → IsPlain c.equations → Means (bench_text c) d → d ≡ circuit_of (written_statements c)
meaning_is c d has is plain m = m.is ∙ ap circuit_of (says_is m.statements (written_statements c) (sym m.read ∙ written-read c has plain is.arities))

pub means_outputs : (c d : CircuitValue) → HasNames c → HasWires c → IsCircuit c → IsPlain c.equations → Means (bench_text c) d → (a : ℕ → Bool) → circuit_outputs d a ≡ circuit_outputs c a
means_outputs c d has wires is plain m a =
    let same = meaning_is c d has is plain m in
    ap (λ (e : CircuitValue). circuit_outputs e a) same ∙ written_outputs c has wires is plain (subst IsCircuit same m.rules) a

pub means_input_names : (c d : CircuitValue) → HasNames c → IsCircuit c → IsPlain c.equations → Means (bench_text c) d → input_names d.inputs ≡ map Some (input_labels c.inputs)
means_input_names c d has is plain m = ap (λ (e : CircuitValue). input_names e.inputs) (meaning_is c d has is plain m) ∙ written_input_names c

pub means_output_names : (c d : CircuitValue) → HasNames c → IsCircuit c → IsPlain c.equations → Means (bench_text c) d → output_names d.outputs ≡ map Some (output_labels c.inputs c.outputs)
means_output_names c d has is plain m = ap (λ (e : CircuitValue). output_names e.outputs) (meaning_is c d has is plain m) ∙ written_output_names c
