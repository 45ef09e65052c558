-- What a text in the BENCH format means, and why it means nothing.
use Rattle.std.specs.Prelude.{◌≡◌, ◌⊎◌, ℕ, List, Result, Ok, Err}
use Rattle.lnet_edge.specs.declared.fault.Malformed.{Malformed}
use Rattle.lnet_edge.specs.Circuits.{CircuitValue}
use Rattle.lnet_edge.specs.Wires.{IsCircuit, IsBroken}
use Rattle.lnet_edge.specs.declared.fault.ReadError.{ReadError}
use Rattle.lnet_edge.specs.declared.fault.ReadError.TheVariants as errors
use Rattle.lnet_bench.specs.Statements.{StatementValue}
use Rattle.lnet_bench.specs.Texts.{statements_of, circuit_of}

-- the text means the circuit: each line is a statement, blank or a comment, and the statements' circuit keeps the rules
pub record Means (bytes : List ℕ) (c : CircuitValue) : Type 0 where
  pub statements : List StatementValue
  pub read : statements_of bytes ≡ Ok statements
  pub is : c ≡ circuit_of statements
  pub rules : IsCircuit c

-- the statements' circuit breaks this rule, the first of the rules on the whole text, whose line is 0
pub record IsBrokenText (bytes : List ℕ) (f : Malformed) : Type 0 where
  pub statements : List StatementValue
  pub read : statements_of bytes ≡ Ok statements
  pub line : f.line ≡ 0
  pub broken : IsBroken (circuit_of statements) f.kind

-- the fault of a text: that of the first line that is no statement, or else the first broken rule on the whole text
abbrev pub IsFault : List ℕ → Malformed → Type 0
IsFault bytes f = (statements_of bytes ≡ Err f) ⊎ IsBrokenText bytes f

-- why a text is refused; for want of memory it may be refused at any time
abbrev pub Refuses : List ℕ → ReadError → Type 0
Refuses bytes errors.NoMemory = Unit {0}
Refuses bytes (errors.Malformed f) = IsFault bytes f

-- the answer is this circuit, unless memory ran out
abbrev pub Answers : Result CircuitValue ReadError → CircuitValue → Type 0
Answers (Ok d) c = d ≡ c
Answers (Err errors.NoMemory) c = Unit {0}
Answers (Err (errors.Malformed f)) c = ⊥

-- a circuit is refused for the first rule that it breaks
abbrev pub RefusesCircuit : CircuitValue → ReadError → Type 0
RefusesCircuit c errors.NoMemory = Unit {0}
RefusesCircuit c (errors.Malformed f) = (f.line ≡ 0) × IsBroken c f.kind
