-- What reading a text answers.
use Rattle.std.proofs.Common.{◌≡◌, ℕ, ◌+◌, ◌≤◌, List, [], length, Result, Ok, Err, refl, sym, ap, subst, ◌∙◌, inl, inr, arith}
use Rattle.std.specs.Prelude.{IfOk, IfErr, codes}
use Rattle.std.proofs.lemmas.List.{length-map}
use Rattle.lnet_edge.specs.declared.fault.Malformed.{Malformed}
use Rattle.lnet_edge.specs.declared.fault.Fault.{Fault}
use Rattle.lnet_edge.specs.declared.fault.Fault.TheVariants as faults
use Rattle.lnet_edge.specs.Circuits.{CircuitValue}
use Rattle.lnet_edge.specs.CircuitLists.{equation_view}
use Rattle.lnet_edge.specs.Wires.{HasArities, IsCircuit, IsBroken}
use Rattle.lnet_lines.specs.Lines.{lines_of}
use Rattle.lnet_edge.specs.declared.fault.ReadError.{ReadError}
use Rattle.lnet_edge.specs.declared.fault.ReadError.TheVariants as errors
use Rattle.lnet_bench.specs.declared.listing.Lists.{Lists}
use Rattle.lnet_bench.specs.declared.wiring.Driven.{Driven}
use Rattle.lnet_bench.specs.Statements.{StatementValue}
use Rattle.lnet_bench.specs.Listing.{Listed, nothing, add_all, circuit_in, lists_view}
use Rattle.lnet_bench.specs.Numbering.{see_all, numbered}
use Rattle.lnet_bench.proofs.NumberLaws.{is_numbered}
use Rattle.lnet_bench.specs.Texts.{statements_of, circuit_of, driven_by, driven_in, drives, drives_in}
use Rattle.lnet_bench.specs.Reading.{lines_after, Fails}
use Rattle.lnet_bench.specs.Meanings.{Means, IsFault, Refuses, Answers, RefusesCircuit}
use Rattle.lnet_bench.proofs.TextLemmas.{listed, by_statements, same_drives, few_statements, AllFit, all_fit}
use Rattle.lnet_bench.proofs.ListingLemmas.{all_arities, no_arities, size, all_sizes, few_lines}

-- lists that were read of a text
pub record IsRead (bytes : List ℕ) (m : Listed) : Type 0 where
  pub statements : List StatementValue
  pub read : statements_of bytes ≡ Ok statements
  pub circuit : circuit_in m ≡ circuit_of statements
  pub fit : AllFit statements
  pub driven : Driven
  pub lists : m ≡ add_all driven nothing statements

abbrev made : Listed → Result Listed Malformed
made m = Ok m

made_is : (m l : Listed) → made m ≡ made l → m ≡ l
made_is m l e = cc

same_driven : (ls : List (List ℕ)) (ss : List StatementValue) → ((name : List ℕ) → drives_in ls name ≡ drives ss name) → driven_in ls ≡ driven_by ss
same_driven ls ss h = rw (h (codes "gnd"), h (codes "vdd")) refl

pub is_read : (bytes : List ℕ) (driven : Driven) (m : Listed) → driven ≡ driven_in (lines_of bytes) → lines_after driven 1 nothing (lines_of bytes) ≡ Ok m → IsRead bytes m
is_read bytes driven m is e = by (statements_of bytes) refl (sym (by_statements driven 1 nothing (lines_of bytes)) ∙ e) where
  by : (r : Result (List StatementValue) Malformed) → statements_of bytes ≡ r → listed driven nothing r ≡ Ok m → IsRead bytes m
  by (Err f) read h = absurd cc
  by (Ok ss) read h =
      let lists = made_is (add_all driven nothing ss) m h in
      let known : driven ≡ driven_by ss = is ∙ same_driven (lines_of bytes) ss (λ name. same_drives name 1 (lines_of bytes) ss read) in
      record {
        statements = ss;
        read = read;
        circuit = ap circuit_in (sym lists) ∙ is_numbered driven ss ∙ ap (λ (d : Driven). numbered d (see_all d [] ss) ss) known;
        fit = all_fit 1 (lines_of bytes) ss read;
        driven = driven;
        lists = sym lists;
      }

pub arities_read : (bytes : List ℕ) (m : Listed) → IsRead bytes m → HasArities m.equations
arities_read bytes m is = subst (λ (l : Listed). HasArities l.equations) (sym is.lists) (all_arities is.driven nothing is.statements is.fit no_arities)

pub few_read : (bytes : List ℕ) (m : Listed) → IsRead bytes m → size m ≤ length bytes + 1
few_read bytes m is = omega (arith, ap size is.lists, all_sizes is.driven nothing is.statements, few_statements 1 (lines_of bytes) is.statements is.read, few_lines bytes)

-- the lists that were read have few items
pub few_lists : (bytes : List ℕ) (l : Lists) → IsRead bytes (lists_view l) → length l.inputs.items + length l.outputs.items + length l.equations.items ≤ length bytes + 1
few_lists bytes l is = omega (arith, few_read bytes (lists_view l) is, length-map l.equations.items equation_view)

pub found : (bytes : List ℕ) (m : Listed) (r : Result CircuitValue ReadError) → IsRead bytes m → IfOk r (λ c. (c ≡ circuit_in m) × IsCircuit c) → IfOk r (Means bytes)
found bytes m (Ok c) is h = record { statements = is.statements; read = is.read; is = h.0 ∙ is.circuit; rules = h.1 }
found bytes m (Err e) is h = tt

broken : (bytes : List ℕ) (m : Listed) (e : ReadError) → IsRead bytes m → RefusesCircuit (circuit_in m) e → Refuses bytes e
broken bytes m errors.NoMemory is h = tt
broken bytes m (errors.Malformed f) is h = inr (record { statements = is.statements; read = is.read; line = h.0; broken = subst (λ (c : CircuitValue). IsBroken c f.kind) is.circuit h.1 })

pub refused : (bytes : List ℕ) (m : Listed) (r : Result CircuitValue ReadError) → IsRead bytes m → IfErr r (RefusesCircuit (circuit_in m)) → IfErr r (Refuses bytes)
refused bytes m (Ok c) is h = tt
refused bytes m (Err e) is h = broken bytes m e is h

abbrev fails : Malformed → Result Listed Malformed
fails f = Err f

fails_is : (f g : Malformed) → fails f ≡ fails g → f ≡ g
fails_is f g e = cc

pub refused_line : (bytes : List ℕ) (driven : Driven) (e : ReadError) → Fails e (lines_after driven 1 nothing (lines_of bytes)) → Refuses bytes e
refused_line bytes driven errors.NoMemory h = tt
refused_line bytes driven (errors.Malformed f) h = inl (by (statements_of bytes) refl (sym (by_statements driven 1 nothing (lines_of bytes)) ∙ h)) where
  by : (r : Result (List StatementValue) Malformed) → statements_of bytes ≡ r → listed driven nothing r ≡ Err f → statements_of bytes ≡ Err f
  by (Ok ss) read e = absurd cc
  by (Err g) read e = read ∙ ap Err (fails_is g f e)

-- ---- one meaning

abbrev says : List StatementValue → Result (List StatementValue) Malformed
says ss = Ok ss

says_is : (ss ts : List StatementValue) → says ss ≡ says ts → ss ≡ ts
says_is ss ts e = cc

pub one_meaning : (bytes : List ℕ) (c d : CircuitValue) → Means bytes c → Means bytes d → c ≡ d
one_meaning bytes c d m n = m.is ∙ ap circuit_of (says_is m.statements n.statements (sym m.read ∙ n.read)) ∙ sym n.is

unbroken : (c : CircuitValue) (f : Fault) → IsCircuit c → IsBroken c f → ⊥
unbroken c faults.Undriven is b = is.driven b
unbroken c faults.Twice is b = is.once b.1
unbroken c faults.Cycle is b = is.acyclic b.2
unbroken c _ is b = elim b [ ]

pub no_meaning : (bytes : List ℕ) (f : Malformed) (c : CircuitValue) → IsFault bytes f → Means bytes c → ⊥
no_meaning bytes f c (inl read) m = absurd (cc (read, m.read))
no_meaning bytes f c (inr b) m =
    let same = says_is b.statements m.statements (sym b.read ∙ m.read) in
    unbroken (circuit_of b.statements) f.kind (subst IsCircuit (m.is ∙ ap circuit_of (sym same)) m.rules) b.broken

pub answers : (bytes : List ℕ) (r : Result CircuitValue ReadError) → IfOk r (Means bytes) → IfErr r (Refuses bytes) → (c : CircuitValue) → Means bytes c → Answers r c
answers bytes (Ok d) ok err c m = one_meaning bytes d c ok m
answers bytes (Err errors.NoMemory) ok err c m = tt
answers bytes (Err (errors.Malformed f)) ok err c m = no_meaning bytes f c err m
