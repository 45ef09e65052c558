-- What reading a content answers.
use Rattle.std.proofs.Common.{◌≡◌, ℕ, List, Result, Ok, Err, refl, sym, ap, subst, ◌∙◌, inl, inr}
use Rattle.std.specs.Prelude.{IfOk, IfErr}
use Rattle.lnet_edge.specs.declared.fault.Malformed.{Malformed}
use Rattle.lnet_edge.specs.declared.fault.Fault.{Fault}
use Rattle.lnet_edge.specs.declared.fault.Fault.TheVariants as faults
use Rattle.lnet_edge.specs.Circuits.{CircuitValue}
use Rattle.lnet_edge.specs.Wires.{HasArities, IsCircuit, IsBroken}
use Rattle.lnet_bliflines.specs.Words.{LineWords, words_in}
use Rattle.lnet_edge.specs.declared.fault.ReadError.{ReadError}
use Rattle.lnet_edge.specs.declared.fault.ReadError.TheVariants as errors
use Rattle.lnet_blif.specs.Statements.{StatementValue}
use Rattle.lnet_blif.specs.Listing.{Listed, State, closed, add_all, circuit_in}
use Rattle.lnet_blif.specs.Texts.{statements_of, circuit_of}
use Rattle.lnet_blif.specs.Reading.{start, lines_after, finished, Fails}
use Rattle.lnet_blif.specs.Meanings.{Means, IsFault, Refuses, Answers, RefusesCircuit}
use Rattle.lnet_blif.proofs.NumberLaws.{is_numbered}
use Rattle.lnet_blif.proofs.TextLemmas.{listed, by_statements}
use Rattle.lnet_blif.proofs.Sound.{closed_arities, lines_sound, start_sound}

-- lists that were read of a content
pub record IsRead (bytes : List ℕ) (m : Listed) : Type 0 where
  pub statements : List StatementValue
  pub read : statements_of bytes ≡ Ok statements
  pub circuit : circuit_in m ≡ circuit_of statements
  pub arities : HasArities m.equations

by_lines : (bytes : List ℕ) → finished (lines_after start (words_in bytes)) ≡ finished (listed start (statements_of bytes))
by_lines bytes = ap finished (by_statements start (words_in bytes))

abbrev made : Listed → Result Listed Malformed
made m = Ok m

made_is : (m l : Listed) → made m ≡ made l → m ≡ l
made_is m l e = cc

finish_arities : (ls : List (Result LineWords Malformed)) (r : Result State Malformed) (m : Listed) → lines_after start ls ≡ r → finished r ≡ Ok m → HasArities m.equations
finish_arities ls (Err fault) m is e = absurd cc
finish_arities ls (Ok s) m is e = subst (λ (l : Listed). HasArities l.equations) (made_is (closed s.lists s.place) m e) (closed_arities s.lists s.place (lines_sound start ls start_sound s is))

pub is_read : (bytes : List ℕ) (m : Listed) → finished (lines_after start (words_in bytes)) ≡ Ok m → IsRead bytes m
is_read bytes m e = by (statements_of bytes) refl (sym (by_lines bytes) ∙ e) where
  by : (r : Result (List StatementValue) Malformed) → statements_of bytes ≡ r → finished (listed start r) ≡ Ok m → IsRead bytes m
  by (Err f) read h = absurd cc
  by (Ok ss) read h = record {
    statements = ss;
    read = read;
    circuit = ap circuit_in (sym (made_is (closed (add_all start ss).lists (add_all start ss).place) m h)) ∙ is_numbered ss;
    arities = finish_arities (words_in bytes) (lines_after start (words_in bytes)) m refl e;
  }

pub found : (bytes : List ℕ) (m : Listed) (r : Result CircuitValue ReadError) → IsRead bytes m → IfOk r (λ c. (c ≡ circuit_in m) × IsCircuit c) → IfOk r (Means bytes)
found bytes m (Ok c) is h = record { statements = is.statements; read = is.read; is = h.0 ∙ is.circuit; rules = h.1 }
found bytes m (Err e) is h = tt

broken : (bytes : List ℕ) (m : Listed) (e : ReadError) → IsRead bytes m → RefusesCircuit (circuit_in m) e → Refuses bytes e
broken bytes m errors.NoMemory is h = tt
broken bytes m (errors.Malformed f) is h = inr (record { statements = is.statements; read = is.read; line = h.0; broken = subst (λ (c : CircuitValue). IsBroken c f.kind) is.circuit h.1 })

pub refused : (bytes : List ℕ) (m : Listed) (r : Result CircuitValue ReadError) → IsRead bytes m → IfErr r (RefusesCircuit (circuit_in m)) → IfErr r (Refuses bytes)
refused bytes m (Ok c) is h = tt
refused bytes m (Err e) is h = broken bytes m e is h

abbrev fails : Malformed → Result Listed Malformed
fails f = Err f

fails_is : (f g : Malformed) → fails f ≡ fails g → f ≡ g
fails_is f g e = cc

pub refused_line : (bytes : List ℕ) (e : ReadError) → Fails e (finished (lines_after start (words_in bytes))) → Refuses bytes e
refused_line bytes errors.NoMemory h = tt
refused_line bytes (errors.Malformed f) h = inl (by (statements_of bytes) refl (sym (by_lines bytes) ∙ h)) where
  by : (r : Result (List StatementValue) Malformed) → statements_of bytes ≡ r → finished (listed start r) ≡ Err f → statements_of bytes ≡ Err f
  by (Ok ss) read e = absurd cc
  by (Err g) read e = read ∙ ap Err (fails_is g f e)

-- ---- one meaning

abbrev says : List StatementValue → Result (List StatementValue) Malformed
says ss = Ok ss

says_is : (ss ts : List StatementValue) → says ss ≡ says ts → ss ≡ ts
says_is ss ts e = cc

pub one_meaning : (bytes : List ℕ) (c d : CircuitValue) → Means bytes c → Means bytes d → c ≡ d
one_meaning bytes c d m n = m.is ∙ ap circuit_of (says_is m.statements n.statements (sym m.read ∙ n.read)) ∙ sym n.is

unbroken : (c : CircuitValue) (f : Fault) → IsCircuit c → IsBroken c f → ⊥
unbroken c faults.Undriven is b = is.driven b
unbroken c faults.Twice is b = is.once b.1
unbroken c faults.Cycle is b = is.acyclic b.2
unbroken c _ is b = elim b [ ]

pub no_meaning : (bytes : List ℕ) (f : Malformed) (c : CircuitValue) → IsFault bytes f → Means bytes c → ⊥
no_meaning bytes f c (inl read) m = absurd (cc (read, m.read))
no_meaning bytes f c (inr b) m =
    let same = says_is b.statements m.statements (sym b.read ∙ m.read) in
    unbroken (circuit_of b.statements) f.kind (subst IsCircuit (m.is ∙ ap circuit_of (sym same)) m.rules) b.broken

pub answers : (bytes : List ℕ) (r : Result CircuitValue ReadError) → IfOk r (Means bytes) → IfErr r (Refuses bytes) → (c : CircuitValue) → Means bytes c → Answers r c
answers bytes (Ok d) ok err c m = one_meaning bytes d c ok m
answers bytes (Err errors.NoMemory) ok err c m = tt
answers bytes (Err (errors.Malformed f)) ok err c m = no_meaning bytes f c err m
