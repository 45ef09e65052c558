-- What each form of line says.
use Rattle.std.proofs.Common.{◌≡◌, ℕ, suc, Bool, true, false, List, [], ◌∷◌, ◌++◌, length, Option, Some, Result, Ok, Err, codes, refl, sym, ap, ◌∙◌, append_assoc}
use Rattle.std.specs.Prelude.{not, if◌then◌else◌}
use Rattle.std.specs.List.{list_all}
use Rattle.lnet_edge.specs.declared.fault.Fault.{Fault}
use Rattle.lnet_edge.specs.declared.fault.Fault.TheVariants as faults
use Rattle.lnet_edge.specs.declared.circuit.Rule.{Rule}
use Rattle.lnet_words.specs.Cutting.{is_byte, words_of, cut_of}
use Rattle.lnet_bench.specs.Gates.{is_keyword}
use Rattle.lnet_bench.specs.Statements.{StatementValue, Input, Output, Gate, Constant, is_name, name_of, or_syntax, ◌>>=◌, names_in, operand_count, closed, arguments_of, rule_of, gate_of, constant_of, right_of, drive_of, port_of, port_by, statement_by, statement_of}
use Rattle.lnet_benchwriter.specs.Nodes.{constant_name}
use Rattle.lnet_benchwriter.specs.Texts.{separated, port_line, gate_line, constant_line}
use Rattle.lnet_benchtext.proofs.Cutting.{all-append, all_weaker, has_none, cut_at, cut_none}
use Rattle.lnet_benchtext.proofs.NameBytes.{is_line_byte, closes_none, equals_none, name_line, name_begins, name_alone, name_before, names_of, count_of, separated-all}
use Rattle.lnet_benchtext.proofs.Spelling.{Spells, spells_line}

-- ---- lines without their newlines

abbrev port_bytes : List ℕ → List ℕ → List ℕ
port_bytes word name = word ++ (codes "(" ++ (name ++ codes ")"))

abbrev drive_bytes : List ℕ → List ℕ → List ℕ
drive_bytes name right = name ++ (codes " = " ++ right)

abbrev call_bytes : List ℕ → List ℕ → List ℕ
call_bytes word args = word ++ (codes "(" ++ (args ++ codes ")"))

port_line-is : (word name : List ℕ) → port_line word name ≡ port_bytes word name ++ 10 ∷ []
port_line-is word name =
    ap (λ (t : List ℕ). word ++ (40 ∷ t)) (sym (append_assoc name (41 ∷ []) (10 ∷ []))) ∙ sym (append_assoc word (40 ∷ (name ++ 41 ∷ [])) (10 ∷ []))

gate_line-is : (name word : List ℕ) (operands : List (List ℕ)) → gate_line name word operands ≡ drive_bytes name (call_bytes word (separated operands)) ++ 10 ∷ []
gate_line-is name word operands =
    ap (λ (t : List ℕ). name ++ (codes " = " ++ t)) (port_line-is word (separated operands)) ∙ sym (append_assoc name (codes " = " ++ call_bytes word (separated operands)) (10 ∷ []))

constant_line-is : (name : List ℕ) (value : Bool) → constant_line name value ≡ drive_bytes name (constant_name value) ++ 10 ∷ []
constant_line-is name value = sym (append_assoc name (codes " = " ++ constant_name value) (10 ∷ []))

-- ---- ports

port_says : (word name : List ℕ) (s : StatementValue) → has_none (is_byte 61) word ≡ true → has_none (is_byte 40) word ≡ true → is_name name ≡ true → port_of word (name ++ codes ")") ≡ Ok s → statement_of (port_bytes word name) ≡ Ok s
unfolding statement_of
port_says word name s plain unopened is said =
    let whole : has_none (is_byte 61) (port_bytes word name) ≡ true = all-append (λ b. not (is_byte 61 b)) word (codes "(" ++ (name ++ codes ")")) plain (all-append (λ b. not (is_byte 61 b)) name (codes ")") (equals_none name is) refl) in
    ap (statement_by (port_bytes word name)) (cut_none (is_byte 61) (port_bytes word name) whole)
    ∙ ap port_by (cut_at (is_byte 40) word 40 (name ++ codes ")") unopened refl)
    ∙ said

closed_name : (name : List ℕ) → is_name name ≡ true → arguments_of (name ++ codes ")") ≡ Some name
closed_name name is = ap closed (cut_at (is_byte 41) name 41 [] (closes_none name is) refl)

-- a port by its word and name
abbrev port_called : List ℕ → Option (List ℕ) → Result StatementValue Fault
port_called head name = or_syntax (name_of head) >>= (λ (word : List ℕ). or_syntax name >>= (λ (n : List ℕ). if is_keyword word (codes "INPUT") then Ok (Input n) else if is_keyword word (codes "OUTPUT") then Ok (Output n) else Err faults.Syntax))

port_named : (head name : List ℕ) → is_name name ≡ true → port_of head (name ++ codes ")") ≡ port_called head (Some name)
unfolding port_of
port_named head name is =
    ap (λ (o : Option (List ℕ)). or_syntax o >>= (λ (args : List ℕ). port_called head (name_of args))) (closed_name name is) ∙ ap (port_called head) (name_alone name is)

input_of : (name : List ℕ) → is_name name ≡ true → port_of (codes "INPUT") (name ++ codes ")") ≡ Ok (Input name)
input_of name is = port_named (codes "INPUT") name is

output_of : (name : List ℕ) → is_name name ≡ true → port_of (codes "OUTPUT") (name ++ codes ")") ≡ Ok (Output name)
output_of name is = port_named (codes "OUTPUT") name is

port_text : (word name : List ℕ) → list_all is_line_byte word ≡ true → is_name name ≡ true → list_all is_line_byte (port_bytes word name) ≡ true
port_text word name all is = all-append is_line_byte word (codes "(" ++ (name ++ codes ")")) all (all-append is_line_byte name (codes ")") (name_line name is) refl)

pub spells_input : (name : List ℕ) → is_name name ≡ true → Spells (port_line (codes "INPUT") name) (Input name ∷ [])
spells_input name is = spells_line (port_bytes (codes "INPUT") name) (port_line (codes "INPUT") name) (Input name) (port_line-is (codes "INPUT") name) (record {
  bytes = port_text (codes "INPUT") name refl is;
  full = name_begins (codes "INPUT") (codes "(" ++ (name ++ codes ")")) refl;
  says = port_says (codes "INPUT") name (Input name) refl refl is (input_of name is);
})

pub spells_output : (name : List ℕ) → is_name name ≡ true → Spells (port_line (codes "OUTPUT") name) (Output name ∷ [])
spells_output name is = spells_line (port_bytes (codes "OUTPUT") name) (port_line (codes "OUTPUT") name) (Output name) (port_line-is (codes "OUTPUT") name) (record {
  bytes = port_text (codes "OUTPUT") name refl is;
  full = name_begins (codes "OUTPUT") (codes "(" ++ (name ++ codes ")")) refl;
  says = port_says (codes "OUTPUT") name (Output name) refl refl is (output_of name is);
})

-- ---- lines with a `=`

drive_says : (name right : List ℕ) (s : StatementValue) → is_name name ≡ true → right_of name (cut_of (is_byte 40) (32 ∷ right)) ≡ Ok s → statement_of (drive_bytes name right) ≡ Ok s
unfolding statement_of drive_of
drive_says name right s is said =
    let front : drive_bytes name right ≡ (name ++ 32 ∷ []) ++ 61 ∷ 32 ∷ right = sym (append_assoc name (32 ∷ []) (61 ∷ 32 ∷ right)) in
    let none : has_none (is_byte 61) (name ++ 32 ∷ []) ≡ true = all-append (λ b. not (is_byte 61 b)) name (32 ∷ []) (equals_none name is) refl in
    ap (λ (c : List ℕ × Option (List ℕ)). statement_by (drive_bytes name right) c) (ap (cut_of (is_byte 61)) front ∙ cut_at (is_byte 61) (name ++ 32 ∷ []) 61 (32 ∷ right) none refl)
    ∙ ap (λ (o : Option (List ℕ)). or_syntax o >>= (λ (target : List ℕ). right_of target (cut_of (is_byte 40) (32 ∷ right)))) (name_before name is)
    ∙ said

drive_text : (name right : List ℕ) → is_name name ≡ true → list_all is_line_byte right ≡ true → list_all is_line_byte (drive_bytes name right) ≡ true
drive_text name right is all = all-append is_line_byte name (codes " = " ++ right) (name_line name is) all

-- ---- constants

constant_says : (name : List ℕ) (value : Bool) → right_of name (cut_of (is_byte 40) (32 ∷ constant_name value)) ≡ Ok (Constant name value)
unfolding constant_of
constant_says name true = refl
constant_says name false = refl

constant_text : (value : Bool) → list_all is_line_byte (constant_name value) ≡ true
constant_text true = refl
constant_text false = refl

pub spells_constant : (name : List ℕ) (value : Bool) → is_name name ≡ true → Spells (constant_line name value) (Constant name value ∷ [])
spells_constant name value is = spells_line (drive_bytes name (constant_name value)) (constant_line name value) (Constant name value) (constant_line-is name value) (record {
  bytes = drive_text name (constant_name value) is (constant_text value);
  full = name_begins name (codes " = " ++ constant_name value) is;
  says = drive_says name (constant_name value) (Constant name value) is (constant_says name value);
})

-- ---- gates

-- the word before the operands is read as this rule of so many
pub record IsWordOf (word : List ℕ) (rule : Rule) (count : ℕ) : Type 0 where
  pub unopened : has_none (is_byte 40) word ≡ true
  pub bytes : list_all is_line_byte word ≡ true
  pub means : rule_of (words_of (32 ∷ word)) count ≡ Ok rule

closed_operands : (x : List ℕ) (xs : List (List ℕ)) → is_name x ≡ true → list_all is_name xs ≡ true → arguments_of (separated (x ∷ xs) ++ codes ")") ≡ Some (separated (x ∷ xs))
closed_operands x xs one all =
    ap closed (cut_at (is_byte 41) (separated (x ∷ xs)) 41 [] (separated-all (λ b. not (is_byte 41 b)) x xs refl refl (closes_none x one) (all_weaker is_name (has_none (is_byte 41)) xs closes_none all)) refl)

abbrev gate_by : List ℕ → List (List ℕ) → Rule → Result StatementValue Fault
gate_by name names rule = Ok (Gate name rule names)

gate_says : (name word x : List ℕ) (xs : List (List ℕ)) (rule : Rule) → is_name x ≡ true → list_all is_name xs ≡ true → rule_of (words_of (32 ∷ word)) (suc (length xs)) ≡ Ok rule → gate_of name (32 ∷ word) (separated (x ∷ xs) ++ codes ")") ≡ Ok (Gate name rule (x ∷ xs))
unfolding gate_of
gate_says name word x xs rule one all is =
    ap (λ (o : Option (List ℕ)). or_syntax o >>= (λ (args : List ℕ). or_syntax (operand_count args) >>= (λ (n : ℕ). rule_of (words_of (32 ∷ word)) n >>= gate_by name (names_in args)))) (closed_operands x xs one all)
    ∙ ap (λ (o : Option ℕ). or_syntax o >>= (λ (n : ℕ). rule_of (words_of (32 ∷ word)) n >>= gate_by name (names_in (separated (x ∷ xs))))) (count_of x xs one all)
    ∙ ap (λ (r : Result Rule Fault). r >>= gate_by name (names_in (separated (x ∷ xs)))) is
    ∙ ap (λ (ns : List (List ℕ)). gate_by name ns rule) (names_of x xs one all)

call_says : (name word x : List ℕ) (xs : List (List ℕ)) (rule : Rule) → is_name x ≡ true → list_all is_name xs ≡ true → IsWordOf word rule (suc (length xs)) → right_of name (cut_of (is_byte 40) (32 ∷ call_bytes word (separated (x ∷ xs)))) ≡ Ok (Gate name rule (x ∷ xs))
call_says name word x xs rule one all is =
    ap (right_of name) (cut_at (is_byte 40) (32 ∷ word) 40 (separated (x ∷ xs) ++ codes ")") is.unopened refl) ∙ gate_says name word x xs rule one all is.means

call_text : (word x : List ℕ) (xs : List (List ℕ)) → list_all is_line_byte word ≡ true → is_name x ≡ true → list_all is_name xs ≡ true → list_all is_line_byte (call_bytes word (separated (x ∷ xs))) ≡ true
call_text word x xs plain one all =
    all-append is_line_byte word (codes "(" ++ (separated (x ∷ xs) ++ codes ")")) plain (all-append is_line_byte (separated (x ∷ xs)) (codes ")") (separated-all is_line_byte x xs refl refl (name_line x one) (all_weaker is_name (list_all is_line_byte) xs name_line all)) refl)

pub spells_gate : (name word x : List ℕ) (xs : List (List ℕ)) (rule : Rule) → is_name name ≡ true → is_name x ≡ true → list_all is_name xs ≡ true → IsWordOf word rule (suc (length xs)) → Spells (gate_line name word (x ∷ xs)) (Gate name rule (x ∷ xs) ∷ [])
spells_gate name word x xs rule is one all means = spells_line (drive_bytes name (call_bytes word (separated (x ∷ xs)))) (gate_line name word (x ∷ xs)) (Gate name rule (x ∷ xs)) (gate_line-is name word (x ∷ xs)) (record {
  bytes = drive_text name (call_bytes word (separated (x ∷ xs))) is (call_text word x xs means.bytes one all);
  full = name_begins name (codes " = " ++ call_bytes word (separated (x ∷ xs))) is;
  says = drive_says name (call_bytes word (separated (x ∷ xs))) (Gate name rule (x ∷ xs)) is (call_says name word x xs rule one all means);
})
