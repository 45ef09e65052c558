-- The statements of lines fit: ports have names, and rules take so many operands.
use Rattle.std.proofs.Common.{◌≡◌, ℕ, suc, ◌≤◌, Bool, true, false, cond, eqb, ltb, List, [], ◌∷◌, length, Option, Some, None, Result, Ok, Err, refl, sym, ap, subst, ◌∙◌, arith}
use Rattle.std.specs.Prelude.{◌&&◌, is_some, codes}
use Rattle.std.specs.List.{list_all, filter_map, cons_option}
use Rattle.std.proofs.lemmas.List.Splits.{length-slice_split}
use Rattle.std.proofs.lemmas.Option.{cond_some}
use Rattle.std.proofs.lemmas.Bool.{eqb-true}
use Rattle.std.proofs.lemmas.Bool.Decides.{nat_tests}
use Rattle.lnet_edge.specs.declared.fault.Fault.{Fault}
use Rattle.lnet_edge.specs.declared.fault.Fault.TheVariants as faults
use Rattle.lnet_edge.specs.declared.circuit.Rule.{Rule}
use Rattle.lnet_edge.specs.declared.circuit.Rule.TheVariants.{And, Or, Xor, Lut}
use Rattle.lnet_edge.specs.Wires.{HasArity}
use Rattle.lnet_words.specs.Cutting.{is_byte, parts, cut_of, words_of, only_of}
use Rattle.lnet_bench.specs.Gates.{is_keyword, one_operand, other_gate_rule, gate_rule, fits_rows, rule_of_table, table_rule}
use Rattle.lnet_bench.specs.Statements.{is_name, named, name_of, ◌>>=◌, or_syntax, StatementValue, Input, Output, Gate, Constant, are_names, names_in, operand_count, arguments_of, rule_of, gate_of, constant_of, right_of, drive_of, port_of, port_by, statement_by, statement_of}
use Rattle.lnet_bench.specs.Listing.{Fits}

bind_ok : {A B : Type 0} (r : Result A Fault) (f : A → Result B Fault) (y : B) → (r >>= f) ≡ Ok y → (x : A) × (r ≡ Ok x) × (f x ≡ Ok y)
bind_ok (Ok x) f y e = (x, refl, e)
bind_ok (Err d) f y e = absurd cc

or_some : {A : Type 0} (o : Option A) (x : A) → or_syntax o ≡ Ok x → o ≡ Some x
or_some {A = A} None x e = absurd cc
or_some {A = A} (Some y) x e = some y x e where
  some : (y x : A) → or_syntax (Some y) ≡ Ok x → Some y ≡ Some x
  some y x e = cc

-- one choice after the other
pick : {A : Type 0} (P : A → Type 0) (b : Bool) (x : A) (rest : Result A Fault) → P x → ((r : A) → rest ≡ Ok r → P r) → (r : A) → cond b (Ok x) rest ≡ Ok r → P r
pick {A = A} P true x rest here later r e = subst P (same x r e) here where
  same : (x r : A) → or_syntax (Some x) ≡ Ok r → x ≡ r
  same x r e = cc
pick {A = A} P false x rest here later r e = later r e

no_ok : {A : Type 0} (P : A → Type 0) (f : Fault) (r : A) → Err f ≡ Ok r → P r
no_ok P f r e = absurd cc

-- ---- rules

one_arity : (rule : Rule) (n : ℕ) → HasArity rule 1 → (r : Rule) → one_operand rule n ≡ Ok r → HasArity r n
one_arity rule n one r e =
    elim (eqb n 1) as (λ b. eqb n 1 ≡ b → cond b (Ok rule) (Err faults.Syntax) ≡ Ok r → HasArity r n) [
      | true ↦ λ t h. pick (λ q. HasArity q n) true rule (Err faults.Syntax) (subst (λ k. HasArity rule k) (sym (eqb-true n 1 t)) one) (λ q. no_ok (λ q. HasArity q n) faults.Syntax q) r h
      | false ↦ λ t h. absurd cc
    ] refl e

abbrev Suits : ℕ → Rule → Type 0
Suits n r = HasArity r n

-- a choice between rules
choose : (n : ℕ) (b : Bool) (here rest : Result Rule Fault) → ((r : Rule) → here ≡ Ok r → HasArity r n) → ((r : Rule) → rest ≡ Ok r → HasArity r n) → (r : Rule) → cond b here rest ≡ Ok r → HasArity r n
choose n true here rest one other r e = one r e
choose n false here rest one other r e = other r e

suits : (n : ℕ) (rule : Rule) → HasArity rule n → (r : Rule) → or_syntax (Some rule) ≡ Ok r → HasArity r n
suits n rule has r e = subst (Suits n) (same rule r e) has where
  same : (x r : Rule) → or_syntax (Some x) ≡ Ok r → x ≡ r
  same x r e = cc

refused : (n : ℕ) (f : Fault) (r : Rule) → Err f ≡ Ok r → HasArity r n
refused n f r e = absurd cc

other_arity : (word : List ℕ) (n : ℕ) → 1 ≤ n → (r : Rule) → other_gate_rule word n ≡ Ok r → HasArity r n
unfolding other_gate_rule
other_arity word n some =
    choose n _ _ _ (one_arity (And true) n (omega arith))
    (choose n _ _ _ (one_arity (And false) n (omega arith))
    (choose n _ _ _ (refused n faults.Syntax)
    (choose n _ _ _ (refused n faults.Sequential) (refused n faults.Unsupported))))

gate_arity : (word : List ℕ) (n : ℕ) → 1 ≤ n → (r : Rule) → gate_rule word n ≡ Ok r → HasArity r n
unfolding gate_rule
gate_arity word n some =
    choose n _ _ _ (suits n (And false) some)
    (choose n _ _ _ (suits n (Or false) some)
    (choose n _ _ _ (suits n (Xor false) some)
    (choose n _ _ _ (suits n (And true) some)
    (choose n _ _ _ (suits n (Or true) some)
    (choose n _ _ _ (suits n (Xor true) some) (other_arity word n some))))))

table_arity : (t : Option ℕ) (n : ℕ) (r : Rule) → rule_of_table t n ≡ Ok r → HasArity r n
table_arity None n r e = refused n faults.Cover r e
table_arity (Some table) n r e =
    elim (ltb 6 n) as (λ b. ltb 6 n ≡ b → cond b (Err faults.Syntax) (cond (fits_rows table n) (Ok (Lut table)) (Err faults.Cover)) ≡ Ok r → HasArity r n) [
      | true ↦ λ t h. refused n faults.Syntax r h
      | false ↦ λ t h. let few : n ≤ 6 = grind (arith, nat_tests) in choose n (fits_rows table n) (Ok (Lut table)) (Err faults.Cover) (suits n (Lut table) few) (refused n faults.Cover) r h
    ] refl e

table_word_arity : (word : List ℕ) (n : ℕ) (r : Rule) → table_rule word n ≡ Ok r → HasArity r n
unfolding table_rule
table_word_arity word n = choose n _ _ _ (table_arity _ n) (refused n faults.Syntax)

rule_arity : (words : List (List ℕ)) (n : ℕ) → 1 ≤ n → (r : Rule) → rule_of words n ≡ Ok r → HasArity r n
rule_arity [] n some r e = refused n faults.Syntax r e
rule_arity (w ∷ []) n some r e = choose n (is_name w) (gate_rule w n) (Err faults.Syntax) (gate_arity w n some) (refused n faults.Syntax) r e
rule_arity (w ∷ t ∷ []) n some r e = choose n (is_name t && is_keyword w (codes "LUT")) (table_rule t n) (Err faults.Syntax) (table_word_arity t n) (refused n faults.Syntax) r e
rule_arity (w ∷ t ∷ u ∷ us) n some r e = refused n faults.Syntax r e

-- ---- operands

kept : (xs : List (List ℕ)) → list_all (λ part. is_some (name_of part)) xs ≡ true → length (filter_map name_of xs) ≡ length xs
kept [] e = refl
kept (x ∷ xs) e =
    elim (name_of x) as (λ o. (is_some o && list_all (λ part. is_some (name_of part)) xs) ≡ true → length (cons_option o (filter_map name_of xs)) ≡ suc (length xs)) [
      | None ↦ λ h. absurd cc
      | Some y ↦ λ h. ap suc (kept xs h)
    ] e

count_is : (args : List ℕ) (n : ℕ) → operand_count args ≡ Some n → (length (names_in args) ≡ n) × (1 ≤ n)
count_is args n e =
    let g = cond_some (are_names args) (length (parts (is_byte 44) args)) n e in
    (kept (parts (is_byte 44) args) g.0 ∙ g.1, omega (arith, length-slice_split (is_byte 44) args, g.1))

-- ---- statements

name_is : (text name : List ℕ) → name_of text ≡ Some name → is_name name ≡ true
name_is text name e = by (only_of (words_of text)) e where
  by : (o : Option (List ℕ)) → named o ≡ Some name → is_name name ≡ true
  by None h = absurd cc
  by (Some w) h = let g = cond_some (is_name w) w name h in subst (λ (x : List ℕ). is_name x ≡ true) g.1 g.0

abbrev says : StatementValue → Result StatementValue Fault
says s = Ok s

said : (s t : StatementValue) → says s ≡ Ok t → s ≡ t
said s t e = cc

gate_fits : (target head inside : List ℕ) (s : StatementValue) → gate_of target head inside ≡ Ok s → Fits s
unfolding gate_of
gate_fits target head inside s e =
    let a = bind_ok (or_syntax (arguments_of inside)) (λ args. or_syntax (operand_count args) >>= λ count. rule_of (words_of head) count >>= λ rule. says (Gate target rule (names_in args))) s e in
    let n = bind_ok (or_syntax (operand_count a.0)) (λ count. rule_of (words_of head) count >>= λ rule. says (Gate target rule (names_in a.0))) s a.2 in
    let r = bind_ok (rule_of (words_of head) n.0) (λ rule. says (Gate target rule (names_in a.0))) s n.2 in
    let count = count_is a.0 n.0 (or_some (operand_count a.0) n.0 n.1) in
    subst Fits (said (Gate target r.0 (names_in a.0)) s r.2) (subst (λ (k : ℕ). HasArity r.0 k) (sym count.0) (rule_arity (words_of head) n.0 count.1 r.0 r.1))

constant_fits : (target text : List ℕ) (s : StatementValue) → constant_of target text ≡ Ok s → Fits s
unfolding constant_of
constant_fits target text s e =
    let w = bind_ok (or_syntax (name_of text)) (λ word. cond (is_keyword word (codes "gnd")) (says (Constant target false)) (cond (is_keyword word (codes "vdd")) (says (Constant target true)) (Err faults.Syntax))) s e in
    pick Fits (is_keyword w.0 (codes "gnd")) (Constant target false) (cond (is_keyword w.0 (codes "vdd")) (says (Constant target true)) (Err faults.Syntax)) tt
    (pick Fits (is_keyword w.0 (codes "vdd")) (Constant target true) (Err faults.Syntax) tt (no_ok Fits faults.Syntax)) s w.2

right_fits : (target : List ℕ) (cut : List ℕ × Option (List ℕ)) (s : StatementValue) → right_of target cut ≡ Ok s → Fits s
right_fits target (head, None) s e = constant_fits target head s e
right_fits target (head, Some inside) s e = gate_fits target head inside s e

drive_fits : (left right : List ℕ) (s : StatementValue) → drive_of left right ≡ Ok s → Fits s
unfolding drive_of
drive_fits left right s e =
    let t = bind_ok (or_syntax (name_of left)) (λ target. right_of target (cut_of (is_byte 40) right)) s e in
    right_fits t.0 (cut_of (is_byte 40) right) s t.2

port_fits : (head inside : List ℕ) (s : StatementValue) → port_of head inside ≡ Ok s → Fits s
unfolding port_of
port_fits head inside s e =
    let a = bind_ok (or_syntax (arguments_of inside)) (λ args. or_syntax (name_of head) >>= λ word. or_syntax (name_of args) >>= λ name. cond (is_keyword word (codes "INPUT")) (says (Input name)) (cond (is_keyword word (codes "OUTPUT")) (says (Output name)) (Err faults.Syntax))) s e in
    let w = bind_ok (or_syntax (name_of head)) (λ word. or_syntax (name_of a.0) >>= λ name. cond (is_keyword word (codes "INPUT")) (says (Input name)) (cond (is_keyword word (codes "OUTPUT")) (says (Output name)) (Err faults.Syntax))) s a.2 in
    let n = bind_ok (or_syntax (name_of a.0)) (λ name. cond (is_keyword w.0 (codes "INPUT")) (says (Input name)) (cond (is_keyword w.0 (codes "OUTPUT")) (says (Output name)) (Err faults.Syntax))) s w.2 in
    let is = name_is a.0 n.0 (or_some (name_of a.0) n.0 n.1) in
    pick Fits (is_keyword w.0 (codes "INPUT")) (Input n.0) (cond (is_keyword w.0 (codes "OUTPUT")) (says (Output n.0)) (Err faults.Syntax)) is
    (pick Fits (is_keyword w.0 (codes "OUTPUT")) (Output n.0) (Err faults.Syntax) is (no_ok Fits faults.Syntax)) s n.2

port_by_fits : (cut : List ℕ × Option (List ℕ)) (s : StatementValue) → port_by cut ≡ Ok s → Fits s
port_by_fits (head, None) s e = no_ok Fits faults.Syntax s e
port_by_fits (head, Some inside) s e = port_fits head inside s e

by_fits : (text : List ℕ) (cut : List ℕ × Option (List ℕ)) (s : StatementValue) → statement_by text cut ≡ Ok s → Fits s
by_fits text (left, None) s e = port_by_fits (cut_of (is_byte 40) text) s e
by_fits text (left, Some right) s e = drive_fits left right s e

pub statement_fits : (text : List ℕ) (s : StatementValue) → statement_of text ≡ Ok s → Fits s
unfolding statement_of
statement_fits text s e = by_fits text (cut_of (is_byte 61) text) s e
