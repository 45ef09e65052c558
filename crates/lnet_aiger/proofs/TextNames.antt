-- Written symbols name the ports.
use Rattle.std.proofs.Common.{◌≡◌, ℕ, suc, ◌+◌, ◌*◌, ◌/◌, ◌≤◌, Bool, true, false, not, cond, ltb, List, [], ◌∷◌, ◌++◌, length, take, drop, map, Option, Some, None, Ok, Err, refl, sym, ap, subst, ◌∙◌, inr, append_assoc, arith, length-append, lit≤}
use Rattle.std.specs.Prelude.{◌&&◌, slice_get, slice_set, IfSome}
use Rattle.std.specs.Char.{is_ascii_digit}
use Rattle.std.specs.Fmt.{decimal}
use Rattle.std.specs.List.{list_all, before_first, after_first, position_or_len, AllByRecursion}
use Rattle.std.specs.Str.{all_ascii_digits}
use Rattle.std.proofs.lemmas.Bool.{false≢true}
use Rattle.std.proofs.lemmas.Bool.Decides.{nat_tests}
use Rattle.std.proofs.lemmas.List.{take_at, drop_at}
use Rattle.lnet_edge.specs.declared.fault.Fault.TheVariants as fault
use Rattle.lnet_edge.specs.declared.circuit.InputPort.{InputPort}
use Rattle.lnet_edge.specs.declared.circuit.OutputPort.{OutputPort}
use Rattle.lnet_edge.specs.Names.{IsName}
use Rattle.lnet_lines.specs.Lines.{lines_of}
use Rattle.lnet_lines.specs.Numbers.{number_of}
use Rattle.lnet_aiger.specs.declared.symbol.Side.{Side}
use Rattle.lnet_aiger.specs.declared.symbol.Side.TheVariants.{Input, Output}
use Rattle.lnet_aiger.specs.Header.{is_space}
use Rattle.lnet_aiger.specs.LineRules.{ref_of}
use Rattle.lnet_aiger.specs.Symbols.{Ports, is_printable, is_name, side_of, symbol_by, symbol_line, name_input, name_output, naming_line}
use Rattle.lnet_aiger.specs.Texts.{literal_of, symbol_text, symbols_text}
use Rattle.lnet_edge.specs.Shown.{input_names, output_names}
use Rattle.lnet_aiger.specs.Written.{written_input, written_output, HasNames}
use Rattle.lnet_aiger.specs.Grammar.{AreNamed}
use Rattle.lnet_aiger.proofs.TextLines.{AreText, text-append, text-decimal, decimal_digits, number_of-decimal, lines_of-text}

-- ---- names

printable : (bs : List ℕ) → AllByRecursion (λ b. (32 ≤ b) × (b ≤ 126)) bs → (list_all is_printable bs ≡ true) × AreText bs
printable [] all = (refl, tt)
printable (b ∷ bs) all =
    let t : is_printable b ≡ true = let lo = all.0.0 in let hi = all.0.1 in grind (arith, nat_tests) in
    let others = printable bs all.1 in
    (rw t others.0, (all.0.0, others.1))

is_name-of : (name : List ℕ) → IsName name → is_name name ≡ true
is_name-of name is =
    let some : ltb 0 (length name) ≡ true = let h = is.some in grind (arith, nat_tests) in
    rw some (printable name is.printable).0

-- ---- a symbol's line

both : (a b : Bool) → (a && b) ≡ true → (a ≡ true) × (b ≡ true)
both true b e = (refl, e)
both false b e = absurd (false≢true e)

space_at : (ds rest : List ℕ) → all_ascii_digits ds ≡ true → position_or_len is_space (ds ++ 32 ∷ rest) ≡ length ds
space_at [] rest all = refl
space_at (d ∷ ds) rest all =
    let b = both (is_ascii_digit d) (all_ascii_digits ds) all in
    let t : not (is_space d) ≡ true = digit_passes d b.0 in
    ap (λ (u : Bool). cond u (1 + position_or_len is_space (ds ++ 32 ∷ rest)) 0) t ∙ omega (arith, space_at ds rest b.1)
  where
    digit_passes : (d : ℕ) → is_ascii_digit d ≡ true → not (is_space d) ≡ true
    digit_passes d e = grind (arith, nat_tests)

-- the bytes of a symbol behind its letter
abbrev pub symbol_words : ℕ → List ℕ → List ℕ
symbol_words place name = decimal place ++ 32 ∷ name

symbol_line-words : (side : Side) (letter place : ℕ) (name : List ℕ) → side_of letter ≡ Some side → place ≤ 2147483647 → IsName name → symbol_line (letter ∷ symbol_words place name) ≡ Ok (record { side = side; place = place; name = name })
unfolding symbol_line
symbol_line-words side letter place name is small named =
    let at = space_at (decimal place) name (decimal_digits place small) in
    let front : before_first is_space (symbol_words place name) ≡ decimal place = ap (λ (k : ℕ). take k (symbol_words place name)) at ∙ take_at (decimal place) (32 ∷ name) (length (decimal place)) refl in
    let cut : drop (length (decimal place) + 1) (symbol_words place name) ≡ name = ap (drop (length (decimal place) + 1)) (sym (append_assoc (decimal place) (32 ∷ []) name)) ∙ drop_at (decimal place ++ 32 ∷ []) name (length (decimal place) + 1) (length-append (decimal place) (32 ∷ [])) in
    let behind : after_first is_space (symbol_words place name) ≡ name = ap (λ (k : ℕ). drop (k + 1) (symbol_words place name)) at ∙ cut in
    ap (λ (o : Option Side). symbol_by o (number_of (before_first is_space (symbol_words place name))) (after_first is_space (symbol_words place name))) is
    ∙ ap (λ (t : List ℕ). symbol_by (Some side) (number_of t) (after_first is_space (symbol_words place name))) front
    ∙ ap (λ (o : Option ℕ). symbol_by (Some side) o (after_first is_space (symbol_words place name))) (number_of-decimal place small)
    ∙ ap (symbol_by (Some side) (Some place)) behind
    ∙ ap (λ (b : Bool). cond b (Ok (record { side = side; place = place; name = name })) (Err fault.Symbol)) (is_name-of name named)

line_text : (letter place : ℕ) (name : List ℕ) → 32 ≤ letter → place ≤ 2147483647 → IsName name → AreText (letter ∷ symbol_words place name)
line_text letter place name low small named = (low, text-append (decimal place) (32 ∷ name) (text-decimal place small) (lit≤ tt, (printable name named.printable).1))

symbol_text-line : (letter place : ℕ) (name rest : List ℕ) → symbol_text letter place (Some name) ++ rest ≡ (letter ∷ symbol_words place name) ++ 10 ∷ rest
symbol_text-line letter place name rest = simp append_assoc

-- ---- one port of a list

slice_get-at : {A : Type 0} (front : List A) (x : A) (behind : List A) → slice_get (front ++ x ∷ behind) (length front) ≡ Some x
slice_get-at [] x behind = refl
slice_get-at (y ∷ front) x behind = slice_get-at front x behind

slice_set-at : {A : Type 0} (front : List A) (x z : A) (behind : List A) → slice_set (front ++ x ∷ behind) (length front) z ≡ front ++ z ∷ behind
slice_set-at [] x z behind = refl
slice_set-at (y ∷ front) x z behind = ap (λ (t : List _). y ∷ t) (slice_set-at front x z behind)

regroup : {A : Type 0} (front : List A) (x : A) (behind : List A) → (front ++ x ∷ []) ++ behind ≡ front ++ x ∷ behind
regroup front x behind = append_assoc front (x ∷ []) behind

has_first : (name : Option (List ℕ)) (names : List (Option (List ℕ))) → HasNames (name ∷ names) → IfSome name IsName × HasNames names
has_first name names all = (all 0 name (omega arith), λ k d low. all (suc k) d (omega arith))

-- the ports of two lists
abbrev pub in_ports : List InputPort → List OutputPort → Ports
in_ports ins outs = record { inputs = ins; outputs = outs }

abbrev pub out_ports : List OutputPort → List InputPort → Ports
out_ports outs ins = record { inputs = ins; outputs = outs }

-- ---- inputs

-- a input without its name
abbrev pub bare_input : (ℕ → ℕ) → InputPort → InputPort
bare_input variable p = record { wire = record { 0 = (2 * variable p.wire.0) / 2 }; name = None }

naming_input : (front behind : List InputPort) (p : InputPort) (name : List ℕ) (others : List OutputPort) → length front ≤ 2147483647 → IsName name → naming_line (in_ports (front ++ record { wire = p.wire; name = None } ∷ behind) others) (105 ∷ symbol_words (length front) name) ≡ Ok (in_ports (front ++ record { wire = p.wire; name = Some name } ∷ behind) others)
unfolding naming_line name_input
naming_input front behind p name others small named =
    rw (symbol_line-words Input 105 (length front) name refl small named, slice_get-at front (record { wire = p.wire; name = None }) behind, slice_set-at front (record { wire = p.wire; name = None }) (record { wire = p.wire; name = Some name }) behind) refl

pub inputs_named : (variable : ℕ → ℕ) (front ps : List InputPort) (others : List OutputPort) (q : Ports) (tail : List ℕ) → HasNames (input_names ps) → length front + length ps ≤ 2147483647 → AreNamed (lines_of tail) (in_ports (front ++ map (written_input variable) ps) others) q → AreNamed (lines_of (symbols_text 105 (length front) (input_names ps) ++ tail)) (in_ports (front ++ map (bare_input variable) ps) others) q
unfolding symbols_text
inputs_named variable front [] others q tail has small are = are
inputs_named variable front (p ∷ ps) others q tail has small are =
    let h = has_first p.name (input_names ps) has in
    let len : length (front ++ written_input variable p ∷ []) ≡ length front + 1 = length-append front (written_input variable p ∷ []) in
    let next = inputs_named variable (front ++ written_input variable p ∷ []) ps others q tail h.1 (omega (arith, len)) (subst (λ (xs : List InputPort). AreNamed (lines_of tail) (in_ports xs others) q) (sym (regroup front (written_input variable p) (map (written_input variable) ps))) are) in
    let here = subst (λ (k : ℕ). AreNamed (lines_of (symbols_text 105 k (input_names ps) ++ tail)) (in_ports ((front ++ written_input variable p ∷ []) ++ map (bare_input variable) ps) others) q) len next in
    let then = subst (λ (xs : List InputPort). AreNamed (lines_of (symbols_text 105 (length front + 1) (input_names ps) ++ tail)) (in_ports xs others) q) (regroup front (written_input variable p) (map (bare_input variable) ps)) here in
    by_name p.name h.0 then
  where
    by_name : (name : Option (List ℕ)) → IfSome name IsName → AreNamed (lines_of (symbols_text 105 (length front + 1) (input_names ps) ++ tail)) (in_ports (front ++ record { wire = record { 0 = (2 * variable p.wire.0) / 2 }; name = name } ∷ map (bare_input variable) ps) others) q → AreNamed (lines_of ((symbol_text 105 (length front) name ++ symbols_text 105 (length front + 1) (input_names ps)) ++ tail)) (in_ports (front ++ bare_input variable p ∷ map (bare_input variable) ps) others) q
    by_name None named then = then
    by_name (Some name) named then =
        let rest : List ℕ = symbols_text 105 (length front + 1) (input_names ps) ++ tail in
        let whole : (symbol_text 105 (length front) (Some name) ++ symbols_text 105 (length front + 1) (input_names ps)) ++ tail ≡ (105 ∷ symbol_words (length front) name) ++ 10 ∷ rest = append_assoc (symbol_text 105 (length front) (Some name)) (symbols_text 105 (length front + 1) (input_names ps)) tail ∙ symbol_text-line 105 (length front) name rest in
        let cut = lines_of-text (105 ∷ symbol_words (length front) name) rest (line_text 105 (length front) name (lit≤ tt) (omega arith) named) in
        let lines : lines_of ((symbol_text 105 (length front) (Some name) ++ symbols_text 105 (length front + 1) (input_names ps)) ++ tail) ≡ (105 ∷ symbol_words (length front) name) ∷ lines_of rest = ap lines_of whole ∙ cut in
        subst (λ (ls : List (List ℕ)). AreNamed ls (in_ports (front ++ bare_input variable p ∷ map (bare_input variable) ps) others) q) (sym lines)
        (inr (refl, in_ports (front ++ record { wire = record { 0 = (2 * variable p.wire.0) / 2 }; name = Some name } ∷ map (bare_input variable) ps) others, naming_input front (map (bare_input variable) ps) (bare_input variable p) name others (omega arith) named, then))

-- ---- outputs

-- a output without its name
abbrev pub bare_output : (ℕ → ℕ) → OutputPort → OutputPort
bare_output variable p = record { source = ref_of (literal_of variable p.source); name = None }

naming_output : (front behind : List OutputPort) (p : OutputPort) (name : List ℕ) (others : List InputPort) → length front ≤ 2147483647 → IsName name → naming_line (out_ports (front ++ record { source = p.source; name = None } ∷ behind) others) (111 ∷ symbol_words (length front) name) ≡ Ok (out_ports (front ++ record { source = p.source; name = Some name } ∷ behind) others)
unfolding naming_line name_output
naming_output front behind p name others small named =
    rw (symbol_line-words Output 111 (length front) name refl small named, slice_get-at front (record { source = p.source; name = None }) behind, slice_set-at front (record { source = p.source; name = None }) (record { source = p.source; name = Some name }) behind) refl

pub outputs_named : (variable : ℕ → ℕ) (front ps : List OutputPort) (others : List InputPort) (q : Ports) (tail : List ℕ) → HasNames (output_names ps) → length front + length ps ≤ 2147483647 → AreNamed (lines_of tail) (out_ports (front ++ map (written_output variable) ps) others) q → AreNamed (lines_of (symbols_text 111 (length front) (output_names ps) ++ tail)) (out_ports (front ++ map (bare_output variable) ps) others) q
unfolding symbols_text
outputs_named variable front [] others q tail has small are = are
outputs_named variable front (p ∷ ps) others q tail has small are =
    let h = has_first p.name (output_names ps) has in
    let len : length (front ++ written_output variable p ∷ []) ≡ length front + 1 = length-append front (written_output variable p ∷ []) in
    let next = outputs_named variable (front ++ written_output variable p ∷ []) ps others q tail h.1 (omega (arith, len)) (subst (λ (xs : List OutputPort). AreNamed (lines_of tail) (out_ports xs others) q) (sym (regroup front (written_output variable p) (map (written_output variable) ps))) are) in
    let here = subst (λ (k : ℕ). AreNamed (lines_of (symbols_text 111 k (output_names ps) ++ tail)) (out_ports ((front ++ written_output variable p ∷ []) ++ map (bare_output variable) ps) others) q) len next in
    let then = subst (λ (xs : List OutputPort). AreNamed (lines_of (symbols_text 111 (length front + 1) (output_names ps) ++ tail)) (out_ports xs others) q) (regroup front (written_output variable p) (map (bare_output variable) ps)) here in
    by_name p.name h.0 then
  where
    by_name : (name : Option (List ℕ)) → IfSome name IsName → AreNamed (lines_of (symbols_text 111 (length front + 1) (output_names ps) ++ tail)) (out_ports (front ++ record { source = ref_of (literal_of variable p.source); name = name } ∷ map (bare_output variable) ps) others) q → AreNamed (lines_of ((symbol_text 111 (length front) name ++ symbols_text 111 (length front + 1) (output_names ps)) ++ tail)) (out_ports (front ++ bare_output variable p ∷ map (bare_output variable) ps) others) q
    by_name None named then = then
    by_name (Some name) named then =
        let rest : List ℕ = symbols_text 111 (length front + 1) (output_names ps) ++ tail in
        let whole : (symbol_text 111 (length front) (Some name) ++ symbols_text 111 (length front + 1) (output_names ps)) ++ tail ≡ (111 ∷ symbol_words (length front) name) ++ 10 ∷ rest = append_assoc (symbol_text 111 (length front) (Some name)) (symbols_text 111 (length front + 1) (output_names ps)) tail ∙ symbol_text-line 111 (length front) name rest in
        let cut = lines_of-text (111 ∷ symbol_words (length front) name) rest (line_text 111 (length front) name (lit≤ tt) (omega arith) named) in
        let lines : lines_of ((symbol_text 111 (length front) (Some name) ++ symbols_text 111 (length front + 1) (output_names ps)) ++ tail) ≡ (111 ∷ symbol_words (length front) name) ∷ lines_of rest = ap lines_of whole ∙ cut in
        subst (λ (ls : List (List ℕ)). AreNamed ls (out_ports (front ++ bare_output variable p ∷ map (bare_output variable) ps) others) q) (sym lines)
        (inr (refl, out_ports (front ++ record { source = ref_of (literal_of variable p.source); name = Some name } ∷ map (bare_output variable) ps) others, naming_output front (map (bare_output variable) ps) (bare_output variable p) name others (omega arith) named, then))
