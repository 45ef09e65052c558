-- Symbols and names.
use Rattle.std.proofs.Common.{◌≡◌, ℕ, suc, ◌+◌, ◌<◌, ◌≤◌, Bool, true, false, cond, ltb, leb, List, [], ◌∷◌, length, Option, Some, None, Result, Ok, Err, refl, sym, ap, ◌∙◌, zero, arith, lit<}
use Rattle.std.specs.Prelude.{◌&&◌}
use Rattle.std.specs.List.{list_all, before_first, after_first, position_or_len, AllByRecursion}
use Rattle.std.specs.Str.{IsAscii}
use Rattle.std.proofs.lemmas.List.{drop_all}
use Rattle.std.proofs.lemmas.Bool.Decides.{nat_tests}
use Rattle.lnet_edge.specs.declared.fault.Fault.TheVariants as fault
use Rattle.lnet_edge.specs.declared.fault.Malformed.{Malformed}
use Rattle.lnet_edge.specs.Names.{IsName}
use Rattle.lnet_lines.specs.Lines.{lines_of}
use Rattle.lnet_lines.specs.Numbers.{number_of}
use Rattle.lnet_aiger.specs.declared.symbol.Side.{Side}
use Rattle.lnet_aiger.specs.Header.{is_space}
use Rattle.lnet_edge.specs.declared.fault.ReadError.{ReadError}
use Rattle.lnet_edge.specs.declared.fault.ReadError.TheVariants as errors
use Rattle.lnet_aiger.specs.Chain.{◌>>=◌, at_line, Fails}
use Rattle.lnet_aiger.specs.Symbols.{Ports, is_printable, is_name, side_of, symbol_by, symbol_line, begins_comment, naming_line}
use Rattle.lnet_aiger.specs.Reading.{symbols_at}

-- ---- names

both : (a b : Bool) → (a && b) ≡ true → (a ≡ true) × (b ≡ true)
both true b e = (refl, e)
both false b e = absurd cc

pub is_name-parts : (bytes : List ℕ) → is_name bytes ≡ true → (0 < length bytes) × (list_all is_printable bytes ≡ true)
is_name-parts bytes e = let b = both (ltb 0 (length bytes)) (list_all is_printable bytes) e in (grind (arith, nat_tests), b.1)

printable : (bytes : List ℕ) → list_all is_printable bytes ≡ true → AllByRecursion (λ b. (32 ≤ b) × (b ≤ 126)) bytes
printable [] e = tt
printable (c ∷ cs) e = let b = both (is_printable c) (list_all is_printable cs) e in let r = range c b.0 in (r, printable cs b.1) where
  range : (c : ℕ) → is_printable c ≡ true → (32 ≤ c) × (c ≤ 126)
  range c e = let b = both (leb 32 c) (leb c 126) e in (grind (arith, nat_tests), grind (arith, nat_tests))

pub IsName-by : (bytes : List ℕ) → is_name bytes ≡ true → IsName bytes
IsName-by bytes e = let p = is_name-parts bytes e in record { some = p.0; printable = printable bytes p.1 }

-- ---- a symbol's line

no_name : (s : Option Side) (n : Option ℕ) → symbol_by s n [] ≡ Err fault.Symbol
no_name None n = refl
no_name (Some s) None = refl
no_name (Some s) (Some n) = refl

pub symbol_line-no_space : (letter : ℕ) (text : List ℕ) → position_or_len is_space text ≡ length text → symbol_line (letter ∷ text) ≡ Err fault.Symbol
unfolding symbol_line
symbol_line-no_space letter text e =
    let none : after_first is_space text ≡ [] = drop_all (position_or_len is_space text + 1) text (omega arith) in
    ap (symbol_by (side_of letter) (number_of (before_first is_space text))) none ∙ no_name (side_of letter) (number_of (before_first is_space text))

-- ---- line by line

pub symbols_at-end : (number : ℕ) (rest : List ℕ) (p : Ports) (total : Result Ports Malformed) → lines_of rest ≡ [] → symbols_at number (lines_of rest) p ≡ total → total ≡ Ok p
unfolding symbols_at
symbols_at-end number rest p total none so_far = sym so_far ∙ ap (λ (ls : List (List ℕ)). symbols_at number ls p) none

by_comment : (line : List ℕ) (p : Ports) (other : Result Ports Malformed) (b : Bool) → begins_comment line ≡ b → cond (begins_comment line) (Ok p) other ≡ cond b (Ok p) other
by_comment line p other b e = ap (λ (t : Bool). cond t (Ok p) other) e

pub symbols_at-comment : (number : ℕ) (rest line more : List ℕ) (p : Ports) (total : Result Ports Malformed) → lines_of rest ≡ line ∷ lines_of more → begins_comment line ≡ true → symbols_at number (lines_of rest) p ≡ total → total ≡ Ok p
unfolding symbols_at
symbols_at-comment number rest line more p total first c so_far = sym so_far ∙ ap (λ (ls : List (List ℕ)). symbols_at number ls p) first ∙ by_comment line p _ true c

pub symbols_at-step : (number : ℕ) (rest line more : List ℕ) (p q : Ports) (total : Result Ports Malformed) → lines_of rest ≡ line ∷ lines_of more → begins_comment line ≡ false → at_line number (naming_line p line) ≡ Ok q → symbols_at number (lines_of rest) p ≡ total → symbols_at (number + 1) (lines_of more) q ≡ total
unfolding symbols_at
symbols_at-step number rest line more p q total first c named so_far =
    sym (ap (λ (r : Result Ports Malformed). r >>= λ s. symbols_at (number + 1) (lines_of more) s) named) ∙ sym (by_comment line p _ false c) ∙ sym (ap (λ (ls : List (List ℕ)). symbols_at number ls p) first) ∙ so_far

pub symbols_at-fault : (number : ℕ) (rest line more : List ℕ) (p : Ports) (f : Malformed) (total : Result Ports Malformed) → lines_of rest ≡ line ∷ lines_of more → begins_comment line ≡ false → at_line number (naming_line p line) ≡ Err f → symbols_at number (lines_of rest) p ≡ total → total ≡ Err f
unfolding symbols_at
symbols_at-fault number rest line more p f total first c named so_far =
    sym so_far ∙ ap (λ (ls : List (List ℕ)). symbols_at number ls p) first ∙ by_comment line p _ false c ∙ ap (λ (r : Result Ports Malformed). r >>= λ s. symbols_at (number + 1) (lines_of more) s) named

-- ---- UTF-8

pub IsAscii-by : (bytes : List ℕ) → is_name bytes ≡ true → IsAscii bytes
IsAscii-by bytes e = below bytes (is_name-parts bytes e).1 where
  below : (bs : List ℕ) → list_all is_printable bs ≡ true → IsAscii bs
  below [] e i = lit< tt
  below (c ∷ cs) e zero = let p = printable (c ∷ cs) e in omega arith
  below (c ∷ cs) e (suc i) = below cs (both (is_printable c) (list_all is_printable cs) e).1 i

pub symbols_at-fails : (number : ℕ) (rest line more : List ℕ) (p : Ports) (e : ReadError) (total : Result Ports Malformed) → lines_of rest ≡ line ∷ lines_of more → begins_comment line ≡ false → Fails e (at_line number (naming_line p line)) → symbols_at number (lines_of rest) p ≡ total → Fails e total
symbols_at-fails number rest line more p errors.NoMemory total first c named so_far = tt
symbols_at-fails number rest line more p (errors.Malformed f) total first c named so_far = symbols_at-fault number rest line more p f total first c named so_far
