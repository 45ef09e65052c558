-- Texts that are written step by step.
use Rattle.std.proofs.Common.{◌≡◌, ℕ, suc, ◌+◌, ◌%◌, ◌/◌, ◌<◌, ◌≤◌, true, false, ltb, List, [], ◌∷◌, ◌++◌, length, take, map, get_or, Option, refl, sym, ap, subst, ◌∙◌, append_assoc, add-zero, arith}
use Rattle.std.specs.Prelude.{unwrap_or, IfSome}
use Rattle.std.proofs.lemmas.List.Elements.{All-push}
use Rattle.lnet_edge.specs.Names.{IsName}
use Rattle.lnet_aiger.specs.Written.{HasNames}
use Rattle.std.proofs.lemmas.Bool.Decides.{nat_tests}
use Rattle.std.proofs.lemmas.List.{append-nil, take_more, length-take-le, length-map, map_push}
use Rattle.lnet_edge.specs.declared.circuit.InputPort.{InputPort}
use Rattle.lnet_edge.specs.declared.circuit.OutputPort.{OutputPort}
use Rattle.lnet_edge.specs.Circuits.{CircuitValue}
use Rattle.lnet_edge.specs.Wires.{driven_wires}
use Rattle.lnet_aiger.specs.Texts.{variable_of, groups_text, symbol_text, symbols_text}
use Rattle.lnet_edge.specs.Shown.{input_names, output_names}
use Rattle.lnet_aiger.specs.Numberings.{Variables, KnowsPlaces, place_in}

-- the map gives each wire its variable
pub place_in-variable_of : (m : Variables) (c : CircuitValue) → KnowsPlaces m (driven_wires c) → place_in m ≡ variable_of c
place_in-variable_of m c knows = λ i w. unwrap_or (knows w i) 0

-- ---- groups

pub groups_text-last : (k n : ℕ) → n < 128 → groups_text (suc k) n ≡ n ∷ []
unfolding groups_text
groups_text-last k n small = let t : ltb n 128 ≡ true = grind (arith, nat_tests) in rw t refl

pub groups_text-more : (k n : ℕ) → 128 ≤ n → groups_text (suc k) n ≡ (128 + n % 128) ∷ groups_text k (n / 128)
unfolding groups_text
groups_text-more k n big = let t : ltb n 128 ≡ false = grind (arith, nat_tests) in rw t refl

pub groups_text-zero : (n : ℕ) → groups_text 0 n ≡ []
unfolding groups_text
groups_text-zero n = refl

-- ---- symbols

pub symbols_text-push : (letter place : ℕ) (names : List (Option (List ℕ))) (name : Option (List ℕ)) → symbols_text letter place (names ++ name ∷ []) ≡ symbols_text letter place names ++ symbol_text letter (place + length names) name
unfolding symbols_text
symbols_text-push letter place [] name = append-nil (symbol_text letter place name) ∙ ap (λ (k : ℕ). symbol_text letter k name) (sym (add-zero place))
symbols_text-push letter place (n ∷ ns) name =
    let k : (place + 1) + length ns ≡ place + suc (length ns) = omega arith in
    ap (λ (t : List ℕ). symbol_text letter place n ++ t) (symbols_text-push letter (place + 1) ns name ∙ ap (λ (j : ℕ). symbols_text letter (place + 1) ns ++ symbol_text letter j name) k)
    ∙ sym (append_assoc (symbol_text letter place n) (symbols_text letter (place + 1) ns) (symbol_text letter (place + suc (length ns)) name))

pub symbols_text-nil : (letter place : ℕ) → symbols_text letter place [] ≡ []
unfolding symbols_text
symbols_text-nil letter place = refl

symbols_by : {A : Type 0} (name_of : A → Option (List ℕ)) (letter : ℕ) (ports : List A) (i : ℕ) (p : A) → i < length ports → p ≡ get_or ports i p → symbols_text letter 0 (map name_of (take (i + 1) ports)) ≡ symbols_text letter 0 (map name_of (take i ports)) ++ symbol_text letter i (name_of p)
symbols_by name_of letter ports i p low is =
    let len : 0 + length (map name_of (take i ports)) ≡ i = omega (arith, length-map (take i ports) name_of, length-take-le i ports) in
    ap (λ (ps : List _). symbols_text letter 0 (map name_of ps)) (take_more ports i p low ∙ ap (λ (q : _). take i ports ++ q ∷ []) (sym is))
    ∙ ap (symbols_text letter 0) (map_push name_of (take i ports) p)
    ∙ symbols_text-push letter 0 (map name_of (take i ports)) (name_of p)
    ∙ ap (λ (k : ℕ). symbols_text letter 0 (map name_of (take i ports)) ++ symbol_text letter k (name_of p)) len

pub input_symbols : (ports : List InputPort) (i : ℕ) (p : InputPort) → i < length ports → p ≡ get_or ports i p → symbols_text 105 0 (input_names (take (i + 1) ports)) ≡ symbols_text 105 0 (input_names (take i ports)) ++ symbol_text 105 i p.name
input_symbols ports i p low is = symbols_by (λ (q : InputPort). q.name) 105 ports i p low is

pub output_symbols : (ports : List OutputPort) (i : ℕ) (p : OutputPort) → i < length ports → p ≡ get_or ports i p → symbols_text 111 0 (output_names (take (i + 1) ports)) ≡ symbols_text 111 0 (output_names (take i ports)) ++ symbol_text 111 i p.name
output_symbols ports i p low is = symbols_by (λ (q : OutputPort). q.name) 111 ports i p low is

-- one text behind another
pub joined : (now old piece start front next : List ℕ) → now ≡ old ++ piece → old ≡ start ++ front → next ≡ front ++ piece → now ≡ start ++ next
joined now old piece start front next a b c = a ∙ ap (λ (t : List ℕ). t ++ piece) b ∙ append_assoc start front piece ∙ ap (λ (t : List ℕ). start ++ t) (sym c)

-- ---- names

names_take : {A : Type 0} (name_of : A → Option (List ℕ)) (ports : List A) (i : ℕ) (p : A) → i < length ports → p ≡ get_or ports i p → IfSome (name_of p) IsName → HasNames (map name_of (take i ports)) → HasNames (map name_of (take (i + 1) ports))
names_take name_of ports i p low is named all =
    let e : map name_of (take (i + 1) ports) ≡ map name_of (take i ports) ++ name_of p ∷ [] = ap (λ (ps : List _). map name_of ps) (take_more ports i p low ∙ ap (λ (q : _). take i ports ++ q ∷ []) (sym is)) ∙ map_push name_of (take i ports) p in
    subst HasNames (sym e) (All-push (λ (n : Option (List ℕ)). IfSome n IsName) (map name_of (take i ports)) (name_of p) all named)

pub input_names_take : (ports : List InputPort) (i : ℕ) (p : InputPort) → i < length ports → p ≡ get_or ports i p → IfSome p.name IsName → HasNames (input_names (take i ports)) → HasNames (input_names (take (i + 1) ports))
input_names_take ports i p low is named all = names_take (λ (q : InputPort). q.name) ports i p low is named all

pub output_names_take : (ports : List OutputPort) (i : ℕ) (p : OutputPort) → i < length ports → p ≡ get_or ports i p → IfSome p.name IsName → HasNames (output_names (take i ports)) → HasNames (output_names (take (i + 1) ports))
output_names_take ports i p low is named all = names_take (λ (q : OutputPort). q.name) ports i p low is named all
