-- The names in a written text are names.
use Rattle.std.proofs.Common.{◌≡◌, ℕ, zero, suc, ◌+◌, Bool, true, false, cond, eqb, List, [], ◌∷◌, length, map, Option, Some, None, refl, arith}
use Rattle.std.specs.Prelude.{not, ◌&&◌, nat_lt, slice_get, slice_index, unwrap_or, ◌==◌}
use Rattle.std.specs.List.{list_all, AllByRecursion}
use Rattle.std.specs.Option.{IfSome}
use Rattle.std.proofs.lemmas.Bool.Decides.{nat_tests}
use Rattle.lnet_edge.specs.declared.circuit.InputPort.{InputPort}
use Rattle.lnet_edge.specs.declared.circuit.OutputPort.{OutputPort}
use Rattle.lnet_edge.specs.declared.circuit.WireRef.{WireRef}
use Rattle.lnet_edge.specs.Circuits.{CircuitValue}
use Rattle.lnet_edge.specs.Names.{IsName}
use Rattle.lnet_edge.specs.Values.{input_place}
use Rattle.lnet_wires.specs.Naming.{is_seen, with_name}
use Rattle.lnet_naming.specs.Settling.{is_text_byte, is_constant, is_made, is_plain, made_name, settle_by, settle, settle_all, input_labels, output_labels}
use Rattle.lnet_edge.specs.Shown.{input_names, output_names}
use Rattle.lnet_nodes.specs.Nodes.{name_at, label_of, node_name}
use Rattle.lnet_bench.specs.Statements.{is_name_byte, is_name}
use Rattle.lnet_benchwriter.specs.Nodes.{constant_name, use_name}
use Rattle.lnet_benchwriter.specs.Texts.{shown_name}
use Rattle.lnet_benchtext.specs.Written.{HasNames}
use Rattle.lnet_benchtext.proofs.Cutting.{both_true, true_both, all_weaker}
use Rattle.lnet_benchtext.proofs.Decimals.{made_name-is}

name_byte : (b : ℕ) → is_text_byte b ≡ true → is_name_byte b ≡ true
name_byte b e = grind (arith, nat_tests)

pub plain_bytes : (name : List ℕ) → is_plain name ≡ true → list_all is_text_byte name ≡ true
plain_bytes name plain =
    let first = both_true (list_all is_text_byte name && not (slice_index name 0 == 46) && not (is_constant name)) (not (is_made name)) plain in
    let second = both_true (list_all is_text_byte name && not (slice_index name 0 == 46)) (not (is_constant name)) first.0 in
    (both_true (list_all is_text_byte name) (not (slice_index name 0 == 46)) second.0).0

pub some_of : (name : List ℕ) → IsName name → nat_lt 0 (length name) ≡ true
some_of name is = let h = is.some in grind (arith, nat_tests)

plain_name : (name : List ℕ) → IsName name → is_plain name ≡ true → is_name name ≡ true
plain_name name is plain = true_both (nat_lt 0 (length name)) (list_all is_name_byte name) (some_of name is) (all_weaker is_text_byte is_name_byte name name_byte (plain_bytes name plain))

-- a test that made names and kept names pass
pub record Suits (letter : ℕ) (p : List ℕ → Bool) : Type 0 where
  pub made : (number : ℕ) → p (made_name letter number) ≡ true
  pub kept : (name : List ℕ) → IsName name → is_plain name ≡ true → p name ≡ true

settled : (p : List ℕ → Bool) (made name : List ℕ) (b : Bool) (kept : List (List ℕ)) → p made ≡ true → p name ≡ true → p (settle_by made name (b, kept)).0 ≡ true
settled p made name true kept other is = is
settled p made name false kept other is = other

settle-suits : (p : List ℕ → Bool) (letter place : ℕ) (kept : List (List ℕ)) (name : Option (List ℕ)) → Suits letter p → IfSome name IsName → p (settle letter place kept name).0 ≡ true
settle-suits p letter place kept None suits ok = suits.made place
settle-suits p letter place kept (Some name) suits ok =
    elim (is_plain name) as (λ b. is_plain name ≡ b → p (settle_by (made_name letter place) name (cond b (not (is_seen kept name), with_name kept name) (false, kept))).0 ≡ true) [
      | true ↦ λ t. settled p (made_name letter place) name (not (is_seen kept name)) (with_name kept name) (suits.made place) (suits.kept name ok t)
      | false ↦ λ t. suits.made place
    ] refl

settle_all-suits : (p : List ℕ → Bool) (letter place : ℕ) (kept : List (List ℕ)) (names : List (Option (List ℕ))) → Suits letter p → AllByRecursion (λ name. IfSome name IsName) names → list_all p (settle_all letter place kept names).0 ≡ true
settle_all-suits p letter place kept [] suits all = refl
settle_all-suits p letter place kept (name ∷ names) suits all =
    true_both (p (settle letter place kept name).0) (list_all p (settle_all letter (place + 1) (settle letter place kept name).1 names).0) (settle-suits p letter place kept name suits all.0) (settle_all-suits p letter (place + 1) (settle letter place kept name).1 names suits all.1)

names_of_inputs : (ports : List InputPort) → AllByRecursion (λ (p : InputPort). IfSome p.name IsName) ports → AllByRecursion (λ name. IfSome name IsName) (input_names ports)
names_of_inputs [] all = tt
names_of_inputs (p ∷ ps) all = (all.0, names_of_inputs ps all.1)

names_of_outputs : (ports : List OutputPort) → AllByRecursion (λ (p : OutputPort). IfSome p.name IsName) ports → AllByRecursion (λ name. IfSome name IsName) (output_names ports)
names_of_outputs [] all = tt
names_of_outputs (p ∷ ps) all = (all.0, names_of_outputs ps all.1)

pub input_labels-suit : (p : List ℕ → Bool) (c : CircuitValue) → Suits 105 p → HasNames c → list_all p (input_labels c.inputs) ≡ true
input_labels-suit p c suits has = settle_all-suits p 105 0 [] (input_names c.inputs) suits (names_of_inputs c.inputs has.inputs)

pub output_labels-suit : (p : List ℕ → Bool) (c : CircuitValue) → Suits 111 p → HasNames c → list_all p (output_labels c.inputs c.outputs) ≡ true
output_labels-suit p c suits has = settle_all-suits p 111 0 (settle_all 105 0 [] (input_names c.inputs)).1 (output_names c.outputs) suits (names_of_outputs c.outputs has.outputs)

pub input_labels-names : (c : CircuitValue) → HasNames c → list_all is_name (input_labels c.inputs) ≡ true
input_labels-names c has = input_labels-suit is_name c (record { made = λ n. made_name-is 105 n refl; kept = plain_name }) has

pub output_labels-names : (c : CircuitValue) → HasNames c → list_all is_name (output_labels c.inputs c.outputs) ≡ true
output_labels-names c has = output_labels-suit is_name c (record { made = λ n. made_name-is 111 n refl; kept = plain_name }) has

-- ---- nodes

-- each node has a name
abbrev pub NamesNodes : (ℕ → Option (List ℕ)) → Type 0
NamesNodes label = (n : ℕ) → is_name (node_name label n) ≡ true

got_name : (p : List ℕ → Bool) (names : List (List ℕ)) (k : ℕ) (other : List ℕ) → list_all p names ≡ true → p other ≡ true → p (unwrap_or (slice_get names k) other) ≡ true
got_name p [] k other all is = is
got_name p (x ∷ xs) zero other all is = (both_true (p x) (list_all p xs) all).0
got_name p (x ∷ xs) (suc k) other all is = got_name p xs k other (both_true (p x) (list_all p xs) all).1 is

named_at : (p : List ℕ → Bool) (names : List (List ℕ)) (place : Option ℕ) (other : List ℕ) → list_all p names ≡ true → p other ≡ true → p (unwrap_or (name_at names place) other) ≡ true
named_at p names None other all is = is
named_at p names (Some k) other all is = got_name p names k other all is

-- a test that the inputs' names and the made ones pass
pub label_of-suit : (p : List ℕ → Bool) (c : CircuitValue) → Suits 105 p → ((n : ℕ) → p (made_name 110 n) ≡ true) → HasNames c → (n : ℕ) → p (node_name (label_of c) n) ≡ true
label_of-suit p c suits made has n = named_at p (input_labels c.inputs) (input_place 0 n c.inputs) (made_name 110 n) (input_labels-suit p c suits has) (made n)

pub label_of-names : (c : CircuitValue) → HasNames c → NamesNodes (label_of c)
label_of-names c has = label_of-suit is_name c (record { made = λ n. made_name-is 105 n refl; kept = plain_name }) (λ n. made_name-is 110 n refl) has

constant_name-is : (value : Bool) → is_name (constant_name value) ≡ true
constant_name-is true = refl
constant_name-is false = refl

pub use_name-is : (label : ℕ → Option (List ℕ)) (r : WireRef) → NamesNodes label → is_name (use_name label r) ≡ true
use_name-is label r named = by (eqb r.wire.0 0) r.complement where
  by : (constant complement : Bool) → is_name (cond constant (constant_name r.complement) (cond complement (made_name 99 r.wire.0) (node_name label r.wire.0))) ≡ true
  by true complement = constant_name-is r.complement
  by false true = made_name-is 99 r.wire.0 refl
  by false false = named r.wire.0

pub use_name-all : (label : ℕ → Option (List ℕ)) (rs : List WireRef) → NamesNodes label → list_all is_name (map (use_name label) rs) ≡ true
use_name-all label [] named = refl
use_name-all label (r ∷ rs) named = true_both (is_name (use_name label r)) (list_all is_name (map (use_name label) rs)) (use_name-is label r named) (use_name-all label rs named)

pub node_name-all : (label : ℕ → Option (List ℕ)) (rs : List WireRef) → NamesNodes label → list_all is_name (map (λ (v : WireRef). node_name label v.wire.0) rs) ≡ true
node_name-all label [] named = refl
node_name-all label (r ∷ rs) named = true_both (is_name (node_name label r.wire.0)) (list_all is_name (map (λ (v : WireRef). node_name label v.wire.0) rs)) (named r.wire.0) (node_name-all label rs named)

pub shown_name-is : (label : ℕ → Option (List ℕ)) (r : WireRef) → NamesNodes label → is_name (shown_name label r) ≡ true
shown_name-is label r named = by (eqb r.wire.0 0) where
  by : (constant : Bool) → is_name (cond constant (constant_name r.complement) (node_name label r.wire.0)) ≡ true
  by true = constant_name-is r.complement
  by false = named r.wire.0
