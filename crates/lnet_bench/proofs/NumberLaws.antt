-- Statements one after the other give the circuit in which each name has its place among all the names.
use Rattle.std.proofs.Common.{◌≡◌, ℕ, ◌+◌, Bool, true, false, cond, List, [], ◌∷◌, ◌++◌, Option, Some, None, refl, sym, ap, subst, ◌∙◌, append_assoc}
use Rattle.std.specs.Prelude.{not, ◌||◌, map}
use Rattle.std.specs.List.{list_any, position_or_len}
use Rattle.std.specs.Str.{bytes_eq}
use Rattle.std.proofs.lemmas.List.{append-nil}
use Rattle.std.proofs.lemmas.Slice.Eq.{bytes_eq-Decides}
use Rattle.lnet_edge.specs.declared.circuit.InputPort.{InputPort}
use Rattle.lnet_edge.specs.declared.circuit.WireRef.{WireRef}
use Rattle.lnet_edge.specs.Circuits.{CircuitValue}
use Rattle.lnet_wires.specs.Naming.{is_seen, with_name, wire_of}
use Rattle.lnet_wires.proofs.WireLaws.{stays, sees}
use Rattle.lnet_bench.specs.declared.wiring.Driven.{Driven}
use Rattle.lnet_bench.specs.Statements.{StatementValue, Input, Output, Gate, Constant}
use Rattle.lnet_bench.specs.Wiring.{constant_by, refer_by, refer, refer_all}
use Rattle.lnet_bench.specs.Listing.{Listed, nothing, input_of, output_of, equation_of, constant_rule, add, add_all, circuit_in}
use Rattle.lnet_bench.specs.Numbering.{see, see_all, use_of, inputs_by, outputs_by, equations_by, numbered}

-- ---- names stay

-- each name that was seen is seen later, and keeps its wire
pub record Extends (names later : List (List ℕ)) : Type 0 where
  pub seen : (x : List ℕ) → is_seen names x ≡ true → is_seen later x ≡ true
  pub wire : (x : List ℕ) → is_seen names x ≡ true → wire_of later x ≡ wire_of names x

same_names : (names : List (List ℕ)) → Extends names names
same_names names = record { seen = λ x h. h; wire = λ x h. refl }

then_more : (a b c : List (List ℕ)) → Extends a b → Extends b c → Extends a c
then_more a b c p q = record { seen = λ x h. q.seen x (p.seen x h); wire = λ x h. q.wire x (p.seen x h) ∙ p.wire x h }

any-more : (p : List ℕ → Bool) (ns ms : List (List ℕ)) → list_any p ns ≡ true → list_any p (ns ++ ms) ≡ true
any-more p [] ms h = absurd cc
any-more p (n ∷ ns) ms h =
    elim (p n) as (λ b. (b || list_any p ns) ≡ true → (b || list_any p (ns ++ ms)) ≡ true) [ true ↦ λ _. refl | false ↦ λ g. any-more p ns ms g ] h

still_seen : (names : List (List ℕ)) (name x : List ℕ) → is_seen names x ≡ true → is_seen (with_name names name) x ≡ true
still_seen names name x h =
    elim (is_seen names name) as (λ b. is_seen (cond b names (names ++ name ∷ [])) x ≡ true) [ true ↦ h | false ↦ any-more (bytes_eq x) names (name ∷ []) h ]

name_more : (names : List (List ℕ)) (name : List ℕ) → Extends names (with_name names name)
name_more names name = record { seen = still_seen names name; wire = λ x h. stays names x name h }

refer_more : (driven : Driven) (names : List (List ℕ)) (name : List ℕ) → Extends names (refer driven names name).1
refer_more driven names name = by (constant_by driven name) where
  by : (o : Option Bool) → Extends names (refer_by o names name).1
  by (Some value) = same_names names
  by None = name_more names name

refer_all_more : (driven : Driven) (names xs : List (List ℕ)) → Extends names (refer_all driven names xs).1
refer_all_more driven names [] = same_names names
refer_all_more driven names (x ∷ xs) = then_more names (refer driven names x).1 (refer_all driven (refer driven names x).1 xs).1 (refer_more driven names x) (refer_all_more driven (refer driven names x).1 xs)

see_more : (driven : Driven) (names : List (List ℕ)) (s : StatementValue) → Extends names (see driven names s)
see_more driven names (Input name) = name_more names name
see_more driven names (Output name) = refer_more driven names name
see_more driven names (Gate target rule operands) = then_more names (with_name names target) (refer_all driven (with_name names target) operands).1 (name_more names target) (refer_all_more driven (with_name names target) operands)
see_more driven names (Constant target value) = name_more names target

see_all_more : (driven : Driven) (names : List (List ℕ)) (ss : List StatementValue) → Extends names (see_all driven names ss)
see_all_more driven names [] = same_names names
see_all_more driven names (s ∷ ss) = then_more names (see driven names s) (see_all driven (see driven names s) ss) (see_more driven names s) (see_all_more driven (see driven names s) ss)

-- ---- wires are those of the last names

place-new : (p : List ℕ → Bool) (ns : List (List ℕ)) (x : List ℕ) → p x ≡ true → position_or_len p (ns ++ x ∷ []) ≡ position_or_len p ns
place-new p [] x h = rw h refl
place-new p (n ∷ ns) x h =
    elim (p n) as (λ b. cond (not b) (1 + position_or_len p (ns ++ x ∷ [])) 0 ≡ cond (not b) (1 + position_or_len p ns) 0) [ true ↦ refl | false ↦ ap (λ (k : ℕ). 1 + k) (place-new p ns x h) ]

wire-new : (names : List (List ℕ)) (x : List ℕ) → wire_of (with_name names x) x ≡ wire_of names x
wire-new names x =
    elim (is_seen names x) as (λ b. wire_of (cond b names (names ++ x ∷ [])) x ≡ wire_of names x) [ true ↦ refl | false ↦ ap (λ (k : ℕ). k + 1) (place-new (bytes_eq x) names x ((bytes_eq-Decides x x).1 refl)) ]

wire_last : (names last : List (List ℕ)) (x : List ℕ) → Extends (with_name names x) last → wire_of names x ≡ wire_of last x
wire_last names last x more = sym (wire-new names x) ∙ sym (more.wire x (sees names x))

abbrev wired : ℕ → WireRef
wired n = record { wire = record { 0 = n }; complement = false }

use_last : (driven : Driven) (names last : List (List ℕ)) (x : List ℕ) → Extends (refer driven names x).1 last → (refer driven names x).0 ≡ use_of driven last x
use_last driven names last x = by (constant_by driven x) where
  by : (o : Option Bool) → Extends (refer_by o names x).1 last → (refer_by o names x).0 ≡ (refer_by o last x).0
  by (Some value) more = refl
  by None more = ap wired (wire_last names last x more)

uses_last : (driven : Driven) (names last xs : List (List ℕ)) → Extends (refer_all driven names xs).1 last → (refer_all driven names xs).0 ≡ map (use_of driven last) xs
uses_last driven names last [] more = refl
uses_last driven names last (x ∷ xs) more =
    let one = use_last driven names last x (then_more (refer driven names x).1 (refer_all driven (refer driven names x).1 xs).1 last (refer_all_more driven (refer driven names x).1 xs) more) in
    rw (one, uses_last driven (refer driven names x).1 last xs more) refl

-- ---- the lists

abbrev behind : Listed → CircuitValue → CircuitValue
behind l c = record { inputs = l.inputs ++ c.inputs; outputs = l.outputs ++ c.outputs; equations = l.equations ++ c.equations }

abbrev port_at : List ℕ → ℕ → InputPort
port_at name w = record { wire = record { 0 = w }; name = Some name }

-- one statement and those behind it
step : (driven : Driven) (last : List (List ℕ)) (l : Listed) (s : StatementValue) (ss : List StatementValue) → Extends (see driven l.names s) last → behind (add driven l s) (numbered driven last ss) ≡ behind l (numbered driven last (s ∷ ss))
step driven last l (Input name) ss more =
    let port = ap (port_at name) (wire_last l.names last name more) in
    rw (append_assoc l.inputs (input_of l.names name ∷ []) (inputs_by last ss), port) refl
step driven last l (Output name) ss more =
    rw (append_assoc l.outputs (output_of (refer driven l.names name).0 name ∷ []) (outputs_by driven last ss), use_last driven l.names last name more) refl
step driven last l (Gate target rule operands) ss more =
    let first = then_more (with_name l.names target) (refer_all driven (with_name l.names target) operands).1 last (refer_all_more driven (with_name l.names target) operands) more in
    rw (append_assoc l.equations (equation_of (wire_of l.names target) rule (refer_all driven (with_name l.names target) operands).0 ∷ []) (equations_by driven last ss), wire_last l.names last target first, uses_last driven (with_name l.names target) last operands more) refl
step driven last l (Constant target value) ss more =
    rw (append_assoc l.equations (equation_of (wire_of l.names target) (constant_rule value) [] ∷ []) (equations_by driven last ss), wire_last l.names last target more) refl

add_names : (driven : Driven) (l : Listed) (s : StatementValue) → (add driven l s).names ≡ see driven l.names s
add_names driven l (Input name) = refl
add_names driven l (Output name) = refl
add_names driven l (Gate target rule operands) = refl
add_names driven l (Constant target value) = refl

all_behind : (driven : Driven) (last : List (List ℕ)) (l : Listed) (ss : List StatementValue) → Extends (see_all driven l.names ss) last → circuit_in (add_all driven l ss) ≡ behind l (numbered driven last ss)
all_behind driven last l [] more = rw (append-nil l.inputs, append-nil l.outputs, append-nil l.equations) refl
all_behind driven last l (s ∷ ss) more =
    let names = add_names driven l s in
    let later : Extends (see_all driven (add driven l s).names ss) last = subst (λ (ns : List (List ℕ)). Extends (see_all driven ns ss) last) (sym names) more in
    all_behind driven last (add driven l s) ss later
    ∙ step driven last l s ss (then_more (see driven l.names s) (see_all driven (see driven l.names s) ss) last (see_all_more driven (see driven l.names s) ss) more)

pub is_numbered : (driven : Driven) (ss : List StatementValue) → circuit_in (add_all driven nothing ss) ≡ numbered driven (see_all driven [] ss) ss
is_numbered driven ss = all_behind driven (see_all driven [] ss) nothing ss (same_names (see_all driven [] ss))
