-- Statements one after the other give the circuit in which each name has its place among all the names.
use Rattle.std.proofs.Common.{◌≡◌, ℕ, ◌+◌, Bool, true, false, cond, List, [], ◌∷◌, ◌++◌, Some, refl, sym, ap, subst, ◌∙◌, append_assoc}
use Rattle.std.specs.Prelude.{not, ◌||◌, map}
use Rattle.std.specs.List.{list_any, position_or_len}
use Rattle.std.specs.Str.{bytes_eq}
use Rattle.std.proofs.lemmas.List.{append-nil}
use Rattle.std.proofs.lemmas.Slice.Eq.{bytes_eq-Decides}
use Rattle.lnet_edge.specs.declared.circuit.InputPort.{InputPort}
use Rattle.lnet_edge.specs.declared.circuit.OutputPort.{OutputPort}
use Rattle.lnet_edge.specs.declared.circuit.WireRef.{WireRef}
use Rattle.lnet_edge.specs.Covers.{CoverValue}
use Rattle.lnet_edge.specs.Circuits.{EquationValue, CircuitValue}
use Rattle.lnet_wires.specs.Naming.{is_seen, with_name, wire_of}
use Rattle.lnet_wires.proofs.WireLaws.{stays, sees}
use Rattle.lnet_blif.specs.Statements.{RowValue, StatementValue, Model, Inputs, Outputs, Names, Row, End}
use Rattle.lnet_blif.specs.Numbering.{with_names, see, see_all, use_of, input_of, output_of, rows_behind, cells_of, cover_of, cover_equation, inputs_by, outputs_by, equations_by, numbered}
use Rattle.lnet_blif.specs.Listing.{Listed, Standing, AtFirst, AtOutside, AtInside, AtBehind, State, row_added, with_row, add_input, add_inputs, add_output, add_outputs, uses_of, closed, commanded, add, add_all, circuit_in}
use Rattle.lnet_blif.specs.Reading.{start}

-- ---- names stay

-- each name that was seen is seen later, and keeps its wire
pub record Extends (names later : List (List ℕ)) : Type 0 where
  pub seen : (x : List ℕ) → is_seen names x ≡ true → is_seen later x ≡ true
  pub wire : (x : List ℕ) → is_seen names x ≡ true → wire_of later x ≡ wire_of names x

same_names : (names : List (List ℕ)) → Extends names names
same_names names = record { seen = λ x h. h; wire = λ x h. refl }

then_more : (a b c : List (List ℕ)) → Extends a b → Extends b c → Extends a c
then_more a b c p q = record { seen = λ x h. q.seen x (p.seen x h); wire = λ x h. q.wire x (p.seen x h) ∙ p.wire x h }

any-more : (p : List ℕ → Bool) (ns ms : List (List ℕ)) → list_any p ns ≡ true → list_any p (ns ++ ms) ≡ true
any-more p [] ms h = absurd cc
any-more p (n ∷ ns) ms h =
    elim (p n) as (λ b. (b || list_any p ns) ≡ true → (b || list_any p (ns ++ ms)) ≡ true) [ true ↦ λ _. refl | false ↦ λ g. any-more p ns ms g ] h

still_seen : (names : List (List ℕ)) (name x : List ℕ) → is_seen names x ≡ true → is_seen (with_name names name) x ≡ true
still_seen names name x h =
    elim (is_seen names name) as (λ b. is_seen (cond b names (names ++ name ∷ [])) x ≡ true) [ true ↦ h | false ↦ any-more (bytes_eq x) names (name ∷ []) h ]

name_more : (names : List (List ℕ)) (name : List ℕ) → Extends names (with_name names name)
name_more names name = record { seen = still_seen names name; wire = λ x h. stays names x name h }

names_more : (names xs : List (List ℕ)) → Extends names (with_names names xs)
names_more names [] = same_names names
names_more names (x ∷ xs) = then_more names (with_name names x) (with_names (with_name names x) xs) (name_more names x) (names_more (with_name names x) xs)

see_more : (names : List (List ℕ)) (s : StatementValue) → Extends names (see names s)
see_more names Model = same_names names
see_more names (Inputs xs) = names_more names xs
see_more names (Outputs xs) = names_more names xs
see_more names (Names operands target) = then_more names (with_names names operands) (with_name (with_names names operands) target) (names_more names operands) (name_more (with_names names operands) target)
see_more names (Row row) = same_names names
see_more names End = same_names names

see_all_more : (names : List (List ℕ)) (ss : List StatementValue) → Extends names (see_all names ss)
see_all_more names [] = same_names names
see_all_more names (s ∷ ss) = then_more names (see names s) (see_all (see names s) ss) (see_more names s) (see_all_more (see names s) ss)

-- ---- wires are those of the last names

place-new : (p : List ℕ → Bool) (ns : List (List ℕ)) (x : List ℕ) → p x ≡ true → position_or_len p (ns ++ x ∷ []) ≡ position_or_len p ns
place-new p [] x h = rw h refl
place-new p (n ∷ ns) x h =
    elim (p n) as (λ b. cond (not b) (1 + position_or_len p (ns ++ x ∷ [])) 0 ≡ cond (not b) (1 + position_or_len p ns) 0) [ true ↦ refl | false ↦ ap (λ (k : ℕ). 1 + k) (place-new p ns x h) ]

wire-new : (names : List (List ℕ)) (x : List ℕ) → wire_of (with_name names x) x ≡ wire_of names x
wire-new names x =
    elim (is_seen names x) as (λ b. wire_of (cond b names (names ++ x ∷ [])) x ≡ wire_of names x) [ true ↦ refl | false ↦ ap (λ (k : ℕ). k + 1) (place-new (bytes_eq x) names x ((bytes_eq-Decides x x).1 refl)) ]

wire_last : (names last : List (List ℕ)) (x : List ℕ) → Extends (with_name names x) last → wire_of names x ≡ wire_of last x
wire_last names last x more = sym (wire-new names x) ∙ sym (more.wire x (sees names x))

abbrev wired : ℕ → WireRef
wired n = record { wire = record { 0 = n }; complement = false }

-- the names of the first, once the others are seen too
rest_more : (names last : List (List ℕ)) (x : List ℕ) (xs : List (List ℕ)) → Extends (with_names (with_name names x) xs) last → Extends (with_name names x) last
rest_more names last x xs more = then_more (with_name names x) (with_names (with_name names x) xs) last (names_more (with_name names x) xs) more

uses_last : (names last xs : List (List ℕ)) → Extends (with_names names xs) last → uses_of names xs ≡ map (use_of last) xs
uses_last names last [] more = refl
uses_last names last (x ∷ xs) more =
    let one = ap wired (wire_last names last x (rest_more names last x xs more)) in
    rw (one, uses_last (with_name names x) last xs more) refl

-- ---- ports

abbrev port_at : List ℕ → ℕ → InputPort
port_at name w = record { wire = record { 0 = w }; name = Some name }

abbrev shown_at : List ℕ → ℕ → OutputPort
shown_at name w = record { source = wired w; name = Some name }

abbrev listed : List (List ℕ) → List InputPort → List OutputPort → List EquationValue → Listed
listed names inputs outputs equations = record { names = names; inputs = inputs; outputs = outputs; equations = equations }

inputs_last : (last : List (List ℕ)) (l : Listed) (xs : List (List ℕ)) → Extends (with_names l.names xs) last → add_inputs l xs ≡ listed (with_names l.names xs) (l.inputs ++ map (input_of last) xs) l.outputs l.equations
inputs_last last l [] more = ap (λ (ps : List InputPort). listed l.names ps l.outputs l.equations) (sym (append-nil l.inputs))
inputs_last last l (x ∷ xs) more =
    let port = ap (port_at x) (wire_last l.names last x (rest_more l.names last x xs more)) in
    inputs_last last (add_input l x) xs more
    ∙ ap (λ (ps : List InputPort). listed (with_names (with_name l.names x) xs) ps l.outputs l.equations)
    (append_assoc l.inputs (input_of l.names x ∷ []) (map (input_of last) xs) ∙ ap (λ (p : InputPort). l.inputs ++ p ∷ map (input_of last) xs) port)

outputs_last : (last : List (List ℕ)) (l : Listed) (xs : List (List ℕ)) → Extends (with_names l.names xs) last → add_outputs l xs ≡ listed (with_names l.names xs) l.inputs (l.outputs ++ map (output_of last) xs) l.equations
outputs_last last l [] more = ap (λ (ps : List OutputPort). listed l.names l.inputs ps l.equations) (sym (append-nil l.outputs))
outputs_last last l (x ∷ xs) more =
    let port = ap (shown_at x) (wire_last l.names last x (rest_more l.names last x xs more)) in
    outputs_last last (add_output l x) xs more
    ∙ ap (λ (ps : List OutputPort). listed (with_names (with_name l.names x) xs) l.inputs ps l.equations)
    (append_assoc l.outputs (output_of l.names x ∷ []) (map (output_of last) xs) ∙ ap (λ (p : OutputPort). l.outputs ++ p ∷ map (output_of last) xs) port)

-- ---- covers

with_rows : CoverValue → List RowValue → CoverValue
with_rows cover [] = cover
with_rows cover (row ∷ rows) = with_rows (row_added cover row) rows

more_rows : (value : Bool) (r : List ℕ) (rs : List (List ℕ)) (rows : List RowValue) → with_rows (record { value = value; rows = r ∷ rs }) rows ≡ record { value = value; rows = (r ∷ rs) ++ cells_of rows }
unfolding with_rows
more_rows value r rs [] = ap (λ (xs : List (List ℕ)). record { value = value; rows = r ∷ xs }) (sym (append-nil rs))
more_rows value r rs (row ∷ rows) = more_rows value r (rs ++ row.cells ∷ []) rows ∙ ap (λ (xs : List (List ℕ)). record { value = value; rows = r ∷ xs }) (append_assoc rs (row.cells ∷ []) (cells_of rows))

all_rows : (rows : List RowValue) → with_rows (record { value = true; rows = [] }) rows ≡ cover_of rows
unfolding with_rows
all_rows [] = refl
all_rows (row ∷ rows) = more_rows row.value row.cells [] rows

-- the equation of the cover that goes on, once it has these rows too
pending : Standing → List RowValue → List EquationValue
pending AtFirst rows = []
pending AtOutside rows = []
pending (AtInside t) rows = cover_equation t.target (with_rows t.cover rows) t.operands ∷ []
pending AtBehind rows = []

pending_row : (p : Standing) (row : RowValue) (rows : List RowValue) → pending (with_row p row) rows ≡ pending p (row ∷ rows)
unfolding pending with_rows
pending_row AtFirst row rows = refl
pending_row AtOutside row rows = refl
pending_row (AtInside t) row rows = refl
pending_row AtBehind row rows = refl

closed_is : (l : Listed) (p : Standing) → closed l p ≡ listed l.names l.inputs l.outputs (l.equations ++ pending p [])
unfolding pending with_rows
closed_is l AtFirst = ap (listed l.names l.inputs l.outputs) (sym (append-nil l.equations))
closed_is l AtOutside = ap (listed l.names l.inputs l.outputs) (sym (append-nil l.equations))
closed_is l (AtInside t) = refl
closed_is l AtBehind = ap (listed l.names l.inputs l.outputs) (sym (append-nil l.equations))

-- ---- the lists

abbrev circuit : List InputPort → List OutputPort → List EquationValue → CircuitValue
circuit inputs outputs equations = record { inputs = inputs; outputs = outputs; equations = equations }

-- lists before the circuit of later statements
abbrev before : Listed → CircuitValue → CircuitValue
before l c = circuit (l.inputs ++ c.inputs) (l.outputs ++ c.outputs) (l.equations ++ c.equations)

-- the same, where a cover may go on
abbrev behind : List (List ℕ) → State → List StatementValue → CircuitValue
behind last s ss = circuit (s.lists.inputs ++ inputs_by last ss) (s.lists.outputs ++ outputs_by last ss) (s.lists.equations ++ (pending s.place (rows_behind ss) ++ equations_by last ss))

abbrev whole : List (List ℕ) → Listed → StatementValue → List StatementValue → Type 0
whole last l s ss = behind last (commanded l s) ss ≡ before l (numbered last (s ∷ ss))

model_step : (last : List (List ℕ)) (l : Listed) (ss : List StatementValue) → whole last l Model ss
unfolding pending
model_step last l ss = refl

end_step : (last : List (List ℕ)) (l : Listed) (ss : List StatementValue) → whole last l End ss
unfolding pending
end_step last l ss = refl

inputs_step : (last : List (List ℕ)) (l : Listed) (xs : List (List ℕ)) (ss : List StatementValue) → Extends (with_names l.names xs) last → whole last l (Inputs xs) ss
unfolding pending
inputs_step last l xs ss more =
    ap (λ (m : Listed). circuit (m.inputs ++ inputs_by last ss) (m.outputs ++ outputs_by last ss) (m.equations ++ equations_by last ss)) (inputs_last last l xs more)
    ∙ ap (λ (ps : List InputPort). circuit ps (l.outputs ++ outputs_by last ss) (l.equations ++ equations_by last ss)) (append_assoc l.inputs (map (input_of last) xs) (inputs_by last ss))

outputs_step : (last : List (List ℕ)) (l : Listed) (xs : List (List ℕ)) (ss : List StatementValue) → Extends (with_names l.names xs) last → whole last l (Outputs xs) ss
unfolding pending
outputs_step last l xs ss more =
    ap (λ (m : Listed). circuit (m.inputs ++ inputs_by last ss) (m.outputs ++ outputs_by last ss) (m.equations ++ equations_by last ss)) (outputs_last last l xs more)
    ∙ ap (λ (ps : List OutputPort). circuit (l.inputs ++ inputs_by last ss) ps (l.equations ++ equations_by last ss)) (append_assoc l.outputs (map (output_of last) xs) (outputs_by last ss))

names_step : (last : List (List ℕ)) (l : Listed) (operands : List (List ℕ)) (target : List ℕ) (ss : List StatementValue) → Extends (with_name (with_names l.names operands) target) last → whole last l (Names operands target) ss
unfolding pending
names_step last l operands target ss more =
    let first = then_more (with_names l.names operands) (with_name (with_names l.names operands) target) last (name_more (with_names l.names operands) target) more in
    rw (all_rows (rows_behind ss), wire_last (with_names l.names operands) last target more, uses_last l.names last operands first) refl

-- a command, at a place where a cover may go on
command_step : (last : List (List ℕ)) (l : Listed) (p : Standing) (s : StatementValue) (ss : List StatementValue) → whole last (closed l p) s ss
    → behind last (commanded (closed l p) s) ss ≡ circuit (l.inputs ++ inputs_by last (s ∷ ss)) (l.outputs ++ outputs_by last (s ∷ ss)) (l.equations ++ (pending p [] ++ equations_by last (s ∷ ss)))
command_step last l p s ss h =
    h ∙ ap (λ (m : Listed). before m (numbered last (s ∷ ss))) (closed_is l p)
    ∙ ap (circuit (l.inputs ++ inputs_by last (s ∷ ss)) (l.outputs ++ outputs_by last (s ∷ ss))) (append_assoc l.equations (pending p []) (equations_by last (s ∷ ss)))

closed_names : (l : Listed) (p : Standing) → (closed l p).names ≡ l.names
closed_names l p = ap (λ (m : Listed). m.names) (closed_is l p)

later_closed : (l : Listed) (p : Standing) (seen : List (List ℕ) → List (List ℕ)) (last : List (List ℕ)) → Extends (seen l.names) last → Extends (seen (closed l p).names) last
later_closed l p seen last more = subst (λ (ns : List (List ℕ)). Extends (seen ns) last) (sym (closed_names l p)) more

-- one statement and those behind it
step : (last : List (List ℕ)) (s : State) (t : StatementValue) (ts : List StatementValue) → Extends (see s.lists.names t) last → behind last (add s t) ts ≡ behind last s (t ∷ ts)
step last s Model ts more = command_step last s.lists s.place Model ts (model_step last (closed s.lists s.place) ts)
step last s (Inputs xs) ts more = command_step last s.lists s.place (Inputs xs) ts (inputs_step last (closed s.lists s.place) xs ts (later_closed s.lists s.place (λ ns. with_names ns xs) last more))
step last s (Outputs xs) ts more = command_step last s.lists s.place (Outputs xs) ts (outputs_step last (closed s.lists s.place) xs ts (later_closed s.lists s.place (λ ns. with_names ns xs) last more))
step last s (Names operands target) ts more = command_step last s.lists s.place (Names operands target) ts (names_step last (closed s.lists s.place) operands target ts (later_closed s.lists s.place (λ ns. with_name (with_names ns operands) target) last more))
step last s (Row row) ts more = ap (λ (es : List EquationValue). circuit (s.lists.inputs ++ inputs_by last ts) (s.lists.outputs ++ outputs_by last ts) (s.lists.equations ++ (es ++ equations_by last ts))) (pending_row s.place row (rows_behind ts))
step last s End ts more = command_step last s.lists s.place End ts (end_step last (closed s.lists s.place) ts)

-- ---- the names of states

inputs_names : (l : Listed) (xs : List (List ℕ)) → (add_inputs l xs).names ≡ with_names l.names xs
inputs_names l [] = refl
inputs_names l (x ∷ xs) = inputs_names (add_input l x) xs

outputs_names : (l : Listed) (xs : List (List ℕ)) → (add_outputs l xs).names ≡ with_names l.names xs
outputs_names l [] = refl
outputs_names l (x ∷ xs) = outputs_names (add_output l x) xs

add_names : (s : State) (t : StatementValue) → (add s t).lists.names ≡ see s.lists.names t
add_names s Model = closed_names s.lists s.place
add_names s (Inputs xs) = inputs_names (closed s.lists s.place) xs ∙ ap (λ (ns : List (List ℕ)). with_names ns xs) (closed_names s.lists s.place)
add_names s (Outputs xs) = outputs_names (closed s.lists s.place) xs ∙ ap (λ (ns : List (List ℕ)). with_names ns xs) (closed_names s.lists s.place)
add_names s (Names operands target) = ap (λ (ns : List (List ℕ)). with_name (with_names ns operands) target) (closed_names s.lists s.place)
add_names s (Row row) = refl
add_names s End = closed_names s.lists s.place

all_behind : (last : List (List ℕ)) (s : State) (ts : List StatementValue) → Extends (see_all s.lists.names ts) last → circuit_in (closed (add_all s ts).lists (add_all s ts).place) ≡ behind last s ts
all_behind last s [] more =
    ap circuit_in (closed_is s.lists s.place)
    ∙ rw (append-nil s.lists.inputs, append-nil s.lists.outputs, append-nil (pending s.place [])) refl
all_behind last s (t ∷ ts) more =
    let later : Extends (see_all (add s t).lists.names ts) last = subst (λ (ns : List (List ℕ)). Extends (see_all ns ts) last) (sym (add_names s t)) more in
    all_behind last (add s t) ts later
    ∙ step last s t ts (then_more (see s.lists.names t) (see_all (see s.lists.names t) ts) last (see_all_more (see s.lists.names t) ts) more)

pub is_numbered : (ss : List StatementValue) → circuit_in (closed (add_all start ss).lists (add_all start ss).place) ≡ numbered (see_all [] ss) ss
unfolding pending
is_numbered ss = all_behind (see_all [] ss) start ss (same_names (see_all [] ss))
