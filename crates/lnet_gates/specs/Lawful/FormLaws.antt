-- The laws of a table of forms without a phase, and how a gate's normal form has them from its table.
use Rattle.std.proofs.Common.{◌≡◌, ℕ, Bool, true, false, List, [], ◌∷◌, map, length, refl, sym, ap, ◌∙◌, arith}
use Rattle.lnet_gates.specs.declared.signal.Signal.{Signal}
use Rattle.lnet_gates.specs.declared.gate.Op.{Op}
use Rattle.lnet_gates.specs.declared.normal.Normal.{Normal}
use Rattle.lnet_gates.specs.declared.normal.Normal.TheVariants.{Is, Gate}
use Rattle.lnet_gates.specs.Gates.{GateValue, KeyValue, flip, operate}
use Rattle.lnet_gates.specs.Operands.{constant, read, moved}
use Rattle.lnet_gates.specs.NormalForms.{carried}
use Rattle.lnet_gates.specs.NormalLaws.{IsGateOf, NormalLaws, NamesOnly, IsNativeForm, form_reading, gate_reading, formed_again, keyed_gate, replaced_in}
use Rattle.lnet_gates.specs.Lawful.OperandLemmas.{flip-flip, flip-comm, flipped-flipped, read-flipped, moved-flipped}

-- a form after a replacement, formed again by its table
abbrev pub formed : (List Signal → Normal) → (ℕ → Signal) → Normal → Normal
formed form place (Is s) = Is (moved place s)
formed form place (Gate k phase) = carried phase (form (map (moved place) k.fanins))

-- what a table of forms keeps
pub record FormLaws (op : Op) (count : ℕ) (form : List Signal → Normal) : Type 0 where
  pub value : (V : ℕ → Bool) (ss : List Signal) → V 0 ≡ false → length ss ≡ count → form_reading V (form ss) ≡ operate op (map (read V) ss)
  pub names : (ss : List Signal) → length ss ≡ count → NamesOnly ss (form ss)
  pub native : (ss : List Signal) → length ss ≡ count → IsNativeForm (IsGateOf op count) (form ss)
  pub agrees : (place : ℕ → Signal) (ss : List Signal) → place 0 ≡ constant false → length ss ≡ count → form (map (moved place) ss) ≡ formed form place (form ss)

-- ---- the phase

pub carried-carried : (c d : Bool) (n : Normal) → carried c (carried d n) ≡ carried (flip c d) n
carried-carried c d (Is s) = ap Is (flipped-flipped c d s)
carried-carried c d (Gate k phase) = ap (Gate k) (sym (flip-flip c d phase))

pub carried-false : (n : Normal) → carried false n ≡ n
carried-false (Is s) = refl
carried-false (Gate k phase) = refl

pub carried-twice : (c : Bool) (n : Normal) → carried c (carried c n) ≡ n
carried-twice true n = carried-carried true true n ∙ carried-false n
carried-twice false n = carried-carried false false n ∙ carried-false n

reading-carried : (V : ℕ → Bool) (c : Bool) (n : Normal) → form_reading V (carried c n) ≡ flip c (form_reading V n)
reading-carried V c (Is s) = read-flipped V c s
reading-carried V c (Gate k phase) = flip-flip c phase (operate k.op (map (read V) k.fanins))

names-carried : (ss : List Signal) (c : Bool) (n : Normal) → NamesOnly ss n → NamesOnly ss (carried c n)
names-carried ss c (Is s) h = h
names-carried ss c (Gate k phase) h = h

native-carried : (op : Op) (count : ℕ) (c : Bool) (n : Normal) → IsNativeForm (IsGateOf op count) n → IsNativeForm (IsGateOf op count) (carried c n)
native-carried op count c (Is s) h = tt
native-carried op count c (Gate k phase) h = record { op_is = h.op_is; count_is = h.count_is }

-- ---- node by node as it is

abbrev pub in_place : ℕ → Signal
in_place n = record { node = record { 0 = n }; complement = false }

pub moved-in_place : (ss : List Signal) → map (moved in_place) ss ≡ ss
moved-in_place [] = refl
moved-in_place (s ∷ ss) = λ i. record { node = s.node; complement = flip-comm s.complement false i } ∷ moved-in_place ss i

-- ---- the laws of gates

module _ (op : Op) (count : ℕ) (form : List Signal → Normal) (laws : FormLaws op count form) where
  abbrev normal : GateValue → Normal
  normal g = carried g.phase (form g.fanins)

  formed-carried : (place : ℕ → Signal) (c : Bool) (n : Normal) → carried c (formed form place n) ≡ formed_again normal place (carried c n)
  formed-carried place c (Is s) = ap Is (sym (moved-flipped place c s))
  formed-carried place c (Gate k phase) = carried-carried c phase (form (map (moved place) k.fanins))

  value : (V : ℕ → Bool) (g : GateValue) → V 0 ≡ false → IsGateOf op count g → form_reading V (normal g) ≡ gate_reading V g
  value V g zero_false of =
      reading-carried V g.phase (form g.fanins)
      ∙ ap (flip g.phase) (laws.value V g.fanins zero_false of.count_is ∙ ap (λ o. operate o (map (read V) g.fanins)) (sym of.op_is))

  agrees : (place : ℕ → Signal) (g : GateValue) → place 0 ≡ constant false → IsGateOf op count g → normal (replaced_in place g) ≡ formed_again normal place (normal g)
  agrees place g kept of = ap (carried g.phase) (laws.agrees place g.fanins kept of.count_is) ∙ formed-carried place g.phase (form g.fanins)

  stable : (g : GateValue) (k : KeyValue) (phase : Bool) → IsGateOf op count g → normal g ≡ Gate k phase → normal (keyed_gate k phase) ≡ Gate k phase
  stable g k phase of is_key =
      ap (λ ss. carried phase (form ss)) (sym (moved-in_place k.fanins))
      ∙ ap (formed_again normal in_place) (sym is_key)
      ∙ sym (agrees in_place g refl of)
      ∙ ap (λ ss. carried g.phase (form ss)) (moved-in_place g.fanins)
      ∙ is_key

  -- a gate's normal form has the laws that its table has
  pub normal_laws : NormalLaws (IsGateOf op count) normal
  normal_laws = record {
    value = value;
    names = λ g of. names-carried g.fanins g.phase (form g.fanins) (laws.names g.fanins of.count_is);
    native = λ g of. native-carried op count g.phase (form g.fanins) (laws.native g.fanins of.count_is);
    stable = stable;
    carries = λ c g. sym (carried-carried c g.phase (form g.fanins));
    agrees = agrees;
  }

-- ---- lists of two and of three

pub two : (P : List Signal → Type 0) → ((a b : Signal) → P (a ∷ b ∷ [])) → (ss : List Signal) → length ss ≡ 2 → P ss
two P p [] h = absurd (omega arith)
two P p (a ∷ []) h = absurd (omega arith)
two P p (a ∷ b ∷ []) h = p a b
two P p (a ∷ b ∷ c ∷ ss) h = absurd (omega arith)

pub three : (P : List Signal → Type 0) → ((a b c : Signal) → P (a ∷ b ∷ c ∷ [])) → (ss : List Signal) → length ss ≡ 3 → P ss
three P p [] h = absurd (omega arith)
three P p (a ∷ []) h = absurd (omega arith)
three P p (a ∷ b ∷ []) h = absurd (omega arith)
three P p (a ∷ b ∷ c ∷ []) h = p a b c
three P p (a ∷ b ∷ c ∷ d ∷ ss) h = absurd (omega arith)
