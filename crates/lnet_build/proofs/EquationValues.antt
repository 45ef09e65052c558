-- The values of the equations of a network that is built.
use Rattle.std.proofs.Common.{◌≡◌, ℕ, suc, ◌+◌, ◌≤◌, ◌==◌, ◌||◌, Bool, true, false, List, [], ◌∷◌, ◌++◌, map, length, slice_get, Option, None, Some, IsSome, All, refl, sym, ap, subst, ◌∙◌, inl, inr, arith, append_assoc}
use Rattle.std.specs.Prelude.{if◌then◌else◌}
use Rattle.std.specs.Option.{unwrap_or}
use Rattle.std.proofs.lemmas.List.{length-map}
use Rattle.std.proofs.lemmas.List.Folds.{list_any-append}
use Rattle.std.proofs.lemmas.Bool.Decides.{eqb_tells}
use Rattle.std.proofs.lemmas.Option.{slice_get_within, get_or_from_slice_get}
use Rattle.lnet_gates.specs.declared.signal.Signal.{Signal}
use Rattle.lnet_gates.specs.declared.gate.Kind.{Kind}
use Rattle.lnet_gates.specs.Gates.{flip}
use Rattle.lnet_gates.specs.Operands.{constant, flipped}
use Rattle.lnet_gates.specs.Lawful.OperandLemmas.{read-flipped}
use Rattle.lnet_model.specs.Networks.{IsLive, live_count}
use Rattle.lnet_model.specs.Along.{nodes_read}
use Rattle.lnet_model.specs.Values.{node_value, signal_value}
use Rattle.lnet_model.specs.Changes.{AreLive}
use Rattle.lnet_model.specs.Dags.{NUMBERS}
use Rattle.lnet_hashed.specs.Strashed.{Placed}
use Rattle.lnet_hashed.proofs.Extensions.{extends-live, extends-signal, value-first}
use Rattle.lnet_hashed.proofs.Places.{first-live}
use Rattle.lnet_edge.specs.declared.circuit.WireRef.{WireRef}
use Rattle.lnet_edge.specs.Circuits.{CircuitValue, EquationValue}
use Rattle.lnet_edge.specs.Wires.{IsCircuit, HasArity, operand_wires}
use Rattle.lnet_edge.specs.Values.{under_rule, input_place, input_or, equation_at, driven, value_of, ref_value}
use Rattle.lnet_edge.specs.Searches.{operands_at}
use Rattle.lnet_edge.proofs.ValueLemmas.{value-equation, value_once}
use Rattle.lnet_rules.specs.Rules.{rule_built, FitsTable}
use Rattle.lnet_rules.proofs.RuleValues.{rule-stands, flip-is}
use Rattle.lnet_order.specs.Orders.{or_place, place_from, is_among}
use Rattle.lnet_order.specs.Sound.{AreDriven, IsBuildOrder}
use Rattle.lnet_order.proofs.PlaceLemmas.{place-found, operands-stand, contains-next}
use Rattle.lnet_build.specs.Built.{Building, known, read_as, with_equation, with_found, with_places}
use Rattle.lnet_build.specs.Signals.{FitsPlace}
use Rattle.lnet_build.proofs.StandLemmas.{places-grows}
use Rattle.lnet_build.proofs.PortValues.{IsSound, some-if}

-- ---- wires that nothing drives

-- a wire that no equation drives has no place
pub driver-none : (i w : ℕ) (es : List EquationValue) → place_from i es w ≡ None → equation_at w es ≡ None
driver-none i w [] e = refl
driver-none i w (f ∷ es) e = elim (eqb_tells f.target w) as (λ _. equation_at w (f ∷ es) ≡ None) [
  | inl p ↦ absurd (some-never (place_from (i + 1) es w) i (sym (ap (λ t. or_place (place_from (i + 1) es w) (if t then Some i else None)) p.0) ∙ e))
  | inr p ↦ ap (λ t. if t then Some f else equation_at w es) p.0 ∙ driver-none (i + 1) w es (none-left (place_from (i + 1) es w) (sym (ap (λ t. or_place (place_from (i + 1) es w) (if t then Some i else None)) p.0) ∙ e))
]
  where
    some-never : (o : Option ℕ) (k : ℕ) → or_place o (Some k) ≡ None → ⊥
    some-never None k e = cc
    some-never (Some j) k e = cc

    none-left : (o : Option ℕ) → or_place o None ≡ None → o ≡ None
    none-left None e = refl
    none-left (Some j) e = absurd cc

-- ---- the state

-- sound, the inputs are known, and so are the equations that are done
pub record IsRaised (c : CircuitValue) (done : List ℕ) (b : Building) : Type 0 where
  pub sound : IsSound c (length c.inputs) b
  pub inputs : (w k : ℕ) → input_place 0 w c.inputs ≡ Some k → IsSome (known b.signals w)
  pub done_known : (k : ℕ) (e : EquationValue) → is_among k done ≡ true → slice_get c.equations k ≡ Some e → IsSome (known b.signals e.target)

none-not : {A : Type 0} (o : Option A) → o ≡ None → IsSome o → ⊥
none-not o e h = let z : false ≡ true = subst IsSome e h in cc

module _ (c : CircuitValue) (circuit : IsCircuit c) where
  -- a wire of which each driver is done, and that is not known, is false
  unknown-false : (done : List ℕ) (b : Building) (w : ℕ) (a : ℕ → Bool) → IsRaised c done b → ((k : ℕ) → place_from 0 c.equations w ≡ Some k → is_among k done ≡ true) → known b.signals w ≡ None → value_of c a w ≡ false
  unknown-false done b w a h driven_done none =
      value_once c a w circuit
      ∙ ap (λ p. input_or p a (driven (ref_value c a) (equation_at w c.equations))) (no-input (input_place 0 w c.inputs) refl)
      ∙ ap (driven (ref_value c a)) (driver-none 0 w c.equations (no-driver (place_from 0 c.equations w) refl))
    where
      no-input : (o : Option ℕ) → input_place 0 w c.inputs ≡ o → input_place 0 w c.inputs ≡ None
      no-input None e = e
      no-input (Some k) e = absurd (none-not (known b.signals w) none (h.inputs w k e))

      no-driver : (o : Option ℕ) → place_from 0 c.equations w ≡ o → place_from 0 c.equations w ≡ None
      no-driver None e = e
      no-driver (Some k) e =
          let d = place-found 0 w k c.equations e in
          let same : d.at ≡ k = (let p = d.place in omega arith) in
          absurd (none-not (known b.signals w) none (subst (λ v. IsSome (known b.signals v)) d.drives (h.done_known k d.equation (driven_done k e) (ap (slice_get c.equations) (sym same) ∙ d.stands))))

  -- a use of a wire of which each driver is done: a live signal of its value
  read-live : (done : List ℕ) (b : Building) (r : WireRef) → IsRaised c done b → IsLive b.network (read_as b.signals r).node.0
  read-live done b r h = go (known b.signals r.wire.0) refl
    where
      go : (o : Option Signal) → known b.signals r.wire.0 ≡ o → IsLive b.network (flipped r.complement (unwrap_or o (constant false))).node.0
      go None e = first-live b.network h.sound.stored.whole
      go (Some s) e = h.sound.live r.wire.0 s e

  pub read-value : (done : List ℕ) (b : Building) (r : WireRef) (a : ℕ → Bool) → IsRaised c done b → ((k : ℕ) → place_from 0 c.equations r.wire.0 ≡ Some k → is_among k done ≡ true) → signal_value b.network a (read_as b.signals r) ≡ ref_value c a r
  read-value done b r a h driven_done =
      read-flipped (node_value b.network a) r.complement (unwrap_or (known b.signals r.wire.0) (constant false))
      ∙ ap (flip r.complement) (go (known b.signals r.wire.0) refl)
      ∙ flip-is r.complement (value_of c a r.wire.0)
    where
      go : (o : Option Signal) → known b.signals r.wire.0 ≡ o → signal_value b.network a (unwrap_or o (constant false)) ≡ value_of c a r.wire.0
      go None e = value-first b.network a h.sound.stored.dag.acyclic h.sound.stored.whole ∙ sym (unknown-false done b r.wire.0 a h driven_done e)
      go (Some s) e = h.sound.valued r.wire.0 s e a

  pub reads-live : (done : List ℕ) (b : Building) (rs : List WireRef) → IsRaised c done b → AreLive b.network (nodes_read (map (read_as b.signals) rs))
  reads-live done b [] h m i = absurd i
  reads-live done b (r ∷ rs) h m (inl e) = subst (IsLive b.network) (sym e) (read-live done b r h)
  reads-live done b (r ∷ rs) h m (inr i) = reads-live done b rs h m i

  pub reads-value : (done : List ℕ) (b : Building) (rs : List WireRef) (a : ℕ → Bool) → IsRaised c done b → AreDriven c.equations done (map (λ (r : WireRef). r.wire.0) rs) → map (signal_value b.network a) (map (read_as b.signals) rs) ≡ map (ref_value c a) rs
  reads-value done b [] a h driven_done = refl
  reads-value done b (r ∷ rs) a h driven_done =
      λ i. read-value done b r a h (driven_done r.wire.0 (0, omega arith, refl)) i
      ∷ reads-value done b rs a h (λ v has. driven_done v (contains-next r.wire.0 v (map (λ (x : WireRef). x.wire.0) rs) has)) i

module _ (c : CircuitValue) (circuit : IsCircuit c) (kind : Kind) where
  -- an equation after those of its operands
  equation-raised : (done : List ℕ) (b : Building) (k : ℕ) (e : EquationValue) → IsRaised c done b → slice_get c.equations k ≡ Some e → AreDriven c.equations done (operands_at c.equations k) → FitsTable e.rule → live_count (with_equation kind b e).network ≤ NUMBERS → IsRaised c (done ++ k ∷ []) (with_equation kind b e)
  equation-raised done b k e h stands driven_done word few =
      let ss = map (read_as b.signals) e.operands in
      let low = slice_get_within c.equations k e stands in
      let is = get_or_from_slice_get c.equations k e e stands in
      let arity : HasArity e.rule (length ss) = subst (HasArity e.rule) (sym (length-map e.operands (read_as b.signals))) (subst (λ (x : EquationValue). HasArity x.rule (length x.operands)) is (circuit.arities k e low)) in
      let ready : AreDriven c.equations done (operand_wires e) = subst (AreDriven c.equations done) (operands-stand c.equations k e stands) driven_done in
      let p : Placed = rule_built kind b.network e.rule ss in
      let built = rule-stands kind b.network e.rule ss arity word h.sound.stored (reads-live c circuit done b e.operands h) few in
      record {
        sound = record {
          stored = built.stored;
          outputs = built.extends.outputs ∙ h.sound.outputs;
          inputs = ap (λ (ns : List ℕ). length ns) built.extends.inputs ∙ h.sound.inputs;
          live = λ w s found. elim (eqb_tells e.target w) as (λ _. IsLive p.network s.node.0) [
            | inl q ↦ subst (λ (x : Signal). IsLive p.network x.node.0) (new-signal w s q.0 found) built.live
            | inr q ↦ extends-live b.network p.network built.extends s.node.0 (h.sound.live w s (old-signal w s q.0 found))
          ];
          valued = λ w s found a. elim (eqb_tells e.target w) as (λ _. signal_value p.network a s ≡ value_of c a w) [
            | inl q ↦
                sym (ap (signal_value p.network a) (new-signal w s q.0 found))
                ∙ built.valued a
                ∙ ap (under_rule e.rule) (reads-value c circuit done b e.operands a h ready)
                ∙ sym (value-equation c a e circuit (k, low, is))
                ∙ ap (value_of c a) q.1
            | inr q ↦ extends-signal b.network p.network built.extends a s (h.sound.live w s (old-signal w s q.0 found)) ∙ h.sound.valued w s (old-signal w s q.0 found) a
          ];
        };
        inputs = λ w j found. some-if (e.target == w) p.signal (known b.signals w) (h.inputs w j found);
        done_known = λ j f there at. known-now j f at there;
      }
    where
      signal : Signal
      signal = (rule_built kind b.network e.rule (map (read_as b.signals) e.operands)).signal

      new-signal : (w : ℕ) (s : Signal) → (e.target == w) ≡ true → known (with_equation kind b e).signals w ≡ Some s → signal ≡ s
      new-signal w s q found = let same : Some signal ≡ Some s = sym (ap (λ t. if t then Some signal else known b.signals w) q) ∙ found in cc

      old-signal : (w : ℕ) (s : Signal) → (e.target == w) ≡ false → known (with_equation kind b e).signals w ≡ Some s → known b.signals w ≡ Some s
      old-signal w s q found = sym (ap (λ t. if t then Some signal else known b.signals w) q) ∙ found

      known-now : (j : ℕ) (f : EquationValue) → slice_get c.equations j ≡ Some f → is_among j (done ++ k ∷ []) ≡ true → IsSome (known (with_equation kind b e).signals f.target)
      known-now j f at there = elim (eqb_tells j k) as (λ _. IsSome (known (with_equation kind b e).signals f.target)) [
        | inl q ↦
            let same : Some e ≡ Some f = sym stands ∙ ap (slice_get c.equations) (sym q.1) ∙ at in
            let is : e ≡ f = cc in
            subst (λ (x : EquationValue). IsSome (known (with_equation kind b e).signals x.target)) is (subst (λ t. IsSome (if t then Some signal else known b.signals e.target)) (sym (own e.target)) refl)
        | inr q ↦ some-if (e.target == f.target) signal (known b.signals f.target) (h.done_known j f (among-old j q.0 there) at)
      ]
        where
          own : (t : ℕ) → (t == t) ≡ true
          own t = elim (eqb_tells t t) as (λ _. (t == t) ≡ true) [ inl p ↦ p.0 | inr p ↦ absurd (p.1 refl) ]

          or-false : (x : Bool) → (x || (false || false)) ≡ true → x ≡ true
          or-false true e = refl
          or-false false e = e

          among-old : (j : ℕ) → (j == k) ≡ false → is_among j (done ++ k ∷ []) ≡ true → is_among j done ≡ true
          among-old j ne there = or-false (is_among j done) (sym (list_any-append (λ i. j == i) done (k ∷ []) ∙ ap (λ t. is_among j done || (t || false)) ne) ∙ there)

  found-raised : (done : List ℕ) (b : Building) (k : ℕ) (o : Option EquationValue) → slice_get c.equations k ≡ o → IsRaised c done b → AreDriven c.equations done (operands_at c.equations k) → FitsPlace c.equations k → live_count (with_found kind b o).network ≤ NUMBERS → IsRaised c (done ++ k ∷ []) (with_found kind b o)
  found-raised done b k (Some e) stands h driven_done word few = equation-raised done b k e h stands driven_done (word e stands) few
  found-raised done b k None stands h driven_done word few = record {
    sound = h.sound;
    inputs = h.inputs;
    done_known = λ j f there at. elim (eqb_tells j k) as (λ _. IsSome (known b.signals f.target)) [
      | inl q ↦ absurd (let none : None ≡ Some f = sym stands ∙ ap (slice_get c.equations) (sym q.1) ∙ at in cc)
      | inr q ↦ h.done_known j f (among-old j q.0 there) at
    ];
  }
    where
      or-false : (x : Bool) → (x || (false || false)) ≡ true → x ≡ true
      or-false true e = refl
      or-false false e = e

      among-old : (j : ℕ) → (j == k) ≡ false → is_among j (done ++ k ∷ []) ≡ true → is_among j done ≡ true
      among-old j ne there = or-false (is_among j done) (sym (list_any-append (λ i. j == i) done (k ∷ []) ∙ ap (λ t. is_among j done || (t || false)) ne) ∙ there)

  -- the equations at the places of an order of building
  pub places-raised : (ks done : List ℕ) (b : Building) → IsRaised c done b → IsBuildOrder c.equations done ks → All (FitsPlace c.equations) ks → live_count (with_places kind c.equations b ks).network ≤ NUMBERS → IsRaised c (done ++ ks) (with_places kind c.equations b ks)
  unfolding with_places
  places-raised [] done b h order words few = subst (λ ds. IsRaised c ds b) (sym (nil done)) h
    where
      nil : (xs : List ℕ) → xs ++ [] ≡ xs
      nil [] = refl
      nil (x ∷ xs) = ap (λ ys. x ∷ ys) (nil xs)
  places-raised (k ∷ ks) done b h order words few =
      let more = places-grows kind c.equations (with_found kind b (slice_get c.equations k)) ks in
      let once = found-raised done b k (slice_get c.equations k) refl h order.0 (words 0 k (omega arith)) (omega arith) in
      subst (λ ds. IsRaised c ds (with_places kind c.equations (with_found kind b (slice_get c.equations k)) ks)) (append_assoc done (k ∷ []) ks)
      (places-raised ks (done ++ k ∷ []) (with_found kind b (slice_get c.equations k)) once order.1 (λ j d low. words (suc j) d (omega arith)) few)
