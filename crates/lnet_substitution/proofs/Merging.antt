-- A cascade begins, and a dirty gate is merged into what its form resolves to.
use Rattle.std.proofs.Common.{◌≡◌, ◌≢◌, ℕ, Bool, true, false, ◌⊎◌, List, [], ◌∷◌, map, refl, sym, ap, subst, ◌∙◌, inl, inr}
use Rattle.lnet_gates.specs.declared.signal.Signal.{Signal}
use Rattle.lnet_gates.specs.declared.gate.Kind.{Kind}
use Rattle.lnet_gates.specs.declared.gate.Op.TheVariants.{And}
use Rattle.lnet_gates.specs.declared.normal.Normal.TheVariants.{Is, Gate}
use Rattle.lnet_gates.specs.Gates.{GateValue, KeyValue, flip}
use Rattle.lnet_gates.specs.Operands.{IsNamedBy}
use Rattle.lnet_gates.specs.Natives.{IsNativeGate}
use Rattle.lnet_gates.specs.NormalForms.{carried}
use Rattle.lnet_gates.specs.NormalLaws.{NamesOnly}
use Rattle.lnet_gates.specs.Forms.{form_of}
use Rattle.lnet_gates.specs.Lawful.KindLaws.{kind_laws}
use Rattle.lnet_model.specs.Networks.{NetworkValue, entry_at, IsLive}
use Rattle.lnet_model.specs.Along.{In, Depends, Reaches, Acyclic, IsWhole, fanin_nodes, nodes_read}
use Rattle.lnet_model.specs.Changes.{GateAt}
use Rattle.lnet_model.proofs.Along.{live_parent}
use Rattle.lnet_hashed.specs.Strashed.{IsStrashed, key_of}
use Rattle.lnet_substitution.specs.Replaced.{signal_of, redirected, replaced}
use Rattle.lnet_substitution.specs.Representatives.{IsLeafAt}
use Rattle.lnet_substitution.specs.Cascades.{ResolvesTo, IsCascading, CanMerge, IsDirtyAfter}
use Rattle.lnet_substitution.proofs.Replaced.{replaced-Acyclic, replaced-outputs, redirected_gate}
use Rattle.lnet_substitution.proofs.Resolving.{giving, redirected-is, redirected-apart, map-moved, map-signal_of, native-again, same-gates, resolves-start, resolves-merge}
use Rattle.lnet_substitution.proofs.OneReplaced.{not_constant, not_input, gate-live, gate-fanin, fanin-gate, parent-gate, gate-apart-zero, reaches-up, leaves-replaced, replaced-gate, gate-after, gate-stays, gate-was, whole-replaced, leaves-twice}

-- a test that isn't true is false
pub is-false : (b : Bool) → (b ≡ true → ⊥) → b ≡ false
is-false true h = absurd (h refl)
is-false false h = refl

pub not-both : (b : Bool) → b ≡ false → b ≡ true → ⊥
not-both b f t = let no : false ≡ true = sym f ∙ t in cc

named : (n : ℕ) (ss : List Signal) → IsNamedBy n ss → In n (nodes_read ss)
named n [] h = h
named n (s ∷ ss) (inl e) = inl e
named n (s ∷ ss) (inr h) = inr (named n ss h)

pub naming : (n : ℕ) (ss : List Signal) → In n (nodes_read ss) → IsNamedBy n ss
naming n [] h = h
naming n (s ∷ ss) (inl e) = inl e
naming n (s ∷ ss) (inr h) = inr (naming n ss h)

named-or-zero : (n : ℕ) (ss : List Signal) → IsNamedBy n ss ⊎ (n ≡ 0) → In n (nodes_read ss) ⊎ (n ≡ 0)
named-or-zero n ss (inl h) = inl (named n ss h)
named-or-zero n ss (inr z) = inr z

module _ (kind : Kind) where
  -- a signal that is the form reads a fanin's node, or the constant
  pub form-signal : (g : GateValue) (s : Signal) → IsNativeGate kind g → form_of kind g ≡ Is s → In s.node.0 (nodes_read g.fanins) ⊎ (s.node.0 ≡ 0)
  form-signal g s native is = named-or-zero s.node.0 g.fanins (subst (NamesOnly g.fanins) is ((kind_laws kind).names g native))

  -- a key of the form reads the fanins' nodes, or the constant
  pub form-key : (g : GateValue) (k : KeyValue) (phase : Bool) (m : ℕ) → IsNativeGate kind g → form_of kind g ≡ Gate k phase → In m (nodes_read k.fanins) → In m (nodes_read g.fanins) ⊎ (m ≡ 0)
  form-key g k phase m native is i = let names : NamesOnly g.fanins (Gate k phase) = subst (NamesOnly g.fanins) is ((kind_laws kind).names g native) in named-or-zero m g.fanins (names m (naming m k.fanins i))

  -- with its fanins redirected a gate is native as it was
  pub native-redirected : (x : ℕ) (t : Signal) (g : GateValue) → IsNativeGate kind g → IsNativeGate kind (redirected_gate x t g)
  native-redirected x t g native = subst (λ (f : Signal → Signal). IsNativeGate kind (record { op = g.op; phase = g.phase; fanins = map f g.fanins })) (sym (redirected-is x t)) (native-again kind (giving x t) g native)

  module _ (C : NetworkValue) (x : ℕ) (t : Signal) (gx : GateValue) (at_x : GateAt C x gx) where
    pub natives-replaced : ((n : ℕ) (g : GateValue) → GateAt C n g → IsNativeGate kind g) → (n : ℕ) (g : GateValue) → GateAt (replaced C x t) n g → IsNativeGate kind g
    natives-replaced native n g at = let r = replaced-gate C x t gx at_x n g at in subst (IsNativeGate kind) r.2 (native-redirected x t r.0 (native n r.0 r.1))

    -- nor does an And get a phase
    pub phases-replaced : ((n : ℕ) (g : GateValue) → GateAt C n g → g.op ≡ And → g.phase ≡ false) → (n : ℕ) (g : GateValue) → GateAt (replaced C x t) n g → g.op ≡ And → g.phase ≡ false
    phases-replaced plain n g at = let r = replaced-gate C x t gx at_x n g at in subst (λ (h : GateValue). h.op ≡ And → h.phase ≡ false) r.2 (plain n r.0 r.1)

  module _ (C : NetworkValue) (acyclic : Acyclic C) (whole : IsWhole C) (x : ℕ) (gx : GateValue) (at_x : GateAt C x gx) (native : IsNativeGate kind gx) where
    -- no walk leads back from a fanin, nor from the constant
    pub no_way_back : (m : ℕ) → In m (nodes_read gx.fanins) ⊎ (m ≡ 0) → Reaches C m x → ⊥
    no_way_back m (inl i) (ns, w, e) = acyclic x m ns (gate-live C x gx at_x, gate-fanin C x m gx at_x i, w) e
    no_way_back m (inr z) ([], w, e) = gate-apart-zero C x gx at_x whole (sym e ∙ z)
    no_way_back m (inr z) (k ∷ ns, w, e) = subst (λ o. In k (fanin_nodes o)) (ap (entry_at C) z ∙ whole.first) w.1

    pub merge-free : (t : Signal) → t.node.0 ≢ x → CanMerge kind C gx t → Depends C t x → ⊥
    merge-free t ne (inl is) d = no_way_back t.node.0 (form-signal gx t native is) d
    merge-free t ne (inr q) ([], w, e) = ne e
    merge-free t ne (inr q) (m ∷ ns, w, e) =
        no_way_back m (form-key gx (key_of q.0) (flip t.complement q.0.phase) m native (q.2 ∙ ap (carried t.complement) q.3) (subst (λ o. In m (fanin_nodes o)) q.1 w.1)) (ns, w.2, e)

  module _ (N : NetworkValue) (o : ℕ) (s : Signal) (go : GateValue) (at_o : GateAt N o go) (acyclic : Acyclic N) (strashed : IsStrashed kind N) (whole : IsWhole N) (free : Depends N s o → ⊥) (live_s : IsLive N s.node.0) where
    s_apart : s.node.0 ≢ o
    s_apart e = free ([], live_s, e)

    parent_reaches : (n : ℕ) → In o (fanin_nodes (entry_at N n)) → Reaches N n o
    parent_reaches n i = (o ∷ [], (live_parent (entry_at N) n o i, i, gate-live N o go at_o), refl)

    -- the first replacement
    pub cascade-begins : (dirty : ℕ → Bool) → ((n : ℕ) → dirty n ≡ true → In o (fanin_nodes (entry_at N n))) → ((n : ℕ) → In o (fanin_nodes (entry_at N n)) → dirty n ≡ true) → IsCascading kind N o s (replaced N o s) signal_of dirty
    cascade-begins dirty down up =
        let was : (n : ℕ) (g : GateValue) → GateAt (replaced N o s) n g → dirty n ≡ false → GateAt N n g = λ n g at c. gate-was N o s go at_o n g at (λ i. not-both (dirty n) c (up n i)) in
        record {
          leaves = leaves-replaced N o s go at_o;
          leaf = λ _ _. refl;
          gate = resolves-start kind (replaced N o s);
          outputs = sym (map-signal_of (replaced N o s).outputs);
          own = λ n g at. (let r = replaced-gate N o s go at_o n g at in (r.3, (r.0, r.1), refl));
          kept = λ n g at none. gate-stays N o s go at_o n g at (λ e. none ([], gate-live N n g at, e)) (λ i. none (parent_reaches n (gate-fanin N n o g at i)));
          late = λ n i none. none (parent_reaches n (down n i));
          native = natives-replaced N o s go at_o strashed.native;
          and_phase = phases-replaced N o s go at_o strashed.and_phase;
          own_form = λ n g at clean. strashed.own_form n g (was n g at clean);
          apart = λ m n g h at bt cm cn e. strashed.apart m n g h (was m g at cm) (was n h bt cn) e;
          acyclic = replaced-Acyclic N o s (gate-live N o go at_o) acyclic free;
          whole = whole-replaced N o s go at_o whole s_apart live_s;
        }

  module _ (N : NetworkValue) (o : ℕ) (s : Signal) (go : GateValue) (at_o : GateAt N o go) (native_N : (n : ℕ) (g : GateValue) → GateAt N n g → IsNativeGate kind g) (C : NetworkValue) (rep : ℕ → Signal) (dirty : ℕ → Bool) (I : IsCascading kind N o s C rep dirty) (x : ℕ) (gx : GateValue) (at_x : GateAt C x gx) (x_dirty : dirty x ≡ true) where
    -- what doesn't depend on o has no late fanin
    early_fanin : (n : ℕ) (g : GateValue) → GateAt N n g → (Reaches N n o → ⊥) → In x (nodes_read g.fanins) → ⊥
    early_fanin n g at none i = I.late x x_dirty (λ d. none (reaches-up N n x o (gate-fanin N n x g at i) d))

    parent_late : (n : ℕ) → In x (fanin_nodes (entry_at C n)) → (Reaches N n o → ⊥) → ⊥
    parent_late n i none =
        let p = parent-gate C n x i in
        let r = (I.own n p.0 p.1).1 in
        early_fanin n r.0 r.1 none (subst (λ (h : GateValue). In x (nodes_read h.fanins)) (same-gates (sym p.1 ∙ I.kept n r.0 r.1 none)) (fanin-gate C n x p.0 p.1 i))

    leaf_apart : (n : ℕ) → IsLeafAt (replaced N o s) n → n ≢ x
    leaf_apart n h e =
        let r = I.own x gx at_x in
        let g : GateValue = redirected_gate o s r.1.0 in
        let at : GateAt (replaced N o s) n g = ap (entry_at (replaced N o s)) e ∙ gate-after N o s go at_o x r.1.0 r.1.1 r.0 in
        elim h as (λ _. ⊥) [ inl c ↦ not_constant g (sym at ∙ c) | inr k ↦ not_input g k.0 (sym at ∙ k.1) ]

    pub cascade-merge : (t : Signal) (later : ℕ → Bool) → t.node.0 ≢ x → IsLive C t.node.0 → CanMerge kind C gx t → IsDirtyAfter C x dirty later → IsCascading kind N o s (replaced C x t) (λ n. redirected x t (rep n)) later
    cascade-merge t later ne live joins after =
        let resolves : ResolvesTo kind C (form_of kind gx) t = elim joins as (λ _. ResolvesTo kind C (form_of kind gx) t) [ inl is ↦ inl is | inr q ↦ inr (q.0, q.1, q.2) ] in
        let clean_before : (n : ℕ) → n ≢ x → later n ≡ false → dirty n ≡ false = λ n ne c. is-false (dirty n) (λ d. not-both (later n) c (after.before n d ne)) in
        let was : (n : ℕ) (g : GateValue) → GateAt (replaced C x t) n g → later n ≡ false → GateAt C n g = λ n g at c. gate-was C x t gx at_x n g at (λ i. not-both (later n) c (after.parents n i)) in
        let x_apart : (n : ℕ) (g : GateValue) → GateAt (replaced C x t) n g → n ≢ x = λ n g at. (replaced-gate C x t gx at_x n g at).3 in
        record {
          leaves = leaves-twice N C (replaced C x t) I.leaves (leaves-replaced C x t gx at_x);
          leaf = λ n h. ap (redirected x t) (I.leaf n h) ∙ redirected-apart x t (signal_of n) (leaf_apart n h);
          gate = λ n g at. resolves-merge kind C x t gx at_x (gate-apart-zero C x gx at_x I.whole) ne I.native resolves rep n g (natives-replaced N o s go at_o native_N n g at) (I.gate n g at);
          outputs = replaced-outputs C x t ∙ ap (map (redirected x t)) I.outputs ∙ sym (map-moved x t rep (replaced N o s).outputs);
          own = λ n g at. (let r = replaced-gate C x t gx at_x n g at in let q = I.own n r.0 r.1 in (q.0, q.1, ap (redirected x t) q.2 ∙ redirected-apart x t (signal_of n) r.3));
          kept = λ n g at none. gate-stays C x t gx at_x n g (I.kept n g at none) (λ e. I.late x x_dirty (subst (λ z. Reaches N z o → ⊥) e none)) (early_fanin n g at none);
          late = λ n i. elim (after.only n i) as (λ _. (Reaches N n o → ⊥) → ⊥) [ inl j ↦ I.late n j | inr j ↦ parent_late n j ];
          native = natives-replaced C x t gx at_x I.native;
          and_phase = phases-replaced C x t gx at_x I.and_phase;
          own_form = λ n g at c. I.own_form n g (was n g at c) (clean_before n (x_apart n g at) c);
          apart = λ m n g h at bt cm cn e. I.apart m n g h (was m g at cm) (was n h bt cn) (clean_before m (x_apart m g at) cm) (clean_before n (x_apart n h bt) cn) e;
          acyclic = replaced-Acyclic C x t (gate-live C x gx at_x) I.acyclic (merge-free C I.acyclic I.whole x gx at_x (I.native x gx at_x) t ne joins);
          whole = whole-replaced C x t gx at_x I.whole ne live;
        }
