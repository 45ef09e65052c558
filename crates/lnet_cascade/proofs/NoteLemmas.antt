-- Notes stay true and complete as the network changes.
use Rattle.std.proofs.Common.{◌≡◌, ◌≢◌, ℕ, ◌<◌, Bool, true, false, ◌⊎◌, List, [], ◌∷◌, map, Option, None, Some, cond, refl, sym, ap, subst, ◌∙◌, inl, inr, arith}
use Rattle.std.proofs.lemmas.Bool.Decides.{eqb_tells}
use Rattle.lnet_gates.specs.declared.signal.Signal.{Signal}
use Rattle.lnet_gates.specs.Gates.{GateValue}
use Rattle.lnet_gates.specs.Operands.{flipped}
use Rattle.lnet_model.specs.Networks.{Entry, IsGate, NetworkValue, entry_at, fanins_of}
use Rattle.lnet_model.specs.Along.{In, fanin_nodes, nodes_read}
use Rattle.lnet_model.specs.Changes.{AreLive, GateAt, IsGateAt, with_entry, without}
use Rattle.lnet_model.specs.Fanouts.{references}
use Rattle.lnet_model.specs.Dags.{IsStored}
use Rattle.lnet_model.proofs.Changes.{with_entry-here, with_entry-apart, without-here, without-apart}
use Rattle.lnet_model.proofs.References.{names_in, references-changed, references-outputs}
use Rattle.lnet_hashed.specs.declared.notes.Notes.{Notes}
use Rattle.lnet_substitution.specs.Replaced.{redirected}
use Rattle.lnet_substitution.proofs.Merging.{not-both}
use Rattle.lnet_substitution.proofs.OneReplaced.{gate-fanin}
use Rattle.lnet_substitution.proofs.Replaced.{in_redirected, nothing-some}
use Rattle.lnet_cascade.specs.Marks.{marks_of, MarkedMore}
use Rattle.lnet_cascade.specs.Noting.{IsNoted, IsUnread, NotesFollow, NotesGoOn}
use Rattle.lnet_cascade.specs.Redirections.{outputs_redirected}
use Rattle.lnet_cascade.proofs.Named.{some-output, named-referenced}

-- ---- marks

pub marks-same : (P : ℕ → Type 0) (bs : List Bool) → ((n : ℕ) → P n → ⊥) → MarkedMore P bs bs
marks-same P bs none = record { len = refl; only = λ n h. inl h; before = λ n h. h; those = λ n p. absurd (none n p) }

pub marks-twice : (P Q R : ℕ → Type 0) (old mid new : List Bool) → MarkedMore P old mid → MarkedMore Q mid new →
    ((n : ℕ) → R n → P n ⊎ Q n) → ((n : ℕ) → P n → R n) → ((n : ℕ) → Q n → R n) → MarkedMore R old new
marks-twice P Q R old mid new a b apart left right = record {
  len = b.len ∙ a.len;
  only = λ n h. elim (b.only n h) as (λ _. (marks_of old n ≡ true) ⊎ R n) [
    | inl k ↦ elim (a.only n k) as (λ _. (marks_of old n ≡ true) ⊎ R n) [ inl o ↦ inl o | inr p ↦ inr (left n p) ]
    | inr q ↦ inr (right n q)
  ];
  before = λ n h. b.before n (a.before n h);
  those = λ n r. elim (apart n r) as (λ _. marks_of new n ≡ true) [ inl p ↦ b.before n (a.those n p) | inr q ↦ b.those n q ];
}

-- ---- a step

-- the notes before a step, with what is noted of the numbers that may gain a first reference, and after it with those that may
-- lose their last one
step-goes_on :
    (C D : NetworkValue) (old new : Notes) (gains losses : ℕ → Type 0) →
    ((n : ℕ) → IsGateAt D n → IsGateAt C n) →
    ((n : ℕ) → references C n ≡ 0 → 0 < references D n → gains n) →
    ((n : ℕ) → 0 < references C n → references D n ≡ 0 → losses n) →
    ((n : ℕ) → losses n → 0 < references C n) →
    MarkedMore (λ n. gains n × IsUnread C old.lost n) old.fresh new.fresh →
    MarkedMore (λ n. losses n × IsUnread D new.fresh n) old.lost new.lost → NotesGoOn C old D new
step-goes_on C D old new gains losses gates gained lost had put_fresh put_lost N noted n gate = record {
  had_none = had_none;
  had_one = λ h. elim (put_lost.only n h) as (λ _. 0 < references N n) [
    | inl k ↦ I.had_one k
    | inr p ↦ elim (eqb_tells (references N n) 0) as (λ _. 0 < references N n) [
      | inl z ↦ absurd (not-both (marks_of new.fresh n) p.1.1 (put_fresh.before n (I.gain (had n p.0) z.1)))
      | inr z ↦ (let some = z.1 in omega arith)
    ]
  ];
  gain = λ some none. elim (eqb_tells (references C n) 0) as (λ _. marks_of new.fresh n ≡ true) [
    | inl z ↦ elim (marks_of old.lost n) as (λ b. marks_of old.lost n ≡ b → marks_of new.fresh n ≡ true) [
      | true ↦ λ e. absurd (let one = I.had_one e in omega arith)
      | false ↦ λ e. put_fresh.those n (gained n z.1 some, (z.1, e))
    ] refl
    | inr z ↦ (let read = z.1 in put_fresh.before n (I.gain (omega arith) none))
  ];
  loss = λ none some. elim (eqb_tells (references C n) 0) as (λ _. marks_of new.lost n ≡ true) [
    | inl z ↦ put_lost.before n (I.loss z.1 some)
    | inr z ↦ (let read = z.1 in
        elim (marks_of new.fresh n) as (λ b. marks_of new.fresh n ≡ b → marks_of new.lost n ≡ true) [
          | true ↦ λ e. absurd (let zero = had_none e in omega arith)
          | false ↦ λ e. put_lost.those n (lost n (omega arith) none, (none, e))
        ] refl)
  ];
}
  where
    I : IsNoted (references N n) (references C n) (marks_of old.fresh n) (marks_of old.lost n)
    I = noted n (gates n gate)

    had_none : marks_of new.fresh n ≡ true → references N n ≡ 0
    had_none h = elim (put_fresh.only n h) as (λ _. references N n ≡ 0) [
      | inl k ↦ I.had_none k
      | inr p ↦ elim (eqb_tells (references N n) 0) as (λ _. references N n ≡ 0) [
        | inl z ↦ z.1
        | inr z ↦ absurd (let some = z.1 in not-both (marks_of old.lost n) p.1.1 (I.loss p.1.0 (omega arith)))
      ]
    ]

pub notes-step :
    (C D : NetworkValue) (old new : Notes) (gains losses : ℕ → Type 0) →
    ((n : ℕ) → IsGateAt D n → IsGateAt C n) →
    ((n : ℕ) → references C n ≡ 0 → 0 < references D n → gains n) →
    ((n : ℕ) → 0 < references C n → references D n ≡ 0 → losses n) →
    ((n : ℕ) → losses n → 0 < references C n) →
    MarkedMore (λ n. gains n × IsUnread C old.lost n) old.fresh new.fresh →
    MarkedMore (λ n. losses n × IsUnread D new.fresh n) old.lost new.lost → NotesFollow C old D new
notes-step C D old new gains losses gates gained lost had put_fresh put_lost = record {
  goes_on = step-goes_on C D old new gains losses gates gained lost had put_fresh put_lost;
  fresh_long = put_fresh.len;
  lost_long = put_lost.len;
}

-- ---- a gate is set

names-read : (n : ℕ) (o : Option Entry) → 0 < names_in n o → In n (fanin_nodes o)
names-read n None h = absurd (let none : names_in n None ≡ 0 = refl in omega arith)
names-read n (Some e) h = some-output n (fanins_of e) h

-- what gains a first reference is named by what stands at k then, and what loses its last one by what stood there
gains-by : (C D : NetworkValue) (k : ℕ) → ((q : ℕ) → q ≢ k → entry_at D q ≡ entry_at C q) → D.outputs ≡ C.outputs →
    (n : ℕ) → references C n ≡ 0 → 0 < references D n → In n (fanin_nodes (entry_at D k))
gains-by C D k apart outputs n none some = let both = references-changed D C k apart outputs n in names-read n (entry_at D k) (omega arith)

loses-by : (C D : NetworkValue) (k : ℕ) → ((q : ℕ) → q ≢ k → entry_at D q ≡ entry_at C q) → D.outputs ≡ C.outputs →
    (n : ℕ) → 0 < references C n → references D n ≡ 0 → In n (fanin_nodes (entry_at C k))
loses-by C D k apart outputs n some none = let both = references-changed D C k apart outputs n in names-read n (entry_at C k) (omega arith)

reads-gate : (C : NetworkValue) (k n : ℕ) (g : GateValue) → GateAt C k g → In n (fanin_nodes (entry_at C k)) → In n (nodes_read g.fanins)
reads-gate C k n g at i = subst (λ o. In n (fanin_nodes o)) at i

fanin-referenced : (C : NetworkValue) (k n : ℕ) (g : GateValue) → GateAt C k g → In n (nodes_read g.fanins) → 0 < references C n
fanin-referenced C k n g at i = named-referenced C n (inl (k, gate-fanin C k n g at i))

pub fanin-live : (C : NetworkValue) (k : ℕ) (g : GateValue) → IsStored C → GateAt C k g → AreLive C (nodes_read g.fanins)
fanin-live C k g stored at n i = stored.whole.closed k n (gate-fanin C k n g at i)

module _ (C : NetworkValue) (k : ℕ) (g : GateValue) (at : GateAt C k g) where
  module _ (h : GateValue) where
    abbrev D : NetworkValue
    D = with_entry C k (IsGate h)

    set-outputs : (with_entry C k (IsGate h)).outputs ≡ C.outputs
    unfolding with_entry
    set-outputs = refl

    set-apart : (q : ℕ) → q ≢ k → entry_at (with_entry C k (IsGate h)) q ≡ entry_at C q
    set-apart q ne = with_entry-apart C k (IsGate h) q ne

    set-gates : (n : ℕ) → IsGateAt (with_entry C k (IsGate h)) n → IsGateAt C n
    set-gates n gate = elim (eqb_tells n k) as (λ _. IsGateAt C n) [
      | inl p ↦ (g, ap (entry_at C) p.1 ∙ at)
      | inr p ↦ (gate.0, sym (set-apart n p.1) ∙ gate.1)
    ]

    pub notes-set : (old new : Notes) → MarkedMore (λ n. In n (nodes_read h.fanins) × IsUnread C old.lost n) old.fresh new.fresh →
        MarkedMore (λ n. In n (nodes_read g.fanins) × IsUnread (with_entry C k (IsGate h)) new.fresh n) old.lost new.lost → NotesFollow C old (with_entry C k (IsGate h)) new
    notes-set old new fresh lost = notes-step C D old new (λ n. In n (nodes_read h.fanins)) (λ n. In n (nodes_read g.fanins)) set-gates
        (λ n none some. reads-gate D k n h (with_entry-here C k (IsGate h)) (gains-by C D k set-apart set-outputs n none some))
        (λ n some none. reads-gate C k n g at (loses-by C D k set-apart set-outputs n some none))
        (λ n i. fanin-referenced C k n g at i) fresh lost

  -- ---- a gate is removed

  gone-outputs : (without C k).outputs ≡ C.outputs
  unfolding without
  gone-outputs = refl

  gone-gates : (n : ℕ) → IsGateAt (without C k) n → IsGateAt C n
  gone-gates n gate = (gate.0, sym (without-apart C k n (λ e. nothing-some (IsGate gate.0) (sym (ap (entry_at (without C k)) e ∙ without-here C k) ∙ gate.1))) ∙ gate.1)

  pub notes-removed : (old new : Notes) → new.fresh ≡ old.fresh →
      MarkedMore (λ n. In n (nodes_read g.fanins) × IsUnread (without C k) new.fresh n) old.lost new.lost → NotesFollow C old (without C k) new
  notes-removed old new fresh lost = notes-step C (without C k) old new (λ n. ⊥) (λ n. In n (nodes_read g.fanins)) gone-gates
      (λ n none some. absurd (subst (λ o. In n (fanin_nodes o)) (without-here C k) (gains-by C (without C k) k (λ q ne. without-apart C k q ne) gone-outputs n none some)))
      (λ n some none. reads-gate C k n g at (loses-by C (without C k) k (λ q ne. without-apart C k q ne) gone-outputs n some none))
      (λ n i. fanin-referenced C k n g at i)
      (subst (MarkedMore (λ n. ⊥ × IsUnread C old.lost n) old.fresh) (sym fresh) (marks-same (λ n. ⊥ × IsUnread C old.lost n) old.fresh (λ n p. p.0)))
      lost

-- ---- outputs are redirected

kept-in : (x n : ℕ) (t : Signal) (ss : List Signal) → n ≢ x → In n (nodes_read ss) → In n (nodes_read (map (redirected x t) ss))
kept-in x n t [] ne i = i
kept-in x n t (s ∷ ss) ne (inr j) = inr (kept-in x n t ss ne j)
kept-in x n t (s ∷ ss) ne (inl e) = elim (eqb_tells s.node.0 x) as (λ _. In n (nodes_read (map (redirected x t) (s ∷ ss)))) [
  | inl p ↦ absurd (ne (e ∙ p.1))
  | inr p ↦ inl (e ∙ ap (λ b. (cond b (flipped s.complement t) s).node.0) (sym p.0))
]

module _ (C : NetworkValue) (x : ℕ) (t : Signal) where
  out-nodes : (outputs_redirected C x t).nodes ≡ C.nodes
  unfolding outputs_redirected
  out-nodes = refl

  out-outputs : (outputs_redirected C x t).outputs ≡ map (redirected x t) C.outputs
  unfolding outputs_redirected
  out-outputs = refl

  out-gates : (n : ℕ) → IsGateAt (outputs_redirected C x t) n → IsGateAt C n
  unfolding entry_at outputs_redirected
  out-gates n gate = gate

  read-named : (n : ℕ) → In n (nodes_read C.outputs) → 0 < references C n
  read-named n i = named-referenced C n (inr i)

  out-gains : (n : ℕ) → references C n ≡ 0 → 0 < references (outputs_redirected C x t) n → n ≡ t.node.0
  out-gains n none some =
      let both = references-outputs (outputs_redirected C x t) C out-nodes n in
      let i = subst (λ (os : List Signal). In n (nodes_read os)) out-outputs (some-output n (outputs_redirected C x t).outputs (omega arith)) in
      elim (in_redirected x n t C.outputs i) as (λ _. n ≡ t.node.0) [
        | inl j ↦ absurd (let read = read-named n j in omega arith)
        | inr p ↦ p.0
      ]

  out-losses : (n : ℕ) → 0 < references C n → references (outputs_redirected C x t) n ≡ 0 → n ≡ x
  out-losses n some none =
      let both = references-outputs (outputs_redirected C x t) C out-nodes n in
      let i = some-output n C.outputs (omega arith) in
      elim (eqb_tells n x) as (λ _. n ≡ x) [
        | inl p ↦ p.1
        | inr p ↦ absurd (
            let j = subst (λ (os : List Signal). In n (nodes_read os)) (sym out-outputs) (kept-in x n t C.outputs p.1 i) in
            let read = named-referenced (outputs_redirected C x t) n (inr j) in
            omega arith)
      ]

  pub notes-outputs : 0 < references C x → (old new : Notes) → MarkedMore (λ n. (n ≡ t.node.0) × IsUnread C old.lost n) old.fresh new.fresh →
      MarkedMore (λ n. (n ≡ x) × IsUnread (outputs_redirected C x t) new.fresh n) old.lost new.lost → NotesFollow C old (outputs_redirected C x t) new
  notes-outputs read old new fresh lost = notes-step C (outputs_redirected C x t) old new (λ n. n ≡ t.node.0) (λ n. n ≡ x) out-gates out-gains out-losses
      (λ n e. subst (λ z. 0 < references C z) (sym e) read) fresh lost
