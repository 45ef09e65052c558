-- A replacement, parent by parent.
use Rattle.std.proofs.Common.{◌≡◌, ◌≢◌, ℕ, ◌<◌, ◌≤◌, true, Bool, ◌⊎◌, cond, eqb, List, [], ◌∷◌, map, Option, None, Some, refl, sym, ap, subst, ◌∙◌, inl, inr, arith}
use Rattle.std.specs.Prelude.{option_map}
use Rattle.std.proofs.lemmas.Bool.Decides.{eqb_tells}
use Rattle.std.proofs.lemmas.List.Sums.{sum_by-cons}
use Rattle.lnet_gates.specs.declared.signal.Signal.{Signal}
use Rattle.lnet_model.specs.Networks.{Entry, Constant, Input, IsGate, NetworkValue, entry_at, fanins_of, IsLive, live_count}
use Rattle.lnet_model.specs.Along.{In, Depends, fanin_nodes, nodes_read}
use Rattle.lnet_model.specs.Changes.{IsGateAt, without}
use Rattle.lnet_model.specs.Fanouts.{references}
use Rattle.lnet_model.proofs.Changes.{without-here, without-apart}
use Rattle.lnet_model.proofs.Stored.{same_network}
use Rattle.lnet_model.proofs.References.{naming, names_in, references-changed}
use Rattle.lnet_hashed.proofs.Unnamed.{references-none}
use Rattle.lnet_substitution.specs.Replaced.{redirected, redirected_entry, replaced}
use Rattle.lnet_substitution.proofs.Replaced.{replaced-here, replaced-apart, replaced-kind, replaced-inputs, replaced-outputs}
use Rattle.lnet_substitution.proofs.OneReplaced.{map-apart, not_redirected}
use Rattle.lnet_cascade.specs.Marks.{marks_of, MarkedMore}
use Rattle.lnet_cascade.specs.Redirections.{RedirectedAll, RedirectedAt, RedirectedSome, IsRedirected, outputs_redirected}
use Rattle.lnet_cascade.proofs.RedirectedGates.{unread}

-- how often what is not read is named, and what is read
names-zero : (x : ℕ) (ss : List Signal) → (In x (nodes_read ss) → ⊥) → naming x ss ≡ 0
names-zero x [] none = refl
names-zero x (s ∷ ss) none =
    let both = sum_by-cons (λ (s : Signal). cond (eqb s.node.0 x) 1 0) s ss in
    let rest = names-zero x ss (λ j. none (inr j)) in
    elim (eqb_tells s.node.0 x) as (λ _. naming x (s ∷ ss) ≡ 0) [
      | inl e ↦ absurd (none (inl (sym e.1)))
      | inr e ↦ (let here = ap (λ b. cond {A = ℕ} b 1 0) e.0 in omega arith)
    ]

names-more : (x : ℕ) (ss : List Signal) → In x (nodes_read ss) → 1 ≤ naming x ss
names-more x [] j = absurd j
names-more x (s ∷ ss) j =
    let both = sum_by-cons (λ (s : Signal). cond (eqb s.node.0 x) 1 0) s ss in
    elim (eqb_tells s.node.0 x) as (λ _. 1 ≤ naming x (s ∷ ss)) [
      | inl e ↦ (let here = ap (λ b. cond {A = ℕ} b 1 0) e.0 in omega arith)
      | inr e ↦ (let rest = names-more x ss (elim j as (λ _. In x (nodes_read ss)) [ inl h ↦ absurd (e.1 (sym h)) | inr k ↦ k ]) in omega arith)
    ]

names-none : (x : ℕ) (o : Option Entry) → (In x (fanin_nodes o) → ⊥) → names_in x o ≡ 0
names-none x None none = refl
names-none x (Some e) none = names-zero x (fanins_of e) none

names-some : (x : ℕ) (o : Option Entry) → In x (fanin_nodes o) → 1 ≤ names_in x o
names-some x None j = absurd j
names-some x (Some e) j = names-more x (fanins_of e) j

-- nothing that was redirected reads x
pub reads-none : (x : ℕ) (t : Signal) (o : Option Entry) → t.node.0 ≢ x → In x (fanin_nodes (option_map (redirected_entry x t) o)) → ⊥
reads-none x t None apart j = j
reads-none x t (Some Constant) apart j = j
reads-none x t (Some (Input k)) apart j = j
reads-none x t (Some (IsGate g)) apart j = not_redirected x x t g.fanins apart j refl

pub some-none : (N : NetworkValue) (x : ℕ) (t : Signal) → (Depends N t x → ⊥) → RedirectedSome N x t N
some-none N x t free = record { kind = refl; inputs = refl; outputs = refl; each = λ n. inl refl; free = free; count = refl }

module _ (N D M : NetworkValue) (x : ℕ) (t : Signal) (i : ℕ) (apart : t.node.0 ≢ x) (b : RedirectedSome N x t D) (h : RedirectedAt D x t i M) (reads : In x (fanin_nodes (entry_at D i))) where
  -- what reads x is as it was
  was-there : entry_at D i ≡ entry_at N i
  was-there = elim (b.each i) as (λ _. entry_at D i ≡ entry_at N i) [
    | inl e ↦ e
    | inr e ↦ absurd (reads-none x t (entry_at N i) apart (subst (λ o. In x (fanin_nodes o)) e reads))
  ]

  reads-there : In x (fanin_nodes (entry_at N i))
  reads-there = subst (λ o. In x (fanin_nodes o)) was-there reads

  pub gone-there : In x (fanin_nodes (entry_at M i)) → ⊥
  gone-there j = reads-none x t (entry_at D i) apart (subst (λ o. In x (fanin_nodes o)) h.here j)

  pub some-more : RedirectedSome N x t M
  some-more = record {
    kind = h.kind ∙ b.kind;
    inputs = h.inputs ∙ b.inputs;
    outputs = h.outputs ∙ b.outputs;
    each = λ n. elim (eqb_tells n i) as (λ _. (entry_at M n ≡ entry_at N n) ⊎ (entry_at M n ≡ option_map (redirected_entry x t) (entry_at N n))) [
      | inl p ↦ inr (ap (entry_at M) p.1 ∙ h.here ∙ ap (option_map (redirected_entry x t)) (was-there ∙ ap (entry_at N) (sym p.1)))
      | inr p ↦ elim (b.each n) as (λ _. (entry_at M n ≡ entry_at N n) ⊎ (entry_at M n ≡ option_map (redirected_entry x t) (entry_at N n))) [
        | inl e ↦ inl (h.apart n p.1 ∙ e)
        | inr e ↦ inr (h.apart n p.1 ∙ e)
      ]
    ];
    free = h.free;
    count = h.count ∙ b.count;
  }

  pub marks-more : (first old new : List Bool) → MarkedMore (IsRedirected N x D) first old → MarkedMore (λ m. (m ≡ i) × In x (fanin_nodes (entry_at D m))) old new →
      MarkedMore (IsRedirected N x M) first new
  marks-more first old new a m = record {
    len = m.len ∙ a.len;
    only = λ n k. elim (m.only n k) as (λ _. (marks_of first n ≡ true) ⊎ IsRedirected N x M n) [
      | inl o ↦ elim (a.only n o) as (λ _. (marks_of first n ≡ true) ⊎ IsRedirected N x M n) [ inl f ↦ inl f | inr r ↦ inr (record { read = r.read; reads_no_more = stays n r.reads_no_more }) ]
      | inr q ↦ inr (record { read = subst (λ n. In x (fanin_nodes (entry_at N n))) (sym q.0) reads-there; reads_no_more = subst (λ n. In x (fanin_nodes (entry_at M n)) → ⊥) (sym q.0) gone-there })
    ];
    before = λ n k. m.before n (a.before n k);
    those = λ n r. elim (eqb_tells n i) as (λ _. marks_of new n ≡ true) [
      | inl e ↦ m.those n (e.1, subst (λ n. In x (fanin_nodes (entry_at D n))) (sym e.1) reads)
      | inr e ↦ m.before n (a.those n (record { read = r.read; reads_no_more = λ j. r.reads_no_more (subst (λ o. In x (fanin_nodes o)) (sym (h.apart n e.1)) j) }))
    ];
  }
    where
      stays : (n : ℕ) → (In x (fanin_nodes (entry_at D n)) → ⊥) → In x (fanin_nodes (entry_at M n)) → ⊥
      stays n none j = elim (eqb_tells n i) as (λ _. ⊥) [
        | inl e ↦ none (subst (λ n. In x (fanin_nodes (entry_at D n))) (sym e.1) reads)
        | inr e ↦ none (subst (λ o. In x (fanin_nodes o)) (h.apart n e.1) j)
      ]

  -- fewer references to x are left
  pub fewer : references M x < references D x
  fewer =
      let both = references-changed M D i h.apart h.outputs x in
      let none = names-none x (entry_at M i) gone-there in
      let some = names-some x (entry_at D i) reads in
      omega arith

-- where nothing reads x, all is redirected
pub some-all : (N D : NetworkValue) (x : ℕ) (t : Signal) → RedirectedSome N x t D → ((m : ℕ) → In x (fanin_nodes (entry_at D m)) → ⊥) → RedirectedAll N x t D
some-all N D x t b none = record {
  kind = b.kind;
  inputs = b.inputs;
  outputs = b.outputs;
  each = λ n. elim (b.each n) as (λ _. entry_at D n ≡ option_map (redirected_entry x t) (entry_at N n)) [
    | inl e ↦ e ∙ unread x t (entry_at N n) (λ j. none n (subst (λ o. In x (fanin_nodes o)) (sym e) j))
    | inr e ↦ e
  ];
  free = b.free;
  count = b.count;
}

pub marks-none : (N : NetworkValue) (x : ℕ) (first : List Bool) → MarkedMore (IsRedirected N x N) first first
marks-none N x first = record { len = refl; only = λ n h. inl h; before = λ n h. h; those = λ n r. absurd (r.reads_no_more r.read) }

pub marks-all : (N D : NetworkValue) (x : ℕ) (first new : List Bool) → ((m : ℕ) → In x (fanin_nodes (entry_at D m)) → ⊥) → MarkedMore (IsRedirected N x D) first new →
    MarkedMore (λ m. In x (fanin_nodes (entry_at N m))) first new
marks-all N D x first new none m = record {
  len = m.len;
  only = λ n h. elim (m.only n h) as (λ _. (marks_of first n ≡ true) ⊎ In x (fanin_nodes (entry_at N n))) [ inl f ↦ inl f | inr r ↦ inr r.read ];
  before = m.before;
  those = λ n j. m.those n (record { read = j; reads_no_more = none n });
}

-- ---- all of a replacement

-- where nothing names x, no output does
pub outputs-same : (N : NetworkValue) (x : ℕ) (t : Signal) → references N x ≡ 0 → outputs_redirected N x t ≡ N
unfolding references outputs_redirected
outputs-same N x t zero = ap (λ (os : List Signal). record N { outputs = os }) (map-apart x t N.outputs (λ j. absurd (let some = names-more x N.outputs j in omega arith)))

pub outputs-entry : (N : NetworkValue) (x : ℕ) (t : Signal) (q : ℕ) → entry_at (outputs_redirected N x t) q ≡ entry_at N q
unfolding entry_at outputs_redirected
outputs-entry N x t q = refl

pub outputs-count : (N : NetworkValue) (x : ℕ) (t : Signal) → live_count (outputs_redirected N x t) ≡ live_count N
unfolding live_count outputs_redirected
outputs-count N x t = refl

module _ (C D : NetworkValue) (x : ℕ) (t : Signal) (b : RedirectedAll C x t D) (free : Depends C t x → ⊥) (live : IsLive C t.node.0) (gate : IsGateAt C x) where
  abbrev E : NetworkValue
  E = outputs_redirected D x t

  t_apart : t.node.0 ≢ x
  t_apart e = free ([], live, e)

  pub all-gate : IsGateAt (outputs_redirected D x t) x
  all-gate = (_, outputs-entry D x t x ∙ b.each x ∙ ap (option_map (redirected_entry x t)) gate.1)

  no-output : In x (nodes_read (outputs_redirected D x t).outputs) → ⊥
  unfolding outputs_redirected
  no-output j = not_redirected x x t D.outputs t_apart j refl

  pub all-free : references (outputs_redirected D x t) x ≡ 0
  all-free = references-none E x (λ p i. reads-none x t (entry_at C p) t_apart (subst (λ o. In x (fanin_nodes o)) (outputs-entry D x t p ∙ b.each p) i)) no-output

  pub all-replaced : without (outputs_redirected D x t) x ≡ replaced C x t
  unfolding without outputs_redirected
  all-replaced = same_network (without E x) (replaced C x t)
      (b.kind ∙ sym (replaced-kind C x t)) (b.inputs ∙ sym (replaced-inputs C x t)) (ap (map (redirected x t)) b.outputs ∙ sym (replaced-outputs C x t))
      (λ q. elim (eqb_tells q x) as (λ _. entry_at (without E x) q ≡ entry_at (replaced C x t) q) [
        | inl p ↦ ap (entry_at (without E x)) p.1 ∙ without-here E x ∙ sym (ap (entry_at (replaced C x t)) p.1 ∙ replaced-here C x t)
        | inr p ↦ without-apart E x q p.1 ∙ outputs-entry D x t q ∙ b.each q ∙ sym (replaced-apart C x t q p.1)
      ])
