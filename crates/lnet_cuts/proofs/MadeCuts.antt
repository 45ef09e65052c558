-- What the rule of the cuts makes of a network is its cut lists.
use Rattle.std.proofs.Common.{◌≡◌, ℕ, true, false, cond, List, [], ◌∷◌, IsSome, Option, None, Some, refl, sym, ap, subst, ◌∙◌, inl, inr, true≢false}
use Rattle.std.proofs.lemmas.Bool.Decides.{eqb_tells}
use Rattle.lnet_gates.specs.declared.signal.Signal.{Signal}
use Rattle.lnet_gates.specs.Gates.{GateValue}
use Rattle.lnet_model.specs.Networks.{Constant, Input, IsGate, NetworkValue, entry_at, fanins_of, IsLive}
use Rattle.lnet_model.specs.Along.{In, Acyclic, IsClosed, fanin_nodes, nodes_read}
use Rattle.lnet_model.specs.Changes.{was, with_entry, without}
use Rattle.lnet_model.specs.Dags.{IsStored}
use Rattle.lnet_model.specs.Cuts.{CutValue, trivial_cut, constant_cut, cut_step, cuts}
use Rattle.lnet_model.specs.declared.event.Event.{Event}
use Rattle.lnet_model.specs.declared.event.Event.TheVariants.{Added, Modified, Deleted}
use Rattle.lnet_model.proofs.Over.{along_induction}
use Rattle.lnet_model.proofs.Changes.{with_entry-here, with_entry-apart, without-here, without-apart}
use Rattle.lnet_views.specs.Rules.{made, rule_step}
use Rattle.lnet_cuts.specs.Stored.{first_cuts}
use Rattle.lnet_cuts.specs.Agreeing.{pairs-same}
use Rattle.lnet_cuts.proofs.Meaning.{over-at}

-- ---- where the constant stands

-- the constant stands at 0 alone, and no input stands there
pub record IsPlaced (N : NetworkValue) : Type 0 where
  pub constants : (n : ℕ) → entry_at N n ≡ Some Constant → n ≡ 0
  pub inputs : (n k : ℕ) → entry_at N n ≡ Some (Input k) → n ≡ 0 → ⊥

constant-input : {B : Type 0} (k : ℕ) → Some Constant ≡ Some (Input k) → B
constant-input k e = cc

gate-constant : {B : Type 0} (g : GateValue) → Some (IsGate g) ≡ Some Constant → B
gate-constant g e = cc

gate-input : {B : Type 0} (g : GateValue) (k : ℕ) → Some (IsGate g) ≡ Some (Input k) → B
gate-input g k e = cc

pub none-some : {A B : Type 0} (a : A) → ◌≡◌ {A = Option A} None (Some a) → B
none-some a e = cc

pub stored-placed : (N : NetworkValue) → IsStored N → IsPlaced N
stored-placed N S = record {
  constants = S.constants;
  inputs = λ n k at z. constant-input k (sym S.whole.first ∙ ap (entry_at N) (sym z) ∙ at);
}

with-placed : (N : NetworkValue) (q : ℕ) (g : GateValue) → IsPlaced N → IsPlaced (with_entry N q (IsGate g))
with-placed N q g P = record {
  constants = λ n at. elim (eqb_tells n q) as (λ _. n ≡ 0) [
    | inl p ↦ gate-constant g (sym (ap (entry_at (with_entry N q (IsGate g))) p.1 ∙ with_entry-here N q (IsGate g)) ∙ at)
    | inr p ↦ P.constants n (sym (with_entry-apart N q (IsGate g) n p.1) ∙ at)
  ];
  inputs = λ n k at z. elim (eqb_tells n q) as (λ _. ⊥) [
    | inl p ↦ gate-input g k (sym (ap (entry_at (with_entry N q (IsGate g))) p.1 ∙ with_entry-here N q (IsGate g)) ∙ at)
    | inr p ↦ P.inputs n k (sym (with_entry-apart N q (IsGate g) n p.1) ∙ at) z
  ];
}

without-placed : (N : NetworkValue) (q : ℕ) → IsPlaced N → IsPlaced (without N q)
without-placed N q P = record {
  constants = λ n at. elim (eqb_tells n q) as (λ _. n ≡ 0) [
    | inl p ↦ none-some Constant (sym (ap (entry_at (without N q)) p.1 ∙ without-here N q) ∙ at)
    | inr p ↦ P.constants n (sym (without-apart N q n p.1) ∙ at)
  ];
  inputs = λ n k at z. elim (eqb_tells n q) as (λ _. ⊥) [
    | inl p ↦ none-some (Input k) (sym (ap (entry_at (without N q)) p.1 ∙ without-here N q) ∙ at)
    | inr p ↦ P.inputs n k (sym (without-apart N q n p.1) ∙ at) z
  ];
}

-- so it was before an event
pub was-placed : (e : Event) (N : NetworkValue) → IsPlaced N → IsPlaced (was e N)
was-placed (Added n) N P = without-placed N n.0 P
was-placed (Modified n g) N P = with-placed N n.0 g P
was-placed (Deleted n g) N P = with-placed N n.0 g P

-- ---- what the rule makes is the cut list of the definition

first-zero : (n : ℕ) → n ≡ 0 → first_cuts n ≡ constant_cut ∷ []
first-zero n e = ap first_cuts e

first-other : (n : ℕ) → (n ≡ 0 → ⊥) → first_cuts n ≡ trivial_cut n ∷ []
first-other n ne = elim (eqb_tells n 0) as (λ _. first_cuts n ≡ trivial_cut n ∷ []) [
  | inl p ↦ absurd (ne p.1)
  | inr p ↦ ap (λ b. cond b (constant_cut ∷ []) (trivial_cut n ∷ [])) p.0
]

module _ (size limit : ℕ) where
  abbrev pub gives : ℕ → GateValue → List (Signal × List CutValue) → List CutValue
  gives n g rs = cut_step size limit n (IsGate g) rs

  abbrev Made : NetworkValue → ℕ → List CutValue
  Made N n = made {V = List CutValue} first_cuts gives N n

  pub made-cuts : (N : NetworkValue) → Acyclic N → IsClosed N → IsPlaced N → (n : ℕ) → IsLive N n → Made N n ≡ cuts N size limit n
  made-cuts N acyclic closed placed =
      let P : ℕ → Type 0 = λ n. IsLive N n → Made N n ≡ cuts N size limit n in
      let W : ℕ → List CutValue = λ m. cuts N size limit m in
      along_induction N P acyclic (λ n below live.
      elim (entry_at N n) as (λ o. entry_at N n ≡ o → ((m : ℕ) → In m (fanin_nodes o) → IsLive N m) → ((m : ℕ) → In m (fanin_nodes o) → P m) → Made N n ≡ W n) [
        | None ↦ λ at _ _. let z : false ≡ true = subst IsSome at live in absurd (true≢false (sym z))
        | Some e ↦ elim e as (λ e. entry_at N n ≡ Some e → ((m : ℕ) → In m (nodes_read (fanins_of e)) → IsLive N m) → ((m : ℕ) → In m (nodes_read (fanins_of e)) → P m) → Made N n ≡ W n) [
          | Constant ↦ λ at _ _. over-at N (rule_step first_cuts gives) (first_cuts 0) acyclic n Constant at ∙ first-zero n (placed.constants n at)
              ∙ sym (over-at N (cut_step size limit) [] acyclic n Constant at)
          | Input k ↦ λ at _ _. over-at N (rule_step first_cuts gives) (first_cuts 0) acyclic n (Input k) at ∙ first-other n (placed.inputs n k at)
              ∙ sym (over-at N (cut_step size limit) [] acyclic n (Input k) at)
          | IsGate g ↦ λ at up old. over-at N (rule_step first_cuts gives) (first_cuts 0) acyclic n (IsGate g) at
              ∙ ap (λ rs. cut_step size limit n (IsGate g) rs) (pairs-same g.fanins (Made N) W (λ m i. old m i (up m i)))
              ∙ sym (over-at N (cut_step size limit) [] acyclic n (IsGate g) at)
        ]
      ] refl (closed n) below)
