-- A whole substitution.
use Rattle.std.proofs.Common.{◌≡◌, ℕ, Bool, true, false, ◌⊎◌, List, sym, subst, inl, inr, arith}
use Rattle.std.proofs.lemmas.Bool.Decides.{eqb_tells}
use Rattle.lnet_gates.specs.declared.signal.Signal.{Signal}
use Rattle.lnet_gates.specs.declared.gate.Kind.{Kind}
use Rattle.lnet_model.specs.Networks.{NetworkValue, entry_at}
use Rattle.lnet_model.specs.Along.{In, fanin_nodes}
use Rattle.lnet_model.specs.Changes.{IsGateAt}
use Rattle.lnet_model.specs.Fanouts.{references}
use Rattle.lnet_model.specs.Dags.{IsStored}
use Rattle.lnet_hashed.specs.declared.notes.Notes.{Notes}
use Rattle.lnet_substitution.specs.Replaced.{signal_of, replaced}
use Rattle.lnet_substitution.specs.Substitutions.{CanSubstitute, IsMerged, IsNamed, Substitutes}
use Rattle.lnet_substitution.specs.Cascades.{IsCascading}
use Rattle.lnet_substitution.proofs.OneReplaced.{parent-gate, gate-after}
use Rattle.lnet_substitution.proofs.Merging.{not-both, cascade-begins}
use Rattle.lnet_substitution.proofs.Settling.{cascade-ends}
use Rattle.lnet_substitution.proofs.Dropping.{drop-begins, drop-ends}
use Rattle.lnet_cascade.specs.Marks.{marks_of, MarkedMore, OnlyGates}
use Rattle.lnet_cascade.specs.Cascading.{Cascading, GoesOn}
use Rattle.lnet_cascade.specs.Losing.{IsLost, Drops}
use Rattle.lnet_cascade.specs.Noting.{AreNoted}
use Rattle.lnet_cascade.proofs.DirtySteps.{no_self}
use Rattle.lnet_cascade.proofs.Named.{named-referenced, referenced-named}

module _ (kind : Kind) (N : NetworkValue) (o : ℕ) (s : Signal) (can : CanSubstitute kind N o s) (stored : IsStored N) (bs : List Bool) (clean : (n : ℕ) → marks_of bs n ≡ false) (D : NetworkValue) (is : D ≡ replaced N o s) (cs : List Bool) (more : MarkedMore (λ n. In o (fanin_nodes (entry_at N n))) bs cs) where
  parent : (n : ℕ) → marks_of cs n ≡ true → In o (fanin_nodes (entry_at N n))
  parent n h = elim (more.only n h) as (λ _. In o (fanin_nodes (entry_at N n))) [ inl k ↦ absurd (not-both (marks_of bs n) (clean n) k) | inr p ↦ p ]

  pub begins : Cascading kind N o s D cs
  begins = (
    signal_of,
    subst (λ D. IsCascading kind N o s D signal_of (marks_of cs)) (sym is)
        (cascade-begins kind N o s can.gate.0 can.gate.1 can.acyclic can.strashed can.whole can.free can.live (marks_of cs) parent more.those),
  )

  pub begins-gates : OnlyGates D cs
  begins-gates n h =
      let p = parent n h in
      let g = parent-gate N n o p in
      subst (λ D. IsGateAt D n) (sym is) (_, gate-after N o s can.gate.0 can.gate.1 n g.0 g.1 (λ q. no_self N o stored (subst (λ z. In o (fanin_nodes (entry_at N z))) q p)))

  module _ (C : NetworkValue) (ds : List Bool) (goes_on : GoesOn kind D cs C ds) (done : (n : ℕ) → marks_of ds n ≡ false)
      (notes : Notes) (noted : AreNoted N C notes) (Q : NetworkValue) (drops : Drops C notes Q) (none : (n : ℕ) → IsLost N Q n → ⊥) where
    last : Cascading kind N o s C ds
    last = goes_on N o s can begins

    merged : IsMerged kind N o s C last.0
    merged = cascade-ends kind N o s C last.0 (marks_of ds) last.1 done

    named_or_not : (n : ℕ) → IsGateAt Q n → IsNamed Q n ⊎ (IsNamed N n → ⊥)
    named_or_not n gate = elim (eqb_tells (references Q n) 0) as (λ _. IsNamed Q n ⊎ (IsNamed N n → ⊥)) [
      | inl p ↦ inr (λ named. none n (record { gate = gate; had_one = named-referenced N n named; free = p.1 }))
      | inr p ↦ (let some = p.1 in inl (referenced-named Q n (omega arith)))
    ]

    pub substitutes : Substitutes kind N o s Q
    substitutes = record {
      merged = C;
      rep = last.0;
      merges = merged;
      drops = drop-ends N C Q (drops N C noted (drop-begins N C)) merged.acyclic named_or_not;
    }
