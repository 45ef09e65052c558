-- What joins of signals leave: exactly the nodes of the definition, live signals, and the values.
use Rattle.std.proofs.Common.{◌≡◌, ℕ, suc, ◌+◌, ◌<◌, ◌≤◌, List, [], ◌∷◌, length, get_or, drop, Result, Ok, Err, IfOk, OnOk, sym, ap, subst, ◌∙◌, inl, inr, arith}
use Rattle.std.proofs.Math.Seq.{drop-cons}
use Rattle.std.proofs.lemmas.List.{drop_all}
use Rattle.lnet_gates.specs.declared.signal.Signal.{Signal}
use Rattle.lnet_gates.specs.declared.gate.Kind.{Kind}
use Rattle.lnet_gates.specs.declared.gate.Op.{Op}
use Rattle.lnet_gates.specs.declared.gate.Op.TheVariants as op
use Rattle.lnet_gates.specs.Operands.{complemented}
use Rattle.lnet_model.specs.Networks.{NetworkValue, IsLive, live_count}
use Rattle.lnet_model.specs.Along.{nodes_read}
use Rattle.lnet_model.specs.Changes.{AreLive}
use Rattle.lnet_model.specs.Dags.{NUMBERS}
use Rattle.lnet_hashed.specs.Strashed.{Placed}
use Rattle.lnet_hashed.specs.Laid.{made}
use Rattle.lnet_hashed.proofs.LaidValues.{made-grows}
use Rattle.lnet_rules.specs.declared.joining.Join.{Join}
use Rattle.lnet_rules.specs.declared.joining.Join.TheVariants.{And, Or, Xor}
use Rattle.lnet_rules.specs.Joins.{by_join, joined_from}
use Rattle.lnet_network.specs.Uses.{IsMade}
use Rattle.lnet_rules.specs.Live.{KeepsLive}

-- what the answer of an operation says, word by word
module _ (kind : Kind) (N : NetworkValue) (f : Op) (operands : List Signal) {E : Type 0} (M : NetworkValue) where
  pub answer-made : (r : Result Signal E) → IfOk r (IsMade kind N f operands M) → IfOk r (λ s. made kind N f operands ≡ record { network = M; signal = s })
  answer-made (Ok s) is = is.is
  answer-made (Err e) is = tt

  pub answer-live : (r : Result Signal E) → IfOk r (IsMade kind N f operands M) → IfOk r (λ s. IsLive M s.node.0)
  answer-live (Ok s) is = is.live
  answer-live (Err e) is = tt

  pub answer-keeps : (r : Result Signal E) → IfOk r (IsMade kind N f operands M) → OnOk r (KeepsLive N M)
  answer-keeps (Ok s) is = is.stays
  answer-keeps (Err e) is = tt

-- ---- two signals

pub both-live : (N : NetworkValue) (a b : Signal) → IsLive N a.node.0 → IsLive N b.node.0 → AreLive N (nodes_read (a ∷ b ∷ []))
both-live N a b here there m (inl e) = subst (IsLive N) (sym e) here
both-live N a b here there m (inr (inl e)) = subst (IsLive N) (sym e) there
both-live N a b here there m (inr (inr i)) = absurd i

-- no node goes as signals are joined
pub by_join-grows : (kind : Kind) (how : Join) (N : NetworkValue) (a b : Signal) → live_count N ≤ live_count (by_join kind how N a b).network
by_join-grows kind And N a b = made-grows kind N op.And (a ∷ b ∷ [])
by_join-grows kind Or N a b = made-grows kind N op.And (complemented a ∷ complemented b ∷ [])
by_join-grows kind Xor N a b = made-grows kind N op.Xor (a ∷ b ∷ [])

pub joined_from-grows : (kind : Kind) (how : Join) (p : Placed) (ss : List Signal) → live_count p.network ≤ live_count (joined_from kind how p ss).network
unfolding joined_from
joined_from-grows kind how p [] = let n = live_count p.network in omega arith
joined_from-grows kind how p (s ∷ ss) =
    let once = by_join-grows kind how p.network p.signal s in
    let rest = joined_from-grows kind how (by_join kind how p.network p.signal s) ss in
    omega arith

-- ---- signal by signal

module _ (kind : Kind) (how : Join) (all : Placed) (ss : List Signal) (i : ℕ) (d : Signal) (low : i < length ss) (p : Placed) (so_far : joined_from kind how p (drop i ss) ≡ all) where
  next-is : joined_from kind how (by_join kind how p.network p.signal (get_or ss i d)) (drop (i + 1) ss) ≡ all
  unfolding joined_from
  next-is =
      let more : suc i ≡ i + 1 = omega arith in
      sym (ap (joined_from kind how p) (drop-cons ss i d low ∙ ap (λ j. get_or ss i d ∷ drop j ss) more)) ∙ so_far

  -- one signal more
  pub joined-next : (q : Placed) → by_join kind how p.network p.signal (get_or ss i d) ≡ q → joined_from kind how q (drop (i + 1) ss) ≡ all
  joined-next q built = sym (ap (λ (r : Placed). joined_from kind how r (drop (i + 1) ss)) built) ∙ next-is

  -- what is past the limit for two signals is so for all
  pub joined-full : NUMBERS < live_count (by_join kind how p.network p.signal (get_or ss i d)).network → NUMBERS < live_count all.network
  joined-full past =
      let more = joined_from-grows kind how (by_join kind how p.network p.signal (get_or ss i d)) (drop (i + 1) ss) in
      let same = ap (λ (r : Placed). live_count r.network) next-is in
      omega arith

-- no signal is left
pub joined-end : (kind : Kind) (how : Join) (p all : Placed) (ss : List Signal) (i : ℕ) → length ss ≤ i → joined_from kind how p (drop i ss) ≡ all → all ≡ p
unfolding joined_from
joined-end kind how p all ss i past so_far = sym so_far ∙ ap (joined_from kind how p) (drop_all i ss past)
