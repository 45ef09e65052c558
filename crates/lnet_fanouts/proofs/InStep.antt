-- A fanout view is in step exactly where its lists hold the places of the slots that name each node.
use Rattle.std.proofs.Common.{◌≡◌, ℕ, zero, suc, ◌+◌, ◌*◌, ◌/◌, ◌%◌, ◌<◌, Bool, true, false, List, [], ◌∷◌, map, get_or, IsSome, Option, None}
use Rattle.std.proofs.Common.{Some, slice_get, refl, sym, ap, subst, ◌∙◌, inl, inr, arith}
use Rattle.std.specs.Prelude.{◌↔◌, option_map, is_some}
use Rattle.lnet_gates.specs.declared.signal.Signal.{Signal}
use Rattle.lnet_model.specs.Networks.{NetworkValue, Entry, entry_at, fanins_of, IsLive}
use Rattle.lnet_model.specs.Along.{In, at_entry, fanin_nodes, nodes_read}
use Rattle.lnet_model.specs.Fanouts.{fan}
use Rattle.lnet_model.specs.Dags.{IsDag}
use Rattle.lnet_model.specs.Answers.{Parents, InStep, from_scratch, parents_in}
use Rattle.lnet_model.specs.declared.view_spec.ViewSpec.{ViewSpec}
use Rattle.lnet_model.specs.declared.view_spec.ViewSpec.TheVariants.{Fanout}
use Rattle.lnet_chains.specs.Lists.{ChainsValue, Within, list_of}
use Rattle.lnet_pools.specs.Ascending.{AreAscending}
use Rattle.lnet_store.specs.Cursors.{slot_at}
use Rattle.lnet_store.specs.Linked.{NamesNode, place}
use Rattle.lnet_store.specs.StoreValues.{IsOneOf}
use Rattle.lnet_store.proofs.FanMembers.{fan-reads}
use Rattle.lnet_store.proofs.ChainSteps.{names-within}
use Rattle.lnet_fanouts.specs.FanoutViews.{AreListed, AreLive, fanout_of, fanout_spec, fanouts_in, slots_at}
use Rattle.lnet_fanouts.proofs.Fans.{place_of, fan-ascends, fan-back, one-list, short-gates}

none-some : {A B : Type 0} (a : A) → ◌≡◌ {A = Option A} None (Some a) → B
none-some a e = cc

some-same : {A : Type 0} (a b : A) → Some a ≡ Some b → a ≡ b
some-same a b e = cc

-- ---- places and pairs

-- a place is that of its pair
pub place-told : (c : ℕ) → place (c / 6) (c % 6) ≡ c
place-told c = omega arith

slot-low : (c : ℕ) → c % 6 < 6
slot-low c = omega arith

pub slot-of-place : (p j : ℕ) → j < 6 → slot_at (place p j) ≡ (p, j)
slot-of-place p j lt = let q : (6 * p + j) / 6 ≡ p = omega arith in let r : (6 * p + j) % 6 ≡ j = omega arith in λ i. (q i, r i)

-- the pairs of places, and the places of pairs
pub pair-there : (c : ℕ) (xs : List ℕ) → Within c xs → IsOneOf (slot_at c) (map slot_at xs)
pair-there c [] i = absurd i
pair-there c (x ∷ xs) (inl e) = inl (ap slot_at e)
pair-there c (x ∷ xs) (inr i) = inr (pair-there c xs i)

place-there : (p j : ℕ) (xs : List ℕ) → IsOneOf (p, j) (map slot_at xs) → Within (place p j) xs
place-there p j [] i = absurd i
place-there p j (x ∷ xs) (inl e) =
    let a : p ≡ x / 6 = ap (λ (r : ℕ × ℕ). r.0) e in
    let b : j ≡ x % 6 = ap (λ (r : ℕ × ℕ). r.1) e in
    inl (omega arith)
place-there p j (x ∷ xs) (inr i) = inr (place-there p j xs i)

pair-in : (p j : ℕ) (rs : List (ℕ × ℕ)) → IsOneOf (p, j) rs → Within (place p j) (map place_of rs)
pair-in p j [] i = absurd i
pair-in p j (r ∷ rs) (inl e) = inl (ap place_of e)
pair-in p j (r ∷ rs) (inr i) = inr (pair-in p j rs i)

pair-of : (d : ℕ) (rs : List (ℕ × ℕ)) → Within d (map place_of rs) → (r : ℕ × ℕ) × IsOneOf r rs × (d ≡ place_of r)
pair-of d [] i = absurd i
pair-of d (r ∷ rs) (inl e) = (r, inl refl, e)
pair-of d (r ∷ rs) (inr i) = let t = pair-of d rs i in (t.0, inr t.1, t.2)

-- what a slot names is live
named-in : (m j : ℕ) (ss : List Signal) → NamesNode m (slice_get ss j) → In m (nodes_read ss)
named-in m j [] h = absurd h
named-in m zero (s ∷ ss) h = inl (sym h)
named-in m (suc j) (s ∷ ss) h = inr (named-in m j ss h)

pub named-live : (N : NetworkValue) → IsDag N → (m p j : ℕ) → NamesNode m (slice_get (slots_at (entry_at N) p) j) → IsLive N m
named-live N D m p j h = D.closed p m (read (entry_at N p) (named-in m j (slots_at (entry_at N) p) h))
  where
    read : (o : Option Entry) → In m (nodes_read (at_entry [] fanins_of o)) → In m (fanin_nodes o)
    read None i = i
    read (Some e) i = i

-- ---- in step

scratch-fan : (spec : ViewSpec) → Fanout ≡ spec → (N : NetworkValue) (n : ℕ) → from_scratch spec N n ≡ Parents (fan N n)
unfolding from_scratch
scratch-fan spec is N n = ap (λ s. from_scratch s N n) (sym is)

of-dead : (b : Bool) (xs : List ℕ) → fanout_of b xs ≡ None → b ≡ false
of-dead true xs e = none-some (Parents (map slot_at xs)) (sym e)
of-dead false xs e = refl

of-live : (b : Bool) (xs : List ℕ) (rs : List (ℕ × ℕ)) → fanout_of b xs ≡ Some (Parents rs) → (b ≡ true) × (map slot_at xs ≡ rs)
of-live true xs rs e = (refl, some-same (map slot_at xs) rs (ap parents_in e))
of-live false xs rs e = none-some (Parents rs) e

spec-of : (b : Bool) (spec : ViewSpec) → fanout_spec b ≡ Some spec → (b ≡ true) × (Fanout ≡ spec)
spec-of true spec e = (refl, some-same Fanout spec e)
spec-of false spec e = none-some spec e

-- the lists hold the slots, and the live numbers are known
pub record IsKeeping (v : ChainsValue) (live : List Bool) (attached : Bool) (N : NetworkValue) : Type 0 where
  pub listed : AreListed v (entry_at N)
  pub living : AreLive live (entry_at N)
  pub on : attached ≡ true

module _ (v : ChainsValue) (live : List Bool) (attached : Bool) (N : NetworkValue) (D : IsDag N) where
  pub keeping : ((n : ℕ) → get_or live n false ≡ false → list_of v n ≡ []) → InStep (fanout_spec attached) (fanouts_in v live) N → IsKeeping v live attached N
  keeping empty S = record {
    listed = λ m p j lt. elim (entry_at N m) as (λ o. entry_at N m ≡ o → Within (place p j) (list_of v m) ↔ NamesNode m (slice_get (slots_at (entry_at N) p) j)) [
      | None ↦ λ d. (
        λ i. absurd (subst (Within (place p j)) (empty m (dead m d)) i),
        λ r. let z : false ≡ true = subst IsSome d (named-live N D m p j r) in cc,
      )
      | Some e ↦ λ d. (let same = (at-live m e d).1 in (
        λ i. (fan-reads N m p j).0 (subst (IsOneOf (p, j)) same (subst (λ r. IsOneOf r (map slot_at (list_of v m))) (slot-of-place p j lt) (pair-there (place p j) (list_of v m) i))),
        λ r. place-there p j (list_of v m) (subst (IsOneOf (p, j)) (sym same) ((fan-reads N m p j).1 r)),
      ))
    ] refl;
    living = λ n. elim (entry_at N n) as (λ o. entry_at N n ≡ o → get_or live n false ≡ is_some o) [ None ↦ λ d. dead n d | Some e ↦ λ d. (at-live n e d).0 ] refl;
    on = (spec-of attached S.asked S.attached).0;
  }
    where
      dead : (n : ℕ) → entry_at N n ≡ None → get_or live n false ≡ false
      dead n d = of-dead (get_or live n false) (list_of v n) (S.answers n ∙ ap (option_map (λ _. from_scratch S.asked N n)) d)

      at-live : (n : ℕ) (e : Entry) → entry_at N n ≡ Some e → (get_or live n false ≡ true) × (map slot_at (list_of v n) ≡ fan N n)
      at-live n e d = of-live (get_or live n false) (list_of v n) (fan N n)
          (S.answers n ∙ ap (option_map (λ _. from_scratch S.asked N n)) d ∙ ap (λ x. Some x) (scratch-fan S.asked (spec-of attached S.asked S.attached).1 N n))

  -- the list of a node is that of its fanout
  list-fan : AreAscending v → AreListed v (entry_at N) → (n : ℕ) → list_of v n ≡ map place_of (fan N n)
  list-fan A listed n = one-list (list_of v n) (map place_of (fan N n)) (A.ascending n) (fan-ascends N n D)
      (λ d i. subst (λ c. Within c (map place_of (fan N n))) (place-told d)
      (pair-in (d / 6) (d % 6) (fan N n) ((fan-reads N n (d / 6) (d % 6)).1 ((listed n (d / 6) (d % 6) (slot-low d)).0 (subst (λ c. Within c (list_of v n)) (sym (place-told d)) i)))))
      (λ d i. let t = pair-of d (fan N n) i in
      let r = (fan-reads N n t.0.0 t.0.1).0 t.1 in
      let w = names-within n t.0.1 (slots_at (entry_at N) t.0.0) r in
      let six = short-gates N D t.0.0 in
      let low : t.0.1 < 6 = omega arith in
      subst (λ c. Within c (list_of v n)) (sym t.2) ((listed n t.0.0 t.0.1 low).1 r))

  pub in-step : AreAscending v → AreListed v (entry_at N) → AreLive live (entry_at N) → attached ≡ true → InStep (fanout_spec attached) (fanouts_in v live) N
  in-step A listed is-live on = record {
    asked = Fanout;
    attached = ap fanout_spec on;
    answers = λ n. elim (entry_at N n) as (λ o. entry_at N n ≡ o → fanouts_in v live n ≡ option_map (λ _. from_scratch Fanout N n) o) [
      | None ↦ λ d. ap (λ b. fanout_of b (list_of v n)) (is-live n ∙ ap (λ (o : Option Entry). is_some o) d)
      | Some e ↦ λ d. ap (λ b. fanout_of b (list_of v n)) (is-live n ∙ ap (λ (o : Option Entry). is_some o) d)
          ∙ ap (λ rs. Some (Parents rs)) (ap (map slot_at) (list-fan A listed n) ∙ fan-back N n D) ∙ ap (λ x. Some x) (sym (scratch-fan Fanout refl N n))
    ] refl;
  }

  -- nothing stands in the list of a number that isn't live
  pub dead-empty : AreListed v (entry_at N) → AreLive live (entry_at N) → (n : ℕ) → get_or live n false ≡ false → list_of v n ≡ []
  dead-empty listed is-live n off = none-in (list_of v n) (λ d i.
      let named = (listed n (d / 6) (d % 6) (slot-low d)).0 (subst (λ c. Within c (list_of v n)) (sym (place-told d)) i) in
      let on = named-live N D n (d / 6) (d % 6) named in
      let z : false ≡ true = sym off ∙ is-live n ∙ some-live (entry_at N n) on in cc)
    where
      none-in : (xs : List ℕ) → ((d : ℕ) → Within d xs → ⊥) → xs ≡ []
      none-in [] f = refl
      none-in (x ∷ xs) f = absurd (f x (inl refl))

      some-live : (o : Option Entry) → IsSome o → is_some o ≡ true
      some-live None h = h
      some-live (Some e) h = refl

-- what is attached isn't detached
pub silent-on : {P : Type 0} (attached : Bool) → attached ≡ true → attached ≡ false → P
silent-on attached on off = let z : false ≡ true = sym off ∙ on in cc
