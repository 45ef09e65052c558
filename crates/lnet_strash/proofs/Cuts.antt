-- A number taken out of its chain.
use Rattle.std.proofs.Common.{◌≡◌, ◌≢◌, ℕ, ◌<◌, List, [], ◌∷◌, length, Option, None, Some, refl, sym, ap, subst, ◌∙◌, inl, inr, set, get_or-set_same, get_or-set_other, length-set}
use Rattle.std.proofs.lemmas.Bool.Decides.{eqb_tells}
use Rattle.lnet_strash.specs.Chains.{link, Within, Distinct, IsChain, Chain, AreChains}
use Rattle.lnet_strash.proofs.Links.{some-is, not-some, chain-kept, chain-first}

-- ms are the numbers of ns without n, as the links lead through them
record Without (next : List (Option ℕ)) (head : Option ℕ) (n : ℕ) (ns : List ℕ) : Type 0 where
  members : List ℕ
  linked : IsChain next head members
  apart : Distinct members
  stood : Within n ns
  fewer : (m : ℕ) → Within m members → Within m ns × (m ≢ n)
  rest : (m : ℕ) → Within m ns → m ≢ n → Within m members

-- the head's link leads past n
cut-first : (next : List (Option ℕ)) (head : Option ℕ) (n : ℕ) (ns : List ℕ) → IsChain next head ns → Distinct ns → head ≡ Some n → Without next (link next n) n ns
cut-first next head n ns c d e =
    let s = chain-first next head n ns c e in
    let apart : Distinct (n ∷ s.0) = subst Distinct s.1 d in
    record {
      members = s.0;
      linked = s.2;
      apart = apart.1;
      stood = subst (Within n) (sym s.1) (inl refl);
      fewer = λ m i. (subst (Within m) (sym s.1) (inr i), λ is. apart.0 (subst (λ z. Within z s.0) is i));
      rest = λ m i ne. elim (subst (Within m) s.1 i) as (λ _. Within m s.0) [ inl is ↦ absurd (ne is) | inr j ↦ j ];
    }

-- the link of b leads past n
module _ (next : List (Option ℕ)) (n b : ℕ) (long : b < length next) (leads : link next b ≡ Some n) where
  cut-after : (head : Option ℕ) (ns : List ℕ) → IsChain next head ns → Distinct ns → Within b ns → Without (set next b (link next n)) head n ns
  cut-after head [] c d i = absurd i
  cut-after head (m ∷ ns) c d (inl e) =
      let s = cut-first next (link next m) n ns c.1 d.1 (ap (link next) (sym e) ∙ leads) in
      let out : Within b s.members → ⊥ = λ i. d.0 (subst (λ z. Within z ns) e ((s.fewer b i).0)) in
      record {
        members = m ∷ s.members;
        linked = (c.0, subst (λ z. IsChain (set next b (link next n)) z s.members) (sym (get_or-set_same next b (link next n) None long) ∙ ap (link (set next b (link next n))) e) (chain-kept next b (link next n) (link next n) s.members out s.linked));
        apart = (λ i. d.0 ((s.fewer m i).0), s.apart);
        stood = inr s.stood;
        fewer = λ k i. elim i as (λ _. Within k (m ∷ ns) × (k ≢ n)) [
          | inl is ↦ (inl is, λ same. d.0 (subst (λ z. Within z ns) (sym same ∙ is) s.stood))
          | inr j ↦ (inr ((s.fewer k j).0), (s.fewer k j).1)
        ];
        rest = λ k i ne. elim i as (λ _. Within k (m ∷ s.members)) [ inl is ↦ inl is | inr j ↦ inr (s.rest k j ne) ];
      }
  cut-after head (m ∷ ns) c d (inr w) =
      let s = cut-after (link next m) ns c.1 d.1 w in
      let apart : m ≢ b = λ e. d.0 (subst (λ z. Within z ns) (sym e) w) in
      record {
        members = m ∷ s.members;
        linked = (c.0, subst (λ z. IsChain (set next b (link next n)) z s.members) (sym (get_or-set_other next b m (link next n) None apart)) s.linked);
        apart = (λ i. d.0 ((s.fewer m i).0), s.apart);
        stood = inr s.stood;
        fewer = λ k i. elim i as (λ _. Within k (m ∷ ns) × (k ≢ n)) [
          | inl is ↦ (inl is, λ same. d.0 (subst (λ z. Within z ns) (sym same ∙ is) s.stood))
          | inr j ↦ (inr ((s.fewer k j).0), (s.fewer k j).1)
        ];
        rest = λ k i ne. elim i as (λ _. Within k (m ∷ s.members)) [ inl is ↦ inl is | inr j ↦ inr (s.rest k j ne) ];
      }

-- n, which belonged in chain c, belongs nowhere
module _ (heads next : List (Option ℕ)) (home home' : ℕ → Option ℕ) (n c : ℕ) (C : AreChains heads next home) (low : c < length heads) (here : home n ≡ Some c) (gone : home' n ≡ None) (other : (m : ℕ) → m ≢ n → home' m ≡ home m) where
  still : (m k : ℕ) → home' m ≡ Some k → m ≢ n
  still m k e is = not-some k (home' n) gone (ap home' (sym is) ∙ e)

  was : (m k : ℕ) → home' m ≡ Some k → home m ≡ Some k
  was m k e = sym (other m (still m k e)) ∙ e

  -- a chain without n, where the links lead past it
  own-chain : (next' : List (Option ℕ)) (head : Option ℕ) → Without next' head n (C.chains c low).members → Chain next' home' head c
  own-chain next' head s =
      let d = C.chains c low in
      record {
        members = s.members;
        linked = s.linked;
        apart = s.apart;
        belongs = λ m i. other m ((s.fewer m i).1) ∙ d.belongs m ((s.fewer m i).0);
        all = λ m e. s.rest m (d.all m (was m c e)) (still m c e);
      }

  -- another chain, whose links stay
  other-chain : (next' : List (Option ℕ)) (head : Option ℕ) (k : ℕ) (h : k < length heads) → k ≢ c → IsChain next' head (C.chains k h).members → Chain next' home' head k
  other-chain next' head k h ne linked =
      let d = C.chains k h in
      record {
        members = d.members;
        linked = linked;
        apart = d.apart;
        belongs = λ m i. other m (λ e. ne (some-is k c (sym (d.belongs m i) ∙ ap home e ∙ here))) ∙ d.belongs m i;
        all = λ m e. d.all m (was m k e);
      }

  pub cut-head : link heads c ≡ Some n → AreChains (set heads c (link next n)) next home'
  cut-head leads =
      let d = C.chains c low in
      record {
        chains = λ k h. let small : k < length heads = subst (λ z. k < z) (length-set heads c (link next n)) h in elim (eqb_tells k c) as (λ _. Chain next home' (link (set heads c (link next n)) k) k) [
          | inl p ↦ subst (λ z. Chain next home' (link (set heads c (link next n)) z) z) (sym p.1) (subst (λ z. Chain next home' z c) (sym (get_or-set_same heads c (link next n) None low)) (own-chain next (link next n) (cut-first next (link heads c) n d.members d.linked d.apart leads)))
          | inr p ↦ subst (λ z. Chain next home' z k) (sym (get_or-set_other heads c k (link next n) None p.1)) (other-chain next (link heads k) k small p.1 ((C.chains k small).linked))
        ];
        inside = λ m k e. C.inside m k (was m k e);
      }

  pub cut-link : (b : ℕ) → home b ≡ Some c → link next b ≡ Some n → AreChains heads (set next b (link next n)) home'
  cut-link b belongs leads =
      let d = C.chains c low in
      let next' : List (Option ℕ) = set next b (link next n) in
      record {
        chains = λ k h. elim (eqb_tells k c) as (λ _. Chain (set next b (link next n)) home' (link heads k) k) [
          | inl p ↦ subst (λ z. Chain (set next b (link next n)) home' (link heads z) z) (sym p.1) (own-chain (set next b (link next n)) (link heads c) (cut-after next n b (C.inside b c belongs) leads (link heads c) d.members d.linked d.apart (d.all b belongs)))
          | inr p ↦ other-chain (set next b (link next n)) (link heads k) k h p.1 (chain-kept next b (link next n) (link heads k) (C.chains k h).members (λ i. p.1 (some-is k c (sym ((C.chains k h).belongs b i) ∙ belongs))) (C.chains k h).linked)
        ];
        inside = λ m k e. subst (λ z. m < z) (sym (length-set next b (link next n))) (C.inside m k (was m k e));
      }
