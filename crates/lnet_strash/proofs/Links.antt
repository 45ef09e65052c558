-- Chains of links: what they have in common, and a number put at the head of one.
use Rattle.std.proofs.Common.{◌≡◌, ◌≢◌, ℕ, ◌<◌, ◌≤◌, List, [], ◌∷◌, length, Option, None, Some, sym, ap, subst, ◌∙◌, inl, inr, arith, get_or, set, get_or-set_same, get_or-set_other, length-set}
use Rattle.std.proofs.lemmas.Bool.Decides.{eqb_tells}
use Rattle.std.proofs.lemmas.List.{get_or_default}
use Rattle.lnet_strash.specs.Chains.{link, Within, IsChain, Chain, AreChains}

pub some-is : (a b : ℕ) → Some a ≡ Some b → a ≡ b
some-is a b e = cc

pub not-some : {X : Type 0} (a : X) (o : Option X) → o ≡ None → o ≡ Some a → ⊥
not-some {X} a o e f = let none : Option X = None in let z : none ≡ Some a = sym e ∙ f in cc

-- what stands inside a list doesn't hang on the default
pub get_or-is : {X : Type 0} (xs : List X) (i : ℕ) (x d : X) → i < length xs → x ≡ get_or xs i x → x ≡ get_or xs i d
get_or-is xs i x d h e = e ∙ get_or_default xs i x d h

-- a link outside a chain may change
pub chain-kept : (next : List (Option ℕ)) (n : ℕ) (o head : Option ℕ) (ns : List ℕ) → (Within n ns → ⊥) → IsChain next head ns → IsChain (set next n o) head ns
chain-kept next n o head [] out c = c
chain-kept next n o head (m ∷ ms) out c =
    let ne : m ≢ n = λ e. out (inl (sym e)) in
    (c.0, subst (λ h. IsChain (set next n o) h ms) (sym (get_or-set_other next n m o None ne)) (chain-kept next n o (link next m) ms (λ i. out (inr i)) c.1))

-- the same links make the same chain
pub chain-like : (next next' : List (Option ℕ)) → ((n : ℕ) → link next' n ≡ link next n) → (head : Option ℕ) (ns : List ℕ) → IsChain next head ns → IsChain next' head ns
chain-like next next' same head [] c = c
chain-like next next' same head (m ∷ ms) c = (c.0, subst (λ h. IsChain next' h ms) (sym (same m)) (chain-like next next' same (link next m) ms c.1))

-- a chain that begins with n has it first
pub chain-first : (next : List (Option ℕ)) (head : Option ℕ) (n : ℕ) (ns : List ℕ) → IsChain next head ns → head ≡ Some n → (ms : List ℕ) × (ns ≡ n ∷ ms) × IsChain next (link next n) ms
chain-first next head n [] c e = absurd (not-some n head c e)
chain-first next head n (m ∷ ms) c e = let is : m ≡ n = some-is m n (sym c.0 ∙ e) in (ms, ap (λ z. z ∷ ms) is, subst (λ z. IsChain next (link next z) ms) is c.1)

-- the same links and homes make the same chains
pub chains-like : (heads next next' : List (Option ℕ)) (home home' : ℕ → Option ℕ) → AreChains heads next home → ((n : ℕ) → link next' n ≡ link next n) → length next ≤ length next' → ((n : ℕ) → home' n ≡ home n) → AreChains heads next' home'
chains-like heads next next' home home' C links long same = record {
  chains = λ c h. let d = C.chains c h in record {
    members = d.members;
    linked = chain-like next next' links (link heads c) d.members d.linked;
    apart = d.apart;
    belongs = λ n i. same n ∙ d.belongs n i;
    all = λ n e. d.all n (sym (same n) ∙ e);
  };
  inside = λ n c e. let less = C.inside n c (sym (same n) ∙ e) in omega arith;
}

-- n, which belonged nowhere, put at the head of chain c
module _ (heads next : List (Option ℕ)) (home home' : ℕ → Option ℕ) (n c : ℕ) (C : AreChains heads next home) (long : n < length next) (low : c < length heads) (idle : home n ≡ None) (here : home' n ≡ Some c) (other : (m : ℕ) → m ≢ n → home' m ≡ home m) where
  -- n stands in no chain
  out : (k : ℕ) (h : k < length heads) → Within n (C.chains k h).members → ⊥
  out k h i = not-some k (home n) idle ((C.chains k h).belongs n i)

  other-chain : (k : ℕ) → k < length heads → k ≢ c → Chain (set next n (link heads c)) home' (link (set heads c (Some n)) k) k
  other-chain k h ne =
      let d = C.chains k h in
      record {
        members = d.members;
        linked = subst (λ z. IsChain (set next n (link heads c)) z d.members) (sym (get_or-set_other heads c k (Some n) None ne)) (chain-kept next n (link heads c) (link heads k) d.members (out k h) d.linked);
        apart = d.apart;
        belongs = λ m i. other m (λ e. out k h (subst (λ z. Within z d.members) e i)) ∙ d.belongs m i;
        all = λ m e. elim (eqb_tells m n) as (λ _. Within m d.members) [
          | inl p ↦ absurd (ne (sym (some-is c k (sym here ∙ ap home' (sym p.1) ∙ e))))
          | inr p ↦ d.all m (sym (other m p.1) ∙ e)
        ];
      }

  own-chain : Chain (set next n (link heads c)) home' (link (set heads c (Some n)) c) c
  own-chain =
      let d = C.chains c low in
      record {
        members = n ∷ d.members;
        linked = (get_or-set_same heads c (Some n) None low, subst (λ z. IsChain (set next n (link heads c)) z d.members) (sym (get_or-set_same next n (link heads c) None long)) (chain-kept next n (link heads c) (link heads c) d.members (out c low) d.linked));
        apart = (out c low, d.apart);
        belongs = λ m i. elim i as (λ _. home' m ≡ Some c) [ inl e ↦ ap home' e ∙ here | inr j ↦ other m (λ e. out c low (subst (λ z. Within z d.members) e j)) ∙ d.belongs m j ];
        all = λ m e. elim (eqb_tells m n) as (λ _. Within m (n ∷ d.members)) [ inl p ↦ inl p.1 | inr p ↦ inr (d.all m (sym (other m p.1) ∙ e)) ];
      }

  pub put-chains : AreChains (set heads c (Some n)) (set next n (link heads c)) home'
  put-chains = record {
    chains = λ k h. let small : k < length heads = subst (λ z. k < z) (length-set heads c (Some n)) h in elim (eqb_tells k c) as (λ _. Chain (set next n (link heads c)) home' (link (set heads c (Some n)) k) k) [
      | inl p ↦ subst (λ z. Chain (set next n (link heads c)) home' (link (set heads c (Some n)) z) z) (sym p.1) own-chain
      | inr p ↦ other-chain k small p.1
    ];
    inside = λ m k e. subst (λ z. m < z) (sym (length-set next n (link heads c))) (elim (eqb_tells m n) as (λ _. m < length next) [
      | inl p ↦ subst (λ z. z < length next) (sym p.1) long
      | inr p ↦ C.inside m k (sym (other m p.1) ∙ e)
    ]);
  }
