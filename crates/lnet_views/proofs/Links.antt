-- A number put at the head of its chain.
use Rattle.std.proofs.Common.{◌≡◌, ◌≢◌, ℕ, zero, suc, ◌+◌, ◌<◌, ◌≤◌, List, [], ◌∷◌, length, Option, None, Some, refl, sym, ap, subst, ◌∙◌, inl, inr, arith, get_or, set, get_or-set_same, get_or-set_other, length-set}
use Rattle.std.proofs.lemmas.Bool.Decides.{eqb_tells}
use Rattle.std.proofs.lemmas.List.{get_or_default}
use Rattle.lnet_views.specs.Chains.{at, Within, Distinct, IsChain, Chain, AreChains, IsLowest, IsQueue, IsIdle}
use Rattle.lnet_views.specs.declared.queue.Queue.{Queue}
use Rattle.lnet_views.proofs.Waits.{all-idle}
use Rattle.std.proofs.lemmas.Bool.{cases_lt}
use Rattle.std.proofs.lemmas.List.{get_or_past}

-- a link outside a chain may change
chain-kept : (next : List (Option ℕ)) (n : ℕ) (o head : Option ℕ) (ns : List ℕ) → (Within n ns → ⊥) → IsChain next head ns → IsChain (set next n o) head ns
chain-kept next n o head [] out c = c
chain-kept next n o head (m ∷ ms) out c =
    let ne : m ≢ n = λ e. out (inl (sym e)) in
    (c.0, subst (λ h. IsChain (set next n o) h ms) (sym (get_or-set_other next n m o None ne)) (chain-kept next n o (at next m) ms (λ i. out (inr i)) c.1))

level-is : (a b : ℕ) → Some a ≡ Some b → a ≡ b
level-is a b e = cc

module _ (heads next levels : List (Option ℕ)) (floor n l : ℕ) (C : AreChains heads next levels floor) (inside : n < length levels) (low : l < length heads) (over : floor ≤ l) (idle : at levels n ≡ None) where
  here : at (set levels n (Some l)) n ≡ Some l
  here = get_or-set_same levels n (Some l) None inside

  other : (m : ℕ) → m ≢ n → at (set levels n (Some l)) m ≡ at levels m
  other m ne = get_or-set_other levels n m (Some l) None ne

  -- n stands in no chain
  out : (k : ℕ) (h : k < length heads) → Within n (C.chains k h).members → ⊥
  out k h i = let e : None ≡ Some k = sym idle ∙ (C.chains k h).waits n i in cc

  -- the chains of other levels stay
  other-chain : (k : ℕ) → k < length heads → k ≢ l → Chain (set next n (at heads l)) (set levels n (Some l)) (at (set heads l (Some n)) k) k
  other-chain k h ne =
      let c = C.chains k h in
      record {
        members = c.members;
        chain = subst (λ z. IsChain (set next n (at heads l)) z c.members) (sym (get_or-set_other heads l k (Some n) None ne)) (chain-kept next n (at heads l) (at heads k) c.members (out k h) c.chain);
        apart = c.apart;
        waits = λ m i. other m (λ e. out k h (subst (λ z. Within z c.members) e i)) ∙ c.waits m i;
        all = λ m e. elim (eqb_tells m n) as (λ _. Within m c.members) [
          | inl p ↦ absurd (ne (sym (level-is l k (sym here ∙ ap (at (set levels n (Some l))) (sym p.1) ∙ e))))
          | inr p ↦ c.all m (sym (other m p.1) ∙ e)
        ];
      }

  own-chain : n < length next → Chain (set next n (at heads l)) (set levels n (Some l)) (at (set heads l (Some n)) l) l
  own-chain long =
      let c = C.chains l low in
      record {
        members = n ∷ c.members;
        chain = (get_or-set_same heads l (Some n) None low, subst (λ z. IsChain (set next n (at heads l)) z c.members) (sym (get_or-set_same next n (at heads l) None long)) (chain-kept next n (at heads l) (at heads l) c.members (out l low) c.chain));
        apart = (out l low, c.apart);
        waits = λ m i. elim i as (λ _. at (set levels n (Some l)) m ≡ Some l) [ inl e ↦ ap (at (set levels n (Some l))) e ∙ here | inr j ↦ other m (λ e. out l low (subst (λ z. Within z c.members) e j)) ∙ c.waits m j ];
        all = λ m e. elim (eqb_tells m n) as (λ _. Within m (n ∷ c.members)) [ inl p ↦ inl p.1 | inr p ↦ inr (c.all m (sym (other m p.1) ∙ e)) ];
      }

  pub put-chains : AreChains (set heads l (Some n)) (set next n (at heads l)) (set levels n (Some l)) floor
  put-chains = record {
    len = (let a = length-set next n (at heads l) in let b = length-set levels n (Some l) in let e = C.len in omega arith);
    chains = λ k h. let small : k < length heads = subst (λ z. k < z) (length-set heads l (Some n)) h in elim (eqb_tells k l) as (λ _. Chain (set next n (at heads l)) (set levels n (Some l)) (at (set heads l (Some n)) k) k) [
      | inl p ↦ subst (λ z. Chain (set next n (at heads l)) (set levels n (Some l)) (at (set heads l (Some n)) z) z) (sym p.1) (own-chain (let e = C.len in omega arith))
      | inr p ↦ other-chain k small p.1
    ];
    inside = λ m k e. subst (λ z. k < z) (sym (length-set heads l (Some n))) (elim (eqb_tells m n) as (λ _. k < length heads) [
      | inl p ↦ subst (λ z. z < length heads) (level-is l k (sym here ∙ ap (at (set levels n (Some l))) (sym p.1) ∙ e)) low
      | inr p ↦ C.inside m k (sym (other m p.1) ∙ e)
    ]);
    above = λ m k e. elim (eqb_tells m n) as (λ _. floor ≤ k) [
      | inl p ↦ subst (λ z. floor ≤ z) (level-is l k (sym here ∙ ap (at (set levels n (Some l))) (sym p.1) ∙ e)) over
      | inr p ↦ C.above m k (sym (other m p.1) ∙ e)
    ];
  }

-- what stands inside a list doesn't hang on the default
pub get_or-is : {X : Type 0} (xs : List X) (i : ℕ) (x d : X) → i < length xs → x ≡ get_or xs i x → x ≡ get_or xs i d
get_or-is xs i x d h e = e ∙ get_or_default xs i x d h

head-in : (next : List (Option ℕ)) (head : Option ℕ) (n : ℕ) (ns : List ℕ) → IsChain next head ns → head ≡ Some n → (ms : List ℕ) × (ns ≡ n ∷ ms) × IsChain next (at next n) ms
head-in next head n [] c e = let z : None ≡ Some n = sym c ∙ e in cc
head-in next head n (m ∷ ms) c e = let is : m ≡ n = level-is m n (sym c.0 ∙ e) in (ms, ap (λ z. z ∷ ms) is, subst (λ z. IsChain next (at next z) ms) is c.1)

pub inside-list : (levels : List (Option ℕ)) (n l : ℕ) → at levels n ≡ Some l → n < length levels
inside-list [] n l e = let z : None ≡ Some l = e in cc
inside-list (x ∷ xs) zero l e = omega arith
inside-list (x ∷ xs) (suc n) l e = let h = inside-list xs n l e in omega arith

none-in : (next : List (Option ℕ)) (ns : List ℕ) (m : ℕ) → IsChain next None ns → Within m ns → ⊥
none-in next [] m c i = i
none-in next (n ∷ ns) m c i = let z : None ≡ Some n = c.0 in cc

module _ (heads next levels : List (Option ℕ)) (floor n l : ℕ) (C : AreChains heads next levels floor) (low : l < length heads) (head : at heads l ≡ Some n) where
  split : (ms : List ℕ) × ((C.chains l low).members ≡ n ∷ ms) × IsChain next (at next n) ms
  split = head-in next (at heads l) n (C.chains l low).members (C.chains l low).chain head

  pub head-waits : at levels n ≡ Some l
  head-waits = (C.chains l low).waits n (subst (Within n) (sym split.1) (inl refl))

  pub head-inside : n < length levels
  head-inside = inside-list levels n l head-waits

  gone : at (set levels n None) n ≡ None
  gone = get_or-set_same levels n None None head-inside

  rest : (m : ℕ) → m ≢ n → at (set levels n None) m ≡ at levels m
  rest m ne = get_or-set_other levels n m None None ne

  not-gone : (m k : ℕ) → at (set levels n None) m ≡ Some k → m ≢ n
  not-gone m k e is = let z : None ≡ Some k = sym gone ∙ ap (at (set levels n None)) (sym is) ∙ e in cc

  was-at : (m k : ℕ) → at (set levels n None) m ≡ Some k → at levels m ≡ Some k
  was-at m k e = sym (rest m (not-gone m k e)) ∙ e

  popped : Chain next (set levels n None) (at (set heads l (at next n)) l) l
  popped =
      let c = C.chains l low in
      let d : Distinct (n ∷ split.0) = subst Distinct split.1 c.apart in
      record {
        members = split.0;
        chain = subst (λ z. IsChain next z split.0) (sym (get_or-set_same heads l (at next n) None low)) split.2;
        apart = d.1;
        waits = λ m i. rest m (λ e. d.0 (subst (λ z. Within z split.0) e i)) ∙ c.waits m (subst (Within m) (sym split.1) (inr i));
        all = λ m e. elim (subst (Within m) split.1 (c.all m (was-at m l e))) as (λ _. Within m split.0) [ inl p ↦ absurd (not-gone m l e p) | inr i ↦ i ];
      }

  kept-chain : (k : ℕ) → k < length heads → k ≢ l → Chain next (set levels n None) (at (set heads l (at next n)) k) k
  kept-chain k h ne =
      let c = C.chains k h in
      record {
        members = c.members;
        chain = subst (λ z. IsChain next z c.members) (sym (get_or-set_other heads l k (at next n) None ne)) c.chain;
        apart = c.apart;
        waits = λ m i. rest m (λ e. ne (level-is k l (sym (c.waits m i) ∙ ap (at levels) e ∙ head-waits))) ∙ c.waits m i;
        all = λ m e. c.all m (was-at m k e);
      }

  pub take-chains : AreChains (set heads l (at next n)) next (set levels n None) floor
  take-chains = record {
    len = (let b = length-set levels n None in let e = C.len in omega arith);
    chains = λ k h. let small : k < length heads = subst (λ z. k < z) (length-set heads l (at next n)) h in elim (eqb_tells k l) as (λ _. Chain next (set levels n None) (at (set heads l (at next n)) k) k) [
      | inl p ↦ subst (λ z. Chain next (set levels n None) (at (set heads l (at next n)) z) z) (sym p.1) popped
      | inr p ↦ kept-chain k small p.1
    ];
    inside = λ m k e. subst (λ z. k < z) (sym (length-set heads l (at next n))) (C.inside m k (was-at m k e));
    above = λ m k e. C.above m k (was-at m k e);
  }

pub raise-floor : (heads next levels : List (Option ℕ)) (floor : ℕ) → AreChains heads next levels floor → floor < length heads → at heads floor ≡ None → AreChains heads next levels (floor + 1)
raise-floor heads next levels floor C low empty = record {
  len = C.len;
  chains = C.chains;
  inside = C.inside;
  above = λ m k e. elim (eqb_tells k floor) as (λ _. floor + 1 ≤ k) [
    | inl p ↦ absurd (none-in next (C.chains floor low).members m (subst (λ z. IsChain next z (C.chains floor low).members) empty (C.chains floor low).chain) ((C.chains floor low).all m (e ∙ ap (λ z. Some z) p.1)))
    | inr p ↦ (let a = C.above m k e in let b = p.1 in omega arith)
  ];
}

pub head-lowest : (heads next levels before : List (Option ℕ)) (floor n : ℕ) → AreChains heads next levels floor → floor < length heads → at heads floor ≡ Some n → levels ≡ before → IsLowest before n
head-lowest heads next levels before floor n C low head same = subst (λ z. IsLowest z n) same (record {
  level = floor;
  waits = head-waits heads next levels floor n floor C low head;
  least = C.above;
})

-- ---- where nothing waits

module _ (q : Queue) where
  pub idle-queue : IsIdle q → IsQueue q
  idle-queue I = record {
    chains = record {
      len = I.next_len;
      chains = λ l h. record {
        members = [];
        chain = I.heads l;
        apart = tt;
        waits = λ n i. absurd i;
        all = λ n e. let z : None ≡ Some l = sym (I.levels n) ∙ e in cc;
      };
      inside = λ n l e. let z : None ≡ Some l = sym (I.levels n) ∙ e in cc;
      above = λ n l e. let z : None ≡ Some l = sym (I.levels n) ∙ e in cc;
    };
    count = I.count ∙ sym (all-idle q.levels.items I.levels);
  }

  no-head : (next levels : List (Option ℕ)) (l : ℕ) (head : Option ℕ) → Chain next levels head l → ((n : ℕ) → at levels n ≡ None) → head ≡ None
  no-head next levels l head C idle = elim C.members as (λ ms. (C.members ≡ ms) → head ≡ None) [
    | [] ↦ λ e. subst (IsChain next head) e C.chain
    | m ∷ ms ↦ λ e. (let z : None ≡ Some l = sym (idle m) ∙ C.waits m (subst (Within m) (sym e) (inl refl)) in cc)
  ] refl

  pub queue-idle : IsQueue q → ((n : ℕ) → at q.levels.items n ≡ None) → IsIdle q
  queue-idle Q idle = record {
    heads = λ l. elim (cases_lt l (length q.heads.items)) as (λ _. at q.heads.items l ≡ None) [
      | inl h ↦ no-head q.next.items q.levels.items l (at q.heads.items l) (Q.chains.chains l h) idle
      | inr h ↦ get_or_past q.heads.items l None h
    ];
    levels = idle;
    count = Q.count ∙ all-idle q.levels.items idle;
    next_len = Q.chains.len;
  }
