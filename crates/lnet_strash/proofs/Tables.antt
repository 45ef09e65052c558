-- The table as one key comes or goes.
use Rattle.std.proofs.Common.{◌≡◌, ◌≢◌, ℕ, zero, suc, ◌<◌, ◌≤◌, Bool, List, [], ◌∷◌, length, Option, None, Some, option_map, refl, sym, ap, subst, ◌∙◌, inl, inr, arith, set, get_or-set_same, get_or-set_other, length-set}
use Rattle.std.proofs.lemmas.Bool.Decides.{eqb_tells}
use Rattle.lnet_gates.specs.Gates.{KeyValue}
use Rattle.lnet_strash.specs.Keys.{chain_of}
use Rattle.lnet_strash.specs.Standing.{Standing, KeysDiffer, at}
use Rattle.lnet_strash.specs.Chains.{link, home_of, AreChains, IsTable, IsAbsent}
use Rattle.lnet_strash.proofs.Links.{not-some, put-chains}
use Rattle.lnet_strash.proofs.Cuts.{cut-head, cut-link}
use Rattle.lnet_strash.proofs.Walks.{home-inside}

pub at-other : (t : Standing) (n : ℕ) (e : Option (KeyValue × Bool)) (m : ℕ) → m ≢ n → at (set t n e) m ≡ at t m
at-other t n e m ne = get_or-set_other t n m e None ne

pub at-same : (t : Standing) (n : ℕ) (e : Option (KeyValue × Bool)) → n < length t → at (set t n e) n ≡ e
at-same t n e h = get_or-set_same t n e None h

abbrev key_or : KeyValue → Option (KeyValue × Bool) → KeyValue
key_or k None = k
key_or k (Some s) = s.0

pub key-is : (a : KeyValue) (s u : KeyValue × Bool) → Some s ≡ Some u → s.0 ≡ u.0
key-is a s u e = ap (key_or a) e

abbrev phase_or : Bool → Option (KeyValue × Bool) → Bool
phase_or p None = p
phase_or p (Some s) = s.1

pub place-phase : (s u : KeyValue × Bool) → Some s ≡ Some u → s.1 ≡ u.1
place-phase s u e = ap (phase_or s.1) e

-- what stands has its place
pub place-inside : (t : Standing) (n : ℕ) (e : KeyValue × Bool) → at t n ≡ Some e → n < length t
place-inside [] n e h = absurd (not-some e None refl h)
place-inside (s ∷ t) zero e h = omega arith
place-inside (s ∷ t) (suc n) e h = let less = place-inside t n e h in omega arith

-- the chain of what stands at n
pub home-like : (chains : ℕ) (t u : Standing) (n : ℕ) → at t n ≡ at u n → home_of chains t n ≡ home_of chains u n
home-like chains t u n e = ap (option_map (λ (s : KeyValue × Bool). chain_of chains s.0)) e

-- one key more
module _ (heads next : List (Option ℕ)) (t : Standing) (T : IsTable heads next t) (n : ℕ) (k : KeyValue) (p : Bool) (inside : n < length t) (free : at t n ≡ None) (absent : IsAbsent t k) (low : chain_of (length heads) k < length heads) where
  differ-insert : KeysDiffer (set t n (Some (k, p)))
  differ-insert = record { one = both }
    where
      new : (m : ℕ) (j : KeyValue) (q : Bool) → m ≢ n → at (set t n (Some (k, p))) m ≡ Some (j, q) → at t m ≡ Some (j, q)
      new m j q ne e = sym (at-other t n (Some (k, p)) m ne) ∙ e

      own : (m : ℕ) (j : KeyValue) (q : Bool) → m ≡ n → at (set t n (Some (k, p))) m ≡ Some (j, q) → k ≡ j
      own m j q same e = key-is k (k, p) (j, q) (sym (at-same t n (Some (k, p)) inside) ∙ ap (at (set t n (Some (k, p)))) (sym same) ∙ e)

      both : (l m : ℕ) (j : KeyValue) (q r : Bool) → at (set t n (Some (k, p))) l ≡ Some (j, q) → at (set t n (Some (k, p))) m ≡ Some (j, r) → l ≡ m
      both l m j q r e f = elim (eqb_tells l n) as (λ _. l ≡ m) [
        | inl a ↦ elim (eqb_tells m n) as (λ _. l ≡ m) [
          | inl b ↦ a.1 ∙ sym b.1
          | inr b ↦ absurd (absent m r (new m j r b.1 f ∙ ap (λ z. Some (z, r)) (sym (own l j q a.1 e))))
        ]
        | inr a ↦ elim (eqb_tells m n) as (λ _. l ≡ m) [
          | inl b ↦ absurd (absent l q (new l j q a.1 e ∙ ap (λ z. Some (z, q)) (sym (own m j r b.1 f))))
          | inr b ↦ T.differ.one l m j q r (new l j q a.1 e) (new m j r b.1 f)
        ]
      ]

  pub table-insert : IsTable (set heads (chain_of (length heads) k) (Some n)) (set next n (link heads (chain_of (length heads) k))) (set t n (Some (k, p)))
  table-insert =
      let c : ℕ = chain_of (length heads) k in
      let t' : Standing = set t n (Some (k, p)) in
      let long : length (set heads c (Some n)) ≡ length heads = length-set heads c (Some n) in
      let links : length (set next n (link heads c)) ≡ length next = length-set next n (link heads c) in
      let places : length (set t n (Some (k, p))) ≡ length t = length-set t n (Some (k, p)) in
      record {
        some = subst (λ z. 0 < z) (sym long) T.some;
        links = (let h = T.links in omega arith);
        few = subst (λ z. z < 4294967296) (sym places) T.few;
        chains = subst (λ z. AreChains (set heads c (Some n)) (set next n (link heads c)) (home_of z t')) (sym long)
            (put-chains heads next (home_of (length heads) t) (home_of (length heads) t') n c T.chains (let h = T.links in omega arith) low
            (ap (option_map (λ (s : KeyValue × Bool). chain_of (length heads) s.0)) free)
            (ap (option_map (λ (s : KeyValue × Bool). chain_of (length heads) s.0)) (at-same t n (Some (k, p)) inside))
            (λ m ne. home-like (length heads) t' t m (at-other t n (Some (k, p)) m ne)));
        differ = differ-insert;
      }

-- one key less
module _ (heads next : List (Option ℕ)) (t : Standing) (T : IsTable heads next t) (n c : ℕ) (low : c < length heads) (home : home_of (length heads) t n ≡ Some c) where
  pub inside-remove : n < length t
  inside-remove = home-inside (length heads) t n c home

  differ-remove : KeysDiffer (set t n None)
  differ-remove = record { one = λ l m j q r e f. T.differ.one l m j q r (was l j q e) (was m j r f) }
    where
      was : (m : ℕ) (j : KeyValue) (q : Bool) → at (set t n None) m ≡ Some (j, q) → at t m ≡ Some (j, q)
      was m j q e = elim (eqb_tells m n) as (λ _. at t m ≡ Some (j, q)) [
        | inl a ↦ absurd (not-some (j, q) (at (set t n None) m) (ap (at (set t n None)) a.1 ∙ at-same t n None inside-remove) e)
        | inr a ↦ sym (at-other t n None m a.1) ∙ e
      ]

  gone : home_of (length heads) (set t n None) n ≡ None
  gone = ap (option_map (λ (s : KeyValue × Bool). chain_of (length heads) s.0)) (at-same t n None inside-remove)

  other : (m : ℕ) → m ≢ n → home_of (length heads) (set t n None) m ≡ home_of (length heads) t m
  other m ne = home-like (length heads) (set t n None) t m (at-other t n None m ne)

  places : length (set t n None) ≡ length t
  places = length-set t n None

  pub table-remove-first : link heads c ≡ Some n → IsTable (set heads c (link next n)) next (set t n None)
  table-remove-first leads =
      let long : length (set heads c (link next n)) ≡ length heads = length-set heads c (link next n) in
      record {
        some = subst (λ z. 0 < z) (sym long) T.some;
        links = subst (λ z. z ≤ length next) (sym places) T.links;
        few = subst (λ z. z < 4294967296) (sym places) T.few;
        chains = subst (λ z. AreChains (set heads c (link next n)) next (home_of z (set t n None))) (sym long)
            (cut-head heads next (home_of (length heads) t) (home_of (length heads) (set t n None)) n c T.chains low home gone other leads);
        differ = differ-remove;
      }

  pub table-remove-later : (b : ℕ) → home_of (length heads) t b ≡ Some c → link next b ≡ Some n → IsTable heads (set next b (link next n)) (set t n None)
  table-remove-later b belongs leads = record {
    some = T.some;
    links = (let e = length-set next b (link next n) in let f = places in let h = T.links in omega arith);
    few = subst (λ z. z < 4294967296) (sym places) T.few;
    chains = cut-link heads next (home_of (length heads) t) (home_of (length heads) (set t n None)) n c T.chains low home gone other b belongs leads;
    differ = differ-remove;
  }
