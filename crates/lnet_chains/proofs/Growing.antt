-- All chains, where there are more nodes and places.
use Rattle.std.proofs.Common.{◌≡◌, ℕ, zero, suc, ◌+◌, ◌<◌, ◌^◌, List, [], ◌∷◌, ◌++◌, replicate, length, get_or, length-append, None, refl, sym, ap, subst, ◌∙◌, arith}
use Rattle.std.proofs.lemmas.List.{length-replicate}
use Rattle.lnet_chains.specs.Lists.{Within, Distinct}
use Rattle.lnet_chains.specs.Links.{Links, at, IsChain, AreChains}
use Rattle.lnet_chains.proofs.Chaining.{chain-kept}

-- more of what is read past the end is read as none was
more-read : {X : Type 0} (xs : List X) (k : ℕ) (d : X) (i : ℕ) → get_or (xs ++ replicate k d) i d ≡ get_or xs i d
more-read [] zero d i = refl
more-read [] (suc k) d zero = refl
more-read [] (suc k) d (suc i) = more-read [] k d i
more-read (x ∷ xs) k d zero = refl
more-read (x ∷ xs) k d (suc i) = more-read xs k d i

pub length-more : {X : Type 0} (xs : List X) (k : ℕ) (d : X) → length (xs ++ replicate k d) ≡ length xs + k
length-more xs k d = length-append xs (replicate k d) ∙ ap (λ z. length xs + z) (length-replicate k d)

module _ (firsts next prev : Links) (lists : List (List ℕ)) (chains : AreChains firsts next prev lists) (nodes places : ℕ) where
  firsts2 : Links
  firsts2 = firsts ++ replicate nodes None

  next2 : Links
  next2 = next ++ replicate places None

  prev2 : Links
  prev2 = prev ++ replicate places None

  lists2 : List (List ℕ)
  lists2 = lists ++ replicate nodes []

  more-linked : (n : ℕ) → IsChain next2 prev2 None (at firsts2 n) (get_or lists2 n [])
  unfolding firsts2 next2 prev2 lists2
  more-linked n = subst (IsChain next2 prev2 None (at firsts2 n)) (sym (more-read lists nodes [] n))
      (subst (λ z. IsChain next2 prev2 None z (get_or lists n [])) (sym (more-read firsts nodes None n))
      (chain-kept next prev next2 prev2 None (at firsts n) (get_or lists n [])
      (λ y i. more-read next places None y) (λ y i. more-read prev places None y) (chains.linked n)))

  -- what stands in a list stood there
  more-from : (n x : ℕ) → Within x (get_or lists2 n []) → Within x (get_or lists n [])
  unfolding lists2
  more-from n x i = subst (Within x) (more-read lists nodes [] n) i

  more-low : (n x : ℕ) → Within x (get_or lists2 n []) → x < length next2
  unfolding next2
  more-low n x i = let low = chains.places.inside n x (more-from n x i) in let e = length-more next places None in omega arith

  pub more-chains : length next + places < 2 ^ 32
      → AreChains (firsts ++ replicate nodes None) (next ++ replicate places None) (prev ++ replicate places None) (lists ++ replicate nodes [])
  unfolding firsts2 next2 prev2 lists2
  more-chains few = record {
    nodes = length-more lists nodes [] ∙ ap (λ z. z + nodes) chains.nodes ∙ sym (length-more firsts nodes None);
    links = length-more prev places None ∙ ap (λ z. z + places) chains.links ∙ sym (length-more next places None);
    few = subst (λ z. z < 2 ^ 32) (sym (length-more next places None)) few;
    linked = more-linked;
    places = record {
      distinct = λ n. subst Distinct (sym (more-read lists nodes [] n)) (chains.places.distinct n);
      apart = λ m n x i j. chains.places.apart m n x (more-from m x i) (more-from n x j);
      inside = more-low;
    };
  }
