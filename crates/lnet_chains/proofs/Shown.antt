-- What contracts see of links, where these change.
use Rattle.std.specs.Prelude.{◌≡◌, ℕ, ◌-◌, ◌<◌, ◌≤◌, ◌^◌, List, [], ◌++◌, replicate, length, Option, None, Some, true, false, refl}
use Rattle.std.proofs.Common.{get_or, set, length-set, get_or-set_same, get_or-set_other, true≢false, sym, ap, subst, ◌∙◌, arith}
use Rattle.std.specs.Option.{is_some}
use Rattle.std.proofs.lemmas.List.{get_or_default}
use Rattle.lnet_chains.specs.Lists.{ChainsValue, Within, list_of, with_first, without_place, grown}
use Rattle.lnet_chains.specs.Links.{Links, at, IsLinkSet, lists_of, value_of, AreChains}
use Rattle.lnet_chains.proofs.Listing.{lists-are}
use Rattle.lnet_chains.proofs.Changing.{IsFirstSet, first-inside, next-inside, prev-inside, node-inside, first-chains, gone-chains}
use Rattle.lnet_chains.proofs.Growing.{length-more, more-chains}

-- the links are chains through the lists that they list, and this is what contracts see of them
pub record Shows (firsts next prev : Links) (v : ChainsValue) : Type 0 where
  pub chains : AreChains firsts next prev (lists_of firsts next)
  pub value : value_of firsts next ≡ v

module _ (firsts next prev : Links) (v : ChainsValue) where
  -- the chains are the lists that contracts see
  pub chains-shown : Shows firsts next prev v → AreChains firsts next prev v.lists
  chains-shown shows = subst (λ (w : ChainsValue). AreChains firsts next prev w.lists) shows.value shows.chains

  pub places-shown : Shows firsts next prev v → length next ≡ v.places
  places-shown shows = ap (λ (w : ChainsValue). w.places) shows.value

  pub shows : AreChains firsts next prev v.lists → length next ≡ v.places → Shows firsts next prev v
  shows chains places =
      let is = lists-are firsts next prev v.lists chains in
      record {
        chains = subst (AreChains firsts next prev) (sym is) chains;
        value = ap (λ (ls : List (List ℕ)). let w : ChainsValue = record { lists = ls; places = length next } in w) is
            ∙ ap (λ (k : ℕ). let w : ChainsValue = record { lists = v.lists; places = k } in w) places;
      }

pub shows-nothing : Shows [] [] [] (record { lists = []; places = 0 })
shows-nothing = shows [] [] [] (record { lists = []; places = 0 })
    (record {
      nodes = refl;
      links = refl;
      few = omega arith;
      linked = λ n. refl;
      places = record { distinct = λ n. tt; apart = λ m n x i j. absurd i; inside = λ n x i. absurd i };
    })
    refl

-- what is read inside is the link
read-link : (links : Links) (i : ℕ) (link : Option ℕ) → i < length links → link ≡ get_or links i link → link ≡ at links i
read-link links i link low e = e ∙ get_or_default links i link None low

-- ---- the node's first is set, or stays

none-of : (o : Option ℕ) → is_some o ≡ false → o ≡ None
none-of None e = refl
none-of (Some x) e = absurd (true≢false e)

some-of : (o : Option ℕ) → is_some o ≡ true → o ≡ None → ⊥
some-of None e none = true≢false (sym e)
some-of (Some x) e none = let same : Some x ≡ None = none in cc

pub first-set : (firsts : Links) (n : ℕ) (before after : Option ℕ) → n < length firsts → is_some before ≡ false → IsFirstSet firsts (set firsts n after) n before after
first-set firsts n before after low e = record {
  moved = λ none. get_or-set_same firsts n after None low;
  stays = λ some. absurd (some (none-of before e));
  others = λ m ne. get_or-set_other firsts n m after None ne;
  len = length-set firsts n after;
}

pub first-kept : (firsts : Links) (n : ℕ) (before after : Option ℕ) → is_some before ≡ true → IsFirstSet firsts firsts n before after
first-kept firsts n before after e = record {
  moved = λ none. absurd (some-of before e none);
  stays = λ some. refl;
  others = λ m ne. refl;
  len = refl;
}

module _ (firsts next prev : Links) (v : ChainsValue) (before : Shows firsts next prev v) where
  chains : AreChains firsts next prev v.lists
  chains = chains-shown firsts next prev v before

  -- ---- a place comes first

  module _ (n c : ℕ) (head : Option ℕ) (node : n < length v.lists) (read : head ≡ get_or firsts n head) where
    node-low : n < length firsts
    node-low = let e = chains.nodes in omega arith

    -- the first place is a place
    pub head-low : (y : ℕ) → head ≡ Some y → y < length prev
    head-low y e =
        let low = first-inside firsts next prev v.lists chains n y (sym (read-link firsts n head node-low read) ∙ e) in
        let same = chains.links in
        omega arith

    pub shows-first : (prev1 : Links) → c < v.places → ((m : ℕ) → Within c (list_of v m) → ⊥) → IsLinkSet prev prev1 head (Some c)
        → Shows (set firsts n (Some c)) (set next c head) (set prev1 c None) (with_first v n c)
    shows-first prev1 place absent back =
        let is = read-link firsts n head node-low read in
        let low : c < length next = (let e = places-shown firsts next prev v before in omega arith) in
        shows (set firsts n (Some c)) (set next c head) (set prev1 c None) (with_first v n c)
        (subst (λ h. AreChains (set firsts n (Some c)) (set next c h) (set prev1 c None) (with_first v n c).lists) (sym is)
        (first-chains firsts next prev v.lists chains prev1 n c node-low low absent (subst (λ h. IsLinkSet prev prev1 h (Some c)) is back)))
        (length-set next c head ∙ places-shown firsts next prev v before)

  -- ---- a place goes

  module _ (n c : ℕ) (stands : Within c (list_of v n)) where
    pub node-there : n < length firsts
    node-there = node-inside firsts next prev v.lists chains n c stands

    pub place-next : c < length next
    place-next = chains.places.inside n c stands

    pub place-prev : c < length prev
    place-prev = let low = place-next in let e = chains.links in omega arith

    module _ (b a : Option ℕ) (read-prev : b ≡ get_or prev c b) (read-next : a ≡ get_or next c a) where
      was-before : b ≡ at prev c
      was-before = read-link prev c b place-prev read-prev

      was-after : a ≡ at next c
      was-after = read-link next c a place-next read-next

      -- what stands before the place, and what comes after it, is a place
      pub before-low : (y : ℕ) → b ≡ Some y → y < length next
      before-low y e = prev-inside firsts next prev v.lists chains n c y stands (sym was-before ∙ e)

      pub after-low : (y : ℕ) → a ≡ Some y → y < length prev
      after-low y e =
          let low = next-inside firsts next prev v.lists chains n c y stands (sym was-after ∙ e) in
          let same = chains.links in
          omega arith

      pub shows-without : (firsts2 next2 prev2 : Links) → IsLinkSet next next2 b a → IsLinkSet prev prev2 a b → IsFirstSet firsts firsts2 n b a
          → Shows firsts2 next2 prev2 (without_place v n c)
      shows-without firsts2 next2 prev2 forth back first =
          shows firsts2 next2 prev2 (without_place v n c)
          (gone-chains firsts next prev v.lists chains firsts2 next2 prev2 n c stands
          (subst (λ o. IsLinkSet next next2 (at prev c) o) was-after (subst (λ o. IsLinkSet next next2 o a) was-before forth))
          (subst (λ o. IsLinkSet prev prev2 (at next c) o) was-before (subst (λ o. IsLinkSet prev prev2 o b) was-after back))
          (subst (λ o. IsFirstSet firsts firsts2 n (at prev c) o) was-after (subst (λ o. IsFirstSet firsts firsts2 n o a) was-before first)))
          (forth.len ∙ places-shown firsts next prev v before)

  -- ---- there are more nodes and places

  pub nodes-shown : length firsts ≡ length v.lists
  nodes-shown = sym chains.nodes

  pub shows-more : (nodes places : ℕ) (firsts2 next2 prev2 : Links) → v.places ≤ places → places < 2 ^ 32
      → firsts2 ≡ firsts ++ replicate (nodes - length firsts) None → next2 ≡ next ++ replicate (places - length next) None
      → prev2 ≡ prev ++ replicate (places - length next) None → Shows firsts2 next2 prev2 (grown v nodes places)
  shows-more nodes places firsts2 next2 prev2 more few is-firsts is-next is-prev =
      let same = places-shown firsts next prev v before in
      let len : length (next ++ replicate (places - length next) None) ≡ places =
      (let e = length-more next (places - length next) None in omega arith) in
      rw (is-firsts, is-next, is-prev, nodes-shown)
      (shows (firsts ++ replicate (nodes - length v.lists) None) (next ++ replicate (places - length next) None) (prev ++ replicate (places - length next) None) (grown v nodes places)
      (more-chains firsts next prev v.lists chains (nodes - length v.lists) (places - length next) (omega arith)) len)
