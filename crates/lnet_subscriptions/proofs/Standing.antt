-- The live views in the slots of their network, as slots and lists change.
use Rattle.std.proofs.Common.{◌≡◌, ◌≢◌, ℕ, zero, suc, List, [], ◌∷◌, ◌++◌, length, Option, None, Some, IsSome, option_map, slice_get, slice_index_or, refl, sym, ap, subst, ◌∙◌}
use Rattle.std.specs.Prelude.{IsSomeAnd}
use Rattle.std.specs.List.{remove}
use Rattle.lnet_model.specs.Answers.{kind_for}
use Rattle.lnet_model.specs.declared.view_spec.ViewKind.{ViewKind}
use Rattle.lnet_model.specs.declared.view_spec.ViewSpec.{ViewSpec}
use Rattle.lnet_model.specs.Answers.{Answer}
use Rattle.lnet_hashed.specs.Views.{StandsAs, OthersSame, IsDetachedFrom}
use Rattle.lnet_network.specs.declared.viewing.ViewId.{ViewId}
use Rattle.lnet_subscriptions.specs.Kept.{IsApart, Stand}

-- one id among the others
apart-push : (n : ℕ) (ids : List ViewId) (id : ViewId) → IsApart n ids → n ≢ id.0 → IsApart n (ids ++ id ∷ [])
apart-push n [] id a ne = (ne, tt)
apart-push n (i ∷ ids) id a ne = (a.0, apart-push n ids id a.1 ne)

pub apart-without : (n i : ℕ) (ids : List ViewId) → IsApart n ids → IsApart n (remove ids i)
apart-without n zero [] a = tt
apart-without n (suc i) [] a = tt
apart-without n zero (id ∷ ids) a = a.1
apart-without n (suc i) (id ∷ ids) a = (a.0, apart-without n i ids a.1)

module _ {B : Type 0} (kind_of : B → ViewKind) (spec_of : B → Option ViewSpec) where
  pub stand-len : (slots : List (Option B)) (ps : List (ℕ × ViewSpec)) (ids : List ViewId) → Stand kind_of spec_of slots ps ids → length ids ≡ length ps
  stand-len slots [] [] h = refl
  stand-len slots [] (id ∷ ids) h = absurd h
  stand-len slots (p ∷ ps) [] h = absurd h
  stand-len slots (p ∷ ps) (id ∷ ids) h = ap suc (stand-len slots ps ids h.2)

  -- the view of a place
  pub stand-at :
      (slots : List (Option B)) (ps : List (ℕ × ViewSpec)) (ids : List ViewId) (i : ℕ) (p : ℕ × ViewSpec) (id : ViewId) → Stand kind_of spec_of slots ps ids → slice_get ps i ≡ Some p →
      slice_get ids i ≡ Some id → IsSomeAnd (slice_index_or slots id.0 None) (StandsAs kind_of spec_of (kind_for p.1) p.1)
  stand-at slots [] ids i p id h at at_id = cc
  stand-at slots (q ∷ ps) [] i p id h at at_id = cc
  stand-at slots (q ∷ ps) (j ∷ ids) zero p id h at at_id =
      let same : q ≡ p = cc in
      let same_id : j ≡ id = cc in
      subst (λ (x : ℕ × ViewSpec). IsSomeAnd (slice_index_or slots id.0 None) (StandsAs kind_of spec_of (kind_for x.1) x.1)) same
      (subst (λ (x : ViewId). IsSomeAnd (slice_index_or slots x.0 None) (StandsAs kind_of spec_of (kind_for q.1) q.1)) same_id h.0)
  stand-at slots (q ∷ ps) (j ∷ ids) (suc i) p id h at at_id = stand-at slots ps ids i p id h.2 at at_id

  -- a slot that no live view stands in
  apart-some : (slots : List (Option B)) (n m : ℕ) (P : B → Type 0) → slice_index_or slots n None ≡ None → IsSomeAnd (slice_index_or slots m None) P → n ≢ m
  apart-some slots n m P free some same = not_both (slice_index_or slots m None) (ap (λ k. slice_index_or slots k None) (sym same) ∙ free) some where
    not_both : (o : Option B) → o ≡ None → IsSomeAnd o P → ⊥
    not_both None e h = h
    not_both (Some b) e h = cc

  pub apart-free : (slots : List (Option B)) (ps : List (ℕ × ViewSpec)) (ids : List ViewId) (n : ℕ) → Stand kind_of spec_of slots ps ids → slice_index_or slots n None ≡ None → IsApart n ids
  apart-free slots [] [] n h free = tt
  apart-free slots [] (id ∷ ids) n h free = absurd h
  apart-free slots (p ∷ ps) [] n h free = absurd h
  apart-free slots (p ∷ ps) (id ∷ ids) n h free = (apart-some slots n id.0 (StandsAs kind_of spec_of (kind_for p.1) p.1) free h.0, apart-free slots ps ids n h.2 free)

  -- another slot changed
  pub stand-others :
      (old new : List (Option B)) (ps : List (ℕ × ViewSpec)) (ids : List ViewId) (n : ℕ) → OthersSame old new n → IsApart n ids → Stand kind_of spec_of old ps ids →
      Stand kind_of spec_of new ps ids
  stand-others old new [] [] n same a h = tt
  stand-others old new [] (id ∷ ids) n same a h = h
  stand-others old new (p ∷ ps) [] n same a h = h
  stand-others old new (p ∷ ps) (id ∷ ids) n same a h =
      (subst (λ (o : Option B). IsSomeAnd o (StandsAs kind_of spec_of (kind_for p.1) p.1)) (sym (same id.0 (λ e. a.0 (sym e)))) h.0, h.1, stand-others old new ps ids n same a.1 h.2)

  -- one more live view
  pub stand-more :
      (slots : List (Option B)) (ps : List (ℕ × ViewSpec)) (ids : List ViewId) (p : ℕ × ViewSpec) (id : ViewId) → IsApart id.0 ids →
      IsSomeAnd (slice_index_or slots id.0 None) (StandsAs kind_of spec_of (kind_for p.1) p.1) → Stand kind_of spec_of slots ps ids → Stand kind_of spec_of slots (ps ++ p ∷ []) (ids ++ id ∷ [])
  stand-more slots [] [] p id a here h = (here, tt, tt)
  stand-more slots [] (j ∷ ids) p id a here h = absurd h
  stand-more slots (q ∷ ps) [] p id a here h = absurd h
  stand-more slots (q ∷ ps) (j ∷ ids) p id a here h = (h.0, apart-push j.0 ids id h.1 (λ e. a.0 (sym e)), stand-more slots ps ids p id a.1 here h.2)

  -- one live view less
  pub stand-without : (slots : List (Option B)) (ps : List (ℕ × ViewSpec)) (ids : List ViewId) (i : ℕ) → Stand kind_of spec_of slots ps ids → Stand kind_of spec_of slots (remove ps i) (remove ids i)
  stand-without slots [] [] zero h = tt
  stand-without slots [] [] (suc i) h = tt
  stand-without slots [] (id ∷ ids) i h = absurd h
  stand-without slots (p ∷ ps) [] i h = absurd h
  stand-without slots (p ∷ ps) (id ∷ ids) zero h = h.2
  stand-without slots (p ∷ ps) (id ∷ ids) (suc i) h = (h.0, apart-without id.0 i ids h.1, stand-without slots ps ids i h.2)

  pub apart-gone :
      (slots : List (Option B)) (ps : List (ℕ × ViewSpec)) (ids : List ViewId) (i : ℕ) (id : ViewId) → Stand kind_of spec_of slots ps ids → slice_get ids i ≡ Some id → IsApart id.0 (remove ids i)
  apart-gone slots [] [] i id h at = cc
  apart-gone slots [] (j ∷ ids) i id h at = absurd h
  apart-gone slots (p ∷ ps) [] i id h at = absurd h
  apart-gone slots (p ∷ ps) (j ∷ ids) zero id h at = let same : j ≡ id = cc in subst (λ (x : ViewId). IsApart x.0 ids) same h.1
  apart-gone slots (p ∷ ps) (j ∷ ids) (suc i) id h at = (λ e. apart-in ids i id (subst (λ n. IsApart n ids) (sym e) h.1) at, apart-gone slots ps ids i id h.2 at)
    where
      apart-in : (ids : List ViewId) (i : ℕ) (id : ViewId) → IsApart id.0 ids → slice_get ids i ≡ Some id → ⊥
      apart-in [] i id a at = cc
      apart-in (j ∷ ids) zero id a at = let same : j ≡ id = cc in a.0 (ap (λ (x : ViewId). x.0) (sym same))
      apart-in (j ∷ ids) (suc i) id a at = apart-in ids i id a.1 at

  -- a view attached in an empty slot, and entered as the last live one
  pub stand-entered :
      (old new : List (Option B)) (ps qs : List (ℕ × ViewSpec)) (ids js : List ViewId) (p : ℕ × ViewSpec) (id : ViewId) (kind : ViewKind) → slice_index_or old id.0 None ≡ None →
      OthersSame old new id.0 → IsSomeAnd (slice_index_or new id.0 None) (StandsAs kind_of spec_of kind p.1) → kind_for p.1 ≡ kind → qs ≡ ps ++ p ∷ [] → js ≡ ids ++ id ∷ [] →
      Stand kind_of spec_of old ps ids → Stand kind_of spec_of new qs js
  stand-entered old new ps qs ids js p id kind free same here of_kind live is h =
      let apart = apart-free old ps ids id.0 h free in
      let mine = subst (λ (k : ViewKind). IsSomeAnd (slice_index_or new id.0 None) (StandsAs kind_of spec_of k p.1)) (sym of_kind) here in
      subst (λ (ls : List (ℕ × ViewSpec)). Stand kind_of spec_of new ls js) (sym live)
      (subst (λ (xs : List ViewId). Stand kind_of spec_of new (ps ++ p ∷ []) xs) (sym is) (stand-more new ps ids p id apart mine (stand-others old new ps ids id.0 same apart h)))

  -- a view taken out of its slot
  pub stand-gone :
      (old new : List (Option B)) (ps qs : List (ℕ × ViewSpec)) (ids js : List ViewId) (i : ℕ) (id : ViewId) → OthersSame old new id.0 → slice_get ids i ≡ Some id → qs ≡ remove ps i →
      js ≡ remove ids i → Stand kind_of spec_of old ps ids → Stand kind_of spec_of new qs js
  stand-gone old new ps qs ids js i id same at live is h =
      subst (λ (ls : List (ℕ × ViewSpec)). Stand kind_of spec_of new ls js) (sym live) (subst (λ (xs : List ViewId). Stand kind_of spec_of new (remove ps i) xs) (sym is) (stand-others old new (remove ps i) (remove ids i) id.0 same (apart-gone old ps ids i id h at) (stand-without old ps ids i h)))

  -- equal lists
  pub stand-equal : (slots : List (Option B)) (ps qs : List (ℕ × ViewSpec)) (ids js : List ViewId) → ps ≡ qs → ids ≡ js → Stand kind_of spec_of slots ps ids → Stand kind_of spec_of slots qs js
  stand-equal slots ps qs ids js e f h = subst (λ (ls : List (ℕ × ViewSpec)). Stand kind_of spec_of slots ls js) e (subst (λ (xs : List ViewId). Stand kind_of spec_of slots ps xs) f h)

  -- the first of the live views that are left
  pub stand-first :
      (old new : List (Option B)) (ps : List (ℕ × ViewSpec)) (ids : List ViewId) (p : ℕ × ViewSpec) (id : ViewId) → Stand kind_of spec_of old (p ∷ ps) (id ∷ ids) → OthersSame old new id.0 →
      Stand kind_of spec_of new ps ids
  stand-first old new ps ids p id h same = stand-others old new ps ids id.0 same h.1 h.2

-- the view that is taken out of a slot has the kind of the one that stood there
pub kind-taken :
    {B : Type 0} (kind_of : B → ViewKind) (spec_of : B → Option ViewSpec) (slot : Option B) (v : B) (kind : ViewKind) (spec : ViewSpec) → option_map kind_of (Some v) ≡ option_map kind_of slot →
    IsSomeAnd slot (StandsAs kind_of spec_of kind spec) → kind_of v ≡ kind
kind-taken kind_of spec_of None v kind spec e h = absurd h
kind-taken kind_of spec_of (Some b) v kind spec e h = same-some e ∙ h.of_kind where
  same-some : {A : Type 0} {x y : A} → Some x ≡ Some y → x ≡ y
  same-some e = cc

pub some-and : {B : Type 0} (o : Option B) (P : B → Type 0) → IsSomeAnd o P → IsSome o
some-and None P h = absurd h
some-and (Some b) P h = refl

-- the kinds on a shelf after the view of a slot was put there
pub kinds-moved :
    {B : Type 0} (kind_of : B → ViewKind) (spec_of : B → Option ViewSpec) (slot : Option B) (old new : List ViewKind) (spec : ViewSpec) → Some new ≡ option_map (λ b. old ++ kind_of b ∷ []) slot →
    IsSomeAnd slot (StandsAs kind_of spec_of (kind_for spec) spec) → new ≡ old ++ kind_for spec ∷ []
kinds-moved kind_of spec_of None old new spec e h = absurd h
kinds-moved kind_of spec_of (Some b) old new spec e h = same-some e ∙ ap (λ k. old ++ k ∷ []) h.of_kind where
  same-some : {A : Type 0} {x y : A} → Some x ≡ Some y → x ≡ y
  same-some e = cc

-- ---- a view that was taken out of its slot

pub gone-kind :
    {B : Type 0} (kind_of : B → ViewKind) (spec_of : B → Option ViewSpec) (kept : B → ℕ → Option Answer) (room : B → ℕ) (slot : Option B) (v : B) →
    IsSomeAnd slot (λ a. IsDetachedFrom kind_of spec_of kept room a v) → option_map kind_of (Some v) ≡ option_map kind_of slot
gone-kind kind_of spec_of kept room None v h = absurd h
gone-kind kind_of spec_of kept room (Some a) v h = ap (λ k. Some k) h.kind

pub gone-detached :
    {B : Type 0} (kind_of : B → ViewKind) (spec_of : B → Option ViewSpec) (kept : B → ℕ → Option Answer) (room : B → ℕ) (slot : Option B) (v : B) →
    IsSomeAnd slot (λ a. IsDetachedFrom kind_of spec_of kept room a v) → spec_of v ≡ None
gone-detached kind_of spec_of kept room None v h = absurd h
gone-detached kind_of spec_of kept room (Some a) v h = h.detached
