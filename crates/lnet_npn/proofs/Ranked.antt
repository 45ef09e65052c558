-- Transforms by their order, flips and complement, and what the search has seen of them.
use Rattle.std.proofs.Common.{◌≡◌, ◌≢◌, ℕ, ◌+◌, ◌*◌, ◌^◌, ◌<◌, ◌≤◌, Bool, true, false, List, [], ◌∷◌, refl, sym, ◌∙◌, ap, arith, get_or, inl, inr, eqb, lit<}
use Rattle.std.proofs.lemmas.Bool.{cases_lt, agree_below, agree_below_at, eqb-true}
use Rattle.lnet_tables.specs.Bits.{Rows, by_rows, is_set, bit_of, number_by}
use Rattle.lnet_npn.specs.declared.transforms.Transform.{Transform}
use Rattle.lnet_npn.specs.Transforms.{is_order, source_of, IsTransform, image_of, rank_of, number_of, inverse_of, IsLeastOf, IsFirst}
use Rattle.lnet_npn.specs.Exchanges.{IsAmong, IsFirstAmong, choice, image_at}
use Rattle.lnet_npn.specs.Exchanges.IsAmong.{Given, Image}
use Rattle.lnet_npn.proofs.Orders.{order_at, order_known, order_rank, ascending}
use Rattle.lnet_npn.proofs.Images.{choice_is, image_back, inverse_lawful, number_image, table_image, number_table, told_by_bits}

abbrev pub made_of : List ℕ → ℕ → Bool → Transform
made_of o f c = record { order = o; flips = f; out = c }

-- the images of an order that is known by its place
pub images_at : (images o p : List ℕ) (n : ℕ) → o ≡ p → ((f : ℕ) → f < 16 → get_or images f 0 ≡ image_at o f false n) → (f : ℕ) → f < 16 → get_or images f 0 ≡ image_at p f false n
images_at images o p n e h f lt = h f lt ∙ ap (λ q. image_at q f false n) e

pub among_at : (images o p : List ℕ) (n : ℕ) (t : Transform) → o ≡ p → IsFirstAmong images o n t → IsFirstAmong images p n t
among_at images o p n t e h = rw (← e) h

-- every image is seen once all orders are
pub least_seen : (best word : ℕ) → ((j f : ℕ) (o : Bool) → j < 24 → f < 16 → best ≤ image_at (order_at j) f o word)
    → (t : Transform) → IsTransform t → best ≤ image_of t word
least_seen best word seen t h =
    let m = order_known t.order h.order in
    rw (ap (λ o. image_at o t.flips t.out word) (sym m.2)) (seen m.0 t.flips t.out m.1 h.flips)

pub least_more : (images : List ℕ) (k best n word : ℕ)
    → ((f : ℕ) → f < 16 → get_or images f 0 ≡ image_at (order_at k) f false word)
    → n ≤ best → ((f : ℕ) (o : Bool) → f < 16 → n ≤ choice images f o)
    → ((j f : ℕ) (o : Bool) → j < k → f < 16 → best ≤ image_at (order_at j) f o word)
    → (j f : ℕ) (o : Bool) → j < k + 1 → f < 16 → n ≤ image_at (order_at j) f o word
least_more images k best n word e less below seen j f o lj lf =
    elim (cases_lt j k) [
      | inl l ↦ omega (arith, seen j f o l lf)
      | inr g ↦
          let z : j ≡ k = omega arith in
          rw z (rw (choice_is images (order_at k) f word o (e f lf)) at (below f o lf))
    ]

pub made_more : (images o : List ℕ) (best n word : ℕ) → is_order o ≡ true
    → ((f : ℕ) → f < 16 → get_or images f 0 ≡ image_at o f false word)
    → (t : Transform) × (IsTransform t × (best ≡ image_of t word)) → IsAmong images best n
    → (t : Transform) × (IsTransform t × (n ≡ image_of t word))
made_more images o best n word h e m (Given z) = (m.0, (m.1.0, z ∙ m.1.1))
made_more images o best n word h e m (Image f c lt z) =
    (made_of o f c, (record { order = h; flips = lt }, z ∙ choice_is images o f word c (e f lt)))

-- ---- the first
pub none_seen : (least word : ℕ) → ((j f : ℕ) (o : Bool) → j < 24 → f < 16 → image_at (order_at j) f o least ≢ word)
    → (t : Transform) → IsTransform t → image_of t least ≢ word
none_seen least word seen t h e =
    let m = order_known t.order h.order in
    seen m.0 t.flips t.out m.1 h.flips (ap (λ o. image_at o t.flips t.out least) m.2 ∙ e)

-- some transform makes the word, so the search ends before the orders do
pub unreached : (least word k : ℕ) → 24 ≤ k → ((j f : ℕ) (o : Bool) → j < k → f < 16 → image_at (order_at j) f o least ≢ word)
    → (t : Transform) × (IsTransform t × (image_of t least ≡ word)) → ⊥
unreached least word k e seen m = none_seen least word (λ j f o lt. seen j f o (omega arith)) m.0 m.1.0 m.1.1

pub none_after : (images : List ℕ) (k least word : ℕ)
    → ((f : ℕ) → f < 16 → get_or images f 0 ≡ image_at (order_at k) f false least)
    → ((f : ℕ) (o : Bool) → f < 16 → choice images f o ≢ word)
    → ((j f : ℕ) (o : Bool) → j < k → f < 16 → image_at (order_at j) f o least ≢ word)
    → (j f : ℕ) (o : Bool) → j < k + 1 → f < 16 → image_at (order_at j) f o least ≢ word
none_after images k least word e none seen j f o lj lf z =
    elim (cases_lt j k) [
      | inl l ↦ seen j f o l lf z
      | inr g ↦
          let y : j ≡ k = omega arith in
          none f o lf (choice_is images (order_at k) f least o (e f lf) ∙ ap (λ i. image_at (order_at i) f o least) (sym y) ∙ z)
    ]

pub back_of : (images o : List ℕ) (least word : ℕ) (t : Transform)
    → ((f : ℕ) → f < 16 → get_or images f 0 ≡ image_at o f false least)
    → IsFirstAmong images o word t → image_of t least ≡ word
back_of images o least word t e h =
    ap (λ p. image_at p t.flips t.out least) h.order ∙ sym (choice_is images o t.flips least t.out (e t.flips h.flips)) ∙ h.makes

pub lawful_of : (images o : List ℕ) (word : ℕ) (t : Transform) → is_order o ≡ true → IsFirstAmong images o word t → IsTransform t
lawful_of images o word t h f = record { order = ap is_order f.order ∙ h; flips = f.flips }

bit_small : (b : Bool) → bit_of b ≤ 1
bit_small true = omega arith
bit_small false = omega arith

rank_is : (t : Transform) → rank_of t ≡ bit_of t.out + 2 * (t.flips + 16 * order_rank t.order)
unfolding rank_of
rank_is t = refl

pub first_of_all : (images : List ℕ) (k least word : ℕ) (t : Transform) → k < 24
    → ((f : ℕ) → f < 16 → get_or images f 0 ≡ image_at (order_at k) f false least)
    → IsFirstAmong images (order_at k) word t
    → ((j f : ℕ) (o : Bool) → j < k → f < 16 → image_at (order_at j) f o least ≢ word)
    → (u : Transform) → IsTransform u → rank_of u < rank_of t → image_of u least ≢ word
first_of_all images k least word t lk e h seen u lawful lt z =
    let m = order_known u.order lawful.order in
    let j : ℕ = m.0 in
    let lj : j < 24 = m.1 in
    let p : image_at (order_at j) u.flips u.out least ≡ word = ap (λ o. image_at o u.flips u.out least) m.2 ∙ z in
    let ru : rank_of u ≡ bit_of u.out + 2 * (u.flips + 16 * order_rank (order_at j)) = rank_is u ∙ ap (λ o. bit_of u.out + 2 * (u.flips + 16 * order_rank o)) (sym m.2) in
    let rt : rank_of t ≡ bit_of t.out + 2 * (t.flips + 16 * order_rank (order_at k)) = rank_is t ∙ ap (λ o. bit_of t.out + 2 * (t.flips + 16 * order_rank o)) h.order in
    let su : bit_of u.out ≤ 1 = bit_small u.out in
    let st : bit_of t.out ≤ 1 = bit_small t.out in
    let fu : u.flips < 16 = lawful.flips in
    let ft : t.flips < 16 = h.flips in
    elim (cases_lt j k) [
      | inl l ↦ seen j u.flips u.out l fu p
      | inr g ↦ elim (cases_lt k j) [
        | inl past ↦ absurd (omega (arith, ascending k j past lj))
        | inr at ↦
            let y : j ≡ k = omega arith in
            let r : order_rank (order_at j) ≡ order_rank (order_at k) = ap (λ i. order_rank (order_at i)) y in
            h.first u.flips u.out fu (omega arith)
            (choice_is images (order_at k) u.flips least u.out (e u.flips fu) ∙ ap (λ i. image_at (order_at i) u.flips u.out least) (sym y) ∙ p)
      ]
    ]

-- ---- the start
-- the transform that changes nothing
unchanged : Transform
unchanged = made_of (0 ∷ 1 ∷ 2 ∷ 3 ∷ []) 0 false

unchanged_rows : agree_below (λ x. eqb (source_of unchanged x) x) (λ x. true) 16 ≡ true
unfolding unchanged source_of is_set number_by
unchanged_rows = refl

unchanged_order : is_order (0 ∷ 1 ∷ 2 ∷ 3 ∷ []) ≡ true
unfolding is_order
unchanged_order = refl

pub unchanged_makes : (word : ℕ) → word < 2 ^ 16 → (t : Transform) × (IsTransform t × (word ≡ image_of t word))
unfolding unchanged image_of
unchanged_makes word small = (
  unchanged,
  (
    record { order = unchanged_order; flips = lit< tt },
    told_by_bits word 16 _ small (λ x lt. ap (is_set word) (sym (eqb-true _ _ (agree_below_at (λ x. eqb (source_of unchanged x) x) (λ x. true) 16 x unchanged_rows lt)))),
  ),
)

-- ---- tables
pub way_back : (least word : ℕ) → word < 2 ^ 16 → (t : Transform) × (IsTransform t × (least ≡ image_of t word)) → (t : Transform) × (IsTransform t × (image_of t least ≡ word))
way_back least word small m =
    (inverse_of m.0, (inverse_lawful m.0 m.1.0, ap (image_of (inverse_of m.0)) m.1.1 ∙ image_back m.0 word m.1.0 small))

pub least_table : (a b : Rows) (least word : ℕ) → least < 2 ^ 16 → word ≡ number_of a → b ≡ by_rows 4 (is_set least)
    → (t : Transform) × (IsTransform t × (least ≡ image_of t word)) → ((t : Transform) → IsTransform t → least ≤ image_of t word) → IsLeastOf a b
least_table a b least word small w e m all =
    let n : number_of b ≡ least = ap number_of e ∙ number_table least small in
    record {
      here = record {
        by = m.0;
        lawful = m.1.0;
        makes = e ∙ ap (λ n. by_rows 4 (is_set n)) (m.1.1 ∙ ap (image_of m.0) w) ∙ table_image m.0 a;
      };
      least = λ t h. rw (n, number_image t a, ← w) (all t h);
    }

pub first_table : (a b : Rows) (least word : ℕ) (t : Transform) → least < 2 ^ 16 → word ≡ number_of a → a ≡ by_rows 4 (is_set word) → b ≡ by_rows 4 (is_set least)
    → IsTransform t → image_of t least ≡ word → ((u : Transform) → IsTransform u → rank_of u < rank_of t → image_of u least ≢ word) → IsFirst t b a
first_table a b least word t small w ea e h back before =
    let n : number_of b ≡ least = ap number_of e ∙ number_table least small in
    record {
      lawful = h;
      makes = sym (table_image t b) ∙ ap (λ k. by_rows 4 (is_set k)) (ap (image_of t) n ∙ back) ∙ sym ea;
      first = λ u l r z. before u l r (ap (image_of u) (sym n) ∙ sym (number_image u b) ∙ ap number_of z ∙ sym w);
    }
