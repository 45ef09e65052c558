-- The recipes of classes.
use Rattle.std.proofs.Common.{◌≡◌, ℕ, zero, suc, ◌+◌, ◌*◌, ◌^◌, ◌<◌, ◌≤◌, Bool, true, false, cond, List, [], ◌∷◌, length, get_or, Option, None, Some, refl, sym, ap, subst, ◌∙◌, arith, inl, inr, nat_eq, take, ◌++◌}
use Rattle.std.specs.Prelude.{◌⊎◌, leb}
use Rattle.std.proofs.lemmas.Bool.{cases_lt}
use Rattle.std.proofs.lemmas.Bool.Decides.{eqb_tells}
use Rattle.lnet_tables.specs.Bits.{Rows, row, by_rows, is_set, bit_of}
use Rattle.lnet_tables.specs.Recipes.{RecipeValue, sim}
use Rattle.lnet_tables.specs.Shannon.{shannon_of}
use Rattle.lnet_tables.proofs.RowNumbers.{number_below}
use Rattle.lnet_tables.proofs.Ops.{same_rows}
use Rattle.lnet_tables.proofs.Rowwise.{rows_long, eta_rows}
use Rattle.lnet_npn.specs.declared.transforms.Transform.{Transform}
use Rattle.lnet_npn.specs.Transforms.{IsTransform, transformed, number_of, image_of, rank_of, inverse_of, IsLeastOf, IsFirst}
use Rattle.lnet_npn.specs.Marks.{is_marked, IsImage}
use Rattle.lnet_npn.proofs.Images.{image_back, inverse_lawful, number_image, set_inside}
use Rattle.lnet_npn.proofs.Orders.{order_below}
use Rattle.lnet_npn.proofs.Classes.{after, after_lawful, after_makes, in_class, class_back, one_least}
use Rattle.lnet_resyn.specs.Procedures.{IsLeast, class_recipe, form_of}
use Rattle.lnet_resyn.specs.Underway.{IsOfLess, AreOfLess, Holds, HoldBelow}
use Rattle.lnet_resyn.proofs.Turns.{leb_no}

pub chosen-is : (t : Rows) (form expansion : RecipeValue) → form ≡ form_of t → expansion ≡ shannon_of t → cond (leb (length form.steps) (length expansion.steps)) form expansion ≡ class_recipe t
unfolding class_recipe
chosen-is t form expansion e f i = cond (leb (length (e i).steps) (length (f i).steps)) (e i) (f i)

pub expansion-is : (t : Rows) (expansion : RecipeValue) → expansion ≡ shannon_of t → length (shannon_of t).steps ≤ 128 → 128 < length (form_of t).steps → expansion ≡ class_recipe t
unfolding class_recipe
expansion-is t expansion e short long = e ∙ ap (λ b. cond b (form_of t) (shannon_of t)) (sym (leb_no (length (form_of t).steps) (length (shannon_of t).steps) (omega arith)))

-- a table of four variables is that of its number
pub table-number : (g : Rows) → g.vars ≡ 4 → length g.bits ≡ 16 → g ≡ by_rows 4 (is_set (number_of g))
table-number g four long =
    eta_rows g (long ∙ ap (λ n. 2 ^ n) (sym four))
    ∙ ap (λ n. by_rows n (row g)) four
    ∙ same_rows 4 (row g) (is_set (number_of g)) (λ r h. sym (set_inside (row g) 16 r h))

pub number-small : (g : Rows) → number_of g < 65536
number-small g = number_below (row g) 16

-- the least table of a class is marked by no lower one
pub least-unmarked : (g : Rows) (n : ℕ) → IsLeast g → number_of g ≡ n → IsOfLess n n → ⊥
least-unmarked g n least e m =
    let small = number-small g in
    let low = m.below in
    let back : image_of (inverse_of m.image.by) n ≡ m.of = ap (image_of (inverse_of m.image.by)) m.image.makes ∙ image_back m.image.by m.of m.image.lawful (omega arith) in
    let made : number_of (transformed (inverse_of m.image.by) g) ≡ m.of = number_image (inverse_of m.image.by) g ∙ ap (image_of (inverse_of m.image.by)) e ∙ back in
    let le = least.least (inverse_of m.image.by) (inverse_lawful m.image.by m.image.lawful) in
    omega arith

pub more-of-less : (n m : ℕ) → IsOfLess n m → IsOfLess (n + 1) m
more-of-less n m h = record { of = h.of; below = (let l = h.below in omega arith); image = h.image }

pub marked-of-less : (n : ℕ) (old new : List Bool) → AreOfLess n old → ((m : ℕ) → is_marked new m ≡ true → (is_marked old m ≡ true) ⊎ IsImage n m) → AreOfLess (n + 1) new
marked-of-less n old new before only m is = elim (only m is) [ inl p ↦ more-of-less n m (before m p) | inr p ↦ record { of = n; below = omega arith; image = p } ]

-- a function that is marked is the least of no class
pub held-marked : (n : ℕ) (marks : List Bool) (recipes : ℕ → Option RecipeValue) → AreOfLess n marks → HoldBelow n recipes → is_marked marks n ≡ true → HoldBelow (n + 1) recipes
held-marked n marks recipes of held is g least h = elim (cases_lt (number_of g) n) [
  | inl l ↦ held g least l
  | inr p ↦ (let e : number_of g ≡ n = omega arith in absurd (least-unmarked g n least e (of n is)))
]

-- one more recipe
pub held-more : (n : ℕ) (table : Rows) (recipe : RecipeValue) (old new : ℕ → Option RecipeValue) → HoldBelow n old → table ≡ by_rows 4 (is_set n) → recipe ≡ class_recipe table → sim (class_recipe table) ≡ table → ((q : ℕ) → new q ≡ cond (nat_eq n q) (Some recipe) (old q)) → HoldBelow (n + 1) new
held-more n table recipe old new held is made means update g least h = elim (cases_lt (number_of g) n) [
  | inl l ↦
      let k = held g least l in
      record { recipe = update (number_of g) ∙ ap (λ b. cond b (Some recipe) (old (number_of g))) (apart (number_of g) l) ∙ k.recipe; function = k.function }
  | inr p ↦
      let e : number_of g ≡ n = omega arith in
      let same : table ≡ g = is ∙ ap (λ k. by_rows 4 (is_set k)) (sym e) ∙ sym (table-number g least.four least.long) in
      record {
        recipe = update (number_of g) ∙ ap (λ b. cond b (Some recipe) (old (number_of g))) (one (number_of g) e) ∙ ap Some (made ∙ ap class_recipe same);
        function = subst (λ t. sim (class_recipe t) ≡ t) same means;
      }
]
  where
    apart : (q : ℕ) → q < n → nat_eq n q ≡ false
    apart q l = elim (eqb_tells n q) [ inl p ↦ let k = p.1 in absurd (omega arith) | inr p ↦ p.0 ]

    one : (q : ℕ) → q ≡ n → nat_eq n q ≡ true
    one q e = elim (eqb_tells n q) [ inl p ↦ p.0 | inr p ↦ absurd (p.1 (sym e)) ]

-- ---- the class of a function
pub least-of : (a g : Rows) → IsLeastOf a g → IsLeast g
least-of a g h = record {
  four = ap (λ (t : Rows). t.vars) h.here.makes;
  long = ap (λ (t : Rows). length t.bits) h.here.makes ∙ rows_long 4 _;
  least = λ t lawful. subst (λ z. number_of g ≤ z) (ap number_of (sym (ap (transformed t) h.here.makes ∙ after_makes h.here.by t a h.here.lawful))) (h.least (after h.here.by t) (after_lawful h.here.by t h.here.lawful lawful));
}

pub least-once : (a g h : Rows) → a.vars ≡ 4 → length a.bits ≡ 16 → IsLeastOf a g → IsLeastOf a h → g ≡ h
least-once a g h four long p q = one_least a a g h four long (in_class a g a p.here (class_back a g four long p.here)) p q

four_list : (o : List ℕ) → length o ≡ 4 → o ≡ get_or o 0 0 ∷ get_or o 1 0 ∷ get_or o 2 0 ∷ get_or o 3 0 ∷ []
four_list [] e = absurd (omega arith)
four_list (a ∷ []) e = absurd (omega arith)
four_list (a ∷ b ∷ []) e = absurd (omega arith)
four_list (a ∷ b ∷ c ∷ []) e = absurd (omega arith)
four_list (a ∷ b ∷ c ∷ d ∷ []) e = refl
four_list (a ∷ b ∷ c ∷ d ∷ x ∷ xs) e = absurd (omega arith)

pub class-leaves : (g : Rows) → g.vars ≡ 4 → (class_recipe g).leaves ≡ 4
unfolding class_recipe
class-leaves g four = by (leb (length (form_of g).steps) (length (shannon_of g).steps))
  where
    by : (b : Bool) → (cond b (form_of g) (shannon_of g)).leaves ≡ 4
    by true = four
    by false = four

-- what is written back to a vector from a slice of all of it
pub written-back : (n : ℕ) (new rest : List Bool) → length new ≡ n → take n (new ++ rest) ≡ new
written-back n [] rest e = ap (λ k. take k rest) (sym e)
written-back zero (x ∷ xs) rest e = absurd (omega arith)
written-back (suc n) (x ∷ xs) rest e = ap (λ r. x ∷ r) (written-back n xs rest (omega arith))

-- ---- the first transform
digit : (a b c d e f g h i j k l : ℕ) → a < 2 → g < 2 → b < 16 → h < 16 → c < 4 → i < 4 → d < 4 → j < 4 → e < 4 → k < 4
    → a + 2 * (b + 16 * (c + 4 * (d + 4 * (e + 4 * f)))) ≡ g + 2 * (h + 16 * (i + 4 * (j + 4 * (k + 4 * l))))
    → (a ≡ g) × (b ≡ h) × (c ≡ i) × (d ≡ j) × (e ≡ k) × (f ≡ l)
digit a b c d e f g h i j k l a2 g2 b16 h16 c4 i4 d4 j4 e4 k4 same = (omega arith, omega arith, omega arith, omega arith, omega arith, omega arith)

same_bit : (a b : Bool) → bit_of a ≡ bit_of b → a ≡ b
same_bit true true e = refl
same_bit true false e = absurd (omega arith)
same_bit false true e = absurd (omega arith)
same_bit false false e = refl

bit-small : (b : Bool) → bit_of b < 2
bit-small true = omega arith
bit-small false = omega arith

-- lawful transforms of one rank are one
pub one-rank : (s t : Transform) → IsTransform s → IsTransform t → rank_of s ≡ rank_of t → s ≡ t
unfolding rank_of
one-rank s t hs ht e =
    let bs = order_below s.order hs.order in
    let bt = order_below t.order ht.order in
    let d = digit (bit_of s.out) s.flips (get_or s.order 3 0) (get_or s.order 2 0) (get_or s.order 1 0) (get_or s.order 0 0) (bit_of t.out) t.flips (get_or t.order 3 0) (get_or t.order 2 0) (get_or t.order 1 0) (get_or t.order 0 0)
    (bit-small s.out) (bit-small t.out) hs.flips ht.flips (bs.at 3 (omega arith)) (bt.at 3 (omega arith)) (bs.at 2 (omega arith)) (bt.at 2 (omega arith)) (bs.at 1 (omega arith)) (bt.at 1 (omega arith)) e in
    let o : s.order ≡ t.order =
    four_list s.order bs.long
    ∙ (λ i. d.5 i ∷ d.4 i ∷ d.3 i ∷ d.2 i ∷ [])
    ∙ sym (four_list t.order bt.long) in
    λ i. record { order = o i; flips = d.1 i; out = same_bit s.out t.out d.0 i }

pub first-once : (a b : Rows) (s t : Transform) → IsFirst s b a → IsFirst t b a → s ≡ t
first-once a b s t hs ht = elim (cases_lt (rank_of s) (rank_of t)) [
  | inl l ↦ absurd (ht.first s hs.lawful l hs.makes)
  | inr p ↦ elim (cases_lt (rank_of t) (rank_of s)) [
    | inl l ↦ absurd (hs.first t ht.lawful l ht.makes)
    | inr q ↦ one-rank s t hs.lawful ht.lawful (omega arith)
  ]
]

pub chosen-means : (t : Rows) (a b : RecipeValue) → sim a ≡ t → sim b ≡ t → sim (cond (leb (length a.steps) (length b.steps)) a b) ≡ t
chosen-means t a b e f = by (leb (length a.steps) (length b.steps))
  where
    by : (c : Bool) → sim (cond c a b) ≡ t
    by true = e
    by false = f

-- what is found is the class's recipe
pub found-is : (found : Option RecipeValue) (r : RecipeValue) (g : Rows) → Some r ≡ found → Holds found g → r ≡ class_recipe g
found-is found r g e h = let k = e ∙ h.recipe in cc

pub found-some : (found : Option RecipeValue) (g : Rows) → None ≡ found → Holds found g → ⊥
found-some found g e h = let k = e ∙ h.recipe in cc
