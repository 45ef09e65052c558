-- The images of one order, doubled variable by variable.
use Rattle.std.proofs.Common.{◌≡◌, ℕ, ◌+◌, ◌-◌, ◌<◌, ◌≤◌, ◌^◌, true, false, List, refl, sym, ◌∙◌, ap, arith, get_or, not, inl, inr, lit<, lit≤, replicate}
use Rattle.std.proofs.lemmas.Bool.{cases_lt}
use Rattle.lnet_tables.specs.Bits.{is_set, moved, with_bit}
use Rattle.lnet_tables.proofs.RowNumbers.{number_below}
use Rattle.lnet_npn.specs.Transforms.{is_order, image_of}
use Rattle.lnet_npn.specs.Exchanges.{image_at}
use Rattle.lnet_npn.proofs.Orders.{Below4, order_below, source_at, split_row, doubled_row}
use Rattle.lnet_npn.proofs.Flips.{turned_zero, flip_below}
use Rattle.lnet_npn.proofs.Images.{told_by_bits}

-- the first h images are those of a word under an order and the flips below h
pub record Told (images order : List ℕ) (word h : ℕ) : Type 0 where
  pub at : (f x : ℕ) → f < h → x < 16 → is_set (get_or images f 0) x ≡ is_set word (source_at order f x)

pub told_first : (images order : List ℕ) (word w : ℕ) → is_order order ≡ true → get_or images 0 0 ≡ w
    → ((x : ℕ) → x < 16 → is_set w x ≡ is_set word (moved x order 4)) → Told images order word 1
told_first images order word w o e h = record {
  at = λ f x lf lx.
      let z : f ≡ 0 = omega arith in
      ap (λ k. is_set (get_or images k 0) x) z ∙ ap (λ k. is_set k x) e ∙ h x lx
      ∙ ap (is_set word) (sym (ap (λ k. source_at order k x) z ∙ split_row order 0 x o (lit< tt) lx ∙ turned_zero (moved x order 4) (number_below _ 4)));
}

pub told_more : (old new order : List ℕ) (word i h v : ℕ) → is_order order ≡ true → i < 4 → h ≡ 2 ^ i → h ≤ 8 → v < 4 → v ≡ get_or order i 0 → Told old order word h
    → ((f : ℕ) → f < h → get_or new f 0 ≡ get_or old f 0)
    → ((f x : ℕ) → f < h → x < 16 → is_set (get_or new (f + h) 0) x ≡ is_set (get_or old f 0) (with_bit x v (not (is_set x v))))
    → Told new order word (h + h)
told_more old new order word i h v o li p few lv ve t kept more = record {
  at = λ f x lf lx. elim (cases_lt f h) [
    | inl lt ↦ ap (λ k. is_set k x) (kept f lt) ∙ t.at f x lt lx
    | inr ge ↦
        let e : f ≡ (f - h) + h = omega arith in
        let b : f - h < 2 ^ i = rw (← p) (omega arith) in
        ap (λ k. is_set (get_or new k 0) x) e ∙ more (f - h) x (omega arith) lx
        ∙ t.at (f - h) (with_bit x v (not (is_set x v))) (omega arith) (flip_below x v lx lv)
        ∙ ap (is_set word) (ap (λ k. source_at order (f - h) (with_bit x k (not (is_set x k)))) ve
        ∙ doubled_row order i (f - h) x o li b (omega arith) lx
        ∙ ap (λ k. source_at order ((f - h) + k) x) (sym p) ∙ ap (λ k. source_at order k x) (sym e))
  ];
}

pub told_all : (images order : List ℕ) (word : ℕ) → Told images order word 16 → ((f : ℕ) → get_or images f 0 < 2 ^ 16)
    → (f : ℕ) → f < 16 → get_or images f 0 ≡ image_at order f false word
unfolding image_of
told_all images order word t small f lt = told_by_bits (get_or images f 0) 16 _ (small f) (λ x lx. t.at f x lt lx)

abbrev pub keeps : List ℕ → List ℕ → ℕ → Type 0
keeps old new h = (f : ℕ) → f < h → get_or new f 0 ≡ get_or old f 0

abbrev pub adds : List ℕ → List ℕ → ℕ → ℕ → Type 0
adds old new h v = (f x : ℕ) → f < h → x < 16 → is_set (get_or new (f + h) 0) x ≡ is_set (get_or old f 0) (with_bit x v (not (is_set x v)))

pub images_told : (order : List ℕ) (word w : ℕ) (one two four eight : List ℕ) → is_order order ≡ true
    → ((x : ℕ) → x < 16 → is_set w x ≡ is_set word (moved x order 4))
    → keeps (replicate 16 w) one 1 → adds (replicate 16 w) one 1 (get_or order 0 0)
    → keeps one two 2 → adds one two 2 (get_or order 1 0)
    → keeps two four 4 → adds two four 4 (get_or order 2 0)
    → keeps four eight 8 → adds four eight 8 (get_or order 3 0)
    → ((f : ℕ) → get_or eight f 0 < 2 ^ 16)
    → (f : ℕ) → f < 16 → get_or eight f 0 ≡ image_at order f false word
images_told order word w one two four eight o start k1 m1 k2 m2 k4 m4 k8 m8 small =
    let b : Below4 order = order_below order o in
    let t0 : Told (replicate 16 w) order word 1 = told_first _ order word w o refl start in
    let t1 : Told one order word 2 = told_more (replicate 16 w) one order word 0 1 _ o (lit< tt) refl (lit≤ tt) (b.at 0 (lit< tt)) refl t0 k1 m1 in
    let t2 : Told two order word 4 = told_more one two order word 1 2 _ o (lit< tt) refl (lit≤ tt) (b.at 1 (lit< tt)) refl t1 k2 m2 in
    let t4 : Told four order word 8 = told_more two four order word 2 4 _ o (lit< tt) refl (lit≤ tt) (b.at 2 (lit< tt)) refl t2 k4 m4 in
    let t8 : Told eight order word 16 = told_more four eight order word 3 8 _ o (lit< tt) refl (lit≤ tt) (b.at 3 (lit< tt)) refl t4 k8 m8 in
    told_all eight order word t8 small
