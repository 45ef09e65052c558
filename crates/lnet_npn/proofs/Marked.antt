-- Marks, one after another.
use Rattle.std.proofs.Common.{◌≡◌, ℕ, ◌+◌, ◌-◌, ◌<◌, ◌≤◌, Bool, true, false, List, length, refl, sym, ap, ◌∙◌, arith, get_or, inl, inr, get_or-set_same, get_or-set_other, length-set}
use Rattle.std.specs.Prelude.{◌⊎◌}
use Rattle.std.proofs.Math.ListN.{set}
use Rattle.std.proofs.lemmas.Bool.{cases_lt}
use Rattle.std.proofs.lemmas.Bool.Decides.{eqb_tells}
use Rattle.lnet_npn.specs.declared.transforms.Transform.{Transform}
use Rattle.lnet_npn.specs.Transforms.{is_order, IsTransform, image_of}
use Rattle.lnet_npn.specs.Exchanges.{choice, image_at}
use Rattle.lnet_npn.specs.Marks.{is_marked, IsImage}
use Rattle.lnet_npn.proofs.Chosen.{choice_plain, choice_complement}
use Rattle.lnet_npn.proofs.Orders.{order_at, order_known}
use Rattle.lnet_npn.proofs.Images.{choice_is}

pub mark_here : (marks : List Bool) (n : ℕ) → n < length marks → is_marked (set marks n true) n ≡ true
mark_here marks n h = get_or-set_same marks n true false h

pub mark_kept : (marks : List Bool) (n m : ℕ) → n < length marks → is_marked marks m ≡ true → is_marked (set marks n true) m ≡ true
mark_kept marks n m h is = elim (eqb_tells m n) [ inl p ↦ ap (is_marked (set marks n true)) p.1 ∙ mark_here marks n h | inr p ↦ get_or-set_other marks n m true false p.1 ∙ is ]

pub mark_only : (marks : List Bool) (n m : ℕ) → is_marked (set marks n true) m ≡ true → (is_marked marks m ≡ true) ⊎ (m ≡ n)
mark_only marks n m is = elim (eqb_tells m n) [ inl p ↦ inr p.1 | inr p ↦ inl (sym (get_or-set_other marks n m true false p.1) ∙ is) ]

-- ---- an image and its complement
pub two_kept : (old mid new : List Bool) (a b m : ℕ) → length old ≡ 65536 → a < 65536 → b < 65536 → mid ≡ set old a true → new ≡ set mid b true → is_marked old m ≡ true → is_marked new m ≡ true
two_kept old mid new a b m long ha hb e f is =
    ap (λ z. is_marked z m) f
    ∙ mark_kept mid b m (let k = ap length e ∙ length-set old a true in omega arith) (ap (λ z. is_marked z m) e ∙ mark_kept old a m (omega arith) is)

pub two_first : (old mid new : List Bool) (a b : ℕ) → length old ≡ 65536 → a < 65536 → b < 65536 → mid ≡ set old a true → new ≡ set mid b true → is_marked new a ≡ true
two_first old mid new a b long ha hb e f =
    ap (λ z. is_marked z a) f
    ∙ mark_kept mid b a (let k = ap length e ∙ length-set old a true in omega arith) (ap (λ z. is_marked z a) e ∙ mark_here old a (omega arith))

pub two_second : (old mid new : List Bool) (a b : ℕ) → length old ≡ 65536 → a < 65536 → b < 65536 → mid ≡ set old a true → new ≡ set mid b true → is_marked new b ≡ true
two_second old mid new a b long ha hb e f = ap (λ z. is_marked z b) f ∙ mark_here mid b (let k = ap length e ∙ length-set old a true in omega arith)

pub two_only : (old mid new : List Bool) (a b m : ℕ) → mid ≡ set old a true → new ≡ set mid b true → is_marked new m ≡ true → (is_marked old m ≡ true) ⊎ ((m ≡ a) ⊎ (m ≡ b))
two_only old mid new a b m e f is = elim (mark_only mid b m (sym (ap (λ z. is_marked z m) f) ∙ is)) [
  | inr p ↦ inr (inr p)
  | inl p ↦ elim (mark_only old a m (sym (ap (λ z. is_marked z m) e) ∙ p)) [ inl q ↦ inl q | inr q ↦ inr (inl q) ]
]

-- ---- the images of one order, so far
pub record AreMarked (images : List ℕ) (k : ℕ) (first now : List Bool) : Type 0 where
  pub len : length now ≡ length first
  pub kept : (m : ℕ) → is_marked first m ≡ true → is_marked now m ≡ true
  pub marked : (f : ℕ) (o : Bool) → f < k → is_marked now (choice images f o) ≡ true
  pub only : (m : ℕ) → is_marked now m ≡ true → (is_marked first m ≡ true) ⊎ ((f : ℕ) × (o : Bool) × (f < k) × (m ≡ choice images f o))

pub none_marked : (images : List ℕ) (marks : List Bool) → AreMarked images 0 marks marks
none_marked images marks = record { len = refl; kept = λ m h. h; marked = λ f o lt. absurd (omega arith); only = λ m h. inl h }

pub more_marked : (images : List ℕ) (k : ℕ) (first old mid new : List Bool) → length old ≡ 65536 → get_or images k 0 < 65536 → AreMarked images k first old → mid ≡ set old (get_or images k 0) true → new ≡ set mid (65535 - get_or images k 0) true → AreMarked images (k + 1) first new
more_marked images k first old mid new long small h e f = record {
  len = ap length f ∙ length-set mid (65535 - get_or images k 0) true ∙ ap length e ∙ length-set old (get_or images k 0) true ∙ h.len;
  kept = λ m is. two_kept old mid new (get_or images k 0) (65535 - get_or images k 0) m long small (omega arith) e f (h.kept m is);
  marked = marked_more;
  only = only_more;
}
  where
    marked_more : (q : ℕ) (o : Bool) → q < k + 1 → is_marked new (choice images q o) ≡ true
    marked_more q o lt = elim (cases_lt q k) [
      | inl l ↦ two_kept old mid new (get_or images k 0) (65535 - get_or images k 0) (choice images q o) long small (omega arith) e f (h.marked q o l)
      | inr g ↦ (let z : q ≡ k = omega arith in ap (λ i. is_marked new (choice images i o)) z ∙ here o)
    ]
      where
        here : (o : Bool) → is_marked new (choice images k o) ≡ true
        here false = ap (is_marked new) (choice_plain images k) ∙ two_first old mid new (get_or images k 0) (65535 - get_or images k 0) long small (omega arith) e f
        here true = ap (is_marked new) (choice_complement images k) ∙ two_second old mid new (get_or images k 0) (65535 - get_or images k 0) long small (omega arith) e f

    only_more : (m : ℕ) → is_marked new m ≡ true → (is_marked first m ≡ true) ⊎ ((q : ℕ) × (o : Bool) × (q < k + 1) × (m ≡ choice images q o))
    only_more m is = elim (two_only old mid new (get_or images k 0) (65535 - get_or images k 0) m e f is) [
      | inl p ↦ elim (h.only m p) [ inl q ↦ inl q | inr q ↦ inr (q.0, q.1, (let l = q.2 in omega arith), q.3) ]
      | inr (inl p) ↦ inr (k, false, omega arith, p ∙ sym (choice_plain images k))
      | inr (inr p) ↦ inr (k, true, omega arith, p ∙ sym (choice_complement images k))
    ]

-- ---- the orders, so far
pub record AreSeen (word k : ℕ) (first now : List Bool) : Type 0 where
  pub len : length now ≡ length first
  pub kept : (m : ℕ) → is_marked first m ≡ true → is_marked now m ≡ true
  pub marked : (j f : ℕ) (o : Bool) → j < k → f < 16 → is_marked now (image_at (order_at j) f o word) ≡ true
  pub only : (m : ℕ) → is_marked now m ≡ true → (is_marked first m ≡ true) ⊎ IsImage word m

pub none_seen_yet : (word : ℕ) (marks : List Bool) → AreSeen word 0 marks marks
none_seen_yet word marks = record { len = refl; kept = λ m h. h; marked = λ j f o lt _. absurd (omega arith); only = λ m h. inl h }

pub more_seen : (images : List ℕ) (word k : ℕ) (first old new : List Bool) → is_order (order_at k) ≡ true → ((f : ℕ) → f < 16 → get_or images f 0 ≡ image_at (order_at k) f false word) → AreSeen word k first old → AreMarked images 16 old new → AreSeen word (k + 1) first new
more_seen images word k first old new lawful is seen m = record {
  len = m.len ∙ seen.len;
  kept = λ q h. m.kept q (seen.kept q h);
  marked = λ j f o lj lf. elim (cases_lt j k) [
    | inl l ↦ m.kept _ (seen.marked j f o l lf)
    | inr g ↦ (let z : j ≡ k = omega arith in ap (λ i. is_marked new (image_at (order_at i) f o word)) z ∙ ap (is_marked new) (sym (choice_is images (order_at k) f word o (is f lf))) ∙ m.marked f o lf)
  ];
  only = λ q h. elim (m.only q h) [
    | inl p ↦ seen.only q p
    | inr p ↦ inr (record { by = record { order = order_at k; flips = p.0; out = p.1 }; lawful = record { order = lawful; flips = p.2 }; makes = p.3 ∙ choice_is images (order_at k) p.0 word p.1 (is p.0 p.2) })
  ];
}

pub all_seen : (word k : ℕ) (first now : List Bool) → 24 ≤ k → AreSeen word k first now → (t : Transform) → IsTransform t → is_marked now (image_of t word) ≡ true
all_seen word k first now h seen t is =
    let m = order_known t.order is.order in
    ap (λ o. is_marked now (image_at o t.flips t.out word)) (sym m.2) ∙ seen.marked m.0 t.flips t.out (let l = m.1 in omega arith) is.flips
