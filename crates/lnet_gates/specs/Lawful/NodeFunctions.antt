-- Functions of the values of nodes: which nodes they read, which they change with, and that these nodes determine them.
use Rattle.std.proofs.Common.{◌≡◌, ◌≢◌, ℕ, zero, suc, ◌+◌, ◌<◌, ◌≤◌, Bool, true, false, cond, ◌||◌, ◌⊎◌, List, [], ◌∷◌, ◌++◌, map, eqb, refl, sym, ap, ◌∙◌, inl, inr, append-nil, arith}
use Rattle.std.proofs.lemmas.Bool.Decides.{eqb_tells}
use Rattle.std.proofs.lemmas.Bool.{cases_lt}
use Rattle.lnet_gates.specs.Gates.{flip}
use Rattle.lnet_gates.specs.LutForms.{put, all_false, holds_somewhere, changes_with, passing, support, assigned}
use Rattle.lnet_gates.specs.Lawful.OperandLemmas.{by_test, untrue, eqb-same, eqb-self, eqb-apart, cond-true, cond-false}
use Rattle.lnet_gates.specs.Lawful.AndForms.{either_true, or-true}

-- f reads nodes below the bound only
abbrev pub ReadsBelow : ((ℕ → Bool) → Bool) → ℕ → Type 0
ReadsBelow f bound = (V W : ℕ → Bool) → ((n : ℕ) → n < bound → V n ≡ W n) → f V ≡ f W

-- f does not change with node n
abbrev pub Ignores : ((ℕ → Bool) → Bool) → ℕ → Type 0
Ignores f n = (V : ℕ → Bool) (b : Bool) → f (put V n b) ≡ f V

-- m is one of the numbers
abbrev pub IsIn : ℕ → List ℕ → Type 0
IsIn m [] = ⊥
IsIn m (n ∷ ns) = (m ≡ n) ⊎ IsIn m ns

-- ---- bits

pub by_node : {A : Type 0} (m n : ℕ) → (m ≡ n → A) → (m ≢ n → A) → A
by_node {A} m n p q = elim (eqb_tells m n) as (λ _. A) [ inl h ↦ p h.1 | inr h ↦ q h.1 ]

by_bit : {A : Type 0} (x : Bool) → (x ≡ true → A) → (x ≡ false → A) → A
by_bit true p q = p refl
by_bit false p q = q refl

pub flip-self : (x : Bool) → flip x x ≡ false
flip-self true = refl
flip-self false = refl

pub same-bits : (x y : Bool) → flip x y ≡ false → x ≡ y
same-bits true true h = refl
same-bits true false h = cc
same-bits false true h = cc
same-bits false false h = refl

pub not-true : (b : Bool) → (b ≡ true → ⊥) → b ≡ false
not-true true h = absurd (h refl)
not-true false h = refl

pub not-false : (b : Bool) → (b ≡ false → ⊥) → b ≡ true
not-false true h = refl
not-false false h = absurd (h refl)

same-tests : (x y : Bool) → (x ≡ false → y ≡ false) → (y ≡ false → x ≡ false) → x ≡ y
same-tests true true h k = refl
same-tests true false h k = k refl
same-tests false true h k = sym (h refl)
same-tests false false h k = refl

-- ---- one node's value

pub put-here : (V : ℕ → Bool) (n : ℕ) (b : Bool) → put V n b n ≡ b
put-here V n b = cond-true (eqb n n) b (V n) (eqb-self n)

pub put-other : (V : ℕ → Bool) (n : ℕ) (b : Bool) (m : ℕ) → m ≢ n → put V n b m ≡ V m
put-other V n b m h = cond-false (eqb m n) b (V m) (eqb-apart m n h)

put-toward : (V W : ℕ → Bool) (n m : ℕ) → (m ≢ n → V m ≡ W m) → put V n (W n) m ≡ W m
put-toward V W n m h = by_node m n (λ e. ap (put V n (W n)) e ∙ put-here V n (W n) ∙ ap W (sym e)) (λ ne. put-other V n (W n) m ne ∙ h ne)

pub put-own : (V : ℕ → Bool) (n : ℕ) → put V n (V n) ≡ V
put-own V n = λ i. λ m. put-toward V V n m (λ _. refl) i

pub put-same : (V W : ℕ → Bool) (n : ℕ) (b : Bool) (m : ℕ) → (m ≢ n → V m ≡ W m) → put V n b m ≡ put W n b m
put-same V W n b m h =
    by_node m n
    (λ e. ap (put V n b) e ∙ put-here V n b ∙ sym (put-here W n b) ∙ ap (put W n b) (sym e))
    (λ ne. put-other V n b m ne ∙ h ne ∙ sym (put-other W n b m ne))

-- ---- some values of the nodes

somewhere-is : (bound : ℕ) (p : (ℕ → Bool) → Bool) → holds_somewhere bound p ≡ true → (V : ℕ → Bool) × (p V ≡ true)
somewhere-is zero p h = (all_false, h)
somewhere-is (suc n) p h =
    let w : (V : ℕ → Bool) × ((p (put V n false) || p (put V n true)) ≡ true) = somewhere-is n (λ V. p (put V n false) || p (put V n true)) h in
    either_true (p (put w.0 n false)) (p (put w.0 n true)) w.1 (λ q. (put w.0 n false, q)) (λ q. (put w.0 n true, q))

either-value : (q : Bool → Bool) (b : Bool) → q b ≡ true → (q false || q true) ≡ true
either-value q true h = or-true (q false) (q true) h
either-value q false h = ap (λ x. x || q true) h

somewhere-if : (bound : ℕ) (p : (ℕ → Bool) → Bool) → ReadsBelow p bound → (V : ℕ → Bool) → p V ≡ true → holds_somewhere bound p ≡ true
somewhere-if zero p reads V h = reads all_false V (λ n below. absurd (omega arith)) ∙ h
somewhere-if (suc n) p reads V h =
    somewhere-if n (λ W. p (put W n false) || p (put W n true))
    (λ W X same i. at W X same false i || at W X same true i)
    V (either-value (λ b. p (put V n b)) (V n) (ap p (put-own V n) ∙ h))
  where
    at : (W X : ℕ → Bool) → ((m : ℕ) → m < n → W m ≡ X m) → (b : Bool) → p (put W n b) ≡ p (put X n b)
    at W X same b = reads (put W n b) (put X n b) (λ m below. put-same W X n b m (λ ne. same m (omega arith)))

-- the witness of a change
pub change-is : (f : (ℕ → Bool) → Bool) (bound n : ℕ) → changes_with f bound n ≡ true → (V : ℕ → Bool) × (flip (f (put V n false)) (f (put V n true)) ≡ true)
change-is f bound n h = somewhere-is bound (λ V. flip (f (put V n false)) (f (put V n true))) h

pub unchanged : (f : (ℕ → Bool) → Bool) (bound n : ℕ) → Ignores f n → changes_with f bound n ≡ false
unchanged f bound n ignored = not-true (changes_with f bound n) (λ h. no (change-is f bound n h))
  where
    no : (V : ℕ → Bool) × (flip (f (put V n false)) (f (put V n true)) ≡ true) → ⊥
    no w = untrue (flip (f (put w.0 n false)) (f (put w.0 n true))) w.1 (ap (λ x. flip x (f (put w.0 n true))) (ignored w.0 false ∙ sym (ignored w.0 true)) ∙ flip-self (f (put w.0 n true)))

pub ignores : (f : (ℕ → Bool) → Bool) (bound n : ℕ) → ReadsBelow f bound → changes_with f bound n ≡ false → Ignores f n
ignores f bound n reads none V b = any b (V n) ∙ ap f (put-own V n)
  where
    at : (W X : ℕ → Bool) → ((m : ℕ) → m < bound → W m ≡ X m) → (c : Bool) → f (put W n c) ≡ f (put X n c)
    at W X same c = reads (put W n c) (put X n c) (λ m below. put-same W X n c m (λ ne. same m below))

    both : f (put V n false) ≡ f (put V n true)
    both = same-bits (f (put V n false)) (f (put V n true)) (not-true (flip (f (put V n false)) (f (put V n true))) (λ h.
        untrue (changes_with f bound n) (somewhere-if bound (λ W. flip (f (put W n false)) (f (put W n true))) (λ W X same i. flip (at W X same false i) (at W X same true i)) V h) none))

    any : (c d : Bool) → f (put V n c) ≡ f (put V n d)
    any true true = refl
    any true false = sym both
    any false true = both
    any false false = refl

pub above : (f : (ℕ → Bool) → Bool) (bound n : ℕ) → ReadsBelow f bound → bound ≤ n → Ignores f n
above f bound n reads h V b = reads (put V n b) V (λ m below. put-other V n b m (λ e. absurd (omega arith)))

pub changes-below : (f : (ℕ → Bool) → Bool) (bound n : ℕ) → ReadsBelow f bound → changes_with f bound n ≡ true → n < bound
changes-below f bound n reads h = elim (cases_lt n bound) as (λ _. n < bound) [ inl lt ↦ lt | inr ge ↦ untrue (changes_with f bound n) h (unchanged f bound n (above f bound n reads ge)) ]

-- ---- numbers that pass

in-left : (m : ℕ) (ns os : List ℕ) → IsIn m ns → IsIn m (ns ++ os)
in-left m [] os h = absurd h
in-left m (n ∷ ns) os (inl e) = inl e
in-left m (n ∷ ns) os (inr k) = inr (in-left m ns os k)

in-right : (m : ℕ) (ns os : List ℕ) → IsIn m os → IsIn m (ns ++ os)
in-right m [] os h = h
in-right m (n ∷ ns) os h = inr (in-right m ns os h)

pub in-split : (m : ℕ) (ns os : List ℕ) → IsIn m (ns ++ os) → IsIn m ns ⊎ IsIn m os
in-split m [] os h = inr h
in-split m (n ∷ ns) os (inl e) = inl (inl e)
in-split m (n ∷ ns) os (inr h) = later (in-split m ns os h)
  where
    later : IsIn m ns ⊎ IsIn m os → IsIn m (n ∷ ns) ⊎ IsIn m os
    later (inl k) = inl (inr k)
    later (inr k) = inr k

pub in-passing : (p : ℕ → Bool) (bound m : ℕ) → m < bound → p m ≡ true → IsIn m (passing p bound)
in-passing p zero m below h = absurd (omega arith)
in-passing p (suc n) m below h =
    by_node m n
    (λ e. in-right m (passing p n) (cond (p n) (n ∷ []) []) (by_test (IsIn m) (p n) (n ∷ []) [] (λ _. inl e) (λ k. untrue (p m) h (ap p e ∙ k))))
    (λ ne. in-left m (passing p n) (cond (p n) (n ∷ []) []) (in-passing p n m (omega arith) h))

pub in-passes : (p : ℕ → Bool) (bound m : ℕ) → IsIn m (passing p bound) → p m ≡ true
in-passes p zero m h = absurd h
in-passes p (suc n) m h = split (passing p n) (cond (p n) (n ∷ []) []) (in-passes p n m) (by_test (λ ns. IsIn m ns → p m ≡ true) (p n) (n ∷ []) [] (λ k. here k) (λ _ i. absurd i)) h
  where
    here : p n ≡ true → (m ≡ n) ⊎ ⊥ → p m ≡ true
    here k (inl e) = ap p e ∙ k
    here k (inr i) = absurd i

    split : (ns os : List ℕ) → (IsIn m ns → p m ≡ true) → (IsIn m os → p m ≡ true) → IsIn m (ns ++ os) → p m ≡ true
    split [] os l r i = r i
    split (x ∷ ns) os l r (inl e) = l (inl e)
    split (x ∷ ns) os l r (inr i) = split ns os (λ j. l (inr j)) r i

passing-last : (p : ℕ → Bool) (n : ℕ) → p n ≡ false → passing p (suc n) ≡ passing p n
passing-last p n h = ap (λ r. passing p n ++ r) (cond-false (p n) (n ∷ []) [] h) ∙ append-nil (passing p n)

pub passing-none : (p : ℕ → Bool) (bound : ℕ) → ((n : ℕ) → n < bound → p n ≡ false) → passing p bound ≡ []
passing-none p zero h = refl
passing-none p (suc n) h = passing-last p n (h n (omega arith)) ∙ passing-none p n (λ m below. h m (omega arith))

pub passing-one : (p : ℕ → Bool) (bound m : ℕ) → m < bound → p m ≡ true → ((n : ℕ) → n ≢ m → p n ≡ false) → passing p bound ≡ m ∷ []
passing-one p zero m below h others = absurd (omega arith)
passing-one p (suc n) m below h others =
    by_node n m
    (λ e. (λ i. passing-none p n (λ k lt. others k (λ same. absurd (omega arith))) i ++ cond-true (p n) (n ∷ []) [] (ap p e ∙ h) i) ∙ ap (λ k. k ∷ []) e)
    (λ ne. passing-last p n (others n ne) ∙ passing-one p n m (omega arith) h others)

passing-above : (p : ℕ → Bool) (b c : ℕ) → b ≤ c → ((n : ℕ) → b ≤ n → p n ≡ false) → passing p c ≡ passing p b
passing-above p b zero le h = let e : 0 ≡ b = omega arith in ap (passing p) e
passing-above p b (suc n) le h =
    elim (cases_lt n b) as (λ _. passing p (suc n) ≡ passing p b) [
      | inl lt ↦ let e : suc n ≡ b = omega arith in ap (passing p) e
      | inr ge ↦ passing-last p n (h n ge) ∙ passing-above p b n ge h
    ]

-- ---- the support

-- it does not matter which bound is taken
pub support-bound : (f : (ℕ → Bool) → Bool) (b c : ℕ) → ReadsBelow f b → ReadsBelow f c → support f b ≡ support f c
support-bound f b c reads_b reads_c =
    sym (passing-above (changes_with f b) b (b + c) (omega arith) (λ n h. unchanged f b n (above f b n reads_b h)))
    ∙ (λ i. passing (λ n. same n i) (b + c))
    ∙ passing-above (changes_with f c) c (b + c) (omega arith) (λ n h. unchanged f c n (above f c n reads_c h))
  where
    same : (n : ℕ) → changes_with f b n ≡ changes_with f c n
    same n = same-tests (changes_with f b n) (changes_with f c n) (λ h. unchanged f c n (ignores f b n reads_b h)) (λ h. unchanged f b n (ignores f c n reads_c h))

-- f is determined by the nodes that it changes with
pub determined : (f : (ℕ → Bool) → Bool) (bound : ℕ) → ReadsBelow f bound → (V W : ℕ → Bool) → ((n : ℕ) → changes_with f bound n ≡ true → V n ≡ W n) → f V ≡ f W
determined f bound reads = from bound (λ V W below same. reads V W below)
  where
    from : (b : ℕ) → ((V W : ℕ → Bool) → ((n : ℕ) → n < b → V n ≡ W n) → ((n : ℕ) → changes_with f bound n ≡ true → V n ≡ W n) → f V ≡ f W)
        → (V W : ℕ → Bool) → ((n : ℕ) → changes_with f bound n ≡ true → V n ≡ W n) → f V ≡ f W
    from zero told = λ V W same. told V W (λ n below. absurd (omega arith)) same
    from (suc b) told = from b (λ V W below same.
        by_bit (changes_with f bound b)
        (λ h. told V W (λ n lt. by_node n b (λ e. ap V e ∙ same b h ∙ ap W (sym e)) (λ ne. below n (omega arith))) same)
        (λ h. sym (ignores f bound b reads h V (W b)) ∙ told (put V b (W b)) W (λ n lt. put-toward V W b n (λ ne. below n (omega arith))) (λ n k. put-toward V W b n (λ _. same n k))))

pub assigned-in : (V : ℕ → Bool) (ns : List ℕ) (m : ℕ) → IsIn m ns → assigned ns (map V ns) m ≡ V m
assigned-in V [] m h = absurd h
assigned-in V (n ∷ ns) m h = by_test (λ r. r ≡ V m) (eqb m n) (V n) (assigned ns (map V ns) m) (λ k. ap V (sym (eqb-same m n k))) (λ k. later (assigned-in V ns m) k h)
  where
    later : (IsIn m ns → assigned ns (map V ns) m ≡ V m) → eqb m n ≡ false → (m ≡ n) ⊎ IsIn m ns → assigned ns (map V ns) m ≡ V m
    later rest k (inl e) = untrue (eqb m n) (ap (λ x. eqb x n) e ∙ eqb-self n) k
    later rest k (inr i) = rest i

-- f is a function of the values of its support
pub on-support : (f : (ℕ → Bool) → Bool) (bound : ℕ) → ReadsBelow f bound → (V : ℕ → Bool) → f (assigned (support f bound) (map V (support f bound))) ≡ f V
on-support f bound reads V =
    determined f bound reads (assigned (support f bound) (map V (support f bound))) V (λ n h. assigned-in V (support f bound) n (in-passing (changes_with f bound) bound n (changes-below f bound n reads h) h))
