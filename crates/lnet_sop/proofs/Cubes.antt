-- The recursion of the irredundant sum of products: which case holds, and what each makes of the union of its cubes.
use Rattle.std.proofs.Common.{◌≡◌, ℕ, zero, suc, ◌+◌, ◌-◌, ◌*◌, ◌%◌, ◌^◌, ◌<◌, ◌≤◌, Bool, true, false, cond, List, [], ◌∷◌, ◌++◌, map, length, refl, sym, ◌∙◌, ap, subst, arith, ◌==◌, ◌||◌, append_assoc, append-nil, length-append, inl, inr}
use Rattle.std.specs.Prelude.{◌&&◌, All}
use Rattle.std.proofs.lemmas.Bool.{false≢true, ne_eqb, cases_lt}
use Rattle.std.proofs.lemmas.Nat.{mod-mul-add, pow-add, pow_below}
use Rattle.std.proofs.lemmas.List.{map-append}
use Rattle.std.proofs.lemmas.List.Elements.{All-cons, All-nil, All-append, All-map, All-weaker}
use Rattle.lnet_tables.specs.Bits.{Rows, row, by_rows, bit_of, is_set, equal_rows, and_rows, expand_rows, constant_rows}
use Rattle.lnet_tables.specs.Inverse.{row_inside}
use Rattle.lnet_tables.specs.Shannon.{is_constant}
use Rattle.lnet_tables.proofs.Ops.{same_rows}
use Rattle.lnet_sop.specs.declared.cover.Cube.{Cube}
use Rattle.lnet_sop.specs.Covers.{CoverValue, IsCover, covers, union_rows, IsCube}
use Rattle.lnet_sop.specs.Isop.{universe, with_literal, in_context, half, or_rows, minus_rows, joined_rows, by_halves, by_last, by_bounds, cubes_of}
use Rattle.lnet_sop.proofs.CubeRows.{set_here, by_value, holds_universe, universe_cube, free_cube, with_cube, covers_free, covers_step}

-- ---- which case
pub cubes_none : (n : ℕ) (lower upper : Rows) → is_constant lower false ≡ true → cubes_of n lower upper ≡ []
unfolding cubes_of
cubes_none zero lower upper h = ap (λ t. cond t [] (universe ∷ [])) h
cubes_none (suc n) lower upper h = ap (λ t. by_bounds t (is_constant upper true) (λ l u. cubes_of n l u) n (half lower n false) (half lower n true) (half upper n false) (half upper n true)) h

never_none : (n : ℕ) (b : Bool) → (suc n == 0 || b) ≡ b
never_none n b = ap (λ t. t || b) (ne_eqb (suc n) 0 (λ e. absurd (omega arith)))

pub cubes_whole : (n : ℕ) (lower upper : Rows) → is_constant lower false ≡ false → (n == 0 || is_constant upper true) ≡ true → cubes_of n lower upper ≡ universe ∷ []
unfolding cubes_of
cubes_whole zero lower upper h e = ap (λ t. cond t [] (universe ∷ [])) h
cubes_whole (suc n) lower upper h e =
    ap (λ t. by_bounds t (is_constant upper true) (λ l u. cubes_of n l u) n (half lower n false) (half lower n true) (half upper n false) (half upper n true)) h
    ∙ ap (λ t. by_bounds false t (λ l u. cubes_of n l u) n (half lower n false) (half lower n true) (half upper n false) (half upper n true)) (sym (never_none n (is_constant upper true)) ∙ e)

pub cubes_later : (n m : ℕ) (lower upper : Rows) → is_constant lower false ≡ false → (n == 0 || is_constant upper true) ≡ false → m ≡ n - 1
    → cubes_of n lower upper ≡ by_last (equal_rows (half lower m false) (half lower m true) && equal_rows (half upper m false) (half upper m true))
    (λ l u. cubes_of m l u) m (half lower m false) (half lower m true) (half upper m false) (half upper m true)
unfolding cubes_of
cubes_later zero m lower upper h e d = absurd (false≢true (sym e))
cubes_later (suc n) m lower upper h e d =
    let same : n ≡ m = omega arith in
    ap (λ t. by_bounds t (is_constant upper true) (λ l u. cubes_of n l u) n (half lower n false) (half lower n true) (half upper n false) (half upper n true)) h
    ∙ ap (λ t. by_bounds false t (λ l u. cubes_of n l u) n (half lower n false) (half lower n true) (half upper n false) (half upper n true)) (sym (never_none n (is_constant upper true)) ∙ e)
    ∙ ap (λ (k : ℕ). by_last (equal_rows (half lower k false) (half lower k true) && equal_rows (half upper k false) (half upper k true))
    (λ l u. cubes_of k l u) k (half lower k false) (half lower k true) (half upper k false) (half upper k true)) same

-- what the code knows once neither bound is settled: the halves of both bounds
pub record Turn (lower upper low high under over : Rows) : Type 0 where
  pub some : is_constant lower false ≡ false
  pub later : (lower.vars == 0 || is_constant upper true) ≡ false
  pub low_is : low ≡ half lower (lower.vars - 1) false
  pub high_is : high ≡ half lower (lower.vars - 1) true
  pub under_is : under ≡ half upper (lower.vars - 1) false
  pub over_is : over ≡ half upper (lower.vars - 1) true

pub turn_of : (lower upper low high under over : Rows) → lower.vars ≡ upper.vars → is_constant lower false ≡ false → (upper.vars == 0 || is_constant upper true) ≡ false
    → low ≡ half lower (lower.vars - 1) false → high ≡ half lower (lower.vars - 1) true → under ≡ half upper (upper.vars - 1) false → over ≡ half upper (upper.vars - 1) true
    → Turn lower upper low high under over
turn_of lower upper low high under over e some later el eh eu eo = record {
  some = some;
  later = ap (λ (k : ℕ). k == 0 || is_constant upper true) e ∙ later;
  low_is = el;
  high_is = eh;
  under_is = eu ∙ ap (λ (k : ℕ). half upper (k - 1) false) (sym e);
  over_is = eo ∙ ap (λ (k : ℕ). half upper (k - 1) true) (sym e);
}

by_turn : (lower upper low high under over : Rows) → Turn lower upper low high under over
    → cubes_of lower.vars lower upper ≡ by_last (equal_rows low high && equal_rows under over) (λ l u. cubes_of (lower.vars - 1) l u) (lower.vars - 1) low high under over
by_turn lower upper low high under over t =
    let n : ℕ = lower.vars in
    let f : Rows → Rows → List Cube = λ l u. cubes_of (n - 1) l u in
    cubes_later n (n - 1) lower upper t.some t.later refl
    ∙ sym (ap (λ (x : Rows). by_last (equal_rows x (half lower (n - 1) true) && equal_rows (half upper (n - 1) false) (half upper (n - 1) true)) f (n - 1) x (half lower (n - 1) true) (half upper (n - 1) false) (half upper (n - 1) true)) t.low_is)
    ∙ sym (ap (λ (x : Rows). by_last (equal_rows low x && equal_rows (half upper (n - 1) false) (half upper (n - 1) true)) f (n - 1) low x (half upper (n - 1) false) (half upper (n - 1) true)) t.high_is)
    ∙ sym (ap (λ (x : Rows). by_last (equal_rows low high && equal_rows x (half upper (n - 1) true)) f (n - 1) low high x (half upper (n - 1) true)) t.under_is)
    ∙ sym (ap (λ (x : Rows). by_last (equal_rows low high && equal_rows under x) f (n - 1) low high under x) t.over_is)

-- neither bound depends on the last variable
pub cubes_passed : (lower upper low high under over : Rows) → Turn lower upper low high under over → (equal_rows low high && equal_rows under over) ≡ true
    → cubes_of lower.vars lower upper ≡ cubes_of (lower.vars - 1) low under
cubes_passed lower upper low high under over t same =
    by_turn lower upper low high under over t ∙ ap (λ b. by_last b (λ l u. cubes_of (lower.vars - 1) l u) (lower.vars - 1) low high under over) same

-- one of them does
pub cubes_split : (lower upper low high under over : Rows) → Turn lower upper low high under over → (equal_rows low high && equal_rows under over) ≡ false
    → cubes_of lower.vars lower upper ≡ by_halves (λ l u. cubes_of (lower.vars - 1) l u) (lower.vars - 1) low high under over
cubes_split lower upper low high under over t same =
    by_turn lower upper low high under over t ∙ ap (λ b. by_last b (λ l u. cubes_of (lower.vars - 1) l u) (lower.vars - 1) low high under over) same

-- ---- the cubes are cubes of these variables
each_free : (n : ℕ) (cs : List Cube) → All (IsCube n) cs → All (IsCube (suc n)) cs
each_free n cs h = All-weaker (IsCube n) (IsCube (suc n)) (λ c d. free_cube n c d) cs h

each_with : (n : ℕ) (p : Bool) (cs : List Cube) → All (IsCube n) cs → All (IsCube (suc n)) (map (with_literal n p) cs)
each_with n p cs h = All-map (IsCube (suc n)) (with_literal n p) cs (All-weaker (IsCube n) (λ c. IsCube (suc n) (with_literal n p c)) (λ c d. with_cube n p c d) cs h)

one_each : (n : ℕ) → All (IsCube n) (universe ∷ [])
one_each n = All-cons (IsCube n) universe [] (universe_cube n) (All-nil (IsCube n))

last_each : (b : Bool) (f : Rows → Rows → List Cube) (n : ℕ) (low high under over : Rows) → ((l u : Rows) → All (IsCube n) (f l u)) → All (IsCube (suc n)) (by_last b f n low high under over)
last_each true f n low high under over h = each_free n (f low under) (h low under)
last_each false f n low high under over h =
    let c0 : List Cube = f (minus_rows low over) under in
    let c1 : List Cube = f (minus_rows high under) over in
    let left : Rows = or_rows (minus_rows low (union_rows n c0)) (minus_rows high (union_rows n c1)) in
    let cd : List Cube = f left (and_rows under over) in
    All-append (IsCube (suc n)) (map (with_literal n false) c0) (map (with_literal n true) c1 ++ cd) (each_with n false c0 (h (minus_rows low over) under))
    (All-append (IsCube (suc n)) (map (with_literal n true) c1) cd (each_with n true c1 (h (minus_rows high under) over)) (each_free n cd (h left (and_rows under over))))

bounds_each : (b d : Bool) (f : Rows → Rows → List Cube) (n : ℕ) (low high under over : Rows) → ((l u : Rows) → All (IsCube n) (f l u)) → All (IsCube (suc n)) (by_bounds b d f n low high under over)
bounds_each true d f n low high under over h = All-nil (IsCube (suc n))
bounds_each false true f n low high under over h = one_each (suc n)
bounds_each false false f n low high under over h = last_each (equal_rows low high && equal_rows under over) f n low high under over h

zero_each : (b : Bool) → All (IsCube 0) (cond b [] (universe ∷ []))
zero_each true = All-nil (IsCube 0)
zero_each false = one_each 0

pub cubes_each : (n : ℕ) (lower upper : Rows) → All (IsCube n) (cubes_of n lower upper)
unfolding cubes_of
cubes_each zero lower upper = zero_each (is_constant lower false)
cubes_each (suc n) lower upper =
    bounds_each (is_constant lower false) (is_constant upper true) (λ l u. cubes_of n l u) n (half lower n false) (half lower n true) (half upper n false) (half upper n true)
    (λ l u. cubes_each n l u)

-- ---- the union
pub union_whole : (n : ℕ) → constant_rows n true ≡ union_rows n (universe ∷ [])
union_whole n = same_rows n _ _ (λ r lt. sym (ap (λ t. t || false) (holds_universe n r)))

-- the row of the half
low_row : (b : Bool) (n x : ℕ) → x < 2 ^ n → (bit_of b * 2 ^ n + x) % 2 ^ n ≡ x
low_row b n x lt = mod-mul-add (bit_of b) (2 ^ n) x lt

pub union_passed : (n m : ℕ) (cs : List Cube) → n ≡ suc m → All (IsCube m) cs → expand_rows (union_rows m cs) n ≡ union_rows n cs
union_passed n m cs e each =
    ap (λ k. expand_rows (union_rows m cs) k) e
    ∙ same_rows (suc m) _ _ (by_value m (λ r. row (union_rows m cs) (r % 2 ^ m) ≡ covers (suc m) cs r) (λ b x lt.
    ap (λ k. row (union_rows m cs) k) (low_row b m x lt) ∙ row_inside m (covers m cs) x lt ∙ sym (covers_free m cs b x each)))
    ∙ ap (λ k. union_rows k cs) (sym e)

pub union_step : (n m : ℕ) (c0 c1 cd : List Cube) → n ≡ suc m → All (IsCube m) c0 → All (IsCube m) c1 → All (IsCube m) cd
    → joined_rows (or_rows (union_rows m c0) (union_rows m cd)) (or_rows (union_rows m c1) (union_rows m cd))
    ≡ union_rows n (map (with_literal m false) c0 ++ (map (with_literal m true) c1 ++ cd))
union_step n m c0 c1 cd e h0 h1 hd =
    let cs : List Cube = map (with_literal m false) c0 ++ (map (with_literal m true) c1 ++ cd) in
    let low : Rows = or_rows (union_rows m c0) (union_rows m cd) in
    let high : Rows = or_rows (union_rows m c1) (union_rows m cd) in
    (let k : m + 1 ≡ suc m = omega arith in ap (λ j. by_rows j (λ r. cond (is_set r m) (row high (r % 2 ^ m)) (row low (r % 2 ^ m)))) k)
    ∙ same_rows (suc m) _ _ (by_value m (λ r. cond (is_set r m) (row high (r % 2 ^ m)) (row low (r % 2 ^ m)) ≡ covers (suc m) cs r) (λ b x lt.
    ap (λ k. cond (is_set (bit_of b * 2 ^ m + x) m) (row high k) (row low k)) (low_row b m x lt)
    ∙ ap (λ t. cond t (row high x) (row low x)) (set_here b m x lt)
    ∙ go b x lt ∙ sym (covers_step m c0 c1 cd b x lt h0 h1 hd)))
    ∙ ap (λ k. union_rows k cs) (sym e) where
      half_row : (c : List Cube) (x : ℕ) → x < 2 ^ m → row (or_rows (union_rows m c) (union_rows m cd)) x ≡ (covers m c x || covers m cd x)
      half_row c x lt =
          row_inside m _ x lt ∙ ap (λ t. t || row (union_rows m cd) x) (row_inside m (covers m c) x lt)
          ∙ ap (λ t. covers m c x || t) (row_inside m (covers m cd) x lt)

      go : (b : Bool) (x : ℕ) → x < 2 ^ m → cond b (row (or_rows (union_rows m c1) (union_rows m cd)) x) (row (or_rows (union_rows m c0) (union_rows m cd)) x)
          ≡ (cond b (covers m c1 x) (covers m c0 x) || covers m cd x)
      go true x lt = half_row c1 x lt
      go false x lt = half_row c0 x lt

-- ---- the cubes in a context
same_cube : (a b c d : ℕ) → a ≡ b → c ≡ d → (let x : Cube = record { care = a; value = c } in x) ≡ record { care = b; value = d }
same_cube a b c d e f = ap (λ (k : ℕ). let x : Cube = record { care = k; value = c } in x) e ∙ ap (λ (k : ℕ). let x : Cube = record { care = b; value = k } in x) f

pub context_none : (cs : List Cube) (a : Cube) → a.care ≡ 0 → a.value ≡ 0 → map (in_context a) cs ≡ cs
context_none [] a e f = refl
context_none (c ∷ cs) a e f =
    ap (λ (x : Cube). x ∷ map (in_context a) cs) (same_cube (a.care + c.care) c.care (a.value + c.value) c.value (omega arith) (omega arith))
    ∙ ap (λ (xs : List Cube). c ∷ xs) (context_none cs a e f)

pub context_with : (n : ℕ) (p : Bool) (a b : Cube) (cs : List Cube) → b ≡ record { care = a.care + 2 ^ n; value = a.value + bit_of p * 2 ^ n }
    → map (in_context b) cs ≡ map (in_context a) (map (with_literal n p) cs)
context_with n p a b [] e = refl
context_with n p a b (c ∷ cs) e =
    let care : b.care + c.care ≡ a.care + (2 ^ n + c.care) = omega (arith, ap (λ (x : Cube). x.care) e) in
    let value : b.value + c.value ≡ a.value + (bit_of p * 2 ^ n + c.value) = omega (arith, ap (λ (x : Cube). x.value) e) in
    ap (λ (x : Cube). x ∷ map (in_context b) cs) (same_cube (b.care + c.care) (a.care + (2 ^ n + c.care)) (b.value + c.value) (a.value + (bit_of p * 2 ^ n + c.value)) care value)
    ∙ ap (λ (xs : List Cube). in_context a (with_literal n p c) ∷ xs) (context_with n p a b cs e)

pub context_one : (a : Cube) → a ≡ in_context a universe
context_one a = same_cube a.care (a.care + 0) a.value (a.value + 0) (omega arith) (omega arith)

-- the cubes of the three turns, one after the other
pub context_step : (n : ℕ) (a a0 a1 : Cube) (c0 c1 cd before x y z : List Cube)
    → a0 ≡ record { care = a.care + 2 ^ n; value = a.value + bit_of false * 2 ^ n }
    → a1 ≡ record { care = a.care + 2 ^ n; value = a.value + bit_of true * 2 ^ n }
    → x ≡ before ++ map (in_context a0) c0 → y ≡ x ++ map (in_context a1) c1 → z ≡ y ++ map (in_context a) cd
    → z ≡ before ++ map (in_context a) (map (with_literal n false) c0 ++ (map (with_literal n true) c1 ++ cd))
context_step n a a0 a1 c0 c1 cd before x y z e0 e1 ex ey ez =
    let w0 : List Cube = map (with_literal n false) c0 in
    let w1 : List Cube = map (with_literal n true) c1 in
    ez
    ∙ ap (λ (t : List Cube). t ++ map (in_context a) cd) (ey ∙ ap (λ (t : List Cube). t ++ map (in_context a1) c1) (ex ∙ ap (λ (t : List Cube). before ++ t) (context_with n false a a0 c0 e0)) ∙ ap (λ (t : List Cube). (before ++ map (in_context a) w0) ++ t) (context_with n true a a1 c1 e1))
    ∙ append_assoc (before ++ map (in_context a) w0) (map (in_context a) w1) (map (in_context a) cd)
    ∙ append_assoc before (map (in_context a) w0) (map (in_context a) w1 ++ map (in_context a) cd)
    ∙ ap (λ (t : List Cube). before ++ (map (in_context a) w0 ++ t)) (sym (map-append (in_context a) w1 cd))
    ∙ ap (λ (t : List Cube). before ++ t) (sym (map-append (in_context a) w0 (w1 ++ cd)))

-- ---- the ends of the recursion, as the code answers them
pub none_added : (n : ℕ) (lower upper : Rows) (a : Cube) (before : List Cube) → is_constant lower false ≡ true → before ≡ before ++ map (in_context a) (cubes_of n lower upper)
none_added n lower upper a before h =
    sym (append-nil before) ∙ ap (λ (cs : List Cube). before ++ map (in_context a) cs) (sym (cubes_none n lower upper h))

pub none_union : (n k : ℕ) (lower upper t : Rows) → t ≡ constant_rows k false → k ≡ n → is_constant lower false ≡ true → t ≡ union_rows n (cubes_of n lower upper)
none_union n k lower upper t et ek h =
    et ∙ ap (λ (j : ℕ). constant_rows j false) ek ∙ ap (λ (cs : List Cube). union_rows n cs) (sym (cubes_none n lower upper h))

pub whole_added : (lower upper : Rows) (a : Cube) (before x : List Cube) → lower.vars ≡ upper.vars → is_constant lower false ≡ false → (upper.vars == 0 || is_constant upper true) ≡ true
    → x ≡ before ++ a ∷ [] → x ≡ before ++ map (in_context a) (cubes_of lower.vars lower upper)
whole_added lower upper a before x e h w ex =
    let whole : (lower.vars == 0 || is_constant upper true) ≡ true = ap (λ (k : ℕ). k == 0 || is_constant upper true) e ∙ w in
    ex ∙ ap (λ (c : Cube). before ++ c ∷ []) (context_one a) ∙ ap (λ (cs : List Cube). before ++ map (in_context a) cs) (sym (cubes_whole lower.vars lower upper h whole))

pub whole_union : (lower upper t : Rows) (k : ℕ) → t ≡ constant_rows k true → k ≡ lower.vars → lower.vars ≡ upper.vars → is_constant lower false ≡ false → (upper.vars == 0 || is_constant upper true) ≡ true
    → t ≡ union_rows lower.vars (cubes_of lower.vars lower upper)
whole_union lower upper t k et ek e h w =
    let whole : (lower.vars == 0 || is_constant upper true) ≡ true = ap (λ (j : ℕ). j == 0 || is_constant upper true) e ∙ w in
    et ∙ ap (λ (j : ℕ). constant_rows j true) ek ∙ union_whole lower.vars ∙ ap (λ (cs : List Cube). union_rows lower.vars cs) (sym (cubes_whole lower.vars lower upper h whole))

-- ---- what a turn answers, of tables that are known by equations
pub same_union : (k m : ℕ) (l l' u u' t : Rows) → t ≡ union_rows k (cubes_of k l u) → k ≡ m → l ≡ l' → u ≡ u' → t ≡ union_rows m (cubes_of m l' u')
same_union k m l l' u u' t h ek el eu =
    h ∙ ap (λ j. union_rows j (cubes_of j l u)) ek ∙ ap (λ (x : Rows). union_rows m (cubes_of m x u)) el ∙ ap (λ (x : Rows). union_rows m (cubes_of m l' x)) eu

pub same_added : (k m : ℕ) (l l' u u' : Rows) (a : Cube) (before x : List Cube) → x ≡ before ++ map (in_context a) (cubes_of k l u) → k ≡ m → l ≡ l' → u ≡ u'
    → x ≡ before ++ map (in_context a) (cubes_of m l' u')
same_added k m l l' u u' a before x h ek el eu =
    h ∙ ap (λ j. before ++ map (in_context a) (cubes_of j l u)) ek ∙ ap (λ (y : Rows). before ++ map (in_context a) (cubes_of m y u)) el
    ∙ ap (λ (y : Rows). before ++ map (in_context a) (cubes_of m l' y)) eu

pub some_left : (n : ℕ) (b : Bool) → (n == 0 || b) ≡ false → n ≡ suc (n - 1)
some_left zero b h = absurd (false≢true (sym h))
some_left (suc n) b h = omega arith

pub left_is : (low high f0 f1 g0 g1 a b t : Rows) → t ≡ or_rows a b → a ≡ minus_rows low f0 → b ≡ minus_rows high f1 → f0 ≡ g0 → f1 ≡ g1
    → t ≡ or_rows (minus_rows low g0) (minus_rows high g1)
left_is low high f0 f1 g0 g1 a b t et ea eb e0 e1 =
    et ∙ ap (λ (x : Rows). or_rows x b) (ea ∙ ap (λ (x : Rows). minus_rows low x) e0) ∙ ap (λ (x : Rows). or_rows (minus_rows low g0) x) (eb ∙ ap (λ (x : Rows). minus_rows high x) e1)

pub joined_as : (f0 f1 fd g0 g1 gd a b t : Rows) → t ≡ joined_rows a b → a ≡ or_rows f0 fd → b ≡ or_rows f1 fd → f0 ≡ g0 → f1 ≡ g1 → fd ≡ gd
    → t ≡ joined_rows (or_rows g0 gd) (or_rows g1 gd)
joined_as f0 f1 fd g0 g1 gd a b t et ea eb e0 e1 ed =
    et ∙ ap (λ (x : Rows). joined_rows x b) (ea ∙ ap (λ (x : Rows). or_rows x fd) e0 ∙ ap (λ (x : Rows). or_rows g0 x) ed)
    ∙ ap (λ (x : Rows). joined_rows (or_rows g0 gd) x) (eb ∙ ap (λ (x : Rows). or_rows x fd) e1 ∙ ap (λ (x : Rows). or_rows g1 x) ed)

-- the context with a literal more, as the code makes it
pub literal_added : (a b : Cube) (p : Bool) (k m : ℕ) → b ≡ record { care = a.care + 2 ^ k; value = a.value + bit_of p * 2 ^ k } → k ≡ m
    → b ≡ record { care = a.care + 2 ^ m; value = a.value + bit_of p * 2 ^ m }
literal_added a b p k m e f = e ∙ ap (λ j. let x : Cube = record { care = a.care + 2 ^ j; value = a.value + bit_of p * 2 ^ j } in x) f

-- ---- how many cubes there are at most
length_map : (g : Cube → Cube) (cs : List Cube) → length (map g cs) ≡ length cs
length_map g [] = refl
length_map g (c ∷ cs) = ap suc (length_map g cs)

three_more : (n : ℕ) → 3 ^ suc n ≡ 3 * 3 ^ n
three_more n = (let e : suc n ≡ n + 1 = omega arith in ap (λ k. 3 ^ k) e) ∙ pow-add 3 n 1 ∙ omega arith

some_three : (n : ℕ) → 1 ≤ 3 ^ n
some_three zero = omega arith
some_three (suc n) = omega (arith, three_more n, some_three n)

last_few : (b : Bool) (f : Rows → Rows → List Cube) (n : ℕ) (low high under over : Rows) → ((l u : Rows) → length (f l u) ≤ 3 ^ n) → length (by_last b f n low high under over) ≤ 3 * 3 ^ n
last_few true f n low high under over h = omega (arith, h low under)
last_few false f n low high under over h =
    let c0 : List Cube = f (minus_rows low over) under in
    let c1 : List Cube = f (minus_rows high under) over in
    let left : Rows = or_rows (minus_rows low (union_rows n c0)) (minus_rows high (union_rows n c1)) in
    let cd : List Cube = f left (and_rows under over) in
    omega (
      arith,
      length-append (map (with_literal n false) c0) (map (with_literal n true) c1 ++ cd),
      length-append (map (with_literal n true) c1) cd,
      length_map (with_literal n false) c0,
      length_map (with_literal n true) c1,
      h (minus_rows low over) under,
      h (minus_rows high under) over,
      h left (and_rows under over),
    )

bounds_few : (b d : Bool) (f : Rows → Rows → List Cube) (n : ℕ) (low high under over : Rows) → ((l u : Rows) → length (f l u) ≤ 3 ^ n) → length (by_bounds b d f n low high under over) ≤ 3 * 3 ^ n
bounds_few true d f n low high under over h = omega arith
bounds_few false true f n low high under over h = omega (arith, some_three n)
bounds_few false false f n low high under over h = last_few (equal_rows low high && equal_rows under over) f n low high under over h

zero_few : (b : Bool) → length (cond b [] (universe ∷ [])) ≤ 1
zero_few true = omega arith
zero_few false = omega arith

pub cubes_few : (n : ℕ) (lower upper : Rows) → length (cubes_of n lower upper) ≤ 3 ^ n
unfolding cubes_of
cubes_few zero lower upper = zero_few (is_constant lower false)
cubes_few (suc n) lower upper =
    let k : length (cubes_of (suc n) lower upper) ≤ 3 * 3 ^ n =
    bounds_few (is_constant lower false) (is_constant upper true) (λ l u. cubes_of n l u) n (half lower n false) (half lower n true) (half upper n false) (half upper n true) (λ l u. cubes_few n l u) in
    omega (arith, k, three_more n)

powers_of_three : (d n : ℕ) → 3 ^ n ≤ 3 ^ (d + n)
powers_of_three zero n = (let e : 0 + n ≡ n = omega arith in subst (λ (k : ℕ). 3 ^ n ≤ 3 ^ k) (sym e) (omega arith))
powers_of_three (suc d) n =
    let e : suc d + n ≡ suc (d + n) = omega arith in
    subst (λ (k : ℕ). 3 ^ n ≤ 3 ^ k) (sym e) (omega (arith, powers_of_three d n, three_more (d + n)))

pub cubes_short : (n : ℕ) (lower upper : Rows) → n ≤ 10 → length (cubes_of n lower upper) ≤ 59049
cubes_short n lower upper few =
    let e : 10 - n + n ≡ 10 = omega arith in
    let k : 3 ^ n ≤ 3 ^ 10 = subst (λ (j : ℕ). 3 ^ n ≤ 3 ^ j) e (powers_of_three (10 - n) n) in
    omega (arith, k, cubes_few n lower upper)

-- ---- the call
pub begun : (cs before after : List Cube) (a : Cube) → before ≡ [] → a.care ≡ 0 → a.value ≡ 0 → after ≡ before ++ map (in_context a) cs → after ≡ cs
begun cs before after a eb ec ev e = e ∙ ap (λ (x : List Cube). x ++ map (in_context a) cs) eb ∙ context_none cs a ec ev

pub cover_fits : (n : ℕ) (l u : Rows) (cs : List Cube) → cs ≡ cubes_of l.vars l u → n ≡ l.vars → n ≤ 10 → IsCover n cs
cover_fits n l u cs e en few = record {
  few = few;
  short = omega (arith, ap length e, cubes_short l.vars l u (omega arith));
  each = subst (λ (k : ℕ). All (IsCube k) cs) (sym en) (subst (λ (ds : List Cube). All (IsCube l.vars) ds) (sym e) (cubes_each l.vars l u));
}

pub value_is : (n m : ℕ) (cs ds : List Cube) → n ≡ m → cs ≡ ds → (let x : CoverValue = record { vars = n; cubes = cs } in x) ≡ record { vars = m; cubes = ds }
value_is n m cs ds en e = ap (λ (k : ℕ). let x : CoverValue = record { vars = k; cubes = cs } in x) en ∙ ap (λ (k : List Cube). let x : CoverValue = record { vars = m; cubes = k } in x) e

pub room : (n : ℕ) → n ≤ 10 → 2 ^ n ≤ 1024
room n few = elim (cases_lt n 10) [ inl l ↦ let k : 2 ^ n < 2 ^ 10 = pow_below n 10 l in omega arith | inr g ↦ let e : n ≡ 10 = omega arith in rw e (omega arith) ]
