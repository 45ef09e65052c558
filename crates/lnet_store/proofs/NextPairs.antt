-- The pair after another one of a list, found by a look at each pair.
use Rattle.std.proofs.Common.{◌≡◌, ℕ, zero, suc, ◌+◌, ◌<◌, Bool, true, false, not, cond, List, [], ◌∷◌}
use Rattle.std.proofs.Common.{length, drop, is_some, option_map, slice_get, Option, None, Some, refl, sym, ap, subst, ◌∙◌, arith}
use Rattle.std.specs.Option.{option_eq}
use Rattle.lnet_gates.specs.declared.signal.Node.{Node}
use Rattle.lnet_model.specs.Answers.{item_in, same_pair, follower, next_in}

-- a pair of a node and a slot as numbers
abbrev pub as_numbers : Node × ℕ → ℕ × ℕ
as_numbers p = (p.0.0, p.1)

-- what stands after the first p from place i on
abbrev pub follower_from : Option (List (ℕ × ℕ)) → ℕ → Option (ℕ × ℕ) → Option (ℕ × ℕ)
follower_from None i last = None
follower_from (Some ps) i None = None
follower_from (Some ps) i (Some p) = follower p (drop i ps)

-- at place i: the pair there is the answer, or the answer stands after it
abbrev pub IsSought : Option (List (ℕ × ℕ)) → Option (ℕ × ℕ) → ℕ → Bool → Type 0
IsSought ps last i is_next = cond is_next (item_in ps i) (follower_from ps i last) ≡ next_in ps last

pub sought-first : (ps : Option (List (ℕ × ℕ))) (last : Option (Node × ℕ)) (b : Bool) → is_some last ≡ not b → IsSought ps (option_map as_numbers last) 0 b
sought-first None None true h = refl
sought-first None None false h = cc
sought-first (Some ps) None true h = refl
sought-first (Some ps) None false h = cc
sought-first None (Some p) true h = cc
sought-first None (Some p) false h = refl
sought-first (Some ps) (Some p) true h = cc
sought-first (Some ps) (Some p) false h = refl

get-some : (ps : List (ℕ × ℕ)) (i : ℕ) → None ≡ slice_get ps i → i < length ps → ⊥
get-some [] i e h = absurd (omega arith)
get-some (p ∷ ps) zero e h = cc
get-some (p ∷ ps) (suc i) e h = get-some ps i e (omega arith)

follower-next : (q z : ℕ × ℕ) (ps : List (ℕ × ℕ)) (i : ℕ) → Some z ≡ slice_get ps i → follower q (drop i ps) ≡ cond (same_pair z q) (slice_get ps (suc i)) (follower q (drop (suc i) ps))
follower-next q z [] i e = cc
follower-next q z (p ∷ ps) zero e = let same : z ≡ p = cc in ap (λ r. cond (same_pair r q) (slice_get ps 0) (follower q ps)) (sym same)
follower-next q z (p ∷ ps) (suc i) e = follower-next q z ps i e

sought-suc :
    (eq : Node × ℕ → Node × ℕ → Bool) → ((x y : Node × ℕ) → eq x y ≡ same_pair (as_numbers x) (as_numbers y)) → (ps : Option (List (ℕ × ℕ))) (i len : ℕ) (pair last : Option (Node × ℕ)) →
    option_map as_numbers pair ≡ item_in ps i → Some len ≡ option_map length ps → i < len → IsSought ps (option_map as_numbers last) i false →
    IsSought ps (option_map as_numbers last) (suc i) (option_eq eq pair last)
sought-suc eq agrees None i len pair last at there lt h = cc
sought-suc eq agrees (Some ps) i len None last at there lt h = absurd (get-some ps i at (let e : len ≡ length ps = cc in subst (λ z. i < z) e lt))
sought-suc eq agrees (Some ps) i len (Some x) None at there lt h = h
sought-suc eq agrees (Some ps) i len (Some x) (Some y) at there lt h =
    ap (λ b. cond b (slice_get ps (suc i)) (follower (as_numbers y) (drop (suc i) ps))) (agrees x y) ∙ sym (follower-next (as_numbers y) (as_numbers x) ps i at) ∙ h

pub sought-next :
    (eq : Node × ℕ → Node × ℕ → Bool) → ((x y : Node × ℕ) → eq x y ≡ same_pair (as_numbers x) (as_numbers y)) → (ps : Option (List (ℕ × ℕ))) (i len : ℕ) (pair last : Option (Node × ℕ)) →
    option_map as_numbers pair ≡ item_in ps i → Some len ≡ option_map length ps → i < len → IsSought ps (option_map as_numbers last) i false →
    IsSought ps (option_map as_numbers last) (i + 1) (option_eq eq pair last)
sought-next eq agrees ps i len pair last at there lt h =
    subst (λ k. IsSought ps (option_map as_numbers last) k (option_eq eq pair last)) (let e : suc i ≡ i + 1 = omega arith in e) (sought-suc eq agrees ps i len pair last at there lt h)

pub sought-here : {r : Option (ℕ × ℕ)} (ps : Option (List (ℕ × ℕ))) (last : Option (ℕ × ℕ)) (i : ℕ) (b : Bool) → IsSought ps last i b → b ≡ true → r ≡ item_in ps i → r ≡ next_in ps last
sought-here ps last i true h e at = at ∙ h
sought-here ps last i false h e at = cc

get-end : (ps : List (ℕ × ℕ)) → slice_get ps (length ps) ≡ None
get-end [] = refl
get-end (p ∷ ps) = get-end ps

drop-end : (ps : List (ℕ × ℕ)) → drop (length ps) ps ≡ []
drop-end [] = refl
drop-end (p ∷ ps) = drop-end ps

ended : (ps : List (ℕ × ℕ)) (last : Option (ℕ × ℕ)) (b : Bool) → IsSought (Some ps) last (length ps) b → None ≡ next_in (Some ps) last
ended ps last true h = sym (get-end ps) ∙ h
ended ps None false h = h
ended ps (Some p) false h = ap (follower p) (sym (drop-end ps)) ∙ h

pub sought-end : (ps : Option (List (ℕ × ℕ))) (last : Option (ℕ × ℕ)) (i len : ℕ) (b : Bool) → Some len ≡ option_map length ps → i ≡ len → IsSought ps last i b → None ≡ next_in ps last
sought-end None last i len b there e h = cc
sought-end (Some ps) last i len b there e h = ended ps last b (subst (λ z. IsSought (Some ps) last z b) (let same : len ≡ length ps = cc in e ∙ same) h)
