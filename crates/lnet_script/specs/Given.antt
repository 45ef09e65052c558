-- What the functions that read words return.
use Rattle.std.specs.Prelude.{◌≡◌, Option, Some, None, Result, Ok, Err}
use Rattle.lnet_script.specs.declared.refusal.Refusal.{Refusal}
use Rattle.lnet_script.specs.declared.refusal.Refusal.TheVariants.{NoCommand, NoMemory}

-- go on with what was read, if it was
infixl 10 ◌>>=◌
abbrev pub ◌>>=◌ : {A B : Type 0} → Option A → (A → Option B) → Option B
(Some x) >>= f = f x
None >>= f = None

-- a refusal comes where nothing is read, or memory ran out
abbrev pub Fails : {Y : Type 0} → Refusal → Option Y → Type 0
Fails NoMemory read = Unit {0}
Fails NoCommand read = read ≡ None

-- what a function returned, seen by view, is what reading gives, unless memory ran out
abbrev pub Gives : {X Y : Type 0} → (X → Y) → Result X Refusal → Option Y → Type 0
Gives view (Ok x) read = read ≡ Some (view x)
Gives view (Err e) read = Fails e read
