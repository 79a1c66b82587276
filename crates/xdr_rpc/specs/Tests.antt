-- Tests one after the other: the first that fails decides.
use Rattle.std.specs.Prelude.{◌≡◌, Result, Ok, Err}

-- the next test begins with what this one passed with
infixl 10 ◌>>=◌
abbrev pub ◌>>=◌ : {A B E : Type 0} → Result A E → (A → Result B E) → Result B E
(Ok x) >>= next = next x
(Err why) >>= next = Err why

-- what a function found, seen by view, is what the test passes with, and it decides alike
abbrev pub Finds : {X Y E : Type 0} → (X → Y) → Result X E → Result Y E → Type 0
Finds view (Ok x) test = test ≡ Ok (view x)
Finds view (Err why) test = test ≡ Err why
