-- Which signatures are good: a meaning, over a head, a body and a signature.
use Rattle.std.specs.Prelude.{ℕ, List}

abbrev pub Meaning : Type 1
Meaning = List ℕ → List ℕ → List ℕ → Type 0
