-- Worked values, by the definitions.
use Rattle.std.proofs.Common.{◌≡◌, List, [], ◌∷◌, ◌^◌, ◌-◌, None, Some, codes, refl}
use Rattle.digest_index.specs.Index.{Text, position_of, position_or_end, interned, ticked}

-- two texts, the second of them empty
abbrev two : List Text
two = codes "a" ∷ [] ∷ []

second : position_of [] two ≡ Some 1
second = refl

nowhere : position_of (codes "b") two ≡ None
nowhere = refl

the_end : position_or_end (codes "b") two ≡ 2
the_end = refl

known : interned (codes "a") two ≡ two
known = refl

new : interned (codes "b") two ≡ codes "a" ∷ [] ∷ codes "b" ∷ []
new = refl

-- of two places the first counts
first : position_of (codes "a") (codes "b" ∷ codes "a" ∷ codes "a" ∷ []) ≡ Some 1
first = refl

-- letters of another case are another text
case : position_of (codes "A") two ≡ None
case = refl

one_more : ticked 41 ≡ 42
one_more = refl

last : ticked (2 ^ 64 - 1) ≡ 2 ^ 64 - 1
last = refl
