-- The disclosures of a slice, one by one.
use Rattle.std.proofs.Common.{◌≡◌, ℕ, zero, suc, ◌<◌, List, [], ◌∷◌, map, length, get_or, sym, ap, subst, refl, arith}
use Rattle.std.proofs.lemmas.List.{length-map}
use Rattle.sd_outside.specs.Lists.{StandsAt}
use Rattle.sd_outside.proofs.Lists.{At-In, At-below}
use Rattle.digest_sites.specs.Given.{Given}
use Rattle.digest_sites.specs.GivenView.{given_of}
use Rattle.digest_sites.specs.declared.given.Given as code
use Rattle.rebuild_core.specs.Answer.{ValuesShallow}
use Rattle.claim_tree.specs.Tree.{depth}
use Rattle.std.proofs.Common.{◌≤◌}

At-of : (items : List code.Given) (i : ℕ) (d : code.Given) → i < length items → StandsAt (map given_of items) i (given_of (get_or items i d))
At-of [] i d h = absurd (omega arith)
At-of (x ∷ items) zero d h = refl
At-of (x ∷ items) (suc i) d h = At-of items i d (omega arith)

pub item_at : (items : List code.Given) (given : List Given) (i : ℕ) (x : code.Given) → map given_of items ≡ given → i < length items → x ≡ get_or items i x → StandsAt given i (given_of x)
item_at items given i x e h s = subst (λ z. StandsAt given i z) (ap given_of (sym s)) (subst (λ z. StandsAt z i (given_of (get_or items i x))) e (At-of items i x h))

pub item_past : (items : List code.Given) (given : List Given) (i : ℕ) (x : Given) → map given_of items ≡ given → StandsAt given i x → i < length items
item_past items given i x e h = omega (arith, length-map items given_of, At-below (map given_of items) i x (subst (λ z. StandsAt z i x) (sym e) h))

pub item_shallow : (items : List code.Given) (given : List Given) (i : ℕ) (x : code.Given) → map given_of items ≡ given → i < length items → x ≡ get_or items i x
    → ValuesShallow given → depth (given_of x).value ≤ 127
item_shallow items given i x e h s low = low (given_of x) (At-In given i (given_of x) (item_at items given i x e h s))
