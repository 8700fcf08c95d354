-- The digests of an issued token, RFC 9901 section 4.2.3: those of its
-- disclosures, then those of its decoys.
use Rattle.std.specs.Prelude.{ℕ, suc, List, [], ◌∷◌, ◌++◌, length, map, Option}
use Rattle.std.specs.List.{range_with_len}
use Rattle.claim_tree.specs.Tree.{Text, Tree}
use Rattle.digest_sites.specs.Given.{Given}
use Rattle.disclosure.specs.declared.digests.HashAlg.{HashAlg}
use Rattle.marked_tree.specs.Marked.{Marked}
use Rattle.marked_tree.specs.Paths.{mark, hidden_count}
use Rattle.rebuild_core.specs.Reached.{given_digests}
use Rattle.issuer_core.specs.Order.{Order}
use Rattle.issuer_core.specs.Decoys.{decoys_of}

-- how texts are made: that of a disclosure with its number, its name or none, and its value; that
-- of a decoy with its number; and the digest of a text by a hash
pub record Maker : Type 0 where
  pub disclosure : ℕ → Option Text → Tree → Text
  pub piece : ℕ → Text
  pub digest : HashAlg → Text → Text

-- the texts of disclosures, where the first has the number k
abbrev pub made_texts : (ℕ → Option Text → Tree → Text) → ℕ → List Given → List Text
made_texts made k [] = []
made_texts made k (x ∷ xs) = made k x.name x.value ∷ made_texts made (suc k) xs

-- the claims, the hidden places numbered
abbrev pub marked_claims : Order → Marked
marked_claims o = mark o.payload o.hide

-- how many places are hidden: so many disclosures there are
abbrev pub hidden_of : Order → ℕ
hidden_of o = hidden_count o.payload o.hide

-- so many digests, where the first has the number k
abbrev pub digests_from : (ℕ → Text) → ℕ → ℕ → List Text
digests_from dg k many = map dg (range_with_len k many)

-- those of the decoys, by the order's hash
abbrev pub decoy_digests : Maker → Order → List Text
decoy_digests maker o =
    digests_from (λ k. maker.digest o.hash (maker.piece k)) (hidden_of o) (length (decoys_of o))

abbrev pub issued_digests : Maker → Order → List Given → List Text
issued_digests maker o given = given_digests given ++ decoy_digests maker o
