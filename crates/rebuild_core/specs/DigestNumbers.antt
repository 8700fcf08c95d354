-- For private functions: digests as numbers, by the positions at which they were first seen.
use Rattle.std.specs.Prelude.{◌≡◌, ℕ, List, [], ◌∷◌, map, length}
use Rattle.claim_tree.specs.Tree.{Text, Tree}
use Rattle.sd_outside.specs.Lists.{StandsAt, Repeats, AtNone}
use Rattle.digest_index.specs.Index.{position_or_end, interned}
use Rattle.digest_sites.specs.Given.{Given}
use Rattle.rebuild_core.specs.Payload.{without_alg}
use Rattle.rebuild_core.specs.Reached.{OwnedSite, met, owned_digests, all_sites}
use Rattle.rebuild_core.specs.Rows.{row_ends}
use Rattle.rebuild_core.specs.declared.rows.Row.{Row}

-- the positions that texts get in turn, where some are known
abbrev pub numbers : List Text → List Text → List ℕ
numbers known [] = []
numbers known (t ∷ texts) = position_or_end t known ∷ numbers (interned t known) texts

abbrev pub all_interned : List Text → List Text → List Text
all_interned known [] = known
all_interned known (t ∷ texts) = all_interned (interned t known) texts

abbrev pub row_texts : List Row → List Text
row_texts rows = map (λ r. r.digest.now) rows

-- each number is the position of the text beside it
abbrev pub AllAt : List Text → List ℕ → List Text → Type 0
AllAt known [] [] = Unit {0}
AllAt known [] (t ∷ texts) = ⊥
AllAt known (k ∷ ks) [] = ⊥
AllAt known (k ∷ ks) (t ∷ texts) = StandsAt known k t × AllAt known ks texts

-- the numbers of the digests of a payload and of each value, with where those of each tree end:
-- distinct texts are known, those of the disclosures first
pub record IsFlatList (t : Tree) (given : List Given) (known : List Text) (ks ends : List ℕ)
    : Type 0 where
  pub apart : AtNone (Repeats known)
  pub given_first : (i : ℕ) (x : Given) → StandsAt given i x → StandsAt known i x.digest
  pub all : AllAt known ks (owned_digests (all_sites (without_alg t) given))
  pub cuts : ends ≡ row_ends t given

-- number k at a position of the met list stands for the digest of disclosure k,
-- and another number for no given digest
pub record IsNumbered (p : Tree) (given : List Given) (ks : List ℕ) : Type 0 where
  pub length : length ks ≡ length (met p given)
  pub same : (position k : ℕ) (m : OwnedSite) (x : Given) → StandsAt ks position k
      → StandsAt (met p given) position m → StandsAt given k x → m.site.digest ≡ x.digest
  pub back : (position k i : ℕ) (m : OwnedSite) (x : Given) → StandsAt ks position k
      → StandsAt (met p given) position m → StandsAt given i x → m.site.digest ≡ x.digest → k ≡ i
