-- What an issuer hands out for an order: a payload, without its own `_sd_alg`, and disclosures.
use Rattle.std.specs.Prelude.{◌≡◌, ℕ, ◌+◌, List, [], ◌∷◌, ◌++◌, map, length, true, Option, Some, bytes_eq, decimal, if◌then◌else◌, unwrap_or}
use Rattle.claim_tree.specs.Everywhere.{EachMember}
use Rattle.claim_tree.specs.Tree.{Text, Tree, array, object, elements_len, IsBeforeAll, IsRanged}
use Rattle.sd_outside.specs.Lists.{StandsAt, In, Repeats, AtNone}
use Rattle.claim_tree.specs.Path.{tree_at}
use Rattle.digest_sites.specs.Reserved.{sd_name, text_list}
use Rattle.digest_sites.specs.Sites.{step_text}
use Rattle.digest_sites.specs.Given.{Given}
use Rattle.digest_sites.specs.declared.site.SiteKind.TheVariants.{Member, Element}
use Rattle.marked_tree.specs.Marked.{Marked}
use Rattle.marked_tree.specs.Paths.{Path, mark_path}
use Rattle.rebuild_core.specs.Reached.{Owner, payload, value_of, OwnedSite, all_sites, all_digests}
use Rattle.rebuild_core.specs.Readable.{IsReadable}
use Rattle.rebuild_core.specs.Opening.{processed}
use Rattle.issuer_core.specs.Order.{Order}
use Rattle.issuer_core.specs.Decoys.{decoys_of, earlier}
use Rattle.issuer_core.specs.Digests.{Maker, marked_claims, hidden_of, issued_digests}

-- how often the digest is in the list
abbrev pub occurs : Text → List Text → ℕ
occurs digest [] = 0
occurs digest (other ∷ digests) = (if bytes_eq other digest then 1 else 0) + occurs digest digests

-- ---- the places of decoys

-- where the tree of an owner stands in the claims
abbrev pub root_of : Marked → Owner → Path
root_of m payload = []
root_of m (value_of k) = unwrap_or (mark_path m k) []

-- where a site stands in the claims
abbrev pub origin : Marked → OwnedSite → Path
origin m x = root_of m x.owner ++ map step_text x.site.at

-- the place of a decoy with so many earlier ones: an object has it among its
-- `_sd`, a list has the decoys behind its own elements
abbrev pub IsDecoySite : Marked → OwnedSite → Path → ℕ → Option Tree → Type 0
IsDecoySite m x at many (Some (object ms)) = (x.site.kind ≡ Member) × (origin m x ≡ at)
IsDecoySite m x at many (Some (array es)) =
    (x.site.kind ≡ Element) × (origin m x ≡ at ++ decimal (elements_len es + many) ∷ [])
IsDecoySite m x at many _ = Unit {0}

-- each decoy has its digest at its place
abbrev pub DecoysStand : Maker → Order → Tree → List Given → Type 0
DecoysStand maker o p given =
    (d : ℕ) (at : Path) → StandsAt (decoys_of o) d at
    → (x : OwnedSite) × In x (all_sites p given)
    × (x.site.digest ≡ maker.digest o.hash (maker.piece (hidden_of o + d)))
    × IsDecoySite (marked_claims o) x at (earlier d at (decoys_of o)) (tree_at o.payload at)

-- ---- the lists `_sd`

abbrev pub Rises : List Text → Type 0
Rises [] = Unit {0}
Rises (digest ∷ digests) = IsBeforeAll digest digests × Rises digests

-- a list of texts, not empty, each after the one before it by their bytes
abbrev pub IsDigestList : Tree → Type 0
IsDigestList t =
    (digest : Text) × (digests : List Text) × (text_list t ≡ Some (digest ∷ digests))
    × Rises (digest ∷ digests)

-- each member `_sd` is one
abbrev pub HasDigestLists : Tree → Type 0
HasDigestLists t = EachMember (λ name value. bytes_eq name sd_name ≡ true → IsDigestList value) t

-- ---- an order

pub record IsIssuedFor (maker : Maker) (o : Order) (p : Tree) (given : List Given) : Type 0 where
  -- a disclosure for each hidden place
  pub count : length given ≡ hidden_of o
  pub made : (k : ℕ) (x : Given) → StandsAt given k x
      → x.digest ≡ maker.digest o.hash (maker.disclosure k x.name x.value)
  -- together they show the claims, each disclosure at its place
  pub opens : processed p given ≡ marked_claims o
  -- the digests that stand in the payload and in the values are those of the
  -- disclosures and of the decoys
  pub each_once : (digest : Text)
      → occurs digest (all_digests p given) ≡ occurs digest (issued_digests maker o given)
  pub differ : AtNone (Repeats (issued_digests maker o given))
  pub decoys : DecoysStand maker o p given
  pub payload_rises : HasDigestLists p
  pub values_rise : (x : Given) → In x given → HasDigestLists x.value
  -- payload and values are JSON values: the names of each object ascend, each
  -- once, and numbers are in range
  pub readable : IsReadable p given
  pub payload_ranged : IsRanged p
  pub values_ranged : (x : Given) → In x given → IsRanged x.value
