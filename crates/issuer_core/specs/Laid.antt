-- Claims with what is marked hidden behind digests, RFC 9901 section 4.2.4, and
-- the disclosures of what is hidden.
use Rattle.std.specs.Prelude.{◌≡◌, ℕ, suc, ◌+◌, ◌<◌, List, [], ◌∷◌, ◌++◌, length, Option, Some, None, decimal}
use Rattle.std.specs.Ordering.{match_ordering, nat_cmp}
use Rattle.std.specs.Cmp.Lexicographic.{slice_cmp}
use Rattle.claim_tree.specs.TreeValues.{text_elements}
use Rattle.claim_tree.specs.Tree.{Text, text, Tree, leaf, array, object, Elements, no_elements, element, Members, no_members, member, inserted}
use Rattle.sd_outside.specs.Lists.{StandsAt}
use Rattle.digest_sites.specs.Reserved.{sd_name, dots_name}
use Rattle.digest_sites.specs.Given.{Given}
use Rattle.marked_tree.specs.Marked.{Marked, marked_leaf, marked_array, marked_object, MarkedElements, no_marked_elements, marked_element, MarkedMembers, no_marked_members, marked_member}
use Rattle.marked_tree.specs.Paths.{Path}
use Rattle.rebuild_core.specs.Payload.{alg_name}
use Rattle.disclosure.specs.Digest.{hash_name}
use Rattle.disclosure.specs.declared.digests.HashAlg.{HashAlg}
use Rattle.issuer_core.specs.Order.{Order}
use Rattle.issuer_core.specs.Decoys.{decoys_of, decoys_at}
use Rattle.issuer_core.specs.Digests.{Maker, marked_claims, hidden_of}

-- ---- digests in their places

-- texts that ascend by their bytes, with one more
abbrev pub sorted_with : Text → List Text → List Text
sorted_with digest [] = digest ∷ []
sorted_with digest (other ∷ digests) =
    match_ordering (slice_cmp nat_cmp digest other)
    (digest ∷ other ∷ digests)
    (digest ∷ other ∷ digests)
    (other ∷ sorted_with digest digests)

abbrev pub sorted : List Text → List Text
sorted [] = []
sorted (digest ∷ digests) = sorted_with digest (sorted digests)

-- section 4.2.4.1: the member `_sd` is there only where it has a digest
abbrev pub with_sd : List Text → Members → Members
with_sd [] ms = ms
with_sd (digest ∷ digests) ms = inserted ms sd_name (array (text_elements (digest ∷ digests)))

-- section 4.2.4.2: what stands for a hidden element
abbrev pub digest_object : Text → Tree
digest_object digest = object (member dots_name (leaf (text digest)) no_members)

abbrev pub digest_elements : List Text → Elements
digest_elements [] = no_elements
digest_elements (digest ∷ digests) = element (digest_object digest) (digest_elements digests)

-- section 4.1.1: the hash is named, always
abbrev pub with_alg : HashAlg → Tree → Tree
with_alg hash (object ms) = object (inserted ms alg_name (leaf (text (hash_name hash))))
with_alg hash t = t

-- ---- hiding

-- the digests of the marked members
abbrev pub hidden_digests : (ℕ → Text) → MarkedMembers → List Text
hidden_digests dg no_marked_members = []
hidden_digests dg (marked_member name None t ms) = hidden_digests dg ms
hidden_digests dg (marked_member name (Some i) t ms) = dg i ∷ hidden_digests dg ms

-- laid with the digest dg i for mark i, and the digests of the decoys at each
-- place: a list has those behind its elements
abbrev mutual
  pub lay : (Path → List Text) → (ℕ → Text) → Marked → Tree
  lay decoys dg (marked_leaf l) = leaf l
  lay decoys dg (marked_array es) = array (lay_elements decoys dg 0 es)
  lay decoys dg (marked_object ms) =
      object (with_sd (sorted (hidden_digests dg ms ++ decoys [])) (lay_members decoys dg ms))

  -- the first element has the position i
  pub lay_elements : (Path → List Text) → (ℕ → Text) → ℕ → MarkedElements → Elements
  lay_elements decoys dg i no_marked_elements = digest_elements (decoys [])
  lay_elements decoys dg i (marked_element None t es) =
      element (lay (λ at. decoys (decimal i ∷ at)) dg t) (lay_elements decoys dg (suc i) es)
  lay_elements decoys dg i (marked_element (Some k) t es) =
      element (digest_object (dg k)) (lay_elements decoys dg (suc i) es)

  pub lay_members : (Path → List Text) → (ℕ → Text) → MarkedMembers → Members
  lay_members decoys dg no_marked_members = no_members
  lay_members decoys dg (marked_member name None t ms) =
      member name (lay (λ at. decoys (name ∷ at)) dg t) (lay_members decoys dg ms)
  lay_members decoys dg (marked_member name (Some k) t ms) = lay_members decoys dg ms

-- the disclosure of what has the mark, if any
abbrev pub own_given : (ℕ → Text) → Option Text → Option ℕ → Tree → List Given
own_given dg name None value = []
own_given dg name (Some k) value = record { digest = dg k; name = name; value = value } ∷ []

-- the disclosures of what is marked, each behind those inside it; their values are laid too
abbrev mutual
  pub laid_given : (Path → List Text) → (ℕ → Text) → Marked → List Given
  laid_given decoys dg (marked_leaf l) = []
  laid_given decoys dg (marked_array es) = laid_elements decoys dg 0 es
  laid_given decoys dg (marked_object ms) = laid_members decoys dg ms

  -- the first element has the position i
  pub laid_elements : (Path → List Text) → (ℕ → Text) → ℕ → MarkedElements → List Given
  laid_elements decoys dg i no_marked_elements = []
  laid_elements decoys dg i (marked_element k t es) =
      (laid_given (λ at. decoys (decimal i ∷ at)) dg t
      ++ own_given dg None k (lay (λ at. decoys (decimal i ∷ at)) dg t))
      ++ laid_elements decoys dg (suc i) es

  pub laid_members : (Path → List Text) → (ℕ → Text) → MarkedMembers → List Given
  laid_members decoys dg no_marked_members = []
  laid_members decoys dg (marked_member name k t ms) =
      (laid_given (λ at. decoys (name ∷ at)) dg t
      ++ own_given dg (Some name) k (lay (λ at. decoys (name ∷ at)) dg t))
      ++ laid_members decoys dg ms

-- ---- an order

-- the digests of an order's decoys at each place
abbrev pub order_decoys : Order → (ℕ → Text) → Path → List Text
order_decoys o dg = decoys_at dg (hidden_of o) (decoys_of o)

-- the payload, without `_sd_alg`, and the disclosures are laid from the order's marked claims,
-- where dg has the digest of each disclosure, and then of each decoy, by the order's hash
pub record IsLaid (maker : Maker) (o : Order) (payload : Tree) (given : List Given) (dg : ℕ → Text)
    : Type 0 where
  pub payload_laid : payload ≡ lay (order_decoys o dg) dg (marked_claims o)
  pub given_laid : given ≡ laid_given (order_decoys o dg) dg (marked_claims o)
  pub disclosures : (k : ℕ) (x : Given) → StandsAt given k x
      → dg k ≡ maker.digest o.hash (maker.disclosure k x.name x.value)
  pub decoys : (d : ℕ) → d < length (decoys_of o)
      → dg (hidden_of o + d) ≡ maker.digest o.hash (maker.piece (hidden_of o + d))
