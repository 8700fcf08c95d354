-- For private functions: what the walk that hides has and makes.
use Rattle.std.specs.Prelude.{◌≡◌, ℕ, zero, suc, ◌+◌, List, [], ◌∷◌, ◌++◌, length, map, drop, Option, Some, None, if◌then◌else◌}
use Rattle.claim_tree.specs.Tree.{Text, text, Tree, leaf, Elements, no_elements, element, Members, inserted}
use Rattle.claim_tree.specs.View.{tree_of}
use Rattle.digest_sites.specs.Given.{Given}
use Rattle.marked_tree.specs.Marked.{Marked}
use Rattle.marked_tree.specs.Paths.{Path, same_path}
use Rattle.marked_tree.specs.Rests.{rests, AreSorted}
use Rattle.disclosure.specs.Digest.{digest_of}
use Rattle.disclosure.specs.Disclosure.{disclosure_text}
use Rattle.disclosure.specs.declared.digests.HashAlg.{HashAlg}
use Rattle.sd_outside.specs.Lists.{StandsAt}
use Rattle.issuer_core.specs.Order.{Order}
use Rattle.issuer_core.specs.Decoys.{decoys_of}
use Rattle.issuer_core.specs.Digests.{Maker, hidden_of, made_texts}
use Rattle.issuer_core.specs.Laid.{lay, laid_given, with_alg, IsLaid}
use Rattle.issuer_core.specs.declared.decoys.Decoys.{Decoys}
use Rattle.issuer_core.specs.declared.laying.Hiding.{Hiding}
use Rattle.issuer_core.specs.declared.laying.LaidNode.{LaidNode}
use Rattle.issuer_core.specs.declared.laying.Layer.{Layer}

-- ---- texts by their numbers

-- the text at a position, or an empty one
abbrev pub nth : List Text → ℕ → Text
nth [] k = []
nth (t ∷ ts) zero = t
nth (t ∷ ts) (suc k) = nth ts k

-- the digest of the text at a position
abbrev pub digest_at : HashAlg → List Text → ℕ → Text
digest_at hash texts k = digest_of hash (nth texts k)

-- the text of disclosure k
abbrev pub salted : List Text → ℕ → Option Text → Tree → Text
salted salts k name value = disclosure_text (leaf (text (nth salts k))) name value

-- elements, and then others
abbrev pub elements_joined : Elements → Elements → Elements
elements_joined no_elements others = others
elements_joined (element t es) others = element t (elements_joined es others)

-- ---- decoys at their places

-- the digests whose path is this one
abbrev pub digests_on_path : List Path → List Text → Path → List Text
digests_on_path [] digests at = []
digests_on_path (path ∷ paths) [] at = []
digests_on_path (path ∷ paths) (digest ∷ digests) at =
    (if same_path path at then digest ∷ [] else []) ++ digests_on_path paths digests at

-- entries: a digest beside its path
abbrev pub paths_in : List (Path × Text) → List Path
paths_in entries = map (λ e. e.0) entries

abbrev pub digests_in : List (Path × Text) → List Text
digests_in entries = map (λ e. e.1) entries

-- seen from their place
abbrev pub placed_at : Decoys → Path → List Text
placed_at d at = digests_on_path (rests d.depth d.paths.now) d.digests.now at

pub record ArePlaced (d : Decoys) : Type 0 where
  pub sorted : AreSorted (rests d.depth d.paths.now)
  pub each : length d.digests.now ≡ length d.paths.now

-- none is at a place further on
abbrev pub EndHere : Decoys → Type 0
EndHere d = (step : Text) (at : Path) → placed_at d (step ∷ at) ≡ []

-- dec has the digests at each place
abbrev pub DecoysTell : Decoys → (Path → List Text) → Type 0
DecoysTell d dec = (at : Path) → placed_at d at ≡ dec at

-- it holds of the decoys' digests and of those of the texts by their numbers, whatever tells the
-- decoys, and whatever texts come behind
abbrev pub ForAllDigests : Decoys → HashAlg → List Text → ((Path → List Text) → (ℕ → Text) → Type 0)
    → Type 0
ForAllDigests d hash texts Holds =
    (dec : Path → List Text) → DecoysTell d dec → (more : List Text)
    → Holds dec (digest_at hash (texts ++ more))

-- ---- the disclosures so far

-- the layer has the digest of each of its texts, in their order
abbrev pub HasDigests : HashAlg → Layer → Type 0
HasDigests hash layer = layer.digests ≡ map (digest_of hash) layer.texts

-- the texts become more by those of these disclosures, which are told by the digests
abbrev pub Discloses : Hiding → Decoys → Layer → Layer
    → ((Path → List Text) → (ℕ → Text) → List Given) → Type 0
Discloses hiding d old new given =
    ForAllDigests d hiding.hash new.texts
    (λ dec dg. new.texts
    ≡ old.texts ++ made_texts (salted hiding.salts.now) (length old.texts) (given dec dg))

-- ---- a part

-- what is shown is laid, and what is hidden has the digest of its mark
abbrev pub IsLaidNode : (Path → List Text) → (ℕ → Text) → Option ℕ → Marked → LaidNode → Type 0
IsLaidNode dec dg None m (LaidNode.Shown t) = tree_of t ≡ lay dec dg m
IsLaidNode dec dg (Some k) m (LaidNode.Hidden d) = d ≡ dg k
IsLaidNode dec dg k m part = ⊥

-- the members of an object with its next part, and the digests of its hidden members
abbrev pub members_with : Members → Text → LaidNode → Members
members_with laid name (LaidNode.Shown t) = inserted laid name (tree_of t)
members_with laid name (LaidNode.Hidden d) = laid

abbrev pub hidden_with : List Text → LaidNode → List Text
hidden_with hidden (LaidNode.Shown t) = hidden
hidden_with hidden (LaidNode.Hidden d) = hidden ++ d ∷ []

-- ---- marked claims

-- laid with a hash and salts, of which the first `hidden` are those of the disclosures, and the
-- others those of decoys with these places
pub record IsLaidWith (hash : HashAlg) (salts : List Text) (hidden : ℕ) (decoys : List Path)
    (m : Marked) (payload : Tree) (texts digests : List Text) : Type 0 where
  pub laid : (dec : Path → List Text)
      → ((at : Path)
      → digests_on_path decoys (map (digest_of hash) (drop hidden salts)) at ≡ dec at)
      → (more : List Text) → payload ≡ with_alg hash (lay dec (digest_at hash (texts ++ more)) m)
  pub made : (dec : Path → List Text)
      → ((at : Path)
      → digests_on_path decoys (map (digest_of hash) (drop hidden salts)) at ≡ dec at)
      → (more : List Text)
      → texts ≡ made_texts (salted salts) 0 (laid_given dec (digest_at hash (texts ++ more)) m)
  pub count : length texts ≡ hidden
  pub digests_are : digests ≡ map (digest_of hash) texts ++ map (digest_of hash) (drop hidden salts)

-- ---- an order

-- the payload and the disclosures' texts are laid for the order, and the
-- digests are those of the disclosures and then of the decoys
pub record IsLaidFor (maker : Maker) (o : Order) (payload : Tree) (texts digests : List Text)
    : Type 0 where
  pub laid : Tree
  pub given : List Given
  pub dg : ℕ → Text
  pub is_laid : IsLaid maker o laid given dg
  pub payload_is : payload ≡ with_alg o.hash laid
  pub texts_are : texts ≡ made_texts maker.disclosure 0 given
  pub count : length digests ≡ hidden_of o + length (decoys_of o)
  pub each : (k : ℕ) (d : Text) → StandsAt digests k d → d ≡ dg k
