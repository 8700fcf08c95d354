-- Not needed to believe the program's promises: what the laws say.
use Rattle.std.specs.Prelude.{◌≡◌, ℕ, ◌+◌, List, length}
use Rattle.claim_tree.specs.Tree.{Text, Tree, IsOrdered, IsRanged}
use Rattle.digest_sites.specs.Given.{Given}
use Rattle.marked_tree.specs.Marked.{strip, prune}
use Rattle.marked_tree.specs.Numbers.{IsRising}
use Rattle.marked_tree.specs.Paths.{Path, chosen}
use Rattle.rebuild_core.specs.Soundness.{IsSound}
use Rattle.rebuild_core.specs.Laws.{Enumerates, IsPick}
use Rattle.rebuild_core.specs.Readable.{IsReadable}
use Rattle.rebuild_core.specs.Opening.{processed}
use Rattle.issuer_core.specs.Order.{Order}
use Rattle.issuer_core.specs.GoodOrder.{IsGoodOrder, IsWritable}
use Rattle.issuer_core.specs.ToSign.{IsToSign, IsTokenWith}
use Rattle.issuer_core.specs.declared.unsigned_token.UnsignedToken.{UnsignedToken}
use Rattle.issuer_core.specs.ShortLists.{HasShortLists}
use Rattle.issuer_core.specs.Decoys.{decoys_of}
use Rattle.issuer_core.specs.Digests.{Maker, marked_claims, hidden_of}
use Rattle.issuer_core.specs.IssueCalls.{AllDiffer}
use Rattle.issuer_core.specs.Laid.{IsLaid}
use Rattle.issuer_core.specs.Issued.{IsIssuedFor}
use Rattle.issuer_core.specs.Seed.{maker_of}
use Rattle.issuer_core.specs.Written.{IsIssued, IsLaidOut}
use Rattle.refusals.specs.Lowest.{NoneApplies}
use Rattle.issuer_core.specs.OrderRefusals.{AppliesToOrder}
use Rattle.compact_form.specs.declared.parts.Parts.{Parts}
use Rattle.hmac_sign.specs.Algs.{alg_text}
use Rattle.hmac_sign.specs.Hmac.{AlgKey, IsGood}
use Rattle.hmac_sign.specs.Signatures.{Meaning}

abbrev pub LaidIsIssued : Type 0
LaidIsIssued =
    (maker : Maker) (o : Order) (p : Tree) (given : List Given) (dg : ℕ → Text)
    → IsGoodOrder o → IsRanged o.payload → HasShortLists o.payload
    → IsLaid maker o p given dg → AllDiffer dg (hidden_of o + length (decoys_of o))
    → IsIssuedFor maker o p given

-- the same of the parts with a good signature, for an order that nothing of 51
-- to 59 refuses and whose claims are a JSON value
abbrev pub PartsAreIssued : Text → Meaning → Type 0
PartsAreIssued alg good =
    (maker : Maker) (o : Order) (parts : Parts)
    → NoneApplies (AppliesToOrder o) → IsOrdered o.payload → IsRanged o.payload
    → HasShortLists o.payload
    → (laid : IsLaidOut maker o alg good parts)
    → AllDiffer laid.digests (hidden_of o + length (decoys_of o))
    → IsIssued maker o alg good parts

-- the same of what is to be signed, with a good signature, for an order that can be written
abbrev pub SignedIsIssued : Text → Meaning → Type 0
SignedIsIssued alg good =
    (maker : Maker) (o : Order) (token : UnsignedToken) (signature : List ℕ) (parts : Parts)
    → IsWritable o → IsToSign maker o alg token → IsTokenWith token signature parts
    → good token.jwt.protected token.jwt.payload signature
    → IsIssued maker o alg good parts × IsLaidOut maker o alg good parts

abbrev pub LaidIsReadable : Type 0
LaidIsReadable =
    (maker : Maker) (o : Order) (p : Tree) (given : List Given) (dg : ℕ → Text)
    → IsGoodOrder o → IsLaid maker o p given dg → IsReadable p given

abbrev pub IssuedIsSound : Type 0
IssuedIsSound =
    (maker : Maker) (o : Order) (p : Tree) (given : List Given)
    → IsGoodOrder o → IsIssuedFor maker o p given → IsSound p given

-- the presented disclosures are sound, and show the claims of the order without
-- what is hidden and leads to no wanted path
pub record IsShownAs (o : Order) (want : List Path) (p : Tree) (picked : List Given) : Type 0 where
  pub sound : IsSound p picked
  pub shows : strip (processed p picked)
      ≡ strip (prune (marked_claims o) (chosen (marked_claims o) want))

-- those on the way to the wanted paths, in their order
abbrev pub IssuedIsShown : Type 0
IssuedIsShown =
    (maker : Maker) (o : Order) (p : Tree) (given : List Given)
    → IsGoodOrder o → IsIssuedFor maker o p given
    → (want : List Path) (order : List ℕ) → Enumerates (chosen (marked_claims o) want) order
    → IsRising order
    → (picked : List Given) → IsPick given order picked → IsShownAs o want p picked

abbrev pub OneToken : Type 0
OneToken =
    (seed : List ℕ) (o : Order) (key : AlgKey) (parts other : Parts)
    → IsLaidOut (maker_of seed) o (alg_text key.alg) (IsGood key) parts
    → IsLaidOut (maker_of seed) o (alg_text key.alg) (IsGood key) other → parts ≡ other
