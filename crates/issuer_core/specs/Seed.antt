-- How an issuer makes texts from a seed, RFC 9901 section 4.2: a salt for each
-- disclosure and each decoy.
use Rattle.std.specs.Prelude.{ℕ, List}
use Rattle.claim_tree.specs.Tree.{text, leaf}
use Rattle.disclosure.specs.Digest.{digest_of}
use Rattle.disclosure.specs.Disclosure.{disclosure_text}
use Rattle.issuer_core.specs.Salts.{salt_of}
use Rattle.issuer_core.specs.Digests.{Maker}

abbrev pub maker_of : List ℕ → Maker
maker_of seed = record {
  disclosure = λ k name value. disclosure_text (leaf (text (salt_of seed k))) name value;
  piece = salt_of seed;
  digest = digest_of;
}
