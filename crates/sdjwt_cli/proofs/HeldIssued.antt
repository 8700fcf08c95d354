-- A token that is issued is held: it is read, no condition on it fails a holder who takes what is issued, and it processes to the
-- claims with their marks.
use Rattle.std.proofs.Common.{◌≡◌, ℕ, ◌<◌, ◌≤◌, List, length, refl, subst, ◌∙◌, arith, ap, ap₂}
use Rattle.std.specs.Set.{distinct_count}
use Rattle.std.proofs.lemmas.Slice.Zip.{AllZip-long}
use Rattle.b64url_text.proofs.Lengths.{length-b64}
use Rattle.sd_outside.specs.Limits.{issue_max, count_max}
use Rattle.compact_form.specs.declared.parts.Parts.{Parts}
use Rattle.compact_form.specs.Compact.{compact, AreWords}
use Rattle.refusals.specs.Lowest.{NoneApplies}
use Rattle.claim_tree.proofs.Counting.{not_below}
use Rattle.hmac_sign.specs.Hmac.{AlgKey}
use Rattle.json_form.specs.Token.{IsToken}
use Rattle.json_form.proofs.AloneForms.{compact_read}
use Rattle.marked_tree.specs.Marked.{Marked}
use Rattle.marked_tree.specs.Paths.{same_path}
use Rattle.rebuild_core.specs.Opening.{processed}
use Rattle.verifier_core.specs.Verdict.{HasContent, Opens, IsChecked}
use Rattle.verifier_core.proofs.CheckSteps.{one_content}
use Rattle.issuer_core.specs.Digests.{marked_claims}
use Rattle.issuer_core.specs.GoodOrder.{IsGoodOrder}
use Rattle.issuer_core.specs.Order.{Order}
use Rattle.issuer_core.specs.OrderRefusals.{AppliesToOrder}
use Rattle.issuer_core.specs.declared.errors.IssueError.TheVariants.{TooManyHidden}
use Rattle.issuer_core.proofs.EachTexts.{held_utf8}
use Rattle.issuer_core.proofs.IssuedContent.{IsTextOf, HasIssued, has_issued, issued_words}
use Rattle.issuer_core.proofs.IssuedSizes.{issued_nodes, few_short}
use Rattle.issuer_core.proofs.Judged.{good_order}
use Rattle.holder_core.specs.Asked.{Asked}
use Rattle.holder_core.specs.Present.{IsHeld}
use Rattle.sdjwt_cli.specs.AnySigner.{AnySigner, key_signer, IsLegible, TakesIssued}
use Rattle.sdjwt_cli.specs.Issuing.{IsIssuedBy}
use Rattle.sdjwt_cli.specs.PresentedValues.{IsIssuedByAnyone}
use Rattle.cli_parts.specs.Lines.{line}
use Rattle.json_form.specs.Alone.{alone}
use Rattle.sdjwt_cli.proofs.CompactLines.{line_token}
use Rattle.sdjwt_cli.proofs.CheckedParts.{CarriesFor, content, checked}
use Rattle.sdjwt_cli.proofs.HiddenPaths.{hidden_count_is}

-- what is known of a token that is issued
pub record IsTokenOf (seed : List ℕ) (o : Order) (issuer : AnySigner) (parts : Parts) : Type 0 where
  pub passes : NoneApplies (AppliesToOrder o)
  pub good : IsGoodOrder o
  pub has : HasIssued seed o issuer.alg issuer.good parts
  pub words : AreWords parts
  pub few : length parts.disclosures ≤ count_max
  pub short : length (compact parts) ≤ issue_max

module _ (seed : List ℕ) (o : Order) (issuer : AnySigner) (parts : Parts) (is : IsIssuedByAnyone seed o issuer parts) (legible : IsLegible issuer.alg parts) where
  good_of : IsGoodOrder o
  good_of = good_order o (λ error h. absurd (is.passes error h)) is.ordered

  has_of : HasIssued seed o issuer.alg issuer.good parts
  has_of = has_issued seed o issuer.alg issuer.good parts good_of legible.name is.texts is.kid is.typ is.issued

  few_of : length parts.disclosures ≤ count_max
  few_of =
      let texts = AllZip-long (IsTextOf o.hash) parts.disclosures has_of.given has_of.texts in
      let low = issued_nodes seed o issuer.alg issuer.good parts good_of is.issued in
      let places = hidden_count_is o is.passes is.ordered (few_short o.payload (omega (arith, low, is.short))) in
      let most = not_below (distinct_count same_path o.hide) count_max (is.passes TooManyHidden) in
      omega (arith, texts, has_of.issued.count, places, most)

  pub token_of : IsTokenOf seed o issuer parts
  token_of =
      let w = is.issued.written in
      let some : 0 < length w.signature = omega (arith, legible.some, ap length w.signature_text, length-b64 w.signature) in
      record { passes = is.passes; good = good_of; has = has_of; words = issued_words seed o issuer.alg issuer.good parts good_of is.issued some; few = few_of; short = is.short }

-- what `issue` answers is issued so
pub by_anyone : (seed : List ℕ) (o : Order) (key : AlgKey) (parts : Parts) → IsIssuedBy seed o key parts → IsIssuedByAnyone seed o (key_signer key) parts
by_anyone seed o key parts is = record {
  issued = is.issued;
  passes = is.passes;
  short = is.short;
  ordered = is.writable.good.ordered;
  texts = held_utf8 o.payload is.writable.held;
  kid = is.writable.kid;
  typ = is.writable.typ;
}

pub carries_issued : (seed : List ℕ) (o : Order) (issuer : AnySigner) (parts : Parts) (has : HasIssued seed o issuer.alg issuer.good parts) → CarriesFor o issuer has.payload has.given parts
carries_issued seed o issuer parts has = record {
  header = has.back.header;
  signature = has.written.signature;
  signature_text = has.written.signature_text;
  good = has.written.signed;
  body = has.back.body;
  hash = has.hash;
  bare = has.bare;
  texts = has.texts;
}

module _ (seed : List ℕ) (o : Order) (issuer : AnySigner) (parts : Parts) (is : IsTokenOf seed o issuer parts) where
  pub issued_line : IsToken (line (compact parts)) (alone parts)
  issued_line = let short = is.short in line_token parts is.words (omega (arith, short)) is.few

  pub issued_text : IsToken (compact parts) (alone parts)
  issued_text = compact_read (line (compact parts)) (alone parts) issued_line refl

  pub issued_content : HasContent (alone parts) is.has.payload is.has.given
  issued_content = content o issuer is.has.payload is.has.given parts (carries_issued seed o issuer parts is.has)

  pub issued_held : (asked : Asked) → TakesIssued asked.rules o issuer → IsHeld (alone parts) asked (marked_claims o)
  issued_held asked takes = record {
    unbound = is.has.written.unbound;
    checked = subst (IsChecked (alone parts) asked.rules) is.has.issued.opens
        (checked o issuer is.has.payload is.has.given parts (carries_issued seed o issuer parts is.has) asked.rules takes is.has.sound);
  }

  -- it processes to nothing else
  pub one_marked : (marked : Marked) → Opens (alone parts) marked → marked ≡ marked_claims o
  one_marked marked (p, g, there, e) =
      let same = one_content (alone parts) p is.has.payload g is.has.given there issued_content in
      e ∙ (ap₂ processed same.0 same.1 ∙ is.has.issued.opens)
