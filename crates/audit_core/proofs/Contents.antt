-- From what the steps tell to the parts 4 and 5.
use Rattle.std.proofs.Common.{◌≡◌, ℕ, ◌+◌, List, length, map, sym, ap, ◌∙◌, subst}
use Rattle.claim_tree.specs.Tree.{Text, Tree}
use Rattle.digest_sites.specs.Given.{Given}
use Rattle.digest_sites.specs.declared.site.Site.{Site}
use Rattle.issuer_core.specs.Decoys.{decoys_of}
use Rattle.issuer_core.specs.Digests.{hidden_of, marked_claims}
use Rattle.issuer_core.specs.Laid.{sorted}
use Rattle.issuer_core.specs.Order.{Order}
use Rattle.audit_core.specs.Audited.{ShowsClaims, HasDigests, HasDecoys, decoys_found, decoys_wanted}
use Rattle.audit_core.specs.AuditSteps.{standing_text}
use Rattle.audit_core.specs.Found.{AreOthers, AreDigests, site_text, sites_in, trees_of}
use Rattle.audit_core.proofs.Alikes.{alike, sorted_alike}
use Rattle.audit_core.proofs.Founds.{Others, others_located, found_texts, sites_count, others_from, from_others}
use Rattle.audit_core.proofs.Soundness.{differ, each}

pub has_digests : (o : Order) (p : Tree) (g : List Given) → ShowsClaims o p g → length g ≡ hidden_of o → Others o.hash p g
    → sites_in (trees_of p g) ≡ length g + length (decoys_of o) → HasDigests o p g
has_digests o p g shows long form count = record {
  count = sites_count p g ∙ count ∙ ap (λ (n : ℕ). n + length (decoys_of o)) long;
  differ = differ p g shows.sound.referenced;
  each = each p g shows.sound.referenced;
  others = form;
}

pub count_told : (o : Order) (p : Tree) (g : List Given) → length g ≡ hidden_of o → HasDigests o p g → sites_in (trees_of p g) ≡ length g + length (decoys_of o)
count_told o p g long h = sym (sites_count p g) ∙ h.count ∙ ap (λ (n : ℕ). n + length (decoys_of o)) (sym long)

-- ---- of the sites that are found

pub others_form : (o : Order) (p : Tree) (g : List Given) (others : List Site) → length g ≡ hidden_of o → AreOthers (marked_claims o) p g others → AreDigests o.hash others → Others o.hash p g
others_form o p g others long are form = others_from o.hash (marked_claims o) p g (subst (AreDigests o.hash) (others_located o.payload o.hide p g others long are) form)

pub form_told : (o : Order) (p : Tree) (g : List Given) (others : List Site) → length g ≡ hidden_of o → AreOthers (marked_claims o) p g others → HasDigests o p g → AreDigests o.hash others
form_told o p g others long are h = subst (AreDigests o.hash) (sym (others_located o.payload o.hide p g others long are)) (from_others o.hash (marked_claims o) p g h.others)

found_are : (o : Order) (p : Tree) (g : List Given) (others : List Site) → length g ≡ hidden_of o → AreOthers (marked_claims o) p g others
    → map standing_text (decoys_found (marked_claims o) p g) ≡ map site_text others
found_are o p g others long are = sym (ap (map site_text) (others_located o.payload o.hide p g others long are) ∙ found_texts (marked_claims o) p g)

pub has_decoys : (o : Order) (p : Tree) (g : List Given) (others : List Site) (standings wanted : List Text) → length g ≡ hidden_of o → AreOthers (marked_claims o) p g others
    → standings ≡ map site_text others → wanted ≡ sorted (map standing_text (decoys_wanted o)) → sorted standings ≡ wanted → HasDecoys o p g
has_decoys o p g others standings wanted long are found want e =
    alike (decoys_found (marked_claims o) p g) (decoys_wanted o) (ap sorted (found_are o p g others long are ∙ sym found) ∙ e ∙ want)

pub decoys_told : (o : Order) (p : Tree) (g : List Given) (others : List Site) (standings wanted : List Text) → length g ≡ hidden_of o → AreOthers (marked_claims o) p g others
    → standings ≡ map site_text others → wanted ≡ sorted (map standing_text (decoys_wanted o)) → HasDecoys o p g → sorted standings ≡ wanted
decoys_told o p g others standings wanted long are found want h =
    sym (ap sorted (found_are o p g others long are ∙ sym found)) ∙ sorted_alike (decoys_found (marked_claims o) p g) (decoys_wanted o) h ∙ sym want
