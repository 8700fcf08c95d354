-- The claims that a verifier cannot do without are shown whole, whatever is chosen.
use Rattle.std.proofs.Common.{◌≡◌, inl, inr, List, ◌∷◌, Bool, true, false, Option, codes, refl, ap, subst}
use Rattle.std.specs.Prelude.{option_and_then}
use Rattle.claim_tree.specs.Tree.{Text, Tree}
use Rattle.sd_outside.specs.Lists.{In}
use Rattle.sd_outside.proofs.Lists.{In-At, list_any-In}
use Rattle.marked_tree.specs.Paths.{Path, below, is_among, same_path, chosen}
use Rattle.marked_tree.proofs.KeptMembers.{NonePasses, claim_kept}
use Rattle.hmac_sign.specs.Keys.{text_under}
use Rattle.key_binding.specs.Judged.{holder_kid}
use Rattle.issuer_core.specs.Digests.{marked_claims}
use Rattle.issuer_core.specs.Order.{Order}
use Rattle.refusals.specs.Lowest.{NoneApplies}
use Rattle.issuer_core.specs.OrderRefusals.{AppliesToOrder, IsProtected, protected_names}
use Rattle.issuer_core.specs.declared.errors.IssueError.TheVariants.{ProtectedClaim}
use Rattle.claim_tree.proofs.SamePaths.{path_same}
use Rattle.holder_core.specs.Present.{shown_for}

-- they are hidden nowhere
not_hidden : (o : Order) → NoneApplies (AppliesToOrder o) → (name : Text) → In name protected_names → NonePasses (below name (is_among o.hide))
not_hidden o passes name there path = go (is_among o.hide (name ∷ path)) refl
  where
    go : (b : Bool) → is_among o.hide (name ∷ path) ≡ b → b ≡ false
    go false e = refl
    go true e =
        let found = list_any-In (same_path (name ∷ path)) o.hide e in
        let same : name ∷ path ≡ found.0 = path_same (name ∷ path) found.0 found.2 in
        let at = In-At o.hide found.0 found.1 in
        absurd (passes (ProtectedClaim at.0) (found.0, at.1, subst IsProtected same there))

pub holder_kept : (o : Order) → NoneApplies (AppliesToOrder o) → (want : List Path) → holder_kid (shown_for (marked_claims o) want) ≡ holder_kid o.payload
holder_kept o passes want = ap named_by (claim_kept o.payload o.hide (codes "cnf") (not_hidden o passes (codes "cnf") (inr (inr (inr (inr (inl refl)))))) (chosen (marked_claims o) want))
  where
    named_by : Option Tree → Option Text
    named_by cnf = option_and_then (λ t. text_under t (codes "kid")) cnf
