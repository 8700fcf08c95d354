-- Where no condition of 14 to 21 fails, each digest stands once, and those of the disclosures are among them.
use Rattle.std.proofs.Common.{◌≡◌, ◌≢◌, ℕ, suc, List, [], ◌∷◌, ◌++◌, map, Bool, true, inl, inr, refl, sym, ap, ap₂, subst, arith, if◌then◌else◌}
use Rattle.claim_tree.specs.Tree.{Text, Tree}
use Rattle.sd_outside.specs.Lists.{In, Repeats, AtNone}
use Rattle.sd_outside.proofs.Lists.{In-At, At-In, In-of_map}
use Rattle.digest_sites.specs.Given.{Given}
use Rattle.digest_sites.specs.Sites.{sites}
use Rattle.rebuild_core.specs.Reached.{payload, value_of, OwnedSite, owned_site, is_reached, value_sites, met, all_sites, owned_digests, all_digests, given_digests}
use Rattle.rebuild_core.specs.Soundness.{IsSound, IsReferencedOnce}
use Rattle.rebuild_core.specs.Answer.{IsProcessRefused}
use Rattle.rebuild_core.specs.declared.errors.ProcessError.{ProcessError}
use Rattle.rebuild_core.proofs.Chains.{reached_all}
use Rattle.rebuild_core.proofs.OneSite.{one_site_holds}

values_met : (passes : Given → Bool) (i : ℕ) (xs : List Given) → ((x : Given) → In x xs → passes x ≡ true) → value_sites passes i xs ≡ value_sites (λ x. true) i xs
values_met passes i [] h = refl
values_met passes i (x ∷ xs) h =
    ap₂ (λ (b : Bool) (ys : List OwnedSite). (if b then map (owned_site (value_of i)) (sites x.value) else []) ++ ys) (h x (inl refl)) (values_met passes (suc i) xs (λ z m. h z (inr m)))

met_all : (p : Tree) (g : List Given) → IsReferencedOnce p g → met p g ≡ all_sites p g
met_all p g ok =
    ap (λ (ys : List OwnedSite). map (owned_site payload) (sites p) ++ ys)
    (values_met (is_reached p g) 0 g (λ x m. let w = In-At g x m in reached_all p g ok w.0 x w.1))

pub differ : (p : Tree) (g : List Given) → IsReferencedOnce p g → AtNone (Repeats (all_digests p g))
differ p g ok = subst (λ (items : List OwnedSite). AtNone (Repeats (owned_digests items))) (met_all p g ok) ok.no_repeated_digest

pub each : (p : Tree) (g : List Given) → IsReferencedOnce p g → (digest : Text) → In digest (given_digests g) → In digest (all_digests p g)
each p g ok digest there =
    let x = In-of_map (λ (x : Given). x.digest) digest g there in
    let at = In-At g x.0 x.1 in
    let once = (one_site_holds p g ok).once at.0 x.0 at.1 in
    let here = At-In (owned_digests (met p g)) once.0 x.0.digest once.1 in
    subst (λ d. In d (all_digests p g)) (sym x.2) (subst (λ (items : List OwnedSite). In x.0.digest (owned_digests items)) (met_all p g ok) here)

pub refused_unsound : (p : Tree) (g : List Given) (e : ProcessError) → e ≢ ProcessError.Memory → IsProcessRefused p g e → IsSound p g → ⊥
refused_unsound p g ProcessError.Memory n r ok = n refl
refused_unsound p g (ProcessError.RepeatedDisclosure i) n r ok = ok.referenced.no_repeated_disclosure i r.fails
refused_unsound p g (ProcessError.ReservedMisused i) n r ok = ok.referenced.no_misuse i r.1.fails
refused_unsound p g (ProcessError.RepeatedDigest i) n r ok = ok.referenced.no_repeated_digest i r.2.fails
refused_unsound p g (ProcessError.Unreferenced i) n r ok = ok.referenced.no_unreferenced i r.3.fails
refused_unsound p g (ProcessError.WrongShape i) n r ok = ok.named.no_wrong_shape i r.1.fails
refused_unsound p g (ProcessError.ReservedName i) n r ok = ok.named.no_reserved_name i r.2.fails
refused_unsound p g (ProcessError.NameClash i) n r ok = ok.named.no_name_clash i r.3.fails
refused_unsound p g ProcessError.TooDeep n r ok = omega (arith, r.2, ok.shallow)
