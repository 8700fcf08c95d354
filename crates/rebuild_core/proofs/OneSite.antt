-- Each disclosure has one site.
use Rattle.std.proofs.Common.{refl, ◌≡◌, ℕ, List, [], ◌∷◌, ap, ◌∙◌, subst}
use Rattle.claim_tree.specs.Tree.{Text, Tree}
use Rattle.sd_outside.specs.Lists.{StandsAt, In}
use Rattle.digest_sites.specs.Given.{Given}
use Rattle.rebuild_core.specs.Reached.{payload, value_of, OwnedSite, owned_site, met, owned_digests}
use Rattle.rebuild_core.specs.Soundness.{IsReferencedOnce}
use Rattle.rebuild_core.specs.Laws.{StandsOnce, LeadsUp, OneSite}
use Rattle.sd_outside.proofs.Lists.{In-At, At-map, At-same, one_place}
use Rattle.rebuild_core.proofs.Chains.{leads_up, short, distinct}
use Rattle.rebuild_core.proofs.Settled.{settled_tree}

stands_once : (p : Tree) (g : List Given) → IsReferencedOnce p g → (d : Text) (m : OwnedSite) → In m (met p g) → m.site.digest ≡ d → StandsOnce p g d
stands_once p g ok d m h e =
    let w = In-At (met p g) m h in
    let a = subst (λ z. StandsAt (owned_digests (met p g)) w.0 z) e (At-map (λ z. z.site.digest) (met p g) w.0 m w.1) in
    (w.0, a, λ r b. one_place (owned_digests (met p g)) ok.no_repeated_digest r w.0 d b a)

once_in_chain : (p : Tree) (g : List Given) → IsReferencedOnce p g → (i : ℕ) (x : Given) → StandsAt g i x
    → (is : List ℕ) → LeadsUp p g (value_of i) is → StandsOnce p g x.digest
once_in_chain p g ok i x a [] h = let e : value_of i ≡ payload = h in cc
once_in_chain p g ok i x a (j ∷ is) (e, u, (y, b, s, m, f), l) =
    let same : i ≡ j = cc in
    stands_once p g ok x.digest (owned_site u s) m (f ∙ ap (λ (z : Given). z.digest) (At-same g j y x b (subst (λ k. StandsAt g k x) same a)))

pub one_site_holds : OneSite
one_site_holds p g ok = record {
  once = λ i x a. let w = leads_up p g ok i x a in once_in_chain p g ok i x a w.0 w.1;
  leads = λ i x a. let w = leads_up p g ok i x a in (w.0, w.1, short p g ok.no_repeated_digest (value_of i) w.0 w.1, distinct p g ok.no_repeated_digest (value_of i) w.0 w.1);
  settled = λ f l. settled_tree p g ok p (λ s m. (s, m, refl)) f l;
}
