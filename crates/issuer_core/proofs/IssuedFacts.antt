-- What is known of the payload and of the disclosures that are issued for an order: what they open to, how deep they are, and
-- what is so of their texts.
use Rattle.std.proofs.Common.{◌≡◌, ℕ, ◌≤◌, List, length, Bool, true, false, ⊎_elim, Some, None, IfSome, refl, sym, ap, ◌∙◌, subst, arith}
use Rattle.std.specs.Prelude.{bytes_eq, if◌then◌else◌}
use Rattle.std.specs.List.{range_with_len}
use Rattle.sd_outside.specs.Lists.{StandsAt, In}
use Rattle.claim_tree.specs.Tree.{Text, Tree, leaf, array, object, depth, Members, no_members, member, member_named}
use Rattle.sd_outside.proofs.Lists.{At-In, At-below, At-same, In-At, In-append, In-of_map, bytes_same}
use Rattle.claim_tree.proofs.OtherMembers.{removed_inserted}
use Rattle.digest_sites.specs.Given.{Given}
use Rattle.digest_sites.specs.Reserved.{sd_name, sd_texts}
use Rattle.disclosure.specs.Digest.{hash_of}
use Rattle.marked_tree.specs.Marked.{Marked, marked_member, strip, strip_members}
use Rattle.marked_tree.specs.Ways.{ways}
use Rattle.marked_tree.proofs.MarkFacts.{mark_strips_holds}
use Rattle.marked_tree.proofs.SpotMarks.{way_with}
use Rattle.rebuild_core.specs.Free.{HasNoReserved}
use Rattle.rebuild_core.specs.Opening.{Shown, open_tree, open_members, opened, processed, reveal}
use Rattle.rebuild_core.specs.Payload.{alg_name, without_alg}
use Rattle.rebuild_core.specs.Reached.{given_digests}
use Rattle.rebuild_core.specs.Soundness.{IsSound}
use Rattle.rebuild_core.proofs.Fixed.{processed_settles}
use Rattle.rebuild_core.proofs.Forgery.{payload_digest, value_digest}
use Rattle.rebuild_core.proofs.FreeMembers.{MembersNoReserved}
use Rattle.rebuild_core.proofs.Presented.{one_node_holds}
use Rattle.rebuild_core.proofs.ShownAt.{shows_free}
use Rattle.issuer_core.specs.Decoys.{decoys_of}
use Rattle.issuer_core.specs.Digests.{hidden_of, decoy_digests, issued_digests}
use Rattle.issuer_core.specs.GoodOrder.{IsObject, IsGoodOrder, EachText}
use Rattle.issuer_core.specs.Issued.{IsIssuedFor}
use Rattle.issuer_core.specs.Laid.{with_alg}
use Rattle.issuer_core.specs.Order.{Order}
use Rattle.issuer_core.specs.Salts.{salt_of}
use Rattle.issuer_core.specs.Seed.{maker_of}
use Rattle.issuer_core.proofs.EachTexts.{GivenEach, OwnTexts}
use Rattle.issuer_core.proofs.IssuedDepths.{tree_depth, shallow_at}
use Rattle.issuer_core.proofs.IssuedForgery.{digest_issued}
use Rattle.issuer_core.proofs.IssuedSound.{issued_is_sound_holds}
use Rattle.issuer_core.proofs.ShownTexts.{texts_fine, shown_texts_at}
use Rattle.issuer_core.proofs.WithAlg.{sd_not_alg}

no_alg : (r : Text → Shown) (ms : Members) → MembersNoReserved (strip_members (open_members r ms)) → member_named ms alg_name ≡ None
no_alg r no_members f = refl
no_alg r (member k t ms) f = go (bytes_eq k sd_name) refl (bytes_eq k alg_name) refl f (no_alg r ms)
  where
    go : (b : Bool) → bytes_eq k sd_name ≡ b → (c : Bool) → bytes_eq k alg_name ≡ c → MembersNoReserved (strip_members (if b then open_members r ms else marked_member k None (open_tree r t) (open_members r ms)))
        → (MembersNoReserved (strip_members (open_members r ms)) → member_named ms alg_name ≡ None) → (if c then Some t else member_named ms alg_name) ≡ None
    go true q true z f ih = let clash : true ≡ false = sym z ∙ (ap (λ (n : Text). bytes_eq n alg_name) (bytes_same k sd_name q) ∙ sd_not_alg) in cc clash
    go true q false z f ih = ih f
    go false q true z f ih = let clash : true ≡ false = sym z ∙ f.0.2 in cc clash
    go false q false z f ih = ih f.2

-- what is opened as an object is one
object_opened : (r : Text → Shown) (t : Tree) → IsObject (strip (open_tree r t)) → IsObject t
object_opened r (object ms) is = tt
object_opened r (leaf l) is = absurd is
object_opened r (array es) is = absurd is

module _ (seed : List ℕ) (o : Order) (p : Tree) (g : List Given) (good : IsGoodOrder o) (issued : IsIssuedFor (maker_of seed) o p g) where
  pub sound : IsSound p g
  sound = issued_is_sound_holds (maker_of seed) o p g good issued

  settles : processed p g ≡ opened (length g) g p
  settles = processed_settles p g sound.referenced

  stripped : strip (opened (length g) g p) ≡ o.payload
  stripped = ap strip (sym settles ∙ issued.opens) ∙ mark_strips_holds o.payload o.hide

  -- ---- the payload is an object, without a name for its hash

  pub is_object : IsObject p
  is_object = object_opened (reveal (length g) g) p (subst IsObject (sym stripped) good.is_object)

  bare_object : (t : Tree) → IsObject t → HasNoReserved (strip (open_tree (reveal (length g) g) t)) → without_alg (with_alg o.hash t) ≡ t
  bare_object (object ms) is f = ap object (removed_inserted ms alg_name _ (no_alg (reveal (length g) g) ms (shows_free (reveal (length g) g) (sd_texts ms) (open_members (reveal (length g) g) ms) f)))
  bare_object (leaf l) is f = absurd is
  bare_object (array es) is f = absurd is

  pub bare : without_alg (with_alg o.hash p) ≡ p
  bare = bare_object p is_object (subst HasNoReserved (sym stripped) good.no_reserved)

  -- ---- a value is shown in what the payload opens to

  way_of_given : (i : ℕ) (x : Given) → StandsAt g i x → (above : List ℕ) × In (i, above) (ways (opened (length g) g p))
  way_of_given i x a =
      let w = way_with (processed p g) (length g) (one_node_holds p g issued.readable sound) i (At-below g i x a) in
      (w.0.1, subst (λ (n : ℕ). In (n, w.0.1) (ways (opened (length g) g p))) w.2 (subst (λ (m : Marked). In w.0 (ways m)) settles w.1))

  -- ---- how deep they are

  opened_shallow : depth (strip (opened (length g) g p)) ≤ 100
  opened_shallow = subst (λ (t : Tree). depth t ≤ 100) (sym stripped) good.shallow

  pub payload_shallow : depth p ≤ 101
  payload_shallow = omega (arith, tree_depth (reveal (length g) g) p issued.payload_rises, opened_shallow)

  pub value_shallow : (i : ℕ) (x : Given) → StandsAt g i x → depth x.value ≤ 101
  value_shallow i x a =
      let w = way_of_given i x a in
      let y = shallow_at p g sound.referenced 100 w.0 i p opened_shallow w.1 in
      let same : y.0 ≡ x = At-same g i y.0 x y.1 a in
      let low : depth (strip (opened (length g) g x.value)) ≤ 100 = subst (λ (z : Given). depth (strip (opened (length g) g z.value)) ≤ 100) same y.2 in
      omega (arith, tree_depth (reveal (length g) g) x.value (issued.values_rise x (At-In g i x a)), low)

  -- ---- what is so of each text of the claims, and of those that an issuer puts in, is so of theirs

  module _ (P : Text → Type 0) (own : OwnTexts P) (each : EachText P o.payload) where
    digest_own : (d : Text) → In d (issued_digests (maker_of seed) o g) → P d
    digest_own d m =
        ⊎_elim
        (λ a.
        let w = In-of_map (λ (x : Given). x.digest) d g a in
        let k = In-At g w.0 w.1 in
        subst P (sym (w.2 ∙ issued.made k.0 w.0 k.1)) (own.code (hash_of o.hash ((maker_of seed).disclosure k.0 w.0.name w.0.value))))
        (λ b.
        let w = In-of_map (λ k. (maker_of seed).digest o.hash ((maker_of seed).piece k)) d (range_with_len (hidden_of o) (length (decoys_of o))) b in
        subst P (sym w.2) (own.code (hash_of o.hash (salt_of seed w.0))))
        (In-append d (given_digests g) (decoy_digests (maker_of seed) o) m)

    opened_each : EachText P (strip (opened (length g) g p))
    opened_each = subst (EachText P) (sym stripped) each

    pub payload_each : EachText P p
    payload_each =
        texts_fine P own (reveal (length g) g) p issued.readable.in_payload issued.payload_rises
        (λ s m. digest_own s.digest (digest_issued (maker_of seed) o p g good issued s.digest (payload_digest p g s m))) opened_each

    pub given_each : (i : ℕ) (x : Given) → StandsAt g i x → GivenEach P x
    given_each i x a =
        let w = way_of_given i x a in
        let y = shown_texts_at P own p g sound.referenced w.0 i p opened_each w.1 in
        let same : y.0 ≡ x = At-same g i y.0 x y.1 a in
        let there : In x g = At-In g i x a in
        let fine : IfSome x.name P × EachText P (strip (opened (length g) g x.value)) = subst (λ (z : Given). IfSome z.name P × EachText P (strip (opened (length g) g z.value))) same y.2 in (
          fine.0,
          texts_fine P own (reveal (length g) g) x.value (issued.readable.in_values x there) (issued.values_rise x there)
              (λ s m. digest_own s.digest (digest_issued (maker_of seed) o p g good issued s.digest (value_digest p g x s there m))) fine.1,
        )
