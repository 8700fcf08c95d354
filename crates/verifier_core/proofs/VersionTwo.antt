-- What a policy file of version 1 says, that of version 2 with the same members says.
use Rattle.std.proofs.Common.{◌≡◌, ◌≢◌, ◌⊎◌, inl, inr, ⊎_elim, ◌≤◌, pos, List, [], ◌∷◌, length, Bool, true, false, not, cond, bytes_eq, Option, Some, None, codes, refl, sym, ap, subst, ◌∙◌, arith}
use Rattle.std.specs.List.{list_any}
use Rattle.std.proofs.lemmas.Bool.{or_left, or_right}
use Rattle.sd_outside.specs.Limits.{age_max, binding_text_max, file_max, skew_max}
use Rattle.claim_tree.specs.Tree.{Text, leaf, whole, array, object, Tree, no_elements, element, Members, no_members, member, members_len, names, member_named}
use Rattle.sd_outside.specs.Lists.{In}
use Rattle.claim_tree.specs.TreeValues.{IsText, IsTexts, IsWholeUpTo, text_elements, Says, MaySay, SaysOr}
use Rattle.file_members.specs.FileForms.{found, is_known, has_unknown}
use Rattle.file_members.specs.declared.field.Field.TheVariants.{Version, Iss, Binding}
use Rattle.file_members.proofs.FileVerdicts as verdicts
use Rattle.sd_outside.proofs.Lists.{bytes_same, bytes_refl, list_any-In}
use Rattle.hmac_sign.specs.Keys.{IsKeySet}
use Rattle.key_binding.specs.ShortText.{IsShortText}
use Rattle.key_binding.specs.declared.policy.BindingPolicy.{BindingPolicy}
use Rattle.verifier_core.specs.PolicyFile.{IsBindingPolicy, policy_fields, IsPolicyFile}
use Rattle.verifier_core.specs.PolicyVersion.{IsVersion, IsIssuers, IsAudiences}
use Rattle.verifier_core.specs.VersionTwo.{as_list, ListsAudience, BindingListed, SaysInTwo}
use Rattle.verifier_core.specs.declared.policy.Policy.{Policy}
use Rattle.verifier_core.specs.declared.policy_version.PolicyVersion.{PolicyVersion}
use Rattle.verifier_core.proofs.PolicyFaults.{says_as, one_reading}
use Rattle.verifier_core.proofs.Policies.{one_policy}

-- ---- names

named : (ms : Members) (name : Text) → In name (names ms) → (t : Tree) × (member_named ms name ≡ Some t)
named no_members name h = absurd h
named (member other u ms) name h = go (bytes_eq other name) refl h (named ms name)
  where
    go : (b : Bool) → bytes_eq other name ≡ b → (name ≡ other) ⊎ In name (names ms) → (In name (names ms) → (t : Tree) × (member_named ms name ≡ Some t)) → (t : Tree) × (cond b (Some u) (member_named ms name) ≡ Some t)
    go true is at rest = (u, refl)
    go false is (inl same) rest = let clash : true ≡ false = sym (bytes_refl other name (sym same)) ∙ is in absurd (cc clash)
    go false is (inr at) rest = rest at

has_name : (ms : Members) (name : Text) (t : Tree) → member_named ms name ≡ Some t → In name (names ms)
has_name no_members name t h = absurd (cc h)
has_name (member other u ms) name t h = go (bytes_eq other name) refl h (has_name ms name t)
  where
    go : (b : Bool) → bytes_eq other name ≡ b → cond b (Some u) (member_named ms name) ≡ Some t → (member_named ms name ≡ Some t → In name (names ms)) → (name ≡ other) ⊎ In name (names ms)
    go true is e rest = inl (sym (bytes_same other name is))
    go false is e rest = inr (rest e)

any_of : (p : Text → Bool) (xs : List Text) (x : Text) → In x xs → p x ≡ true → list_any p xs ≡ true
any_of p [] x at h = absurd at
any_of p (z ∷ xs) x (inl same) h = or_left (p z) (list_any p xs) (ap p (sym same) ∙ h)
any_of p (z ∷ xs) x (inr at) h = or_right (p z) (list_any p xs) (any_of p xs x at h)

abbrev known : Text → Bool
known name = is_known policy_fields name

-- a name of known members is known
is_known_name : (ms : Members) (name : Text) → has_unknown policy_fields ms ≡ false → In name (names ms) → known name ≡ true
is_known_name ms name none at = go (known name) refl
  where
    go : (b : Bool) → known name ≡ b → known name ≡ true
    go true is = is
    go false is = let clash : false ≡ true = sym none ∙ any_of (λ other. not (known other)) (names ms) name at (ap not is) in absurd (cc clash)

apart : (a b : Text) → (a ≡ b) ⊎ (a ≢ b)
apart a b = go (bytes_eq a b) refl
  where
    go : (c : Bool) → bytes_eq a b ≡ c → (a ≡ b) ⊎ (a ≢ b)
    go true is = inl (bytes_same a b is)
    go false is = inr (λ same. let clash : false ≡ true = sym is ∙ bytes_refl a b same in cc clash)

differ : (a b : Text) → bytes_eq a b ≡ false → a ≢ b
differ a b is same = let clash : false ≡ true = sym is ∙ bytes_refl a b same in cc clash

-- ---- members that are listed

listed_issuers : (member : Option Tree) (issuers : Option (List Text)) → MaySay (IsIssuers PolicyVersion.One) member issuers → MaySay (IsIssuers PolicyVersion.Two) (as_list member) issuers
listed_issuers None None h = h
listed_issuers None (Some issuers) h = h
listed_issuers (Some t) None h = h
listed_issuers (Some t) (Some issuers) h =
    let texts : array (element t no_elements) ≡ array (text_elements issuers) = ap (λ u. array (element u no_elements)) h.1 ∙ ap (λ list. array (text_elements list)) (sym h.2) in
    (texts, omega (arith, ap length h.2))

listed_audiences : (member : Option Tree) (audiences : List Text) → Says (IsAudiences PolicyVersion.One) member audiences → Says (IsAudiences PolicyVersion.Two) (as_list member) audiences
listed_audiences None audiences h = h
listed_audiences (Some t) audiences h =
    let texts : array (element t no_elements) ≡ array (text_elements audiences) = ap (λ u. array (element u no_elements)) h.1.is ∙ ap (λ list. array (text_elements list)) (sym h.2) in
    let short : (s : Text) → In s (h.0 ∷ []) → length s ≤ binding_text_max = λ s. ⊎_elim (λ same. subst (λ z. length z ≤ binding_text_max) (sym same) h.1.short) (λ none. absurd none) in
    (texts, record { some = omega (arith, ap length h.2); few = omega (arith, ap length h.2); short = subst (λ list. (s : Text) → In s list → length s ≤ binding_text_max) (sym h.2) short })

listed_binding : (one two : Tree) (binding : BindingPolicy) → ListsAudience one two → IsBindingPolicy PolicyVersion.One one binding → IsBindingPolicy PolicyVersion.Two two binding
listed_binding one two binding lists h =
    let both : object lists.members ≡ object h.members = sym lists.is ∙ h.is in
    let same : lists.members ≡ h.members = cc both in
    let of : (name : Text) → name ≢ codes "aud" → member_named lists.others name ≡ member_named h.members name = λ name other. lists.same name other ∙ ap (λ ms. member_named ms name) same in
    record {
      members = lists.others;
      is = lists.other_is;
      four = lists.as_many ∙ (ap members_len same ∙ h.four);
      aud = subst (λ o. Says (IsAudiences PolicyVersion.Two) o binding.aud) (sym (lists.aud ∙ ap (λ ms. as_list (member_named ms (codes "aud"))) same)) (listed_audiences (member_named h.members (codes "aud")) binding.aud h.aud);
      nonce = subst (λ o. Says IsShortText o binding.nonce) (sym (of (codes "nonce") (differ (codes "nonce") (codes "aud") refl))) h.nonce;
      keys = subst (λ o. Says IsKeySet o binding.keys) (sym (of (codes "keys") (differ (codes "keys") (codes "aud") refl))) h.keys;
      max_age = subst (λ o. Says (IsWholeUpTo age_max) o binding.max_age) (sym (of (codes "max_age") (differ (codes "max_age") (codes "aud") refl))) h.max_age;
    }

may_list : (member other : Option Tree) (binding : Option BindingPolicy) → BindingListed member other → MaySay (IsBindingPolicy PolicyVersion.One) member binding → MaySay (IsBindingPolicy PolicyVersion.Two) other binding
may_list None other binding lists h = subst (λ o. MaySay (IsBindingPolicy PolicyVersion.Two) o binding) (sym lists) (go binding h)
  where
    go : (b : Option BindingPolicy) → MaySay (IsBindingPolicy PolicyVersion.One) None b → MaySay (IsBindingPolicy PolicyVersion.Two) None b
    go None none = none
    go (Some x) none = none
may_list (Some one) other binding lists h = subst (λ o. MaySay (IsBindingPolicy PolicyVersion.Two) o binding) (sym lists.1) (go binding h)
  where
    go : (b : Option BindingPolicy) → MaySay (IsBindingPolicy PolicyVersion.One) (Some one) b → MaySay (IsBindingPolicy PolicyVersion.Two) (Some lists.0) b
    go None none = none
    go (Some x) is = listed_binding one lists.0 x lists.2 is

-- ---- the file

module _ (one two : Text) (policy : Policy) (short : length two ≤ file_max) (says : SaysInTwo one two) (h : IsPolicyFile one policy) where
  same_members : says.members ≡ h.members
  same_members = verdicts.one_object file_max one says.members h.members (record { short = h.file.object.short; reads = says.reads }) h.file.object

  of : (name : Text) → name ≢ codes "version" → name ≢ codes "iss" → name ≢ codes "binding" → member_named says.others name ≡ member_named h.members name
  of name a b c = says.same name a b c ∙ ap (λ ms. member_named ms name) same_members

  version_is : h.version ≡ PolicyVersion.One
  version_is = one_reading (found h.members Version) h.version PolicyVersion.One (says_as (found h.members Version) h.version h.version_is) (subst (λ ms. found ms Version ≢ Some (leaf (whole (pos 2)))) same_members says.first)

  known_name : (name : Text) → In name (names says.others) → known name ≡ true
  known_name name at =
      ⊎_elim (λ is. ap known is)
      (λ a. ⊎_elim (λ is. ap known is)
      (λ b. ⊎_elim (λ is. ap known is)
      (λ c.
      let there = named says.others name at in
      is_known_name h.members name h.file.known (has_name h.members name there.0 (sym (of name a b c) ∙ there.1)))
      (apart name (codes "binding"))) (apart name (codes "iss"))) (apart name (codes "version"))

  all_known : has_unknown policy_fields says.others ≡ false
  all_known = go (has_unknown policy_fields says.others) refl
    where
      go : (b : Bool) → has_unknown policy_fields says.others ≡ b → has_unknown policy_fields says.others ≡ false
      go false is = is
      go true is =
          let w = list_any-In (λ name. not (known name)) (names says.others) is in
          let clash : false ≡ true = sym (ap not (known_name w.0 w.1)) ∙ w.2 in
          absurd (cc clash)

  pub says_in_two : IsPolicyFile two policy
  says_in_two = record {
    members = says.others;
    file = record { object = record { short = short; reads = says.other_reads }; known = all_known };
    version = PolicyVersion.Two;
    version_is = subst (λ o. SaysOr IsVersion PolicyVersion.One o PolicyVersion.Two) (sym says.second) refl;
    keys = subst (λ o. Says IsKeySet o policy.keys) (sym (of (codes "keys") (differ (codes "keys") (codes "version") refl) (differ (codes "keys") (codes "iss") refl) (differ (codes "keys") (codes "binding") refl))) h.keys;
    algs = subst (λ o. SaysOr IsTexts (codes "HS256" ∷ []) o policy.algs) (sym (of (codes "algs") (differ (codes "algs") (codes "version") refl) (differ (codes "algs") (codes "iss") refl) (differ (codes "algs") (codes "binding") refl))) h.algs;
    typ = subst (λ o. MaySay IsText o policy.typ) (sym (of (codes "typ") (differ (codes "typ") (codes "version") refl) (differ (codes "typ") (codes "iss") refl) (differ (codes "typ") (codes "binding") refl))) h.typ;
    iss = subst (λ o. MaySay (IsIssuers PolicyVersion.Two) o policy.iss) (sym (says.iss ∙ ap (λ ms. as_list (found ms Iss)) same_members))
        (listed_issuers (found h.members Iss) policy.iss (subst (λ v. MaySay (IsIssuers v) (found h.members Iss) policy.iss) version_is h.iss));
    require = subst (λ o. SaysOr IsTexts [] o policy.require) (sym (of (codes "require") (differ (codes "require") (codes "version") refl) (differ (codes "require") (codes "iss") refl) (differ (codes "require") (codes "binding") refl))) h.require;
    skew = subst (λ o. SaysOr (IsWholeUpTo skew_max) 0 o policy.skew) (sym (of (codes "skew") (differ (codes "skew") (codes "version") refl) (differ (codes "skew") (codes "iss") refl) (differ (codes "skew") (codes "binding") refl))) h.skew;
    binding = may_list (found h.members Binding) (found says.others Binding) policy.binding (subst (λ ms. BindingListed (found ms Binding) (found says.others Binding)) same_members says.binding)
        (subst (λ v. MaySay (IsBindingPolicy v) (found h.members Binding) policy.binding) version_is h.binding);
  }

  pub same_policy : (other : Policy) → IsPolicyFile two other → policy ≡ other
  same_policy other k = one_policy two policy other says_in_two k
