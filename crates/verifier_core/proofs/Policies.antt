-- A file says one policy, or is refused.
use Rattle.std.proofs.Common.{◌≡◌, ◌≢◌, ℕ, List, [], ◌∷◌, Option, codes, ap, subst, ◌∙◌}
use Rattle.sd_outside.specs.Limits.{file_max, skew_max}
use Rattle.claim_tree.specs.Tree.{Text}
use Rattle.claim_tree.specs.TreeValues.{IsText, IsTexts, IsWholeUpTo, Says, MaySay, SaysOr}
use Rattle.file_members.specs.FileForms.{found}
use Rattle.file_members.specs.declared.field.Field.TheVariants.{Version, Keys, Algs, Typ, Iss, Require, Skew, Binding}
use Rattle.file_members.specs.declared.file_fault.FileFault.{FileFault}
use Rattle.file_members.proofs.FileMembers.{says_meets, may_say_meets, says_or_meets}
use Rattle.claim_tree.proofs.TreeValues as values
use Rattle.file_members.proofs.FileVerdicts as verdicts
use Rattle.hmac_sign.specs.Keys.{IsKeySet}
use Rattle.hmac_sign.specs.declared.key_set.NamedKey.{NamedKey}
use Rattle.hmac_sign.proofs.KeySetVerdicts.{one_key_set}
use Rattle.verifier_core.specs.PolicyFile.{IsBindingPolicy, policy_table, IsPolicyFile, IsPolicyFileRefused}
use Rattle.key_binding.specs.declared.policy.BindingPolicy.{BindingPolicy}
use Rattle.verifier_core.specs.declared.policy.Policy.{Policy}
use Rattle.verifier_core.specs.PolicyVersion.{IsVersion, IsIssuers}
use Rattle.verifier_core.specs.declared.policy_version.PolicyVersion.{PolicyVersion}
use Rattle.verifier_core.proofs.BindingPolicies.{one_binding}
use Rattle.verifier_core.proofs.PolicyVersions.{one_version, one_issuers}
use Rattle.verifier_core.proofs.PolicyFaults.{says_as, to_table, both_refused}

made : List NamedKey → List Text → Option Text → Option (List Text) → List Text → ℕ → Option BindingPolicy → Policy
made keys algs typ iss require skew binding = record { keys = keys; algs = algs; typ = typ; iss = iss; require = require; skew = skew; binding = binding }

pub one_policy : (bytes : Text) (p q : Policy) → IsPolicyFile bytes p → IsPolicyFile bytes q → p ≡ q
unfolding made
one_policy bytes p q h k =
    let same : h.members ≡ k.members = verdicts.one_object file_max bytes h.members k.members h.file.object k.file.object in
    let ms = k.members in
    let version : h.version ≡ k.version = values.says_or_one IsVersion PolicyVersion.One (found ms Version) h.version k.version one_version (subst (λ ns. SaysOr IsVersion PolicyVersion.One (found ns Version) h.version) same h.version_is) k.version_is in
    let keys : p.keys ≡ q.keys = values.says_one IsKeySet (found ms Keys) p.keys q.keys one_key_set (subst (λ ns. Says IsKeySet (found ns Keys) p.keys) same h.keys) k.keys in
    let algs : p.algs ≡ q.algs = values.says_or_one IsTexts (codes "HS256" ∷ []) (found ms Algs) p.algs q.algs values.one_texts (subst (λ ns. SaysOr IsTexts (codes "HS256" ∷ []) (found ns Algs) p.algs) same h.algs) k.algs in
    let typ : p.typ ≡ q.typ = values.may_say_one IsText (found ms Typ) p.typ q.typ values.one_text (subst (λ ns. MaySay IsText (found ns Typ) p.typ) same h.typ) k.typ in
    let iss : p.iss ≡ q.iss = values.may_say_one (IsIssuers k.version) (found ms Iss) p.iss q.iss (one_issuers k.version) (subst (λ v. MaySay (IsIssuers v) (found ms Iss) p.iss) version (subst (λ ns. MaySay (IsIssuers h.version) (found ns Iss) p.iss) same h.iss)) k.iss in
    let require : p.require ≡ q.require = values.says_or_one IsTexts [] (found ms Require) p.require q.require values.one_texts (subst (λ ns. SaysOr IsTexts [] (found ns Require) p.require) same h.require) k.require in
    let skew : p.skew ≡ q.skew = values.says_or_one (IsWholeUpTo skew_max) 0 (found ms Skew) p.skew q.skew (values.one_whole skew_max) (subst (λ ns. SaysOr (IsWholeUpTo skew_max) 0 (found ns Skew) p.skew) same h.skew) k.skew in
    let binding : p.binding ≡ q.binding = values.may_say_one (IsBindingPolicy k.version) (found ms Binding) p.binding q.binding (one_binding k.version) (subst (λ v. MaySay (IsBindingPolicy v) (found ms Binding) p.binding) version (subst (λ ns. MaySay (IsBindingPolicy h.version) (found ns Binding) p.binding) same h.binding)) k.binding in
    ap (λ x. made x p.algs p.typ p.iss p.require p.skew p.binding) keys
    ∙ (ap (λ x. made q.keys x p.typ p.iss p.require p.skew p.binding) algs
    ∙ (ap (λ x. made q.keys q.algs x p.iss p.require p.skew p.binding) typ
    ∙ (ap (λ x. made q.keys q.algs q.typ x p.require p.skew p.binding) iss
    ∙ (ap (λ x. made q.keys q.algs q.typ q.iss x p.skew p.binding) require
    ∙ (ap (λ x. made q.keys q.algs q.typ q.iss q.require x p.binding) skew
    ∙ ap (λ x. made q.keys q.algs q.typ q.iss q.require q.skew x) binding)))))

pub not_both : (bytes : Text) (policy : Policy) (fault : FileFault) → IsPolicyFile bytes policy → IsPolicyFileRefused bytes fault → fault ≡ FileFault.Memory
not_both bytes policy fault says refused =
    let ms = says.members in
    let version = says_or_meets IsVersion PolicyVersion.One Version ms says.version says.version_is in
    let keys = says_meets IsKeySet Keys ms policy.keys says.keys in
    let algs = says_or_meets IsTexts (codes "HS256" ∷ []) Algs ms policy.algs says.algs in
    let typ = may_say_meets IsText Typ ms policy.typ says.typ in
    let iss = may_say_meets (IsIssuers says.version) Iss ms policy.iss says.iss in
    let require = says_or_meets IsTexts [] Require ms policy.require says.require in
    let skew = says_or_meets (IsWholeUpTo skew_max) 0 Skew ms policy.skew says.skew in
    let binding = may_say_meets (IsBindingPolicy says.version) Binding ms policy.binding says.binding in
    verdicts.not_refused file_max (policy_table says.version) bytes ms fault says.file (version, (keys, (algs, (typ, (iss, (require, (skew, (binding, tt))))))))
    (to_table says.version bytes ms says.file (says_as (found ms Version) says.version says.version_is) fault refused)

pub one_fault : (bytes : Text) (fault other : FileFault) → IsPolicyFileRefused bytes fault → IsPolicyFileRefused bytes other → fault ≢ FileFault.Memory → other ≢ FileFault.Memory → fault ≡ other
one_fault bytes fault other h k = let both = both_refused bytes fault other h k in verdicts.one_fault file_max (policy_table both.0) bytes fault other both.1 both.2
