-- A policy file is judged by the table of its version.
use Rattle.std.proofs.Common.{◌≡◌, ◌↔◌, ℕ, suc, pos, List, take, drop, codes, [], ◌∷◌, ◌++◌, Option, Some, None, refl, sym, ap, subst, ◌∙◌}
use Rattle.sd_outside.specs.Limits.{file_max, skew_max}
use Rattle.claim_tree.specs.Tree.{Text, leaf, whole, Tree, Members}
use Rattle.claim_tree.specs.TreeValues.{IsText, IsTexts, IsWholeUpTo, Says, MaySay, SaysOr}
use Rattle.file_members.specs.FileForms.{MemberMeets, Entry, required, optional, fields_of, found, MemberFails, missing, wrong, IsFirstFault, HasFirstFault, HasMembers, IsFileRefused}
use Rattle.file_members.specs.FileRefusals.{IsMemberRefused}
use Rattle.file_members.specs.declared.field.Field.TheVariants.{Version, Keys, Algs, Typ, Iss, Require, Skew, Binding}
use Rattle.file_members.specs.declared.file_fault.FileFault.{FileFault}
use Rattle.file_members.specs.declared.file_fault.FileFault.TheVariants.{Memory, TooLong, NotJson, NotWhole, NotObject, Unknown, Missing, Wrong}
use Rattle.file_members.proofs.FileMembers.{AllMeet, member_refused, says_meets, may_say_meets, says_or_meets}
use Rattle.file_members.proofs.FileVerdicts as verdicts
use Rattle.hmac_sign.specs.Keys.{IsKeySet}
use Rattle.hmac_sign.specs.declared.key_set.NamedKey.{NamedKey}
use Rattle.verifier_core.specs.PolicyFile.{IsBindingPolicy, policy_table, policy_fields, IsReadAs, HasPolicyFault, IsPolicyFileRefused}
use Rattle.verifier_core.specs.PolicyVersion.{IsVersion, IsIssuers}
use Rattle.verifier_core.specs.declared.policy_version.PolicyVersion.{PolicyVersion}

-- ---- the version

-- what says its version is read as it
pub says_as : (o : Option Tree) (version : PolicyVersion) → SaysOr IsVersion PolicyVersion.One o version → IsReadAs version o
says_as None PolicyVersion.One h = λ e. cc e
says_as None PolicyVersion.Two h = absurd (cc h)
says_as (Some t) PolicyVersion.One h = λ e. let both : Some (leaf (whole (pos 1))) ≡ Some (leaf (whole (pos 2))) = ap Some (sym h) ∙ e in cc both
says_as (Some t) PolicyVersion.Two h = ap Some h

pub one_reading : (o : Option Tree) (v w : PolicyVersion) → IsReadAs v o → IsReadAs w o → v ≡ w
one_reading o PolicyVersion.One PolicyVersion.One h k = refl
one_reading o PolicyVersion.Two PolicyVersion.Two h k = refl
one_reading o PolicyVersion.One PolicyVersion.Two h k = absurd (h k)
one_reading o PolicyVersion.Two PolicyVersion.One h k = absurd (k h)

-- a member that is no version is not the second
odd_version : (ms : Members) (fault : FileFault) → MemberFails (optional Version IsVersion) ms fault → IsReadAs PolicyVersion.One (found ms Version)
odd_version ms fault (missing none must is) = λ e. let both : None ≡ Some (leaf (whole (pos 2))) = sym none ∙ e in cc both
odd_version ms fault (wrong t there odd is) = λ e.
    let both : Some t ≡ Some (leaf (whole (pos 2))) = sym there ∙ e in
    let same : t ≡ leaf (whole (pos 2)) = cc both in
    odd (PolicyVersion.Two, same)

-- ---- from the table to the file, and back

module _ (version : PolicyVersion) (bytes : Text) (ms : Members) (file : HasMembers file_max policy_fields bytes ms) (read_as : IsReadAs version (found ms Version)) where
  read_there : (ns : Members) → HasMembers file_max policy_fields bytes ns → IsReadAs version (found ns Version)
  read_there ns there = subst (λ us. IsReadAs version (found us Version)) (verdicts.one_object file_max bytes ms ns file.object there.object) read_as

  to_file : (fault : FileFault) → HasFirstFault file_max (policy_table version) bytes fault → HasPolicyFault bytes fault
  to_file fault h = record { members = h.members; file = h.file; version = version; read_as = read_there h.members h.file; first = h.first }

  from_file : (fault : FileFault) → HasPolicyFault bytes fault → HasFirstFault file_max (policy_table version) bytes fault
  from_file fault h =
      let version_is : h.version ≡ version = one_reading (found h.members Version) h.version version h.read_as (read_there h.members h.file) in
      record { members = h.members; file = h.file; first = subst (λ v. IsFirstFault (policy_table v) h.members fault) version_is h.first }

  table_file : (fault : FileFault) → IsFileRefused file_max (policy_table version) bytes fault ↔ IsPolicyFileRefused bytes fault
  table_file Memory = (λ h. h, λ h. h)
  table_file TooLong = (λ h. h, λ h. h)
  table_file NotJson = (λ h. h, λ h. h)
  table_file NotWhole = (λ h. h, λ h. h)
  table_file NotObject = (λ h. h, λ h. h)
  table_file Unknown = (λ h. h, λ h. h)
  table_file (Missing field) = (to_file (Missing field), from_file (Missing field))
  table_file (Wrong field) = (to_file (Wrong field), from_file (Wrong field))

  by_table : (fault : FileFault) → IsFileRefused file_max (policy_table version) bytes fault → IsPolicyFileRefused bytes fault
  by_table fault = (table_file fault).0

  pub to_table : (fault : FileFault) → IsPolicyFileRefused bytes fault → IsFileRefused file_max (policy_table version) bytes fault
  to_table fault = (table_file fault).1

-- the entries behind the version
abbrev pub rest_of : PolicyVersion → List Entry
rest_of version = drop 1 (policy_table version)

behind : (bytes : Text) (ms : Members) (fault : FileFault) → HasMembers file_max policy_fields bytes ms → MemberFails (optional Version IsVersion) ms fault → IsMemberRefused (optional Version IsVersion) ms fault → IsPolicyFileRefused bytes fault
behind bytes ms fault file fails refused =
    by_table PolicyVersion.One bytes ms file (odd_version ms fault fails) fault (member_refused file_max [] (optional Version IsVersion) (rest_of PolicyVersion.One) bytes ms fault file tt refused)

-- a version that is refused is the fault of the file
pub by_version : (bytes : Text) (ms : Members) (fault : FileFault) → HasMembers file_max policy_fields bytes ms → IsMemberRefused (optional Version IsVersion) ms fault → IsPolicyFileRefused bytes fault
by_version bytes ms Memory file refused = tt
by_version bytes ms TooLong file refused = behind bytes ms TooLong file refused refused
by_version bytes ms NotJson file refused = behind bytes ms NotJson file refused refused
by_version bytes ms NotWhole file refused = behind bytes ms NotWhole file refused refused
by_version bytes ms NotObject file refused = behind bytes ms NotObject file refused refused
by_version bytes ms Unknown file refused = behind bytes ms Unknown file refused refused
by_version bytes ms (Missing field) file refused = behind bytes ms (Missing field) file refused refused
by_version bytes ms (Wrong field) file refused = behind bytes ms (Wrong field) file refused refused

-- an entry behind the version that is refused, behind others that meet theirs, is the fault of the file
by_entry : (v : PolicyVersion) (bytes : Text) (ms : Members) (front : List Entry) (entry : Entry) (rest : List Entry) (fault : FileFault) → front ++ entry ∷ rest ≡ rest_of v
    → HasMembers file_max policy_fields bytes ms → SaysOr IsVersion PolicyVersion.One (found ms Version) v → AllMeet front ms → IsMemberRefused entry ms fault → IsPolicyFileRefused bytes fault
by_entry v bytes ms front entry rest fault same file says meet refused =
    let version = optional Version IsVersion in
    let meets = says_or_meets IsVersion PolicyVersion.One Version ms v says in
    let known = subst (λ table. HasMembers file_max (fields_of (version ∷ table)) bytes ms) (sym same) file in
    let behind_front = member_refused file_max (version ∷ front) entry rest bytes ms fault known (meets, meet) refused in
    by_table v bytes ms file (says_as (found ms Version) v says) fault (subst (λ table. IsFileRefused file_max (version ∷ table) bytes fault) same behind_front)

-- ---- one entry after another

module _ (v : PolicyVersion) (bytes : Text) (ms : Members) (file : HasMembers file_max policy_fields bytes ms) (version_says : SaysOr IsVersion PolicyVersion.One (found ms Version) v) where
  -- a refusal of the entry is the fault of the file
  abbrev Refuses : Entry → Type 0
  Refuses entry = (fault : FileFault) → IsMemberRefused entry ms fault → IsPolicyFileRefused bytes fault

  at : (i : ℕ) (entry : Entry) → take i (rest_of v) ++ entry ∷ drop (suc i) (rest_of v) ≡ rest_of v → AllMeet (take i (rest_of v)) ms → Refuses entry
  at i entry same meet fault = by_entry v bytes ms (take i (rest_of v)) entry (drop (suc i) (rest_of v)) fault same file version_says meet

  pub at_keys : Refuses (required Keys IsKeySet)
  at_keys = at 0 (required Keys IsKeySet) refl tt

  module _ (keys : List NamedKey) (keys_say : Says IsKeySet (found ms Keys) keys) where
    keys_meet : MemberMeets (required Keys IsKeySet) ms
    keys_meet = says_meets IsKeySet Keys ms keys keys_say

    pub at_algs : Refuses (optional Algs IsTexts)
    at_algs = at 1 (optional Algs IsTexts) refl (keys_meet, tt)

    module _ (algs : List Text) (algs_say : SaysOr IsTexts (codes "HS256" ∷ []) (found ms Algs) algs) where
      algs_meet : MemberMeets (optional Algs IsTexts) ms
      algs_meet = says_or_meets IsTexts (codes "HS256" ∷ []) Algs ms algs algs_say

      pub at_typ : Refuses (optional Typ IsText)
      at_typ = at 2 (optional Typ IsText) refl (keys_meet, (algs_meet, tt))

      module _ (typ : Option Text) (typ_says : MaySay IsText (found ms Typ) typ) where
        typ_meets : MemberMeets (optional Typ IsText) ms
        typ_meets = may_say_meets IsText Typ ms typ typ_says

        pub at_iss : Refuses (optional Iss (IsIssuers v))
        at_iss = at 3 (optional Iss (IsIssuers v)) refl (keys_meet, (algs_meet, (typ_meets, tt)))

        module _ (iss : Option (List Text)) (iss_says : MaySay (IsIssuers v) (found ms Iss) iss) where
          iss_meets : MemberMeets (optional Iss (IsIssuers v)) ms
          iss_meets = may_say_meets (IsIssuers v) Iss ms iss iss_says

          pub at_require : Refuses (optional Require IsTexts)
          at_require = at 4 (optional Require IsTexts) refl (keys_meet, (algs_meet, (typ_meets, (iss_meets, tt))))

          module _ (require : List Text) (require_says : SaysOr IsTexts [] (found ms Require) require) where
            require_meets : MemberMeets (optional Require IsTexts) ms
            require_meets = says_or_meets IsTexts [] Require ms require require_says

            pub at_skew : Refuses (optional Skew (IsWholeUpTo skew_max))
            at_skew = at 5 (optional Skew (IsWholeUpTo skew_max)) refl (keys_meet, (algs_meet, (typ_meets, (iss_meets, (require_meets, tt)))))

            pub at_binding : (skew : ℕ) → SaysOr (IsWholeUpTo skew_max) 0 (found ms Skew) skew → Refuses (optional Binding (IsBindingPolicy v))
            at_binding skew skew_says =
                let skew_meets = says_or_meets (IsWholeUpTo skew_max) 0 Skew ms skew skew_says in
                at 6 (optional Binding (IsBindingPolicy v)) refl (keys_meet, (algs_meet, (typ_meets, (iss_meets, (require_meets, (skew_meets, tt))))))

-- ---- two faults

-- two refusals of a file are by the table of one version
abbrev BothRefused : Text → FileFault → FileFault → Type 0
BothRefused bytes fault other = (version : PolicyVersion) × IsFileRefused file_max (policy_table version) bytes fault × IsFileRefused file_max (policy_table version) bytes other

with_other : (bytes : Text) (fault other : FileFault) → ((version : PolicyVersion) → IsFileRefused file_max (policy_table version) bytes fault) → IsPolicyFileRefused bytes other → BothRefused bytes fault other
with_other bytes fault Memory h k = (PolicyVersion.One, h PolicyVersion.One, k)
with_other bytes fault TooLong h k = (PolicyVersion.One, h PolicyVersion.One, k)
with_other bytes fault NotJson h k = (PolicyVersion.One, h PolicyVersion.One, k)
with_other bytes fault NotWhole h k = (PolicyVersion.One, h PolicyVersion.One, k)
with_other bytes fault NotObject h k = (PolicyVersion.One, h PolicyVersion.One, k)
with_other bytes fault Unknown h k = (PolicyVersion.One, h PolicyVersion.One, k)
with_other bytes fault (Missing field) h k = (k.version, h k.version, record { members = k.members; file = k.file; first = k.first })
with_other bytes fault (Wrong field) h k = (k.version, h k.version, record { members = k.members; file = k.file; first = k.first })

pub both_refused : (bytes : Text) (fault other : FileFault) → IsPolicyFileRefused bytes fault → IsPolicyFileRefused bytes other → BothRefused bytes fault other
both_refused bytes Memory other h k = with_other bytes Memory other (λ version. h) k
both_refused bytes TooLong other h k = with_other bytes TooLong other (λ version. h) k
both_refused bytes NotJson other h k = with_other bytes NotJson other (λ version. h) k
both_refused bytes NotWhole other h k = with_other bytes NotWhole other (λ version. h) k
both_refused bytes NotObject other h k = with_other bytes NotObject other (λ version. h) k
both_refused bytes Unknown other h k = with_other bytes Unknown other (λ version. h) k
both_refused bytes (Missing field) other h k = (h.version, record { members = h.members; file = h.file; first = h.first }, to_table h.version bytes h.members h.file h.read_as other k)
both_refused bytes (Wrong field) other h k = (h.version, record { members = h.members; file = h.file; first = h.first }, to_table h.version bytes h.members h.file h.read_as other k)
